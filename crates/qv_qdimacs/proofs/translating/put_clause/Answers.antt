use Rattle.std.proofs.Common.{◌≡◌, ℕ, ◌+◌, false, List, [], map, take, sym, ap, subst, ◌∙◌, rules}
use Rattle.std.specs.Prelude.{All, IfOk}
use Rattle.qv_words.specs.Tree.{Tree}
use Rattle.qv_store.specs.Stores.{StandsAt}
use Rattle.qv_store.specs.Walks.{named}
use Rattle.qv_store.proofs.Replacement.{grows-more}
use Rattle.qv_qdimacs.specs.Translation.{joined, literal_tree}
use Rattle.qv_qdimacs.specs.Formulas.{IsFormulaAt}
use Rattle.qv_qdimacs.specs.Leaves.{leaf_in}
use Rattle.qv_qdimacs.proofs.Formed.{leaves-formula}
use Rattle.qv_qdimacs.proofs.Standing.{AreSoFar, so_far-none, so_far-more, so_far-each, so_far-all, item-at, formulas-of}
use Rattle.qv_qdimacs.proofs.Halves.{literal-formula}
use Rattle.qv_qdimacs.proofs.translating.put_clause.Goals as goal

pub lits-init : goal.lits-init
lits-init c =
    let none : c.in_ok-ids.ids.items ≡ [] = search rules in
    so_far-none (literal_tree (leaf_in c.args.places.now)) c.args.store.now c.in_ok-ids.ids.items c.args.clause.now none

pub lits-preserved : goal.lits-preserved
lits-preserved c =
    let f = literal_tree (leaf_in c.args.places.now) in
    subst (λ (ids : List ℕ). AreSoFar c.args.store.now c.put_literal.new.store ids (map f (take (c.lits.lit-index + 1) c.args.clause.now))) (sym c.in_ok-push.ensures.items)
    (so_far-more f c.args.store.now c.lits.store c.put_literal.new.store c.lits.ids.items c.args.clause.now c.lits.lit-index c.lit-item.result c.in_ok-id.id c.lits.invariant c.put_literal.ensures.grows
    (item-at c.args.clause.now c.lits.lit-index c.lit-item.result c.lits-test.true c.lit-item.is) c.in_ok-id.ensures.id)

pub put_joined-requires : goal.put_joined-requires
put_joined-requires c =
    let leaf = leaf_in c.args.places.now in
    let lits = take c.lits.lit-index c.args.clause.now in
    subst (λ (ids : List ℕ). All (IsFormulaAt c.lits.store) ids) (sym c.deref.ensures.value)
    (so_far-each c.args.store.now c.lits.store c.lits.ids.items (map (literal_tree leaf) lits) c.lits.invariant
    (formulas-of (literal_tree leaf) (literal-formula leaf (leaves-formula c.args.places.now)) lits))

pub returns-clause-id : goal.returns-clause-id
returns-clause-id c =
    subst (λ (ts : List Tree). IfOk c.put_joined.result (λ id. StandsAt c.put_joined.new.store id (joined false ts)))
    (ap (named c.lits.store) c.deref.ensures.value
    ∙ so_far-all (literal_tree (leaf_in c.args.places.now)) c.args.store.now c.lits.store c.lits.ids.items c.args.clause.now c.lits.lit-index c.lits.invariant c.lits-test.false)
    c.put_joined.ensures.id

pub returns-in_err-id-clause-grows : goal.returns-in_err-id-clause-grows
returns-in_err-id-clause-grows c = grows-more c.args.store.now c.lits.store c.put_literal.new.store c.lits.invariant.grows c.put_literal.ensures.grows

pub returns-in_err-push-clause-grows : goal.returns-in_err-push-clause-grows
returns-in_err-push-clause-grows c = grows-more c.args.store.now c.lits.store c.put_literal.new.store c.lits.invariant.grows c.put_literal.ensures.grows

pub returns-clause-grows : goal.returns-clause-grows
returns-clause-grows c = grows-more c.args.store.now c.lits.store c.put_joined.new.store c.lits.invariant.grows c.put_joined.ensures.grows
