use Rattle.std.proofs.Common.{◌≡◌, ◌≤◌, ℕ, ◌+◌, true, List, [], length, map, take, sym, ap, subst, ◌∙◌, rules}
use Rattle.std.specs.Prelude.{All, IfOk}
use Rattle.qv_words.specs.Tree.{Tree}
use Rattle.qv_store.specs.Stores.{StandsAt}
use Rattle.qv_store.specs.Walks.{named}
use Rattle.qv_store.proofs.Replacement.{grows-more}
use Rattle.qv_qdimacs.specs.Translation.{joined, clause_tree}
use Rattle.qv_qdimacs.specs.Formulas.{IsFormulaAt}
use Rattle.qv_qdimacs.specs.Leaves.{leaf_in}
use Rattle.qv_qdimacs.proofs.Formed.{leaves-formula}
use Rattle.qv_qdimacs.proofs.Standing.{AreSoFar, so_far-none, so_far-more, so_far-each, so_far-all, formulas-of}
use Rattle.qv_qdimacs.proofs.Halves.{clause-formula}
use Rattle.qv_qdimacs.proofs.translating.put_matrix.Goals as goal

pub clauses-init : goal.clauses-init
clauses-init c =
    let none : c.in_ok-ids.ids.items ≡ [] = search rules in
    so_far-none (clause_tree (leaf_in c.args.places.now)) c.args.store.now c.in_ok-ids.ids.items c.args.clauses.now none

pub clauses-preserved : goal.clauses-preserved
clauses-preserved c =
    let f = clause_tree (leaf_in c.args.places.now) in
    subst (λ (ids : List ℕ). AreSoFar c.args.store.now c.put_clause.new.store ids (map f (take (c.clauses.at + 1) c.args.clauses.now))) (sym c.in_ok-push.ensures.items)
    (so_far-more f c.args.store.now c.clauses.store c.put_clause.new.store c.clauses.ids.items c.args.clauses.now c.clauses.at c.get.result.now c.in_ok-id.id c.clauses.invariant c.put_clause.ensures.grows
    c.get.ensures c.in_ok-id.ensures.id)

pub put_joined-requires : goal.put_joined-requires
put_joined-requires c =
    let leaf = leaf_in c.args.places.now in
    let clauses = take c.clauses.at c.args.clauses.now in
    subst (λ (ids : List ℕ). All (IsFormulaAt c.clauses.store) ids) (sym c.deref.ensures.value)
    (so_far-each c.args.store.now c.clauses.store c.clauses.ids.items (map (clause_tree leaf) clauses) c.clauses.invariant
    (formulas-of (clause_tree leaf) (clause-formula leaf (leaves-formula c.args.places.now)) clauses))

pub returns-clause-id : goal.returns-clause-id
returns-clause-id c =
    let end : length c.args.clauses.now ≤ c.clauses.at = search rules in
    subst (λ (ts : List Tree). IfOk c.put_joined.result (λ id. StandsAt c.put_joined.new.store id (joined true ts)))
    (ap (named c.clauses.store) c.deref.ensures.value
    ∙ so_far-all (clause_tree (leaf_in c.args.places.now)) c.args.store.now c.clauses.store c.clauses.ids.items c.args.clauses.now c.clauses.at c.clauses.invariant end)
    c.put_joined.ensures.id

pub returns-in_err-id-clause-grows : goal.returns-in_err-id-clause-grows
returns-in_err-id-clause-grows c = grows-more c.args.store.now c.clauses.store c.put_clause.new.store c.clauses.invariant.grows c.put_clause.ensures.grows

pub returns-in_err-push-clause-grows : goal.returns-in_err-push-clause-grows
returns-in_err-push-clause-grows c = grows-more c.args.store.now c.clauses.store c.put_clause.new.store c.clauses.invariant.grows c.put_clause.ensures.grows

pub returns-clause-grows : goal.returns-clause-grows
returns-clause-grows c = grows-more c.args.store.now c.clauses.store c.put_joined.new.store c.clauses.invariant.grows c.put_joined.ensures.grows
