use Rattle.std.proofs.Common.{◌≡◌, ◌<◌, ℕ, Option, List, length, ap, sym, ◌∙◌, subst}
use Rattle.std.specs.Prelude.{IfNone}
use Rattle.std.proofs.lemmas.List.Elements.{All-from_recursion}
use Rattle.qv_words.specs.Tree.{Apply}
use Rattle.qv_words.specs.Sums.{Polynomial, polynomials, terms_of, rebuilt}
use Rattle.qv_store.specs.Nodes.{trees_at}
use Rattle.qv_store.specs.Stores.{StandsAt}
use Rattle.qv_store.proofs.Replacement.{if-ok}
use Rattle.qv_rewrite_sums.specs.declared.summing.Sides.{Sides}
use Rattle.qv_rewrite_sums.proofs.Rebuilding.{zip-terms, zip-below, length-sums}
use Rattle.qv_rewrite_sums.proofs.Applying.{rebuilt-sorted}
use Rattle.qv_rewrite_sums.proofs.summing.rebuilt.Goals as goal

pub put-requires-clause-children : goal.put-requires-clause-children
put-requires-clause-children c =
    All-from_recursion (λ (child : ℕ). child < length c.terms_of.new.store) c.in_ok-terms-in-None.terms.items (zip-below c.args.store.now c.terms_of.new.store c.args.kids.now c.in_ok-terms-in-None.terms.items c.in_ok-terms-in-None.ensures.terms)

pub put-requires-clause-sorted : goal.put-requires-clause-sorted
put-requires-clause-sorted c =
    rebuilt-sorted c.args.store.now c.terms_of.new.store c.args.op c.args.kids.now c.in_ok-terms-in-None.terms.items c.len-terms.ensures.shared c.requires.application.sorted c.in_ok-terms-in-None.ensures.terms

pub returns-in_ok-terms-in-None-clause-id : goal.returns-in_ok-terms-in-None-clause-id
returns-in_ok-terms-in-None-clause-id c =
    let ts = trees_at c.args.store.now c.args.kids.now in
    let other : (ps : List Polynomial) → length ps ≡ length c.args.kids.now → rebuilt c.args.op ts ps ≡ Apply c.args.op (terms_of ts ps) =
    subst (λ (o : Option Sides). IfNone o ((ps : List Polynomial) → length ps ≡ length c.args.kids.now → rebuilt c.args.op ts ps ≡ Apply c.args.op (terms_of ts ps))) c.in-None.is c.word_sides.ensures.none in
    let whole = ap (Apply c.args.op) (zip-terms c.args.store.now c.terms_of.new.store c.args.kids.now c.in_ok-terms-in-None.terms.items c.in_ok-terms-in-None.ensures.terms)
    ∙ sym (other (polynomials ts) (length-sums c.args.store.now c.args.kids.now)) in
    if-ok c.put.result (λ made at. subst (StandsAt c.put.new.self made) whole at) c.put.ensures.id
