use Rattle.std.proofs.Common.{◌<◌, ℕ, length, ap, subst}
use Rattle.std.proofs.lemmas.List.Elements.{All-from_recursion}
use Rattle.qv_words.specs.Tree.{Apply}
use Rattle.qv_store.specs.Stores.{StandsAt}
use Rattle.qv_store.proofs.Replacement.{if-ok}
use Rattle.qv_rewrite_xors.proofs.Applying.{zip-terms, zip-below, rebuilt-sorted}
use Rattle.qv_rewrite_xors.proofs.xoring.rebuilt.Goals as goal

pub put-requires-clause-children : goal.put-requires-clause-children
put-requires-clause-children c =
    All-from_recursion (λ (child : ℕ). child < length c.terms_of.new.store) c.in_ok-terms.terms.items (zip-below c.args.store.now c.terms_of.new.store c.args.kids.now c.in_ok-terms.terms.items c.in_ok-terms.ensures.terms)

pub put-requires-clause-sorted : goal.put-requires-clause-sorted
put-requires-clause-sorted c =
    rebuilt-sorted c.args.store.now c.terms_of.new.store c.args.op c.args.kids.now c.in_ok-terms.terms.items c.len-terms.ensures.shared c.requires.application.sorted c.in_ok-terms.ensures.terms

pub returns-clause-id : goal.returns-clause-id
returns-clause-id c =
    let whole = ap (Apply c.args.op) (zip-terms c.args.store.now c.terms_of.new.store c.args.kids.now c.in_ok-terms.terms.items c.in_ok-terms.ensures.terms) in
    if-ok c.put.result (λ made at. subst (StandsAt c.put.new.self made) whole at) c.put.ensures.id
