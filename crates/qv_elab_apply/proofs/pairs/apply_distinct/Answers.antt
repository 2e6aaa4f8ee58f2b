use Rattle.std.proofs.Common.{◌<◌, false, map, length, ap, sym, subst, ◌∙◌, arith}
use Rattle.std.specs.Prelude.{All}
use Rattle.std.proofs.lemmas.List.{length-map}
use Rattle.qv_store.specs.Nodes.{tree_at}
use Rattle.qv_store.specs.Walks.{named}
use Rattle.qv_elab_defs.specs.Applying.{distinct, conjunction}
use Rattle.qv_elab_apply.specs.Chained.{both_at, said_of, AreAlike, IsPairBelow}
use Rattle.qv_elab_apply.proofs.Paired.{are-alike_pairs, are-below_pairs}
use Rattle.qv_elab_apply.proofs.Conjoined.{distinct-is, distinct-too_deep}
use Rattle.qv_elab_apply.proofs.Applications.{answers-same}
use Rattle.qv_elab_apply.proofs.pairs.apply_distinct.Goals as goal

pub returns-then-args-gt-MOST_DISTINCT-clause-answer :
    goal.returns-then-args-gt-MOST_DISTINCT-clause-answer
returns-then-args-gt-MOST_DISTINCT-clause-answer c =
    let many : 142 < length (named c.args.store.now c.args.args.now) = omega (arith, c.if-args-gt-MOST_DISTINCT.true, length-map c.args.args.now (tree_at c.args.store.now)) in
    distinct-too_deep c.args.place (named c.args.store.now c.args.args.now) (sym c.have_one_sort.ensures ∙ c.if-not-have_one_sort.false) many

pub conjoin-requires-clause-below : goal.conjoin-requires-clause-below
conjoin-requires-clause-below c =
    subst (All (IsPairBelow (length c.args.store.now))) (sym (c.deref.ensures.value ∙ c.in_ok-pairs.ensures)) (are-below_pairs (length c.args.store.now) c.args.args.now c.requires)

pub conjoin-requires-clause-alike : goal.conjoin-requires-clause-alike
conjoin-requires-clause-alike c =
    subst (All (λ p. AreAlike (both_at c.args.store.now p))) (sym (c.deref.ensures.value ∙ c.in_ok-pairs.ensures))
    (are-alike_pairs c.args.store.now c.args.args.now (sym c.have_one_sort.ensures ∙ c.if-not-have_one_sort.false))

pub returns-clause-answer : goal.returns-clause-answer
returns-clause-answer c =
    let trees = c.args.store.now in
    let is = distinct-is trees c.args.args.now (sym c.have_one_sort.ensures ∙ c.if-not-have_one_sort.false) in
    let pairs = c.deref.ensures.value ∙ c.in_ok-pairs.ensures in
    answers-same c.conjoin.new.store c.args.place (distinct (named trees c.args.args.now)) (conjunction (map (λ p. said_of false (both_at trees p)) c.deref.result.now))
    c.conjoin.result (is ∙ ap (λ ps. conjunction (map (λ p. said_of false (both_at trees p)) ps)) (sym pairs)) c.conjoin.ensures.answer
