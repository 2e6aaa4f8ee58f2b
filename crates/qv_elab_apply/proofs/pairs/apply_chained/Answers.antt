use Rattle.std.proofs.Common.{◌≡◌, true, map, length, ap, sym, subst, ◌∙◌}
use Rattle.std.specs.Prelude.{All}
use Rattle.std.specs.List.{list_all}
use Rattle.qv_words.specs.Rank.{sort_eq}
use Rattle.qv_store.specs.Nodes.{tree_at}
use Rattle.qv_store.specs.Walks.{named}
use Rattle.qv_elab_defs.specs.Applying.{sort_of, chained, conjunction}
use Rattle.qv_elab_apply.specs.Chained.{both_at, said_of, AreAlike, IsPairBelow}
use Rattle.qv_elab_apply.proofs.Paired.{are-alike_neighbours, are-below_neighbours}
use Rattle.qv_elab_apply.proofs.Conjoined.{chained-is, chained-tested}
use Rattle.qv_elab_apply.proofs.Applications.{answers-same}
use Rattle.qv_elab_apply.proofs.pairs.apply_chained.Goals as goal

pub conjoin-requires-clause-below : goal.conjoin-requires-clause-below
conjoin-requires-clause-below c =
    subst (All (IsPairBelow (length c.args.store.now))) (sym (c.deref.ensures.value ∙ c.in_ok-pairs.ensures)) (are-below_neighbours (length c.args.store.now) c.args.first c.args.others.now c.requires.first c.requires.others)

pub conjoin-requires-clause-alike : goal.conjoin-requires-clause-alike
conjoin-requires-clause-alike c =
    let tested : list_all (λ t. sort_eq c.sort.result (sort_of t)) (named c.args.store.now c.args.others.now) ≡ true = sym c.are_of_sort.ensures ∙ c.if-not-are_of_sort.false in
    subst (All (λ p. AreAlike (both_at c.args.store.now p))) (sym (c.deref.ensures.value ∙ c.in_ok-pairs.ensures))
    (are-alike_neighbours c.args.store.now c.args.first c.args.others.now (chained-tested (tree_at c.args.store.now c.args.first) c.sort.result (named c.args.store.now c.args.others.now) c.sort.ensures.sort tested))

pub returns-clause-answer : goal.returns-clause-answer
returns-clause-answer c =
    let trees = c.args.store.now in
    let tested : list_all (λ t. sort_eq c.sort.result (sort_of t)) (named c.args.store.now c.args.others.now) ≡ true = sym c.are_of_sort.ensures ∙ c.if-not-are_of_sort.false in
    let is = chained-is trees c.args.first c.args.others.now (chained-tested (tree_at trees c.args.first) c.sort.result (named trees c.args.others.now) c.sort.ensures.sort tested) in
    let pairs = c.deref.ensures.value ∙ c.in_ok-pairs.ensures in
    answers-same c.conjoin.new.store c.args.place (chained (tree_at trees c.args.first) (named trees c.args.others.now)) (conjunction (map (λ p. said_of true (both_at trees p)) c.deref.result.now))
    c.conjoin.result (is ∙ ap (λ ps. conjunction (map (λ p. said_of true (both_at trees p)) ps)) (sym pairs)) c.conjoin.ensures.answer
