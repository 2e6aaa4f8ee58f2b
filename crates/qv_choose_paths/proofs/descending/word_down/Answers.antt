use Rattle.std.proofs.Common.{◌≡◌, Option, Some, sym, ap, ◌∙◌, subst}
use Rattle.qv_words.specs.declared.sort.Sort.{Sort}
use Rattle.qv_words.specs.Word.{word_sort}
use Rattle.qv_words.specs.Tree.{Variable, tree_sort}
use Rattle.qv_store.specs.Nodes.{tree_at}
use Rattle.qv_choose_paths.specs.declared.ways.Step.{Step}
use Rattle.qv_choose_paths.specs.Steps.{StepsDown, IsStep}
use Rattle.qv_choose_paths.proofs.GoingLaws.{word-over, word-goes}
use Rattle.qv_choose_paths.proofs.descending.word_down.Goals as goal

pub row_word-requires-clause-over : goal.row_word-requires-clause-over
row_word-requires-clause-over c =
    let down : StepsDown c.args.trial.now.sight.place c.args.store.now c.args.trial.now.sight.walk c.down.at c.in-Some.step =
    subst (λ (q : Option Step). IsStep c.args.trial.now.sight.place c.args.store.now c.args.trial.now.sight.walk c.down.at q) c.in-Some.is c.in_ok-step.ensures in
    word-over c.args.store.now c.args.trial.now.sight c.args.trial.now.words.items c.down.at c.in-Some.step c.down.target c.other_word-other.result c.requires.sorted down c.down.invariant.sort c.other_word-other.ensures

pub down-preserved : goal.down-preserved
down-preserved c =
    let down : StepsDown c.args.trial.now.sight.place c.args.store.now c.args.trial.now.sight.walk c.down.at c.in-Some.step =
    subst (λ (q : Option Step). IsStep c.args.trial.now.sight.place c.args.store.now c.args.trial.now.sight.walk c.down.at q) c.in-Some.is c.in_ok-step.ensures in
    record {
      at = down.next;
      way = down.way;
      sort = sym down.sort ∙ c.in_ok-target.ensures.sort;
      goes = λ point t words ht.
          word-goes c.args.store.now c.args.trial.now.sight c.args.trial.now.words.items c.args.id c.down.at c.in-Some.step c.down.target c.other_word-other.result c.in_ok-target.target point t down c.other_word-other.ensures c.in_ok-target.ensures.word words
          (c.down.invariant.goes point t words ht);
    }

pub down-preserved-in_ok-target : goal.down-preserved-in_ok-target
down-preserved-in_ok-target c =
    let down : StepsDown c.args.trial.now.sight.place c.args.store.now c.args.trial.now.sight.walk c.down.at c.in-Some.step =
    subst (λ (q : Option Step). IsStep c.args.trial.now.sight.place c.args.store.now c.args.trial.now.sight.walk c.down.at q) c.in-Some.is c.in_ok-step.ensures in
    record {
      at = down.next;
      way = down.way;
      sort = sym down.sort ∙ c.in_ok-target.ensures.sort;
      goes = λ point t words ht.
          word-goes c.args.store.now c.args.trial.now.sight c.args.trial.now.words.items c.args.id c.down.at c.in-Some.step c.down.target c.other_word-other.result c.in_ok-target.target point t down c.other_word-other.ensures c.in_ok-target.ensures.word words
          (c.down.invariant.goes point t words ht);
    }

pub returns-clause-place : goal.returns-clause-place
returns-clause-place c =
    let place : (s : Sort) × (tree_at c.args.store.now c.down.at ≡ Variable c.args.trial.now.sight.place.level s) =
    subst (λ (q : Option Step). IsStep c.args.trial.now.sight.place c.args.store.now c.args.trial.now.sight.walk c.down.at q) c.in_default.is c.in_ok-step.ensures in
    let sort : Some place.0 ≡ Some (word_sort c.down.target) = sym (ap tree_sort place.1) ∙ c.down.invariant.sort in
    let same : place.0 ≡ word_sort c.down.target = cc in
    record { number = c.down.at; there = c.down.invariant.at; is = place.1 ∙ ap (λ s. Variable c.args.trial.now.sight.place.level s) same }
