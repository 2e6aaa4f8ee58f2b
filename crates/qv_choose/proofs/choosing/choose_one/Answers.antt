use Rattle.std.proofs.Common.{◌≡◌}
use Rattle.qv_words.specs.Word.{word_sort, word_value}
use Rattle.qv_words.specs.Tree.{Literal}
use Rattle.qv_store.specs.Nodes.{tree_at}
use Rattle.qv_store.specs.Stores.{StandsAt}
use Rattle.qv_choose_candidates.specs.Chosen.{IsChoice}
use Rattle.qv_choose_clauses.proofs.Placed.{if-other}
use Rattle.qv_choose_candidates.proofs.ChoiceUses.{value-choice}
use Rattle.qv_choose.proofs.choosing.choose_one.Goals as goal

pub returns-then-place-eq0-clause-choice : goal.returns-then-place-eq0-clause-choice
returns-then-place-eq0-clause-choice c =
    if-other c.put_literal.result (λ id. StandsAt c.put_literal.new.store id (Literal (word_sort c.index-point-place.result) (word_value c.index-point-place.result))) (IsChoice c.args.point.now c.args.place (tree_at c.args.store.now c.args.region) c.put_literal.new.store)
    (λ id stands. value-choice c.args.point.now (tree_at c.args.store.now c.args.region) c.args.place c.index-point-place.result c.put_literal.new.store id c.if-place-eq0.true c.requires.level c.index-point-place.is stands)
    c.put_literal.ensures.id
