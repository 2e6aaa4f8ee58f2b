use Rattle.std.proofs.Common.{List, [], sym, subst}
use Rattle.qv_words.specs.declared.word.Word.{Word}
use Rattle.qv_words.specs.Word.{word_sort, word_value}
use Rattle.qv_words.specs.Values.{HasWords, MeansUnder}
use Rattle.qv_terms.specs.View.{tree}
use Rattle.qv_choose_paths.proofs.RowTerms.{row-free, row-words, row-word_is}
use Rattle.qv_choose_paths.proofs.rows.row_word.Goals as goal

pub eval-requires-clause-quantifier_free : goal.eval-requires-clause-quantifier_free
eval-requires-clause-quantifier_free c = row-free (word_sort c.args.other) (word_sort c.args.target) (tree c.args.row.now) c.requires.sorted c.requires.over

pub eval-requires-clause-words : goal.eval-requires-clause-words
eval-requires-clause-words c =
    subst (λ (levels : List Word). HasWords c.new.result.items levels (tree c.args.row.now)) (sym c.in_ok-levels.ensures.items)
    (row-words (tree c.args.row.now) c.new.result.items c.args.other c.args.target c.requires.sorted c.requires.over)

pub returns-clause-word : goal.returns-clause-word
returns-clause-word c =
    row-word_is (tree c.args.row.now) c.args.other c.args.target c.eval.result c.requires.sorted c.requires.over c.eval.ensures.sort
    (subst (λ (levels : List Word). MeansUnder [] levels (tree c.args.row.now) (word_value c.eval.result)) c.in_ok-levels.ensures.items
    (subst (λ (consts : List Word). MeansUnder consts c.in_ok-levels.levels.items (tree c.args.row.now) (word_value c.eval.result)) c.new.ensures.items c.eval.ensures.value))
