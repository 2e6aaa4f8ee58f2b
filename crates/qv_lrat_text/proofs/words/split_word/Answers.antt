use Rattle.std.proofs.Common.{sym, ◌∙◌, arith}
use Rattle.std.specs.Prelude.{not}
use Rattle.std.proofs.lemmas.Bool.{eqb-true, eqb-false}
use Rattle.std.proofs.lemmas.List.Sums.{prefix_len-le-length}
use Rattle.qv_lrat_text.specs.Words.{is_blank}
use Rattle.qv_lrat_text.proofs.WordLemmas.{split_none, split_some, split_shorter}
use Rattle.qv_lrat_text.proofs.words.split_word.Goals as goal

pub split_at-requires : goal.split_at-requires
split_at-requires c = omega (arith, prefix_len-le-length is_blank c.args.text.now)

pub returns-then-is_empty-clause-split : goal.returns-then-is_empty-clause-split
returns-then-is_empty-clause-split c =
    split_none _ _ _ c.blank_len.ensures c.split_at.ensures.back (eqb-true _ _ (sym c.is_empty.ensures ∙ c.if-is_empty.true))

pub split_at-requires-2 : goal.split_at-requires-2
split_at-requires-2 c = omega (arith, prefix_len-le-length (λ b. not (is_blank b)) c.split_at.result.1.now)

pub returns-clause-split : goal.returns-clause-split
returns-clause-split c =
    split_some _ _ _ _ _ _ c.blank_len.ensures c.split_at.ensures.back (eqb-false _ _ (sym c.is_empty.ensures ∙ c.if-is_empty.false))
    c.word_len.ensures c.split_at-2.ensures.front c.split_at-2.ensures.back

pub returns-clause-shorter : goal.returns-clause-shorter
returns-clause-shorter c =
    split_shorter _ _ _ _ _ c.blank_len.ensures c.split_at.ensures.back (eqb-false _ _ (sym c.is_empty.ensures ∙ c.if-is_empty.false))
    c.word_len.ensures c.split_at-2.ensures.back
