use Rattle.std.proofs.Common.{◌≡◌, true, false, sym, ◌∙◌, arith}
use Rattle.std.proofs.lemmas.Result.{err_from_is_err_and}
use Rattle.qv_lrat_text.specs.Words.{is_byte_word}
use Rattle.qv_qdimacs.specs.Text.{parts_from, Part}
use Rattle.qv_qdimacs.specs.Ahead.{words_at, word_at}
use Rattle.qv_qdimacs.specs.Answers.{part_of}
use Rattle.qv_qdimacs.proofs.TextLemmas.{part-end, part-zero, part-more, fault-same}
use Rattle.qv_qdimacs.proofs.parts.read_part.Goals as goal

pub returns-then-is_byte_word-clause-said : goal.returns-then-is_byte_word-clause-said
returns-then-is_byte_word-clause-said c =
    let l = c.words in
    let text = c.args.text.now in
    let w = c.in-Some.word in
    let part : Part = record { quant = c.args.quant; place = c.args.begin } in
    let zero : is_byte_word 48 (word_at text w).text ≡ true = sym c.is_byte_word.ensures ∙ c.if-is_byte_word.true in
    l.invariant.says ∙ part-zero l.prefix.items (words_at text l.end) (word_at text w) (words_at text w.end) c.in-Some.ensures.words part zero

pub words-preserved : goal.words-preserved
words-preserved c =
    let l = c.words in
    let text = c.args.text.now in
    let w = c.in-Some.word in
    let part : Part = record { quant = c.args.quant; place = c.args.begin } in
    let other : is_byte_word 48 (word_at text w).text ≡ false = sym c.is_byte_word.ensures ∙ c.if-is_byte_word.false in
    let next = c.in-Some.ensures in
    record {
      within = next.behind.within;
      further = omega (arith, l.invariant.further, next.behind.begins, next.behind.some);
      seen = c.in_ok-add_variable.ensures.seen;
      says = l.invariant.says
          ∙ part-more l.prefix.items (words_at text l.end) (word_at text w) (words_at text w.end) next.words part other
          ∙ c.in_ok-add_variable.ensures.said (λ prefix. parts_from prefix (part_of c.args.quant c.args.begin) (words_at text w.end));
    }

pub returns-in_err-add_variable-clause-said : goal.returns-in_err-add_variable-clause-said
returns-in_err-add_variable-clause-said c =
    let l = c.words in
    let text = c.args.text.now in
    let w = c.in-Some.word in
    let part : Part = record { quant = c.args.quant; place = c.args.begin } in
    let other : is_byte_word 48 (word_at text w).text ≡ false = sym c.is_byte_word.ensures ∙ c.if-is_byte_word.false in
    let p = err_from_is_err_and c.from_residual.result c.from_residual.ensures.1 in
    rw (p.1, p.2)
    (fault-same _ _ c.in_err-add_variable.field-0.0 _ _
    (l.invariant.says ∙ part-more l.prefix.items (words_at text l.end) (word_at text w) (words_at text w.end) c.in-Some.ensures.words part other)
    (c.in_err-add_variable.ensures.said (λ prefix. parts_from prefix (part_of c.args.quant c.args.begin) (words_at text w.end))))

pub returns-clause-said : goal.returns-clause-said
returns-clause-said c =
    let l = c.words in
    let part : Part = record { quant = c.args.quant; place = c.args.begin } in
    l.invariant.says ∙ part-end l.prefix.items (words_at c.args.text.now l.end) part c.in_default.ensures
