use Rattle.std.proofs.Common.{◌≡◌, Some, None, sym, ◌∙◌}
use Rattle.std.proofs.lemmas.Result.{err_from_is_err_and}
use Rattle.qv_qdimacs.specs.Text.{quantifier_in}
use Rattle.qv_qdimacs.specs.Ahead.{words_at, word_at}
use Rattle.qv_qdimacs.proofs.TextLemmas.{parts-end, parts-clauses, parts-begin, fault-same}
use Rattle.qv_qdimacs.proofs.parts.read_parts.Goals as goal

pub returns-in_default-quantifier-clause-said : goal.returns-in_default-quantifier-clause-said
returns-in_default-quantifier-clause-said c =
    let l = c.parts in
    let text = c.args.text.now in
    let w = c.in-Some.word in
    let none : quantifier_in (word_at text w).text ≡ None = sym c.in_default-quantifier.ensures in
    l.invariant.says ∙ parts-clauses l.prefix.items (words_at text l.end) (word_at text w) (words_at text w.end) c.in-Some.ensures.words none

pub returns-in_err-end-clause-said : goal.returns-in_err-end-clause-said
returns-in_err-end-clause-said c =
    let l = c.parts in
    let text = c.args.text.now in
    let w = c.in-Some.word in
    let q = c.in-Some-quantifier.quant in
    let some : quantifier_in (word_at text w).text ≡ Some q = sym c.in-Some-quantifier.ensures in
    let p = err_from_is_err_and c.from_residual.result c.from_residual.ensures.1 in
    rw (p.1, p.2)
    (fault-same _ _ c.in_err-end.field-0.0 _ _
    (l.invariant.says ∙ parts-begin l.prefix.items (words_at text l.end) (word_at text w) (words_at text w.end) c.in-Some.ensures.words q some)
    c.in_err-end.ensures.said)

pub parts-preserved : goal.parts-preserved
parts-preserved c =
    let l = c.parts in
    let text = c.args.text.now in
    let w = c.in-Some.word in
    let q = c.in-Some-quantifier.quant in
    let some : quantifier_in (word_at text w).text ≡ Some q = sym c.in-Some-quantifier.ensures in
    record {
      within = c.in_ok-end.ensures.further.1;
      seen = c.in_ok-end.ensures.seen;
      says = l.invariant.says
          ∙ parts-begin l.prefix.items (words_at text l.end) (word_at text w) (words_at text w.end) c.in-Some.ensures.words q some
          ∙ c.in_ok-end.ensures.said;
    }

pub returns-clause-said : goal.returns-clause-said
returns-clause-said c = c.parts.invariant.says ∙ parts-end c.parts.prefix.items (words_at c.args.text.now c.parts.end) c.in_default.ensures
