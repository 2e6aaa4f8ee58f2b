use Rattle.std.proofs.Common.{◌≡◌, ℕ, true, false, eqb, ◌&&◌, length, vec_len, sym, ap, ◌∙◌, arith, rules}
use Rattle.std.proofs.lemmas.Result.{err_from_is_err_and}
use Rattle.qv_lrat_text.specs.Words.{is_byte_word}
use Rattle.qv_dimacs.specs.Clauses.{is_none}
use Rattle.qv_qdimacs.specs.Text.{clauses_from}
use Rattle.qv_qdimacs.specs.Ahead.{words_at, word_at}
use Rattle.qv_qdimacs.proofs.TextLemmas.{none-is, both-true, first-false, second-false, clauses-end, clause-end, clause-zero, clause-percent, clause-more, fault-same}
use Rattle.qv_qdimacs.proofs.clauses.read_clause.Goals.{else-is_empty-via-then-is_empty+else-is_byte_word-2, else-is_empty-via-else-is_empty}
use Rattle.qv_qdimacs.proofs.clauses.read_clause.Goals as goal

pub returns-then-is_byte_word-clause-said : goal.returns-then-is_byte_word-clause-said
returns-then-is_byte_word-clause-said c =
    let l = c.words in
    let text = c.args.text.now in
    let file = c.args.file.now in
    let w = c.in-Some.word in
    let zero : is_byte_word 48 (word_at text w).text ≡ true = sym c.is_byte_word.ensures ∙ c.if-is_byte_word.true in
    l.invariant.says ∙ clause-zero file.prefix.items file.clauses l.start l.lits.items (words_at text l.end) (word_at text w) (words_at text w.end) c.in-Some.ensures.words zero

pub returns-then-is_byte_word-2-clause-said : goal.returns-then-is_byte_word-2-clause-said
returns-then-is_byte_word-2-clause-said c =
    let l = c.words in
    let many : vec_len l.lits ≡ length l.lits.items = search rules in
    let text = c.args.text.now in
    let file = c.args.file.now in
    let w = c.in-Some.word in
    let other : is_byte_word 48 (word_at text w).text ≡ false = sym c.is_byte_word.ensures ∙ c.if-is_byte_word.false in
    let none : is_none l.lits.items ≡ true = none-is l.lits.items ∙ ap (λ (n : ℕ). eqb n 0) (sym many) ∙ sym c.is_empty.ensures ∙ c.if-is_empty.true in
    let percent : is_byte_word 37 (word_at text w).text ≡ true = sym c.is_byte_word-then-is_empty.ensures ∙ c.if-is_byte_word-2.true in
    l.invariant.says
    ∙ clause-percent file.prefix.items file.clauses l.start l.lits.items (words_at text l.end) (word_at text w) (words_at text w.end) c.in-Some.ensures.words other
    (both-true (is_none l.lits.items) (is_byte_word 37 (word_at text w).text) none percent)

pub words-preserved : goal.words-preserved
words-preserved c =
    let l = c.words in
    let many : vec_len l.lits ≡ length l.lits.items = search rules in
    let text = c.args.text.now in
    let file = c.args.file.now in
    let w = c.in-Some.word in
    let next = c.in-Some.ensures in
    let other : is_byte_word 48 (word_at text w).text ≡ false = sym c.is_byte_word.ensures ∙ c.if-is_byte_word.false in
    let goes : (is_none l.lits.items && is_byte_word 37 (word_at text w).text) ≡ false =
    elim c.else-is_empty.branch [
      | else-is_empty-via-then-is_empty+else-is_byte_word-2 v ↦
          second-false (is_none l.lits.items) (is_byte_word 37 (word_at text w).text) (sym v.is_byte_word-then-is_empty.ensures ∙ v.if-is_byte_word-2.false)
      | else-is_empty-via-else-is_empty v ↦
          first-false (is_none l.lits.items) (is_byte_word 37 (word_at text w).text) (none-is l.lits.items ∙ ap (λ (n : ℕ). eqb n 0) (sym many) ∙ sym c.is_empty.ensures ∙ v.if-is_empty.false)
    ] in
    record {
      within = next.behind.within;
      further = omega (arith, l.invariant.further, next.behind.begins, next.behind.some);
      says = l.invariant.says
          ∙ clause-more file.prefix.items file.clauses l.start l.lits.items (words_at text l.end) (word_at text w) (words_at text w.end) next.words
          c.has_clause-behind.result c.has_clause-behind.ensures other goes
          ∙ c.in_ok-add_literal.ensures (λ start lits. clauses_from file.prefix.items file.clauses start lits (words_at text w.end));
    }

pub returns-in_err-add_literal-clause-said : goal.returns-in_err-add_literal-clause-said
returns-in_err-add_literal-clause-said c =
    let l = c.words in
    let many : vec_len l.lits ≡ length l.lits.items = search rules in
    let text = c.args.text.now in
    let file = c.args.file.now in
    let w = c.in-Some.word in
    let next = c.in-Some.ensures in
    let other : is_byte_word 48 (word_at text w).text ≡ false = sym c.is_byte_word.ensures ∙ c.if-is_byte_word.false in
    let goes : (is_none l.lits.items && is_byte_word 37 (word_at text w).text) ≡ false =
    elim c.else-is_empty.branch [
      | else-is_empty-via-then-is_empty+else-is_byte_word-2 v ↦
          second-false (is_none l.lits.items) (is_byte_word 37 (word_at text w).text) (sym v.is_byte_word-then-is_empty.ensures ∙ v.if-is_byte_word-2.false)
      | else-is_empty-via-else-is_empty v ↦
          first-false (is_none l.lits.items) (is_byte_word 37 (word_at text w).text) (none-is l.lits.items ∙ ap (λ (n : ℕ). eqb n 0) (sym many) ∙ sym c.is_empty.ensures ∙ v.if-is_empty.false)
    ] in
    let p = err_from_is_err_and c.from_residual.result c.from_residual.ensures.1 in
    rw (p.1, p.2)
    (fault-same _ _ c.in_err-add_literal.field-0.0 _ _
    (l.invariant.says
    ∙ clause-more file.prefix.items file.clauses l.start l.lits.items (words_at text l.end) (word_at text w) (words_at text w.end) next.words
    c.has_clause-behind.result c.has_clause-behind.ensures other goes)
    (c.in_err-add_literal.ensures (λ start lits. clauses_from file.prefix.items file.clauses start lits (words_at text w.end))))

pub returns-then-is_empty-2-clause-said : goal.returns-then-is_empty-2-clause-said
returns-then-is_empty-2-clause-said c =
    let l = c.words in
    let many : vec_len l.lits ≡ length l.lits.items = search rules in
    let file = c.args.file.now in
    l.invariant.says
    ∙ clauses-end file.prefix.items file.clauses l.start l.lits.items (words_at c.args.text.now l.end) c.in_default.ensures
    (none-is l.lits.items ∙ ap (λ (n : ℕ). eqb n 0) (sym many) ∙ sym c.is_empty-2.ensures ∙ c.if-is_empty-2.true)

pub returns-clause-said : goal.returns-clause-said
returns-clause-said c =
    let l = c.words in
    let many : vec_len l.lits ≡ length l.lits.items = search rules in
    let file = c.args.file.now in
    l.invariant.says
    ∙ clause-end file.prefix.items file.clauses l.start l.lits.items (words_at c.args.text.now l.end) c.in_default.ensures
    (none-is l.lits.items ∙ ap (λ (n : ℕ). eqb n 0) (sym many) ∙ sym c.is_empty-2.ensures ∙ c.if-is_empty-2.false)
