use Rattle.std.proofs.Common.{List, ℕ, sym, subst}
use Rattle.std.specs.Prelude.{IfOk}
use Rattle.qv_text.specs.declared.kinds.TokenKind.{TokenKind}
use Rattle.qv_text.specs.Grammar.{IsWhole}
use Rattle.qv_words.specs.Sorted.{IsSorted}
use Rattle.qv_elab_defs.specs.Leaves.{digits_literal, token_tree}
use Rattle.qv_elab_defs.specs.Answers.{Answers, Writes}
use Rattle.qv_elab_defs.specs.Beginnings.{Begins}
use Rattle.qv_elab_scope.proofs.Tokened.{all-behind, hex-sorted, binary-sorted}
use Rattle.qv_elab_scope.proofs.leaves.leaf.Goals as goal

pub digits_literal-requires-clause-sorted : goal.digits_literal-requires-clause-sorted
digits_literal-requires-clause-sorted c =
    let whole = subst (λ (k : TokenKind). IsWhole k c.args.text.now) c.in-Hex.is c.requires.token in
    subst (λ (ds : List ℕ). IfOk (digits_literal c.args.place 4 ds) IsSorted) (sym (all-behind c.args.text.now 2)) (hex-sorted c.args.place c.args.text.now whole)

pub digits_literal-requires-in-Binary-clause-sorted : goal.digits_literal-requires-in-Binary-clause-sorted
digits_literal-requires-in-Binary-clause-sorted c =
    let whole = subst (λ (k : TokenKind). IsWhole k c.args.text.now) c.in-Binary.is c.requires.token in
    subst (λ (ds : List ℕ). IfOk (digits_literal c.args.place 1 ds) IsSorted) (sym (all-behind c.args.text.now 2)) (binary-sorted c.args.place c.args.text.now whole)

pub returns-in-Hex-clause-answers : goal.returns-in-Hex-clause-answers
returns-in-Hex-clause-answers c = λ defs d i e b h.
    let written = subst (λ (ds : List ℕ). Writes (digits_literal c.args.place 4 ds) c.digits_literal.result) (all-behind c.args.text.now 2) c.digits_literal.ensures in
    let answer = c.put_written.ensures.answers _ written in
    subst (λ (k : TokenKind). Answers c.put_written.new.store (token_tree k c.args.place c.args.text.now d) c.put_written.result) (sym c.in-Hex.is) answer

pub returns-in-Binary-clause-answers : goal.returns-in-Binary-clause-answers
returns-in-Binary-clause-answers c = λ defs d i e b h.
    let written = subst (λ (ds : List ℕ). Writes (digits_literal c.args.place 1 ds) c.digits_literal-in-Binary.result) (all-behind c.args.text.now 2) c.digits_literal-in-Binary.ensures in
    let answer = c.put_written-in-Binary.ensures.answers _ written in
    subst (λ (k : TokenKind). Answers c.put_written-in-Binary.new.store (token_tree k c.args.place c.args.text.now d) c.put_written-in-Binary.result) (sym c.in-Binary.is) answer

pub returns-in-Hex-clause-begins : goal.returns-in-Hex-clause-begins
returns-in-Hex-clause-begins c = λ defs d i e b h.
    let written = subst (λ (ds : List ℕ). Writes (digits_literal c.args.place 4 ds) c.digits_literal.result) (all-behind c.args.text.now 2) c.digits_literal.ensures in
    let begins = c.put_written.ensures.begins _ written in
    subst (λ (k : TokenKind). Begins (token_tree k c.args.place c.args.text.now d) c.put_written.result) (sym c.in-Hex.is) begins

pub returns-in-Binary-clause-begins : goal.returns-in-Binary-clause-begins
returns-in-Binary-clause-begins c = λ defs d i e b h.
    let written = subst (λ (ds : List ℕ). Writes (digits_literal c.args.place 1 ds) c.digits_literal-in-Binary.result) (all-behind c.args.text.now 2) c.digits_literal-in-Binary.ensures in
    let begins = c.put_written-in-Binary.ensures.begins _ written in
    subst (λ (k : TokenKind). Begins (token_tree k c.args.place c.args.text.now d) c.put_written-in-Binary.result) (sym c.in-Binary.is) begins
