-- A section that was made isn't refused.
use Rattle.std.proofs.Common.{◌≡◌, ◌≢◌, ◌∙◌, ◌+◌, ◌++◌, ℕ, suc, List, [], ◌∷◌, Option, Some, None, option_map, length, refl, sym, ap, subst, Ok}
use Rattle.std.specs.Prelude.{All, IfOk, Result}
use Rattle.std.proofs.lemmas.List.{append-nil}
use Rattle.std.proofs.lemmas.List.Elements.{All-cons, All-from_recursion}
use Rattle.qv_words.specs.declared.op.Answer.{Answer}
use Rattle.qv_words.specs.Tree.{Tree}
use Rattle.qv_lrat_text.specs.Words.{is_blank, words}
use Rattle.qv_cert.specs.declared.kind.RefusalKind.{RefusalKind}
use Rattle.qv_cert.specs.Line.{CertLine, Header}
use Rattle.qv_cert.specs.Grammar.{Reading, cert_line}
use Rattle.qv_cert.specs.Text.{Text, first_line, text_of}
use Rattle.qv_cert.specs.TextLaws.{HasNoLf, bytes_of_lines}
use Rattle.qv_cert.specs.CertReader.{to_give, with_line, version_in}
use Rattle.qv_cert.specs.Section.{Opening, Judged, AcceptedUpTo, RefusedAt, judged_from}
use Rattle.qv_cert.specs.Shown.{IsSection}
use Rattle.qv_cert.proofs.Accepting.{sections-are-accepted}
use Rattle.qv_check_laws.specs.AnswerLaws.{task_of}
use Rattle.qv_check_lines.specs.declared.verdict.Verdict.TheVariants.{Refused}
use Rattle.qv_check_lines.specs.Judging.{IsVerdictFrom}
use Rattle.qv_script_transcript.specs.Certificates.{header_line}
use Rattle.qv_script_transcript.proofs.Accepting.{lines-are-their-text}
use Rattle.qv_script_transcript.proofs.PrintedLines.{free}
use Rattle.qv_shell_answer.specs.Refusals.{AreSection}

header-apart : HasNoLf header_line
header-apart = All-from_recursion (λ byte. byte ≢ 10) header_line (free header_line refl)

header-read : first_line header_line ≡ Ok (Header 2)
unfolding cert_line words is_blank
header-read = refl

-- what comes behind the first line of a certificate with these lines
module _ (lines : List (List ℕ)) (left rest left' text : List ℕ) (l : CertLine) (apart : All HasNoLf lines) (is : left ≡ bytes_of_lines (header_line ∷ lines))
    (next : to_give [] (Some left) ≡ option_map (with_line text) (to_give rest (Some left'))) (read : first_line text ≡ Ok l) where
  same-lines : text ∷ (text_of (rest ++ left')).lines ≡ header_line ∷ lines
  same-lines =
      let whole : text_of left ≡ with_line text (text_of (rest ++ left')) = cc in
      ap (λ (t : Text). t.lines) (sym whole ∙ ap text_of is ∙ lines-are-their-text (header_line ∷ lines) (All-cons HasNoLf header_line lines header-apart apart))

  pub behind-first : (text_of (rest ++ left')).lines ≡ lines
  behind-first = let same = same-lines in cc

  pub first-version : version_in l ≡ 2
  first-version =
      let first : text ≡ header_line = let same = same-lines in cc in
      let named : Ok l ≡ Ok (Header 2) = sym read ∙ ap first_line first ∙ header-read in
      let header : l ≡ Header 2 = cc in
      ap version_in header

-- the checker doesn't refuse the lines of a section
pub not-refused : (formulas : List Tree) (number version given now line : ℕ) (k : RefusalKind) (lines : List (List ℕ)) (t : Text) (left : Option Text) → AreSection formulas number lines → version ≡ 2 → t.lines ≡ lines →
    IsVerdictFrom (task_of formulas number version) Opening given (Some t) now left (Refused line k) → ⊥
not-refused formulas number version given now line k lines t left own two same judged =
    let task = task_of formulas number 2 in
    let here : judged_from task Opening (suc given) lines ≡ RefusedAt line k =
    subst (λ (v : ℕ). judged_from (task_of formulas number v) Opening (suc given) lines ≡ RefusedAt line k) two
    (subst (λ (ls : List (List ℕ)). judged_from (task_of formulas number version) Opening (suc given) ls ≡ RefusedAt line k) same judged) in
    let there : judged_from task Opening (suc given) lines ≡ AcceptedUpTo own.answer (suc given + length lines) [] =
    subst (λ (ls : List (List ℕ)). judged_from task Opening (suc given) ls ≡ AcceptedUpTo own.answer (suc given + length lines) []) (append-nil lines)
    (sections-are-accepted task own.answer (suc given) lines [] own.section) in
    let clash : AcceptedUpTo own.answer (suc given + length lines) [] ≡ RefusedAt line k = sym there ∙ here in
    absurd cc
