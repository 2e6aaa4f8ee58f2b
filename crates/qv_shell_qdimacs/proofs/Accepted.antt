-- What is accepted beside a file is true of it, and what is written for it is accepted.
use Rattle.std.proofs.Common.{◌≡◌, ◌≢◌, ◌+◌, ◌-◌, ◌<◌, ◌≤◌, ℕ, suc, Bool, true, false, Ok, List, [], ◌∷◌, ◌++◌, length, take, refl, sym, ap, subst, ◌∙◌, append_assoc, arith, codes}
use Rattle.std.specs.Prelude.{All, nat_lt, if◌then◌else◌}
use Rattle.std.specs.List.{AllByRecursion}
use Rattle.std.proofs.lemmas.List.{append-nil}
use Rattle.std.proofs.lemmas.List.Elements.{All-cons, All-nil, All-from_recursion, recursion_from_All}
use Rattle.qv_cnf.specs.Literal.{Literal}
use Rattle.qv_words.specs.declared.op.Answer.{Answer}
use Rattle.qv_words.specs.declared.op.Answer.TheVariants as answer
use Rattle.qv_words.specs.Problem.{Problem}
use Rattle.qv_words.specs.Truth.{IsAssertion}
use Rattle.qv_lrat_text.specs.Words.{is_blank, words}
use Rattle.qv_prenex_laws.proofs.LawfulProblems.{problems-are-lawful}
use Rattle.qv_prenex_laws.proofs.PrenexRight.{prenex-theorem}
use Rattle.qv_cert.specs.Grammar.{cert_line}
use Rattle.qv_cert.specs.Line.{Header}
use Rattle.qv_cert.specs.Section.{AcceptedUpTo, Judged as Section, section_judged}
use Rattle.qv_cert.specs.Text.{Text, first_line, text_of}
use Rattle.qv_cert.specs.TextLaws.{HasNoLf, bytes_of_lines}
use Rattle.qv_cert.proofs.Accepting.{sections-are-accepted}
use Rattle.qv_check_laws.specs.AnswerLaws.{AreTrueFor, IsTrueOf as IsTrueOfProblem, task_of}
use Rattle.qv_check_laws.specs.Verdict.{Asks, Ends, Script, Stops, Verdict, answers_of, at_end, behind_header, behind_section, ended, verdict, verdict_from, verdict_on, with_section}
use Rattle.qv_check_laws.specs.VerdictLaws.{AsksOfProblems}
use Rattle.qv_check_laws.proofs.Answers.{verdicts-are-true}
use Rattle.qv_check_defs.specs.Outcome.{Outcome, outcome_of}
use Rattle.qv_script_defs.specs.Faults.{refusal}
use Rattle.qv_script_transcript.specs.Certificates.{header_line}
use Rattle.qv_script_transcript.proofs.Accepting.{lines-are-their-text}
use Rattle.qv_script_transcript.proofs.PrintedLines.{free}
use Rattle.qv_qdimacs.specs.declared.files.Quantified.{Quantified}
use Rattle.qv_qdimacs.specs.Outer.{AreOnce, variables_of}
use Rattle.qv_qdimacs.specs.Text.{Said, File, Faulty, qdimacs_of}
use Rattle.qv_qdimacs.specs.Translation.{formula_of}
use Rattle.qv_qdimacs.proofs.Closed.{file-assertion, file-sorts}
use Rattle.qv_qdimacs.proofs.TextLemmas.{text-once}
use Rattle.qv_qdimacs.proofs.Truthful.{truth-kept}
use Rattle.qv_shell_qdimacs.specs.Texts.{limit_word}
use Rattle.qv_shell_qdimacs.specs.Answers.{IsSectionFor, file_certificate, place_count, problem_of_file}
use Rattle.qv_shell_qdimacs.specs.Checking.{asks, beside, file_outcome}
use Rattle.qv_shell_qdimacs.specs.Laws.{AcceptsSolvedFile, FileAnswersAreTrue, FileAnswersHold, IsTrueOf, SolvedFilesAreAccepted, accepted_with}
use Rattle.qv_shell_qdimacs.proofs.Judged.{asked}

-- ---- accepted answers

module _ (places : ℕ) (prefix : List Quantified) (clauses : List (List Literal)) where
  abbrev problem : Problem
  problem = problem_of_file prefix clauses

  lawful : All IsAssertion (formula_of prefix clauses ∷ [])
  lawful = All-cons IsAssertion (formula_of prefix clauses) [] (file-assertion prefix clauses) (All-nil IsAssertion)

  asks-lawful : AsksOfProblems (asks places problem)
  asks-lawful = by (nat_lt places (length problem.prefix))
    where
      by : (over : Bool) → AsksOfProblems (if over then Stops (refusal 0 limit_word) else Asks problem (λ answer. Ends))
      by true = tt
      by false = (problems-are-lawful (formula_of prefix clauses ∷ []) lawful (file-sorts prefix clauses), λ a. tt)

  -- what is true of the problem is true of the file
  of-problem : AreOnce (variables_of prefix) → (a : Answer) → IsTrueOfProblem problem a → IsTrueOf prefix clauses a
  of-problem once answer.Sat h = (truth-kept prefix clauses once).0 ((prenex-theorem (formula_of prefix clauses ∷ []) lawful (file-sorts prefix clauses)).0 h)
  of-problem once answer.Unsat h = λ holds. h ((prenex-theorem (formula_of prefix clauses ∷ []) lawful (file-sorts prefix clauses)).1 ((truth-kept prefix clauses once).1 holds))
  of-problem once answer.Unknown h = tt

  asked-true : AreOnce (variables_of prefix) → (answers : List Answer) → AreTrueFor (asks places problem) answers → AllByRecursion (IsTrueOf prefix clauses) answers
  asked-true once [] h = tt
  asked-true once (a ∷ answers) h = by (nat_lt places (length problem.prefix)) answers h
    where
      by : (over : Bool) (others : List Answer) → AreTrueFor (if over then Stops (refusal 0 limit_word) else Asks problem (λ answer. Ends)) (a ∷ others) → AllByRecursion (IsTrueOf prefix clauses) (a ∷ others)
      by true others k = absurd k
      by false [] k = (of-problem once a k.0, tt)
      by false (b ∷ others) k = absurd k.1

pub answers-are-true : FileAnswersAreTrue
answers-are-true places file cert prefix clauses says =
    let h = verdicts-are-true (List ℕ) (beside places (File prefix clauses)) cert (asks-lawful places prefix clauses) in
    subst (λ (said : Said). All (IsTrueOf prefix clauses) (answers_of (verdict (beside places said) cert))) (sym says)
    (All-from_recursion (IsTrueOf prefix clauses) (answers_of (verdict (beside places (File prefix clauses)) cert)) (asked-true places prefix clauses (text-once file prefix clauses says) (answers_of (verdict (beside places (File prefix clauses)) cert)) h))

-- ---- certificates that are written

header-apart : HasNoLf header_line
header-apart = All-from_recursion (λ byte. byte ≢ 10) header_line (free header_line refl)

header-read : first_line header_line ≡ Ok (Header 2)
unfolding cert_line words is_blank
header-read = refl

certificate-verdict : (script : Script (List ℕ)) (lines : List (List ℕ)) → All HasNoLf lines → verdict script (file_certificate lines) ≡ verdict_from 2 1 script 2 lines []
unfolding verdict
certificate-verdict script lines h =
    ap (λ (t : Text). verdict_on script t.lines t.rest) (lines-are-their-text (header_line ∷ lines) (All-cons HasNoLf header_line lines header-apart h))
    ∙ ap (λ r. behind_header r script lines []) header-read

module _ (places : ℕ) (prefix : List Quantified) (clauses : List (List Literal)) (answer : Answer) (lines : List (List ℕ)) (h : IsSectionFor prefix clauses answer lines) where
  judged : section_judged (task_of (formula_of prefix clauses ∷ []) 1 2) 2 lines ≡ AcceptedUpTo answer (2 + length lines) []
  judged =
      ap (section_judged (task_of (formula_of prefix clauses ∷ []) 1 2) 2) (sym (append-nil lines))
      ∙ sections-are-accepted (task_of (formula_of prefix clauses ∷ []) 1 2) answer 2 lines [] h.section

  -- behind the section nothing is left
  abbrev on : Answer → ℕ → List (List ℕ) → Verdict (List ℕ)
  on a m behind = verdict_from 2 2 Ends m behind []

  abbrev script : Script (List ℕ)
  script = Asks (problem_of_file prefix clauses) (λ a. Ends)

  taken : verdict_from 2 1 script 2 lines [] ≡ behind_section lines on (AcceptedUpTo answer (2 + length lines) [])
  unfolding verdict_from
  taken = ap (behind_section lines on) judged

  comes-to : outcome_of (behind_section lines on (AcceptedUpTo answer (2 + length lines) [])) ≡ accepted_with answer
  unfolding verdict_from
  comes-to = simp append-nil

  certified-accepted : place_count prefix clauses ≤ places → outcome_of (verdict (beside places (File prefix clauses)) (file_certificate lines)) ≡ accepted_with answer
  certified-accepted within =
      ap outcome_of
      (certificate-verdict (beside places (File prefix clauses)) lines h.apart
      ∙ ap (λ (q : Script (List ℕ)). verdict_from 2 1 q 2 lines []) (asked places (problem_of_file prefix clauses) (λ far. omega (arith, far, within)))
      ∙ taken)
      ∙ comes-to

pub solved-are-accepted : SolvedFilesAreAccepted
solved-are-accepted places file cert prefix clauses answer lines says within h is =
    ap (λ (said : Said). outcome_of (verdict (beside places said) cert)) says
    ∙ ap (λ (bytes : List ℕ). outcome_of (verdict (beside places (File prefix clauses)) bytes)) is
    ∙ certified-accepted places prefix clauses answer lines h within
