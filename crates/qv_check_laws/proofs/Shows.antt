-- What a verdict shows.
use Rattle.std.proofs.Common.{◌≡◌, ℕ, suc, ◌-◌, List, ◌++◌, length, take, refl, ap, sym, subst, ◌∙◌, arith, length-append}
use Rattle.std.proofs.lemmas.List.{take_at}
use Rattle.qv_words.specs.declared.op.Answer.{Answer}
use Rattle.qv_words.specs.Problem.{Problem}
use Rattle.qv_words.specs.GameLaws.{IsProblem}
use Rattle.qv_cert.specs.Section.{Task, Judged, AcceptedUpTo, RefusedAt, section_judged}
use Rattle.qv_cert.specs.Shown.{IsSection}
use Rattle.qv_cert.proofs.Sections.{accepted-are-sections}
use Rattle.qv_check_laws.specs.Verdict.{Script, Asks, Stops, Ends, Verdict, behind_section, verdict_from}
use Rattle.qv_check_laws.specs.VerdictLaws.{AsksOfProblems, AreSectionsFor, VerdictsShow}

-- the lines that were taken
taken : (texts behind lines : List (List ℕ)) → lines ≡ texts ++ behind → take (length lines - length behind) lines ≡ texts
taken texts behind lines e =
    let number : length (texts ++ behind) - length behind ≡ length texts = omega (arith, length-append texts behind) in
    subst (λ (xs : List (List ℕ)). take (length xs - length behind) xs ≡ texts) (sym e)
    (ap (λ (k : ℕ). take k (texts ++ behind)) number ∙ take_at texts behind (length texts) refl)

section-taken : (task : Task) (answer : Answer) (n m : ℕ) (lines behind : List (List ℕ)) → IsProblem task.problem → section_judged task n lines ≡ AcceptedUpTo answer m behind
    → IsSection task answer (take (length lines - length behind) lines)
section-taken task answer n m lines behind problem e =
    let h = accepted-are-sections task answer n m lines behind problem e in
    subst (IsSection task answer) (sym (taken h.texts behind lines h.lines_are)) h.section

judged : {F : Type 0} (version number : ℕ) (p : Problem) (next : Answer → Script F) (n : ℕ) (lines : List (List ℕ)) → IsProblem p
    → (goes_on : Answer → ℕ → List (List ℕ) → Verdict F) → ((answer : Answer) (m : ℕ) (behind : List (List ℕ)) → AreSectionsFor version (suc number) (next answer) (goes_on answer m behind).sections)
    → (j : Judged) → section_judged (record { problem = p; number = number; version = version }) n lines ≡ j
    → AreSectionsFor version number (Asks p next) (behind_section lines goes_on j).sections
judged version number p next n lines problem goes_on others (AcceptedUpTo answer m behind) e =
    (section-taken (record { problem = p; number = number; version = version }) answer n m lines behind problem e, others answer m behind)
judged version number p next n lines problem goes_on others (RefusedAt line k) e = tt

shown : {F : Type 0} (script : Script F) (version number n : ℕ) (lines : List (List ℕ)) (rest : List ℕ) → AsksOfProblems script
    → AreSectionsFor version number script (verdict_from version number script n lines rest).sections
unfolding verdict_from
shown (Asks p next) version number n lines rest h =
    judged version number p next n lines h.0 (λ answer m behind. verdict_from version (suc number) (next answer) m behind rest)
    (λ answer m behind. shown (next answer) version (suc number) m behind rest (h.1 answer))
    (section_judged (record { problem = p; number = number; version = version }) n lines) refl
shown (Stops fault) version number n lines rest h = tt
shown Ends version number n lines rest h = tt

pub verdicts-show : (F : Type 0) → VerdictsShow F
verdicts-show F version number script n lines rest h = shown script version number n lines rest h
