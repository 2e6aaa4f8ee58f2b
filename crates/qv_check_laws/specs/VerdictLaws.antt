-- What a verdict shows.
use Rattle.std.specs.Prelude.{ℕ, suc, List, [], ◌∷◌}
use Rattle.qv_words.specs.declared.op.Answer.{Answer}
use Rattle.qv_words.specs.GameLaws.{IsProblem}
use Rattle.qv_cert.specs.Shown.{IsSection}
use Rattle.qv_check_laws.specs.Verdict.{Script, Asks, Stops, Ends, AcceptedSection, verdict_from}

-- the script asks about lawful problems alone, whatever the answers
abbrev pub AsksOfProblems : {F : Type 0} → Script F → Type 0
AsksOfProblems (Asks p next) = IsProblem p × ((answer : Answer) → AsksOfProblems (next answer))
AsksOfProblems (Stops fault) = Unit {0}
AsksOfProblems Ends = Unit {0}

-- each of these is a section of its answer, for the check-sat that the script comes to by the
-- answers before
abbrev pub AreSectionsFor : {F : Type 0} → (version number : ℕ) → Script F → List AcceptedSection → Type 0
AreSectionsFor version number script [] = Unit {0}
AreSectionsFor version number (Asks p next) (s ∷ sections) =
    IsSection (record { problem = p; number = number; version = version }) s.answer s.lines
    × AreSectionsFor version (suc number) (next s.answer) sections
AreSectionsFor version number (Stops fault) (s ∷ sections) = ⊥
AreSectionsFor version number Ends (s ∷ sections) = ⊥

-- the accepted sections of a verdict are such, from any check-sat on, whatever the script's faults
-- are
abbrev pub VerdictsShow : Type 0 → Type 0
VerdictsShow F =
    (version number : ℕ) (script : Script F) (n : ℕ) (lines : List (List ℕ)) (rest : List ℕ) → AsksOfProblems script →
    AreSectionsFor version number script (verdict_from version number script n lines rest).sections
