-- What the check of a certificate beside a file comes to.
use Rattle.std.specs.Prelude.{ℕ, nat_lt, if◌then◌else◌, List, codes}
use Rattle.qv_words.specs.Problem.{Problem}
use Rattle.std.specs.Prelude.{length}
use Rattle.qv_check_laws.specs.Verdict.{Script, Asks, Stops, Ends, verdict}
use Rattle.qv_check_defs.specs.Outcome.{Outcome, outcome_of}
use Rattle.qv_script_defs.specs.Faults.{refusal}
use Rattle.qv_qdimacs.specs.Text.{Said, File, Faulty, qdimacs_of}
use Rattle.qv_shell_qdimacs.specs.Texts.{fault_word, limit_word}
use Rattle.qv_shell_qdimacs.specs.Answers.{problem_of_file}

-- a section for a problem is asked for, unless that has more than so many places
abbrev pub asks : (places : ℕ) → Problem → Script (List ℕ)
asks places p = if nat_lt places (length p.prefix) then Stops (refusal 0 limit_word) else Asks p (λ answer. Ends)

-- what a text says as a certificate meets it: one check of its formula, or its fault
abbrev pub beside : (places : ℕ) → Said → Script (List ℕ)
beside places (File prefix clauses) = asks places (problem_of_file prefix clauses)
beside places (Faulty place k) = Stops (refusal place (fault_word k))

-- of these bytes of a file and a certificate
abbrev pub file_outcome : (places : ℕ) (file cert : List ℕ) → Outcome
file_outcome places file cert = outcome_of (verdict (beside places (qdimacs_of file)) cert)
