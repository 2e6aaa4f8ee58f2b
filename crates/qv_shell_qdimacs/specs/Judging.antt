-- How the check of a certificate beside a file is put together. No public contract cites this.
use Rattle.std.specs.Prelude.{◌≡◌, ◌+◌, ◌++◌, ℕ, suc, Option, IfSome, List}
use Rattle.qv_words.specs.declared.op.Answer.{Answer}
use Rattle.qv_cert.specs.CertReader.{Position}
use Rattle.qv_cert.specs.Text.{Text}
use Rattle.qv_check_laws.specs.Verdict.{at_end, ended, verdict_from}
use Rattle.qv_check_lines.specs.declared.verdict.Verdict.{Verdict}
use Rattle.qv_check_lines.specs.declared.verdict.Verdict.TheVariants.{Accepted, Refused, PrefixLimit, ReadFault, ReadLimit, NoMemory}
use Rattle.qv_check_lines.specs.Ending.{ReadsOn}
use Rattle.qv_check_defs.specs.Outcome.{Outcome, answer_line, outcome_of, refused_line}
use Rattle.qv_check_script.specs.Ending.{status_of}
use Rattle.qv_script_defs.specs.Faults.{refusal}
use Rattle.qv_qdimacs.specs.Text.{Said}
use Rattle.qv_shell_qdimacs.specs.declared.judging.Judged.{Judged}
use Rattle.qv_shell_qdimacs.specs.Texts.{limit_word}
use Rattle.qv_shell_qdimacs.specs.Checking.{beside}

-- what a check comes to, as it is kept
abbrev pub outcome_in : Judged → Outcome
outcome_in judged = record { text = judged.text.items; status = status_of judged.ending }

-- the outcome beside what a text says, behind so many lines of a certificate of this version
abbrev pub outcome_behind : (places : ℕ) (version given : ℕ) → Said → Text → Outcome
outcome_behind places version given said t = outcome_of (verdict_from version 1 (beside places said) (suc given) t.lines t.rest)

-- an accepted answer, and behind it how the certificate ends of which these lines are left
abbrev pub closed_by : (given : ℕ) → Answer → Text → Outcome
closed_by given answer t =
    let last = outcome_of (ended (at_end (given + 1) t.lines t.rest)) in
    record { text = answer_line answer ++ last.text; status = last.status }

-- by the verdict on the section, behind which these lines are left, if they are told
abbrev pub IsJudgedBy : (given : ℕ) → (left : Option Text) → Verdict → Judged → Type 0
IsJudgedBy given left (Accepted answer) judged = IfSome left (λ t. outcome_in judged ≡ closed_by given answer t)
IsJudgedBy given left (Refused line k) judged = outcome_in judged ≡ record { text = refused_line line k; status = 6 }
IsJudgedBy given left PrefixLimit judged = outcome_in judged ≡ record { text = refusal 0 limit_word; status = 1 }
IsJudgedBy given left ReadFault judged = ⊥
IsJudgedBy given left ReadLimit judged = ⊥
IsJudgedBy given left NoMemory judged = ⊥

-- behind an accepted section the reader goes on
abbrev pub GoesOn : Verdict → Position → Type 0
GoesOn (Accepted answer) reader = ReadsOn reader
GoesOn _ reader = Unit {0}

abbrev pub IsAccepted : Verdict → Type 0
IsAccepted (Accepted answer) = Unit {0}
IsAccepted _ = ⊥
