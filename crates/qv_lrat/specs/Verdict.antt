-- What the check of an LRAT proof beside a CNF text comes to.
use Rattle.std.specs.Prelude.{ℕ, suc, if◌then◌else◌, List, [], ◌∷◌, Option, Some, None, codes}
use Rattle.qv_cnf.specs.Literal.{Literal}
use Rattle.qv_cnf.specs.LratLine.{LratLine}
use Rattle.qv_cnf.specs.Refutation.{Judgement, Accepted, OutOfOrder, RatAt, FailsAt, LeftOpen, Standing, after_line, judged_line, standing_at}
use Rattle.qv_cert.specs.declared.kind.RefusalKind.TheVariants as kind
use Rattle.qv_cert.specs.Lines.{all_lines}
use Rattle.qv_cert_formulas.specs.Numbers.{under_ids}
use Rattle.qv_check_laws.specs.Verdict.{Ending, IsAccepted, ScriptFault, IsRefused}
use Rattle.qv_check_defs.specs.Outcome.{Outcome, ending_status, ending_text}
use Rattle.qv_dimacs.specs.declared.faults.DimacsKind.{DimacsKind}
use Rattle.qv_dimacs.specs.declared.faults.DimacsKind.TheVariants as fault
use Rattle.qv_dimacs.specs.Clauses.{Said, Clauses, Faulty, dimacs_of}
use Rattle.qv_lrat_text.specs.Grammar.{lrat_line}
use Rattle.qv_script_defs.specs.Faults.{refusal}

-- ---- the judgement of a proof

abbrev pub Judged : Type 0
Judged = Ending (List ℕ)

-- a line that is held to its rules goes on, or is refused under its number
abbrev pub by_judgement : ℕ → Judgement → Judged → Judged
by_judgement n Accepted next = next
by_judgement n OutOfOrder next = IsRefused n kind.Id
by_judgement n (RatAt position) next = IsRefused n (kind.Rat position)
by_judgement n (FailsAt position) next = IsRefused n (kind.Hint position)
by_judgement n LeftOpen next = IsRefused n kind.Open

-- once a clause without literals was accepted, lines are held to the grammar alone
abbrev pub by_line : ℕ → Standing → Option LratLine → (Standing → Judged) → Judged
by_line n s None goes_on = IsRefused n kind.Form
by_line n s (Some line) goes_on =
    if s.refuted then goes_on s else by_judgement n (judged_line s line) (goes_on (after_line s line))

-- lines, of which the first has this number, from a standing on; behind the last one a clause
-- without literals has to be there
unfoldable pub judged_lines : Standing → ℕ → List (List ℕ) → Judged
judged_lines s n [] = if s.refuted then IsAccepted else IsRefused n kind.Refutation
judged_lines s n (text ∷ texts) = by_line n s (lrat_line text) (λ next. judged_lines next (suc n) texts)

-- a proof of clauses, whose ids count from 1
abbrev pub judged_proof : List (List Literal) → List (List ℕ) → Judged
judged_proof clauses texts = judged_lines (standing_at (under_ids 1 clauses)) 1 texts

-- ---- what is printed

abbrev pub fault_word : DimacsKind → List ℕ
fault_word fault.ProblemLine = codes "problem line"
fault_word fault.Number = codes "number"
fault_word fault.Unfinished = codes "unfinished"

-- where the text has a fault
unfoldable pub faulty : ℕ → DimacsKind → Judged
faulty place k = ScriptFault (refusal place (fault_word k))

-- beside what a CNF text says
abbrev pub judged_beside : Said → List ℕ → Judged
judged_beside (Faulty place k) proof = faulty place k
judged_beside (Clauses clauses) proof = judged_proof clauses (all_lines proof)

abbrev pub outcome_of : Judged → Outcome
outcome_of j = record { text = ending_text j; status = ending_status j }

-- of these bytes of a CNF text and a proof
abbrev pub lrat_outcome : (cnf proof : List ℕ) → Outcome
lrat_outcome cnf proof = outcome_of (judged_beside (dimacs_of cnf) proof)
