-- The answers of a checker.
use Rattle.std.specs.Prelude.{◌≡◌, ℕ, ◌+◌, ℤ, List, drop, Option, Some, None, Result, Ok, Err}
use Rattle.qv_cnf.specs.Listing.{Numbered}
use Rattle.qv_cnf.specs.Literal.{Literal}
use Rattle.qv_cnf.specs.Rat.{judged_rat}
use Rattle.qv_cnf.specs.Refutation.{Judgement, Accepted, OutOfOrder, RatAt, FailsAt, LeftOpen}
use Rattle.qv_rup.specs.declared.faults.StepFault.{StepFault}
use Rattle.qv_rup.specs.declared.faults.StepFault.TheVariants.{Order, Rat, Hint, Open, NoMemory}

-- the answer is the judgement, but that memory may run out
abbrev pub IsJudged : Result (Unit {0}) StepFault → Judgement → Type 0
IsJudged (Ok done) judgement = judgement ≡ Accepted
IsJudged (Err Order) judgement = judgement ≡ OutOfOrder
IsJudged (Err (Rat hint)) judgement = judgement ≡ RatAt hint
IsJudged (Err (Hint hint)) judgement = judgement ≡ FailsAt hint
IsJudged (Err Open) judgement = judgement ≡ LeftOpen
IsJudged (Err NoMemory) judgement = Unit {0}

-- ---- the inside

-- the judgement is that of what comes next, or is the fault
abbrev pub LeadsTo : Result (Unit {0}) StepFault → (judgement next : Judgement) → Type 0
LeadsTo (Ok done) judgement next = judgement ≡ next
LeadsTo (Err fault) judgement next = IsJudged (Err fault) judgement

-- The first part of the hints: a clause was false, or the part ends before this place, with this set,
-- or a hint fails.
abbrev pub IsFirstPart : List Numbered → List Literal → List ℤ → List Literal → Result (Option ℕ) StepFault → Judgement → Type 0
IsFirstPart live lits hints set (Ok None) judgement = judgement ≡ Accepted
IsFirstPart live lits hints set (Ok (Some place)) judgement = judgement ≡ judged_rat live lits set (drop place hints) (place + 1)
IsFirstPart live lits hints set (Err fault) judgement = IsJudged (Err fault) judgement
