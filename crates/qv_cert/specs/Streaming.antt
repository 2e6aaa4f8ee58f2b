-- A section may be judged while it is read: what was read counts only by the state that it left.
use Rattle.std.specs.Prelude.{◌≡◌, ◌≢◌, ℕ, ◌+◌, Option, Some, None, List, [], ◌∷◌, ◌++◌, length}
use Rattle.qv_cert.specs.declared.kind.RefusalKind.{RefusalKind}
use Rattle.qv_cert.specs.declared.kind.RefusalKind.TheVariants as kind
use Rattle.qv_words.specs.declared.op.Answer.{Answer}
use Rattle.qv_cert.specs.Section.{Task, State, Outcome, GoesOn, Accepts, Refuses, step, AcceptedUpTo, RefusedAt, judged_from}

-- the state in which lines leave a section; nothing where it has ended
abbrev pub behind_outcome : (State → Option State) → Outcome → Option State
behind_outcome goes_on (GoesOn s) = goes_on s
behind_outcome goes_on (Accepts answer) = None
behind_outcome goes_on (Refuses k) = None

unfoldable pub state_behind : Task → State → List (List ℕ) → Option State
state_behind task s [] = Some s
state_behind task s (line ∷ lines) = behind_outcome (λ next. state_behind task next lines) (step task s line)

-- the lines behind need that state alone
abbrev pub StateIsEnough : Type 0
StateIsEnough =
    (task : Task) (s t : State) (n : ℕ) (before lines : List (List ℕ)) → state_behind task s before ≡ Some t →
    judged_from task s n (before ++ lines) ≡ judged_from task t (n + length before) lines

-- an answer, and a refusal other than that the lines end, stay whatever follows
abbrev pub AnswersStay : Type 0
AnswersStay =
    (task : Task) (s : State) (n m : ℕ) (answer : Answer) (lines behind more : List (List ℕ)) →
    judged_from task s n lines ≡ AcceptedUpTo answer m behind → judged_from task s n (lines ++ more) ≡ AcceptedUpTo answer m (behind ++ more)

abbrev pub RefusalsStay : Type 0
RefusalsStay =
    (task : Task) (s : State) (n m : ℕ) (k : RefusalKind) (lines more : List (List ℕ)) → k ≢ kind.Truncated →
    judged_from task s n lines ≡ RefusedAt m k → judged_from task s n (lines ++ more) ≡ RefusedAt m k
