-- Sections that are judged while they are read.
use Rattle.std.proofs.Common.{◌≡◌, ◌≢◌, ℕ, suc, ◌+◌, Some, List, [], ◌∷◌, ◌++◌, length, ap, ◌∙◌, arith}
use Rattle.qv_words.specs.declared.op.Answer.{Answer}
use Rattle.qv_cert.specs.declared.kind.RefusalKind.{RefusalKind}
use Rattle.qv_cert.specs.declared.kind.RefusalKind.TheVariants as kind
use Rattle.qv_cert.specs.Section.{Task, State, Outcome, GoesOn, Accepts, Refuses, Judged, AcceptedUpTo, RefusedAt, step, by_outcome, judged_from}
use Rattle.qv_cert.specs.Streaming.{behind_outcome, state_behind, StateIsEnough, AnswersStay, RefusalsStay}

from_some : {A : Type 0} (x y : A) → Some x ≡ Some y → x ≡ y
from_some x y e = cc

-- one line, where the lines behind it need its state alone
enough-line : (task : Task) (t : State) (n : ℕ) (before lines : List (List ℕ))
    → ((next : State) → state_behind task next before ≡ Some t → judged_from task next (suc n) (before ++ lines) ≡ judged_from task t (suc n + length before) lines)
    → (o : Outcome) → behind_outcome (λ next. state_behind task next before) o ≡ Some t
    → by_outcome n (before ++ lines) (λ next. judged_from task next (suc n) (before ++ lines)) o ≡ judged_from task t (suc n + length before) lines
enough-line task t n before lines behind (GoesOn next) e = behind next e
enough-line task t n before lines behind (Accepts answer) e = absurd cc
enough-line task t n before lines behind (Refuses k) e = absurd cc

enough : (task : Task) (before : List (List ℕ)) (s t : State) (n : ℕ) (lines : List (List ℕ)) → state_behind task s before ≡ Some t
    → judged_from task s n (before ++ lines) ≡ judged_from task t (n + length before) lines
unfolding judged_from state_behind
enough task [] s t n lines e =
    let same : s ≡ t = from_some s t e in
    let number : n ≡ n + length {A = List ℕ} [] = omega arith in
    ap (λ u. judged_from task u n lines) same ∙ ap (λ m. judged_from task t m lines) number
enough task (line ∷ before) s t n lines e =
    let number : suc n + length before ≡ n + length (line ∷ before) = omega arith in
    enough-line task t n before lines (λ next is. enough task before next t (suc n) lines is) (step task s line) e
    ∙ ap (λ m. judged_from task t m lines) number

pub state-is-enough : StateIsEnough
state-is-enough task s t n before lines e = enough task before s t n lines e

-- one line, where the judgement of the lines behind it stays
stays-line : (n m : ℕ) (answer : Answer) (lines behind more : List (List ℕ)) (f g : State → Judged)
    → ((next : State) → f next ≡ AcceptedUpTo answer m behind → g next ≡ AcceptedUpTo answer m (behind ++ more))
    → (o : Outcome) → by_outcome n lines f o ≡ AcceptedUpTo answer m behind
    → by_outcome n (lines ++ more) g o ≡ AcceptedUpTo answer m (behind ++ more)
stays-line n m answer lines behind more f g next (GoesOn s) e = next s e
stays-line n m answer lines behind more f g next (Accepts a) e =
    let answers : a ≡ answer = cc in
    let numbers : suc n ≡ m = cc in
    let rests : lines ≡ behind = cc in
    ap (λ x. AcceptedUpTo x (suc n) (lines ++ more)) answers ∙ ap (λ x. AcceptedUpTo answer x (lines ++ more)) numbers
    ∙ ap (λ x. AcceptedUpTo answer m (x ++ more)) rests
stays-line n m answer lines behind more f g next (Refuses k) e = absurd cc

stays : (task : Task) (lines : List (List ℕ)) (s : State) (n m : ℕ) (answer : Answer) (behind more : List (List ℕ))
    → judged_from task s n lines ≡ AcceptedUpTo answer m behind → judged_from task s n (lines ++ more) ≡ AcceptedUpTo answer m (behind ++ more)
unfolding judged_from
stays task [] s n m answer behind more e = absurd cc
stays task (line ∷ lines) s n m answer behind more e =
    stays-line n m answer lines behind more (λ next. judged_from task next (suc n) lines) (λ next. judged_from task next (suc n) (lines ++ more))
    (λ next is. stays task lines next (suc n) m answer behind more is) (step task s line) e

pub answers-stay : AnswersStay
answers-stay task s n m answer lines behind more e = stays task lines s n m answer behind more e

refused-line : (n m : ℕ) (k : RefusalKind) (lines more : List (List ℕ)) (f g : State → Judged)
    → ((next : State) → f next ≡ RefusedAt m k → g next ≡ RefusedAt m k)
    → (o : Outcome) → by_outcome n lines f o ≡ RefusedAt m k → by_outcome n (lines ++ more) g o ≡ RefusedAt m k
refused-line n m k lines more f g next (GoesOn s) e = next s e
refused-line n m k lines more f g next (Accepts a) e = absurd cc
refused-line n m k lines more f g next (Refuses j) e = e

refused : (task : Task) (lines : List (List ℕ)) (s : State) (n m : ℕ) (k : RefusalKind) (more : List (List ℕ)) → k ≢ kind.Truncated
    → judged_from task s n lines ≡ RefusedAt m k → judged_from task s n (lines ++ more) ≡ RefusedAt m k
unfolding judged_from
refused task [] s n m k more other e = absurd (other (kinds n m k e))
  where
    kinds : (n m : ℕ) (k : RefusalKind) → RefusedAt n kind.Truncated ≡ RefusedAt m k → k ≡ kind.Truncated
    kinds n m k e = cc
refused task (line ∷ lines) s n m k more other e =
    refused-line n m k lines more (λ next. judged_from task next (suc n) lines) (λ next. judged_from task next (suc n) (lines ++ more))
    (λ next is. refused task lines next (suc n) m k more other is) (step task s line) e

pub refusals-stay : RefusalsStay
refusals-stay task s n m k lines more other e = refused task lines s n m k more other e
