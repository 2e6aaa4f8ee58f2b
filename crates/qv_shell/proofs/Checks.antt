-- How a check ends.
use Rattle.std.proofs.Common.{◌≡◌, ◌≢◌, ◌≤◌, ◌⊎◌, ℕ, List, Option, Some, None, inl, inr, refl, sym, subst, arith}
use Rattle.std.specs.Prelude.{IfSome}
use Rattle.qv_check_script.specs.declared.ending.Ending.{Ending}
use Rattle.qv_check_script.specs.declared.ending.Ending.TheVariants.{Accepted, Faulty, Refused}
use Rattle.qv_check_script.specs.declared.ending.Halt.{Halt}
use Rattle.qv_check_script.specs.declared.ending.Halt.TheVariants as halt
use Rattle.qv_check_script.specs.Ending.{status_of, halt_status}
use Rattle.qv_check_script.specs.BesideLaws.{AnswersHold}
use Rattle.qv_check_script.specs.Reading.{ReadsBeside}
use Rattle.qv_check_script.proofs.Truthful.{answers-are_true}
use Rattle.qv_shell_follow.specs.Solved.{AcceptsSolved}
use Rattle.qv_shell_follow.proofs.Starting.{solved-accepted}
use Rattle.qv_check_defs.specs.Outcome.{Outcome, outcome}
use Rattle.qv_shell.specs.Checking.{IsWhole, IsFront, IsShort, IsEnd, IsCheckRun}

-- where both texts are told
abbrev Told : (places : ℕ) (script cert : Option (List ℕ)) → (Outcome → Type 0) → Type 0
Told places script cert P = IfSome script (λ text. IfSome cert (λ bytes. P (outcome places text bytes)))

pub answers-hold : (places : ℕ) (script cert : Option (List ℕ)) → IfSome script (λ text. IfSome cert (λ bytes. AnswersHold places text bytes))
answers-hold places None cert = tt
answers-hold places (Some text) None = tt
answers-hold places (Some text) (Some bytes) = answers-are_true places text bytes

pub accepts-solved : (places : ℕ) (script cert : Option (List ℕ)) → IfSome script (λ text. IfSome cert (λ bytes. AcceptsSolved places text bytes))
accepts-solved places None cert = tt
accepts-solved places (Some text) None = tt
accepts-solved places (Some text) (Some bytes) = solved-accepted places text bytes

-- the status of an end
pub ends-well : (e : Ending) → IsEnd (status_of e)
ends-well Accepted = inl (omega arith)
ends-well Faulty = inl (omega arith)
ends-well Refused = inr refl

module _ (places : ℕ) {S : Type 0} (call : S → ℕ → Option (List ℕ) → S → Type 0) (cert_unread : Type 0) (script cert : Option (List ℕ)) (source source' : S) (held held' : Option (List ℕ)) where
  abbrev Run : ℕ → Type 0
  Run status = IsCheckRun places call cert_unread script cert source source' held held' status

  abbrev Reads : ℕ → Type 0
  Reads status = ReadsBeside places call cert_unread source script held held' status source'

  -- at its end
  pub check-done : (ending : Ending) (status : ℕ) → status ≡ status_of ending → Told places script cert (IsWhole held held' (status_of ending)) → Reads (status_of ending) → Run status
  check-done ending status is done reading = subst Run (sym is) (go ending done reading)
    where
      ended : (n : ℕ) → IsEnd n → (3 ≤ n → n ≤ 5 → ⊥) → Told places script cert (IsWhole held held' n) → Reads n → Run n
      ended n early late done reading = record {
        ends = inl early;
        whole = λ _. done;
        front = λ high low. absurd (late high low);
        short = λ five. absurd (late (omega (arith, five)) (omega (arith, five)));
        answers_hold = answers-hold places script cert;
        accepts = accepts-solved places script cert;
        reading = reading;
      }

      go : (e : Ending) → Told places script cert (IsWhole held held' (status_of e)) → Reads (status_of e) → Run (status_of e)
      go Accepted done reading = ended 0 (ends-well Accepted) (λ high low. omega (arith, high)) done reading
      go Faulty done reading = ended 1 (ends-well Faulty) (λ high low. omega (arith, high)) done reading
      go Refused done reading = ended 6 (ends-well Refused) (λ high low. omega (arith, low)) done reading

  -- or before
  pub check-halted : (h : Halt) (status : ℕ) → status ≡ halt_status h → Told places script cert (IsFront held held') → (h ≡ halt.NoMemory → Told places script cert (IsShort held held')) → Reads (halt_status h) → Run status
  check-halted h status is cut short reading = subst Run (sym is) (go h short reading)
    where
      stops : (n : ℕ) → 3 ≤ n → n ≤ 5 → (n ≡ 5 → Told places script cert (IsShort held held')) → Reads n → Run n
      stops n high low short reading = record {
        ends = inr (high, low);
        whole = λ early. elim early [ inl few ↦ absurd (omega (arith, few, high)) | inr six ↦ absurd (omega (arith, six, low)) ];
        front = λ _ _. cut;
        short = short;
        answers_hold = answers-hold places script cert;
        accepts = accepts-solved places script cert;
        reading = reading;
      }

      go : (x : Halt) → (x ≡ halt.NoMemory → Told places script cert (IsShort held held')) → Reads (halt_status x) → Run (halt_status x)
      go halt.Read short reading = stops 3 (omega arith) (omega arith) (λ five. absurd (omega (arith, five))) reading
      go halt.ReadLimit short reading = stops 3 (omega arith) (omega arith) (λ five. absurd (omega (arith, five))) reading
      go halt.Write short reading = stops 4 (omega arith) (omega arith) (λ five. absurd (omega (arith, five))) reading
      go halt.NoMemory short reading = stops 5 (omega arith) (omega arith) (λ _. short refl) reading

-- where a status comes from
pub unread : {A B : Type 0} (h : Halt) → (h ≡ halt.Read → A) → (h ≡ halt.ReadLimit → B) → halt_status h ≡ 3 → A ⊎ B
unread halt.Read read limit three = inl (read refl)
unread halt.ReadLimit read limit three = inr (limit refl)
unread halt.Write read limit three = absurd (omega (arith, three))
unread halt.NoMemory read limit three = absurd (omega (arith, three))

pub unwritten : {W : Type 0} (h : Halt) → (h ≡ halt.Write → W) → halt_status h ≡ 4 → W
unwritten halt.Read write four = absurd (omega (arith, four))
unwritten halt.ReadLimit write four = absurd (omega (arith, four))
unwritten halt.Write write four = write refl
unwritten halt.NoMemory write four = absurd (omega (arith, four))

-- a check that stops for no such reason
pub no-halt : {A B C D W : Type 0} (h : Halt) → (h ≡ halt.Read → A ⊎ B) → (h ≡ halt.ReadLimit → C ⊎ D) → (h ≡ halt.Write → W) →
    (A → ⊥) → (B → ⊥) → (C → ⊥) → (D → ⊥) → (W → ⊥) → halt_status h ≢ 5 → IsEnd (halt_status h)
no-halt halt.Read read limit write a b c d w five = elim (read refl) [ inl x ↦ absurd (a x) | inr x ↦ absurd (b x) ]
no-halt halt.ReadLimit read limit write a b c d w five = elim (limit refl) [ inl x ↦ absurd (c x) | inr x ↦ absurd (d x) ]
no-halt halt.Write read limit write a b c d w five = absurd (w (write refl))
no-halt halt.NoMemory read limit write a b c d w five = absurd (five refl)
