-- How the check of a certificate ends that lists the clauses of its sections.
use Rattle.std.proofs.Common.{◌≡◌, ◌≤◌, ◌⊎◌, ℕ, List, Option, inl, inr, refl, sym, subst, arith}
use Rattle.std.specs.Prelude.{IfSome}
use Rattle.qv_check_defs.specs.Outcome.{Outcome}
use Rattle.qv_check_script.specs.declared.ending.Ending.{Ending}
use Rattle.qv_check_script.specs.declared.ending.Ending.TheVariants.{Accepted, Faulty, Refused}
use Rattle.qv_check_script.specs.declared.ending.Halt.{Halt}
use Rattle.qv_check_script.specs.declared.ending.Halt.TheVariants as halt
use Rattle.qv_check_script.specs.Ending.{status_of, halt_status}
use Rattle.qv_check_clauses.proofs.Listed.{nothing-cut, nothing-short}
use Rattle.qv_shell.specs.Checking.{IsEnd, IsFront, IsShort, IsWhole}
use Rattle.qv_shell.specs.Clauses.{IsClausesRun, clauses_outcome}
use Rattle.qv_shell.proofs.Checks.{answers-hold, ends-well}

-- where both texts are told
abbrev Told : (places : ℕ) (script cert : Option (List ℕ)) → (Outcome → Type 0) → Type 0
Told places script cert P = IfSome script (λ text. IfSome cert (λ bytes. P (clauses_outcome places text bytes)))

module _ (places : ℕ) (script cert held held' : Option (List ℕ)) where
  abbrev Run : ℕ → Type 0
  Run status = IsClausesRun places script cert held held' status

  -- at its end
  pub listing-done : (e : Ending) (status : ℕ) → status ≡ status_of e → Told places script cert (IsWhole held held' (status_of e)) → Run status
  listing-done e status is done = subst Run (sym is) (go e done)
    where
      ended : (n : ℕ) → IsEnd n → (3 ≤ n → n ≤ 5 → ⊥) → Told places script cert (IsWhole held held' n) → Run n
      ended n early late done = record {
        ends = inl early;
        whole = λ _. done;
        front = λ high low. absurd (late high low);
        short = λ five. absurd (late (omega (arith, five)) (omega (arith, five)));
        answers_hold = answers-hold places script cert;
      }

      go : (x : Ending) → Told places script cert (IsWhole held held' (status_of x)) → Run (status_of x)
      go Accepted done = ended 0 (ends-well Accepted) (λ high low. omega (arith, high)) done
      go Faulty done = ended 1 (ends-well Faulty) (λ high low. omega (arith, high)) done
      go Refused done = ended 6 (ends-well Refused) (λ high low. omega (arith, low)) done

  -- or before
  stops : (n : ℕ) → 3 ≤ n → n ≤ 5 → Told places script cert (IsFront held held') → (n ≡ 5 → Told places script cert (IsShort held held')) → Run n
  stops n high low cut short = record {
    ends = inr (high, low);
    whole = λ early. elim early [ inl few ↦ absurd (omega (arith, few, high)) | inr six ↦ absurd (omega (arith, six, low)) ];
    front = λ _ _. cut;
    short = short;
    answers_hold = answers-hold places script cert;
  }

  pub listing-halted : (h : Halt) (status : ℕ) → status ≡ halt_status h → Told places script cert (IsFront held held') → (h ≡ halt.NoMemory → Told places script cert (IsShort held held')) → Run status
  listing-halted h status is cut short = subst Run (sym is) (go h short)
    where
      go : (x : Halt) → (x ≡ halt.NoMemory → Told places script cert (IsShort held held')) → Run (halt_status x)
      go halt.Read short = stops 3 (omega arith) (omega arith) cut (λ five. absurd (omega (arith, five)))
      go halt.ReadLimit short = stops 3 (omega arith) (omega arith) cut (λ five. absurd (omega (arith, five)))
      go halt.Write short = stops 4 (omega arith) (omega arith) cut (λ five. absurd (omega (arith, five)))
      go halt.NoMemory short = stops 5 (omega arith) (omega arith) cut (λ _. short refl)

-- where it can't be said what was asked for, nothing was written
pub unlisted : (script cert held : Option (List ℕ)) (places : ℕ) → IsClausesRun places script cert held held 5
unlisted script cert held places = stops places script cert held held 5 (omega arith) (omega arith) (nothing-cut places script cert held) (λ _. nothing-short places script cert held)
