-- How the check of a SAT solver's proof ends.
use Rattle.std.proofs.Common.{◌≡◌, ◌≤◌, ◌⊎◌, ℕ, List, [], Option, Some, None, inl, inr, refl, sym, subst, ◌∙◌, arith}
use Rattle.std.specs.Prelude.{IfSome}
use Rattle.qv_io.proofs.SinkLemmas.{Appends-nothing}
use Rattle.qv_check_defs.specs.Outcome.{Outcome}
use Rattle.qv_check_script.specs.declared.ending.Ending.{Ending}
use Rattle.qv_check_script.specs.declared.ending.Ending.TheVariants.{Accepted, Faulty, Refused}
use Rattle.qv_check_script.specs.declared.ending.Halt.{Halt}
use Rattle.qv_check_script.specs.declared.ending.Halt.TheVariants as halt
use Rattle.qv_check_script.specs.Ending.{status_of, halt_status}
use Rattle.qv_dimacs.specs.Clauses.{dimacs_of}
use Rattle.qv_lrat.specs.Laws.{DoneShowsNoModel, SaysNoModel}
use Rattle.qv_lrat.specs.Verdict.{lrat_outcome}
use Rattle.qv_shell.specs.Checking.{IsWhole, IsFront, IsShort, IsEnd}
use Rattle.qv_shell.specs.Lrat.{IsLratRun}
use Rattle.qv_lrat.proofs.Unfinished.{nothing-short}
use Rattle.qv_shell.proofs.Checks.{ends-well}

-- where both texts are told
abbrev Told : (cnf proof : Option (List ℕ)) → (Outcome → Type 0) → Type 0
Told cnf proof P = IfSome cnf (λ text. IfSome proof (λ bytes. P (lrat_outcome text bytes)))

abbrev Shown : (cnf proof : Option (List ℕ)) → ℕ → Type 0
Shown cnf proof status = IfSome cnf (λ text. IfSome proof (λ bytes. status ≡ 0 → SaysNoModel (dimacs_of text)))

-- another status than 0 shows nothing
none-shown : (cnf proof : Option (List ℕ)) (status : ℕ) → 3 ≤ status → Shown cnf proof status
none-shown None proof status high = tt
none-shown (Some text) None status high = tt
none-shown (Some text) (Some bytes) status high = λ zero. absurd (omega (arith, high, zero))

-- status 0 of a whole outcome is the outcome's
whole-shown : (cnf proof held held' : Option (List ℕ)) (status : ℕ) → DoneShowsNoModel → Told cnf proof (IsWhole held held' status) → Shown cnf proof status
whole-shown None proof held held' status law done = tt
whole-shown (Some text) None held held' status law done = tt
whole-shown (Some text) (Some bytes) held held' status law done = λ zero. law text bytes (sym done.0 ∙ zero)

module _ (unread : Type 0) (cnf proof held held' : Option (List ℕ)) where
  abbrev Run : ℕ → Type 0
  Run status = IsLratRun unread cnf proof held held' status

  -- at its end
  pub proof-done : DoneShowsNoModel → (e : Ending) (status : ℕ) → status ≡ status_of e → (e ≡ Faulty → unread) → Told cnf proof (IsWhole held held' (status_of e)) → Run status
  proof-done law e status is over done = subst Run (sym is) (go e over done)
    where
      ended : (n : ℕ) → IsEnd n → (3 ≤ n → n ≤ 5 → ⊥) → (n ≡ 1 → unread) → Told cnf proof (IsWhole held held' n) → Run n
      ended n early late over done = record {
        ends = inl early;
        whole = λ _. done;
        front = λ high low. absurd (late high low);
        short = λ five. absurd (late (omega (arith, five)) (omega (arith, five)));
        shown = whole-shown cnf proof held held' n law done;
        passed_over = over;
      }

      go : (x : Ending) → (x ≡ Faulty → unread) → Told cnf proof (IsWhole held held' (status_of x)) → Run (status_of x)
      go Accepted over done = ended 0 (ends-well Accepted) (λ high low. omega (arith, high)) (λ one. absurd (omega (arith, one))) done
      go Faulty over done = ended 1 (ends-well Faulty) (λ high low. omega (arith, high)) (λ one. over refl) done
      go Refused over done = ended 6 (ends-well Refused) (λ high low. omega (arith, low)) (λ one. absurd (omega (arith, one))) done

  -- or before
  stops : (n : ℕ) → 3 ≤ n → n ≤ 5 → Told cnf proof (IsFront held held') → (n ≡ 5 → Told cnf proof (IsShort held held')) → Run n
  stops n high low cut short = record {
    ends = inr (high, low);
    whole = λ early. elim early [ inl few ↦ absurd (omega (arith, few, high)) | inr six ↦ absurd (omega (arith, six, low)) ];
    front = λ _ _. cut;
    short = short;
    shown = none-shown cnf proof n high;
    passed_over = λ one. absurd (omega (arith, one, high));
  }

  pub proof-halted : (h : Halt) (status : ℕ) → status ≡ halt_status h → Told cnf proof (IsFront held held') → (h ≡ halt.NoMemory → Told cnf proof (IsShort held held')) → Run status
  proof-halted h status is cut short = subst Run (sym is) (go h short)
    where
      go : (x : Halt) → (x ≡ halt.NoMemory → Told cnf proof (IsShort held held')) → Run (halt_status x)
      go halt.Read short = stops 3 (omega arith) (omega arith) cut (λ five. absurd (omega (arith, five)))
      go halt.ReadLimit short = stops 3 (omega arith) (omega arith) cut (λ five. absurd (omega (arith, five)))
      go halt.Write short = stops 4 (omega arith) (omega arith) cut (λ five. absurd (omega (arith, five)))
      go halt.NoMemory short = stops 5 (omega arith) (omega arith) cut (λ _. short refl)

-- where it can't be said what was asked for, nothing was written
pub unproved : (unread : Type 0) (cnf proof held : Option (List ℕ)) → IsLratRun unread cnf proof held held 5
unproved unread cnf proof held = stops unread cnf proof held held 5 (omega arith) (omega arith) (front cnf proof) (λ _. nothing-short cnf proof held)
  where
    front : (c p : Option (List ℕ)) → IfSome c (λ text. IfSome p (λ bytes. IsFront held held (lrat_outcome text bytes)))
    front None p = tt
    front (Some text) None = tt
    front (Some text) (Some bytes) = ([], (lrat_outcome text bytes).text, refl, Appends-nothing held)
