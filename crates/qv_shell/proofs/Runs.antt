-- How the run of a script ends.
use Rattle.std.proofs.Common.{◌≡◌, ◌≢◌, ◌≤◌, ◌⊎◌, ℕ, List, Option, inl, inr, refl, sym, subst, arith}
use Rattle.qv_meter.specs.Records.{Limits, Record}
use Rattle.qv_shell_command.specs.declared.ending.Ending.{Ending}
use Rattle.qv_shell_command.specs.declared.ending.Halt.{Halt}
use Rattle.qv_shell_command.specs.declared.ending.Halt.TheVariants as halt
use Rattle.qv_shell_command.specs.Ending.{status_of, halt_status}
use Rattle.qv_shell_follow.specs.Solved.{IsSolved}
use Rattle.qv_shell.specs.Solving.{IsSolveRun}

-- with limits that are these
module _ (places : ℕ) {S : Type 0} (call : S → ℕ → Option (List ℕ) → S → Type 0) (limits wanted : Limits) (are : limits ≡ wanted) (left : Option (List ℕ)) (source source' : S) (out out' cert cert' : Option (List ℕ)) (before after : List Record) where
  -- a run with a status of such runs
  ended : (n status : ℕ) → status ≡ n → (n ≤ 5) × (n ≢ 2) → IsSolved places call limits left source source' out out' cert cert' before after n →
      IsSolveRun places call wanted left source source' out out' cert cert' before after status
  ended n status is early run =
      subst (λ (m : ℕ). IsSolveRun places call wanted left source source' out out' cert cert' before after m) (sym is)
      (subst (λ (l : Limits). IsSolveRun places call l left source source' out out' cert cert' before after n) are (record { status_is = early; run = run }))

  -- at its end
  pub run-done : (e : Ending) (status : ℕ) → status ≡ status_of e → status_of e ≤ 1 → IsSolved places call limits left source source' out out' cert cert' before after (status_of e) →
      IsSolveRun places call wanted left source source' out out' cert cert' before after status
  run-done e status is early run =
      ended (status_of e) status is (omega (arith, early), λ two. absurd (omega (arith, early, two))) run

  -- or before
  pub run-halted : (h : Halt) (status : ℕ) → status ≡ halt_status h → IsSolved places call limits left source source' out out' cert cert' before after (halt_status h) →
      IsSolveRun places call wanted left source source' out out' cert cert' before after status
  run-halted halt.Read status is run = ended 3 status is (omega arith, λ two. absurd (omega (arith, two))) run
  run-halted halt.Write status is run = ended 4 status is (omega arith, λ two. absurd (omega (arith, two))) run
  run-halted halt.NoMemory status is run = ended 5 status is (omega arith, λ two. absurd (omega (arith, two))) run

-- where a status comes from
pub unread-script : {A : Type 0} (h : Halt) → (h ≡ halt.Read → A) → halt_status h ≡ 3 → A
unread-script halt.Read read three = read refl
unread-script halt.Write read three = absurd (omega (arith, three))
unread-script halt.NoMemory read three = absurd (omega (arith, three))

pub unwritten-run : {W : Type 0} (h : Halt) → (h ≡ halt.Write → W) → halt_status h ≡ 4 → W
unwritten-run halt.Read write four = absurd (omega (arith, four))
unwritten-run halt.Write write four = write refl
unwritten-run halt.NoMemory write four = absurd (omega (arith, four))

-- a run that stops for no such reason
pub unhalted : {A B C D : Type 0} (h : Halt) → (h ≡ halt.Read → A ⊎ B) → (h ≡ halt.Write → C ⊎ D) → (A → ⊥) → (B → ⊥) → (C → ⊥) → (D → ⊥) → halt_status h ≢ 5 → halt_status h ≤ 1
unhalted halt.Read read write a b c d five = elim (read refl) [ inl x ↦ absurd (a x) | inr x ↦ absurd (b x) ]
unhalted halt.Write read write a b c d five = elim (write refl) [ inl x ↦ absurd (c x) | inr x ↦ absurd (d x) ]
unhalted halt.NoMemory read write a b c d five = absurd (five refl)
