-- Limits by a script's option.
use Rattle.std.proofs.Common.{◌≡◌, ◌^◌, ℕ, zero, suc, refl, sym, ap, arith}
use Rattle.std.specs.Prelude.{min}
use Rattle.qv_meter.specs.Records.{Limits, AreLimits}
use Rattle.qv_shell_answer.specs.Metered.{lesser}

-- where there is a limit
pub some-limit : (limits : Limits) (n c : ℕ) → (n ≡ 0 → ⊥) → c ≡ min limits.conflicts n → record limits { conflicts = c } ≡ lesser limits n
some-limit limits zero c some e = absurd (some refl)
some-limit limits (suc n) c some e =
    let same : c ≡ min (suc n) limits.conflicts = omega (arith, e) in
    ap (λ (x : ℕ). record limits { conflicts = x }) same

-- one that is told as 2^60 where it is greater
pub capped : (limits : Limits) → AreLimits limits → (n : ℕ) → lesser limits (min n (2 ^ 60)) ≡ lesser limits n
capped limits h zero = refl
capped limits h (suc n) =
    let few = h.conflicts.1 in
    let one : min (suc n) limits.conflicts ≡ min limits.conflicts (min (suc n) (2 ^ 60)) = omega (arith, few) in
    sym (some-limit limits (min (suc n) (2 ^ 60)) (min (suc n) limits.conflicts) (λ e. omega (arith, e)) one)

pub lesser-limits : (limits : Limits) → AreLimits limits → (n : ℕ) → AreLimits (lesser limits n)
lesser-limits limits h zero = h
lesser-limits limits h (suc n) =
    let some = h.conflicts.0 in
    let few = h.conflicts.1 in
    record { conflicts = (omega (arith, some), omega (arith, few)); instances = h.instances; variables = h.variables }
