-- How the writing of a text ends.
use Rattle.std.proofs.Common.{◌≡◌, ◌≢◌, ◌⊎◌, ℕ, List, Option, inl, inr, arith}
use Rattle.qv_gen.specs.Text.{script_text}
use Rattle.qv_meter.specs.Records.{Record}
use Rattle.qv_gen.specs.Generating.{IsGenRun, IsWriting}
use Rattle.qv_shell.specs.Bench.{IsBenchRun}

-- the usage line: with 2, unless it can't be written
pub unread-text : {W : Type 0} {status : ℕ} → (status ≡ 2) ⊎ ((status ≡ 4) × W) → status ≡ 3 → ⊥
unread-text (inl two) three = omega (arith, two, three)
unread-text (inr (four, w)) three = omega (arith, four, three)

pub unwritten-text : {W : Type 0} {status : ℕ} → (status ≡ 2) ⊎ ((status ≡ 4) × W) → status ≡ 4 → W
unwritten-text (inl two) four = absurd (omega (arith, two, four))
unwritten-text (inr (four, w)) again = w

pub ended-text : {W : Type 0} {status : ℕ} → (status ≡ 2) ⊎ ((status ≡ 4) × W) → (W → ⊥) → status ≡ 2
ended-text (inl two) never = two
ended-text (inr (four, w)) never = absurd (never w)

-- a text, of which a part is written at a status of 4
writing-ends : {W : Type 0} (out out' : Option (List ℕ)) (text : List ℕ) (ends status : ℕ) → IsWriting out out' text ends status → (status ≡ 4 → W) → (W → ⊥) → status ≡ ends
writing-ends out out' text ends status (inl (is, h)) four never = is
writing-ends out out' text ends status (inr (is, h)) four never = absurd (never (four is))

writing-unread : (out out' : Option (List ℕ)) (text : List ℕ) (status : ℕ) → IsWriting out out' text 0 status → status ≡ 3 → ⊥
writing-unread out out' text status (inl (is, h)) three = omega (arith, is, three)
writing-unread out out' text status (inr (is, h)) three = omega (arith, is, three)

-- the generator's script
pub gen-ends : {W : Type 0} (n : ℕ) (out out' : Option (List ℕ)) (status : ℕ) → IsGenRun n out out' status → (status ≡ 4 → W) → (W → ⊥) → status ≢ 5 → status ≡ 0
gen-ends n out out' status (inl h) four never memory = writing-ends out out' (script_text n) 0 status h four never
gen-ends n out out' status (inr (five, h)) four never memory = absurd (memory five)

pub gen-unread : (n : ℕ) (out out' : Option (List ℕ)) (status : ℕ) → IsGenRun n out out' status → status ≡ 3 → ⊥
gen-unread n out out' status (inl h) three = writing-unread out out' (script_text n) status h three
gen-unread n out out' status (inr (five, h)) three = omega (arith, five, three)

-- the script that is solved and checked in memory
pub bench-ends : {W : Type 0} (n : ℕ) (out out' : Option (List ℕ)) (before after : List Record) (status : ℕ) → IsBenchRun n out out' before after status →
    (status ≡ 4 → W) → (W → ⊥) → status ≢ 5 → status ≡ 0
bench-ends n out out' before after status (inl (text, is, h)) four never memory = writing-ends out out' text 0 status h four never
bench-ends n out out' before after status (inr (five, same, starts)) four never memory = absurd (memory five)

pub bench-unread : (n : ℕ) (out out' : Option (List ℕ)) (before after : List Record) (status : ℕ) → IsBenchRun n out out' before after status → status ≡ 3 → ⊥
bench-unread n out out' before after status (inl (text, is, h)) three = writing-unread out out' text status h three
bench-unread n out out' before after status (inr (five, same, starts)) three = omega (arith, five, three)

-- a page: with 0, unless it can't be written
pub page-unread : {W : Type 0} {status : ℕ} → (status ≡ 0) ⊎ ((status ≡ 4) × W) → status ≡ 3 → ⊥
page-unread (inl zero) three = omega (arith, zero, three)
page-unread (inr (four, w)) three = omega (arith, four, three)

pub page-unwritten : {W : Type 0} {status : ℕ} → (status ≡ 0) ⊎ ((status ≡ 4) × W) → status ≡ 4 → W
page-unwritten (inl zero) four = absurd (omega (arith, zero, four))
page-unwritten (inr (four, w)) again = w

pub page-ends : {W : Type 0} {status : ℕ} → (status ≡ 0) ⊎ ((status ≡ 4) × W) → (W → ⊥) → status ≡ 0
page-ends (inl zero) never = zero
page-ends (inr (four, w)) never = absurd (never w)
