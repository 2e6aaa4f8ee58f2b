-- The runs of a place's named bits lie within them, are apart, and have each of these bits.
use Rattle.std.proofs.Common.{◌≡◌, ℕ, zero, suc, ◌+◌, ◌-◌, ◌≤◌, ◌<◌, ◌⊎◌, inl, inr, Bool, true, false, Option, Some, None, List, [], ◌∷◌, ◌++◌, length, slice_get, refl, arith}
use Rattle.std.specs.List.{AllByRecursion}
use Rattle.qv_words.specs.Linked.{Run, AreApart}
use Rattle.qv_words.proofs.Elements.{all-weaker}
use Rattle.qv_words.proofs.Leaves.{both}
use Rattle.qv_game_entry_laws.specs.Fixings.{runs_from}

-- a run of this place between two indexes
pub record Lies (place start end : ℕ) (r : Run) : Type 0 where
  pub at_place : r.place ≡ place
  pub from : start ≤ r.low
  pub ordered : r.low ≤ r.high
  pub within : r.high < end

wider : (place a b c d : ℕ) → a ≤ b → d ≤ c → (rs : List Run) → AllByRecursion (Lies place b d) rs → AllByRecursion (Lies place a c) rs
wider place a b c d low high rs h =
    all-weaker (Lies place b d) (Lies place a c) rs
    (λ r l. record { at_place = l.at_place; from = omega (arith, low, l.from); ordered = l.ordered; within = omega (arith, high, l.within) }) h

mutual
  pub closed-lie : (place index : ℕ) (fs : List Bool) → AllByRecursion (Lies place index (index + length fs)) (runs_from place index None fs)
  closed-lie place index [] = tt
  closed-lie place index (false ∷ fs) =
      wider place index (suc index) (index + suc (length fs)) (suc index + length fs) (omega arith) (omega arith) (runs_from place (suc index) None fs) (closed-lie place (suc index) fs)
  closed-lie place index (true ∷ fs) =
      wider place index index (index + suc (length fs)) (suc index + length fs) (omega arith) (omega arith) (runs_from place (suc index) (Some index) fs)
      (open-lie place (suc index) index fs (omega arith))

  pub open-lie : (place index low : ℕ) (fs : List Bool) → low < index → AllByRecursion (Lies place low (index + length fs)) (runs_from place index (Some low) fs)
  open-lie place index low [] h = (record { at_place = refl; from = omega arith; ordered = omega (arith, h); within = omega (arith, h) }, tt)
  open-lie place index low (true ∷ fs) h =
      wider place low low (index + suc (length fs)) (suc index + length fs) (omega arith) (omega arith) (runs_from place (suc index) (Some low) fs)
      (open-lie place (suc index) low fs (omega (arith, h)))
  open-lie place index low (false ∷ fs) h = (
    record { at_place = refl; from = omega arith; ordered = omega (arith, h); within = omega (arith, h) },
    wider place low (suc index) (index + suc (length fs)) (suc index + length fs) (omega (arith, h)) (omega arith) (runs_from place (suc index) None fs)
        (closed-lie place (suc index) fs),
  )

-- each is apart from those behind it
abbrev pub Apart : List Run → Type 0
Apart [] = Unit {0}
Apart (r ∷ rs) = AllByRecursion (AreApart r) rs × Apart rs

mutual
  pub closed-apart : (place index : ℕ) (fs : List Bool) → Apart (runs_from place index None fs)
  closed-apart place index [] = tt
  closed-apart place index (false ∷ fs) = closed-apart place (suc index) fs
  closed-apart place index (true ∷ fs) = open-apart place (suc index) index fs (omega arith)

  pub open-apart : (place index low : ℕ) (fs : List Bool) → low < index → Apart (runs_from place index (Some low) fs)
  open-apart place index low [] h = (tt, tt)
  open-apart place index low (true ∷ fs) h = open-apart place (suc index) low fs (omega (arith, h))
  open-apart place index low (false ∷ fs) h = (
    all-weaker (Lies place (suc index) (suc index + length fs)) (AreApart (record { place = place; high = index - 1; low = low })) (runs_from place (suc index) None fs)
        (λ r l. λ e. inl (let low_end = l.from in omega (arith, low_end, h))) (closed-lie place (suc index) fs),
    closed-apart place (suc index) fs,
  )

pub apart-append : (rs ss : List Run) → Apart rs → Apart ss → AllByRecursion (λ r. AllByRecursion (AreApart r) ss) rs → Apart (rs ++ ss)
apart-append [] ss a b h = b
apart-append (r ∷ rs) ss a b h = (both (AreApart r) rs ss a.0 h.0, apart-append rs ss a.1 b h.1)

-- one of the runs has this index
abbrev pub In : {A : Type 0} → A → List A → Type 0
In x [] = ⊥
In x (y ∷ ys) = (x ≡ y) ⊎ In x ys

pub in-front : {A : Type 0} (x : A) (xs ys : List A) → In x xs → In x (xs ++ ys)
in-front x [] ys h = absurd h
in-front x (z ∷ xs) ys (inl e) = inl e
in-front x (z ∷ xs) ys (inr h) = inr (in-front x xs ys h)

pub in-back : {A : Type 0} (x : A) (xs ys : List A) → In x ys → In x (xs ++ ys)
in-back x [] ys h = h
in-back x (z ∷ xs) ys h = inr (in-back x xs ys h)

pub record Covers (place index : ℕ) (rs : List Run) : Type 0 where
  pub run : Run
  pub among : In run rs
  pub at_place : run.place ≡ place
  pub low : run.low ≤ index
  pub high : index ≤ run.high

pub covers-behind : (place index : ℕ) (rs ss : List Run) → Covers place index ss → Covers place index (rs ++ ss)
covers-behind place index rs ss c = record { run = c.run; among = in-back c.run rs ss c.among; at_place = c.at_place; low = c.low; high = c.high }

pub covers-before : (place index : ℕ) (rs ss : List Run) → Covers place index rs → Covers place index (rs ++ ss)
covers-before place index rs ss c = record { run = c.run; among = in-front c.run rs ss c.among; at_place = c.at_place; low = c.low; high = c.high }

-- a run that has begun has all indexes so far
open-covers : (place index low j : ℕ) (fs : List Bool) → low ≤ j → j < index → Covers place j (runs_from place index (Some low) fs)
open-covers place index low j [] l h =
    record { run = record { place = place; high = index - 1; low = low }; among = inl refl; at_place = refl; low = l; high = omega (arith, h) }
open-covers place index low j (true ∷ fs) l h = open-covers place (suc index) low j fs l (omega (arith, h))
open-covers place index low j (false ∷ fs) l h =
    record { run = record { place = place; high = index - 1; low = low }; among = inl refl; at_place = refl; low = l; high = omega (arith, h) }

-- and each index that is named is in one
abbrev pub IsBegun : ℕ → Option ℕ → Type 0
IsBegun index None = Unit {0}
IsBegun index (Some low) = low < index

pub covers : (place index : ℕ) (o : Option ℕ) (fs : List Bool) (k j : ℕ) → IsBegun index o → j ≡ index + k → slice_get fs k ≡ Some true → Covers place j (runs_from place index o fs)
covers place index o [] k j b e h = absurd (cc)
covers place index None (false ∷ fs) zero j b e h = absurd (cc)
covers place index None (true ∷ fs) zero j b e h = open-covers place (suc index) index j fs (omega (arith, e)) (omega (arith, e))
covers place index (Some low) (false ∷ fs) zero j b e h = absurd (cc)
covers place index (Some low) (true ∷ fs) zero j b e h = open-covers place (suc index) low j fs (omega (arith, b, e)) (omega (arith, e))
covers place index None (false ∷ fs) (suc k) j b e h = covers place (suc index) None fs k j tt (omega (arith, e)) h
covers place index None (true ∷ fs) (suc k) j b e h = covers place (suc index) (Some index) fs k j (omega arith) (omega (arith, e)) h
covers place index (Some low) (true ∷ fs) (suc k) j b e h = covers place (suc index) (Some low) fs k j (omega (arith, b)) (omega (arith, e)) h
covers place index (Some low) (false ∷ fs) (suc k) j b e h =
    let more = covers place (suc index) None fs k j tt (omega (arith, e)) h in
    record { run = more.run; among = inr more.among; at_place = more.at_place; low = more.low; high = more.high }
