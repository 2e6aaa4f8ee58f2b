-- Rising ids and their runs.
use Rattle.std.proofs.Common.{◌≡◌, ◌≢◌, ℕ, zero, suc, ◌+◌, ◌-◌, ◌<◌, ◌≤◌, ◌^◌, true, false, List, [], ◌∷◌, ◌++◌, length, take, drop, get_or, Some, inl, inr, refl, sym, ◌∙◌, ap, arith, append_assoc, length-append}
use Rattle.std.specs.List.{AllByRecursion, slice_get}
use Rattle.std.proofs.Math.Seq.{take-append_seam, drop-append_seam}
use Rattle.std.proofs.lemmas.Bool.{cases_lt}
use Rattle.std.proofs.lemmas.List.{append-nil, get_or-drop, length-drop, take-append-le, take_all}
use Rattle.std.proofs.lemmas.List.Elements.{recursion_from_All, All-from_recursion}
use Rattle.qv_cnf.specs.Listing.{next_id, Rises}
use Rattle.qv_cnf.specs.Runs.{ids_from, ids_of, AreAbove, AreRuns, IsNumbering, IsSpot}
use Rattle.qv_cnf.specs.declared.numbering.Run.{Run}
use Rattle.qv_cnf.specs.declared.numbering.Spot.{Spot}

All-append : {X : Type 0} (P : X → Type 0) (xs ys : List X) → AllByRecursion P xs → AllByRecursion P ys → AllByRecursion P (xs ++ ys)
All-append P [] ys p q = q
All-append P (x ∷ xs) ys p q = (p.0, All-append P xs ys p.1 q)

-- a run's ids
pub length-ids_from : (first n : ℕ) → length (ids_from first n) ≡ n
length-ids_from first zero = refl
length-ids_from first (suc n) = ap suc (length-ids_from (first + 1) n)

pub ids_from-split : (first n j m : ℕ) → n ≡ j + m → ids_from first n ≡ ids_from first j ++ ids_from (first + j) m
ids_from-split first n zero m e =
    let count : n ≡ m = omega arith in
    let here : first + 0 ≡ first = omega arith in
    rw (count, here)
ids_from-split first zero (suc j) m e = absurd (omega arith)
ids_from-split first (suc n) (suc j) m e =
    let next : first + suc j ≡ first + 1 + j = omega arith in
    rw next (ap (λ (rest : List ℕ). first ∷ rest) (ids_from-split (first + 1) n j m (omega arith)))

pub ids_from-push : (first n : ℕ) → ids_from first (n + 1) ≡ ids_from first n ++ (first + n) ∷ []
ids_from-push first n = ids_from-split first (n + 1) n 1 refl

from-below : (first n m : ℕ) → first + n ≤ m → AllByRecursion (λ id. id < m) (ids_from first n)
from-below first zero m h = tt
from-below first (suc n) m h = (omega arith, from-below (first + 1) n m (omega arith))

from-above : (first n m : ℕ) → m < first → AllByRecursion (λ id. m < id) (ids_from first n)
from-above first zero m h = tt
from-above first (suc n) m h = (h, from-above (first + 1) n m (omega arith))

-- one run behind others
pub ids_of-append : (xs ys : List Run) → ids_of (xs ++ ys) ≡ ids_of xs ++ ids_of ys
ids_of-append [] ys = refl
ids_of-append (x ∷ xs) ys = ap (λ (rest : List ℕ). ids_from x.first x.count ++ rest) (ids_of-append xs ys) ∙ sym (append_assoc (ids_from x.first x.count) (ids_of xs) (ids_of ys))

-- what stands around a run
record Around (low at : ℕ) (front : List Run) (r : Run) (back : List Run) : Type 0 where
  pub below : AllByRecursion (λ id. id < r.first) (ids_of front)
  pub low_is : low ≤ r.first
  pub at_is : r.at ≡ at + length (ids_of front)
  pub after : AreRuns (r.first + r.count) (r.at + r.count) back

around : (low at : ℕ) (front : List Run) (r : Run) (back : List Run) → AreRuns low at (front ++ r ∷ back) → Around low at front r back
around low at [] r back p = record { below = tt; low_is = p.0; at_is = omega (arith, p.1); after = rw p.1 p.2 }
around low at (s ∷ front) r back p =
    let rest = around (s.first + s.count) (at + s.count) front r back p.2 in
    let size : length (ids_from s.first s.count) ≡ s.count = length-ids_from s.first s.count in
    record {
      below = All-append (λ id. id < r.first) (ids_from s.first s.count) (ids_of front) (from-below s.first s.count r.first rest.low_is) rest.below;
      low_is = omega (arith, p.0, rest.low_is);
      at_is = omega (arith, rest.at_is, size, length-append (ids_from s.first s.count) (ids_of front));
      after = rest.after;
    }

-- ids behind a bound
above : (low at m : ℕ) (runs : List Run) → AreRuns low at runs → m < low → AllByRecursion (λ id. m < id) (ids_of runs)
above low at m [] p h = tt
above low at m (r ∷ rs) p h =
    All-append (λ id. m < id) (ids_from r.first r.count) (ids_of rs) (from-above r.first r.count m (omega (arith, p.0))) (above (r.first + r.count) (at + r.count) m rs p.2 (omega (arith, p.0)))

all_above : (low at m : ℕ) (runs : List Run) → AreRuns low at runs → AreAbove m runs → AllByRecursion (λ id. m < id) (ids_of runs)
all_above low at m [] p h = tt
all_above low at m (r ∷ rs) p h =
    All-append (λ id. m < id) (ids_from r.first r.count) (ids_of rs) (from-above r.first r.count m h) (above (r.first + r.count) (at + r.count) m rs p.2 (omega arith))

-- ids apart from one
apart_below : (ids : List ℕ) (id : ℕ) → AllByRecursion (λ other. other < id) ids → AllByRecursion (λ other. other ≢ id) ids
apart_below [] id h = tt
apart_below (x ∷ xs) id h = ((λ e. omega (arith, h.0)), apart_below xs id h.1)

apart_above : (ids : List ℕ) (id : ℕ) → AllByRecursion (λ other. id < other) ids → AllByRecursion (λ other. other ≢ id) ids
apart_above [] id h = tt
apart_above (x ∷ xs) id h = ((λ e. omega (arith, h.0)), apart_above xs id h.1)

weaker : (ids : List ℕ) (id : ℕ) → AllByRecursion (λ other. id < other) ids → AllByRecursion (λ other. id ≤ other) ids
weaker [] id h = tt
weaker (x ∷ xs) id h = (omega (arith, h.0), weaker xs id h.1)

lower : (ids : List ℕ) (m id : ℕ) → m ≤ id → AllByRecursion (λ other. other < m) ids → AllByRecursion (λ other. other < id) ids
lower [] m id h a = tt
lower (x ∷ xs) m id h a = (omega (arith, a.0), lower xs m id h a.1)

get_seam : (low high : List ℕ) (id : ℕ) → slice_get (low ++ id ∷ high) (length low) ≡ Some id
get_seam [] high id = refl
get_seam (x ∷ xs) high id = get_seam xs high id

-- an id that is among others
spot-taken : (low high : List ℕ) (id : ℕ) → AllByRecursion (λ other. other < id) low → AllByRecursion (λ other. id < other) high → IsSpot (low ++ id ∷ high) id (record { at = length low; taken = true })
spot-taken low high id b a = record {
  within = omega (arith, length-append low (id ∷ high));
  front = rw (take-append_seam low (id ∷ high)) (All-from_recursion (λ other. other < id) low b);
  rest = rw (drop-append_seam low (id ∷ high)) (All-from_recursion (λ other. id ≤ other) (id ∷ high) (omega arith, weaker high id a));
  there = λ _. get_seam low high id;
  free = λ e. cc;
}

-- and one that isn't
spot-free : (low high : List ℕ) (id : ℕ) → AllByRecursion (λ other. other < id) low → AllByRecursion (λ other. id < other) high → IsSpot (low ++ high) id (record { at = length low; taken = false })
spot-free low high id b a = record {
  within = omega (arith, length-append low high);
  front = rw (take-append_seam low high) (All-from_recursion (λ other. other < id) low b);
  rest = rw (drop-append_seam low high) (All-from_recursion (λ other. id ≤ other) high (weaker high id a));
  there = λ e. cc;
  free = λ _. All-from_recursion (λ other. other ≢ id) (low ++ high) (All-append (λ other. other ≢ id) low high (apart_below low id b) (apart_above high id a));
}

same_spot : (ids ids' : List ℕ) (id : ℕ) (s s' : Spot) → ids ≡ ids' → s ≡ s' → IsSpot ids' id s' → IsSpot ids id s
same_spot ids ids' id s s' e f p = rw (e, f) p

-- in a run
pub spot-in_run : (front : List Run) (r : Run) (back : List Run) (id : ℕ) → AreRuns 0 0 (front ++ r ∷ back) → r.first ≤ id → id - r.first < r.count → IsSpot (ids_of (front ++ r ∷ back)) id (record { at = r.at + (id - r.first); taken = true })
spot-in_run front r back id p up h =
    let w = around 0 0 front r back p in
    let j = id - r.first in
    let m = r.count - j - 1 in
    let own : r.count ≡ j + suc m = omega arith in
    let here : r.first + j ≡ id = omega arith in
    let low = ids_of front ++ ids_from r.first j in
    let high = ids_from (id + 1) m ++ ids_of back in
    let split : ids_from r.first r.count ≡ ids_from r.first j ++ id ∷ ids_from (id + 1) m = ids_from-split r.first r.count j (suc m) own ∙ ap (λ (n : ℕ). ids_from r.first j ++ ids_from n (suc m)) here in
    let whole : ids_of (front ++ r ∷ back) ≡ low ++ id ∷ high =
    ids_of-append front (r ∷ back)
    ∙ rw split (simp append_assoc) in
    let size : r.at + j ≡ length low = omega (arith, w.at_is, length-append (ids_of front) (ids_from r.first j), length-ids_from r.first j) in
    let below : AllByRecursion (λ other. other < id) low = All-append (λ other. other < id) (ids_of front) (ids_from r.first j) (lower (ids_of front) r.first id up w.below) (from-below r.first j id (omega arith)) in
    let over : AllByRecursion (λ other. id < other) high = All-append (λ other. id < other) (ids_from (id + 1) m) (ids_of back) (from-above (id + 1) m id (omega arith)) (above (r.first + r.count) (r.at + r.count) id back w.after (omega arith)) in
    let spot : record { at = r.at + j; taken = true } ≡ (let s : Spot = record { at = length low; taken = true } in s) = ap (λ (n : ℕ). let s : Spot = record { at = n; taken = true } in s) size in
    same_spot (ids_of (front ++ r ∷ back)) (low ++ id ∷ high) id (record { at = r.at + j; taken = true }) (record { at = length low; taken = true }) whole spot (spot-taken low high id below over)

-- behind a run, and before the next
pub spot-behind_run : (front : List Run) (r : Run) (back : List Run) (id : ℕ) → AreRuns 0 0 (front ++ r ∷ back) → r.first ≤ id → r.count ≤ id - r.first → AreAbove id back → IsSpot (ids_of (front ++ r ∷ back)) id (record { at = r.at + r.count; taken = false })
spot-behind_run front r back id p up h beyond =
    let w = around 0 0 front r back p in
    let low = ids_of front ++ ids_from r.first r.count in
    let high = ids_of back in
    let whole : ids_of (front ++ r ∷ back) ≡ low ++ high = ids_of-append front (r ∷ back) ∙ simp append_assoc in
    let size : r.at + r.count ≡ length low = omega (arith, w.at_is, length-append (ids_of front) (ids_from r.first r.count), length-ids_from r.first r.count) in
    let below : AllByRecursion (λ other. other < id) low = All-append (λ other. other < id) (ids_of front) (ids_from r.first r.count) (lower (ids_of front) r.first id up w.below) (from-below r.first r.count id (omega arith)) in
    let over : AllByRecursion (λ other. id < other) high = all_above (r.first + r.count) (r.at + r.count) id back w.after beyond in
    let spot : record { at = r.at + r.count; taken = false } ≡ (let s : Spot = record { at = length low; taken = false } in s) = ap (λ (n : ℕ). let s : Spot = record { at = n; taken = false } in s) size in
    same_spot (ids_of (front ++ r ∷ back)) (low ++ high) id (record { at = r.at + r.count; taken = false }) (record { at = length low; taken = false }) whole spot (spot-free low high id below over)

-- before all
pub spot-first : (runs : List Run) (id : ℕ) → AreRuns 0 0 runs → AreAbove id runs → IsSpot (ids_of runs) id (record { at = 0; taken = false })
spot-first runs id p h = spot-free [] (ids_of runs) id tt (all_above 0 0 id runs p h)

-- a run stands before the last one's end
place-within : (front : List Run) (r : Run) (back : List Run) (last : Run) → AreRuns 0 0 (front ++ r ∷ (back ++ last ∷ [])) → r.at + r.count ≤ last.at
place-within front r back last p =
    let w = around 0 0 front r (back ++ last ∷ []) p in
    let v = around (r.first + r.count) (r.at + r.count) back last [] w.after in
    omega (arith, v.at_is)

AreAbove-append : (xs : List Run) (last : Run) (id : ℕ) → AreAbove id xs → id < last.first → AreAbove id (xs ++ last ∷ [])
AreAbove-append [] last id h l = l
AreAbove-append (x ∷ xs) last id h l = h

split-at : (xs : List Run) (j : ℕ) (d : Run) → j < length xs → xs ≡ take j xs ++ get_or xs j d ∷ drop (suc j) xs
split-at [] j d h = absurd (omega arith)
split-at (x ∷ xs) zero d h = refl
split-at (x ∷ xs) (suc j) d h = ap (λ (rest : List Run). x ∷ rest) (split-at xs j d (omega arith))

-- a run before the last one, and what is around it
pub run-split : (before : List Run) (last : Run) (j : ℕ) (d : Run) → j < length before → before ++ last ∷ [] ≡ take j before ++ get_or before j d ∷ (drop (suc j) before ++ last ∷ [])
run-split before last j d h =
    ap (λ (xs : List Run). xs ++ last ∷ []) (split-at before j d h) ∙ append_assoc (take j before) (get_or before j d ∷ drop (suc j) before) (last ∷ [])

-- where an id stands that isn't below a run, and isn't above the next
pub spot-near : (front : List Run) (r : Run) (back : List Run) (id : ℕ) (s : Spot) → AreRuns 0 0 (front ++ r ∷ back) → r.first ≤ id → AreAbove id back → (id - r.first < r.count → s ≡ record { at = r.at + (id - r.first); taken = true }) → (r.count ≤ id - r.first → s ≡ record { at = r.at + r.count; taken = false }) → IsSpot (ids_of (front ++ r ∷ back)) id s
spot-near front r back id s p up over there behind =
    elim (cases_lt (id - r.first) r.count) [
      | inl l ↦ rw (there l) (spot-in_run front r back id p up l)
      | inr m ↦ rw (behind m) (spot-behind_run front r back id p up m over)
    ]

-- where an id stands below all
pub spot-below : (before : List Run) (last : Run) (id : ℕ) → AreRuns 0 0 (before ++ last ∷ []) → AreAbove id before → id < last.first → IsSpot (ids_of (before ++ last ∷ [])) id (record { at = 0; taken = false })
spot-below before last id p h l = spot-first (before ++ last ∷ []) id p (AreAbove-append before last id h l)

-- where it stands behind a run before the last one
pub spot-between : (before : List Run) (last : Run) (id j : ℕ) (d : Run) (s : Spot) → AreRuns 0 0 (before ++ last ∷ []) → j < length before → (get_or before j d).first ≤ id → AreAbove id (drop (suc j) before) → id < last.first → (id - (get_or before j d).first < (get_or before j d).count → s ≡ record { at = (get_or before j d).at + (id - (get_or before j d).first); taken = true }) → ((get_or before j d).count ≤ id - (get_or before j d).first → s ≡ record { at = (get_or before j d).at + (get_or before j d).count; taken = false }) → IsSpot (ids_of (before ++ last ∷ [])) id s
spot-between before last id j d s p h up over l there behind =
    let e = run-split before last j d h in
    rw e (spot-near (take j before) (get_or before j d) (drop (suc j) before ++ last ∷ []) id s (rw e at p) up (AreAbove-append (drop (suc j) before) last id over l) there behind)

-- it ends before the last one begins
pub place-below : (before : List Run) (last : Run) (j : ℕ) (d : Run) → AreRuns 0 0 (before ++ last ∷ []) → j < length before → (get_or before j d).at + (get_or before j d).count ≤ last.at
place-below before last j d p h =
    place-within (take j before) (get_or before j d) (drop (suc j) before) last (rw (run-split before last j d h) at p)

-- the ids rise
rises-from : (low first n : ℕ) (ids : List ℕ) → low ≤ first → Rises (first + n) ids → Rises low (ids_from first n ++ ids)
rises-from low first zero [] h r = tt
rises-from low first zero (x ∷ xs) h r = (omega (arith, r.0), r.1)
rises-from low first (suc n) ids h r =
    let next : first + suc n ≡ first + 1 + n = omega arith in
    (h, rises-from (first + 1) (first + 1) n ids (omega arith) (rw next at r))

pub rises-ids_of : (low at : ℕ) (runs : List Run) → AreRuns low at runs → Rises low (ids_of runs)
rises-ids_of low at [] p = tt
rises-ids_of low at (r ∷ rs) p = rises-from low r.first r.count (ids_of rs) p.0 (rises-ids_of (r.first + r.count) (at + r.count) rs p.2)

-- how many ids there are
pub length-ids_of : (low at : ℕ) (before : List Run) (last : Run) → AreRuns low at (before ++ last ∷ []) → at + length (ids_of (before ++ last ∷ [])) ≡ last.at + last.count
length-ids_of low at [] last p = omega (arith, p.1, length-append (ids_from last.first last.count) [], length-ids_from last.first last.count)
length-ids_of low at (r ∷ rs) last p =
    let rest = length-ids_of (r.first + r.count) (at + r.count) rs last p.2 in
    omega (arith, rest, length-append (ids_from r.first r.count) (ids_of (rs ++ last ∷ [])), length-ids_from r.first r.count)

-- one more id in the last run
pub AreRuns-last : (low at : ℕ) (before : List Run) (last last' : Run) → last'.first ≡ last.first → last'.at ≡ last.at → AreRuns low at (before ++ last ∷ []) → AreRuns low at (before ++ last' ∷ [])
AreRuns-last low at [] last last' e f p = (omega (arith, p.0), f ∙ p.1, tt)
AreRuns-last low at (r ∷ rs) last last' e f p = (p.0, p.1, AreRuns-last (r.first + r.count) (at + r.count) rs last last' e f p.2)

pub ids_of-last : (before : List Run) (last last' : Run) → last'.first ≡ last.first → last'.count ≡ last.count + 1 → ids_of (before ++ last' ∷ []) ≡ ids_of (before ++ last ∷ []) ++ (last.first + last.count) ∷ []
ids_of-last before last last' e f =
    let own : ids_from last'.first last'.count ≡ ids_from last.first last.count ++ (last.first + last.count) ∷ [] = rw (e, f) (ids_from-push last.first last.count) in
    rw (ids_of-append before (last' ∷ []), ids_of-append before (last ∷ []), append-nil (ids_from last'.first last'.count), append-nil (ids_from last.first last.count), own)
    (sym (append_assoc (ids_of before) (ids_from last.first last.count) ((last.first + last.count) ∷ [])))

-- where the runs end
end_of : ℕ → List Run → ℕ
end_of low [] = low
end_of low (r ∷ rs) = end_of (r.first + r.count) rs

next_id-behind : (first n : ℕ) (ids : List ℕ) → next_id ids ≤ next_id (ids_from first n ++ ids)
next_id-behind first zero ids = omega arith
next_id-behind first (suc n) ids = let rest = next_id-behind (first + 1) n ids in omega arith

next_id-from : (first n : ℕ) (ids : List ℕ) → 0 < n → first + n ≤ next_id (ids_from first n ++ ids)
next_id-from first zero ids h = absurd (omega arith)
next_id-from first (suc zero) ids h = omega arith
next_id-from first (suc (suc n)) ids h = let rest = next_id-from (first + 1) (suc n) ids (omega arith) in omega arith

end_of-within : (low id : ℕ) (runs : List Run) → AllByRecursion (λ r. 0 < r.count) runs → low ≤ id → next_id (ids_of runs) ≤ id → end_of low runs ≤ id
unfolding end_of
end_of-within low id [] f l h = l
end_of-within low id (r ∷ rs) f l h =
    end_of-within (r.first + r.count) id rs f.1
    (omega (arith, next_id-from r.first r.count (ids_of rs) f.0, h))
    (omega (arith, next_id-behind r.first r.count (ids_of rs), h))

AreRuns-push : (low at : ℕ) (runs : List Run) (r : Run) → AreRuns low at runs → end_of low runs ≤ r.first → r.at ≡ at + length (ids_of runs) → AreRuns low at (runs ++ r ∷ [])
unfolding end_of
AreRuns-push low at [] r p e f = (e, omega (arith, f), tt)
AreRuns-push low at (x ∷ xs) r p e f =
    (p.0, p.1, AreRuns-push (x.first + x.count) (at + x.count) xs r p.2 e (omega (arith, f, length-append (ids_from x.first x.count) (ids_of xs), length-ids_from x.first x.count)))

AreRuns-front : (low at : ℕ) (xs ys : List Run) → AreRuns low at (xs ++ ys) → AreRuns low at xs
AreRuns-front low at [] ys p = tt
AreRuns-front low at (x ∷ xs) ys p = (p.0, p.1, AreRuns-front (x.first + x.count) (at + x.count) xs ys p.2)

next_id-front : (xs ys : List ℕ) → next_id xs ≤ next_id (xs ++ ys)
next_id-front [] ys = omega arith
next_id-front (x ∷ xs) ys = omega (arith, next_id-front xs ys)

-- a new run behind a last one with ids
pub IsNumbering-push : (before : List Run) (last r : Run) (id : ℕ) → IsNumbering before last → 0 < last.count → next_id (ids_of (before ++ last ∷ [])) ≤ id → r ≡ record { first = id; at = last.at + last.count; count = 1 } → last.at + last.count + 1 < 2 ^ 61 → IsNumbering (before ++ last ∷ []) r
IsNumbering-push before last r id p h n e few =
    let filled : AllByRecursion (λ (s : Run). 0 < s.count) (before ++ last ∷ []) = All-append (λ (s : Run). 0 < s.count) before (last ∷ []) p.filled (h, tt) in
    let size : length (ids_of (before ++ last ∷ [])) ≡ last.at + last.count = omega (arith, length-ids_of 0 0 before last p.runs) in
    rw e record {
      runs = AreRuns-push 0 0 (before ++ last ∷ []) (record { first = id; at = last.at + last.count; count = 1 }) p.runs (end_of-within 0 id (before ++ last ∷ []) filled (omega arith) n) (omega (arith, size));
      filled = filled;
      few = few;
    }

-- a new run in place of a last one without ids
pub IsNumbering-instead : (before : List Run) (last r : Run) (id : ℕ) → IsNumbering before last → last.count ≡ 0 → next_id (ids_of (before ++ last ∷ [])) ≤ id → r ≡ record { first = id; at = last.at + last.count; count = 1 } → last.at + last.count + 1 < 2 ^ 61 → IsNumbering before r
IsNumbering-instead before last r id p z n e few =
    let w = around 0 0 before last [] p.runs in
    let next : next_id (ids_of before) ≤ id = omega (arith, n, next_id-front (ids_of before) (ids_of (last ∷ [])), ap next_id (ids_of-append before (last ∷ []))) in
    rw e record {
      runs = AreRuns-push 0 0 before (record { first = id; at = last.at + last.count; count = 1 }) (AreRuns-front 0 0 before (last ∷ []) p.runs) (end_of-within 0 id before p.filled (omega arith) next) (omega (arith, w.at_is, z));
      filled = p.filled;
      few = few;
    }

pub ids_of-instead : (before : List Run) (last r : Run) → last.count ≡ 0 → r.count ≡ 1 → ids_of (before ++ r ∷ []) ≡ ids_of (before ++ last ∷ []) ++ r.first ∷ []
ids_of-instead before last r z o =
    rw (ids_of-append before (r ∷ []), ids_of-append before (last ∷ []), z, o) (rw (append-nil (ids_of before)) refl)

-- an id that is at least the next one is above all, and the other way round
pub next_id-above : (ids : List ℕ) (id : ℕ) → AllByRecursion (λ other. other < id) ids → next_id ids ≤ id
next_id-above [] id h = omega arith
next_id-above (x ∷ xs) id h = omega (arith, h.0, next_id-above xs id h.1)

pub below_next : (ids : List ℕ) (k : ℕ) → k < length ids → get_or ids k 0 < next_id ids
below_next [] k h = omega arith
below_next (x ∷ xs) zero h = omega arith
below_next (x ∷ xs) (suc k) h = let rest : get_or xs k 0 < next_id xs = below_next xs k (omega arith) in omega arith

front_filled : (xs : List Run) (r : Run) → AllByRecursion (λ (s : Run). 0 < s.count) (xs ++ r ∷ []) → AllByRecursion (λ (s : Run). 0 < s.count) xs
front_filled [] r f = tt
front_filled (x ∷ xs) r f = (f.0, front_filled xs r f.1)

-- an id is above all exactly where it would stand behind them
pub spot-behind_all : (ids : List ℕ) (id n : ℕ) (s : Spot) → IsSpot ids id s → n ≡ length ids → (s.at ≡ n → next_id ids ≤ id) × (next_id ids ≤ id → s.at ≡ n)
spot-behind_all ids id n s p e = (
  (λ here. next_id-above ids id (recursion_from_All (λ other. other < id) ids (rw (take_all s.at ids (omega arith)) at p.front))),
  (λ above_all. elim (cases_lt s.at (length ids)) [
    | inl l ↦
        let size : 0 < length (drop s.at ids) = omega (arith, length-drop s.at ids) in
        let first : id ≤ get_or (drop s.at ids) 0 0 = p.rest 0 0 size in
        let same : get_or (drop s.at ids) 0 0 ≡ get_or ids (s.at + 0) 0 = get_or-drop s.at ids 0 0 in
        let low : get_or ids (s.at + 0) 0 < next_id ids = below_next ids (s.at + 0) (omega arith) in
        absurd (omega arith)
    | inr m ↦ omega (arith, p.within)
  ]),
)

-- without the last run, whose ids stand behind the first n
pub IsNumbering-pop : (before : List Run) (run last : Run) → IsNumbering (before ++ run ∷ []) last → IsNumbering before run
IsNumbering-pop before run last p =
    let w = around 0 0 (before ++ run ∷ []) last [] p.runs in
    let size = length-ids_of 0 0 before run (AreRuns-front 0 0 (before ++ run ∷ []) (last ∷ []) p.runs) in
    record {
      runs = AreRuns-front 0 0 (before ++ run ∷ []) (last ∷ []) p.runs;
      filled = front_filled before run p.filled;
      few = omega (arith, w.at_is, size, p.few);
    }

pub take-before : (before : List Run) (last : Run) (n : ℕ) → AreRuns 0 0 (before ++ last ∷ []) → n ≤ last.at → take n (ids_of before) ≡ take n (ids_of (before ++ last ∷ []))
take-before before last n p h =
    let w = around 0 0 before last [] p in
    let low : n ≤ length (ids_of before) = omega (arith, w.at_is) in
    rw (ids_of-append before (last ∷ [])) (sym (take-append-le n (ids_of before) (ids_of (last ∷ [])) low))

-- the first n ids, of which so many are of the last run
pub take-last : (before : List Run) (last last' : Run) (n : ℕ) → AreRuns 0 0 (before ++ last ∷ []) → last.at ≤ n → n - last.at ≤ last.count → last'.first ≡ last.first → last'.count ≡ n - last.at → ids_of (before ++ last' ∷ []) ≡ take n (ids_of (before ++ last ∷ []))
take-last before last last' n p h k e f =
    let w = around 0 0 before last [] p in
    let j = n - last.at in
    let front = ids_of before in
    let own = ids_from last.first j in
    let rest = ids_from (last.first + j) (last.count - j) in
    let split : ids_from last.first last.count ≡ own ++ rest = ids_from-split last.first last.count j (last.count - j) (omega arith) in
    let whole : ids_of (before ++ last ∷ []) ≡ (front ++ own) ++ rest =
    rw (ids_of-append before (last ∷ []), append-nil (ids_from last.first last.count), split) (sym (append_assoc front own rest)) in
    let size : n ≡ length (front ++ own) = omega (arith, w.at_is, length-append front own, length-ids_from last.first j) in
    let kept : take n ((front ++ own) ++ rest) ≡ front ++ own = ap (λ (k : ℕ). take k ((front ++ own) ++ rest)) size ∙ take-append_seam (front ++ own) rest in
    rw (ids_of-append before (last' ∷ []), e, f, append-nil own, whole) (sym kept)

pub take-whole : (before : List Run) (last : Run) (n : ℕ) → AreRuns 0 0 (before ++ last ∷ []) → last.at ≤ n → last.count ≤ n - last.at → ids_of (before ++ last ∷ []) ≡ take n (ids_of (before ++ last ∷ []))
take-whole before last n p h k = sym (take_all n (ids_of (before ++ last ∷ [])) (omega (arith, length-ids_of 0 0 before last p)))
