-- How a tournament goes on.
use Rattle.std.proofs.Common.{◌≡◌, ◌≢◌, ℕ, ◌+◌, ◌-◌, ◌*◌, ◌/◌, ◌<◌, ◌≤◌, Bool, false, List, ◌++◌, length, take, drop, replicate, get_or, set, refl, sym, ◌∙◌, ap, subst, arith, inl, inr}
use Rattle.std.proofs.lemmas.Bool.{cases_eq, cases_lt, lt-ltb, le-ltb}
use Rattle.std.proofs.lemmas.List.{get_or-set_other, get_or-set_same, get_or-replicate, get_or_past, length-replicate, length-set, take-append-le, take_all}
use Rattle.std.proofs.Math.ListN.{get_or-append}
use Rattle.std.proofs.Math.Seq.{get_or-append_right}
use Rattle.qv_sat_order.specs.Tournament.{ArePlayedBut, ArePlayedFrom, IsDrawn, IsPlayed, IsTournament, entrant_at, first_of, leaf_at}

-- one place is set
pub drawn_set : (nodes : List ℕ) (held : List Bool) (activity : List ℕ) (p x : ℕ) → IsDrawn nodes held activity → p < length nodes → x ≤ length held → IsDrawn (set nodes p x) held activity
drawn_set nodes held activity p x d at low = record {
  wide = length-set nodes p x ∙ d.wide;
  same = d.same;
  few = d.few;
  within = λ k. elim (cases_eq k p) [
    | inl own ↦ let is : get_or (set nodes p x) k 0 ≡ x = ap (λ i. get_or (set nodes p x) i 0) own ∙ get_or-set_same nodes p x 0 at in omega arith
    | inr other ↦ let is = get_or-set_other nodes p k x 0 other in let w = d.within k in omega arith
  ];
}

pub entrant-set : (nodes : List ℕ) (held : List Bool) (p x q : ℕ) → q ≢ p → entrant_at (set nodes p x) held q ≡ entrant_at nodes held q
entrant-set nodes held p x q other = rw (length-set nodes p x, get_or-set_other nodes p q x 0 other) refl

played-other : (nodes : List ℕ) (held : List Bool) (activity : List ℕ) (p x j : ℕ) → j ≢ p → 2 * j ≢ p → 2 * j + 1 ≢ p → IsPlayed nodes held activity j → IsPlayed (set nodes p x) held activity j
played-other nodes held activity p x j own left right h =
    rw (get_or-set_other nodes p j x 0 own, entrant-set nodes held p x (2 * j) left, entrant-set nodes held p x (2 * j + 1) right) h

played-own : (nodes : List ℕ) (held : List Bool) (activity : List ℕ) (p x : ℕ) → 1 ≤ p → p < length nodes → x ≡ first_of activity (entrant_at nodes held (2 * p)) (entrant_at nodes held (2 * p + 1)) → IsPlayed (set nodes p x) held activity p
played-own nodes held activity p x from to is =
    rw (get_or-set_same nodes p x 0 to, entrant-set nodes held p x (2 * p) (omega arith), entrant-set nodes held p x (2 * p + 1) (omega arith)) is

-- one place up
pub mend_next : (nodes : List ℕ) (held : List Bool) (activity : List ℕ) (p x : ℕ) → 1 ≤ p → p < length nodes → x ≡ first_of activity (entrant_at nodes held (2 * p)) (entrant_at nodes held (2 * p + 1)) → ArePlayedBut nodes held activity p → ArePlayedBut (set nodes p x) held activity (p / 2)
mend_next nodes held activity p x from to is h j low high other = elim (cases_eq j p) [
  | inl own ↦ subst (IsPlayed (set nodes p x) held activity) (sym own) (played-own nodes held activity p x from to is)
  | inr apart ↦ played-other nodes held activity p x j apart (omega arith) (omega arith) (h j low (omega (arith, length-set nodes p x)) apart)
]

-- nothing is new there
pub mend_stops : (nodes : List ℕ) (held : List Bool) (activity : List ℕ) (p x : ℕ) → x ≡ first_of activity (entrant_at nodes held (2 * p)) (entrant_at nodes held (2 * p + 1)) → get_or nodes p 0 ≡ x → ArePlayedBut nodes held activity p → ArePlayedFrom nodes held activity 0
mend_stops nodes held activity p x is same h j _ low high = elim (cases_eq j p) [
  | inl own ↦ subst (IsPlayed nodes held activity) (sym own) (same ∙ is)
  | inr apart ↦ h j low high apart
]

pub mend_ends : (nodes : List ℕ) (held : List Bool) (activity : List ℕ) (p : ℕ) → p ≤ 1 → ArePlayedBut nodes held activity (p / 2) → ArePlayedFrom nodes held activity 0
mend_ends nodes held activity p low h j _ from to = h j from to (omega arith)

-- one place down
pub play_next : (nodes : List ℕ) (held : List Bool) (activity : List ℕ) (p x : ℕ) → 1 ≤ p → p < length nodes → x ≡ first_of activity (entrant_at nodes held (2 * p)) (entrant_at nodes held (2 * p + 1)) → ArePlayedFrom nodes held activity (p + 1) → ArePlayedFrom (set nodes p x) held activity p
play_next nodes held activity p x from to is h j least low high = elim (cases_eq j p) [
  | inl own ↦ subst (IsPlayed (set nodes p x) held activity) (sym own) (played-own nodes held activity p x from to is)
  | inr apart ↦ played-other nodes held activity p x j apart (omega arith) (omega arith) (h j (omega arith) low (omega (arith, length-set nodes p x)))
]

-- a variable is held from now on, or isn't
leaf-set : (held : List Bool) (k : ℕ) (b : Bool) (m : ℕ) → m ≢ k → leaf_at (set held k b) m ≡ leaf_at held m
leaf-set held k b m other = rw (get_or-set_other held k m b false other) refl

entrant-change : (nodes : List ℕ) (held : List Bool) (k : ℕ) (b : Bool) (q : ℕ) → q ≢ length nodes + k → entrant_at nodes (set held k b) q ≡ entrant_at nodes held q
entrant-change nodes held k b q other = elim (cases_lt q (length nodes)) [
  | inl inside ↦ rw (lt-ltb q (length nodes) inside) refl
  | inr behind ↦ rw (le-ltb q (length nodes) behind) (leaf-set held k b (q - length nodes) (omega arith))
]

pub drawn_change : (nodes : List ℕ) (held : List Bool) (activity : List ℕ) (k : ℕ) (b : Bool) → IsDrawn nodes held activity → IsDrawn nodes (set held k b) activity
drawn_change nodes held activity k b d =
    let long = length-set held k b in
    record {
      wide = d.wide ∙ sym long;
      same = d.same ∙ sym long;
      few = omega (arith, d.few);
      within = λ i. omega (arith, d.within i);
    }

pub played_change : (nodes : List ℕ) (held : List Bool) (activity : List ℕ) (k : ℕ) (b : Bool) → ArePlayedFrom nodes held activity 0 → ArePlayedBut nodes (set held k b) activity ((length nodes + k) / 2)
played_change nodes held activity k b h j low high other =
    rw (entrant-change nodes held k b (2 * j) (omega arith), entrant-change nodes held k b (2 * j + 1) (omega arith)) (h j (omega arith) low high)

-- other activities
pub drawn_activity : (nodes : List ℕ) (held : List Bool) (activity other : List ℕ) → IsDrawn nodes held activity → length other ≡ length activity → IsDrawn nodes held other
drawn_activity nodes held activity other d long = record { wide = d.wide; same = long ∙ d.same; few = d.few; within = d.within }

-- more places, which nobody has yet
within_more : (xs ys : List ℕ) (most : ℕ) → ((k : ℕ) → get_or xs k 0 ≤ most) → ((k : ℕ) → get_or ys k 0 ≤ most) → (k : ℕ) → get_or (xs ++ ys) k 0 ≤ most
within_more xs ys most first second k = elim (cases_lt k (length xs)) [
  | inl inside ↦ let is = get_or-append xs ys 0 k inside in let f = first k in omega arith
  | inr behind ↦ let is = get_or-append_right xs ys k 0 behind in let f = second (k - length xs) in omega arith
]

abbrev zeros : ℕ → List ℕ
zeros n = replicate n 0

zero_there : (n k : ℕ) → get_or (zeros n) k 0 ≡ 0
zero_there n k = elim (cases_lt k n) [
  | inl inside ↦ get_or-replicate {A = ℕ} n k 0 0 inside
  | inr past ↦ get_or_past {X = ℕ} (zeros n) k 0 (let long : length (zeros n) ≡ n = length-replicate {A = ℕ} n 0 in subst (λ (m : ℕ). m ≤ k) (sym long) past)
]

zeros_within : (n most k : ℕ) → get_or (zeros n) k 0 ≤ most
zeros_within n most k = subst (λ (m : ℕ). m ≤ most) (sym (zero_there n k)) (omega arith)

pub within_grown : (nodes new : List ℕ) (n m most more : ℕ) → length nodes ≤ n → new ≡ take n nodes ++ replicate m 0 → most ≤ more → ((k : ℕ) → get_or nodes k 0 ≤ most) → (k : ℕ) → get_or new k 0 ≤ more
within_grown nodes new n m most more low is less within k =
    let all : take n nodes ≡ nodes = take_all n nodes low in
    let same : new ≡ nodes ++ replicate m 0 = is ∙ ap (λ (xs : List ℕ). xs ++ replicate m 0) all in
    let at = ap (λ (xs : List ℕ). get_or xs k 0) same in
    let w = within_more nodes (replicate m 0) more (λ j. omega (arith, within j)) (λ j. zeros_within m more j) k in
    omega arith

-- what was written through a borrow
pub written_back : {X : Type 0} (n : ℕ) (new old : List X) → length new ≡ n → take n (new ++ drop (length new) old) ≡ new
written_back n new old long = take-append-le n new (drop (length new) old) (omega arith) ∙ take_all n new (omega arith)

pub tournament_back : (n : ℕ) (new old : List ℕ) (h h' : List Bool) (a a' : List ℕ) → length new ≡ n → h ≡ h' → a ≡ a' → IsDrawn new h a → ArePlayedFrom new h a 0 → IsTournament (take n (new ++ drop (length new) old)) h' a'
tournament_back n new old h h' a a' long held activity drawn played =
    subst (λ (xs : List ℕ). IsTournament xs h' a') (sym (written_back n new old long))
    (subst (λ (hs : List Bool). IsTournament new hs a') held
    (subst (λ (xs : List ℕ). IsTournament new h xs) activity record { drawn = drawn; played = played }))
