-- What is charged while a game is played.
use Rattle.std.proofs.Common.{◌≡◌, ◌≢◌, ℕ, zero, suc, ◌+◌, ◌-◌, ◌≤◌, ◌<◌, ◌^◌, ◌⊎◌, min, false, Option, Some, None, List, [], ◌∷◌, length, map, set, sum, slice_get, inl, inr, refl, sym, ap, ◌∙◌, arith}
use Rattle.std.specs.Prelude.{option_map, IsSomeAnd}
use Rattle.std.proofs.lemmas.List.Sums.{sum_by-cons}
use Rattle.std.proofs.lemmas.Option.{slice_get_within}
use Rattle.qv_words.specs.Problem.{Problem, Quantifier}
use Rattle.qv_words.proofs.Elements.{to-some, of-if_some}
use Rattle.qv_meter.specs.Queries.{block_count}
use Rattle.qv_meter.specs.Records.{IsLaneOf, IsMetering, IsSpentIn, Conflicts, Kept, Limits, Metering, Record, after_instance, after_variables, in_lane, one_more_instance, over_large, position_of, with_conflicts, with_tally}
use Rattle.qv_meter.specs.Units.{Final, Query, Lane}
use Rattle.qv_meter.specs.Charging.{SameButConflicts, conflict_count, conflict_limit}
use Rattle.qv_meter.proofs.Differing.{only-conflicts_differ}
use Rattle.qv_meter.proofs.Positions.{apart}
use Rattle.qv_game_state.specs.Counts.{SameButCounts, uncounted, without_counts}
use Rattle.qv_game_state.specs.Charges.{IsCharged, Tally}

-- elements of a list in which one is set
pub set-here : {X : Type 0} (xs : List X) (i : ℕ) (x y : X) → slice_get xs i ≡ Some x → slice_get (set xs i y) i ≡ Some y
set-here [] i x y h = absurd (cc)
set-here (z ∷ zs) zero x y h = refl
set-here (z ∷ zs) (suc i) x y h = set-here zs i x y h

pub set-there : {X : Type 0} (xs : List X) (i j : ℕ) (y : X) → j ≢ i → slice_get (set xs i y) j ≡ slice_get xs j
set-there [] i j y h = refl
set-there (z ∷ zs) zero zero y h = absurd (h refl)
set-there (z ∷ zs) zero (suc j) y h = refl
set-there (z ∷ zs) (suc i) zero y h = refl
set-there (z ∷ zs) (suc i) (suc j) y h = set-there zs i j y (λ e. h (ap suc e))

pub set-length : {X : Type 0} (xs : List X) (i : ℕ) (y : X) → length (set xs i y) ≡ length xs
set-length [] i y = refl
set-length (z ∷ zs) zero y = refl
set-length (z ∷ zs) (suc i) y = ap suc (set-length zs i y)

pub map-set : {X Y : Type 0} (f : X → Y) (xs : List X) (i : ℕ) (y : X) → map f (set xs i y) ≡ set (map f xs) i (f y)
map-set f [] i y = refl
map-set f (z ∷ zs) zero y = refl
map-set f (z ∷ zs) (suc i) y = ap (λ ws. f z ∷ ws) (map-set f zs i y)

pub at-or_not : (a b : ℕ) → (a ≡ b) ⊎ (a ≢ b)
at-or_not zero zero = inl refl
at-or_not zero (suc b) = inr (λ e. omega (arith, e))
at-or_not (suc a) zero = inr (λ e. omega (arith, e))
at-or_not (suc a) (suc b) = elim (at-or_not a b) [ inl e ↦ inl (ap suc e) | inr n ↦ inr (λ e. n (omega (arith, e))) ]

-- one of some numbers is no more than their sum
pub one-within : (ns : List ℕ) (i n : ℕ) → slice_get ns i ≡ Some n → n ≤ sum ns
one-within [] i n h = absurd (cc)
one-within (m ∷ ms) zero n h =
    let same : m ≡ n = cc in
    let all = sum_by-cons (λ x. x) m ms in
    omega (arith, same, all)
one-within (m ∷ ms) (suc i) n h =
    let all = sum_by-cons (λ x. x) m ms in
    let rest = one-within ms i n h in
    omega (arith, rest, all)

-- what play changes
pub same-transitive : (a b c : Metering) → SameButCounts a b → SameButCounts b c → SameButCounts a c
same-transitive a b c h k = h ∙ k

pub lane-counts : (lane : Lane) (m : Metering) → SameButCounts m (in_lane lane m)
lane-counts lane m = refl

abbrev with_newest_only : Metering → Option Record → Metering
with_newest_only m o = record { older = m.older; newest = o; lane = Final }

one-more : (o : Option Record) → option_map uncounted o ≡ option_map uncounted (option_map one_more_instance o)
one-more None = refl
one-more (Some r) = refl

pub instance-counts : (m : Metering) → SameButCounts m (after_instance m)
instance-counts m = ap (with_newest_only m) (one-more m.newest)

over : (o : Option Record) → option_map uncounted o ≡ option_map uncounted (option_map over_large o)
over None = refl
over (Some r) = refl

pub variables-counts : (m : Metering) → SameButCounts m (after_variables m)
variables-counts m = ap (with_newest_only m) (over m.newest)

abbrev bare : Kept → Kept
bare k = record { problem = k.problem; tallies = [] }

bared : (lane : Lane) (o : Option Kept) → option_map bare (option_map (with_tally lane (λ n. 0)) o) ≡ option_map bare o
bared lane None = refl
bared lane (Some k) = refl

emptied : (lane : Lane) (o : Option Record) → option_map uncounted (option_map (with_conflicts lane (λ n. 0)) o) ≡ option_map uncounted o
emptied lane None = refl
emptied lane (Some r) = ap (λ (k : Option Kept). Some (record { kept = k; limits = r.limits; conflicts = 0; instances = 0; over = false })) (bared lane r.kept)

pub conflicts-count : (a b : Metering) → SameButConflicts a b → SameButCounts a b
conflicts-count a b h =
    sym (ap (with_newest_only a) (emptied a.lane a.newest)) ∙ ap without_counts h.same ∙ ap (with_newest_only b) (emptied b.lane b.newest)

-- what is charged stays while a lane is named
pub charged-lane : (p : Problem) (n limit : ℕ) (tallies : List Tally) (lane : Lane) (m : Metering) → IsCharged p n limit tallies m → IsCharged p n limit tallies (in_lane lane m)
charged-lane p n limit tallies lane m h = record {
  newest = h.newest;
  kept = h.kept;
  newest_is = h.newest_is;
  kept_is = h.kept_is;
  problem = h.problem;
  instances = h.instances;
  variables = h.variables;
  final = h.final;
  levels = h.levels;
  each = h.each;
}

-- and there is one instance more where one is charged
pub charged-instance : (p : Problem) (n limit : ℕ) (tallies : List Tally) (m : Metering) → IsCharged p n limit tallies m → IsCharged p (n + 1) limit tallies (after_instance m)
charged-instance p n limit tallies m h = record {
  newest = one_more_instance h.newest;
  kept = h.kept;
  newest_is = ap (option_map one_more_instance) h.newest_is;
  kept_is = h.kept_is;
  problem = h.problem;
  instances = (let is = h.instances in omega (arith, is));
  variables = h.variables;
  final = h.final;
  levels = h.levels;
  each = h.each;
}

-- the newest record's conflicts
pub count-is : (m : Metering) (r : Record) → m.newest ≡ Some r → conflict_count m ≡ min r.conflicts r.limits.conflicts
count-is m r e = ap (λ (o : Option Record). conflict_count (record { older = m.older; newest = o; lane = m.lane })) e

pub limit-is : (m : Metering) (r : Record) → m.newest ≡ Some r → conflict_limit m ≡ r.limits.conflicts
limit-is m r e = ap (λ (o : Option Record). conflict_limit (record { older = m.older; newest = o; lane = m.lane })) e

pub conflicts-spent : (m : Metering) (r : Record) → m.newest ≡ Some r → IsMetering m → conflict_count m ≡ conflict_limit m → IsSomeAnd m.newest (IsSpentIn Conflicts)
conflicts-spent m r at keeps e =
    let count = count-is m r at in
    let limit = limit-is m r at in
    let within = (of-if_some m.newest _ r at keeps.newest).conflicts in
    to-some m.newest (IsSpentIn Conflicts) r at (omega (arith, count, limit, within, e))

-- a lane has learnt no more than leaves room for its ids
pub few-learnt : (p : Problem) (n limit : ℕ) (tallies : List Tally) (i : ℕ) (t : Tally) (m : Metering) → IsCharged p n limit tallies m → IsMetering m → slice_get tallies i ≡ Some t → t.count + (conflict_limit m - conflict_count m) ≤ 2 ^ 60
few-learnt p n limit tallies i t m h keeps at =
    let r = of-if_some m.newest _ h.newest h.newest_is keeps.newest in
    let k = of-if_some h.newest.kept _ h.kept h.kept_is r.tallies in
    let within = one-within h.kept.tallies (position_of (Query t.winner (i + 2))) t.count (h.each i t at) in
    let together = k.together in
    let count = count-is m h.newest h.newest_is in
    let most = limit-is m h.newest h.newest_is in
    let low = r.conflicts in
    let small = r.limits.conflicts.1 in
    omega (arith, within, together, count, most, low, small)

-- a lane of a level is one of the problem's, and isn't that of the final list
is-lane : (p : Problem) (winner : Quantifier) (i : ℕ) → i < block_count p → IsLaneOf p (Query winner (i + 2))
is-lane p winner i h = record { low = omega arith; high = omega (arith, h) }

not-final : (p : Problem) (winner : Quantifier) (i : ℕ) → i < block_count p → 0 ≢ position_of (Query winner (i + 2))
not-final p winner i h e =
    let same : Final ≡ Query winner (i + 2) = apart p Final (Query winner (i + 2)) tt (is-lane p winner i h) e in
    absurd (cc)

level_of : Lane → ℕ
level_of Final = 0
level_of (Query winner level) = level

not-other : (p : Problem) (w v : Quantifier) (i j : ℕ) → i < block_count p → j < block_count p → j ≢ i → position_of (Query w (j + 2)) ≢ position_of (Query v (i + 2))
unfolding level_of
not-other p w v i j hi hj other e =
    let same : Query w (j + 2) ≡ Query v (i + 2) = apart p (Query w (j + 2)) (Query v (i + 2)) (is-lane p w j hj) (is-lane p v i hi) e in
    let levels : j + 2 ≡ i + 2 = ap level_of same in
    other (omega (arith, levels))

pub within-blocks : (p : Problem) (n limit : ℕ) (tallies : List Tally) (i : ℕ) (t : Tally) (m : Metering) → IsCharged p n limit tallies m → slice_get tallies i ≡ Some t → i < block_count p
within-blocks p n limit tallies i t m h at =
    let low = slice_get_within tallies i t at in
    let all = h.levels in
    omega (arith, low, all)

-- after some conflicts of a lane
pub charged-conflicts : (p : Problem) (n limit : ℕ) (tallies : List Tally) (i : ℕ) (t : Tally) (learnt : ℕ) (a b : Metering) → IsCharged p n limit tallies a → slice_get tallies i ≡ Some t → a.lane ≡ Query t.winner (i + 2) → SameButConflicts a b → ((r : Record) (k : Kept) → b.newest ≡ Some r → r.kept ≡ Some k → slice_get k.tallies (position_of b.lane) ≡ Some learnt) → IsCharged p n limit (set tallies i (record { winner = t.winner; count = learnt })) b
charged-conflicts p n limit tallies i t learnt a b h at lane same counted =
    let d = only-conflicts_differ a b h.newest h.kept same h.newest_is h.kept_is in
    let low = within-blocks p n limit tallies i t a h at in
    let place : position_of a.lane ≡ position_of (Query t.winner (i + 2)) = ap position_of lane in
    let new : Tally = record { winner = t.winner; count = learnt } in
    record {
      newest = d.record_after;
      kept = d.kept_after;
      newest_is = d.newest;
      kept_is = d.kept;
      problem = d.problem ∙ h.problem;
      instances = d.instances ∙ h.instances;
      variables = ap (λ (l : Limits). l.variables) d.limits ∙ h.variables;
      final = d.tallies 0 (λ e. not-final p t.winner i low (e ∙ place)) ∙ h.final;
      levels = set-length tallies i new ∙ h.levels;
      each = λ j u get. elim (at-or_not j i) [
        | inl e ↦
            let here : Some new ≡ Some u = sym (set-here tallies i t new at) ∙ ap (slice_get (set tallies i new)) (sym e) ∙ get in
            let is : new ≡ u = cc in
            let there : slice_get d.kept_after.tallies (position_of (Query t.winner (i + 2))) ≡ Some learnt =
            ap (slice_get d.kept_after.tallies) (sym (ap position_of d.lane ∙ place)) ∙ counted d.record_after d.kept_after d.newest d.kept in
            ap (λ (v : Tally). slice_get d.kept_after.tallies (position_of (Query v.winner (j + 2)))) (sym is)
            ∙ ap (λ (k : ℕ). slice_get d.kept_after.tallies (position_of (Query t.winner (k + 2)))) e ∙ there ∙ ap (λ (v : Tally). Some v.count) is
        | inr other ↦
            let old : slice_get tallies j ≡ Some u = sym (set-there tallies i j new other) ∙ get in
            let lower = within-blocks p n limit tallies j u a h old in
            d.tallies (position_of (Query u.winner (j + 2))) (λ e. not-other p u.winner t.winner i j low lower other (e ∙ place)) ∙ h.each j u old
      ];
    }
