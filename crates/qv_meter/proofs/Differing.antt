-- What differs after some conflicts.
use Rattle.std.proofs.Common.{◌≡◌, ◌≢◌, ℕ, zero, suc, List, [], ◌∷◌, set, Option, Some, None, refl, sym, ap, ◌∙◌}
use Rattle.std.specs.Prelude.{option_map, slice_get}
use Rattle.std.proofs.lemmas.Option.{none-some, same_Some}
use Rattle.qv_meter.specs.Records.{Kept, Metering, Record, position_of, with_conflicts, with_tally}
use Rattle.qv_meter.specs.RecordLaws.{OnlyConflictsDiffer}

pub set-other : (xs : List ℕ) (i y k : ℕ) → k ≢ i → slice_get (set xs i y) k ≡ slice_get xs k
set-other [] i y k h = refl
set-other (x ∷ xs) zero y zero h = absurd (h refl)
set-other (x ∷ xs) zero y (suc k) h = refl
set-other (x ∷ xs) (suc i) y zero h = refl
set-other (x ∷ xs) (suc i) y (suc k) h = set-other xs i y k (λ e. h (ap suc e))

abbrev none : ℕ → ℕ
none n = 0

-- the same of what is in two options
in-both : {X Y : Type 0} (f g : X → Y) (x : X) (o : Option X) → Some (f x) ≡ option_map g o → (y : X) × (o ≡ Some y) × (f x ≡ g y)
in-both f g x None h = absurd (none-some (f x) (sym h))
in-both f g x (Some y) h = (y, refl, same_Some (f x) (g y) h)

pub only-conflicts_differ : OnlyConflictsDiffer
only-conflicts_differ a b r k h at kept =
    let lane : a.lane ≡ b.lane = ap (λ (m : Metering). m.lane) h.same in
    let newest : option_map (with_conflicts a.lane none) a.newest ≡ option_map (with_conflicts b.lane none) b.newest = ap (λ (m : Metering). m.newest) h.same in
    let s = in-both (with_conflicts a.lane none) (with_conflicts b.lane none) r b.newest (ap (option_map (with_conflicts a.lane none)) (sym at) ∙ newest) in
    let keeps : option_map (with_tally a.lane none) r.kept ≡ option_map (with_tally b.lane none) s.0.kept = ap (λ (q : Record). q.kept) s.2 in
    let t = in-both (with_tally a.lane none) (with_tally b.lane none) k s.0.kept (ap (option_map (with_tally a.lane none)) (sym kept) ∙ keeps) in
    let positions : position_of b.lane ≡ position_of a.lane = ap position_of (sym lane) in
    record {
      record_after = s.0;
      kept_after = t.0;
      newest = s.1;
      kept = t.1;
      older = sym (ap (λ (m : Metering). m.older) h.same);
      lane = sym lane;
      limits = sym (ap (λ (q : Record). q.limits) s.2);
      instances = sym (ap (λ (q : Record). q.instances) s.2);
      over = sym (ap (λ (q : Record). q.over) s.2);
      problem = sym (ap (λ (q : Kept). q.problem) t.2);
      tallies = λ n other.
          sym (set-other t.0.tallies (position_of b.lane) 0 n (λ e. other (e ∙ positions)))
          ∙ ap (λ (q : Kept). slice_get q.tallies n) (sym t.2)
          ∙ set-other k.tallies (position_of a.lane) 0 n other;
    }
