-- One more conflict of the present lane.
use Rattle.std.proofs.Common.{◌≡◌, ℕ, ◌+◌, ◌<◌, Bool, List, [], ◌∷◌, ◌++◌, set, Option, Some, None, sym, ap, subst, ◌∙◌, arith}
use Rattle.std.specs.List.{slice_get}
use Rattle.std.specs.Prelude.{slice_index, sum, min}
use Rattle.std.proofs.lemmas.List.{length-set}
use Rattle.qv_cnf.specs.Literal.{Literal}
use Rattle.qv_cnf.specs.Listing.{Numbered}
use Rattle.qv_cnf.specs.LratLine.{LratLine}
use Rattle.qv_cnf.specs.Derivation.{IsDerivation, addition_of, additions}
use Rattle.qv_cnf.specs.Counting.{additions-append}
use Rattle.qv_meter.specs.Units.{Lane, MayGoOn}
use Rattle.qv_meter.specs.Records.{Limits, Record, Kept, Metering, AreTallies, position_of, with_tally, after_conflict}
use Rattle.qv_meter.specs.Charging.{MayCharge, SameButConflicts, conflict_count, conflict_limit}
use Rattle.qv_meter.proofs.Working.{conflict-worked}
use Rattle.qv_meter.proofs.Tallies.{set-set, sum-raised, raised-here, index-of}

-- the tally of a lane set twice is set once
twice : (lane : Lane) (k : Kept) → with_tally lane (λ n. 0) k ≡ with_tally lane (λ n. 0) (with_tally lane (λ n. n + 1) k)
twice lane k =
    let at = position_of lane in
    ap (λ (ns : List ℕ). record { problem = k.problem; tallies = ns }) (sym (set-set k.tallies at (slice_index k.tallies at + 1) 0))

raised : (lane : Lane) (conflicts tally : ℕ) (k : Kept) → slice_get k.tallies (position_of lane) ≡ Some tally → AreTallies conflicts k → AreTallies (conflicts + 1) (with_tally lane (λ n. n + 1) k)
raised lane conflicts tally k at h =
    let here : slice_index k.tallies (position_of lane) ≡ tally = index-of k.tallies (position_of lane) tally at in
    record {
      each = length-set k.tallies (position_of lane) (slice_index k.tallies (position_of lane) + 1) ∙ h.each;
      together = subst (λ (n : ℕ). sum (set k.tallies (position_of lane) (n + 1)) ≡ conflicts + 1) (sym here) (sum-raised k.tallies (position_of lane) tally at ∙ ap (λ n. n + 1) h.together);
    }

goes_on : (r : Record) (k : Kept) (lane : Lane) (base : List Numbered) (steps : List LratLine) (id : ℕ) (lits : List Literal) (hints : List ℕ) (tally : ℕ) → slice_get k.tallies (position_of lane) ≡ Some tally → MayGoOn k.problem r.instances lane tally base steps → (n : ℕ) × (slice_get (with_tally lane (λ m. m + 1) k).tallies (position_of lane) ≡ Some n) × MayGoOn k.problem r.instances lane n base (steps ++ addition_of id lits hints ∷ [])
goes_on r k lane base steps id lits hints tally at may =
    let here : slice_index k.tallies (position_of lane) ≡ tally = index-of k.tallies (position_of lane) tally at in
    let more : additions (steps ++ addition_of id lits hints ∷ []) ≡ additions steps + 1 = additions-append steps (addition_of id lits hints ∷ []) in (
      slice_index k.tallies (position_of lane) + 1,
      raised-here k.tallies (position_of lane) tally (slice_index k.tallies (position_of lane) + 1) at,
      record { entries = may.entries; formulas = may.formulas; list = may.list; clauses = may.clauses; charged = more ∙ ap (λ n. n + 1) (may.charged ∙ sym here) },
    )

counted : (n limit : ℕ) → min n limit < limit → min (n + 1) limit ≡ min n limit + 1
counted n limit h = omega (arith, h)

-- what is to be shown of a meter
abbrev Counts : Metering → List Numbered → List LratLine → ℕ → List Literal → List ℕ → Type 0
Counts m base steps id lits hints =
    MayCharge m base steps → IsDerivation base (steps ++ addition_of id lits hints ∷ []) → conflict_count m < conflict_limit m →
    (conflict_count (after_conflict m) ≡ conflict_count m + 1) × SameButConflicts m (after_conflict m)
    × MayCharge (after_conflict m) base (steps ++ addition_of id lits hints ∷ [])

by_kept : (older : List Record) (kept : Option Kept) (l : Limits) (c i : ℕ) (o : Bool) (lane : Lane) (base : List Numbered) (steps : List LratLine) (id : ℕ) (lits : List Literal) (hints : List ℕ) → Counts (record { older = older; newest = Some (record { kept = kept; limits = l; conflicts = c; instances = i; over = o }); lane = lane }) base steps id lits hints
by_kept older None l c i o lane base steps id lits hints may derivation below = absurd may
by_kept older (Some k) l c i o lane base steps id lits hints may derivation below =
    let r : Record = record { kept = Some k; limits = l; conflicts = c; instances = i; over = o } in
    let next = goes_on r k lane base steps id lits hints may.0 may.1 may.2 in (
      counted c l.conflicts below,
      record {
        same = ap (λ (x : Kept). let m : Metering = record { older = older; newest = Some (record { kept = Some x; limits = l; conflicts = 0; instances = i; over = o }); lane = lane } in m) (twice lane k);
        kept = λ h. record {
          older = h.older;
          newest = record { limits = h.newest.limits; conflicts = let b : min c l.conflicts < l.conflicts = below in omega (arith, b); instances = h.newest.instances; tallies = raised lane c may.0 k may.1 h.newest.tallies; worked = conflict-worked r k lane next.0 base (steps ++ addition_of id lits hints ∷ []) h.newest.worked h.lane next.1 next.2 derivation };
          lane = h.lane;
        };
      },
      next,
    )

by_newest : (older : List Record) (newest : Option Record) (lane : Lane) (base : List Numbered) (steps : List LratLine) (id : ℕ) (lits : List Literal) (hints : List ℕ) → Counts (record { older = older; newest = newest; lane = lane }) base steps id lits hints
by_newest older None lane base steps id lits hints may derivation below = absurd may
by_newest older (Some r) lane base steps id lits hints may derivation below = by_kept older r.kept r.limits r.conflicts r.instances r.over lane base steps id lits hints may derivation below

pub counts : (m : Metering) (base : List Numbered) (steps : List LratLine) (id : ℕ) (lits : List Literal) (hints : List ℕ) → Counts m base steps id lits hints
counts m base steps id lits hints may derivation below = by_newest m.older m.newest m.lane base steps id lits hints may derivation below
