-- A meter is a budget of conflicts.
use Rattle.std.proofs.Common.{◌∙◌, refl, sym, ap, arith}
use Rattle.std.specs.Prelude.{◌≡◌, ℕ, ◌+◌, ◌≤◌, Option, Some, None, option_map, IsSomeAnd, List, [], ◌∷◌, ◌++◌, slice_get}
use Rattle.qv_cnf.specs.Counting.{additions-append}
use Rattle.qv_cnf.specs.Derivation.{additions, IsDerivation}
use Rattle.qv_cnf.specs.Listing.{Numbered}
use Rattle.qv_cnf.specs.LratLine.{LratLine, Deletion}
use Rattle.qv_meter.specs.Units.{Lane, Final, MayGoOn}
use Rattle.qv_meter.specs.Records.{Record, Kept, Metering, position_of, with_conflicts}
use Rattle.qv_meter.specs.Charging.{MayCharge, SameButConflicts, conflict_count, conflict_limit, without_conflicts}

within-limit : (r : Option Record) → conflict_count (record { older = []; newest = r; lane = Final }) ≤ conflict_limit (record { older = []; newest = r; lane = Final })
within-limit None = omega arith
within-limit (Some r) = omega arith

pub conflicts_within : (m : Metering) → conflict_count m ≤ conflict_limit m
conflicts_within m = within-limit m.newest

pub SameButConflicts-reflexive : (a : Metering) → SameButConflicts a a
SameButConflicts-reflexive a = record { same = refl; kept = λ h. h }

pub SameButConflicts-transitive : (a b c : Metering) → SameButConflicts a b → SameButConflicts b c → SameButConflicts a c
SameButConflicts-transitive a b c h k = record { same = h.same ∙ k.same; kept = λ m. k.kept (h.kept m) }

limit-stays : (lane : Lane) (r : Option Record) (m : Metering) → m.newest ≡ option_map (with_conflicts lane (λ n. 0)) r → conflict_limit m ≡ conflict_limit (record { older = []; newest = r; lane = lane })
limit-stays lane None m h = ap (λ (o : Option Record). conflict_limit (record { older = []; newest = o; lane = lane })) h
limit-stays lane (Some r) m h = ap (λ (o : Option Record). conflict_limit (record { older = []; newest = o; lane = lane })) h

pub SameButConflicts-limit : (a b : Metering) → SameButConflicts a b → conflict_limit a ≡ conflict_limit b
SameButConflicts-limit a b h =
    sym (limit-stays a.lane a.newest (without_conflicts a) refl) ∙ ap (λ (m : Metering). conflict_limit m) h.same ∙ limit-stays b.lane b.newest (without_conflicts b) refl

deleted : (r : Option Record) (lane : Lane) (base : List Numbered) (steps : List LratLine) (id : ℕ) (ids : List ℕ) → MayCharge (record { older = []; newest = r; lane = lane }) base steps → MayCharge (record { older = []; newest = r; lane = lane }) base (steps ++ Deletion id ids ∷ [])
deleted None lane base steps id ids may = absurd may
deleted (Some r) lane base steps id ids may = kept r.kept may
  where
    kept : (k : Option Kept) → IsSomeAnd k (λ x. (tally : ℕ) × (slice_get x.tallies (position_of lane) ≡ Some tally) × MayGoOn x.problem r.instances lane tally base steps) → IsSomeAnd k (λ x. (tally : ℕ) × (slice_get x.tallies (position_of lane) ≡ Some tally) × MayGoOn x.problem r.instances lane tally base (steps ++ Deletion id ids ∷ []))
    kept None h = absurd h
    kept (Some x) h =
        let as_many : additions (steps ++ Deletion id ids ∷ []) ≡ additions steps + 0 = additions-append steps (Deletion id ids ∷ []) in
        let charged : additions steps ≡ h.0 = h.2.charged in
        (h.0, h.1, record { entries = h.2.entries; formulas = h.2.formulas; list = h.2.list; clauses = h.2.clauses; charged = omega (arith, as_many, charged) })

pub MayCharge-deletion : (m : Metering) (base : List Numbered) (steps : List LratLine) (id : ℕ) (ids : List ℕ) → MayCharge m base steps → IsDerivation base (steps ++ Deletion id ids ∷ []) → MayCharge m base (steps ++ Deletion id ids ∷ [])
MayCharge-deletion m base steps id ids may derivation = deleted m.newest m.lane base steps id ids may
