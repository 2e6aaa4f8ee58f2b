-- What the calls change in a meter.
use Rattle.std.proofs.Common.{◌≡◌, ℕ, ◌+◌, Option, Some, None, List, length, slice_get, refl, sym, ap, ◌∙◌, subst, arith}
use Rattle.std.specs.Prelude.{IfErr, IsSomeAnd, Result, Ok, Err, option_map}
use Rattle.std.proofs.lemmas.List.{length-map}
use Rattle.qv_words.specs.Tree.{Tree}
use Rattle.qv_words.specs.Problem.{Problem}
use Rattle.qv_entries.specs.Rows.{Row, entries_in, entry_in}
use Rattle.qv_meter.specs.declared.faults.PlayFault.{PlayFault}
use Rattle.qv_meter.specs.declared.faults.PlayFault.TheVariants.{Spent, NoMemory}
use Rattle.qv_meter.specs.declared.records.SpentKind.TheVariants.{Conflicts, Instances, Variables}
use Rattle.qv_meter.specs.Charging.{OfNewest, SameButConflicts, without_conflicts}
use Rattle.qv_meter.specs.Records.{Kept, Metering, Quantity, Record, IsSpentIn, in_lane, with_conflicts}
use Rattle.qv_meter.specs.Units.{Final, Lane}
use Rattle.qv_game.specs.Counts.{SameButCounts, uncounted, without_counts}
use Rattle.qv_game.specs.Faults.{IsSpentWhere}
use Rattle.qv_game.specs.Starting.{HasCharged}
use Rattle.qv_game.proofs.Counting.{conflicts-count, lane-counts, variables-counts}
use Rattle.qv_expand.specs.Charges.{HasCounted, IsFault, OnlyCounts, more_instances, record_with}
use Rattle.qv_solve_refute.specs.Refuting.{IsCharged, IsSpentBy, variable_limit}

-- ---- why work is given up

pub where-spent : {T : Type 0} (r : Result T PlayFault) (m : Metering) → IsSpentWhere r m → IfErr r (IsSpentBy m)
where-spent (Ok x) m h = tt
where-spent (Err (Spent kind)) m h = h kind refl
where-spent (Err NoMemory) m h = tt

pub fault-spent : (m : Metering) (fault : PlayFault) → IsFault m fault → IsSpentBy m fault
fault-spent m (Spent kind) h = subst (λ (q : Quantity). IsSomeAnd m.newest (IsSpentIn q)) (sym h.0) h.1
fault-spent m NoMemory h = tt

-- ---- counts

abbrev with_newest_only : Metering → Option Record → Metering
with_newest_only m o = record { older = m.older; newest = o; lane = Final }

more : (n : ℕ) (o : Option Record) → option_map uncounted o ≡ option_map uncounted (option_map (record_with n) o)
more n None = refl
more n (Some r) = refl

pub only-counts : (a b : Metering) → OnlyCounts a b → SameButCounts a b
only-counts a b h = ap (with_newest_only a) (more h.count a.newest) ∙ ap without_counts (sym h.counted)

pub charged-counts : {A : Type 0} (a b : Metering) (r : Result A PlayFault) → IsCharged a b r → SameButCounts a b
charged-counts a b (Ok x) h = lane-counts Final a ∙ conflicts-count (in_lane Final a) b h
charged-counts a b (Err NoMemory) h = lane-counts Final a ∙ conflicts-count (in_lane Final a) b h
charged-counts a b (Err (Spent Conflicts)) h = lane-counts Final a ∙ conflicts-count (in_lane Final a) b h
charged-counts a b (Err (Spent Instances)) h = absurd h
charged-counts a b (Err (Spent Variables)) h = lane-counts Final a ∙ variables-counts (in_lane Final a) ∙ ap without_counts (sym h)

-- ---- instances

abbrev pub CountsInstances : Metering → ℕ → Type 0
CountsInstances m n = IsSomeAnd m.newest (λ r. r.instances ≡ n)

-- conflicts don't change them
counts-some : (lane : Lane) (o : Option Record) (n : ℕ) → IsSomeAnd o (λ r. r.instances ≡ n) → IsSomeAnd (option_map (with_conflicts lane (λ k. 0)) o) (λ r. r.instances ≡ n)
counts-some lane None n h = h
counts-some lane (Some r) n h = h

counts-back : (lane : Lane) (o : Option Record) (n : ℕ) → IsSomeAnd (option_map (with_conflicts lane (λ k. 0)) o) (λ r. r.instances ≡ n) → IsSomeAnd o (λ r. r.instances ≡ n)
counts-back lane None n h = h
counts-back lane (Some r) n h = h

pub conflicts-instances : (a b : Metering) (n : ℕ) → SameButConflicts a b → CountsInstances a n → CountsInstances b n
conflicts-instances a b n h counts =
    counts-back b.lane b.newest n (subst (λ (m : Metering). CountsInstances m n) h.same (counts-some a.lane a.newest n counts))

-- nor the limit of variables
limit-without : (m : Metering) → variable_limit (without_conflicts m) ≡ variable_limit m
limit-without m = go m.newest
  where
    go : (o : Option Record) → variable_limit (with_newest_only m (option_map (with_conflicts m.lane (λ n. 0)) o)) ≡ variable_limit (with_newest_only m o)
    go None = refl
    go (Some r) = refl

pub conflicts-limit : (a b : Metering) → SameButConflicts a b → variable_limit a ≡ variable_limit b
conflicts-limit a b h = sym (limit-without a) ∙ ap variable_limit h.same ∙ limit-without b

pub newest-weaker : (m : Metering) (P Q : Record → Kept → Type 0) → ((r : Record) (k : Kept) → P r k → Q r k) → OfNewest m P → OfNewest m Q
newest-weaker m P Q go h = outer m.newest h
  where
    inner : (r : Record) (o : Option Kept) → IsSomeAnd o (P r) → IsSomeAnd o (Q r)
    inner r None k = k
    inner r (Some x) k = go r x k

    outer : (o : Option Record) → IsSomeAnd o (λ r. IsSomeAnd r.kept (P r)) → IsSomeAnd o (λ r. IsSomeAnd r.kept (Q r))
    outer None k = k
    outer (Some r) k = inner r r.kept k

pub charged-instances : (p : Problem) (n : ℕ) (m : Metering) → HasCharged p n m → CountsInstances m n
charged-instances p n m h = outer m.newest h
  where
    inner : (r : Record) (o : Option Kept) → IsSomeAnd o (λ k. (k.problem ≡ p) × (r.instances ≡ n) × (slice_get k.tallies 0 ≡ Some 0)) → r.instances ≡ n
    inner r None k = absurd k
    inner r (Some x) k = k.1

    outer : (o : Option Record) → IsSomeAnd o (λ r. IsSomeAnd r.kept (λ k. (k.problem ≡ p) × (r.instances ≡ n) × (slice_get k.tallies 0 ≡ Some 0))) → IsSomeAnd o (λ r. r.instances ≡ n)
    outer None k = k
    outer (Some r) k = inner r r.kept k

-- the entries are counted, and then the lines of their tree too
pub entries-counted : (p : Problem) (trees : List Tree) (rows : List Row) (m : Metering) → HasCharged p (length rows) m → OfNewest m (HasCounted p (entries_in trees rows) 0)
entries-counted p trees rows m h =
    newest-weaker m _ _ (λ r k is. (is.0, is.1 ∙ sym (length-map rows (entry_in trees)) ∙ omega arith)) h

pub lines-counted : (p : Problem) (n many : ℕ) (a b : Metering) → HasCharged p n a → b ≡ more_instances many a → HasCharged p (n + many) b
lines-counted p n many a b h is = subst (HasCharged p (n + many)) (sym is) (outer a.newest h)
  where
    inner : (r : Record) (o : Option Kept) → IsSomeAnd o (λ k. (k.problem ≡ p) × (r.instances ≡ n) × (slice_get k.tallies 0 ≡ Some 0)) → IsSomeAnd o (λ k. (k.problem ≡ p) × (r.instances + many ≡ n + many) × (slice_get k.tallies 0 ≡ Some 0))
    inner r None k = k
    inner r (Some x) k = (k.0, ap (λ i. i + many) k.1, k.2)

    outer : (o : Option Record) → IsSomeAnd o (λ r. IsSomeAnd r.kept (λ k. (k.problem ≡ p) × (r.instances ≡ n) × (slice_get k.tallies 0 ≡ Some 0))) →
        IsSomeAnd (option_map (record_with many) o) (λ r. IsSomeAnd r.kept (λ k. (k.problem ≡ p) × (r.instances ≡ n + many) × (slice_get k.tallies 0 ≡ Some 0)))
    outer None k = k
    outer (Some r) k = inner r r.kept k
