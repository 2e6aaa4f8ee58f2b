-- What holds of each meter, after its newest record has changed.
use Rattle.std.proofs.Common.{◌≡◌, ℕ, zero, suc, ◌+◌, ◌<◌, ◌≤◌, List, [], ◌∷◌, ◌++◌, Option, Some, None, refl, sym, ap, subst, inl, inr, arith}
use Rattle.std.specs.Prelude.{Result, Ok, Err, IsErr, OnOk, OnErr, IfSome, IsSomeAnd, All, min, sum, replicate, option_to_list}
use Rattle.std.proofs.lemmas.List.{length-replicate}
use Rattle.std.proofs.lemmas.List.Elements.{All-append, All-from_recursion}
use Rattle.qv_words.specs.Tree.{Tree}
use Rattle.qv_words.specs.Problem.{Problem}
use Rattle.qv_words.specs.Linked.{Entry}
use Rattle.std.proofs.lemmas.Bool.{cases_lt, false≢true}
use Rattle.qv_cnf.specs.Literal.{Literal}
use Rattle.qv_cnf.specs.Listing.{Numbered}
use Rattle.qv_cnf.specs.LratLine.{LratLine}
use Rattle.qv_cnf.specs.Derivation.{IsDerivation, addition_of}
use Rattle.qv_meter.specs.Charging.{ExceedsVariables, MayCharge, MayChargeInstance, OfNewest, SameButConflicts, conflict_count, conflict_limit}
use Rattle.qv_meter.specs.BudgetLaws.{SameButConflicts-reflexive}
use Rattle.qv_meter.proofs.Conflicts.{counts}
use Rattle.qv_meter.specs.Units.{InstanceUnit, Lane}
use Rattle.qv_meter.proofs.Working.{first-worked, instance-worked, over-worked}
use Rattle.qv_meter.specs.RecordLaws.{CallsKeepMeters}
use Rattle.qv_meter.specs.Records.{AreLimits, IsLaneOf, IsMetering, IsPresent, IsRecord, Kept, Limits, Metering, Record, after_instance, after_variables, in_lane, lane_count, one_more_instance, over_large, settled, started, with_conflicts, without_problem}

-- a meter with a newest record
abbrev pub metered : List Record → Record → Lane → Metering
metered older r lane = record { older = older; newest = Some r; lane = lane }

pub over-keeps : (older : List Record) (r : Record) (lane : Lane) (entries : List Entry) (formulas : List Tree) → ExceedsVariables (metered older r lane) entries formulas → IsMetering (metered older r lane) → IsMetering (metered older (over_large r) lane)
over-keeps older r lane entries formulas may h = record {
  older = h.older;
  newest = record { limits = h.newest.limits; conflicts = h.newest.conflicts; instances = h.newest.instances; tallies = h.newest.tallies; worked = over-worked r.kept r entries formulas h.newest.worked may };
  lane = h.lane;
}

pub settled-keeps : (older : List Record) (r : Record) (lane : Lane) → IsMetering (metered older r lane) → IsMetering (metered older (without_problem r) lane)
settled-keeps older r lane h = record {
  older = h.older;
  newest = record { limits = h.newest.limits; conflicts = h.newest.conflicts; instances = h.newest.instances; tallies = tt; worked = tt };
  lane = tt;
}

pub instance-keeps : (older : List Record) (r : Record) (lane : Lane) (unit : InstanceUnit) → MayChargeInstance (metered older r lane) unit → r.instances < r.limits.instances → IsMetering (metered older r lane) → IsMetering (metered older (one_more_instance r) lane)
instance-keeps older r lane unit may below h = record {
  older = h.older;
  newest = record { limits = h.newest.limits; conflicts = h.newest.conflicts; instances = omega (arith, below); tallies = h.newest.tallies; worked = instance-worked r.kept r unit h.newest.worked may };
  lane = h.lane;
}

zeros : (n : ℕ) → sum (replicate n 0) ≡ 0
zeros zero = refl
zeros (suc n) = zeros n

of-newest : (r : Option Record) → IfSome r IsRecord → All IsRecord (option_to_list r)
of-newest None h = All-from_recursion IsRecord [] tt
of-newest (Some r) h = All-from_recursion IsRecord (r ∷ []) (h, tt)

pub started-keeps : (p : Problem) (limits : Limits) (m : Metering) → AreLimits limits → IsMetering m → IsMetering (started p limits m)
started-keeps p limits m lawful h = record {
  older = All-append IsRecord m.older (option_to_list m.newest) h.older (of-newest m.newest h.newest);
  newest = record {
    limits = lawful;
    conflicts = omega arith;
    instances = omega arith;
    tallies = record { each = length-replicate (lane_count p) 0; together = zeros (lane_count p) };
    worked = first-worked p limits;
  };
  lane = tt;
}

-- what is unchanged has an unchanged meaning
pub on-err : {T E X Y : Type 0} (f : X → Y) (result : Result T E) (a b : X) → OnErr result (a ≡ b) → OnErr result (f a ≡ f b)
on-err f (Err e) a b h = ap f h
on-err f (Ok x) a b h = tt

-- a count that isn't at its limit is below it
below-limit : (n limit : ℕ) → n ≤ limit → (n ≡ limit → ⊥) → n < limit
below-limit n limit within spent = elim (cases_lt n limit) [
  | inl less ↦ less
  | inr more ↦ absurd (spent (omega (arith, within, more)))
]

-- a charge of an instance, refused or not
pub instance-step : {T E : Type 0} (result : Result T E) (older : List Record) (r next : Record) (lane : Lane) (unit : InstanceUnit) → MayChargeInstance (metered older r lane) unit → (IsErr result → r.instances ≡ r.limits.instances) × (r.instances ≡ r.limits.instances → IsErr result) → OnErr result (next ≡ r) → OnOk result (next ≡ one_more_instance r) → IsMetering (metered older r lane) → IsMetering (metered older next lane)
instance-step (Err e) older r next lane unit may spent err ok h = subst (λ q. IsMetering (metered older q lane)) (sym err) h
instance-step (Ok x) older r next lane unit may spent err ok h =
    subst (λ q. IsMetering (metered older q lane)) (sym ok) (instance-keeps older r lane unit may (below-limit r.instances r.limits.instances h.newest.instances (λ e. false≢true (spent.1 e))) h)

-- a charge of a conflict, refused or not
pub record ConflictStep {T E : Type 0} (result : Result T E) (before after : Metering) (base : List Numbered) (steps : List LratLine) (addition : LratLine) : Type 0 where
  pub kept : IsMetering after
  pub spent : (IsErr result → conflict_count before ≡ conflict_limit before) × (conflict_count before ≡ conflict_limit before → IsErr result)
  pub may : OnOk result (MayCharge after base (steps ++ addition ∷ []))
  pub same : SameButConflicts before after

at-limit : (Q : Type 0) (older : List Record) (r : Record) (lane : Lane) → r.conflicts ≤ r.limits.conflicts → (Q → r.conflicts ≡ r.limits.conflicts) × (r.conflicts ≡ r.limits.conflicts → Q) → (Q → conflict_count (metered older r lane) ≡ conflict_limit (metered older r lane)) × (conflict_count (metered older r lane) ≡ conflict_limit (metered older r lane) → Q)
at-limit Q older r lane within spent =
    (λ e. let same : r.conflicts ≡ r.limits.conflicts = spent.0 e in omega (arith, same), λ same. let least : min r.conflicts r.limits.conflicts ≡ r.limits.conflicts = same in spent.1 (omega (arith, within, least)))

pub conflict-step : {T E : Type 0} (result : Result T E) (older : List Record) (r next : Record) (lane : Lane) (base : List Numbered) (steps : List LratLine) (id : ℕ) (lits : List Literal) (hints : List ℕ) → (IsErr result → r.conflicts ≡ r.limits.conflicts) × (r.conflicts ≡ r.limits.conflicts → IsErr result) → OnErr result (next ≡ r) → OnOk result (next ≡ with_conflicts lane (λ n. n + 1) r) → IsMetering (metered older r lane) → MayCharge (metered older r lane) base steps → IsDerivation base (steps ++ addition_of id lits hints ∷ []) → ConflictStep result (metered older r lane) (metered older next lane) base steps (addition_of id lits hints)
conflict-step (Err e) older r next lane base steps id lits hints spent err ok h may derivation = record {
  kept = subst (λ q. IsMetering (metered older q lane)) (sym err) h;
  spent = at-limit _ older r lane h.newest.conflicts spent;
  may = tt;
  same = subst (λ q. SameButConflicts (metered older r lane) (metered older q lane)) (sym err) (SameButConflicts-reflexive (metered older r lane));
}
conflict-step (Ok x) older r next lane base steps id lits hints spent err ok h may derivation =
    let less : r.conflicts < r.limits.conflicts = below-limit r.conflicts r.limits.conflicts h.newest.conflicts (λ e. false≢true (spent.1 e)) in
    let step = counts (metered older r lane) base steps id lits hints may derivation (omega (arith, less)) in
    record {
      kept = subst (λ q. IsMetering (metered older q lane)) (sym ok) (step.1.kept h);
      spent = at-limit _ older r lane h.newest.conflicts spent;
      may = subst (λ q. MayCharge (metered older q lane) base (steps ++ addition_of id lits hints ∷ [])) (sym ok) step.2;
      same = subst (λ q. SameButConflicts (metered older r lane) (metered older q lane)) (sym ok) step.1;
    }

-- each call keeps what holds of a meter
present-in : (lane : Lane) (o : Option Record) → IsSomeAnd o (λ r. IsSomeAnd r.kept (λ k. IsLaneOf k.problem lane)) → IfSome o (IsPresent lane)
present-in lane None h = tt
present-in lane (Some r) h = inside r.kept h
  where
    inside : (k : Option Kept) → IsSomeAnd k (λ k. IsLaneOf k.problem lane) → IfSome k (λ k. IsLaneOf k.problem lane)
    inside None h = tt
    inside (Some k) h = h

lane-keeps : (lane : Lane) (m : Metering) → OfNewest m (λ r k. IsLaneOf k.problem lane) → IsMetering m → IsMetering (in_lane lane m)
lane-keeps lane m of h = record { older = h.older; newest = h.newest; lane = present-in lane m.newest of }

instance-after : (older : List Record) (o : Option Record) (lane : Lane) (unit : InstanceUnit) → MayChargeInstance (record { older = older; newest = o; lane = lane }) unit → IsSomeAnd o (λ r. r.instances < r.limits.instances) → IsMetering (record { older = older; newest = o; lane = lane }) → IsMetering (after_instance (record { older = older; newest = o; lane = lane }))
instance-after older None lane unit may below h = absurd may
instance-after older (Some r) lane unit may below h = instance-keeps older r lane unit may below h

variables-after : (older : List Record) (o : Option Record) (lane : Lane) (entries : List Entry) (formulas : List Tree) → ExceedsVariables (record { older = older; newest = o; lane = lane }) entries formulas → IsMetering (record { older = older; newest = o; lane = lane }) → IsMetering (after_variables (record { older = older; newest = o; lane = lane }))
variables-after older None lane entries formulas may h = absurd may
variables-after older (Some r) lane entries formulas may h = over-keeps older r lane entries formulas may h

settled-after : (older : List Record) (o : Option Record) (lane : Lane) → IsMetering (record { older = older; newest = o; lane = lane }) → IsMetering (settled (record { older = older; newest = o; lane = lane }))
settled-after older None lane h = h
settled-after older (Some r) lane h = settled-keeps older r lane h

pub calls-keep_meters : CallsKeepMeters
calls-keep_meters = (
  record { older = All-from_recursion IsRecord [] tt; newest = tt; lane = tt },
  started-keeps,
  lane-keeps,
  λ m base steps id lits hints may derivation below h. (counts m base steps id lits hints may derivation below).1.kept h,
  λ m unit may below h. instance-after m.older m.newest m.lane unit may below h,
  λ m entries formulas may h. variables-after m.older m.newest m.lane entries formulas may h,
  λ m h. settled-after m.older m.newest m.lane h,
)
