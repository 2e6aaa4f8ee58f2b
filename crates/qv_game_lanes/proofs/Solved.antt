-- What the core's search leaves of a lane, and the conflicts that a meter counts.
use Rattle.std.proofs.Common.{◌≡◌, ◌+◌, min, Option, Some, None, true, List, [], refl, sym, ap, ◌∙◌, subst, arith}
use Rattle.std.specs.Prelude.{IfSome}
use Rattle.qv_words.specs.Tree.{Tree}
use Rattle.qv_cnf.specs.Derivation.{additions}
use Rattle.qv_words.specs.Clauses.{cnf}
use Rattle.qv_cnf.specs.Listing.{Numbered}
use Rattle.qv_cnf.specs.Literal.{Literal}
use Rattle.qv_cnf_bridge_laws.specs.Bridge.{clauses_for}
use Rattle.qv_blast.specs.States.{HasFormulas}
use Rattle.qv_meter.specs.Units.{Lane as Charged}
use Rattle.qv_meter.specs.Records.{IsMetering, IsRecord, Metering, Record}
use Rattle.qv_meter.specs.Charging.{conflict_count}
use Rattle.qv_meter.specs.Bases.{IsBaseOf}
use Rattle.qv_meter.proofs.Bases.{model-of-clauses}
use Rattle.qv_sat.specs.Answering.{IsFailed}
use Rattle.qv_sat.specs.CoreState.{GoesOn}
use Rattle.qv_game_lanes.specs.declared.lane.Lane.{Lane}
use Rattle.qv_game_lanes.specs.Lanes.{IsLane}

counted : (older : List Record) (o : Option Record) (lane : Charged) (r : Record) → o ≡ Some r → IfSome o IsRecord → r.conflicts ≡ conflict_count (record { older = older; newest = o; lane = lane })
counted older None lane r e h = absurd (cc)
counted older (Some q) lane r e h =
    let same : q ≡ r = cc in
    let least : q.conflicts ≡ min q.conflicts q.limits.conflicts = let within = h.conflicts in omega (arith, within) in
    ap (λ (x : Record). x.conflicts) (sym same) ∙ least

pub conflicts-of : (m : Metering) (r : Record) → m.newest ≡ Some r → IsMetering m → r.conflicts ≡ conflict_count m
conflicts-of m r e h = counted m.older m.newest m.lane r e h.newest

uncounted : (older : List Record) (o : Option Record) (lane : Charged) → o ≡ None → 0 ≡ conflict_count (record { older = older; newest = o; lane = lane })
uncounted older None lane e = refl
uncounted older (Some q) lane e = absurd (cc)

pub conflicts-none : (m : Metering) → m.newest ≡ None → 0 ≡ conflict_count m
conflicts-none m e = uncounted m.older m.newest m.lane e

-- the core went on, and the lane counted what it learnt
pub solved : (trees formulas : List Tree) (old new : Lane) → IsLane trees formulas old → new.blaster ≡ old.blaster → new.fed ≡ old.fed → GoesOn old.core new.core → new.learnt ≡ additions new.core.steps → new.core.top ≡ new.fed + new.learnt → new.closed ≡ old.closed → IsLane trees formulas new
solved trees formulas old new h blaster fed goes learnt top closed =
    record {
      terms = h.terms;
      blaster = subst (HasFormulas trees formulas) (sym blaster) h.blaster;
      core = subst (λ (b : List Numbered). IsBaseOf b formulas) (sym goes.base) h.core;
      few = (let few = h.few in omega (arith, few, fed));
      learnt = learnt;
      top = top;
      closed = λ yes. h.closed (sym closed ∙ yes);
    }

-- where the clauses have no model, nothing has to be assumed for them to fail
pub failed-alone : (trees formulas : List Tree) (l : Lane) (assumptions core : List Literal) → core ≡ [] → IsLane trees formulas l → l.closed ≡ true → IsFailed l.core.base assumptions core
failed-alone trees formulas l assumptions core e lane none =
    subst (IsFailed l.core.base assumptions) (sym e)
    (record { among_assumptions = refl; no_model = λ v model assumed. lane.closed none v (model-of-clauses v [] l.core.base (clauses_for (cnf formulas)) lane.core model) })
