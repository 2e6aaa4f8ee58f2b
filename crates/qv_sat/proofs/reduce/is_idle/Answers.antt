use Rattle.std.proofs.Common.{sym}
use Rattle.std.proofs.lemmas.Bool.{false≢true}
use Rattle.qv_sat.proofs.Picking.{idle-attached, idle-by_reason, idle-not_base}
use Rattle.qv_sat.proofs.reduce.is_idle.Goals as goal

pub returns-in_default : goal.returns-in_default
returns-in_default c = (λ on. absurd (false≢true on), λ i. absurd (idle-attached c.args.base.now.live c.args.trail.now c.args.id (sym c.in_default.ensures) i))

pub returns-in-Some-get : goal.returns-in-Some-get
returns-in-Some-get c = (λ on. absurd (false≢true on), λ i. absurd (idle-not_base c.args.base.now.live c.args.trail.now c.args.id c.in-Some-get.field-0.now (sym c.in-Some-get.ensures) i))

pub returns-in-None : goal.returns-in-None
returns-in-None c = idle-by_reason c.args.base.now.live c.args.trail.now c.args.id c.in-Some.lits.now c.is_reason.result c.requires (sym c.in-Some.ensures) (sym c.in-None.ensures) c.is_reason.ensures
