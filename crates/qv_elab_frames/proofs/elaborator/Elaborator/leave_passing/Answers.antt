use Rattle.std.proofs.Common.{ℕ, ◌+◌, sym, subst, arith}
use Rattle.qv_elab_defs.specs.Scopes.{Named}
use Rattle.qv_elab_frames.specs.Loop.{source, state_of, IsMade}
use Rattle.qv_elab_frames.proofs.Departing.{passes, passing-within}
use Rattle.qv_elab_frames.proofs.elaborator.Elaborator.leave_passing.Goals as goal

pub returns-clause-next : goal.returns-clause-next
returns-clause-next c = λ trees defs end given h.
    let s = state_of c.args.self.now in
    subst (λ (b : Named ℕ). IsMade (source c.args.expr.now end defs) trees (record s { bound = b }) c.args.id (c.args.close + 1) given) (sym c.truncate.ensures)
    (passes (source c.args.expr.now end defs) trees s c.args.close c.args.bound c.args.id c.args.at given h)

pub returns-clause-fewer : goal.returns-clause-fewer
returns-clause-fewer c =
    let x = c.requires in
    let inside = passing-within (source c.args.expr.now x.1.1 x.1.0) x.0 (state_of c.args.self.now) c.args.close c.args.bound c.args.id c.args.at x.1.2 x.1.3 in
    omega (arith, inside.0, inside.1)
