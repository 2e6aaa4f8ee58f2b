use Rattle.std.proofs.Common.{◌≤◌, length, Err, ap, ◌∙◌, arith}
use Rattle.qv_script_parts.proofs.Parting.{many-parts}
use Rattle.qv_script_parts.proofs.parts.count_of.Goals as goal

pub returns-in_default : goal.returns-in_default
returns-in_default c = λ es parts.
    let many : 2 ≤ length c.args.args.now = omega (arith, c.in_default.len_at_least) in
    ap Err c.fault_at.ensures ∙ many-parts c.args.place c.args.expr.now c.args.args.now es many parts
