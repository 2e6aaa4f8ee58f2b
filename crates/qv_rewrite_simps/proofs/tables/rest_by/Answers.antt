use Rattle.std.proofs.Common.{sym, ◌∙◌, arith}
use Rattle.qv_rewrite_simps.proofs.Powering.{rest-power}
use Rattle.qv_rewrite_simps.proofs.tables.rest_by.Goals as goal

pub returns-in-Some : goal.returns-in-Some
returns-in-Some c = rest-power c.args.sort c.args.n c.in-Some.field-0 (λ e. omega (arith, e)) (λ e. omega (arith, e)) (sym c.power_in.ensures ∙ c.in-Some.is)
