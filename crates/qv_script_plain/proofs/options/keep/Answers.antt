use Rattle.std.proofs.Common.{refl}
use Rattle.qv_script_defs.specs.Moves.{Quiet, with_value}
use Rattle.qv_script_plain.proofs.options.keep.Goals as goal

pub returns-clause-step : goal.returns-clause-step
returns-clause-step c = λ trees s e h p.
    (with_value c.args.key.now e s, Quiet, refl, c.in_ok-choose.ensures.ok trees s e h p, refl)
