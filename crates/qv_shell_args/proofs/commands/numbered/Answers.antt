use Rattle.std.proofs.Common.{codes}
use Rattle.qv_shell_args.specs.Commands.{bare_command, place}
use Rattle.qv_shell_args.proofs.commands.numbered.Goals as goal

pub returns : goal.returns
returns c = c.with_arg.ensures (bare_command c.args.name.now) (place (codes "N")) c.bare.ensures c.place.ensures.rule
