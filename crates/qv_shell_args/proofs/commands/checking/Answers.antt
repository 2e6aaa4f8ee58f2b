use Rattle.std.proofs.Common.{codes}
use Rattle.qv_shell_args.specs.Commands.{option, pair_command}
use Rattle.qv_shell_args.proofs.commands.checking.Goals as goal

pub returns : goal.returns
returns c =
    c.with_arg.ensures (pair_command c.args.name.now c.args.first.now c.args.second.now) (option (codes "places")) c.pair.ensures c.option.ensures.rule
