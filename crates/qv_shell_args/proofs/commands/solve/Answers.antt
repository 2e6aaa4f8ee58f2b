use Rattle.std.proofs.Common.{codes}
use Rattle.clap.specs.Words.{with_rule}
use Rattle.qv_shell_args.specs.Commands.{flag, settled_command}
use Rattle.qv_shell_args.proofs.commands.solve.Goals as goal

pub returns : goal.returns
returns c =
    let settled = settled_command (codes "solve") (codes "SCRIPT") in
    c.with_arg.ensures (with_rule settled (flag (codes "check"))) (flag (codes "verbose"))
    (c.with_arg-with_one.ensures settled (flag (codes "check")) c.settled.ensures c.flag.ensures.rule) c.flag-2.ensures.rule
