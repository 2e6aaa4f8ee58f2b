use Rattle.std.proofs.Common.{codes}
use Rattle.clap.specs.Words.{with_rule}
use Rattle.qv_shell_args.specs.Commands.{option, pair_command, place}
use Rattle.qv_shell_args.proofs.commands.trim.Goals as goal

pub returns : goal.returns
returns c =
    let files = pair_command (codes "trim") (codes "SCRIPT") (codes "CERT") in
    c.with_arg.ensures (with_rule files (place (codes "NEW"))) (option (codes "places"))
    (c.with_arg-with_one.ensures files (place (codes "NEW")) c.pair-files.ensures c.place.ensures.rule) c.option.ensures.rule
