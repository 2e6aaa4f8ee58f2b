use Rattle.std.proofs.Common.{codes}
use Rattle.clap.specs.Words.{with_rule}
use Rattle.qv_shell_args.specs.Commands.{flag, option, pair_command}
use Rattle.qv_shell_args.proofs.commands.settled.Goals as goal

pub returns : goal.returns
returns c =
    let files = pair_command c.args.name.now c.args.file.now (codes "CERT") in
    let one = with_rule files (option (codes "conflicts")) in
    let two = with_rule one (option (codes "instances")) in
    let three = with_rule two (option (codes "variables")) in
    let four = with_rule three (option (codes "places")) in
    c.with_arg.ensures four (flag (codes "stats"))
    (c.with_arg-with_four.ensures three (option (codes "places"))
    (c.with_arg-with_three.ensures two (option (codes "variables"))
    (c.with_arg-with_two.ensures one (option (codes "instances")) (c.with_arg-with_one.ensures files (option (codes "conflicts")) c.pair-files.ensures c.option.ensures.rule) c.option-2.ensures.rule)
    c.option-3.ensures.rule)
    c.option-4.ensures.rule)
    c.flag.ensures.rule
