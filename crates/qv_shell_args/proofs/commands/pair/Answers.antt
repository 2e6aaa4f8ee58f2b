use Rattle.clap.specs.Words.{with_rule}
use Rattle.qv_shell_args.specs.Commands.{bare_command, place}
use Rattle.qv_shell_args.proofs.commands.pair.Goals as goal

pub returns : goal.returns
returns c =
    let bare = bare_command c.args.name.now in
    c.with_arg.ensures (with_rule bare (place c.args.first.now)) (place c.args.second.now)
    (c.with_arg-with_one.ensures bare (place c.args.first.now) c.bare.ensures c.place.ensures.rule) c.place-2.ensures.rule
