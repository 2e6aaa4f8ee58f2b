use Rattle.std.proofs.Common.{map}
use Rattle.std.specs.Prelude.{string_bytes}
use Rattle.clap.specs.Words.{app_of}
use Rattle.qv_shell_args.specs.Answers.{pair_texts}
use Rattle.qv_shell_args.specs.Call.{pair_in, pair_of}
use Rattle.qv_shell_args.specs.Commands.{pair_command}
use Rattle.qv_shell_args.proofs.Answering.{fault-behind, answer-behind}
use Rattle.qv_shell_args.proofs.reading.pair.Goals as goal

pub returns-in-Err : goal.returns-in-Err
unfolding pair_in
returns-in-Err c =
    fault-behind pair_texts (pair_of c.args.first.now c.args.second.now) (app_of c.in_ok-command.command) (pair_command c.args.name.now c.args.first.now c.args.second.now)
    (map string_bytes c.args.words.now) c.in-Err.fault c.in_ok-command.ensures c.in-Err.ensures

pub returns-in-Ok : goal.returns-in-Ok
unfolding pair_in
returns-in-Ok c =
    answer-behind pair_texts (pair_of c.args.first.now c.args.second.now) (app_of c.in_ok-command.command) (pair_command c.args.name.now c.args.first.now c.args.second.now)
    (map string_bytes c.args.words.now) c.in-Ok.matches c.pair_from.result c.in_ok-command.ensures c.in-Ok.ensures c.pair_from.ensures
