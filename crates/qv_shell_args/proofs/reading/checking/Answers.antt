use Rattle.std.proofs.Common.{map}
use Rattle.std.specs.Prelude.{string_bytes}
use Rattle.clap.specs.Words.{app_of}
use Rattle.qv_shell_args.specs.Answers.{checking_texts}
use Rattle.qv_shell_args.specs.Call.{checking_in, checking_of}
use Rattle.qv_shell_args.specs.Commands.{checking_command}
use Rattle.qv_shell_args.proofs.Answering.{fault-behind, answer-behind}
use Rattle.qv_shell_args.proofs.reading.checking.Goals as goal

pub returns-in-Err-clause-checking : goal.returns-in-Err-clause-checking
unfolding checking_in
returns-in-Err-clause-checking c =
    fault-behind checking_texts (checking_of c.args.first.now c.args.second.now) (app_of c.in_ok-command.command) (checking_command c.args.name.now c.args.first.now c.args.second.now)
    (map string_bytes c.args.words.now) c.in-Err.fault c.in_ok-command.ensures c.in-Err.ensures

pub returns-in-Ok-clause-checking : goal.returns-in-Ok-clause-checking
unfolding checking_in
returns-in-Ok-clause-checking c =
    answer-behind checking_texts (checking_of c.args.first.now c.args.second.now) (app_of c.in_ok-command.command) (checking_command c.args.name.now c.args.first.now c.args.second.now)
    (map string_bytes c.args.words.now) c.in-Ok.matches c.checking_from.result c.in_ok-command.ensures c.in-Ok.ensures c.checking_from.ensures.checking
