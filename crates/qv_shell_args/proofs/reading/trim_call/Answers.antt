use Rattle.std.proofs.Common.{map}
use Rattle.std.specs.Prelude.{string_bytes}
use Rattle.clap.specs.Words.{app_of}
use Rattle.qv_shell_args.specs.Call.{request_of, trim_of, trim_request}
use Rattle.qv_shell_args.specs.Commands.{trim_command}
use Rattle.qv_shell_args.proofs.Answering.{fault-behind, answer-behind}
use Rattle.qv_shell_args.proofs.reading.trim_call.Goals as goal

pub returns-in-Err-clause-call : goal.returns-in-Err-clause-call
unfolding trim_request
returns-in-Err-clause-call c =
    fault-behind request_of trim_of (app_of c.in_ok-command.command) trim_command (map string_bytes c.args.words.now) c.in-Err.fault c.in_ok-command.ensures c.in-Err.ensures

pub returns-in-Ok-clause-call : goal.returns-in-Ok-clause-call
unfolding trim_request
returns-in-Ok-clause-call c =
    answer-behind request_of trim_of (app_of c.in_ok-command.command) trim_command (map string_bytes c.args.words.now) c.in-Ok.matches c.trim_from.result
    c.in_ok-command.ensures c.in-Ok.ensures c.trim_from.ensures.call
