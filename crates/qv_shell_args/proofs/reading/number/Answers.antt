use Rattle.std.proofs.Common.{ℕ, map}
use Rattle.std.specs.Prelude.{string_bytes}
use Rattle.clap.specs.Words.{app_of}
use Rattle.qv_shell_args.specs.Call.{number_of, request_number}
use Rattle.qv_shell_args.specs.Commands.{number_command}
use Rattle.qv_shell_args.proofs.Answering.{fault-behind, answer-behind}
use Rattle.qv_shell_args.proofs.reading.number.Goals as goal

pub returns-in-Err-clause-number : goal.returns-in-Err-clause-number
unfolding request_number
returns-in-Err-clause-number c =
    fault-behind {U = ℕ} (λ n. n) (number_of c.args.most) (app_of c.in_ok-command.command) (number_command c.args.name.now) (map string_bytes c.args.words.now) c.in-Err.fault
    c.in_ok-command.ensures c.in-Err.ensures

pub returns-in-Ok-clause-number : goal.returns-in-Ok-clause-number
unfolding request_number
returns-in-Ok-clause-number c =
    answer-behind {U = ℕ} (λ n. n) (number_of c.args.most) (app_of c.in_ok-command.command) (number_command c.args.name.now) (map string_bytes c.args.words.now) c.in-Ok.matches
    c.number_from.result c.in_ok-command.ensures c.in-Ok.ensures c.number_from.ensures.number
