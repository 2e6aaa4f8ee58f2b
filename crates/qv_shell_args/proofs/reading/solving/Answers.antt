use Rattle.std.proofs.Common.{map, refl}
use Rattle.clap.specs.Words.{app_of}
use Rattle.qv_shell_args.specs.Answers.{solving_texts}
use Rattle.qv_shell_args.specs.Call.{solving_in, solving_of}
use Rattle.qv_shell_args.proofs.Answering.{fault-behind, answer-behind}
use Rattle.qv_shell_args.proofs.reading.solving.Goals as goal

pub returns-in-Err-clause-solving : goal.returns-in-Err-clause-solving
unfolding solving_in
returns-in-Err-clause-solving g c =
    fault-behind solving_texts (solving_of c.args.file.now) (app_of c.args.command) (app_of c.args.command) (map g.S.AsStr.text c.args.words.now)
    c.in-Err.fault refl c.in-Err.ensures

pub returns-in-Ok-clause-solving : goal.returns-in-Ok-clause-solving
unfolding solving_in
returns-in-Ok-clause-solving g c =
    answer-behind solving_texts (solving_of c.args.file.now) (app_of c.args.command) (app_of c.args.command) (map g.S.AsStr.text c.args.words.now)
    c.in-Ok.matches c.solving_from.result refl c.in-Ok.ensures c.solving_from.ensures.solving
