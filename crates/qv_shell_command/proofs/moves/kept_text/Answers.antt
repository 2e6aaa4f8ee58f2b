use Rattle.qv_shell_command.proofs.Moving.{assumed-texts, named-texts}
use Rattle.qv_shell_command.proofs.moves.kept_text.Goals as goal

pub returns-in-Names : goal.returns-in-Names
returns-in-Names c = named-texts c.core_text.result c.args.among c.args.script.now c.args.kept.now c.named.result.now c.in-Names.is c.named.ensures c.core_text.ensures

pub returns-in-Assumptions : goal.returns-in-Assumptions
returns-in-Assumptions c = assumed-texts c.assumed_text.result c.args.among c.args.script.now c.args.kept.now c.in-Assumptions.is c.assumed_text.ensures
