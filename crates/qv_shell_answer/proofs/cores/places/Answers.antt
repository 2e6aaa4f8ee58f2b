use Rattle.qv_shell_answer.proofs.Asking.{places-assumed, places-named}
use Rattle.qv_shell_answer.proofs.cores.places.Goals as goal

pub returns-in-Names : goal.returns-in-Names
returns-in-Names c = places-named c.named_places.result c.args.among c.args.script.now c.named.result.now c.in-Names.is c.named.ensures c.named_places.ensures

pub returns-in-Assumptions : goal.returns-in-Assumptions
returns-in-Assumptions c = places-assumed c.assumed_places.result c.args.among c.args.script.now c.in-Assumptions.is c.assumed_places.ensures
