use Rattle.std.proofs.Common.{List, subst}
use Rattle.qv_game_links.specs.declared.saying.Statement.{Statement}
use Rattle.qv_game_links.specs.Thinning.{Follow}
use Rattle.qv_game_links.proofs.thinning.is_general.Goals as goal

pub returns : goal.returns
returns c = λ yes. subst (λ (xs : List Statement). Follow c.args.known.now c.args.said.now xs) c.deref.ensures.value (c.follow.ensures yes)
