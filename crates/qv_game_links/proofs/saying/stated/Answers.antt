use Rattle.qv_game_links.proofs.Said.{said-equal, said-itself}
use Rattle.qv_game_links.proofs.saying.stated.Goals as goal

pub returns-in-Some : goal.returns-in-Some
returns-in-Some c = said-equal c.args.store.now c.args.part _ _ c.in-Some.ensures

pub returns-in-None : goal.returns-in-None
returns-in-None c = said-itself c.args.store.now c.args.part
