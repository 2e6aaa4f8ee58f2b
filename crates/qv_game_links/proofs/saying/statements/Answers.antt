use Rattle.qv_game_links.proofs.Said.{all-said, partly-more}
use Rattle.qv_game_links.proofs.saying.statements.Goals as goal

pub parts-preserved : goal.parts-preserved
parts-preserved c = partly-more c.args.store.now c.args.formula c.parts.left _ _ c.parts.said.items c.say.new.said.items c.in-Some.ensures c.in_ok-say.ensures c.parts.invariant

pub returns : goal.returns
returns c = all-said c.args.store.now c.args.formula c.parts.left c.parts.said.items c.say-2.new.said.items c.in_ok-say-2.ensures c.parts.invariant
