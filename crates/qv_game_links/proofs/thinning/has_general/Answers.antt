use Rattle.std.proofs.Common.{sym, arith}
use Rattle.qv_game_links.proofs.thinning.has_general.Goals as goal

pub returns-then-is_general : goal.returns-then-is_general
returns-then-is_general c = λ yes. (c.kept.link-index, c.link-item.result, omega arith, sym c.link-item.is, c.is_general.ensures c.if-is_general.true)
