use Rattle.std.proofs.Common.{sym, arith}
use Rattle.qv_game_links.proofs.thinning.is_named.Goals as goal

pub returns-then-names : goal.returns-then-names
returns-then-names c = λ yes. (c.kept.link-index, c.link-item.result, omega arith, sym c.link-item.is, c.names.ensures c.if-names.true)
