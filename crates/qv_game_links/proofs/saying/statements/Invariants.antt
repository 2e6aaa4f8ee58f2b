-- what is left and what is said so far are together what the formula is
use Rattle.qv_game_links.proofs.Said.{IsPartlySaid}
use Rattle.qv_game_links.proofs.saying.statements.Given as goal

abbrev pub invariant-parts : goal.invariant-parts
invariant-parts l = IsPartlySaid l.store l.fn.formula l.left l.said.items

abbrev pub decreases-parts : goal.decreases-parts
decreases-parts l = l.left
