-- the first parts are put
use Rattle.std.proofs.Common.{◌≡◌, ◌++◌, map, take}
use Rattle.qv_prenex.specs.Blocks.{at_block}
use Rattle.qv_prenex.proofs.blocks.push_at.Given as goal

abbrev pub invariant-parts : goal.invariant-parts
invariant-parts l = l.todo.items ≡ l.fn.todo.items ++ map (at_block l.block) (take l.part-index l.parts)
