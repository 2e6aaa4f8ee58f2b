-- a block behind the last one is as good as empty
use Rattle.std.proofs.Common.{◌≡◌, ◌≤◌, ◌+◌, ◌-◌, ◌∷◌, [], length}
use Rattle.qv_words.specs.Prenex.{joined_blocks}
use Rattle.qv_prenex.specs.Blocks.{sorts_in, behind}
use Rattle.qv_prenex.proofs.blocks.put_sort.Given as goal

abbrev pub invariant-room : goal.invariant-room
invariant-room l = record {
  same : joined_blocks (sorts_in l.blocks.items) (behind l.block ((l.sort ∷ []) ∷ [])) ≡ joined_blocks (sorts_in l.fn.blocks.items) (behind l.block ((l.sort ∷ []) ∷ []));
  more : length l.fn.blocks.items ≤ length l.blocks.items;
}

abbrev pub decreases-room : goal.decreases-room
decreases-room l = l.block + 1 - length l.blocks.items
