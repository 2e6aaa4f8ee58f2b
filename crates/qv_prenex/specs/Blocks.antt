-- The blocks that parts make behind those that there are.
use Rattle.std.specs.Prelude.{ℕ, zero, suc, ◌+◌, ◌<◌, ◌≤◌, true, List, [], ◌∷◌, map}
use Rattle.std.specs.List.{AllByRecursion}
use Rattle.std.specs.Prelude.{Vec}
use Rattle.std.specs.declared.alloc.Global.{Global}
use Rattle.qv_words.specs.declared.sort.Sort.{Sort}
use Rattle.qv_words.specs.Tree.{Tree}
use Rattle.qv_words.specs.Prenex.{joined_blocks, tree_size}
use Rattle.qv_prenex_laws.specs.RuleLaws.{blocks_under}
use Rattle.qv_prenex_laws.specs.RuleLaws.{Part as PlainPart}
use Rattle.qv_prenex_matrix.specs.declared.rules.Part.{Part}
use Rattle.qv_prenex.specs.declared.blocks.Task.{Task}
use Rattle.qv_prenex_matrix.specs.Rules.{part_in}
use Rattle.qv_prenex_matrix.specs.Waiting.{weight}

-- the sorts in vectors of blocks
abbrev pub sorts_in : List (Vec Sort Global) → List (List Sort)
sorts_in blocks = map (λ b. b.items) blocks

-- the same blocks behind so many empty ones
abbrev pub behind : ℕ → List (List Sort) → List (List Sort)
behind zero blocks = blocks
behind (suc n) [] = []
behind (suc n) (b ∷ bs) = [] ∷ behind n (b ∷ bs)

-- a tree under a sign, and the block in which the first block of its form goes
pub record PlainTask : Type 0 where
  pub part : PlainPart
  pub block : ℕ

abbrev pub task_in : List Tree → Task → PlainTask
task_in trees t = record { part = part_in trees t.part; block = t.block }

abbrev pub tasks_in : List Tree → List Task → List PlainTask
tasks_in trees = map (task_in trees)

abbrev pub at_block : ℕ → Part → Task
at_block block part = record { part = part; block = block }

-- a formula as it is asserted
abbrev pub first_task : ℕ → Task
first_task n = record { part = record { plus = true; term = n }; block = 0 }

-- the blocks where the form of each part has come
unfoldable pub blocks_after : List (List Sort) → List PlainTask → List (List Sort)
blocks_after blocks [] = blocks
blocks_after blocks (t ∷ ts) = blocks_after (joined_blocks blocks (behind t.block (blocks_under t.part.plus t.part.tree))) ts

-- their terms stand below this number, and no block leaves a gap behind so many
abbrev pub AreTasks : ℕ → ℕ → List Task → Type 0
AreTasks n blocks = AllByRecursion (λ t. (t.part.term < n) × (t.block ≤ blocks))

-- how much is left to do at most
unfoldable pub tasks_work : List PlainTask → ℕ
tasks_work [] = 0
tasks_work (t ∷ ts) = weight (tree_size t.part.tree) + tasks_work ts
