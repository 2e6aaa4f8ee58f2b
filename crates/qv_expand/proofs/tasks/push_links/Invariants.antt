-- the parts for the last entries
use Rattle.std.proofs.Common.{◌≡◌, ◌++◌, map, drop, reverse}
use Rattle.qv_expand.specs.Tasks.{task_below}
use Rattle.qv_expand.proofs.tasks.push_links.Given as goal

abbrev pub invariant-links : goal.invariant-links
invariant-links l = l.tasks.items ≡ l.fn.tasks.items ++ reverse (map (task_below l.parent l.depth) (drop l.place l.links))
