use Rattle.std.proofs.Common.{◌≡◌, ◌++◌, drop}
use Rattle.qv_solve_cores.specs.Marks.{kept_of}
use Rattle.qv_solve_cores.proofs.lists.kept_places.Given as goal

-- what is listed, and what is kept behind it
abbrev pub invariant-items : goal.invariant-items
invariant-items l = l.kept.items ++ kept_of (drop l.item l.named) (drop l.item l.search.kept) ≡ kept_of l.named l.search.kept
