-- Parts of a tree that are still to be drawn.
use Rattle.std.specs.Prelude.{ℕ}
use Rattle.qv_expand.specs.declared.tasks.Task.{Task}

-- the part for an entry below a line, with so many places on the path down to it
abbrev pub task_below : ℕ → ℕ → ℕ → Task
task_below parent depth entry = record { entry = entry; parent = parent; depth = depth }
