use Rattle.std.proofs.Common.{◌≡◌, ℕ, ◌+◌, List, ◌++◌, drop}
use Rattle.qv_dimacs.specs.Machine.{run}
use Rattle.qv_dimacs.specs.View.{state_of}
use Rattle.qv_dimacs.proofs.machine.Machine.take_all.Given as goal

-- the bytes that are left say what all of them say
abbrev pub invariant-loop-byte : goal.invariant-loop-byte
invariant-loop-byte l =
    ((text : List ℕ) → run (state_of l.fn.self) (l.piece ++ text) ≡ run (state_of l.self) (drop l.byte-index l.piece ++ text))
    × (l.self.place ≡ l.fn.self.place + l.byte-index)
