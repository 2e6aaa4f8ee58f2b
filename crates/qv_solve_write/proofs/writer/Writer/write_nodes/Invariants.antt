-- the nodes so far
use Rattle.std.proofs.Common.{◌≡◌, ◌++◌, take, drop}
use Rattle.qv_store.specs.Walks.{named}
use Rattle.qv_solve_write_laws.specs.Writing.{node_lines}
use Rattle.qv_solve_write.specs.Writers.{lines_of}
use Rattle.qv_solve_write.proofs.Written.{IsNoding}
use Rattle.qv_solve_write.proofs.writer.Writer.write_nodes.Given as goal

abbrev pub invariant-nodes : goal.invariant-nodes
invariant-nodes l =
    let all = named l.store l.initial.self.walk in
    (l.self.walk ≡ l.initial.self.walk)
    × IsNoding l.answer l.store l.initial.self.walk l.place l.self.lines.items (lines_of l.initial.self ++ node_lines l.answer (take l.known all) (drop l.known all))
