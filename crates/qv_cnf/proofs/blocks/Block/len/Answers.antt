use Rattle.std.proofs.Common.{List, length, ap, arith}
use Rattle.qv_cnf.proofs.Packing.{lists-length}
use Rattle.qv_cnf.specs.Literal.{Literal}
use Rattle.qv_cnf.proofs.blocks.Block.len.Goals as goal

pub returns : goal.returns
returns c =
    let before = c.self.inside in
    let count = lists-length 0 before.lits.items before.ends.items in
    let same = ap (λ (ls : List (List Literal)). length ls) c.self.view_is in
    omega (arith, count, same, c.len.ensures)
