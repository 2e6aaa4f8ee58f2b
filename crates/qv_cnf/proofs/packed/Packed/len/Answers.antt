use Rattle.std.proofs.Common.{List, length, ap, arith}
use Rattle.std.proofs.lemmas.List.{length-append}
use Rattle.qv_cnf.proofs.BlockLaws.{length-lists_of}
use Rattle.qv_cnf.specs.Blocks.{lists_of}
use Rattle.qv_cnf.specs.Literal.{Literal}
use Rattle.qv_cnf.proofs.packed.Packed.len.Goals as goal

pub returns : goal.returns
returns c =
    let full = c.self.inside.full.items in
    let all = length-lists_of full c.self.invariant.full in
    let same = ap (λ (ls : List (List Literal)). length ls) c.self.view_is in
    omega (arith, all, same, c.len.ensures, c.len-2.ensures, length-append (lists_of full) c.self.inside.last)
