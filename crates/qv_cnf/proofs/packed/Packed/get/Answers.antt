use Rattle.std.proofs.Common.{arith, ◌≡◌, ◌*◌, ◌-◌, ◌/◌, ◌%◌, ◌<◌, List, length, ap}
use Rattle.std.proofs.lemmas.List.{length-append}
use Rattle.qv_cnf.specs.Literal.{Literal}
use Rattle.qv_cnf.specs.Blocks.{lists_of}
use Rattle.qv_cnf.proofs.BlockLaws.{get-behind, get-in, length-lists_of, length-of_block}
use Rattle.qv_cnf.proofs.packed.Packed.get.Goals as goal

pub get-requires : goal.get-requires
get-requires c =
    let size = length-of_block c.self.inside.full.items c.index.result.now (c.args.at / 1024) c.self.invariant.full (omega (arith, c.len.ensures)) in
    let same : length c.index.result.now ≡ 1024 = rw (← c.index.ensures) at size in
    omega arith

pub get-requires-else-block-len : goal.get-requires-else-block-len
get-requires-else-block-len c =
    let full = c.self.inside.full.items in
    let all = length-lists_of full c.self.invariant.full in
    let same = ap (λ (ls : List (List Literal)). length ls) c.self.view_is in
    omega (arith, all, same, c.requires, c.len-else-block-len.ensures, length-append (lists_of full) c.self.inside.last)

pub returns-then-block-len : goal.returns-then-block-len
returns-then-block-len c =
    let full = c.self.inside.full.items in
    let within : c.args.at / 1024 < length full = omega (arith, c.len.ensures) in
    let at = get-in full c.self.inside.last c.index.result.now (c.args.at / 1024) (c.args.at % 1024) c.args.at c.self.invariant.full within (omega arith) (omega arith) in
    rw (← c.self.view_is, at, ← c.index.ensures) c.get.ensures

pub returns-else-block-len : goal.returns-else-block-len
returns-else-block-len c =
    let full = c.self.inside.full.items in
    let at = get-behind full c.self.inside.last (c.args.at - c.len-else-block-len.result * 1024) c.args.at c.self.invariant.full (omega (arith, c.len-else-block-len.ensures, c.len.ensures)) in
    rw (← c.self.view_is, at) c.get-else-block-len.ensures
