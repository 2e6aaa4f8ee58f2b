use Rattle.std.proofs.Common.{◌≤◌, List, length, take, arith, ap, sym, ◌∙◌}
use Rattle.std.proofs.lemmas.List.{take_all}
use Rattle.qv_cnf.proofs.Packing.{begin-is, lists-length, lists-take, packs-take}
use Rattle.qv_cnf.specs.Literal.{Literal}
use Rattle.qv_cnf.proofs.blocks.Block.truncate.Goals as goal

pub invariant_of-self : goal.invariant_of-self
invariant_of-self c =
    let before = c.self.inside in
    let low : c.args.n ≤ length before.ends.items = omega arith in
    rw (c.truncate.ensures.items, c.truncate-then-n-len.ensures.items, c.start_at-start.ensures, c.deref.ensures.value, ← begin-is before.ends.items c.args.n)
    (packs-take 0 before.lits.items before.ends.items c.args.n c.self.invariant low)

pub returns-then-n-len : goal.returns-then-n-len
returns-then-n-len c =
    let before = c.self.inside in
    let low : c.args.n ≤ length before.ends.items = omega arith in
    rw (c.truncate.ensures.items, c.truncate-then-n-len.ensures.items, c.start_at-start.ensures, c.deref.ensures.value, ← begin-is before.ends.items c.args.n)
    (lists-take 0 before.lits.items before.ends.items c.args.n c.self.invariant low
    ∙ ap (λ (ls : List (List Literal)). take c.args.n ls) c.self.view_is)

pub returns-else-n-len : goal.returns-else-n-len
returns-else-n-len c =
    let before = c.self.inside in
    let count = lists-length 0 before.lits.items before.ends.items in
    let same = ap (λ (ls : List (List Literal)). length ls) c.self.view_is in
    let all : length c.args.self.now ≤ c.args.n = omega (arith, count, same) in
    sym (take_all c.args.n c.args.self.now all)
