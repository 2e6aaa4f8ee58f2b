use Rattle.std.proofs.Common.{List, [], ◌∷◌, ◌++◌, ap, ◌∙◌, rules}
use Rattle.qv_cnf.proofs.Packing.{lists-push, packs-push}
use Rattle.qv_cnf.specs.Literal.{Literal}
use Rattle.qv_cnf.proofs.blocks.Block.push.Goals as goal

pub invariant_of-self-2 : goal.invariant_of-self-2
invariant_of-self-2 c =
    let before = c.self.inside in
    rw (c.push_reserved.ensures.items, c.in_ok-extend_from_slice.ensures.items, c.in_ok-reserve.ensures.items)
    (packs-push 0 before.lits.items c.args.lits.now before.ends.items c.len-end.result c.self.invariant (search rules))

pub returns-clause-ok : goal.returns-clause-ok
returns-clause-ok c =
    let before = c.self.inside in
    rw (c.push_reserved.ensures.items, c.in_ok-extend_from_slice.ensures.items, c.in_ok-reserve.ensures.items)
    (lists-push 0 before.lits.items c.args.lits.now before.ends.items c.len-end.result c.self.invariant (search rules)
    ∙ ap (λ (ls : List (List Literal)). ls ++ c.args.lits.now ∷ []) c.self.view_is)
