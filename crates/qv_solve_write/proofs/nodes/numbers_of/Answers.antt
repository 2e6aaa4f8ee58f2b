use Rattle.std.proofs.Common.{◌+◌, subst, sym, take, Contains}
use Rattle.std.specs.List.{AllZip}
use Rattle.qv_solve_write.specs.Places.{IsNumbered}
use Rattle.qv_solve_write.proofs.Standing.{numbered-push}
use Rattle.qv_solve_write.proofs.nodes.numbers_of.Goals as goal

pub number_of-requires-clause-has : goal.number_of-requires-clause-has
number_of-requires-clause-has c =
    subst (Contains c.args.walk.now) (sym c.id-item.is) (c.requires.has c.numbered.id-index c.id-item.result c.numbered-test.true)

pub numbered-preserved : goal.numbered-preserved
numbered-preserved c =
    subst (λ new. AllZip (IsNumbered c.args.walk.now) (take (c.numbered.id-index + 1) c.args.ids.now) new) (sym c.in_ok-push.ensures.items)
    (numbered-push c.args.walk.now c.args.ids.now c.numbered.numbers.items c.numbered.id-index c.id-item.result c.number_of.result c.numbered.invariant c.numbered-test.true c.id-item.is c.number_of.ensures.numbered)
