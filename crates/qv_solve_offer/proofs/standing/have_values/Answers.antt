use Rattle.std.proofs.Common.{◌≤◌, [], length, subst, arith}
use Rattle.qv_store.specs.Walks.{IsWalk}
use Rattle.qv_store.specs.Evaluating.{HaveValues}
use Rattle.qv_solve_offer.proofs.Valued.{have-values, valued-all}
use Rattle.qv_solve_offer.proofs.standing.have_values.Goals as goal

pub returns : goal.returns
returns c = λ yes.
    let ids = c.ids-id-items.result.now in
    let end = c.terms-test.false in
    let all : length ids ≤ c.terms.id-index = omega (arith, end) in
    subst (λ is. IsWalk c.args.store.now is → HaveValues c.args.consts.now [] c.args.store.now is) c.ids-id-items.ensures
    (λ walk. have-values c.args.consts.now c.args.store.now ids walk (valued-all c.args.consts.now c.args.store.now ids c.terms.id-index all c.terms.invariant))
    c.requires.walk
