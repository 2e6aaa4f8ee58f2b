use Rattle.std.proofs.Common.{◌≡◌, List, Bool, false, get_or, subst, arith}
use Rattle.std.specs.Prelude.{All}
use Rattle.qv_cases_terms.proofs.Marks.{levels-more}
use Rattle.qv_cases_terms.proofs.closed.are_closed.Goals as goal

pub each-preserved : goal.each-preserved
each-preserved c =
    let marks = c.in_ok-free.ensures.free in
    let none = c.none_of.ensures c.if-not-none_of.false in
    levels-more c.each.level c.args.store.now c.args.ids.now c.in_ok-free.free.items c.each.invariant marks
    (λ k d lt. let low = c.requires k d lt in omega (arith, low, c.in_ok-free.ensures.all))
    (subst (λ (xs : List Bool). All (λ id. get_or xs id false ≡ false) c.args.ids.now) c.deref.ensures.value none)

pub returns : goal.returns
returns c = λ h level low k d lt. c.each.invariant level (omega (arith, low, c.each-test.false)) k d lt
