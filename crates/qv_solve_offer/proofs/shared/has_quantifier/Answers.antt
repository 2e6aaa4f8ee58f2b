use Rattle.std.proofs.Common.{◌≤◌, List, ℕ, length, take, subst, arith}
use Rattle.std.specs.List.{All}
use Rattle.std.proofs.lemmas.List.{take_all}
use Rattle.std.proofs.lemmas.List.Elements.{All-more}
use Rattle.qv_words.specs.Tree.{IsQuantifierFree}
use Rattle.qv_store.specs.Nodes.{tree_at}
use Rattle.qv_solve_offer.proofs.shared.has_quantifier.Goals as goal

pub formulas-preserved : goal.formulas-preserved
formulas-preserved c =
    let P : ℕ → Type 0 = λ id. IsQuantifierFree (tree_at c.args.store.now id) in
    let free : P c.formula-item.result = c.if-quantified.ensures.free in
    All-more P c.args.formulas.now c.formulas.formula-index c.formula-item.result c.formulas-test.true c.formulas.invariant (subst P c.formula-item.is free)

pub returns : goal.returns
returns c =
    let P : ℕ → Type 0 = λ id. IsQuantifierFree (tree_at c.args.store.now id) in
    let end = c.formulas-test.false in
    let all : length c.args.formulas.now ≤ c.formulas.formula-index = omega (arith, end) in
    let free : All P c.args.formulas.now = subst (All P) (take_all c.formulas.formula-index c.args.formulas.now all) c.formulas.invariant in
    record { free = free }
