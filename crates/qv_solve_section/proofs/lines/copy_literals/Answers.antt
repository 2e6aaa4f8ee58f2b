use Rattle.std.proofs.Common.{◌≡◌, ◌+◌, ◌≤◌, suc, Some, List, [], ◌∷◌, ◌++◌, length, take, slice_get, sym, ap, subst, ◌∙◌, arith}
use Rattle.std.specs.List.{AllByRecursion}
use Rattle.std.proofs.lemmas.List.{take_all}
use Rattle.std.proofs.lemmas.List.Elements.{All-from_recursion}
use Rattle.qv_words.proofs.Elements.{take-one}
use Rattle.qv_words.proofs.Leaves.{both}
use Rattle.qv_cnf.specs.Literal.{IsLiteral, Literal}
use Rattle.qv_cert_nodes.proofs.Kept.{found-there}
use Rattle.qv_solve_section.proofs.lines.copy_literals.Goals as goal

pub literals-preserved : goal.literals-preserved
literals-preserved c =
    let lits = c.args.lits.now in
    let i = c.literals.lit-index in
    let lit = c.lit-item.result in
    let at : slice_get lits i ≡ Some lit = found-there lits i lit c.literals-test.true c.lit-item.is in
    let up : i + 1 ≡ suc i = omega arith in
    let next : take (i + 1) lits ≡ take i lits ++ lit ∷ [] = ap (λ n. take n lits) up ∙ take-one lits i lit at in (
      c.in_ok-push.ensures.items ∙ ap (λ (ls : List Literal). ls ++ lit ∷ []) c.literals.invariant.0 ∙ sym next,
      subst (AllByRecursion IsLiteral) (sym next) (both IsLiteral (take i lits) (lit ∷ []) c.literals.invariant.1 (c.number-number.ensures.literal, tt)),
    )

pub returns-clause-same : goal.returns-clause-same
returns-clause-same c =
    let end : length c.args.lits.now ≤ c.literals.lit-index = omega (arith, c.literals-test.false) in
    c.literals.invariant.0 ∙ take_all c.literals.lit-index c.args.lits.now end

pub returns-clause-literals : goal.returns-clause-literals
returns-clause-literals c =
    let end : length c.args.lits.now ≤ c.literals.lit-index = omega (arith, c.literals-test.false) in
    All-from_recursion IsLiteral c.args.lits.now (subst (AllByRecursion IsLiteral) (take_all c.literals.lit-index c.args.lits.now end) c.literals.invariant.1)
