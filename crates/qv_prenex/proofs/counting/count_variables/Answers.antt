use Rattle.std.proofs.Common.{◌≡◌, [], List, reverse, length, sym, subst, ◌∙◌, ap, arith}
use Rattle.std.proofs.lemmas.List.Elements.{recursion_from_All}
use Rattle.qv_store.proofs.Visiting.{popped-none}
use Rattle.qv_prenex_matrix.specs.declared.rules.Part.{Part}
use Rattle.qv_prenex_matrix.specs.Waiting.{parts_in, variables_of, AreBelow}
use Rattle.qv_prenex_matrix.proofs.Trees.{grows-itself}
use Rattle.qv_prenex_matrix.proofs.Passing.{variables-first, first-below, none-variables}
use Rattle.qv_prenex.proofs.counting.count_variables.Goals as goal

pub todo-init : goal.todo-init
todo-init c =
    let trees = c.args.store.now in
    let items = c.in_ok-todo.ensures in
    record {
      below = subst (AreBelow (length trees)) (sym items)
          (first-below (length trees) c.args.formulas.now (recursion_from_All _ c.args.formulas.now c.requires));
      within = omega arith;
      count = omega (arith, variables-first trees c.args.formulas.now, ap (λ (xs : List Part). variables_of (parts_in trees xs)) items);
      grows = grows-itself trees;
    }

pub returns-clause-count : goal.returns-clause-count
returns-clause-count c =
    let none : c.todo.todo.items ≡ [] = popped-none c.todo.todo.items c.pop.result (λ h. c.pop.ensures.variant.1 (omega (arith, h, c.todo.todo.ok.0))) c.in_default.not-Some in
    let rest : variables_of (parts_in c.todo.store (reverse c.todo.todo.items)) ≡ 0 =
    ap (λ (xs : List Part). variables_of (parts_in c.todo.store (reverse xs))) none ∙ none-variables in
    omega (arith, rest, c.todo.invariant.count, c.todo.invariant.within)
