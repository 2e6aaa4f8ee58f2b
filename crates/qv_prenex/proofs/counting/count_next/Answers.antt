use Rattle.std.proofs.Common.{◌+◌, ◌<◌, ◌∷◌, ◌++◌, Bool, List, reverse, length, sym, subst, ◌∙◌, ap}
use Rattle.qv_prenex_matrix.specs.declared.rules.Part.{Part}
use Rattle.qv_prenex_matrix.specs.Rules.{parts_over}
use Rattle.qv_prenex_matrix.specs.Waiting.{parts_in, variables_of, number_of, work, AreBelow}
use Rattle.qv_prenex_matrix.proofs.Passing.{IsRuleOf, step-below, step-work, step-variables}
use Rattle.qv_prenex.proofs.counting.count_next.Goals as goal

pub returns : goal.returns
returns c =
    let old = c.args.store.now in
    let new = c.rule_of.new.store in
    let ps = reverse c.args.todo.now.items in
    let h : IsRuleOf old new c.args.part c.in_ok-rule.rule =
    record { rule = c.in_ok-rule.ensures.rule; below = c.in_ok-rule.ensures.below; grows = c.in_ok-rule.ensures.grows } in
    let items = sym c.in_ok-push_parts.ensures in
    record {
      below = subst (AreBelow (length new)) items (step-below old new c.args.part c.in_ok-rule.rule ps h c.requires.1);
      count = step-variables old new c.args.part c.in_ok-rule.rule ps h c.requires.1
          ∙ ap (λ (b : Bool). number_of b + variables_of (parts_in new (parts_over c.args.part.plus c.in_ok-rule.rule ++ ps))) (sym c.is_bound.ensures)
          ∙ ap (λ (xs : List Part). number_of c.is_bound.result + variables_of (parts_in new xs)) items;
      fewer = subst (λ (xs : List Part). work (parts_in new xs) < work (parts_in old (c.args.part ∷ ps))) items (step-work old new c.args.part c.in_ok-rule.rule ps h c.requires.1);
      grows = c.rule_of.ensures.grows;
    }
