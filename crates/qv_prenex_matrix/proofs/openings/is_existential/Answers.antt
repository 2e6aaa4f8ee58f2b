use Rattle.std.proofs.Common.{◌≡◌, ◌+◌, ◌<◌, ◌∷◌, ◌++◌, Bool, true, false, not, ◌&&◌, if◌then◌else◌, List, reverse, length, sym, subst, ◌∙◌, ap}
use Rattle.qv_prenex_matrix.specs.declared.rules.Part.{Part}
use Rattle.qv_prenex_matrix.specs.Rules.{parts_over, is_bound, binds_existential}
use Rattle.qv_prenex_matrix.specs.Waiting.{parts_in, all_start_empty, work, AreBelow}
use Rattle.qv_prenex_matrix.proofs.Trees.{parts-below, length-grows}
use Rattle.qv_prenex_matrix.proofs.Passing.{IsRuleOf, step-below, step-work, step-starts, without-work}
use Rattle.qv_prenex_matrix.proofs.openings.is_existential.Goals as goal

pub returns-then-is_bound : goal.returns-then-is_bound
returns-then-is_bound c =
    let old = c.args.store.now in
    let new = c.rule_of.new.store in
    let ps = reverse c.args.todo.now.items in
    let r = c.in_ok-rule.rule in
    let h : IsRuleOf old new c.args.part r =
    record { rule = c.in_ok-rule.ensures.rule; below = c.in_ok-rule.ensures.below; grows = c.in_ok-rule.ensures.grows } in
    let bound : is_bound r ≡ true = sym c.is_bound.ensures ∙ c.if-is_bound.true in
    record {
      below = parts-below (length old) (length new) ps (length-grows old new h.grows) c.requires.1;
      empty = step-starts old new c.args.part r ps h c.requires.1
          ∙ ap (λ (b : Bool). if b then not (binds_existential r) && all_start_empty (parts_in new ps) else all_start_empty (parts_in new (parts_over c.args.part.plus r ++ ps))) bound
          ∙ ap (λ (b : Bool). not b && all_start_empty (parts_in new ps)) (sym c.binds_existential.ensures);
      fewer = without-work old new c.args.part ps h.grows c.requires.1;
      grows = c.rule_of.ensures.grows;
    }

pub returns : goal.returns
returns c =
    let old = c.args.store.now in
    let new = c.rule_of.new.store in
    let ps = reverse c.args.todo.now.items in
    let r = c.in_ok-rule.rule in
    let h : IsRuleOf old new c.args.part r =
    record { rule = c.in_ok-rule.ensures.rule; below = c.in_ok-rule.ensures.below; grows = c.in_ok-rule.ensures.grows } in
    let bound : is_bound r ≡ false = sym c.is_bound.ensures ∙ c.if-is_bound.false in
    let items = sym c.in_ok-push_parts.ensures in
    record {
      below = subst (AreBelow (length new)) items (step-below old new c.args.part r ps h c.requires.1);
      empty = step-starts old new c.args.part r ps h c.requires.1
          ∙ ap (λ (b : Bool). if b then not (binds_existential r) && all_start_empty (parts_in new ps) else all_start_empty (parts_in new (parts_over c.args.part.plus r ++ ps))) bound
          ∙ ap (λ (xs : List Part). all_start_empty (parts_in new xs)) items;
      fewer = subst (λ (xs : List Part). work (parts_in new xs) < work (parts_in old (c.args.part ∷ ps))) items (step-work old new c.args.part r ps h c.requires.1);
      grows = c.rule_of.ensures.grows;
    }
