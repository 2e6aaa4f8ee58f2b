use Rattle.std.proofs.Common.{◌≡◌, ◌++◌, ◌∷◌, [], List, reverse, length, sym, subst, ◌∙◌, ap, arith}
use Rattle.qv_store.proofs.Visiting.{popped-none}
use Rattle.qv_prenex_matrix.specs.declared.rules.Part.{Part}
use Rattle.qv_prenex_matrix.specs.Rules.{part_in}
use Rattle.qv_prenex_matrix.specs.Waiting.{parts_in, all_start_empty, AreBelow}
use Rattle.qv_prenex_matrix.proofs.Trees.{grows-itself}
use Rattle.qv_prenex_matrix.proofs.Passing.{none-starts, one-starts}
use Rattle.qv_prenex_matrix.proofs.openings.starts_empty.Goals as goal

pub todo-init : goal.todo-init
todo-init c =
    let trees = c.args.store.now in
    let items : reverse c.push.new.self.items ≡ c.args.part ∷ [] = ap reverse (c.in_ok-push.ensures.items ∙ ap (λ vs. vs ++ c.args.part ∷ []) c.new-todo.ensures.items) in
    record {
      below = subst (AreBelow (length trees)) (sym items) (c.requires, tt);
      empty = sym (one-starts (part_in trees c.args.part)) ∙ sym (ap (λ (xs : List Part). all_start_empty (parts_in trees xs)) items);
      grows = grows-itself trees;
    }

pub returns-clause-empty : goal.returns-clause-empty
returns-clause-empty c =
    let none : c.todo.todo.items ≡ [] = popped-none c.todo.todo.items c.pop.result (λ h. c.pop.ensures.variant.1 (omega (arith, h, c.todo.todo.ok.0))) c.in_default.not-Some in
    sym (c.todo.invariant.empty ∙ ap (λ (xs : List Part). all_start_empty (parts_in c.todo.store (reverse xs))) none ∙ none-starts)
