use Rattle.std.proofs.Common.{◌≡◌, ℕ, ◌<◌, ◌∷◌, [], List, reverse, length, refl, sym, subst, ◌∙◌, ap, arith}
use Rattle.std.proofs.lemmas.List.{reverse-append}
use Rattle.qv_words.specs.Tree.{Tree}
use Rattle.qv_words.specs.Prenex.{joined_blocks}
use Rattle.qv_store.specs.Nodes.{tree_at}
use Rattle.qv_prenex_laws.specs.RuleLaws.{rule_at, blocks_under, quantifier_blocks}
use Rattle.qv_prenex_laws.specs.RuleLaws.{Bound as BoundBy}
use Rattle.qv_prenex.specs.declared.blocks.Task.{Task}
use Rattle.qv_prenex_matrix.specs.declared.rules.Part.{Part}
use Rattle.qv_prenex_matrix.specs.declared.rules.Rule.TheVariants.{Bound}
use Rattle.qv_prenex_matrix.specs.Rules.{part_in, rule_in, IsRuleBelow}
use Rattle.qv_prenex.specs.Blocks.{sorts_in, behind, tasks_in, blocks_after, tasks_work, AreTasks}
use Rattle.qv_prenex_matrix.proofs.Trees.{tree-grows, length-grows}
use Rattle.qv_prenex_matrix.proofs.Passing.{IsRuleOf}
use Rattle.qv_prenex.proofs.Placing.{step-tasks, step-tasks-work, step-after, bound-after, bound-work, tasks-more, IsUnbound}
use Rattle.qv_prenex.proofs.blocks.list_next.Goals as goal
use Rattle.qv_store.proofs.Replacement.{grows-more}

pub returns-in-Bound-clause-tasks : goal.returns-in-Bound-clause-tasks
returns-in-Bound-clause-tasks c =
    let ts = reverse c.args.todo.now.items in
    let u : Task = c.task_of.result in
    let items : reverse c.push.new.self.items ≡ u ∷ ts = ap reverse c.in_ok-push.ensures.items ∙ reverse-append c.args.todo.now.items (u ∷ []) in
    let low : IsRuleBelow (length c.rule_of.new.store) (Bound c.in-Bound.existential c.in-Bound.level c.in-Bound.sort c.in-Bound.body) =
    subst (IsRuleBelow (length c.rule_of.new.store)) c.in-Bound.is c.in_ok-rule.ensures.below in
    let first = length-grows c.args.store.now c.rule_of.new.store c.rule_of.ensures.grows in
    let second = length-grows c.rule_of.new.store c.bind.new.store c.bind.ensures.grows in
    let term : u.part.term ≡ c.in-Bound.body = ap (λ (p : Part). p.term) c.task_of.ensures.part in
    subst (AreTasks (length c.bind.new.store) (length c.bind.new.blocks.items)) (sym items) (
      (omega (arith, low, second, term), omega (arith, c.task_of.ensures.block, c.in_ok-block.ensures.within)),
      tasks-more (length c.args.store.now) (length c.bind.new.store) (length c.args.blocks.now.items) (length c.bind.new.blocks.items) ts (omega (arith, first, second)) c.bind.ensures.more c.requires.1,
    )

pub returns-in-Bound-clause-end : goal.returns-in-Bound-clause-end
returns-in-Bound-clause-end c =
    let ts = reverse c.args.todo.now.items in
    let u : Task = c.task_of.result in
    let t = c.args.task in
    let old = c.args.store.now in
    let mid = c.rule_of.new.store in
    let new = c.bind.new.store in
    let items : reverse c.push.new.self.items ≡ u ∷ ts = ap reverse c.in_ok-push.ensures.items ∙ reverse-append c.args.todo.now.items (u ∷ []) in
    let low : c.in-Bound.body < length mid = subst (IsRuleBelow (length mid)) c.in-Bound.is c.in_ok-rule.ensures.below in
    let body = tree_at mid c.in-Bound.body in
    let part : part_in new u.part ≡ record { plus = t.part.plus; tree = body } =
    ap (part_in new) c.task_of.ensures.part ∙ ap (λ (x : Tree). record { plus = t.part.plus; tree = x }) (tree-grows mid new c.in-Bound.body c.bind.ensures.grows low) in
    let rule : rule_at t.part.plus (tree_at old t.part.term) ≡ BoundBy c.in-Bound.existential c.in-Bound.level c.in-Bound.sort body =
    sym c.in_ok-rule.ensures.rule ∙ ap (rule_in mid) c.in-Bound.is in
    let placed : joined_blocks (sorts_in c.bind.new.blocks.items) (behind u.block (blocks_under t.part.plus body))
    ≡ joined_blocks (sorts_in c.args.blocks.now.items) (behind t.block (quantifier_blocks c.in-Bound.existential c.in-Bound.sort (blocks_under t.part.plus body))) =
    ap (λ (k : ℕ). joined_blocks (sorts_in c.bind.new.blocks.items) (behind k (blocks_under t.part.plus body))) c.task_of.ensures.block
    ∙ c.in_ok-block.ensures.blocks (blocks_under t.part.plus body) refl in
    ap (λ (xs : List Task). blocks_after (sorts_in c.bind.new.blocks.items) (tasks_in new xs)) items
    ∙ bound-after old new t u c.in-Bound.existential c.in-Bound.level c.in-Bound.sort body (length c.args.blocks.now.items) (sorts_in c.args.blocks.now.items) (sorts_in c.bind.new.blocks.items) ts
    (grows-more old mid new c.rule_of.ensures.grows c.bind.ensures.grows) c.requires part rule placed

pub returns-in-Bound-clause-fewer : goal.returns-in-Bound-clause-fewer
returns-in-Bound-clause-fewer c =
    let ts = reverse c.args.todo.now.items in
    let u : Task = c.task_of.result in
    let t = c.args.task in
    let old = c.args.store.now in
    let mid = c.rule_of.new.store in
    let new = c.bind.new.store in
    let items : reverse c.push.new.self.items ≡ u ∷ ts = ap reverse c.in_ok-push.ensures.items ∙ reverse-append c.args.todo.now.items (u ∷ []) in
    let low : c.in-Bound.body < length mid = subst (IsRuleBelow (length mid)) c.in-Bound.is c.in_ok-rule.ensures.below in
    let body = tree_at mid c.in-Bound.body in
    let part : part_in new u.part ≡ record { plus = t.part.plus; tree = body } =
    ap (part_in new) c.task_of.ensures.part ∙ ap (λ (x : Tree). record { plus = t.part.plus; tree = x }) (tree-grows mid new c.in-Bound.body c.bind.ensures.grows low) in
    let rule : rule_at t.part.plus (tree_at old t.part.term) ≡ BoundBy c.in-Bound.existential c.in-Bound.level c.in-Bound.sort body =
    sym c.in_ok-rule.ensures.rule ∙ ap (rule_in mid) c.in-Bound.is in
    subst (λ (xs : List Task). tasks_work (tasks_in new xs) < tasks_work (tasks_in old (t ∷ ts))) (sym items)
    (bound-work old new t u c.in-Bound.existential c.in-Bound.level c.in-Bound.sort body (length c.args.blocks.now.items) ts
    (grows-more old mid new c.rule_of.ensures.grows c.bind.ensures.grows) c.requires part rule)

pub returns : goal.returns
returns c =
    let ts = reverse c.args.todo.now.items in
    let t = c.args.task in
    let old = c.args.store.now in
    let new = c.rule_of.new.store in
    let r = c.in_ok-rule.rule in
    let j = length c.args.blocks.now.items in
    let h : IsRuleOf old new t.part r =
    record { rule = c.in_ok-rule.ensures.rule; below = c.in_ok-rule.ensures.below; grows = c.in_ok-rule.ensures.grows } in
    let free : IsUnbound r = c.in_default.not-Bound in
    let items = sym c.in_ok-push_tasks.ensures in
    record {
      tasks = subst (AreTasks (length new) j) items (step-tasks old new t r j ts h c.requires);
      end = sym (ap (λ (xs : List Task). blocks_after (sorts_in c.args.blocks.now.items) (tasks_in new xs)) items)
          ∙ step-after old new t r j (sorts_in c.args.blocks.now.items) ts h c.requires free;
      fewer = subst (λ (xs : List Task). tasks_work (tasks_in new xs) < tasks_work (tasks_in old (t ∷ ts))) items (step-tasks-work old new t r j ts h c.requires);
      grows = c.rule_of.ensures.grows;
    }

pub returns-in_err-block-clause-grows : goal.returns-in_err-block-clause-grows
returns-in_err-block-clause-grows c = grows-more c.args.store.now c.rule_of.new.store c.bind.new.store c.rule_of.ensures.grows c.bind.ensures.grows

pub returns-in_err-push-clause-grows : goal.returns-in_err-push-clause-grows
returns-in_err-push-clause-grows c = grows-more c.args.store.now c.rule_of.new.store c.bind.new.store c.rule_of.ensures.grows c.bind.ensures.grows

pub returns-in-Bound-clause-grows : goal.returns-in-Bound-clause-grows
returns-in-Bound-clause-grows c = grows-more c.args.store.now c.rule_of.new.store c.bind.new.store c.rule_of.ensures.grows c.bind.ensures.grows
