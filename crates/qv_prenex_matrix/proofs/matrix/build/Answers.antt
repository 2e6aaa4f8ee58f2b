use Rattle.qv_store.proofs.Replacement.{grows-more}
use Rattle.std.proofs.Common.{ℕ, List, not, sym, ap, ◌∙◌, subst, reverse, ◌∷◌, length}
use Rattle.qv_store.specs.Nodes.{tree_at}
use Rattle.qv_prenex_matrix.specs.declared.matrix.Task.{Task}
use Rattle.qv_words.specs.declared.op.Op.TheVariants.{And, Or}
use Rattle.qv_prenex_matrix.specs.declared.matrix.Quantifier.{Quantifier}
use Rattle.qv_prenex_matrix.specs.declared.matrix.Task.TheVariants.{Build, Join}
use Rattle.qv_prenex_matrix.specs.Rules.{rule_in, IsRuleBelow}
use Rattle.qv_prenex_matrix.specs.Matrix.{IsNext}
use Rattle.qv_prenex_splits.proofs.Fitting.{plain-free}
use Rattle.qv_prenex_matrix.proofs.Running.{running-grows, next-behind}
use Rattle.qv_prenex_matrix.proofs.MatrixSteps.{formula-first, rule-now, turned-step, joined-step, crossed-step, plain-step, bound-step, bound-lawful, pushed}
use Rattle.qv_prenex_matrix.proofs.matrix.build.Goals as goal

pub plain-requires-clause-free : goal.plain-requires-clause-free
plain-requires-clause-free c =
    let old = c.args.store.now in
    let mid = c.rule_of.new.store in
    let m = c.args.machine.now in
    let r = running-grows old mid c.rule_of.ensures.grows c.rule_of.ensures.shared (Build c.args.part c.args.block ∷ reverse m.todo.items) (reverse m.results.items) m.names m.made c.requires in
    let rule = rule-now old mid c.args.part.plus c.args.part.term (rule_in mid c.in_ok-rule_of.field-0) c.rule_of.ensures.grows c.requires.tasks.0 c.in_ok-rule_of.ensures.rule ∙ ap (rule_in mid) c.in-Plain.is in
    plain-free c.args.part.plus (tree_at mid c.args.part.term) (formula-first mid c.args.part c.args.block (reverse m.todo.items) (reverse m.results.items) m.names m.made m.levels r).bool rule

pub plain-requires-clause-formula : goal.plain-requires-clause-formula
plain-requires-clause-formula c =
    let old = c.args.store.now in
    let mid = c.rule_of.new.store in
    let m = c.args.machine.now in
    let r = running-grows old mid c.rule_of.ensures.grows c.rule_of.ensures.shared (Build c.args.part c.args.block ∷ reverse m.todo.items) (reverse m.results.items) m.names m.made c.requires in
    formula-first mid c.args.part c.args.block (reverse m.todo.items) (reverse m.results.items) m.names m.made m.levels r

pub plain-requires-clause-named : goal.plain-requires-clause-named
plain-requires-clause-named c =
    let m = c.args.machine.now in
    (running-grows c.args.store.now c.rule_of.new.store c.rule_of.ensures.grows c.rule_of.ensures.shared (Build c.args.part c.args.block ∷ reverse m.todo.items) (reverse m.results.items) m.names m.made c.requires).named

pub bind-requires-clause-named : goal.bind-requires-clause-named
bind-requires-clause-named c =
    let m = c.args.machine.now in
    (running-grows c.args.store.now c.rule_of.new.store c.rule_of.ensures.grows c.rule_of.ensures.shared (Build c.args.part c.args.block ∷ reverse m.todo.items) (reverse m.results.items) m.names m.made c.requires).named

pub bind-requires-clause-sort : goal.bind-requires-clause-sort
bind-requires-clause-sort c =
    let old = c.args.store.now in
    let mid = c.rule_of.new.store in
    let m = c.args.machine.now in
    let r = running-grows old mid c.rule_of.ensures.grows c.rule_of.ensures.shared (Build c.args.part c.args.block ∷ reverse m.todo.items) (reverse m.results.items) m.names m.made c.requires in
    let rule = rule-now old mid c.args.part.plus c.args.part.term (rule_in mid c.in_ok-rule_of.field-0) c.rule_of.ensures.grows c.requires.tasks.0 c.in_ok-rule_of.ensures.rule ∙ ap (rule_in mid) c.in-Bound.is in
    bound-lawful mid c.args.part c.args.block (reverse m.todo.items) (reverse m.results.items) m.names m.made m.levels r c.in-Bound.existential c.in-Bound.level c.in-Bound.sort (tree_at mid c.in-Bound.body) rule

pub returns-in_ok-push-in-Plain-clause-next : goal.returns-in_ok-push-in-Plain-clause-next
returns-in_ok-push-in-Plain-clause-next c =
    let old = c.args.store.now in
    let mid = c.rule_of.new.store in
    let new = c.plain.new.store in
    let m = c.args.machine.now in
    let todo = reverse m.todo.items in
    let results = reverse m.results.items in
    let r = running-grows old mid c.rule_of.ensures.grows c.rule_of.ensures.shared (Build c.args.part c.args.block ∷ todo) results m.names m.made c.requires in
    let rule = rule-now old mid c.args.part.plus c.args.part.term (rule_in mid c.in_ok-rule_of.field-0) c.rule_of.ensures.grows c.requires.tasks.0 c.in_ok-rule_of.ensures.rule ∙ ap (rule_in mid) c.in-Plain.is in
    let step = plain-step mid new c.args.part c.args.block todo results m.names m.made c.plain.new.made m.levels c.in_ok-id-in-Plain.id c.plain.ensures.grows r rule c.in_ok-id-in-Plain.ensures.named c.in_ok-id-in-Plain.ensures.id c.in_ok-id-in-Plain.ensures.bool in
    subst (λ (rs : List ℕ). IsNext old new (Build c.args.part c.args.block ∷ todo) todo results rs m.names m.names c.plain.new.made m.levels m.levels)
    (sym (pushed m.results.items c.push.new.self.items c.in_ok-id-in-Plain.id c.in_ok-push-in-Plain.ensures.items))
    (next-behind old mid c.rule_of.ensures.grows c.rule_of.ensures.shared new (Build c.args.part c.args.block ∷ todo) todo results (c.in_ok-id-in-Plain.id ∷ results) m.names m.names m.made c.plain.new.made m.levels m.levels c.requires step)

pub returns-in_ok-push-in-Turned-clause-next : goal.returns-in_ok-push-in-Turned-clause-next
returns-in_ok-push-in-Turned-clause-next c =
    let old = c.args.store.now in
    let mid = c.rule_of.new.store in
    let m = c.args.machine.now in
    let todo = reverse m.todo.items in
    let results = reverse m.results.items in
    let part = c.args.part in
    let r = running-grows old mid c.rule_of.ensures.grows c.rule_of.ensures.shared (Build part c.args.block ∷ todo) results m.names m.made c.requires in
    let rule = rule-now old mid part.plus part.term (rule_in mid c.in_ok-rule_of.field-0) c.rule_of.ensures.grows c.requires.tasks.0 c.in_ok-rule_of.ensures.rule ∙ ap (rule_in mid) c.in-Turned.is in
    let low = subst (IsRuleBelow (length mid)) c.in-Turned.is c.in_ok-rule_of.ensures.below in
    let next : Task = Build (record { plus = not part.plus; term = c.in-Turned.a }) c.args.block in
    subst (λ (ts : List Task). IsNext old mid (Build part c.args.block ∷ todo) ts results results m.names m.names m.made m.levels m.levels)
    (sym (pushed m.todo.items c.push-in-Turned.new.self.items c.task_of.result c.in_ok-push-in-Turned.ensures.items ∙ ap (λ (x : Task). x ∷ todo) c.task_of.ensures))
    (next-behind old mid c.rule_of.ensures.grows c.rule_of.ensures.shared mid (Build part c.args.block ∷ todo) (next ∷ todo) results results m.names m.names m.made m.made m.levels m.levels c.requires
    (turned-step mid part c.args.block todo results m.names m.made m.levels r c.in-Turned.a low rule))

pub returns-in_ok-push_joined-in-Joined-clause-next : goal.returns-in_ok-push_joined-in-Joined-clause-next
returns-in_ok-push_joined-in-Joined-clause-next c =
    let old = c.args.store.now in
    let mid = c.rule_of.new.store in
    let m = c.args.machine.now in
    let todo = reverse m.todo.items in
    let results = reverse m.results.items in
    let part = c.args.part in
    let op = c.in-Joined.op in
    let r = running-grows old mid c.rule_of.ensures.grows c.rule_of.ensures.shared (Build part c.args.block ∷ todo) results m.names m.made c.requires in
    let rule = rule-now old mid part.plus part.term (rule_in mid c.in_ok-rule_of.field-0) c.rule_of.ensures.grows c.requires.tasks.0 c.in_ok-rule_of.ensures.rule ∙ ap (rule_in mid) c.in-Joined.is in
    let low = subst (IsRuleBelow (length mid)) c.in-Joined.is c.in_ok-rule_of.ensures.below in
    let first : Task = Build (record { plus = part.plus; term = c.in-Joined.a }) c.args.block in
    let second : Task = Build (record { plus = part.plus; term = c.in-Joined.b }) c.args.block in
    subst (λ (ts : List Task). IsNext old mid (Build part c.args.block ∷ todo) ts results results m.names m.names m.made m.levels m.levels)
    (sym (c.in_ok-push_joined-in-Joined.ensures ∙ ap (λ (x : Task). x ∷ c.task_of-in-Joined-2.result ∷ Join op ∷ todo) c.task_of-in-Joined.ensures ∙ ap (λ (x : Task). first ∷ x ∷ Join op ∷ todo) c.task_of-in-Joined-2.ensures))
    (next-behind old mid c.rule_of.ensures.grows c.rule_of.ensures.shared mid (Build part c.args.block ∷ todo) (first ∷ second ∷ Join op ∷ todo) results results m.names m.names m.made m.made m.levels m.levels c.requires
    (joined-step mid part c.args.block todo results m.names m.made m.levels r op c.in-Joined.a c.in-Joined.b low.0 low.1 rule))

pub returns-in_ok-push_crossed-in-Crossed-clause-next : goal.returns-in_ok-push_crossed-in-Crossed-clause-next
returns-in_ok-push_crossed-in-Crossed-clause-next c =
    let old = c.args.store.now in
    let mid = c.rule_of.new.store in
    let m = c.args.machine.now in
    let todo = reverse m.todo.items in
    let results = reverse m.results.items in
    let part = c.args.part in
    let k = c.args.block in
    let r = running-grows old mid c.rule_of.ensures.grows c.rule_of.ensures.shared (Build part k ∷ todo) results m.names m.made c.requires in
    let rule = rule-now old mid part.plus part.term (rule_in mid c.in_ok-rule_of.field-0) c.rule_of.ensures.grows c.requires.tasks.0 c.in_ok-rule_of.ensures.rule ∙ ap (rule_in mid) c.in-Crossed.is in
    let low = subst (IsRuleBelow (length mid)) c.in-Crossed.is c.in_ok-rule_of.ensures.below in
    subst (λ (ts : List Task). IsNext old mid (Build part k ∷ todo) ts results results m.names m.names m.made m.levels m.levels) (sym c.in_ok-push_crossed-in-Crossed.ensures)
    (next-behind old mid c.rule_of.ensures.grows c.rule_of.ensures.shared mid (Build part k ∷ todo)
    (Build c.in-Crossed.a k ∷ Build c.in-Crossed.b k ∷ Join And ∷ Build c.in-Crossed.c k ∷ Build c.in-Crossed.d k ∷ Join And ∷ Join Or ∷ todo) results results m.names m.names m.made m.made m.levels m.levels c.requires
    (crossed-step mid part k todo results m.names m.made m.levels r c.in-Crossed.a c.in-Crossed.b c.in-Crossed.c c.in-Crossed.d low.0 low.1 low.2 low.3 rule))

pub returns-in_ok-bind-in-Bound-clause-next : goal.returns-in_ok-bind-in-Bound-clause-next
returns-in_ok-bind-in-Bound-clause-next c =
    let old = c.args.store.now in
    let mid = c.rule_of.new.store in
    let new = c.bind.new.store in
    let m = c.args.machine.now in
    let n = c.bind.new.machine in
    let todo = reverse m.todo.items in
    let results = reverse m.results.items in
    let part = c.args.part in
    let k = c.args.block in
    let r = running-grows old mid c.rule_of.ensures.grows c.rule_of.ensures.shared (Build part k ∷ todo) results m.names m.made c.requires in
    let rule = rule-now old mid part.plus part.term (rule_in mid c.in_ok-rule_of.field-0) c.rule_of.ensures.grows c.requires.tasks.0 c.in_ok-rule_of.ensures.rule ∙ ap (rule_in mid) c.in-Bound.is in
    let low = subst (IsRuleBelow (length mid)) c.in-Bound.is c.in_ok-rule_of.ensures.below in
    let q : Quantifier = record { plus = part.plus; existential = c.in-Bound.existential; level = c.in-Bound.level; sort = c.in-Bound.sort; body = c.in-Bound.body } in
    subst (λ (rs : List ℕ). IsNext old new (Build part k ∷ todo) (reverse n.todo.items) results rs m.names n.names n.made m.levels n.levels) (sym (ap reverse c.bind.ensures.results))
    (next-behind old mid c.rule_of.ensures.grows c.rule_of.ensures.shared new (Build part k ∷ todo) (reverse n.todo.items) results results m.names n.names m.made n.made m.levels n.levels c.requires
    (bound-step mid new part.term k todo (reverse n.todo.items) results m.names n.names m.made n.made m.levels n.levels q c.bind.ensures.grows c.in_ok-bind-in-Bound.ensures.shared r rule low c.in_ok-bind-in-Bound.ensures.bound c.in_ok-bind-in-Bound.ensures.made))

pub returns-in_err-id-in-Plain-clause-grows : goal.returns-in_err-id-in-Plain-clause-grows
returns-in_err-id-in-Plain-clause-grows c = grows-more c.args.store.now c.rule_of.new.store c.plain.new.store c.rule_of.ensures.grows c.plain.ensures.grows

pub returns-in_err-push-in-Plain-clause-grows : goal.returns-in_err-push-in-Plain-clause-grows
returns-in_err-push-in-Plain-clause-grows c = grows-more c.args.store.now c.rule_of.new.store c.plain.new.store c.rule_of.ensures.grows c.plain.ensures.grows

pub returns-in_ok-push-in-Plain-clause-grows : goal.returns-in_ok-push-in-Plain-clause-grows
returns-in_ok-push-in-Plain-clause-grows c = grows-more c.args.store.now c.rule_of.new.store c.plain.new.store c.rule_of.ensures.grows c.plain.ensures.grows

pub returns-in_err-bind-in-Bound-clause-grows : goal.returns-in_err-bind-in-Bound-clause-grows
returns-in_err-bind-in-Bound-clause-grows c = grows-more c.args.store.now c.rule_of.new.store c.bind.new.store c.rule_of.ensures.grows c.bind.ensures.grows

pub returns-in_ok-bind-in-Bound-clause-grows : goal.returns-in_ok-bind-in-Bound-clause-grows
returns-in_ok-bind-in-Bound-clause-grows c = grows-more c.args.store.now c.rule_of.new.store c.bind.new.store c.rule_of.ensures.grows c.bind.ensures.grows
