use Rattle.qv_store.proofs.Replacement.{grows-more}
use Rattle.std.proofs.Common.{◌≡◌, ℕ, List, refl, suc, ap, ◌∙◌, subst, reverse, ◌∷◌, if◌then◌else◌}
use Rattle.qv_words.specs.Tree.{Variable}
use Rattle.qv_store.specs.Stores.{StandsAt}
use Rattle.qv_prenex_laws.specs.MatrixLaws.{raised}
use Rattle.qv_prenex_matrix.specs.declared.matrix.Task.{Task}
use Rattle.qv_prenex_matrix.specs.declared.matrix.Task.TheVariants.{Build}
use Rattle.qv_prenex_matrix.specs.NextLevels.{next_of}
use Rattle.qv_prenex_matrix.specs.Matrix.{leaving}
use Rattle.qv_prenex_matrix.proofs.MatrixSteps.{pushed}
use Rattle.qv_prenex_matrix.proofs.matrix.bind.Goals as goal

pub returns-clause-bound : goal.returns-clause-bound
returns-clause-bound c =
    let q = c.args.quantifier in
    let m = c.args.machine.now in
    let next : ℕ → ℕ = next_of m.levels.next.items m.levels.total in
    let own : c.in_ok-own.own ≡ (if q.existential then c.args.block else suc c.args.block) = c.in_ok-own.ensures.own in
    let first : Task = Build (record { plus = q.plus; term = q.body }) c.in_ok-own.inner in
    record {
      variable = c.in_ok-variable.variable;
      inner = c.in_ok-own.inner;
      is = subst (λ (n : ℕ). StandsAt c.put.new.self c.in_ok-variable.variable (Variable n q.sort)) (c.in_ok-next.ensures.level ∙ ap next own) c.in_ok-variable.ensures.id;
      inner_is = c.in_ok-own.ensures.inner;
      constants = refl;
      outer = λ l. c.in_ok-before.ensures.updates.0 l;
      next = λ k. c.in_ok-next.ensures.raised k ∙ ap (λ (n : ℕ). raised next n 1 k) own;
      tasks = pushed c.push.new.self.items c.push-2.new.self.items c.task_of.result c.in_ok-push-2.ensures.items ∙ ap (λ (x : Task). x ∷ reverse c.push.new.self.items) c.task_of.ensures
          ∙ ap (λ (ts : List Task). first ∷ ts) (pushed m.todo.items c.push.new.self.items c.leaving.result c.in_ok-push.ensures.items ∙ ap (λ (x : Task). x ∷ reverse m.todo.items) (c.leaving.ensures ∙ ap (leaving q.level) c.in_ok-before.ensures.old));
    }

pub returns-in_err-variable-clause-grows : goal.returns-in_err-variable-clause-grows
returns-in_err-variable-clause-grows c = grows-more c.args.store.now c.blocks_of.new.store c.put.new.self c.blocks_of.ensures.grows c.put.ensures.grows

pub returns-in_err-before-clause-grows : goal.returns-in_err-before-clause-grows
returns-in_err-before-clause-grows c = grows-more c.args.store.now c.blocks_of.new.store c.put.new.self c.blocks_of.ensures.grows c.put.ensures.grows

pub returns-in_err-forget-clause-grows : goal.returns-in_err-forget-clause-grows
returns-in_err-forget-clause-grows c = grows-more c.args.store.now c.blocks_of.new.store c.put.new.self c.blocks_of.ensures.grows c.put.ensures.grows

pub returns-in_err-push-clause-grows : goal.returns-in_err-push-clause-grows
returns-in_err-push-clause-grows c = grows-more c.args.store.now c.blocks_of.new.store c.put.new.self c.blocks_of.ensures.grows c.put.ensures.grows

pub returns-in_err-push-2-clause-grows : goal.returns-in_err-push-2-clause-grows
returns-in_err-push-2-clause-grows c = grows-more c.args.store.now c.blocks_of.new.store c.put.new.self c.blocks_of.ensures.grows c.put.ensures.grows

pub returns-clause-grows : goal.returns-clause-grows
returns-clause-grows c = grows-more c.args.store.now c.blocks_of.new.store c.put.new.self c.blocks_of.ensures.grows c.put.ensures.grows
