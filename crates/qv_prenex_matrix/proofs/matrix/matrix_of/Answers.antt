use Rattle.std.proofs.Common.{◌≡◌, ℕ, List, [], ◌∷◌, reverse, true, sym, ap, ◌∙◌, subst, arith, append-nil}
use Rattle.std.specs.List.{AllByRecursion}
use Rattle.qv_store.proofs.Replacement.{grows-more}
use Rattle.qv_store.proofs.Visiting.{popped-none}
use Rattle.qv_prenex_matrix.specs.declared.matrix.Task.{Task}
use Rattle.qv_prenex_matrix.specs.declared.matrix.Task.TheVariants.{Build}
use Rattle.qv_prenex_matrix.specs.Matrix.{IsRunning, IsResult, end_of}
use Rattle.qv_prenex_matrix.proofs.MatrixSteps.{pushed, starts, last-stands}
use Rattle.qv_prenex_matrix.proofs.matrix.matrix_of.Goals as goal

pub todo-init : goal.todo-init
todo-init c =
    let trees = c.args.store.now in
    let task : Task = Build (record { plus = true; term = c.args.formula }) 0 in
    let st = starts trees c.args.formula c.args.names c.new-3.result c.args.levels c.len-few.ensures.shared c.requires.formula c.requires.bool c.requires.closed c.new-3.ensures in
    let todo : reverse c.push.new.self.items ≡ task ∷ [] =
    pushed c.new.result.items c.push.new.self.items c.task_of.result c.in_ok-push.ensures.items ∙ ap (λ (x : Task). x ∷ reverse c.new.result.items) c.task_of.ensures ∙ ap (λ (xs : List Task). task ∷ reverse xs) c.new.ensures.items in
    let results : reverse c.new-2.result.items ≡ [] = ap reverse c.new-2.ensures.items in
    record {
      grows = record { more = []; behind = sym (append-nil trees) };
      running = subst (λ (ts : List Task). IsRunning trees ts (reverse c.new-2.result.items) c.args.names c.new-3.result) (sym todo) (subst (λ (rs : List ℕ). IsRunning trees (task ∷ []) rs c.args.names c.new-3.result) (sym results) st.running);
      end = ap (λ (ts : List Task). end_of trees ts (reverse c.new-2.result.items) c.args.names c.args.levels) todo ∙ ap (λ (rs : List ℕ). end_of trees (task ∷ []) rs c.args.names c.args.levels) results ∙ st.end;
    }

pub returns-in_err-run-clause-grows : goal.returns-in_err-run-clause-grows
returns-in_err-run-clause-grows c = grows-more c.args.store.now c.todo.store c.run.new.store c.todo.invariant.grows c.run.ensures.grows

pub todo-preserved : goal.todo-preserved
todo-preserved c = record {
  grows = grows-more c.args.store.now c.todo.store c.run.new.store c.todo.invariant.grows c.run.ensures.grows;
  running = c.in_ok-run.ensures.next.running;
  end = c.in_ok-run.ensures.next.end
      ∙ ap (λ (ts : List Task). end_of c.todo.store ts (reverse c.todo.machine.results.items) c.todo.machine.names c.todo.machine.levels) (sym (pushed c.pop.new.self.items c.todo.machine.todo.items c.in-Some.task c.in-Some.ensures.items))
      ∙ c.todo.invariant.end;
}

pub returns-in-Some-pop-clause-id : goal.returns-in-Some-pop-clause-id
returns-in-Some-pop-clause-id c =
    let m = c.todo.machine in
    let none : m.todo.items ≡ [] = popped-none m.todo.items c.pop.result (λ h. c.pop.ensures.variant.1 (omega (arith, h, m.todo.ok.0))) c.in_default.not-Some in
    let last = pushed c.pop-2.new.self.items m.results.items c.in-Some-pop.id c.in-Some-pop.ensures.items in
    last-stands c.todo.store (reverse m.results.items) (reverse c.pop-2.new.self.items) m.names m.levels c.in-Some-pop.id _ last
    (subst (AllByRecursion (IsResult c.todo.store)) last c.todo.invariant.running.right).0.below
    (sym (ap (λ (ts : List Task). end_of c.todo.store (reverse ts) (reverse m.results.items) m.names m.levels) none) ∙ c.todo.invariant.end)
