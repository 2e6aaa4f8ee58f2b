use Rattle.std.proofs.Common.{◌≡◌, ◌∷◌, List, [], ℕ, Err, reverse, sym, ap, subst, ◌∙◌, arith}
use Rattle.std.specs.Prelude.{Result, Vec}
use Rattle.std.specs.declared.alloc.Global.{Global}
use Rattle.std.proofs.lemmas.Result.{err_from_is_err_and}
use Rattle.qv_store.proofs.Visiting.{popped-none}
use Rattle.qv_script_defs.specs.declared.faults.ScriptFault.{ScriptFault}
use Rattle.qv_script_parts.specs.declared.labels.Task.{Task}
use Rattle.qv_script_parts.specs.Walking.{IsOpen, LeadsTo, TellsLabels, work}
use Rattle.qv_script_parts.proofs.Walks.{pushed, all-found, tells-fault}
use Rattle.qv_script_parts.proofs.labels.labels_from.Goals as goal

pub todo-init : goal.todo-init
todo-init c = record {
  left = λ given h.
      subst (λ (ns : List (List ℕ)). IsOpen c.args.expr.now (reverse c.leave.new.todo.items) ns c.new-3.result.items given) (sym c.new.ensures)
      (subst (λ (ats : List ℕ). IsOpen c.args.expr.now (reverse c.leave.new.todo.items) [] ats given) (sym c.new-3.ensures.items)
      (subst (λ (ts : List Task). IsOpen c.args.expr.now ts [] [] given) (sym (c.in_ok-leave.ensures ∙ ap (λ (us : List Task). c.args.task ∷ reverse us) c.new-2.ensures.items)) h));
}

pub next-requires-clause-walk : goal.next-requires-clause-walk
next-requires-clause-walk c =
    let w = c.todo.walk in
    let x = c.requires.walk in
    let last = pushed c.pop.new.self.items w.todo.items c.in-Some.task c.in-Some.ensures.items in
    (x.0, subst (λ (ts : List Task). IsOpen c.args.expr.now ts w.bound w.found.items x.0) last (c.todo.invariant.left x.0 x.1))

pub returns-in_err-next : goal.returns-in_err-next
returns-in_err-next c = λ given h.
    let w = c.todo.walk in
    let last = pushed c.pop.new.self.items w.todo.items c.in-Some.task c.in-Some.ensures.items in
    let here = subst (λ (ts : List Task). IsOpen c.args.expr.now ts w.bound w.found.items given) last (c.todo.invariant.left given h) in
    let n = c.next.new.self in
    let told = subst (λ (r : Result (Unit {0}) ScriptFault). LeadsTo c.args.expr.now (reverse n.todo.items) n.bound n.found.items given r) c.in_err-next.was (c.next.ensures.next given here) in
    let left = err_from_is_err_and c.from_residual-in_err-next.result c.from_residual-in_err-next.ensures.1 in
    subst (λ (r : Result (Vec ℕ Global) ScriptFault). TellsLabels c.args.expr.now given r) (sym (left.1 ∙ ap Err left.2))
    (tells-fault c.args.expr.now (reverse n.todo.items) n.bound n.found.items given c.in_err-next.field-0.0 told)

pub todo-preserved : goal.todo-preserved
todo-preserved c = record {
  left = λ given h.
      let w = c.todo.walk in
      let last = pushed c.pop.new.self.items w.todo.items c.in-Some.task c.in-Some.ensures.items in
      let here = subst (λ (ts : List Task). IsOpen c.args.expr.now ts w.bound w.found.items given) last (c.todo.invariant.left given h) in
      let n = c.next.new.self in
      subst (λ (r : Result (Unit {0}) ScriptFault). LeadsTo c.args.expr.now (reverse n.todo.items) n.bound n.found.items given r) c.in_ok-next.was (c.next.ensures.next given here);
}

pub todo-smaller : goal.todo-smaller
todo-smaller c =
    let w = c.todo.walk in
    let last = pushed c.pop.new.self.items w.todo.items c.in-Some.task c.in-Some.ensures.items in
    let same : work (reverse w.todo.items) ≡ work (c.in-Some.task ∷ reverse c.pop.new.self.items) = ap work last in
    omega (arith, same, c.in_ok-next.ensures.fewer)

pub returns : goal.returns
returns c = λ given h.
    let w = c.todo.walk in
    let none : w.todo.items ≡ [] = popped-none w.todo.items c.pop.result (λ k. c.pop.ensures.variant.1 (omega (arith, k, w.todo.ok.0))) c.in_default.not-Some in
    all-found c.args.expr.now w.bound w.found.items given
    (subst (λ (ts : List Task). IsOpen c.args.expr.now (reverse ts) w.bound w.found.items given) none (c.todo.invariant.left given h))
