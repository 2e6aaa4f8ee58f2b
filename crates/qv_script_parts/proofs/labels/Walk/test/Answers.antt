use Rattle.std.proofs.Common.{List, Bor, ℕ, Err, reverse, sym, subst, ◌∙◌}
use Rattle.std.specs.Prelude.{option_map}
use Rattle.qv_script_defs.specs.declared.faults.ScriptFault.{ScriptFault}
use Rattle.qv_script_parts.specs.Walking.{LeadsTo}
use Rattle.qv_script_parts.proofs.Walks.{name-refused, name-passed}
use Rattle.qv_script_parts.proofs.labels.Walk.test.Goals as goal

pub returns-then-is_outside-clause-next : goal.returns-then-is_outside-clause-next
returns-then-is_outside-clause-next c = λ expr given h.
    let w = c.args.self.now in
    let refused = name-refused expr (option_map (λ (n : Bor (List ℕ)). n.now) c.args.name) c.args.around (reverse w.todo.items) w.bound w.found.items given c.truncate.new.self c.truncate.ensures h (sym c.if-is_outside.true ∙ c.is_outside.ensures) in
    subst (λ (r : ScriptFault). LeadsTo expr (reverse w.todo.items) c.truncate.new.self w.found.items given (Err r)) (sym c.fault_at.ensures) refused

pub returns-clause-next : goal.returns-clause-next
returns-clause-next c = λ expr given h.
    let w = c.args.self.now in
    name-passed expr (option_map (λ (n : Bor (List ℕ)). n.now) c.args.name) c.args.around (reverse w.todo.items) w.bound w.found.items given c.truncate.new.self c.truncate.ensures h (sym c.if-is_outside.false ∙ c.is_outside.ensures)
