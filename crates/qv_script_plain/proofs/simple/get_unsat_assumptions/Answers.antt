use Rattle.std.proofs.Common.{sym, ◌∙◌}
use Rattle.qv_script_defs.specs.declared.faults.ScriptKind.TheVariants.{NoCore}
use Rattle.qv_script_defs.specs.Moves.{assumed_core_of}
use Rattle.qv_script_stack.proofs.Stepping.{settles-fault}
use Rattle.qv_script_plain.proofs.Plain.{assumed-held, assumed-refused}
use Rattle.qv_script_plain.proofs.simple.get_unsat_assumptions.Goals as goal

pub returns-then-not-has_assumed_core : goal.returns-then-not-has_assumed_core
returns-then-not-has_assumed_core c = λ trees s h.
    settles-fault trees c.args.stack.now (assumed_core_of c.args.place s) c.args.place NoCore c.fault_at.result c.fault_at.ensures
    (assumed-refused c.args.place trees c.args.stack.now s h (sym c.has_assumed_core.ensures ∙ c.if-not-has_assumed_core.true))

pub returns : goal.returns
returns c = λ trees s h. assumed-held c.args.place trees c.args.stack.now s h (sym c.has_assumed_core.ensures ∙ c.if-not-has_assumed_core.false)
