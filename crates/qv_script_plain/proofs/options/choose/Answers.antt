use Rattle.qv_script_stack.specs.declared.held.Chosen.{Chosen}
use Rattle.qv_script_plain.proofs.Plain.{chosen-held}
use Rattle.qv_script_plain.proofs.options.choose.Goals as goal

pub returns-clause-ok : goal.returns-clause-ok
returns-clause-ok c = λ trees s e h p.
    let own : Chosen = record { key = c.in_ok-key.key; value = c.in_ok-value.value } in
    chosen-held trees c.args.stack.now c.add_option.new.self s own c.args.key.now e c.in_ok-key.ensures.items (c.in_ok-value.ensures e p) c.in_ok-add_option.ensures.ok h
