use Rattle.std.proofs.Common.{refl}
use Rattle.qv_script_stack.proofs.stack.Stack.add_label.Goals as goal

pub returns-clause-ok : goal.returns-clause-ok
returns-clause-ok c = record {
  sorts = c.new-2.result;
  body = record { id = c.args.id; depths = c.new.result };
  id_is = refl;
  no_sorts = c.new-2.ensures.items;
  no_depths = c.new.ensures.items;
  held = c.in_ok-add_definition.ensures.ok;
}
