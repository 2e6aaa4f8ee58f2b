use Rattle.std.proofs.Common.{◌≡◌, length, refl, ap, arith}
use Rattle.qv_script_stack.specs.Held.{Held}
use Rattle.qv_script_stack.proofs.stack.Stack.add_named.Goals as goal

pub returns-clause-ok : goal.returns-clause-ok
returns-clause-ok c =
    let same = ap (λ (k : Held). length k.assertions) c.self.view_is in
    let number : c.len.result ≡ length c.args.self.now.assertions = omega (arith, c.len.ensures, same) in
    record {
      own = record { name = c.in_ok-from_slice.field-0; assertion = c.len.result };
      sorts = c.new-2.result;
      body = record { id = c.args.id; depths = c.new.result };
      name_is = c.in_ok-from_slice.ensures.items;
      number = number;
      id_is = refl;
      no_sorts = c.new-2.ensures.items;
      no_depths = c.new.ensures.items;
      held = c.in_ok-hold_named.ensures.ok;
    }
