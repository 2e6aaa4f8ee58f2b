use Rattle.std.proofs.Common.{Some, sym, ap, ◌∙◌}
use Rattle.std.specs.Prelude.{option_map}
use Rattle.qv_script_parts.specs.Options.{meant_key}
use Rattle.qv_script_parts.proofs.Naming.{setting-found}
use Rattle.qv_script_parts.proofs.settings.known.Goals as goal

pub returns-in-Some : goal.returns-in-Some
returns-in-Some c = ap Some c.meant.ensures ∙ sym (ap (option_map meant_key) c.in-Some.is) ∙ ap (option_map meant_key) c.first_named.ensures ∙ setting-found c.args.name.now

pub returns-in-None : goal.returns-in-None
returns-in-None c = sym (ap (option_map meant_key) c.in-None.is) ∙ ap (option_map meant_key) c.first_named.ensures ∙ setting-found c.args.name.now
