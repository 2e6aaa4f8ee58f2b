use Rattle.std.proofs.Common.{ap, ◌∙◌}
use Rattle.qv_script_parts.specs.Meant.{meant}
use Rattle.std.specs.Prelude.{option_map}
use Rattle.qv_script_parts.proofs.Naming.{command-found}
use Rattle.qv_script_parts.proofs.command.command_named.Goals as goal

pub returns : goal.returns
returns c = ap (option_map meant) c.first_named.ensures ∙ command-found c.args.name.now
