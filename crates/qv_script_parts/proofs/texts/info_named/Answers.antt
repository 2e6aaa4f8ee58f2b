use Rattle.std.proofs.Common.{ap, ◌∙◌}
use Rattle.std.specs.Prelude.{option_map}
use Rattle.qv_script_parts.specs.Meant.{meant_info}
use Rattle.qv_script_parts.proofs.Naming.{info-found}
use Rattle.qv_script_parts.proofs.texts.info_named.Goals as goal

pub returns : goal.returns
returns c = ap (option_map meant_info) c.first_of_key.ensures ∙ info-found c.args.key.now
