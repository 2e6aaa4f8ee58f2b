use Rattle.std.proofs.Common.{false, length, replicate, ap, ◌∙◌}
use Rattle.std.proofs.lemmas.List.{length-replicate}
use Rattle.qv_shell_qdimacs.proofs.Filled.{filled-length}
use Rattle.qv_shell_qdimacs.proofs.answering.sat_text.Goals as goal

-- there is a value for each variable
pub push_values-requires : goal.push_values-requires
push_values-requires c =
    let count = length c.args.outer.now in
    ap length (c.deref.ensures.value ∙ c.in_ok-values.ensures) ∙ filled-length (replicate count false) c.args.given.now ∙ length-replicate count false
