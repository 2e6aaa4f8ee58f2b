use Rattle.std.proofs.Common.{sym, ◌∙◌}
use Rattle.std.proofs.lemmas.Slice.Eq.{bytes_eq-Decides}
use Rattle.qv_rewrite_lists.proofs.rewriting.are_same.Goals as goal

pub returns : goal.returns
returns c =
    let decides = bytes_eq-Decides c.args.some.now c.args.others.now in
    (λ h. decides.0 (sym c.eq.ensures ∙ h), λ e. c.eq.ensures ∙ decides.1 e)
