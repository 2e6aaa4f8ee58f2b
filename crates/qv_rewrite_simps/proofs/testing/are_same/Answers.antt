use Rattle.std.proofs.Common.{sym, ◌∙◌}
use Rattle.qv_rewrite_simps.proofs.Fitting.{same-number}
use Rattle.qv_rewrite_simps.proofs.testing.are_same.Goals as goal

pub returns : goal.returns
returns c =
    c.eq.ensures ∙ sym (same-number c.args.store.now c.args.a c.args.b c.requires.shared c.requires.first c.requires.second)
