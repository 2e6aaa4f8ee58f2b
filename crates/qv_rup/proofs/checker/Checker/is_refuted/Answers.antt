use Rattle.std.proofs.Common.{sym, ap, ◌∙◌}
use Rattle.qv_cnf.specs.Refutation.{Standing}
use Rattle.qv_rup.proofs.Sound.{none_where_refuted}
use Rattle.qv_rup.proofs.checker.Checker.is_refuted.Goals as goal

pub returns-clause-sound : goal.returns-clause-sound
returns-clause-sound c = λ yes calls leads either. none_where_refuted c.rup_is_true.ensures calls c.args.self.now (sym (ap (λ (s : Standing). s.refuted) c.self.view_is) ∙ yes) leads either
