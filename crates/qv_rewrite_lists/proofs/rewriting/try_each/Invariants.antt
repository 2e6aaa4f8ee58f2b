-- the list is behind further passes
use Rattle.qv_rewrite_lists.specs.Rewriting.{IsFurther}
use Rattle.qv_rewrite_lists.proofs.rewriting.try_each.Given as goal

abbrev pub invariant-trials : goal.invariant-trials
invariant-trials l = IsFurther l.fn.store l.store l.initial.made l.made
