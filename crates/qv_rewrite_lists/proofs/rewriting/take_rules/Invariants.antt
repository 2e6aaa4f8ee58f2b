-- the list is behind further passes
use Rattle.qv_rewrite_lists.specs.Rewriting.{IsFurther}
use Rattle.qv_rewrite_lists.proofs.rewriting.take_rules.Given as goal

abbrev pub invariant-rules : goal.invariant-rules
invariant-rules l = IsFurther l.fn.store l.store l.initial.made l.made
