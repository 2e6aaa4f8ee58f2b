-- the list is behind further passes
use Rattle.qv_rewrite_lists.specs.Rewriting.{IsFurther}
use Rattle.qv_rewrite_lists.proofs.rewriting.take_rounds.Given as goal

abbrev pub invariant-rounds : goal.invariant-rounds
invariant-rounds l = IsFurther l.fn.store l.store l.initial.made l.made
