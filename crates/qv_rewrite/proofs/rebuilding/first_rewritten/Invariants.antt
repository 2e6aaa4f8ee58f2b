use Rattle.std.proofs.Common.{◌≡◌, drop}
use Rattle.qv_rewrite.specs.Sweep.{first_rewritten}
use Rattle.qv_rewrite.specs.Made.{trees_of_args}
use Rattle.qv_rewrite.proofs.rebuilding.first_rewritten.Given as goal

-- no rule so far fits
abbrev pub invariant-loop-rule : goal.invariant-loop-rule
invariant-loop-rule l =
    first_rewritten l.rules l.op (trees_of_args l.store l.args) ≡ first_rewritten (drop l.rule-index l.rules) l.op (trees_of_args l.store l.args)
