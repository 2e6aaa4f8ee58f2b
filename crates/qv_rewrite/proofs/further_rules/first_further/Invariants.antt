use Rattle.std.proofs.Common.{◌≡◌, drop}
use Rattle.qv_rewrite.specs.FurtherRules.{first_further}
use Rattle.qv_rewrite.specs.Made.{trees_of_args}
use Rattle.qv_rewrite.proofs.further_rules.first_further.Given as goal

-- no rule so far fits
abbrev pub invariant-loop-rule : goal.invariant-loop-rule
invariant-loop-rule l =
    first_further l.rules l.op (trees_of_args l.store l.args) ≡ first_further (drop l.rule-index l.rules) l.op (trees_of_args l.store l.args)
