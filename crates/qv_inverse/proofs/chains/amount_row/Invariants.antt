use Rattle.std.proofs.Common.{◌≡◌, ◌-◌}
use Rattle.qv_words.specs.Inverse.{amount_chain, other_term, target_term}
use Rattle.qv_terms.specs.View.{tree}
use Rattle.qv_inverse.proofs.chains.amount_row.Given as goal

-- the chain has the last amounts
abbrev pub invariant-loop-passed : goal.invariant-loop-passed
invariant-loop-passed l =
    tree l.chain ≡ amount_chain l.shift l.width (other_term l.leaves.other) (target_term l.leaves.target) (l.width - l.passed) l.passed
