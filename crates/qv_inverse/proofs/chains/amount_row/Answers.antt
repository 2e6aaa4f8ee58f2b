use Rattle.std.proofs.Common.{◌∙◌}
use Rattle.qv_terms.specs.View.{tree}
use Rattle.qv_inverse.proofs.RowLemmas.{chain-longer}
use Rattle.qv_words.specs.Inverse.{other_term, target_term}
use Rattle.qv_inverse.proofs.chains.amount_row.Goals as goal

pub loop-passed-preserved : goal.loop-passed-preserved
loop-passed-preserved c =
    c.in_ok-chain.ensures
    ∙ chain-longer c.args.shift c.args.width c.loop-passed.passed (other_term c.args.leaves.other) (target_term c.args.leaves.target) (tree c.loop-passed.chain) c.loop-passed-test.true c.loop-passed.invariant
