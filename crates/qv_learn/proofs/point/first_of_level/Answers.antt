use Rattle.std.proofs.Common.{◌≢◌, All, subst, arith}
use Rattle.std.proofs.lemmas.List.{take_all}
use Rattle.qv_learn.proofs.Clauses.{all_among}
use Rattle.qv_learn.specs.Learning.{level_at}
use Rattle.qv_learn.proofs.point.first_of_level.Goals as goal

pub returns-clause-some : goal.returns-clause-some
returns-clause-some c l there at =
    let lits = c.args.lits.now in
    let none = subst (λ ls. All (λ m. level_at c.args.trail.now.entries m ≢ c.args.level) ls) (take_all c.loop-lit.lit-index lits (omega arith)) c.loop-lit.invariant in
    absurd (all_among (λ m. level_at c.args.trail.now.entries m ≢ c.args.level) lits l none there at)
