use Rattle.std.proofs.Common.{◌⊎◌, arith}
use Rattle.std.specs.List.{Any}
use Rattle.qv_game_links.specs.declared.saying.Statement.{Statement}
use Rattle.qv_game_links.specs.Thinning.{IsSame}
use Rattle.qv_game_links.proofs.Thinned.{all-next}
use Rattle.qv_game_links.proofs.thinning.follow.Goals as goal

pub more-preserved : goal.more-preserved
more-preserved c =
    all-next (λ (s : Statement). Any (IsSame s) c.args.known.now ⊎ Any (IsSame s) c.args.said.now) c.args.more.now c.more.statement-index c.statement-item.result (omega arith) c.statement-item.is
    (c.is_given.ensures c.if-not-is_given.false) c.more.invariant

pub returns : goal.returns
returns c = λ yes k d low. c.more.invariant k d (omega (arith, low))
