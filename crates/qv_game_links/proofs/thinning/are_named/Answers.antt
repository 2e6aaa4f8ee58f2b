use Rattle.std.proofs.Common.{◌≡◌, arith}
use Rattle.std.specs.List.{Any}
use Rattle.qv_game_links.specs.declared.saying.Statement.{Statement}
use Rattle.qv_game_links.specs.declared.thinning.Kept.{Kept}
use Rattle.qv_game_links.proofs.Thinned.{all-next}
use Rattle.qv_game_links.proofs.thinning.are_named.Goals as goal

pub known-preserved : goal.known-preserved
known-preserved c =
    all-next (λ (s : Statement). Any (λ (k : Kept). Any (λ (t : Statement). t.id ≡ s.id) k.said.items) c.args.kept.now) c.args.known.now c.known.statement-index c.statement-item.result (omega arith) c.statement-item.is
    (c.is_named.ensures c.if-not-is_named.false) c.known.invariant

pub returns : goal.returns
returns c = λ yes k d low. c.known.invariant k d (omega (arith, low))
