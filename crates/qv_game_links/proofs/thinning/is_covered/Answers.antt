use Rattle.std.proofs.Common.{refl}
use Rattle.qv_game_links.specs.declared.thinning.Kept.{Kept}
use Rattle.qv_game_links.specs.Thinning.{Follow}
use Rattle.qv_game_links.proofs.Thinned.{any-front}
use Rattle.qv_game_links.proofs.thinning.is_covered.Goals as goal

pub returns : goal.returns
returns c = λ yes. any-front (λ (k : Kept). Follow c.args.known.now c.args.said.now k.said.items) c.args.kept.now _ c.min-tried.result refl (c.has_general.ensures yes)
