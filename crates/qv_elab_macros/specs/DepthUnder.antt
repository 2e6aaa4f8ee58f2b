-- How deep variables stand below terms that stand so deep. No public contract cites this.
use Rattle.std.specs.Prelude.{ℕ, ◌+◌, max, option_map, unwrap_or, Option, Some, None, List, [], ◌∷◌}
use Rattle.qv_words.specs.Tree.{Tree}
use Rattle.qv_store.specs.Nodes.{tree_at}
use Rattle.qv_elab_defs.specs.Limit.{saturated}
use Rattle.qv_elab_defs.specs.Standing.{standing}
use Rattle.qv_elab_macros.specs.declared.standing.Watched.{Watched}

-- the depth at which it stands below the top of something in which the tree stands at this depth, if
-- it stands there: 0 where it doesn't
abbrev pub depth_from : ℕ → Tree → Option ℕ → ℕ
depth_from l t None = 0
depth_from l t (Some depth) = unwrap_or (option_map (λ n. saturated (n + depth)) (standing l t)) 0

-- the greatest such depth
abbrev pub depth_under : List Tree → ℕ → List Watched → ℕ
depth_under trees l [] = 0
depth_under trees l (c ∷ cs) = max (depth_from l (tree_at trees c.id) (Some c.depth)) (depth_under trees l cs)
