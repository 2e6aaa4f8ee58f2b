-- the statements so far are known or said
use Rattle.std.proofs.Common.{ℕ, ◌<◌, ◌⊎◌, slice_index_or}
use Rattle.std.specs.List.{Any}
use Rattle.qv_game_links.specs.declared.saying.Statement.{Statement}
use Rattle.qv_game_links.specs.Thinning.{IsSame}
use Rattle.qv_game_links.proofs.thinning.follow.Given as goal

abbrev pub invariant-more : goal.invariant-more
invariant-more l =
    (k : ℕ) (d : Statement) → k < l.statement-index → Any (IsSame (slice_index_or l.more k d)) l.known ⊎ Any (IsSame (slice_index_or l.more k d)) l.said
