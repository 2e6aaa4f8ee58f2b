-- the terms so far are named
use Rattle.std.proofs.Common.{◌≡◌, ℕ, ◌<◌, slice_index_or}
use Rattle.std.specs.List.{Any}
use Rattle.qv_game_links.specs.declared.saying.Statement.{Statement}
use Rattle.qv_game_links.proofs.thinning.are_named.Given as goal

abbrev pub invariant-known : goal.invariant-known
invariant-known l =
    (k : ℕ) (d : Statement) → k < l.statement-index → Any (λ link. Any (λ t. t.id ≡ (slice_index_or l.known k d).id) link.said.items) l.kept
