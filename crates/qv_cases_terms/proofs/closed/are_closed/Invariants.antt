use Rattle.std.proofs.Common.{ℕ, ◌<◌}
use Rattle.std.specs.Prelude.{All}
use Rattle.qv_store.specs.Nodes.{tree_at}
use Rattle.qv_cases_terms.specs.Free.{IsFreeOf}
use Rattle.qv_cases_terms.proofs.closed.are_closed.Given as goal

abbrev pub invariant-each : goal.invariant-each
invariant-each l = (level : ℕ) → level < l.level → All (λ id. IsFreeOf level (tree_at l.store id)) l.ids
