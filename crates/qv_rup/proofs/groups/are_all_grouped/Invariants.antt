use Rattle.std.proofs.Common.{◌≡◌, ◌<◌, ℕ, List, true, get_or}
use Rattle.qv_cnf.specs.Listing.{clause_named}
use Rattle.qv_rup.specs.Grouping.{AreGroups, has_group}
use Rattle.qv_rup.proofs.groups.are_all_grouped.Given as goal

-- the clauses of the ids so far have groups or need none
abbrev pub invariant-looking : goal.invariant-looking
invariant-looking l =
    (groups : List ℕ) → AreGroups l.ids groups → (k : ℕ) → k < l.id-index → has_group l.pivot groups (get_or l.listed k 0) (clause_named (get_or l.listed k 0) l.clauses.live) ≡ true
