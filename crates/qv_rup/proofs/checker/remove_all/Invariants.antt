use Rattle.std.proofs.Common.{◌≡◌, take}
use Rattle.qv_cnf.specs.Listing.{without}
use Rattle.qv_rup.proofs.checker.remove_all.Given as goal

-- the clauses but for those of the ids so far
abbrev pub invariant-loop-id : goal.invariant-loop-id
invariant-loop-id l = record { live : l.clauses.live ≡ without (take l.id-index l.ids) l.initial.clauses.live; next : l.clauses.next ≡ l.initial.clauses.next }
