use Rattle.std.proofs.Common.{◌≡◌, ◌≢◌, [], length, true}
use Rattle.qv_solve_cores.specs.Marks.{gone}
use Rattle.qv_solve_cores.proofs.lists.drop_all.Given as goal

-- something is gone where that is said
abbrev pub invariant-items : goal.invariant-items
invariant-items l = record {
  each : length l.search.kept ≡ length l.named;
  next : l.search.next ≡ 0;
  some : l.some ≡ true → gone l.named l.search.kept ≢ [];
}
