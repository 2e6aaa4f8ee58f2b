-- the regions so far
use Rattle.std.proofs.Common.{◌≡◌, map, take}
use Rattle.qv_store.specs.Problems.{quantifier_of}
use Rattle.qv_entries.specs.Rows.{regions_of, row_of}
use Rattle.qv_entries.proofs.entries.Entries.cover.Given as goal

abbrev pub invariant-entries : goal.invariant-entries
invariant-entries l = l.regions.items ≡ regions_of l.level (quantifier_of l.winner) (map row_of (take l.entry-index l.entry-items))
