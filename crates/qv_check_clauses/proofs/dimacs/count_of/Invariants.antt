-- of the clauses so far
use Rattle.std.proofs.Common.{◌≡◌, ◌≤◌, length, take}
use Rattle.qv_cnf.specs.Listing.{clauses_of}
use Rattle.qv_rup.specs.Shelving.{picked}
use Rattle.qv_check_clauses.proofs.dimacs.count_of.Given as goal

abbrev pub invariant-clauses : goal.invariant-clauses
invariant-clauses l = record {
  count : l.count ≡ length (clauses_of (picked (take l.id-index l.ids) l.checker.live));
  few : l.count ≤ l.id-index;
}
