-- of the clauses so far
use Rattle.std.proofs.Common.{◌≡◌, ◌++◌, take}
use Rattle.std.specs.List.{flat_map}
use Rattle.qv_cnf.specs.Listing.{clauses_of}
use Rattle.qv_rup.specs.Shelving.{picked}
use Rattle.qv_check_clauses.specs.Clauses.{clause_text}
use Rattle.qv_check_clauses.proofs.dimacs.add_clauses.Given as goal

abbrev pub invariant-clauses : goal.invariant-clauses
invariant-clauses l = l.out.items ≡ l.fn.out.items ++ flat_map clause_text (clauses_of (picked (take l.id-index l.ids) l.checker.live))
