-- the literals so far
use Rattle.std.proofs.Common.{◌≡◌, ◌++◌, take}
use Rattle.std.specs.List.{flat_map}
use Rattle.qv_lrat_text.specs.Spelling.{literal_text}
use Rattle.qv_check_clauses.proofs.dimacs.add_clause.Given as goal

abbrev pub invariant-literals : goal.invariant-literals
invariant-literals l = l.out.items ≡ l.fn.out.items ++ flat_map literal_text (take l.lit-index l.lits)
