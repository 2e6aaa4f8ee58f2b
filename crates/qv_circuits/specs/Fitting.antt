-- What a call has to meet, and what it gives.
use Rattle.std.specs.Prelude.{◌≡◌, ℕ, ◌+◌, Some, List, length, All}
use Rattle.std.specs.List.{AllZip}
use Rattle.qv_words.specs.declared.op.Op.{Op}
use Rattle.qv_words.specs.declared.sort.Sort.{Sort}
use Rattle.qv_words.specs.Sort.{IsLawful, width_of}
use Rattle.qv_words.specs.Rank.{result_sort}
use Rattle.qv_words.specs.Gate.{Lit, Built}
use Rattle.qv_cnf.specs.Listing.{Listing}
use Rattle.qv_circuits.specs.Adding.{gate_list, with_clauses}

-- the bits of arguments are as many as those of some sorts for which the operator has a rank
pub record FitsRank (o : Op) (args : List (List Lit)) : Type 0 where
  pub sorts : List Sort
  pub result : Sort
  pub lawful : All IsLawful sorts
  pub rank : result_sort o sorts ≡ Some result
  pub widths : AllZip (λ bits sort. length bits ≡ width_of sort) args sorts

-- the clauses of the gates behind those of a list, and the numbers that come next
pub record Adds (built : Built (List Lit)) (next id next' id' : ℕ) (list list' : Listing) : Type 0 where
  pub clauses : list' ≡ with_clauses list id (gate_list next built.gates)
  pub variables : next' ≡ next + length built.gates
  pub ids : id' ≡ id + length (gate_list next built.gates)
