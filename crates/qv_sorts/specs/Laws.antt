-- What pins the names and the faults down.
use Rattle.std.specs.Prelude.{◌≡◌, List, Some, All, length, is_none, is_some}
use Rattle.qv_words.specs.declared.sort.Sort.{Sort}
use Rattle.qv_words.specs.declared.op.Op.{Op}
use Rattle.qv_words.specs.Sort.{IsLawful}
use Rattle.qv_words.specs.Rank.{result_sort}
use Rattle.qv_sorts.specs.Names.{name_of, indices_of}
use Rattle.qv_sorts.specs.Faults.{fault_of}

-- a name with indices names one operator at most
abbrev pub NamesAreDistinct : Type 0
NamesAreDistinct = (o p : Op) → name_of o ≡ name_of p → indices_of o ≡ indices_of p → o ≡ p

-- a name goes with one number of indices
abbrev pub NamesHaveOneCount : Type 0
NamesHaveOneCount = (o p : Op) → name_of o ≡ name_of p → length (indices_of o) ≡ length (indices_of p)

-- an application has a rank exactly where it has no fault
abbrev pub FaultsAreExact : Type 0
FaultsAreExact = (o : Op) (sorts : List Sort) → is_some (result_sort o sorts) ≡ is_none (fault_of o sorts)

-- the rank at lawful sorts is a lawful sort
abbrev pub RanksAreLawful : Type 0
RanksAreLawful = (o : Op) (sorts : List Sort) (s : Sort) → All IsLawful sorts → result_sort o sorts ≡ Some s → IsLawful s
