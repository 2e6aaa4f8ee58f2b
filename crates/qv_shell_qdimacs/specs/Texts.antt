-- What is printed of a file.
use Rattle.std.specs.Prelude.{ℕ, Bool, true, false, List, ◌∷◌, ◌++◌, codes}
use Rattle.std.specs.List.{flat_map}
use Rattle.std.specs.Fmt.{decimal}
use Rattle.qv_qdimacs.specs.declared.faults.QdimacsKind.{QdimacsKind}
use Rattle.qv_qdimacs.specs.declared.faults.QdimacsKind.TheVariants as kind

-- the name of a fault
abbrev pub fault_word : QdimacsKind → List ℕ
fault_word kind.ProblemLine = codes "problem line"
fault_word kind.Number = codes "number"
fault_word kind.Unfinished = codes "unfinished"
fault_word kind.Repeated = codes "repeated"
fault_word kind.Quantifier = codes "quantifier"

-- of a file with too many places
abbrev pub limit_word : List ℕ
limit_word = codes "prefix limit"

-- the literal that a variable's value makes true
abbrev pub literal_text : ℕ → Bool → List ℕ
literal_text v true = decimal v
literal_text v false = 45 ∷ decimal v

-- a literal for each variable, with its value, behind a space
abbrev pub literals_text : List (ℕ × Bool) → List ℕ
literals_text values = flat_map (λ x. 32 ∷ literal_text x.0 x.1) values

-- the line of values
abbrev pub values_line : List (ℕ × Bool) → List ℕ
values_line values = codes "v" ++ (literals_text values ++ codes " 0\n")
