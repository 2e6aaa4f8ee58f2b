-- Values and sorts as they are printed.
use Rattle.std.specs.Prelude.{ℕ, zero, suc, ◌+◌, ◌/◌, ◌%◌, ◌==◌, nat_lt, if◌then◌else◌, List, [], ◌∷◌, ◌++◌, codes}
use Rattle.std.specs.Fmt.{decimal}
use Rattle.qv_words.specs.declared.sort.Sort.{Sort}
use Rattle.qv_words.specs.declared.sort.Sort.TheVariants.{Bool, Bits}

-- a digit: 0 to 9, and then a to f
abbrev pub digit : ℕ → ℕ
digit d = if nat_lt d 10 then d + 48 else d + 87

-- the last n digits of a number to the base
abbrev pub digits : ℕ → ℕ → ℕ → List ℕ
digits base zero v = []
digits base (suc n) v = digits base n (v / base) ++ digit (v % base) ∷ []

-- a value of a sort
abbrev pub value_text : Sort → ℕ → List ℕ
value_text Bool v = if v == 1 then codes "true" else codes "false"
value_text (Bits w) v = if w % 4 == 0 then codes "#x" ++ digits 16 (w / 4) v else codes "#b" ++ digits 2 w v

abbrev pub sort_text : Sort → List ℕ
sort_text Bool = codes "Bool"
sort_text (Bits w) = codes "(_ BitVec " ++ (decimal w ++ codes ")")
