-- Numbers that are written in decimal digits.
use Rattle.std.specs.Prelude.{ℕ, ℤ, pos, neg_ℤ, ◌&&◌, ◌==◌, nat_le, if◌then◌else◌, List, [], ◌∷◌, Option, Some, None, slice_index, drop}
use Rattle.std.specs.Option.{option_map}
use Rattle.std.specs.Str.{all_ascii_digits}
use Rattle.std.specs.Str.Parse.{digits_value}

-- the number, where it is in the range
abbrev pub in_range : ℕ → ℕ → ℕ → Option ℕ
in_range least most number = if nat_le least number && nat_le number most then Some number else None

-- The number of a word, from `least` to `most`. Its digits may begin with zeros.
unfoldable pub number_from : ℕ → ℕ → List ℕ → Option ℕ
number_from least most [] = None
number_from least most (first ∷ others) =
    if all_ascii_digits (first ∷ others) then in_range least most (digits_value 10 (first ∷ others)) else None

-- The number of a word that may have a minus before the digits. Its magnitude is from 1 to `most`.
unfoldable pub signed_number : ℕ → List ℕ → Option ℤ
signed_number most word =
    if slice_index word 0 == 45 then option_map (λ n. neg_ℤ (pos n)) (number_from 1 most (drop 1 word))
    else option_map pos (number_from 1 most word)
