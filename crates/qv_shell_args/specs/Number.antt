-- Numbers among the words.
use Rattle.std.specs.Prelude.{ℕ, Bool, ◌&&◌, nat_le, nat_lt, if◌then◌else◌, List, length, Option, Some, None}
use Rattle.std.specs.Str.{all_ascii_digits}
use Rattle.std.specs.Str.Parse.{digits_value}

-- one decimal digit or more, and nothing else
abbrev pub is_numeral : List ℕ → Bool
is_numeral word = nat_lt 0 (length word) && all_ascii_digits word

-- The number of a word, where it is decimal digits with a value from `least` to `most`. The digits
-- may begin with zeros.
unfoldable pub number_in : ℕ → ℕ → List ℕ → Option ℕ
number_in least most word =
    let number = digits_value 10 word in
    if is_numeral word && nat_le least number && nat_le number most then Some number else None
