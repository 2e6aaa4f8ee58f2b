-- The classes of bytes.
use Rattle.std.specs.Prelude.{ℕ, Bool, ◌||◌, ◌&&◌, ◌==◌, nat_le, not, List, codes}
use Rattle.std.specs.List.{list_any}

-- tab, LF, CR and space
unfoldable pub is_white : ℕ → Bool
is_white b = b == 9 || b == 10 || b == 13 || b == 32

-- LF or CR, which end a comment
unfoldable pub is_line_end : ℕ → Bool
is_line_end b = b == 10 || b == 13

-- white space, or the `;` that opens a comment
unfoldable pub is_blank : ℕ → Bool
is_blank b = is_white b || b == 59

unfoldable pub is_digit : ℕ → Bool
is_digit b = nat_le 48 b && nat_le b 57

-- a binary digit
unfoldable pub is_binary : ℕ → Bool
is_binary b = b == 48 || b == 49

unfoldable pub is_letter : ℕ → Bool
is_letter b = (nat_le 97 b && nat_le b 122) || (nat_le 65 b && nat_le b 90)

-- a hexadecimal digit of either case
unfoldable pub is_hex : ℕ → Bool
is_hex b = is_digit b || (nat_le 97 b && nat_le b 102) || (nat_le 65 b && nat_le b 70)

-- what stands in a simple symbol beside letters and digits
abbrev pub marks : List ℕ
marks = codes "~!@$%^&*_-+=<>.?/"

-- a byte of a simple symbol
unfoldable pub is_symbol : ℕ → Bool
is_symbol b = is_letter b || is_digit b || list_any (λ c. b == c) marks

-- what may begin a simple symbol
unfoldable pub begins_symbol : ℕ → Bool
begins_symbol b = is_symbol b && not (is_digit b)
