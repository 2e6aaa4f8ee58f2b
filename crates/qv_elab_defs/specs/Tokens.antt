-- What single tokens stand for: names and numbers.
use Rattle.std.specs.Prelude.{ℕ, ◌+◌, ◌-◌, ◌*◌, ◌==◌, ◌^◌, nat_lt, nat_le, if◌then◌else◌, Bool, is_some, Option, Some, None, List, [], ◌∷◌, length, take, fold, Result, Ok}
use Rattle.qv_text.specs.declared.kinds.TokenKind.{TokenKind}
use Rattle.qv_text.specs.declared.kinds.TokenKind.TheVariants.{Symbol, Keyword, Numeral}
use Rattle.qv_sexpr.specs.Script.{atom, list, none, also}
use Rattle.qv_sexpr.specs.Script.{Tree as Expr, Trees as Exprs}
use Rattle.qv_elab_defs.specs.declared.faults.ElabKind.TheVariants.{Literal}
use Rattle.qv_elab_defs.specs.Faults.{Fault, refuse, ◌>>=◌}

-- the first byte of an expression
abbrev pub place_of : Expr → ℕ
place_of (atom l) = l.place
place_of (list place inside close) = place

-- the expressions of a list
abbrev pub items : Exprs → List Expr
items none = []
items (also e es) = e ∷ items es

-- a symbol's text without the bars around it
abbrev pub unquoted : List ℕ → List ℕ
unquoted [] = []
unquoted (b ∷ bytes) = if b == 124 then take (length bytes - 1) bytes else b ∷ bytes

-- the name of a token, if it is a symbol
abbrev pub name_of_token : TokenKind → List ℕ → Option (List ℕ)
name_of_token Symbol text = Some (unquoted text)
name_of_token _ text = None

-- the name of an expression, if it is a symbol
abbrev pub symbol_of : Expr → Option (List ℕ)
symbol_of (atom l) = name_of_token l.kind l.text
symbol_of (list place inside close) = None

-- the text of a keyword, if the expression is one
abbrev pub keyword_text : TokenKind → List ℕ → Option (List ℕ)
keyword_text Keyword text = Some text
keyword_text _ text = None

abbrev pub keyword_of : Expr → Option (List ℕ)
keyword_of (atom l) = keyword_text l.kind l.text
keyword_of (list place inside close) = None

abbrev pub is_symbol : Expr → Bool
is_symbol e = is_some (symbol_of e)

abbrev pub is_keyword : Expr → Bool
is_keyword e = is_some (keyword_of e)

-- a digit up to 9, A to F, a to f
abbrev pub digit_value : ℕ → ℕ
digit_value b = if nat_le b 57 then b - 48 else (if nat_le b 70 then b - 55 else b - 87)

-- the number that these digits write to the base
abbrev pub number_of : ℕ → List ℕ → ℕ
number_of base digits = fold (λ n b. n * base + digit_value b) 0 digits

-- a decimal number below 2^128
abbrev pub small_number_of : List ℕ → Option ℕ
small_number_of digits = if nat_lt (number_of 10 digits) (2 ^ 128) then Some (number_of 10 digits) else None

-- a numeral as it is written, with its place
pub record Number : Type 0 where
  pub place : ℕ
  pub value : ℕ

abbrev pub number_at : TokenKind → ℕ → List ℕ → Option Number
number_at Numeral place text = Some (record { place = place; value = number_of 10 text })
number_at _ place text = None

-- the numeral that an expression is
abbrev pub numeral_of : Expr → Option Number
numeral_of (atom l) = number_at l.kind l.place l.text
numeral_of (list place inside close) = None

-- the value of a numeral where a number is wanted
abbrev pub wanted : Number → Result ℕ Fault
wanted n = if nat_lt n.value (2 ^ 128) then Ok n.value else refuse n.place Literal

abbrev pub all_wanted : List Number → Result (List ℕ) Fault
all_wanted [] = Ok []
all_wanted (n ∷ ns) = wanted n >>= λ v. all_wanted ns >>= λ vs. Ok (v ∷ vs)
