-- The shapes of expressions, which are looked at before their parts.
use Rattle.std.specs.Prelude.{ℕ, ◌&&◌, ◌||◌, if◌then◌else◌, Bool, true, false, Option, Some, None, unwrap_or, option_map, option_and_then, List, [], ◌∷◌, codes}
use Rattle.std.specs.Str.{bytes_eq}
use Rattle.qv_text.specs.declared.kinds.TokenKind.{TokenKind}
use Rattle.qv_text.specs.declared.kinds.TokenKind.TheVariants.{Reserved}
use Rattle.qv_sexpr.specs.Script.{atom, list, none, also}
use Rattle.qv_sexpr.specs.Script.{Tree as Expr, Trees as Exprs}
use Rattle.qv_elab_defs.specs.Tokens.{Number, items, name_of_token, symbol_of, keyword_of, is_keyword, numeral_of}

pub data Quantifier : Type 0 where
  Universal : Quantifier
  Existential : Quantifier

-- what a list is, by what it begins with
pub data Construct : Type 0 where
  Let : Construct
  Quantified : Quantifier → Construct
  Annotated : Construct
  Indexed : Construct
  -- as
  Qualified : Construct
  -- lambda, match, par
  Unsupported : Construct
  Application : Construct

-- what a list is that begins with this reserved word
unfoldable pub reserved_construct : List ℕ → Construct
reserved_construct word =
    if bytes_eq word (codes "let") then Let
    else (if bytes_eq word (codes "forall") then Quantified Universal
    else (if bytes_eq word (codes "exists") then Quantified Existential
    else (if bytes_eq word (codes "!") then Annotated
    else (if bytes_eq word (codes "_") then Indexed
    else (if bytes_eq word (codes "as") then Qualified
    else Unsupported)))))

abbrev pub construct_of_token : TokenKind → List ℕ → Construct
construct_of_token Reserved text = reserved_construct text
construct_of_token _ text = Application

-- what a list is that begins with this expression
abbrev pub construct_of : Expr → Construct
construct_of (atom l) = construct_of_token l.kind l.text
construct_of (list place inside close) = Application

-- a name with indices, as what follows `_`: a symbol and one numeral or more
pub record IndexedName : Type 0 where
  pub place : ℕ
  pub name : List ℕ
  pub first : Number
  pub others : List Number

-- the numerals that these expressions are, if each is one
abbrev pub numerals_of : List Expr → Option (List Number)
numerals_of [] = Some []
numerals_of (e ∷ es) = option_and_then (λ n. option_map (λ ns. n ∷ ns) (numerals_of es)) (numeral_of e)

abbrev pub indexed_with : ℕ → List ℕ → Option (List Number) → Option IndexedName
indexed_with place name (Some (n ∷ ns)) = Some (record { place = place; name = name; first = n; others = ns })
indexed_with place name _ = None

-- what follows `_`, if it is such a name
abbrev pub indexed_name : List Expr → Option IndexedName
indexed_name (atom l ∷ es) = option_and_then (λ name. indexed_with l.place name (numerals_of es)) (name_of_token l.kind l.text)
indexed_name _ = None

-- a symbol and what stands beside it
pub record Pair : Type 0 where
  pub place : ℕ
  pub name : List ℕ
  pub beside : Expr

-- one more pair in front, where its first part is a symbol
abbrev pub with_pair : ℕ → Option (List ℕ) → Expr → Option (List Pair) → Option (List Pair)
with_pair place (Some name) e (Some pairs) = Some (record { place = place; name = name; beside = e } ∷ pairs)
with_pair _ _ _ _ = None

-- the pairs that these expressions are, if each is one
abbrev pub pairs_of : Exprs → Option (List Pair)
pairs_of none = Some []
pairs_of (also (list p (also (atom l) (also e none)) q) es) = with_pair l.place (name_of_token l.kind l.text) e (pairs_of es)
pairs_of (also _ es) = None

-- the pairs that a list is of
abbrev pub listed_pairs : Expr → Option (List Pair)
listed_pairs (atom l) = None
listed_pairs (list place inside close) = pairs_of inside

-- at least one pair
abbrev pub some_pairs : Option (List Pair) → Option (List Pair)
some_pairs (Some (pair ∷ pairs)) = Some (pair ∷ pairs)
some_pairs _ = None

-- no two values stand in a row, and none comes first where `behind_key` fails
abbrev pub are_values_behind_keys : Bool → List Expr → Bool
are_values_behind_keys behind_key [] = true
are_values_behind_keys behind_key (e ∷ es) = (is_keyword e || behind_key) && are_values_behind_keys (is_keyword e) es

-- attributes: at least one keyword, each with a value behind it or none
abbrev pub are_attributes : Exprs → Bool
are_attributes none = false
are_attributes (also e es) = are_values_behind_keys false (e ∷ items es)

-- the value in front of these expressions, if there is one
abbrev pub value_in_front : List Expr → Option Expr
value_in_front [] = None
value_in_front (e ∷ es) = if is_keyword e then None else Some e

-- what stands behind each `:named`
abbrev pub behind_named : List Expr → List (Option Expr)
behind_named [] = []
behind_named (e ∷ es) =
    if bytes_eq (unwrap_or (keyword_of e) []) (codes ":named") then value_in_front es ∷ behind_named es else behind_named es

-- how attributes name a term: not, by a symbol, or wrongly
pub data Naming : Type 0 where
  Unnamed : Naming
  Named : (name : List ℕ) → Naming
  Misnamed : Naming

abbrev pub naming_by : Option (List ℕ) → Naming
naming_by (Some name) = Named name
naming_by None = Misnamed

abbrev pub naming_of : List (Option Expr) → Naming
naming_of [] = Unnamed
naming_of (Some e ∷ []) = naming_by (symbol_of e)
naming_of _ = Misnamed

abbrev pub naming : Exprs → Naming
naming attributes = naming_of (behind_named (items attributes))
