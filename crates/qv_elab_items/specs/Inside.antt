-- What stands in lists as the code tells it.
use Rattle.std.specs.Prelude.{◌≡◌, ℕ, ◌+◌, Bool, false, is_some, Option, Some, None, List, [], ◌∷◌, unwrap_or, codes}
use Rattle.std.specs.Str.{bytes_eq}
use Rattle.qv_sexpr.specs.declared.items.Item.{Item}
use Rattle.qv_sexpr.specs.declared.items.ItemKind.TheVariants.{Close}
use Rattle.qv_sexpr.specs.Script.{atom, list, none, also}
use Rattle.qv_sexpr.specs.Script.{Tree as Expr, Trees as Exprs}
use Rattle.qv_sexpr.specs.Items.{IsParenAt, Stands, StandAll}
use Rattle.qv_elab_items.specs.declared.inside.Naming.{Naming as Told}
use Rattle.qv_elab_items.specs.declared.inside.Naming.TheVariants as code
use Rattle.qv_elab_defs.specs.Tokens.{items, name_of_token, symbol_of}
use Rattle.qv_elab_items.specs.Flat.{keyword_in}
use Rattle.qv_elab_defs.specs.Shapes.{Pair, pairs_of, some_pairs, Naming, Unnamed, Named, Misnamed, value_in_front, naming_by, naming_of}

abbrev pub told : Naming → Told
told Unnamed = code.Unnamed
told (Named name) = code.Named
told Misnamed = code.Misnamed

-- an item is `:named`
abbrev pub is_named : List ℕ → Item → Bool
is_named text item = bytes_eq (unwrap_or (keyword_in text item) []) (codes ":named")

-- how a `:named` names by what is behind it
abbrev pub told_by : Option Expr → Told
told_by (Some e) = told (naming_by (symbol_of e))
told_by None = code.Misnamed

abbrev pub told_in_front : Exprs → Told
told_in_front es = told_by (value_in_front (items es))

-- one more `:named`
abbrev pub named_also : Told → Told → Told
named_also code.Unnamed by = by
named_also _ by = code.Misnamed

-- what these names and others behind them make
abbrev pub with_more : Told → List (Option Expr) → Told
with_more code.Unnamed xs = told (naming_of xs)
with_more code.Misnamed xs = code.Misnamed
with_more code.Named [] = code.Named
with_more code.Named (x ∷ xs) = code.Misnamed

-- a symbol and an expression
abbrev pub is_pair_of : Exprs → Bool
is_pair_of (also (atom l) (also e none)) = is_some (name_of_token l.kind l.text)
is_pair_of _ = false

-- a list of these two
abbrev pub is_pair : Expr → Bool
is_pair (list p inside q) = is_pair_of inside
is_pair (atom l) = false

-- some pairs in a list, and one expression behind it
abbrev pub binding_of : Exprs → Option (List Pair)
binding_of (also (list p pairs q) (also body none)) = some_pairs (pairs_of pairs)
binding_of _ = None

-- such a list of pairs, that is closed at an item
pub record IsBoundBy (items : List Item) (text : List ℕ) (at : ℕ) (rest : Exprs) (close end : ℕ) : Type 0 where
  pub place : ℕ
  pub pairs : Exprs
  pub close_place : ℕ
  pub body : Expr
  pub some : List Pair
  pub rest_is : rest ≡ also (list place pairs close_place) (also body none)
  pub pairs_are : some_pairs (pairs_of pairs) ≡ Some some
  pub stand : StandAll items text (at + 1) pairs end
  pub closed : IsParenAt items end Close close_place
  pub body_stands : Stands items text (end + 1) body close

abbrev pub IsBinding : List Item → List ℕ → ℕ → Exprs → ℕ → Option ℕ → Type 0
IsBinding items text at rest close None = binding_of rest ≡ None
IsBinding items text at rest close (Some end) = IsBoundBy items text at rest close end
