-- The items that stand for an expression.
use Rattle.std.specs.Prelude.{ℕ, ◌≡◌, ◌≢◌, ◌+◌, ◌≤◌, List, length, slice_get, Some, Ok}
use Rattle.std.specs.List.{slice_range}
use Rattle.qv_text.specs.declared.kinds.TokenKind.{TokenKind}
use Rattle.qv_text.specs.Reading.{Lexeme, token_at, kind_of}
use Rattle.qv_sexpr.specs.declared.items.Item.{Item}
use Rattle.qv_sexpr.specs.declared.items.ItemKind.{ItemKind}
use Rattle.qv_sexpr.specs.declared.items.ItemKind.TheVariants.{Atom, Open, Close}
use Rattle.qv_sexpr.specs.declared.items.Expr.{Expr}
use Rattle.qv_sexpr.specs.Script.{Tree, Trees, atom, list, none, also}

-- these bytes are one token, of this kind
abbrev pub IsToken : TokenKind → List ℕ → Type 0
IsToken kind text = (found : TokenKind) × (token_at text ≡ Ok (found, length text)) × (kind_of found text ≡ kind)

-- the item of this number is an atom with this place, kind and text
pub record IsAtomAt (items : List Item) (text : List ℕ) (i : ℕ) (l : Lexeme) : Type 0 where
  pub start : ℕ
  pub end : ℕ
  pub item : slice_get items i ≡ Some (record { kind = Atom l.kind; place = l.place; start = start; end = end })
  pub ordered : start ≤ end
  pub within : end ≤ length text
  pub text_is : slice_range text start end ≡ l.text
  pub token : IsToken l.kind l.text

-- the item of this number is a parenthesis at this place, of this kind
abbrev pub IsParenAt : List Item → ℕ → ItemKind → ℕ → Type 0
IsParenAt items i kind place = (at : ℕ) × (slice_get items i ≡ Some (record { kind = kind; place = place; start = at; end = at }))

-- The expression's items are those from number i to before number j.
abbrev mutual
  pub Stands : List Item → List ℕ → ℕ → Tree → ℕ → Type 0
  Stands items text i (atom l) j = IsAtomAt items text i l × (j ≡ i + 1)
  Stands items text i (list place inside close) j =
      (n : ℕ) × IsParenAt items i (Open n) place × StandAll items text (i + 1) inside n × IsParenAt items n Close close × (j ≡ n + 1)

  -- the same of expressions one after another
  pub StandAll : List Item → List ℕ → ℕ → Trees → ℕ → Type 0
  StandAll items text i none j = j ≡ i
  StandAll items text i (also e es) j = (m : ℕ) × Stands items text i e m × StandAll items text m es j

-- the items are those of this expression, and no others
abbrev pub IsExprOf : Tree → Expr → Type 0
IsExprOf tree expr = Stands expr.items.items expr.text.items 0 tree (length expr.items.items)

-- The items are those of exactly one expression.
abbrev pub IsExpr : Expr → Type 0
IsExpr expr = (tree : Tree) × IsExprOf tree expr

-- an expression begins at this number: an atom or an open parenthesis stands there
abbrev pub Begins : Expr → ℕ → Type 0
Begins expr i = (item : Item) × (slice_get expr.items.items i ≡ Some item) × (item.kind ≢ Close)
