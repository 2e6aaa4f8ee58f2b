-- Expressions as they are written: each atom is a token.
use Rattle.qv_text.specs.Grammar.{IsWhole}
use Rattle.qv_sexpr.specs.Script.{Tree as Expr, Trees as Exprs, atom, list, none, also}

abbrev mutual
  -- each atom's text is one token of its kind
  pub HasTokens : Expr → Type 0
  HasTokens (atom l) = IsWhole l.kind l.text
  HasTokens (list place inside close) = HaveTokens inside

  -- the same of expressions one after another
  pub HaveTokens : Exprs → Type 0
  HaveTokens none = Unit {0}
  HaveTokens (also e es) = HasTokens e × HaveTokens es
