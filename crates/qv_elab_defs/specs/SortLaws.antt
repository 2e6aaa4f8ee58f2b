-- What pins the reading of sorts down.
use Rattle.std.specs.Prelude.{◌≢◌, ℕ, IfOk, IfSome, List}
use Rattle.qv_text.specs.declared.kinds.TokenKind.{TokenKind}
use Rattle.qv_text.specs.Grammar.{IsWhole}
use Rattle.qv_sexpr.specs.Script.{Tree as Expr}
use Rattle.qv_words.specs.Sort.{IsLawful}
use Rattle.qv_elab_defs.specs.Sorts.{read_sort}
use Rattle.qv_elab_defs.specs.Tokens.{name_of_token}
use Rattle.qv_elab_defs.specs.Scopes.{Scope, sort_key}
use Rattle.qv_elab_defs.specs.Synonyms.{scoped_sort}
use Rattle.qv_elab_defs.specs.TreeLaws.{IsScope}

-- a sort that is read is lawful
abbrev pub SortsAreLawful : Type 0
SortsAreLawful = (e : Expr) → IfOk (read_sort e) IsLawful

-- in a scope too
abbrev pub ScopedSortsAreLawful : Type 0
ScopedSortsAreLawful = (scope : Scope) (e : Expr) → IsScope scope → IfOk (scoped_sort scope e) IsLawful

-- no symbol is a name of the table of sorts
abbrev pub SymbolsAreNoSortKeys : Type 0
SymbolsAreNoSortKeys = (kind : TokenKind) (text sort : List ℕ) → IsWhole kind text → IfSome (name_of_token kind text) (λ name. name ≢ sort_key sort)
