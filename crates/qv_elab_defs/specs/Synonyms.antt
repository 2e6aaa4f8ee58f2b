-- The sort that an expression is in a scope.
use Rattle.std.specs.Prelude.{Option, Some, option_and_then, Result, Ok}
use Rattle.qv_sexpr.specs.Script.{Tree as Expr}
use Rattle.qv_words.specs.declared.sort.Sort.{Sort}
use Rattle.qv_elab_defs.specs.Faults.{Fault}
use Rattle.qv_elab_defs.specs.Tokens.{symbol_of}
use Rattle.qv_elab_defs.specs.Sorts.{read_sort}
use Rattle.qv_elab_defs.specs.Scopes.{Entry, Synonym, Scope, found, sort_key}

-- what an expression is in the table of sorts, if it is a name there
abbrev pub sort_found : Scope → Expr → Option Entry
sort_found scope e = option_and_then (λ name. found (sort_key name) scope) (symbol_of e)

-- a name that was defined, or what the expression is by itself
abbrev pub sort_entry : Expr → Option Entry → Result Sort Fault
sort_entry e (Some (Synonym s)) = Ok s
sort_entry e _ = read_sort e

abbrev pub scoped_sort : Scope → Expr → Result Sort Fault
scoped_sort scope e = sort_entry e (sort_found scope e)
