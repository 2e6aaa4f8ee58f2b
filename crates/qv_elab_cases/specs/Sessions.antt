-- What sessions keep.
use Rattle.std.specs.Prelude.{List}
use Rattle.qv_words.specs.Tree.{Tree}
use Rattle.qv_elab_defs.specs.Scopes.{Scope}
use Rattle.qv_elab_scope.specs.Force.{Force}
use Rattle.qv_elab_scope.specs.Kept.{IsScopeIn}

-- what is in force is kept in the store, for some scope
abbrev pub IsKept : List Tree → Force → Type 0
IsKept trees force = (defs : Scope) × IsScopeIn trees force defs
