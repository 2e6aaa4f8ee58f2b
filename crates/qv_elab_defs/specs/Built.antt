-- Trees that are built for expressions.
use Rattle.std.specs.Prelude.{ℕ, Result}
use Rattle.qv_words.specs.Tree.{Tree}
use Rattle.qv_elab_defs.specs.declared.faults.ElabKind.{ElabKind}
use Rattle.qv_elab_defs.specs.Faults.{Fault, ◌>>=◌, at}
use Rattle.qv_elab_defs.specs.Applying.{shallow}

-- a tree of an expression at this place, unless it has a rank fault or is too deep
abbrev pub limited : ℕ → Result Tree ElabKind → Result Tree Fault
limited place r = at place r >>= shallow place
