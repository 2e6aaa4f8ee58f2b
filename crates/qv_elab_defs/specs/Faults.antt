-- The faults of expressions, and how one thing is looked at before the next.
use Rattle.std.specs.Prelude.{ℕ, Option, Some, None, Result, Ok, Err}
use Rattle.qv_elab_defs.specs.declared.faults.ElabKind.{ElabKind}
use Rattle.qv_elab_defs.specs.declared.faults.ElabKind.TheVariants.{Form}

-- a kind of fault, at a place
pub record Fault : Type 0 where
  pub place : ℕ
  pub kind : ElabKind

abbrev pub refuse : {A : Type 0} → ℕ → ElabKind → Result A Fault
refuse place kind = Err (record { place = place; kind = kind })

-- what has its shape, at this place
abbrev pub formed : {A : Type 0} → ℕ → Option A → Result A Fault
formed place (Some x) = Ok x
formed place None = refuse place Form

infixl 10 ◌>>=◌
-- what comes first, and then what is made of it, unless it has a fault
abbrev pub ◌>>=◌ : {A B F : Type 0} → Result A F → (A → Result B F) → Result B F
◌>>=◌ (Ok x) next = next x
◌>>=◌ (Err fault) next = Err fault

-- a fault of what has no place of its own is at this place
abbrev pub at : {A : Type 0} → ℕ → Result A ElabKind → Result A Fault
at place (Ok x) = Ok x
at place (Err kind) = refuse place kind

-- a fault inside is a fault at this place
abbrev pub moved : {A : Type 0} → ℕ → Result A Fault → Result A Fault
moved place (Ok x) = Ok x
moved place (Err fault) = refuse place fault.kind
