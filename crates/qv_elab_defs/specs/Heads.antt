-- The heads of applications.
use Rattle.std.specs.Prelude.{ℕ, if◌then◌else◌, Option, Some, None, List, [], ◌∷◌, Result, Ok, codes}
use Rattle.std.specs.Str.{bytes_eq}
use Rattle.qv_sexpr.specs.Script.{atom, list, none, also}
use Rattle.qv_sexpr.specs.Script.{Tree as Expr}
use Rattle.qv_words.specs.declared.sort.Sort.{Sort}
use Rattle.qv_words.specs.declared.op.Op.{Op}
use Rattle.qv_words.specs.Tree.{Tree}
use Rattle.qv_elab_defs.specs.declared.faults.ElabKind.TheVariants.{Form, NotSupported, UnknownName, Index}
use Rattle.qv_elab_defs.specs.Faults.{Fault, refuse, ◌>>=◌}
use Rattle.qv_elab_defs.specs.Tokens.{Number, items, symbol_of, all_wanted}
use Rattle.qv_elab_defs.specs.Shapes.{Construct, Indexed, Qualified, construct_of, IndexedName, indexed_name}
use Rattle.qv_elab_defs.specs.Scopes.{Entry, Definition, Scope, found}
use Rattle.qv_sorts.specs.Search.{operator_named, with_indices}

-- what is applied
pub data Head : Type 0 where
  Macro : (parameters : List Sort) → (body : ℕ → List Tree → Result Tree Fault) → Head
  Distinct : Head
  Operator : Op → Head

-- a name at the head: where the head and the name stand, and the numerals of its indices
pub record HeadName : Type 0 where
  pub head_place : ℕ
  pub place : ℕ
  pub name : List ℕ
  pub indices : List Number

-- a head that takes no indices; those that stand there are numbers first
abbrev pub bare : HeadName → Head → List Number → Result Head Fault
bare h head [] = Ok head
bare h head (n ∷ ns) = all_wanted (n ∷ ns) >>= λ _. refuse h.head_place Index

-- an operator that has these indices
abbrev pub operator : HeadName → Option Op → Result Head Fault
operator h (Some o) = Ok (Operator o)
operator h None = refuse h.head_place Index

-- the operators, where the name is none of a definition
abbrev pub head_operator : HeadName → Option Op → Result Head Fault
head_operator h (Some o) = all_wanted h.indices >>= λ ns. operator h (with_indices o ns)
head_operator h None =
    if bytes_eq h.name (codes "distinct") then bare h Distinct h.indices else refuse h.place UnknownName

-- the definitions come first; a constant is no head
abbrev pub head_entry : HeadName → Option Entry → Result Head Fault
head_entry h (Some (Definition parameters body)) = bare h (Macro parameters body) h.indices
head_entry h _ = head_operator h (operator_named h.name)

abbrev pub head_named : Scope → HeadName → Result Head Fault
head_named scope h = head_entry h (found h.name scope)

-- in what follows, `place` is that of the application
abbrev pub head_symbol : Scope → ℕ → ℕ → Option (List ℕ) → Result Head Fault
head_symbol scope place p (Some name) = head_named scope (record { head_place = p; place = p; name = name; indices = [] })
head_symbol scope place p None = refuse place Form

abbrev pub head_indexed : Scope → ℕ → Option IndexedName → Result Head Fault
head_indexed scope p (Some i) =
    head_named scope (record { head_place = p; place = i.place; name = i.name; indices = i.first ∷ i.others })
head_indexed scope p None = refuse p Form

-- a list at the head
abbrev pub head_listed : Construct → Scope → ℕ → ℕ → List Expr → Result Head Fault
head_listed Indexed scope place p others = head_indexed scope p (indexed_name others)
head_listed Qualified scope place p others = refuse p NotSupported
head_listed _ scope place p others = refuse place Form

-- what an application's first expression is
abbrev pub head_of : Scope → ℕ → Expr → Result Head Fault
head_of scope place (atom l) = head_symbol scope place l.place (symbol_of (atom l))
head_of scope place (list p none q) = refuse place Form
head_of scope place (list p (also first others) q) = head_listed (construct_of first) scope place p (items others)
