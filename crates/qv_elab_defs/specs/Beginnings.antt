-- What is looked at of an expression before its parts are read. It wants no memory.
use Rattle.std.specs.Prelude.{ℕ, if◌then◌else◌, IsOk, Result, Ok, Err}
use Rattle.qv_sexpr.specs.Script.{atom, list, none, also}
use Rattle.qv_sexpr.specs.Script.{Tree as Expr, Trees as Exprs}
use Rattle.qv_elab_defs.specs.declared.faults.ElabFault.{ElabFault}
use Rattle.qv_elab_defs.specs.declared.faults.ElabFault.TheVariants.{At, NoMemory}
use Rattle.qv_elab_defs.specs.declared.faults.ElabKind.TheVariants.{Form, NotSupported}
use Rattle.qv_elab_defs.specs.Faults.{Fault, refuse, formed, ◌>>=◌}
use Rattle.qv_elab_defs.specs.Tokens.{items}
use Rattle.qv_elab_defs.specs.Shapes.{Construct, Let, Quantified, Annotated, Indexed, Qualified, Unsupported, Application, construct_of, indexed_name, pairs_of, some_pairs, are_attributes, Naming, Unnamed, Misnamed, naming}
use Rattle.qv_elab_defs.specs.Shapes.{Named as NamedBy}
use Rattle.qv_elab_defs.specs.Scopes.{Scope, Context}
use Rattle.qv_elab_defs.specs.Heads.{head_of}
use Rattle.qv_elab_defs.specs.Leaves.{token_tree, indexed_literal}

-- the fault, if there is one
abbrev pub looked : {A : Type 0} → Result A Fault → Result (Unit {0}) Fault
looked r = r >>= λ _. Ok tt

abbrev pub named_right : ℕ → Naming → Result (Unit {0}) Fault
named_right place Unnamed = Ok tt
named_right place (NamedBy name) = Ok tt
named_right place Misnamed = refuse place Form

-- of a list, by what it begins with, and what follows: its shape, a head, a literal
abbrev pub list_beginning : Construct → ℕ → Expr → Exprs → Scope → Result (Unit {0}) Fault
list_beginning Let place first (also (list p pairs q) (also body none)) scope = looked (formed place (some_pairs (pairs_of pairs)))
list_beginning (Quantified quantifier) place first (also (list p pairs q) (also body none)) scope = looked (formed place (some_pairs (pairs_of pairs)))
list_beginning Annotated place first (also term attributes) scope =
    if are_attributes attributes then named_right place (naming attributes) else refuse place Form
list_beginning Indexed place first rest scope = looked (indexed_literal place (indexed_name (items rest)))
list_beginning Application place first (also e es) scope = looked (head_of scope place first)
list_beginning Qualified place first rest scope = refuse place NotSupported
list_beginning Unsupported place first rest scope = refuse place NotSupported
list_beginning _ place first rest scope = refuse place Form

-- of an expression; an atom is looked at whole
abbrev pub beginning : Expr → Context → Result (Unit {0}) Fault
beginning (atom l) c = looked (token_tree l.kind l.place l.text c)
beginning (list place none close) c = refuse place Form
beginning (list place (also first rest) close) c = list_beginning (construct_of first) place first rest c.scope

-- memory may run out, and there may be a result, only where what is looked at first has no fault
abbrev pub Begins : {A B : Type 0} → Result A Fault → Result B ElabFault → Type 0
Begins first (Err (At place kind)) = Unit {0}
Begins first (Err NoMemory) = IsOk first
Begins first (Ok x) = IsOk first
