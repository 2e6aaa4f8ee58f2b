-- The parts of commands.
use Rattle.std.specs.Prelude.{ℕ, ◌++◌, Bool, true, false, if◌then◌else◌, Option, Some, None, option_and_then, List, [], ◌∷◌, Result, Ok, codes}
use Rattle.std.specs.Str.{bytes_eq}
use Rattle.qv_text.specs.declared.kinds.TokenKind.{TokenKind}
use Rattle.qv_text.specs.declared.kinds.TokenKind.TheVariants.{Text}
use Rattle.qv_sexpr.specs.Script.{atom, list, none, also}
use Rattle.qv_sexpr.specs.Script.{Tree as Expr, Trees as Exprs}
use Rattle.qv_elab_defs.specs.Tokens.{Number, items, symbol_of, numeral_of, wanted}
use Rattle.qv_elab_defs.specs.Shapes.{Construct, Annotated, construct_of, Pair, pairs_of, are_attributes, Naming, Named, naming}
use Rattle.qv_script_defs.specs.Faults.{Fault, refuse, inside}
use Rattle.qv_script_defs.specs.declared.faults.ScriptKind.TheVariants.{Form}

-- what stands in a list
abbrev pub list_of : Expr → Option (List Expr)
list_of (atom l) = None
list_of (list place within close) = Some (items within)

-- at least one
abbrev pub some_of : Option (List Expr) → Option (List Expr)
some_of (Some (e ∷ es)) = Some (e ∷ es)
some_of _ = None

-- a parameter list
abbrev pub parameters_of : Expr → Option (List Pair)
parameters_of (atom l) = None
parameters_of (list place within close) = pairs_of within

-- a string with its quotes
abbrev pub string_text : TokenKind → List ℕ → Option (List ℕ)
string_text Text text = Some text
string_text _ text = None

abbrev pub string_of : Expr → Option (List ℕ)
string_of (atom l) = string_text l.kind l.text
string_of (list place within close) = None

-- true or false
abbrev pub truth_named : List ℕ → Option Bool
truth_named name =
    if bytes_eq name (codes "true") then Some true
    else (if bytes_eq name (codes "false") then Some false
    else None)

abbrev pub truth_of : Expr → Option Bool
truth_of e = option_and_then truth_named (symbol_of e)

abbrev pub counted : ℕ → Option Number → Result ℕ Fault
counted place (Some n) = inside (wanted n)
counted place None = refuse place Form

-- the number of levels of push and pop: 1 where none is written
abbrev pub count_of : ℕ → List Expr → Result ℕ Fault
count_of place [] = Ok 1
count_of place (e ∷ []) = counted place (numeral_of e)
count_of place _ = refuse place Form

-- an asserted term: with a name, (! t .. :named x ..), or without
pub record Asserted : Type 0 where
  pub term : Expr
  pub name : Option (List ℕ)

-- an annotated term with its attributes
abbrev pub asserted_with : Expr → Expr → Bool → Naming → Asserted
asserted_with whole t true (Named x) = record { term = t; name = Some x }
asserted_with whole t _ _ = record { term = whole; name = None }

abbrev pub asserted_by : Construct → Expr → Exprs → Asserted
asserted_by Annotated whole (also t attributes) = asserted_with whole t (are_attributes attributes) (naming attributes)
asserted_by _ whole _ = record { term = whole; name = None }

abbrev pub asserted_of : Expr → Asserted
asserted_of (list place (also first rest) close) = asserted_by (construct_of first) (list place (also first rest) close) rest
asserted_of e = record { term = e; name = None }

-- an expression as it is written, with one space between neighbours and none inside the parentheses
abbrev mutual
  pub spaced : Expr → List ℕ
  spaced (atom l) = l.text
  spaced (list place within close) = codes "(" ++ (spaced_all within ++ codes ")")

  pub spaced_all : Exprs → List ℕ
  spaced_all none = []
  spaced_all (also e none) = spaced e
  spaced_all (also e es) = spaced e ++ (codes " " ++ spaced_all es)
