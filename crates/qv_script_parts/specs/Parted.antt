-- What the parts of commands are told as.
use Rattle.std.specs.Prelude.{◌≡◌, ℕ, Bool, is_none, true, false, Option, Some, None, List, [], ◌∷◌, Result, Ok, Err, option_map}
use Rattle.std.specs.Global.{Vec}
use Rattle.qv_text.specs.declared.kinds.TokenKind.{TokenKind}
use Rattle.qv_text.specs.declared.kinds.TokenKind.TheVariants.{Text, Numeral}
use Rattle.qv_sexpr.specs.declared.items.Expr.{Expr}
use Rattle.qv_sexpr.specs.declared.items.Item.{Item}
use Rattle.qv_sexpr.specs.declared.items.ItemKind.{ItemKind}
use Rattle.qv_sexpr.specs.declared.items.ItemKind.TheVariants.{Atom, Open, Close}
use Rattle.qv_sexpr.specs.Script.{atom, list}
use Rattle.qv_sexpr.specs.Script.{Tree as Written, Trees as Writtens}
use Rattle.qv_elab_defs.specs.Tokens.{items, numeral_of, symbol_of}
use Rattle.qv_sexpr.specs.Items.{Stands}
use Rattle.qv_elab_defs.specs.Shapes.{Construct, Annotated, value_in_front, Naming, Named}
use Rattle.qv_elab_items.specs.Flat.{text_in, construct_in}
use Rattle.qv_script_defs.specs.declared.faults.ScriptFault.{ScriptFault}
use Rattle.qv_script_defs.specs.declared.faults.ScriptFault.TheVariants.{At, NoMemory}
use Rattle.qv_script_defs.specs.Faults.{Fault}
use Rattle.qv_script_defs.specs.Parts.{Asserted, list_of, some_of, counted}

-- an expression that begins at this item
abbrev pub IsPart : Expr → ℕ → Written → Type 0
IsPart expr at e = (to : ℕ) × Stands expr.items.items expr.text.items at e to

-- expressions that begin at these items
abbrev pub AreParts : Expr → List ℕ → List Written → Type 0
AreParts expr [] [] = Unit {0}
AreParts expr (at ∷ ats) (e ∷ es) = IsPart expr at e × AreParts expr ats es
AreParts expr _ _ = ⊥

-- what stands in a list
abbrev pub inside_of : Written → List Written
inside_of (atom l) = []
inside_of (list place within close) = items within

-- what there is, or its fault
abbrev pub told_by : {A : Type 0} → Result A Fault → Result A ScriptFault
told_by (Ok x) = Ok x
told_by (Err fault) = Err (At fault.place fault.kind)

abbrev pub told_number : ℕ → Written → Result ℕ ScriptFault
told_number place e = told_by (counted place (numeral_of e))

-- the text that is told, or its fault; want of memory says nothing
abbrev pub TellsText : Result (List ℕ) Fault → Result (Vec ℕ) ScriptFault → Type 0
TellsText given (Ok text) = given ≡ Ok text.items
TellsText given (Err (At place kind)) = given ≡ Err (record { place = place; kind = kind })
TellsText given (Err NoMemory) = Unit {0}

-- whether nothing stands in a list
abbrev pub is_empty_list : Written → Option Bool
is_empty_list e = option_map (λ es. is_none (some_of (Some es))) (list_of e)

-- a list that begins with this item is an annotated term
abbrev pub is_annotated : Construct → Bool
is_annotated Annotated = true
is_annotated _ = false

abbrev pub is_annotation : List ℕ → Item → Bool
is_annotation text item = is_annotated (construct_in text item)

-- the symbol that a value is, if there is one
abbrev pub symbol_in_front : Option Written → Option (List ℕ)
symbol_in_front (Some e) = symbol_of e
symbol_in_front None = None

-- the same of what stands in front of these expressions
abbrev pub named_in_front : Writtens → Option (List ℕ)
named_in_front es = symbol_in_front (value_in_front (items es))

-- the name that attributes give a term
abbrev pub name_given : Naming → Option (List ℕ)
name_given (Named name) = Some name
name_given _ = None

-- where the term stands and how it is named that an expression asserts, or that it has no name
abbrev pub IsAsserted : List Item → List ℕ → Written → Asserted → Option (ℕ × List ℕ) → Type 0
IsAsserted its text e a None = a ≡ record { term = e; name = None }
IsAsserted its text e a (Some (at, name)) = (a.name ≡ Some name) × ((to : ℕ) × Stands its text at a.term to)

abbrev pub string_of_kind : TokenKind → Option (List ℕ) → Option (List ℕ)
string_of_kind Text bytes = bytes
string_of_kind _ bytes = None

abbrev pub string_by : List ℕ → Item → ItemKind → Option (List ℕ)
string_by text item (Atom kind) = string_of_kind kind (text_in text item)
string_by text item (Open close) = None
string_by text item Close = None

-- the string that an item is
abbrev pub string_in : List ℕ → Item → Option (List ℕ)
string_in text item = string_by text item item.kind

abbrev pub is_numeral_token : TokenKind → Bool
is_numeral_token Numeral = true
is_numeral_token _ = false

abbrev pub is_numeral : ItemKind → Bool
is_numeral (Atom kind) = is_numeral_token kind
is_numeral (Open close) = false
is_numeral Close = false
