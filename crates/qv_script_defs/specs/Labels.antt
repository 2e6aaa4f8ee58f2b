-- The names that a command gives to terms within its terms.
use Rattle.std.specs.Prelude.{ℕ, ◌++◌, ◌&&◌, not, if◌then◌else◌, Bool, true, Option, Some, None, List, [], ◌∷◌, Result, Ok}
use Rattle.std.specs.Str.{bytes_eq}
use Rattle.std.specs.List.{list_any}
use Rattle.qv_sexpr.specs.Script.{atom, list, none, also}
use Rattle.qv_sexpr.specs.Script.{Tree as Expr, Trees as Exprs}
use Rattle.qv_elab_defs.specs.Faults.{◌>>=◌}
use Rattle.qv_elab_defs.specs.Tokens.{name_of_token}
use Rattle.qv_elab_defs.specs.Shapes.{Construct, Let, Quantified, Annotated, Application, construct_of, Pair, pairs_of, some_pairs, are_attributes, Naming, Named, naming}
use Rattle.qv_elab_defs.specs.Defining.{elaborate, definition}
use Rattle.qv_script_defs.specs.declared.faults.ScriptKind.TheVariants.{NotSupported}
use Rattle.qv_script_defs.specs.Faults.{Fault, refuse, inside}
use Rattle.qv_script_defs.specs.State.{State, scope_of, with_entry}
use Rattle.qv_script_defs.specs.Moves.{fresh}

-- a term that has a name
pub record Label : Type 0 where
  pub name : List ℕ
  pub term : Expr

-- the names that are bound around an expression: within the innermost term that has a name, and
-- outside of that term, which stands at this place
pub record Around : Type 0 where
  pub inner : List (List ℕ)
  pub outer : List (List ℕ)
  pub place : ℕ

-- nothing is bound, and no term around has a name
abbrev pub nothing : Around
nothing = record { inner = []; outer = []; place = 0 }

-- the names of these pairs are bound
abbrev pub below : List Pair → Around → Around
below [] a = a
below (p ∷ ps) a = below ps (record a { inner = p.name ∷ a.inner })

-- within a term at this place, which may have a name
abbrev pub within : Option (List ℕ) → ℕ → Around → Around
within (Some name) place a = record { inner = []; outer = a.inner ++ a.outer; place = place }
within None place a = a

abbrev pub is_among : List ℕ → List (List ℕ) → Bool
is_among name names = list_any (λ n. bytes_eq n name) names

-- a variable that is bound outside of the innermost term with a name
abbrev pub is_outside : List ℕ → Around → Bool
is_outside name a = not (is_among name a.inner) && is_among name a.outer

-- such a variable is refused where that term stands
abbrev pub unless_outside : Option (List ℕ) → Around → List Label → Result (List Label) Fault
unless_outside (Some name) a ls = if is_outside name a then refuse a.place NotSupported else Ok ls
unless_outside None a ls = Ok ls

-- the name that attributes give a term, if they are such
abbrev pub name_by : Bool → Naming → Option (List ℕ)
name_by true (Named name) = Some name
name_by _ _ = None

abbrev pub name_of : Exprs → Option (List ℕ)
name_of attributes = name_by (are_attributes attributes) (naming attributes)

abbrev pub with_label : Option (List ℕ) → Expr → List Label → List Label
with_label (Some name) term ls = ls ++ record { name = name; term = term } ∷ []
with_label None term ls = ls

-- what some pairs and what they are bound in have; nothing where they are no pairs
abbrev pub if_pairs : Option (List Pair) → List Label → (List Pair → Result (List Label) Fault) → Result (List Label) Fault
if_pairs (Some ps) ls has = has ps
if_pairs None ls has = Ok ls

-- the terms with names behind these, from left to right, inner ones before those around them
abbrev mutual
  pub labels_in : Expr → Around → List Label → Result (List Label) Fault
  labels_in (atom l) a ls = unless_outside (name_of_token l.kind l.text) a ls
  labels_in (list place none close) a ls = Ok ls
  labels_in (list place (also first rest) close) a ls = labels_listed (construct_of first) place rest a ls

  -- in a list by what it begins with, and what follows. Heads, sorts and attributes have none.
  pub labels_listed : Construct → ℕ → Exprs → Around → List Label → Result (List Label) Fault
  labels_listed Let place (also (list p pairs q) (also body none)) a ls =
      if_pairs (some_pairs (pairs_of pairs)) ls (λ ps. labels_all pairs a ls >>= labels_in body (below ps a))
  labels_listed (Quantified quantifier) place (also (list p pairs q) (also body none)) a ls =
      if_pairs (some_pairs (pairs_of pairs)) ls (λ ps. labels_in body (below ps a) ls)
  labels_listed Annotated place (also term attributes) a ls =
      labels_in term (within (name_of attributes) place a) ls >>= λ own. Ok (with_label (name_of attributes) term own)
  labels_listed Application place (also e es) a ls = labels_in e a ls >>= labels_all es a
  labels_listed _ place rest a ls = Ok ls

  pub labels_all : Exprs → Around → List Label → Result (List Label) Fault
  labels_all none a ls = Ok ls
  labels_all (also e es) a ls = labels_in e a ls >>= labels_all es a

-- a name is defined, without parameters, as a term of the scope
abbrev pub label : ℕ → State → Label → Result State Fault
label place s l =
    fresh place s l.name >>= λ _.
    inside (elaborate (scope_of s) l.term) >>= λ _.
    Ok (with_entry l.name (definition (scope_of s) [] l.term) s)

-- one after another
abbrev pub labelled : ℕ → List Label → State → Result State Fault
labelled place [] s = Ok s
labelled place (l ∷ ls) s = label place s l >>= labelled place ls
