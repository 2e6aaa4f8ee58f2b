-- Where the walk for terms with names is, and what it finds. No public contract cites more of it
-- than what is told.
use Rattle.std.specs.Prelude.{◌≡◌, ℕ, ◌+◌, ◌-◌, ◌*◌, ◌≤◌, nat_lt, Bool, false, Option, Some, None, List, [], ◌∷◌, ◌++◌, length, Result, Ok, Err}
use Rattle.std.specs.Global.{Vec}
use Rattle.qv_sexpr.specs.declared.items.Expr.{Expr}
use Rattle.qv_sexpr.specs.declared.items.ItemKind.TheVariants.{Open, Close}
use Rattle.qv_sexpr.specs.Script.{list}
use Rattle.qv_sexpr.specs.Script.{Tree as Written, Trees as Writtens}
use Rattle.qv_sexpr.specs.Items.{IsParenAt, Stands, StandAll}
use Rattle.qv_elab_defs.specs.Faults.{◌>>=◌}
use Rattle.qv_elab_defs.specs.Shapes.{Construct, Pair, construct_of, pairs_of}
use Rattle.qv_elab_items.specs.Places.{place_in}
use Rattle.qv_script_defs.specs.declared.faults.ScriptFault.{ScriptFault}
use Rattle.qv_script_defs.specs.declared.faults.ScriptFault.TheVariants.{At, NoMemory}
use Rattle.qv_script_defs.specs.Faults.{Fault}
use Rattle.qv_script_defs.specs.Labels.{Label, Around, below, unless_outside, labels_in, labels_listed, labels_all}
use Rattle.qv_script_defs.specs.Parts.{asserted_of}
use Rattle.qv_script_parts.specs.declared.labels.Around.{Around as Told}
use Rattle.qv_script_parts.specs.declared.labels.Task.{Task}
use Rattle.qv_script_parts.specs.declared.labels.Task.TheVariants as task
use Rattle.qv_script_parts.specs.Parted.{IsPart}

-- a term with this name begins at this item
abbrev pub IsLabel : Expr → ℕ → Label → Type 0
IsLabel expr at l = (e : Written) × IsPart expr at e × (asserted_of e ≡ record { term = l.term; name = Some l.name })

abbrev pub AreLabels : Expr → List ℕ → List Label → Type 0
AreLabels expr [] [] = Unit {0}
AreLabels expr (at ∷ ats) (l ∷ ls) = IsLabel expr at l × AreLabels expr ats ls
AreLabels expr _ _ = ⊥

-- the terms with names that are told, or the first fault; want of memory says nothing
abbrev pub TellsLabels : Expr → Result (List Label) Fault → Result (Vec ℕ) ScriptFault → Type 0
TellsLabels expr given (Ok ats) = (ls : List Label) × (given ≡ Ok ls) × AreLabels expr ats.items ls
TellsLabels expr given (Err (At place kind)) = given ≡ Err (record { place = place; kind = kind })
TellsLabels expr given (Err NoMemory) = Unit {0}

-- what is left: expressions, one below binders, and the name of a term that ended
pub data Due : Type 0 where
  Each : (es : Writtens) → (a : Around) → Due
  Below : (ps : List Pair) → (body : Writtens) → (a : Around) → Due
  Named : (l : Label) → Due

-- what it has, behind these
abbrev pub gives : List Due → List Label → Result (List Label) Fault
gives [] ls = Ok ls
gives (Each es a ∷ ds) ls = labels_all es a ls >>= gives ds
gives (Below ps body a ∷ ds) ls = labels_all body (below ps a) ls >>= gives ds
gives (Named l ∷ ds) ls = gives ds (ls ++ l ∷ [])

-- the names that are bound where something stands
abbrev pub names_in : Around → List (List ℕ)
names_in a = a.inner ++ a.outer

-- names, the newest first, of which the oldest are bound there
pub record IsAround (names : List (List ℕ)) (t : Told) (a : Around) : Type 0 where
  pub front : List (List ℕ)
  pub names_are : names ≡ front ++ names_in a
  pub bound : t.bound ≡ length (names_in a)
  pub outside : t.outside ≡ length a.outer
  pub place : t.place ≡ a.place

-- a list of these pairs begins at this item
abbrev pub ArePairsAt : Expr → ℕ → List Pair → Type 0
ArePairsAt expr at ps =
    (p : ℕ) × (pairs : Writtens) × (q : ℕ) × (to : ℕ) × Stands expr.items.items expr.text.items at (list p pairs q) to × (pairs_of pairs ≡ Some ps)

-- these tasks are what is left, where so many names are bound
abbrev pub AreDue : Expr → List Task → List (List ℕ) → List Due → Type 0
AreDue expr [] names [] = Unit {0}
AreDue expr (task.Each from to t ∷ ts) names (Each es a ∷ ds) =
    StandAll expr.items.items expr.text.items from es to × (to ≤ length expr.items.items) × IsAround names t a × AreDue expr ts (names_in a) ds
AreDue expr (task.Below at from to t ∷ ts) names (Below ps body a ∷ ds) =
    ArePairsAt expr at ps × StandAll expr.items.items expr.text.items from body to × (to ≤ length expr.items.items) × IsAround names t a × AreDue expr ts (names_in a) ds
AreDue expr (task.Named at ∷ ts) names (Named l ∷ ds) = IsLabel expr at l × AreDue expr ts names ds
AreDue expr _ names _ = ⊥

-- so the walk stands, where the whole has this
pub record IsOpen (expr : Expr) (tasks : List Task) (names : List (List ℕ)) (found : List ℕ) (given : Result (List Label) Fault) : Type 0 where
  pub dues : List Due
  pub labels : List Label
  pub due : AreDue expr tasks names dues
  pub found_are : AreLabels expr found labels
  pub given_is : given ≡ gives dues labels

-- it stands so, or there is a fault; want of memory says nothing
abbrev pub LeadsTo : Expr → List Task → List (List ℕ) → List ℕ → Result (List Label) Fault → Result (Unit {0}) ScriptFault → Type 0
LeadsTo expr tasks names found given (Ok done) = IsOpen expr tasks names found given
LeadsTo expr tasks names found given (Err (At place kind)) = given ≡ Err (record { place = place; kind = kind })
LeadsTo expr tasks names found given (Err NoMemory) = Unit {0}

abbrev pub IsPossible : (Result (List Label) Fault → Type 0) → Type 0
IsPossible P = (given : Result (List Label) Fault) × P given

-- at an expression that begins at an item, behind which these tasks are left
pub record IsAt (expr : Expr) (at : ℕ) (t : Told) (tasks : List Task) (names : List (List ℕ)) (found : List ℕ) (given : Result (List Label) Fault) : Type 0 where
  pub e : Written
  pub to : ℕ
  pub a : Around
  pub dues : List Due
  pub labels : List Label
  pub stands : Stands expr.items.items expr.text.items at e to
  pub around : IsAround names t a
  pub due : AreDue expr tasks (names_in a) dues
  pub found_are : AreLabels expr found labels
  pub given_is : given ≡ (labels_in e a labels >>= gives dues)

-- the same at an atom that has this name, if it has one
pub record IsAtName (expr : Expr) (name : Option (List ℕ)) (t : Told) (tasks : List Task) (names : List (List ℕ)) (found : List ℕ) (given : Result (List Label) Fault) : Type 0 where
  pub a : Around
  pub dues : List Due
  pub labels : List Label
  pub around : IsAround names t a
  pub due : AreDue expr tasks (names_in a) dues
  pub found_are : AreLabels expr found labels
  pub given_is : given ≡ (unless_outside name a labels >>= gives dues)

-- an open parenthesis stands there, which is closed at this item
abbrev pub IsOpenAt : Expr → ℕ → ℕ → Type 0
IsOpenAt expr at close = (place : ℕ) × IsParenAt expr.items.items at (Open close) place

-- in a list of this kind that begins at an item and is closed at one, whose second item is this
pub record IsWithin (expr : Expr) (at second close : ℕ) (con : Construct) (t : Told) (tasks : List Task) (names : List (List ℕ)) (found : List ℕ) (given : Result (List Label) Fault) : Type 0 where
  pub place : ℕ
  pub first : Written
  pub rest : Writtens
  pub close_place : ℕ
  pub a : Around
  pub dues : List Due
  pub labels : List Label
  pub opens : IsParenAt expr.items.items at (Open close) place
  pub first_stands : Stands expr.items.items expr.text.items (at + 1) first second
  pub con_is : construct_of first ≡ con
  pub rest_stand : StandAll expr.items.items expr.text.items second rest close
  pub closed : IsParenAt expr.items.items close Close close_place
  pub around : IsAround names t a
  pub due : AreDue expr tasks (names_in a) dues
  pub found_are : AreLabels expr found labels
  pub given_is : given ≡ (labels_listed con place rest a labels >>= gives dues)

-- the place of a name is that of one of the oldest, which are so many
abbrev pub is_below : ℕ → Option ℕ → Bool
is_below n (Some i) = nat_lt i n
is_below n None = false

abbrev pub is_name_outside : ℕ → Option (List ℕ) → List (List ℕ) → Bool
is_name_outside n (Some name) names = is_below n (place_in name names)
is_name_outside n None names = false

-- the names of pairs in front of these, the newest first
abbrev pub pushed_all : List Pair → List (List ℕ) → List (List ℕ)
pushed_all [] names = names
pushed_all (p ∷ ps) names = pushed_all ps (p.name ∷ names)

-- how many steps are left at most
abbrev pub work_of : Task → ℕ
work_of (task.Each from to t) = 1 + 3 * (to - from)
work_of (task.Below at from to t) = 2 + 3 * (to - from)
work_of (task.Named at) = 1

abbrev pub work : List Task → ℕ
work [] = 0
work (t ∷ ts) = work_of t + work ts
