-- Where the loop over the items is, and what it makes of them.
use Rattle.std.specs.Prelude.{◌≡◌, ℕ, ◌+◌, ◌-◌, ◌*◌, Bool, Option, Some, List, [], ◌∷◌, ◌++◌, length, map, reverse, Result, Ok, Err}
use Rattle.std.specs.List.{AllByRecursion}
use Rattle.qv_sexpr.specs.declared.items.Expr.{Expr as Items}
use Rattle.qv_sexpr.specs.declared.items.ItemKind.TheVariants.{Close}
use Rattle.qv_sexpr.specs.declared.items.ItemKind.TheVariants as item
use Rattle.qv_text.specs.Reading.{Lexeme}
use Rattle.qv_sexpr.specs.Script.{atom, list, none, also}
use Rattle.qv_sexpr.specs.Script.{Tree as Expr, Trees as Exprs}
use Rattle.qv_sexpr.specs.Items.{IsAtomAt, IsParenAt, Stands, StandAll}
use Rattle.qv_words.specs.declared.sort.Sort.{Sort}
use Rattle.qv_words.specs.Tree.{Tree}
use Rattle.qv_store.specs.Stores.{StandsAt}
use Rattle.qv_elab_defs.specs.declared.faults.ElabFault.{ElabFault}
use Rattle.qv_elab_defs.specs.declared.faults.ElabFault.TheVariants.{At, NoMemory}
use Rattle.qv_elab_scope.specs.declared.heads.Head.{Head as Told}
use Rattle.qv_elab_frames.specs.declared.elaborator.Open.{Open}
use Rattle.qv_elab_frames.specs.declared.elaborator.Open.TheVariants as opened
use Rattle.qv_elab_frames.specs.declared.elaborator.Next.{Next}
use Rattle.qv_elab_frames.specs.declared.elaborator.Next.TheVariants.{Read, Made}
use Rattle.qv_elab_frames.specs.declared.elaborator.Elaborator.{Elaborator}
use Rattle.qv_elab_defs.specs.Faults.{Fault}
use Rattle.qv_elab_defs.specs.Tokens.{unquoted, name_of_token}
use Rattle.qv_elab_defs.specs.Shapes.{Construct, Pair, pairs_of}
use Rattle.qv_elab_defs.specs.Scopes.{Named, Scope, constants_of, Context, below_binders}
use Rattle.qv_elab_defs.specs.Heads.{Head}
use Rattle.qv_elab_macros.specs.declared.standing.Watched.{Watched}
use Rattle.qv_elab_defs.specs.Looking.{Look, Seen, Looking, ◌▷◌, looks_of, looks_of_list, looks_of_pairs}
use Rattle.qv_elab_macros.specs.Checked.{IsCheckedBy}
use Rattle.qv_elab_frames.specs.Frames.{Frame, Applying, Binding, Closing, Passing, resume}
use Rattle.qv_elab_scope.specs.Headed.{name_at, IsHead}
use Rattle.qv_elab_scope.specs.Ids.{AreAt, AreNamedAt, quantifier_of}
use Rattle.qv_elab_defs.specs.OpenTrees.{IsGood, IsGoodContext, with_levels, AreLawful}

-- the items of the outermost expression, which ends before item number `end`, and its scope
pub record Source : Type 0 where
  pub items : Items
  pub end : ℕ
  pub defs : Scope

abbrev pub source : Items → ℕ → Scope → Source
source items end defs = record { items = items; end = end; defs = defs }

-- there are such a scope, end and answer of the whole
abbrev pub IsPossible : (Scope → ℕ → Result Seen Fault → Type 0) → Type 0
IsPossible P = (defs : Scope) × (end : ℕ) × (given : Result Seen Fault) × P defs end given

-- the state of the loop: what is open, the innermost first; what was looked at is watched
pub record State : Type 0 where
  pub stack : List Open
  pub done : List ℕ
  pub bound : Named ℕ
  pub pending : Named ℕ
  pub binders : ℕ
  pub watched : List Watched

abbrev pub state_of : Elaborator → State
state_of e = record { stack = reverse e.open.items; done = e.done.items; bound = e.bound; pending = e.pending; binders = e.binders; watched = e.watched.items }

abbrev pub nothing_open : State
nothing_open = record { stack = []; done = []; bound = []; pending = []; binders = 0; watched = [] }

-- nothing is open, below so many binders with these names
abbrev pub begun : Named ℕ → ℕ → State
begun names binders = record { stack = []; done = []; bound = names; pending = []; binders = binders; watched = [] }

-- one more is open
abbrev pub with_open : Open → State → State
with_open o s = record s { stack = o ∷ s.stack }

-- how many steps are left at most
abbrev pub steps_left : Items → Next → ℕ
steps_left items (Read at) = 2 * (length items.items.items - at)
steps_left items (Made id at) = 1 + 2 * (length items.items.items - at)

-- the sorts of the constants
abbrev pub sorts_of : Source → List Sort
sorts_of w = map (λ x. x.1) (constants_of w.defs)

-- what stands for expressions behind their part, where that ends before item i
pub record EndsIn (w : Source) (i : ℕ) (rest : Exprs) : Type 0 where
  pub close : ℕ
  pub place : ℕ
  pub stand : StandAll w.items.items.items w.items.text.items i rest close
  pub closed : IsParenAt w.items.items.items close Close place

-- an application whose arguments so far stand behind those of the outer ones
pub record IsApplication (w : Source) (trees : List Tree) (M : ℕ → Option Sort) (place : ℕ) (head : Told) (head_at first : ℕ) (frames : List Frame) (i : ℕ) (c : Context) (done : List ℕ) : Type 0 where
  pub meant : Head
  pub args : List Tree
  pub rest : Exprs
  pub outer : List Frame
  pub before : List ℕ
  pub own : List ℕ
  pub frames_are : frames ≡ Applying place meant args rest c ∷ outer
  pub ends : EndsIn w i rest
  pub is_head : IsHead w.defs (name_at w.items.text.items w.items.items.items head_at) head meant
  pub done_are : done ≡ before ++ own
  pub first_is : first ≡ length before
  pub own_are : AreAt trees own args
  pub good : AllByRecursion (IsGood (sorts_of w) 0 M) args

-- a `let` at the term of a name, with its names before this one
pub record IsLet (w : Source) (trees : List Tree) (M : ℕ → Option Sort) (at start : ℕ) (frames : List Frame) (i : ℕ) (c : Context) (pending : Named ℕ) : Type 0 where
  pub names : Named Tree
  pub name : List ℕ
  pub pairs : Exprs
  pub some : List Pair
  pub body : Expr
  pub outer : List Frame
  pub before : Named ℕ
  pub own : Named ℕ
  pub frames_are : frames ≡ Binding names name pairs body c ∷ outer
  pub name_is : name_at w.items.text.items w.items.items.items at ≡ Some name
  pub place : ℕ
  pub closed : IsParenAt w.items.items.items i Close place
  pub ends : EndsIn w (i + 1) pairs
  pub pairs_are : pairs_of pairs ≡ Some some
  pub body_end : ℕ
  pub body_stands : Stands w.items.items.items w.items.text.items (ends.close + 1) body body_end
  pub close_place : ℕ
  pub body_closed : IsParenAt w.items.items.items body_end Close close_place
  pub pending_are : pending ≡ own ++ before
  pub start_is : start ≡ length before
  pub own_are : AreNamedAt trees own names
  pub good : AllByRecursion (λ x. IsGood (sorts_of w) 0 M x.1) names

-- a quantifier at its body, whose variables are the newest of the names
pub record IsQuantifier (w : Source) (M : ℕ → Option Sort) (place inner : ℕ) (is_universal : Bool) (bound : ℕ) (frames : List Frame) (i : ℕ) (c : Context) : Type 0 where
  pub xs : Named Sort
  pub around : Context
  pub levels : ℕ → Option Sort
  pub outer : List Frame
  pub frames_are : frames ≡ Closing (quantifier_of is_universal) place inner xs around ∷ outer
  pub close_place : ℕ
  pub closed : IsParenAt w.items.items.items i Close close_place
  pub c_is : c ≡ below_binders xs around
  pub levels_are : M ≡ with_levels around.binders xs levels
  pub lawful : AreLawful xs
  pub bound_is : bound ≡ length around.bound
  pub good : IsGoodContext (sorts_of w) 0 levels around

-- what is its part's own tree, where names of its own are the newest
pub record IsPassing (w : Source) (M : ℕ → Option Sort) (close bound : ℕ) (frames : List Frame) (i : ℕ) (c : Context) : Type 0 where
  pub rest : Exprs
  pub outer : List Frame
  pub own : Named Tree
  pub around : Named Tree
  pub frames_are : frames ≡ Passing rest ∷ outer
  pub ends : EndsIn w i rest
  pub close_is : close ≡ ends.close
  pub bound_are : c.bound ≡ own ++ around
  pub bound_is : bound ≡ length around
  pub good : IsGoodContext (sorts_of w) 0 M (record c { bound = around })

-- what is open around a part that ends before item i, in a context, and what it makes of the part's
-- tree
abbrev pub Holds : Source → List Tree → List Open → List Frame → ℕ → Context → (ℕ → Option Sort) → List ℕ → Named ℕ → Type 0
Holds w trees [] frames i c M done pending = (frames ≡ []) × (i ≡ w.end) × (done ≡ []) × (pending ≡ [])
Holds w trees (opened.Application place head head_at first ∷ os) frames i c M done pending =
    (h : IsApplication w trees M place head head_at first frames i c done) × Holds w trees os h.outer (h.ends.close + 1) c M h.before pending
Holds w trees (opened.Let at start ∷ os) frames i c M done pending =
    (h : IsLet w trees M at start frames i c pending) × Holds w trees os h.outer (h.body_end + 1) c M done h.before
Holds w trees (opened.Quantifier place inner is_universal bound ∷ os) frames i c M done pending =
    (h : IsQuantifier w M place inner is_universal bound frames i c) × Holds w trees os h.outer (i + 1) h.around h.levels done pending
Holds w trees (opened.Passing close bound ∷ os) frames i c M done pending =
    (h : IsPassing w M close bound frames i c) × Holds w trees os h.outer (close + 1) (record c { bound = h.around }) M done pending

-- a part in its context, behind which item i comes
pub record IsAround (w : Source) (trees : List Tree) (s : State) (i : ℕ) (c : Context) (M : ℕ → Option Sort) (frames : List Frame) : Type 0 where
  pub scope_is : c.scope ≡ w.defs
  pub good : IsGoodContext (sorts_of w) 0 M c
  pub bound_are : AreNamedAt trees s.bound c.bound
  pub binders_are : s.binders ≡ c.binders
  pub holds : Holds w trees s.stack frames i c M s.done s.pending
  pub looks : List Look
  pub looked : IsCheckedBy trees s.watched looks

-- at an expression that begins at item `at`, what the whole gives
pub record IsReading (w : Source) (trees : List Tree) (s : State) (at : ℕ) (given : Result Seen Fault) : Type 0 where
  pub expr : Expr
  pub behind : ℕ
  pub c : Context
  pub M : ℕ → Option Sort
  pub frames : List Frame
  pub stands : Stands w.items.items.items w.items.text.items at expr behind
  pub around : IsAround w trees s behind c M frames
  pub gives : given ≡ resume frames (looks_of expr c around.looks)

-- in a list at item `at`, with this place, that is closed at an item, what the whole gives
pub record IsInList (w : Source) (trees : List Tree) (s : State) (at close place : ℕ) (con : Construct) (given : Result Seen Fault) : Type 0 where
  pub first : Expr
  pub rest : Exprs
  pub second : ℕ
  pub close_place : ℕ
  pub c : Context
  pub M : ℕ → Option Sort
  pub frames : List Frame
  pub first_stands : Stands w.items.items.items w.items.text.items (at + 1) first second
  pub rest_stand : StandAll w.items.items.items w.items.text.items second rest close
  pub closed : IsParenAt w.items.items.items close Close close_place
  pub around : IsAround w trees s (close + 1) c M frames
  pub gives : given ≡ resume frames (looks_of_list con place first rest c around.looks)

-- what the pairs of a `let` behind these names and its body give
abbrev pub bound_looks : Exprs → Named Tree → Expr → Context → Looking Tree
bound_looks pairs names body c = looks_of_pairs pairs names c ▷ λ all. looks_of body (record c { bound = all ++ c.bound })

-- at a pair of a `let` whose name is item `at`, behind its names from `start` on, what the whole
-- gives
pub record IsAtPair (w : Source) (trees : List Tree) (s : State) (at start : ℕ) (given : Result Seen Fault) : Type 0 where
  pub names : Named Tree
  pub lexeme : Lexeme
  pub expr : Expr
  pub expr_end : ℕ
  pub pairs : Exprs
  pub some : List Pair
  pub body : Expr
  pub c : Context
  pub M : ℕ → Option Sort
  pub frames : List Frame
  pub before : Named ℕ
  pub own : Named ℕ
  pub name_stands : IsAtomAt w.items.items.items w.items.text.items at lexeme
  pub name_is : name_of_token lexeme.kind lexeme.text ≡ Some (unquoted lexeme.text)
  pub expr_stands : Stands w.items.items.items w.items.text.items (at + 1) expr expr_end
  pub list_place : ℕ
  pub place : ℕ
  pub closed : IsParenAt w.items.items.items expr_end Close place
  pub ends : EndsIn w (expr_end + 1) pairs
  pub pairs_are : pairs_of pairs ≡ Some some
  pub body_end : ℕ
  pub body_stands : Stands w.items.items.items w.items.text.items (ends.close + 1) body body_end
  pub close_place : ℕ
  pub body_closed : IsParenAt w.items.items.items body_end Close close_place
  pub pending_are : s.pending ≡ own ++ before
  pub start_is : start ≡ length before
  pub own_are : AreNamedAt trees own names
  pub good_names : AllByRecursion (λ x. IsGood (sorts_of w) 0 M x.1) names
  pub scope_is : c.scope ≡ w.defs
  pub good : IsGoodContext (sorts_of w) 0 M c
  pub bound_are : AreNamedAt trees s.bound c.bound
  pub binders_are : s.binders ≡ c.binders
  pub holds : Holds w trees s.stack frames (body_end + 1) c M s.done before
  pub looks : List Look
  pub looked : IsCheckedBy trees s.watched looks
  pub gives : given ≡ resume frames (bound_looks (also (list list_place (also (atom lexeme) (also expr none)) place) pairs) names body c looks)

-- behind an expression that ended before item `at` and stands for the tree of `id`, what the whole
-- gives
pub record IsMade (w : Source) (trees : List Tree) (s : State) (id at : ℕ) (given : Result Seen Fault) : Type 0 where
  pub tree : Tree
  pub c : Context
  pub M : ℕ → Option Sort
  pub frames : List Frame
  pub stands : StandsAt trees id tree
  pub good_tree : IsGood (sorts_of w) 0 M tree
  pub around : IsAround w trees s at c M frames
  pub gives : given ≡ resume frames (Ok (tree, around.looks))

-- what comes next, where the whole gives this, or its fault
abbrev pub IsNext : Source → List Tree → State → Result Seen Fault → Result Next ElabFault → Type 0
IsNext w trees s given (Ok (Read at)) = IsReading w trees s at given
IsNext w trees s given (Ok (Made id at)) = IsMade w trees s id at given
IsNext w trees s given (Err (At place kind)) = given ≡ Err (record { place = place; kind = kind })
IsNext w trees s given (Err NoMemory) = Unit {0}

-- an open parenthesis stands there, which is closed at this item
abbrev pub IsListAt : Items → ℕ → ℕ → Type 0
IsListAt items at close = (place : ℕ) × IsParenAt items.items.items at (item.Open close) place
