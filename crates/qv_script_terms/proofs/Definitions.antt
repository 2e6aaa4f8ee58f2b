-- Definitions that are read.
use Rattle.std.proofs.Common.{◌≡◌, ℕ, Bool, true, false, not, Option, Some, None, List, [], ◌∷◌, map, refl, sym, ap, subst, ◌∙◌, Ok, Err}
use Rattle.std.specs.Prelude.{Result, Vec, is_some}
use Rattle.std.specs.declared.alloc.Global.{Global}
use Rattle.qv_sexpr.specs.declared.items.Expr.{Expr}
use Rattle.qv_sexpr.specs.Script.{atom, list}
use Rattle.qv_sexpr.specs.Script.{Tree as Written}
use Rattle.qv_words.specs.Tree.{Tree}
use Rattle.qv_words.specs.declared.sort.Sort.{Sort}
use Rattle.qv_elab.specs.declared.bodies.Parameter.{Parameter}
use Rattle.qv_elab_defs.specs.declared.faults.ElabFault.{ElabFault}
use Rattle.qv_elab_defs.specs.declared.faults.ElabFault.TheVariants as elab
use Rattle.qv_elab_macros.specs.declared.body.Body.{Body}
use Rattle.qv_elab_scope.specs.declared.scope.Kept.{Kept}
use Rattle.qv_elab_scope.specs.declared.scope.Kept.TheVariants as kept
use Rattle.qv_elab_defs.specs.Answers.{ReadsSort}
use Rattle.qv_elab_defs.specs.Defining.{read_parameters, elaborate_body, definition}
use Rattle.qv_elab_defs.specs.Faults.{◌>>=◌}
use Rattle.qv_elab_defs.specs.Faults.{Fault as TermFault}
use Rattle.qv_elab_macros.specs.Readings.{IsReading}
use Rattle.qv_elab.specs.ReadBodies.{parameters_of, Reads, ReadsParameters}
use Rattle.qv_elab_defs.specs.Scopes.{Named, Scope}
use Rattle.qv_elab_defs.specs.Shapes.{Pair, listed_pairs}
use Rattle.qv_elab_defs.specs.Synonyms.{scoped_sort}
use Rattle.qv_elab_defs.specs.Tokens.{symbol_of}
use Rattle.qv_elab_defs.specs.TreeLaws.{AreParameters}
use Rattle.qv_elab_defs.specs.Written.{HasTokens}
use Rattle.qv_elab_scope.proofs.Defined.{scope-defined, definition-kept}
use Rattle.qv_script_defs.specs.declared.faults.ScriptFault.{ScriptFault}
use Rattle.qv_script_defs.specs.declared.faults.ScriptKind.TheVariants.{Form, NameInUse}
use Rattle.qv_script_defs.specs.Faults.{refuse, demand, shaped, inside}
use Rattle.qv_script_defs.specs.Parts.{parameters_of as pairs_in}
use Rattle.qv_script_defs.specs.State.{State, is_taken, scope_of, with_entry}
use Rattle.qv_script_defs.specs.Moves.{Move, Quiet, fresh, define}
use Rattle.qv_script_defs.specs.Commands.{DefineFun, step}
use Rattle.qv_script_stack.specs.Held.{Held, IsScriptIn}
use Rattle.qv_script_stack.specs.Changes.{with_definition}
use Rattle.qv_script_stack.specs.Steps.{Gives, RunsOut}
use Rattle.qv_script_parts.specs.Parted.{IsPart, AreParts}
use Rattle.qv_script_defs.specs.Faults.{fault_of}
use Rattle.qv_script_terms.specs.Defined.{defined}
use Rattle.qv_script_terms.specs.Beginnings.{term_beginning, body_beginning, command_beginning}
use Rattle.qv_script_stack.proofs.Asserting.{held-definition}
use Rattle.qv_script_stack.proofs.Stepping.{three-parts, shaped-as, runs-behind}

-- a fault that is answered of this, or want of memory
abbrev pub IsFaultOf : {A : Type 0} → Result A TermFault → ElabFault → Type 0
IsFaultOf given (elab.At place kind) = given ≡ Err (record { place = place; kind = kind })
IsFaultOf given elab.NoMemory = Unit {0}

pub gives-inside : {A : Type 0} (trees : List Tree) (held : Held) (given : Result A TermFault) (next : A → Move) (fault : ElabFault) → IsFaultOf given fault → Gives trees held (inside given >>= next) (Err (fault_of fault))
gives-inside {A} trees held given next (elab.At place kind) h = ap (λ (r : Result A TermFault). inside r >>= next) h
gives-inside trees held given next elab.NoMemory h = tt

-- parameters that are answered
pub parameters-fault : (scope : Scope) (pairs : List Pair) (fault : ElabFault) → ReadsParameters scope pairs (Err fault) → IsFaultOf (read_parameters scope pairs []) fault
parameters-fault scope pairs (elab.At place kind) h = h
parameters-fault scope pairs elab.NoMemory h = tt

-- a sort that is answered
pub sort-fault : (given : Result Sort TermFault) (fault : ElabFault) → ReadsSort given (Err fault) → IsFaultOf given fault
sort-fault given (elab.At place kind) h = h
sort-fault given elab.NoMemory h = tt

pub body-fault : (trees : List Tree) (scope : Scope) (xs : Named Sort) (sort : Sort) (e : Written) (fault : ElabFault) → Reads trees scope xs sort e (Err fault) → IsFaultOf (elaborate_body scope xs sort e) fault
body-fault trees scope xs sort e (elab.At place kind) h = h
body-fault trees scope xs sort e elab.NoMemory h = tt

pub sorts-of : (ps : List Parameter) → map (λ (p : Parameter). p.sort) ps ≡ map (λ (x : List ℕ × Sort). x.1) (parameters_of ps)
sorts-of [] = refl
sorts-of (p ∷ ps) = ap (λ (ss : List Sort). p.sort ∷ ss) (sorts-of ps)

-- a definition by its name
module _ (p : ℕ) (s : State) (name : List ℕ) (pairs : List Pair) (sort body : Written) where
  abbrev with-parameters : Result (Named Sort) TermFault → Move
  with-parameters r = inside r >>= λ xs. defined s name xs sort body

  abbrev if-fresh : Bool → Move
  if-fresh taken = demand p NameInUse (not taken) >>= λ _. with-parameters (read_parameters (scope_of s) pairs [])

  pub define-taken : is_taken s name ≡ true → define p s name pairs sort body ≡ refuse p NameInUse
  define-taken e = ap if-fresh e

  define-fresh : is_taken s name ≡ false → define p s name pairs sort body ≡ with-parameters (read_parameters (scope_of s) pairs [])
  define-fresh e = ap if-fresh e

  pub define-as : (xs : Named Sort) → is_taken s name ≡ false → read_parameters (scope_of s) pairs [] ≡ Ok xs → define p s name pairs sort body ≡ defined s name xs sort body
  define-as xs e r = define-fresh e ∙ ap with-parameters r

  pub define-faulty : (trees : List Tree) (held : Held) (fault : ElabFault) → is_taken s name ≡ false → IsFaultOf (read_parameters (scope_of s) pairs []) fault → Gives trees held (define p s name pairs sort body) (Err (fault_of fault))
  define-faulty trees held fault e h =
      subst (λ (m : Move). Gives trees held m (Err (fault_of fault))) (sym (define-fresh e))
      (gives-inside trees held (read_parameters (scope_of s) pairs []) (λ xs. defined s name xs sort body) fault h)

-- a definition by its parameters
module _ (s : State) (name : List ℕ) (xs : Named Sort) (sort body : Written) where
  abbrev with-body : Result Tree TermFault → Move
  with-body r = inside r >>= λ _. Ok (with_entry name (definition (scope_of s) xs body) s, Quiet)

  abbrev with-sort : Result Sort TermFault → Move
  with-sort r = inside r >>= λ t. with-body (elaborate_body (scope_of s) xs t body)

  pub sort-faulty : (trees : List Tree) (held : Held) (fault : ElabFault) → IsFaultOf (scoped_sort (scope_of s) sort) fault → Gives trees held (defined s name xs sort body) (Err (fault_of fault))
  sort-faulty trees held fault h = gives-inside trees held (scoped_sort (scope_of s) sort) (λ t. with-body (elaborate_body (scope_of s) xs t body)) fault h

  pub body-faulty : (trees : List Tree) (held : Held) (t : Sort) (fault : ElabFault) → scoped_sort (scope_of s) sort ≡ Ok t → IsFaultOf (elaborate_body (scope_of s) xs t body) fault → Gives trees held (defined s name xs sort body) (Err (fault_of fault))
  body-faulty trees held t fault e h =
      subst (λ (m : Move). Gives trees held m (Err (fault_of fault))) (sym (ap with-sort e))
      (gives-inside trees held (elaborate_body (scope_of s) xs t body) (λ _. Ok (with_entry name (definition (scope_of s) xs body) s, Quiet)) fault h)

  pub defined-done : (t : Sort) (u : Tree) → scoped_sort (scope_of s) sort ≡ Ok t → elaborate_body (scope_of s) xs t body ≡ Ok u → defined s name xs sort body ≡ Ok (with_entry name (definition (scope_of s) xs body) s, Quiet)
  defined-done t u e f = ap with-sort e ∙ ap with-body f

  -- what is held behind it
  pub defined-held : (trees : List Tree) (k : Held) (t : Sort) (sorts : Vec Sort Global) (own : Body) → AreParameters xs → HasTokens body → IsReading trees (scope_of s) xs t body own → sorts.items ≡ map (λ (x : List ℕ × Sort). x.1) xs → IsScriptIn trees k s → IsScriptIn trees (with_definition name sorts own k) (with_entry name (definition (scope_of s) xs body) s)
  defined-held trees k t sorts own p w r same h =
      let what : Kept = kept.Definition sorts own in
      held-definition trees k s name what (definition (scope_of s) xs body)
      (scope-defined trees k.force (scope_of s) name xs t body own what h.scope p w r (definition-kept trees (scope_of s) xs t body sorts.items own p w r same)) refl h

-- parameter lists, as they are asked for
pub pairs-same : (e : Written) → pairs_in e ≡ listed_pairs e
pairs-same (atom l) = refl
pairs-same (list place inside close) = refl

pub pairs-there : (o : Option (List Pair)) → is_some o ≡ true → (pairs : List Pair) × (o ≡ Some pairs)
pairs-there (Some pairs) e = (pairs, refl)
pairs-there None e = absurd (cc)

pub no-pairs : (o : Option (List Pair)) → is_some o ≡ false → o ≡ None
no-pairs (Some pairs) e = absurd (cc)
no-pairs None e = refl

pub four-parts : (expr : Expr) (a b c d : ℕ) (es : List Written) → AreParts expr (a ∷ b ∷ c ∷ d ∷ []) es →
    (e f g h : Written) × (es ≡ e ∷ f ∷ g ∷ h ∷ []) × IsPart expr a e × IsPart expr b f × IsPart expr c g × IsPart expr d h
four-parts expr a b c d [] h = absurd h
four-parts expr a b c d (e ∷ es) h =
    let rest = three-parts expr b c d es h.1 in
    (e, rest.0, rest.1, rest.2, ap (λ xs. e ∷ xs) rest.3, h.0, rest.4, rest.5, rest.6)

-- the commands
module _ (p : ℕ) (s : State) (f parameters sort body : Written) where
  pub define-fun-as : (name : List ℕ) (pairs : List Pair) → symbol_of f ≡ Some name → listed_pairs parameters ≡ Some pairs → step DefineFun p (f ∷ parameters ∷ sort ∷ body ∷ []) s ≡ define p s name pairs sort body
  define-fun-as name pairs n e =
      shaped-as p (symbol_of f) name (λ m. shaped p (pairs_in parameters) >>= λ ps. define p s m ps sort body) n
      ∙ shaped-as p (pairs_in parameters) pairs (λ ps. define p s name ps sort body) (pairs-same parameters ∙ e)

  pub define-fun-unshaped : (name : List ℕ) → symbol_of f ≡ Some name → listed_pairs parameters ≡ None → step DefineFun p (f ∷ parameters ∷ sort ∷ body ∷ []) s ≡ refuse p Form
  define-fun-unshaped name n e =
      shaped-as p (symbol_of f) name (λ m. shaped p (pairs_in parameters) >>= λ ps. define p s m ps sort body) n
      ∙ ap (λ (o : Option (List Pair)). shaped p o >>= λ ps. define p s name ps sort body) (pairs-same parameters ∙ e)

-- the fault of a sort is no want of memory
pub sort-runs : {A B F : Type 0} (given : Result A F) (read : Result Sort TermFault) (fault : ElabFault) (left : ScriptFault) (exit : Result B ScriptFault) → ReadsSort read (Err fault) → exit ≡ Err left → left ≡ fault_of fault → RunsOut given exit
sort-runs {A} {B} {F} given read fault left exit k f g = subst (λ (x : Result B ScriptFault). RunsOut given x) (sym (f ∙ ap Err g)) (go fault k)
  where
    go : (fault : ElabFault) → ReadsSort read (Err fault) → RunsOut {A = A} {B = B} {F = F} given (Err (fault_of fault))
    go (elab.At p kind) k = tt
    go elab.NoMemory k = absurd k

-- behind its sort
pub body-runs : {C : Type 0} (s : State) (sort body : Written) (t : Sort) (r : Result C ScriptFault) → scoped_sort (scope_of s) sort ≡ Ok t → RunsOut (term_beginning s body) r → RunsOut (body_beginning s sort body) r
body-runs s sort body t r e h = runs-behind (inside (scoped_sort (scope_of s) sort)) t (λ _. term_beginning s body) r (ap inside e) h

-- what is looked at first of a definition with parameters
pub define-fun-begins : (p : ℕ) (s : State) (f parameters sort body : Written) (name : List ℕ) (pairs : List Pair) → symbol_of f ≡ Some name → listed_pairs parameters ≡ Some pairs → is_taken s name ≡ false → command_beginning DefineFun p (f ∷ parameters ∷ sort ∷ body ∷ []) s ≡ Ok tt
define-fun-begins p s f parameters sort body name pairs n e free =
    ap (λ o. shaped p o >>= λ m. shaped p (pairs_in parameters) >>= λ _. fresh p s m) n
    ∙ ap (λ (o : Option (List Pair)). shaped p o >>= λ _. fresh p s name) (pairs-same parameters ∙ e)
    ∙ ap (λ b. demand p NameInUse (not b)) free
