-- Formulas that are read.
use Rattle.std.proofs.Common.{◌≡◌, Bool, false, true, cond, not, Option, None, Some, Ok, Err, refl, sym, ap, subst, ◌∙◌, ℕ, List, []}
use Rattle.std.specs.Prelude.{Result, IsOk, unwrap_or}
use Rattle.qv_words.specs.declared.sort.Sort.{Sort}
use Rattle.qv_words.specs.declared.sort.Sort.TheVariants.{Bool as BoolSort}
use Rattle.qv_words.specs.Rank.{sort_eq}
use Rattle.qv_words.specs.Tree.{Tree, tree_sort}
use Rattle.qv_words.proofs.Equals.{sort_eq-is}
use Rattle.qv_store.specs.Nodes.{tree_at}
use Rattle.qv_store.specs.Stores.{StandsAt}
use Rattle.qv_elab_defs.specs.declared.faults.ElabFault.{ElabFault}
use Rattle.qv_elab_defs.specs.declared.faults.ElabFault.TheVariants as elab
use Rattle.qv_elab_defs.specs.declared.faults.ElabKind.TheVariants as kinds
use Rattle.qv_elab_defs.specs.Answers.{Answers}
use Rattle.qv_elab_defs.specs.Applying.{sort_of}
use Rattle.qv_elab_defs.specs.Elaborating.{of_sort}
use Rattle.qv_elab_defs.specs.Defining.{elaborate, definition}
use Rattle.qv_elab_defs.specs.Tokens.{place_of}
use Rattle.qv_elab_defs.specs.Written.{HasTokens}
use Rattle.qv_elab_defs.specs.Scopes.{Scope, outermost}
use Rattle.qv_elab_defs.specs.Beginnings.{Begins, beginning}
use Rattle.qv_elab_defs.proofs.Beginning.{made-begins, ok-is}
use Rattle.qv_elab_scope.proofs.Defined.{reading-alone}
use Rattle.qv_elab_defs.specs.Faults.{Fault as TermFault, ◌>>=◌}
use Rattle.qv_elab_defs.specs.Faults.{refuse as refuse_term}
use Rattle.qv_script_defs.specs.declared.faults.ScriptFault.{ScriptFault}
use Rattle.qv_script_defs.specs.declared.faults.ScriptFault.TheVariants.{At, NoMemory}
use Rattle.qv_script_defs.specs.declared.faults.ScriptKind.TheVariants.{Sorts, NameInUse}
use Rattle.qv_script_defs.specs.Faults.{Fault, refuse, demand, inside}
use Rattle.qv_sexpr.specs.Script.{Tree as Written}
use Rattle.qv_script_defs.specs.declared.effects.Effect.TheVariants as done
use Rattle.qv_script_defs.specs.State.{State, scope_of, is_taken, with_entry, with_assertion}
use Rattle.qv_script_defs.specs.Moves.{Move, Quiet, fresh, assert, assert_named}
use Rattle.qv_script_stack.specs.Held.{Held, IsScriptIn}
use Rattle.qv_script_stack.specs.Changes.{IsNamed, with_named}
use Rattle.qv_script_stack.specs.Changes.{with_assertion as assertion_held}
use Rattle.qv_script_stack.specs.Steps.{Gives, RunsOut}
use Rattle.qv_script_defs.specs.Faults.{fault_of}
use Rattle.qv_script_terms.specs.Told.{formula_of, TellsTree}
use Rattle.qv_script_stack.proofs.Asserting.{held-assertion, held-named, no-parameters}

module _ (trees : List Tree) (given : Result Tree TermFault) (place : ℕ) where
  -- the first fault
  pub formula-faulty : (f : ElabFault) (r : Result ℕ ScriptFault) → Answers trees given (Err f) → r ≡ Err (fault_of f) → TellsTree trees (inside (given >>= of_sort BoolSort place)) r
  formula-faulty f r h e = subst (λ (x : Result ℕ ScriptFault). TellsTree trees (inside (given >>= of_sort BoolSort place)) x) (sym e) (go f h)
    where
      go : (g : ElabFault) → Answers trees given (Err g) → TellsTree trees (inside (given >>= of_sort BoolSort place)) (Err (fault_of g))
      go elab.NoMemory k = tt
      go (elab.At p kind) k = ap (λ (q : Result Tree TermFault). inside (q >>= of_sort BoolSort place)) k

  -- a term, by its sort
  formula-by : (id : ℕ) (u : Sort) (a : Answers trees given (Ok id)) → tree_sort (tree_at trees id) ≡ Some u → inside (given >>= of_sort BoolSort place) ≡ inside (cond (sort_eq BoolSort u) (Ok a.0) (refuse_term place kinds.Sorts))
  formula-by id u a sort =
      let same : sort_of a.0 ≡ u = ap (λ (o : Option Sort). unwrap_or o BoolSort) (ap tree_sort (sym a.2.tree) ∙ sort) in
      ap (λ (r : Result Tree TermFault). inside (r >>= of_sort BoolSort place)) a.1
      ∙ ap (λ (v : Sort). inside (cond (sort_eq BoolSort v) (Ok a.0) (refuse_term place kinds.Sorts))) same

  pub formula-other : (id : ℕ) (u : Sort) (r : ScriptFault) → Answers trees given (Ok id) → tree_sort (tree_at trees id) ≡ Some u → sort_eq BoolSort u ≡ false → r ≡ At place Sorts → TellsTree trees (inside (given >>= of_sort BoolSort place)) (Err r)
  formula-other id u r a sort ne e =
      subst (λ (x : ScriptFault). TellsTree trees (inside (given >>= of_sort BoolSort place)) (Err x)) (sym e)
      (formula-by id u a sort ∙ ap (λ b. inside (cond b (Ok a.0) (refuse_term place kinds.Sorts))) ne)

  pub formula-told : (id : ℕ) (u : Sort) → Answers trees given (Ok id) → tree_sort (tree_at trees id) ≡ Some u → sort_eq BoolSort u ≡ true → TellsTree trees (inside (given >>= of_sort BoolSort place)) (Ok id)
  formula-told id u a sort same =
      (a.0, formula-by id u a sort ∙ ap (λ b. inside (cond b (Ok a.0) (refuse_term place kinds.Sorts))) same, a.2)

-- an assertion without a name, by what is told of its formula
abbrev asserted_next : State → Tree → Move
asserted_next s t = Ok (with_assertion (record { tree = t; name = None }) s, Quiet)

pub assert-faulty : (trees : List Tree) (held : Held) (s : State) (place : ℕ) (e : Written) (f : ScriptFault) → TellsTree trees (formula_of (scope_of s) e e) (Err f) → Gives trees held (assert place s e None e) (Err f)
assert-faulty trees held s place e NoMemory h = tt
assert-faulty trees held s place e (At p kind) h = ap (λ (q : Result Tree Fault). q >>= asserted_next s) h

pub assert-done : (trees : List Tree) (old new : Held) (s : State) (place : ℕ) (e : Written) (id : ℕ) → new ≡ assertion_held id old → TellsTree trees (formula_of (scope_of s) e e) (Ok id) → IsScriptIn trees old s → Gives trees new (assert place s e None e) (Ok done.Quiet)
assert-done trees old new s place e id same h kept = (
  with_assertion (record { tree = h.0; name = None }) s,
  Quiet,
  ap (λ (q : Result Tree Fault). q >>= asserted_next s) h.1,
  subst (λ (k : Held). IsScriptIn trees k (with_assertion (record { tree = h.0; name = None }) s)) (sym same) (held-assertion trees old s id h.0 h.2 kept),
  refl,
)

-- an assertion with a name
abbrev named_next : State → Written → List ℕ → Tree → Move
named_next s e name t = Ok (with_entry name (definition (scope_of s) [] e) (with_assertion (record { tree = t; name = Some name }) s), Quiet)

pub named-taken : (p : ℕ) (s : State) (w e : Written) (name : List ℕ) → is_taken s name ≡ true → assert_named p s w e name ≡ refuse p NameInUse
named-taken p s w e name t = ap (λ b. demand p NameInUse (not b) >>= λ _. formula_of (scope_of s) e w >>= named_next s e name) t

named-fresh : (p : ℕ) (s : State) (w e : Written) (name : List ℕ) → is_taken s name ≡ false → assert_named p s w e name ≡ (formula_of (scope_of s) e w >>= named_next s e name)
named-fresh p s w e name t = ap (λ b. demand p NameInUse (not b) >>= λ _. formula_of (scope_of s) e w >>= named_next s e name) t

pub named-faulty : (trees : List Tree) (held : Held) (s : State) (p : ℕ) (w e : Written) (name : List ℕ) (f : ScriptFault) → is_taken s name ≡ false → TellsTree trees (formula_of (scope_of s) e w) (Err f) → Gives trees held (assert_named p s w e name) (Err f)
named-faulty trees held s p w e name NoMemory t h = tt
named-faulty trees held s p w e name (At q kind) t h = named-fresh p s w e name t ∙ ap (λ (r : Result Tree Fault). r >>= named_next s e name) h

-- a formula is a term of sort Bool
formula-read : (r : Result Tree TermFault) (p : ℕ) (t : Tree) → inside (r >>= of_sort BoolSort p) ≡ Ok t → (r ≡ Ok t) × (sort_of t ≡ BoolSort)
formula-read (Err f) p t e = absurd (cc)
formula-read (Ok a) p t e = go (sort_eq BoolSort (sort_of a)) refl e
  where
    go : (b : Bool) → sort_eq BoolSort (sort_of a) ≡ b → inside (cond b (Ok a) (refuse_term p kinds.Sorts)) ≡ Ok t → (◌≡◌ {A = Result Tree TermFault} (Ok a) (Ok t)) × (sort_of t ≡ BoolSort)
    go true f k = let same : a ≡ t = cc in (ap Ok same, ap sort_of (sym same) ∙ sym (sort_eq-is BoolSort (sort_of a) f))
    go false f k = absurd (cc)

pub named-done : (trees : List Tree) (old new : Held) (s : State) (p : ℕ) (w e : Written) (name : List ℕ) (id : ℕ) → HasTokens e → is_taken s name ≡ false → IsNamed id name old new → TellsTree trees (formula_of (scope_of s) e w) (Ok id) → IsScriptIn trees old s → Gives trees new (assert_named p s w e name) (Ok done.Quiet)
named-done trees old new s p w e name id tokens t n h kept =
    let read = formula-read (elaborate (scope_of s) e) (place_of w) h.0 h.1 in
    let there : StandsAt trees n.body.id h.0 = subst (λ i. StandsAt trees i h.0) (sym n.id_is) h.2 in
    let reading = reading-alone trees (scope_of s) BoolSort e h.0 n.body kept.scope.is_scope tokens no-parameters read.0 read.1 there n.no_depths in
    let now : State = with_entry name (definition (scope_of s) [] e) (with_assertion (record { tree = h.0; name = Some name }) s) in
    let held = held-named trees old s n.own n.sorts n.body e h.0 n.number there n.no_sorts tokens reading kept in (
      now,
      Quiet,
      named-fresh p s w e name t ∙ ap (λ (r : Result Tree Fault). r >>= named_next s e name) h.1,
      subst (λ (k : Held). IsScriptIn trees k now) (sym n.held)
          (subst (λ x. IsScriptIn trees (with_named n.own n.sorts n.body old) (with_entry x (definition (scope_of s) [] e) (with_assertion (record { tree = h.0; name = Some x }) s))) n.name_is held),
      refl,
    )

-- what is looked at first of the term of a formula
pub inside-ok : {A : Type 0} (r : Result A TermFault) → IsOk r → IsOk (inside r)
inside-ok (Ok x) h = refl
inside-ok (Err f) h = absurd (cc)

pub formula-begins : (trees : List Tree) (scope : Scope) (e w : Written) (id : ℕ) → TellsTree trees (formula_of scope e w) (Ok id) → IsOk (inside (beginning e (outermost scope)))
formula-begins trees scope e w id h =
    let read = formula-read (elaborate scope e) (place_of w) h.0 h.1 in
    inside-ok (beginning e (outermost scope)) (made-begins e (outermost scope) (ok-is (elaborate scope e) h.0 read.0))

pub begins-runs : {A B C : Type 0} (first : Result A TermFault) (r : Result B ElabFault) (fault : ElabFault) (left : ScriptFault) (exit : Result C ScriptFault) → Begins first r → r ≡ Err fault → exit ≡ Err left → left ≡ fault_of fault → RunsOut (inside first) exit
begins-runs {A} {B} {C} first r fault left exit h e f g =
    subst (λ (x : Result C ScriptFault). RunsOut (inside first) x) (sym (f ∙ ap Err g)) (go fault (subst (λ (x : Result B ElabFault). Begins first x) e h))
  where
    go : (fault : ElabFault) → Begins {A = A} {B = B} first (Err fault) → RunsOut {A = A} {B = C} {F = Fault} (inside first) (Err (fault_of fault))
    go (elab.At p kind) k = tt
    go elab.NoMemory k = inside-ok first k

-- a name that is free
pub is-fresh : (p : ℕ) (s : State) (name : List ℕ) → is_taken s name ≡ false → fresh p s name ≡ Ok tt
is-fresh p s name e = ap (λ b. demand p NameInUse (not b)) e
