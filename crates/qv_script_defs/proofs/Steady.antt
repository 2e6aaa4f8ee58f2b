-- States that keep what commands have made.
use Rattle.std.proofs.Common.{◌≡◌, ◌≢◌, ◌≤◌, ℕ, zero, suc, Bool, true, false, cond, Some, None, List, [], ◌∷◌, ◌++◌, map, length, take, drop, replicate, refl, sym, ap, subst, ◌∙◌, append_assoc, slice_get, arith}
use Rattle.std.proofs.lemmas.List.{append-nil}
use mathlib.Core.List.{reverse_aux}
use Rattle.std.specs.Prelude.{AllPairs, flat_map, reverse}
use Rattle.std.specs.List.{AllByRecursion}
use Rattle.std.proofs.lemmas.List.Elements.{All-from_recursion, recursion_from_All, All-get_or}
use Rattle.std.proofs.lemmas.Slice.Eq.{bytes_eq-Decides}
use Rattle.std.specs.Str.{bytes_eq}
use Rattle.qv_words.specs.declared.sort.Sort.{Sort}
use Rattle.qv_words.specs.declared.sort.Sort.TheVariants.{Bool as BoolSort}
use Rattle.qv_words.specs.Tree.{Tree, tree_sort}
use Rattle.qv_words.specs.Sorted.{constants_of as leaves_of}
use Rattle.qv_words.proofs.Leaves.{both}
use Rattle.qv_elab_defs.specs.Scopes.{Entry, Named, Scope, found, if_constant, constants_of}
use Rattle.qv_elab_defs.specs.TreeLaws.{IsScope, declares, defines, abbreviates, IsTreeOf}
use Rattle.qv_elab_defs.specs.TreeLaws.{empty as no_scope}
use Rattle.qv_script_defs.specs.State.{Assertion, Level, State, levels, scope_of, in_force, changed_at, in_front}
use Rattle.qv_script_defs.specs.State.{empty as empty_level}
use Rattle.qv_script_defs.specs.Moves.{level_limit}

-- a formula of a scope
abbrev pub IsFormula : Scope → Tree → Type 0
IsFormula scope t = IsTreeOf scope t × (tree_sort t ≡ Some BoolSort)

-- what was there stays there
there-longer : (xs ys : Named Sort) (i : ℕ) (s : Sort) → slice_get (map (λ x. x.1) xs) i ≡ Some s → slice_get (map (λ x. x.1) (xs ++ ys)) i ≡ Some s
there-longer [] ys i s e = absurd (cc)
there-longer (x ∷ xs) ys zero s e = e
there-longer (x ∷ xs) ys (suc i) s e = there-longer xs ys i s e

all-longer : (xs ys : Named Sort) (leaves : List (ℕ × Sort)) → AllByRecursion (λ leaf. slice_get (map (λ x. x.1) xs) leaf.0 ≡ Some leaf.1) leaves → AllByRecursion (λ leaf. slice_get (map (λ x. x.1) (xs ++ ys)) leaf.0 ≡ Some leaf.1) leaves
all-longer xs ys [] h = tt
all-longer xs ys (leaf ∷ leaves) h = (there-longer xs ys leaf.0 leaf.1 h.0, all-longer xs ys leaves h.1)

tree-later : (x : List ℕ × Entry) (scope : Scope) (t : Tree) → IsTreeOf scope t → IsTreeOf (x ∷ scope) t
tree-later x scope t h = record {
  sorted = h.sorted;
  sort = h.sort;
  closed = h.closed;
  shallow = h.shallow;
  constants = All-from_recursion (λ leaf. slice_get (map (λ y. y.1) (constants_of (x ∷ scope))) leaf.0 ≡ Some leaf.1) (leaves_of t)
      (all-longer (constants_of scope) (if_constant x.0 x.1) (leaves_of t) (recursion_from_All (λ leaf. slice_get (map (λ y. y.1) (constants_of scope)) leaf.0 ≡ Some leaf.1) (leaves_of t) h.constants));
}

pub formula-later : (x : List ℕ × Entry) (scope : Scope) (t : Tree) → IsFormula scope t → IsFormula (x ∷ scope) t
formula-later x scope t h = (tree-later x scope t h.0, h.1)

formula-after : (xs scope : Scope) (t : Tree) → IsFormula scope t → IsFormula (xs ++ scope) t
formula-after [] scope t h = h
formula-after (x ∷ xs) scope t h = formula-later x (xs ++ scope) t (formula-after xs scope t h)

-- the scope of levels, the innermost first
abbrev pub scope_of_levels : List Level → Scope
scope_of_levels ls = flat_map (λ level. level.scope) ls

-- the assertions of each level are formulas of it and those around it
abbrev pub AreAsserted : List Level → Type 0
AreAsserted [] = Unit {0}
AreAsserted (level ∷ outer) = AllByRecursion (λ a. IsFormula (scope_of_levels (level ∷ outer)) a.tree) level.assertions × AreAsserted outer

-- no name stands twice
abbrev pub AreApart : {A : Type 0} → Named A → Type 0
AreApart [] = Unit {0}
AreApart (x ∷ xs) = AllByRecursion (λ y. x.0 ≢ y.0) xs × AreApart xs

pub apart-pairs : {A : Type 0} (xs : Named A) → AreApart xs → AllPairs (λ x y. x.0 ≢ y.0) xs
apart-pairs [] h i j d lt le = absurd (omega (arith, le))
apart-pairs (x ∷ xs) h zero zero d lt le = absurd (omega (arith, lt))
apart-pairs (x ∷ xs) h zero (suc j) d lt le = All-get_or (λ y. x.0 ≢ y.0) xs j d (omega arith) (All-from_recursion (λ y. x.0 ≢ y.0) xs h.0)
apart-pairs (x ∷ xs) h (suc i) zero d lt le = absurd (omega (arith, lt))
apart-pairs (x ∷ xs) h (suc i) (suc j) d lt le = apart-pairs xs h.1 i j d (omega arith) (omega arith)

apart-behind : {A : Type 0} (xs ys : Named A) → AreApart (xs ++ ys) → AreApart ys
apart-behind [] ys h = h
apart-behind (x ∷ xs) ys h = apart-behind xs ys h.1

-- a name that isn't found is none of the names
pub none-of : {A : Type 0} (name : List ℕ) (xs : Named A) → found name xs ≡ None → AllByRecursion (λ x. name ≢ x.0) xs
none-of name [] e = tt
none-of {A} name (x ∷ xs) e = go (bytes_eq x.0 name) refl e (λ k. none-of name xs k)
  where
    go : (b : Bool) → bytes_eq x.0 name ≡ b → cond b (Some x.1) (found name xs) ≡ None → (found name xs ≡ None → AllByRecursion (λ y. name ≢ y.0) xs) → (name ≢ x.0) × AllByRecursion (λ y. name ≢ y.0) xs
    go true f k rest = absurd (cc)
    go false f k rest = ((λ same. let other : x.0 ≡ name → ⊥ = grind (arith, bytes_eq-Decides x.0 name) in other (sym same)), rest k)

scope-tail : (x : List ℕ × Entry) (xs : Scope) → IsScope (x ∷ xs) → IsScope xs
scope-tail _ _ (declares scope name s h l) = h
scope-tail _ _ (defines scope name parameters s body t h p w e) = h
scope-tail _ _ (abbreviates scope name s h l) = h

pub scope-behind : (xs ys : Scope) → IsScope (xs ++ ys) → IsScope ys
scope-behind [] ys h = h
scope-behind (x ∷ xs) ys h = scope-behind xs ys (scope-tail x (xs ++ ys) h)

-- levels of a state
pub record AreSteady (ls : List Level) : Type 0 where
  pub scope : IsScope (scope_of_levels ls)
  pub names : AreApart (scope_of_levels ls)
  pub asserted : AreAsserted ls

-- a state
pub record IsSteady (s : State) : Type 0 where
  pub levels : AreSteady (levels s)
  pub few : length s.opened ≤ level_limit

steady-behind : (level : Level) (ls : List Level) → AreSteady (level ∷ ls) → AreSteady ls
steady-behind level ls h = record {
  scope = scope-behind level.scope (scope_of_levels ls) h.scope;
  names = apart-behind level.scope (scope_of_levels ls) h.names;
  asserted = h.asserted.1;
}

pub steady-dropped : (n : ℕ) (opened ls : List Level) → AreSteady (opened ++ ls) → AreSteady (drop n opened ++ ls)
steady-dropped zero opened ls h = h
steady-dropped (suc n) [] ls h = h
steady-dropped (suc n) (level ∷ opened) ls h = steady-dropped n opened ls (steady-behind level (opened ++ ls) h)

pub steady-pushed : (n : ℕ) (ls : List Level) → AreSteady ls → AreSteady (replicate n empty_level ++ ls)
steady-pushed zero ls h = h
steady-pushed (suc n) ls h =
    let more = steady-pushed n ls h in
    record { scope = more.scope; names = more.names; asserted = (tt, more.asserted) }

-- a change of the innermost level
abbrev pub on_first : (Level → Level) → List Level → List Level
on_first change [] = []
on_first change (level ∷ outer) = change level ∷ outer

pub levels-changed : (change : Level → Level) (s : State) → levels (changed_at change s s.opened) ≡ on_first change (levels s)
levels-changed change s = go s.opened refl
  where
    go : (o : List Level) → s.opened ≡ o → levels (changed_at change s o) ≡ on_first change (s.opened ++ s.bottom ∷ [])
    go [] e = ap (λ os. os ++ change s.bottom ∷ []) e ∙ ap (λ os. on_first change (os ++ s.bottom ∷ [])) (sym e)
    go (level ∷ outer) e = ap (λ os. on_first change (os ++ s.bottom ∷ [])) (sym e)

pub length-changed : (change : Level → Level) (s : State) → length (changed_at change s s.opened).opened ≡ length s.opened
length-changed change s = go s.opened refl
  where
    go : (o : List Level) → s.opened ≡ o → length (changed_at change s o).opened ≡ length s.opened
    go [] e = refl
    go (level ∷ outer) e = ap length (sym e)

pub steady-changed : (change : Level → Level) (s : State) → ((ls : List Level) → AreSteady ls → ls ≡ levels s → AreSteady (on_first change ls)) → IsSteady s → IsSteady (changed_at change s s.opened)
steady-changed change s keeps h = record {
  levels = subst AreSteady (sym (levels-changed change s)) (keeps (levels s) h.levels refl);
  few = let e = length-changed change s in let few = h.few in omega arith;
}

all-later : (x : List ℕ × Entry) (scope : Scope) (list : List Assertion) → AllByRecursion (λ a. IsFormula scope a.tree) list → AllByRecursion (λ a. IsFormula (x ∷ scope) a.tree) list
all-later x scope [] h = tt
all-later x scope (a ∷ list) h = (formula-later x scope a.tree h.0, all-later x scope list h.1)

-- one more entry, and one more assertion
pub steady-entry : (x : List ℕ × Entry) (ls : List Level) → AreSteady ls → IsScope (x ∷ scope_of_levels ls) → AllByRecursion (λ y. x.0 ≢ y.0) (scope_of_levels ls) → AreSteady (on_first (λ level. record level { scope = x ∷ level.scope }) ls)
steady-entry x [] h sc apart = h
steady-entry x (level ∷ outer) h sc apart = record {
  scope = sc;
  names = (apart, h.names);
  asserted = (all-later x (scope_of_levels (level ∷ outer)) level.assertions h.asserted.0, h.asserted.1);
}

pub steady-assertion : (a : Assertion) (ls : List Level) → AreSteady ls → IsFormula (scope_of_levels ls) a.tree → AreSteady (on_first (λ level. record level { assertions = level.assertions ++ a ∷ [] }) ls)
steady-assertion a [] h f = h
steady-assertion a (level ∷ outer) h f = record {
  scope = h.scope;
  names = h.names;
  asserted = (both (λ b. IsFormula (scope_of_levels (level ∷ outer)) b.tree) level.assertions (a ∷ []) h.asserted.0 (f, tt), h.asserted.1);
}

-- the formulas in force
formulas-of : (scope : Scope) (list : List Assertion) → AllByRecursion (λ a. IsFormula scope a.tree) list → AllByRecursion (IsFormula scope) (map (λ a. a.tree) list)
formulas-of scope [] h = tt
formulas-of scope (a ∷ list) h = (h.0, formulas-of scope list h.1)

each-after : (xs scope : Scope) (list : List Assertion) → AllByRecursion (λ a. IsFormula scope a.tree) list → AllByRecursion (λ a. IsFormula (xs ++ scope) a.tree) list
each-after xs scope [] h = tt
each-after xs scope (a ∷ list) h = (formula-after xs scope a.tree h.0, each-after xs scope list h.1)

abbrev Fine : Scope → Level → Type 0
Fine scope level = AllByRecursion (λ a. IsFormula scope a.tree) level.assertions

fine-after : (xs scope : Scope) (ls : List Level) → AllByRecursion (Fine scope) ls → AllByRecursion (Fine (xs ++ scope)) ls
fine-after xs scope [] h = tt
fine-after xs scope (level ∷ ls) h = (each-after xs scope level.assertions h.0, fine-after xs scope ls h.1)

fine-levels : (ls : List Level) → AreAsserted ls → AllByRecursion (Fine (scope_of_levels ls)) ls
fine-levels [] h = tt
fine-levels (level ∷ outer) h = (h.0, fine-after level.scope (scope_of_levels outer) outer (fine-levels outer h.1))

fine-flat : (scope : Scope) (ls : List Level) → AllByRecursion (Fine scope) ls → AllByRecursion (λ a. IsFormula scope a.tree) (flat_map (λ level. level.assertions) ls)
fine-flat scope [] h = tt
fine-flat scope (level ∷ ls) h = both (λ a. IsFormula scope a.tree) level.assertions (flat_map (λ level. level.assertions) ls) h.0 (fine-flat scope ls h.1)

-- in the other order
all-onto : {X : Type 0} (P : X → Type 0) (xs ys : List X) → AllByRecursion P xs → AllByRecursion P ys → AllByRecursion P (reverse_aux xs ys)
all-onto P [] ys h k = k
all-onto P (x ∷ xs) ys h k = all-onto P xs (x ∷ ys) h.1 (h.0, k)

all-reversed : {X : Type 0} (P : X → Type 0) (xs : List X) → AllByRecursion P xs → AllByRecursion P (reverse xs)
all-reversed P xs h = all-onto P xs [] h tt

pub steady-formulas : (s : State) → IsSteady s → AllByRecursion (IsFormula (scope_of s)) (in_force s)
steady-formulas s h =
    formulas-of (scope_of s) (flat_map (λ level. level.assertions) (reverse (levels s)))
    (fine-flat (scope_of s) (reverse (levels s)) (all-reversed (Fine (scope_of s)) (levels s) (fine-levels (levels s) h.levels.asserted)))

-- what levels leave that go, in front of the innermost one that stays
pub scopes-split : (n : ℕ) (opened ls : List Level) → scope_of_levels (opened ++ ls) ≡ scope_of_levels (take n opened) ++ scope_of_levels (drop n opened ++ ls)
scopes-split zero opened ls = refl
scopes-split (suc n) [] ls = refl
scopes-split (suc n) (level ∷ opened) ls =
    ap (λ xs. level.scope ++ xs) (scopes-split n opened ls)
    ∙ sym (append_assoc level.scope (scope_of_levels (take n opened)) (scope_of_levels (drop n opened ++ ls)))

pub steady-in_front : (front : Scope) (ls : List Level) → IsScope (front ++ scope_of_levels ls) → AreApart (front ++ scope_of_levels ls) → AreAsserted ls → AreSteady (on_first (in_front front) ls)
steady-in_front front [] sc apart h = record { scope = no_scope; names = tt; asserted = tt }
steady-in_front front (level ∷ outer) sc apart h =
    let same : (front ++ level.scope) ++ scope_of_levels outer ≡ front ++ scope_of_levels (level ∷ outer) = append_assoc front level.scope (scope_of_levels outer) in
    record {
      scope = subst IsScope (sym same) sc;
      names = subst (λ (xs : Scope). AreApart xs) (sym same) apart;
      asserted = (subst (λ (xs : Scope). AllByRecursion (λ a. IsFormula xs a.tree) level.assertions) (sym same) (each-after front (scope_of_levels (level ∷ outer)) level.assertions h.0), h.1);
    }

-- a level that has no assertions
pub steady-bare : (scope : Scope) → IsScope scope → AreApart scope → AreSteady (record { assertions = []; scope = scope } ∷ [])
steady-bare scope sc apart = record {
  scope = subst IsScope (sym (append-nil scope)) sc;
  names = subst (λ (xs : Scope). AreApart xs) (sym (append-nil scope)) apart;
  asserted = (tt, tt);
}
