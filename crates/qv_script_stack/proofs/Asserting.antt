-- What is held behind assertions and definitions.
use Rattle.std.proofs.Common.{◌≡◌, ◌+◌, ℕ, suc, true, Some, None, List, [], ◌∷◌, ◌++◌, map, length, refl, sym, ap, subst, ◌∙◌, append_assoc, arith}
use Rattle.std.proofs.lemmas.List.{append-nil, map-append}
use Rattle.std.proofs.lemmas.List.Elements.{All-from_recursion}
use Rattle.qv_words.specs.Tree.{Tree}
use Rattle.qv_store.specs.Stores.{StandsAt, Grows}
use Rattle.std.specs.Prelude.{Vec}
use Rattle.std.specs.declared.alloc.Global.{Global}
use Rattle.qv_sexpr.specs.Script.{Tree as Written}
use Rattle.qv_words.specs.declared.sort.Sort.{Sort}
use Rattle.qv_words.specs.Sort.{IsLawful}
use Rattle.qv_words.specs.declared.sort.Sort.TheVariants.{Bool as BoolSort}
use Rattle.qv_elab_macros.specs.declared.body.Body.{Body}
use Rattle.qv_elab_scope.specs.declared.scope.Kept.{Kept}
use Rattle.qv_elab_scope.specs.declared.scope.Kept.TheVariants as kept
use Rattle.qv_elab_defs.specs.Written.{HasTokens}
use Rattle.qv_elab_defs.specs.Defining.{definition}
use Rattle.qv_elab_defs.specs.TreeLaws.{AreParameters}
use Rattle.qv_elab_macros.specs.Readings.{IsReading}
use Rattle.qv_elab_scope.proofs.Defined.{scope-defined, definition-kept, sorts-are-kept}
use Rattle.qv_script_stack.specs.declared.held.Level.{Level as Start}
use Rattle.qv_script_stack.specs.Changes.{with_named, with_sort}
use Rattle.qv_script_stack.specs.HeldLaws.{SortsAreHeld}
use Rattle.qv_script_stack.proofs.Holding.{size-held}
use Rattle.qv_elab_scope.specs.Force.{with_name}
use Rattle.qv_elab_defs.specs.Scopes.{Entry, Synonym, sort_key, if_constant, constants_of}
use Rattle.qv_elab_scope.specs.Kept.{IsScopeIn}
use Rattle.qv_elab_scope.proofs.Growing.{stands-grows, scope-grows}
use Rattle.qv_script_stack.specs.declared.held.Named.{Named as NamedAssertion}
use Rattle.qv_script_defs.specs.State.{Assertion, Level, State, levels, scope_of, in_force, with_assertion, with_entry}
use Rattle.qv_script_stack.specs.Held.{Held, AreAt, asserted, scope_within, name_at, names_from, named_of, IsScriptIn}
use Rattle.qv_script_stack.specs.Changes.{with_assertion as assertion_held}
use Rattle.qv_script_defs.proofs.Steady.{on_first, levels-changed}
use Rattle.qv_script_stack.proofs.Sized.{in-force, with_front, front-scope, front-asserted, changed-names, changed-sizes, changed-logic, changed-nested, changed-success, changed-global, changed-options, changed-counts, changed-last, changed-assumed, changed-terms}
use Rattle.qv_script_defs.proofs.Commanding.{scope-kept}

-- an assertion more in the innermost level
abbrev pub with_last : Assertion → Level → Level
with_last a level = record level { assertions = level.assertions ++ a ∷ [] }

last-asserted : (a : Assertion) (o : List Level) (b : Level) → asserted (on_first (with_last a) (o ++ b ∷ [])) ≡ asserted (o ++ b ∷ []) ++ a ∷ []
last-asserted a [] b = refl
last-asserted a (l ∷ o) b = sym (append_assoc (asserted (o ++ b ∷ [])) l.assertions (a ∷ []))

names-append : (n : ℕ) (xs : List Assertion) (a : Assertion) → names_from n (xs ++ a ∷ []) ≡ names_from n xs ++ name_at (n + length xs) a.name
names-append n [] a = let none : n ≡ n + 0 = omega arith in append-nil (name_at n a.name) ∙ ap (λ m. name_at m a.name) none
names-append n (x ∷ xs) a =
    let more : suc n + length xs ≡ n + length (x ∷ xs) = omega arith in
    ap (λ q. name_at n x.name ++ q) (names-append (suc n) xs a)
    ∙ sym (append_assoc (name_at n x.name) (names_from (suc n) xs) (name_at (suc n + length xs) a.name))
    ∙ ap (λ m. (name_at n x.name ++ names_from (suc n) xs) ++ name_at m a.name) more

-- no parameters
pub no-parameters : AreParameters []
no-parameters = (All-from_recursion (λ (x : List ℕ × Sort). IsLawful x.1) [] tt, λ i j d lt le. absurd (omega (arith, le)))

module _ (trees : List Tree) where
  at-last : (ns : List ℕ) (ts : List Tree) (n : ℕ) (t : Tree) → StandsAt trees n t → AreAt trees ns ts → AreAt trees (ns ++ n ∷ []) (ts ++ t ∷ [])
  at-last [] [] n t there h = (there, tt)
  at-last [] (u ∷ ts) n t there h = absurd h
  at-last (m ∷ ns) [] n t there h = absurd h
  at-last (m ∷ ns) (u ∷ ts) n t there h = (h.0, at-last ns ts n t there h.1)

  -- an assertion more, with the names of assertions behind it
  pub held-asserted : (k : Held) (s : State) (id : ℕ) (a : Assertion) (named : List NamedAssertion) → StandsAt trees id a.tree → named_of named ≡ named_of k.named ++ name_at (length (asserted (levels s))) a.name → IsScriptIn trees k s → IsScriptIn trees (record (assertion_held id k) { named = named }) (with_assertion a s)
  held-asserted k s id a named there names h =
      let from_zero : 0 + length (asserted (levels s)) ≡ length (asserted (levels s)) = omega arith in
      let asserted_is : asserted (levels (with_assertion a s)) ≡ asserted (levels s) ++ a ∷ [] = ap asserted (levels-changed (with_last a) s) ∙ last-asserted a s.opened s.bottom in
      let forced : in_force (with_assertion a s) ≡ in_force s ++ a.tree ∷ [] =
      in-force (with_assertion a s) ∙ ap (λ qs. map (λ (q : Assertion). q.tree) qs) asserted_is
      ∙ map-append (λ (q : Assertion). q.tree) (asserted (levels s)) (a ∷ []) ∙ ap (λ ts. ts ++ a.tree ∷ []) (sym (in-force s)) in
      record {
        scope = subst (λ xs. IsScopeIn trees k.force xs) (sym (scope-kept a s)) h.scope;
        names = h.names ∙ sym (changed-names (with_last a) s s.opened refl);
        starts = h.starts ∙ sym (changed-sizes (with_last a) s s.opened refl);
        assertions = subst (λ ts. AreAt trees (k.assertions ++ id ∷ []) ts) (sym forced) (at-last k.assertions (in_force s) id a.tree there h.assertions);
        named = names ∙ ap (λ q. q ++ name_at (length (asserted (levels s))) a.name) h.named
            ∙ sym (ap (λ qs. names_from 0 qs) asserted_is ∙ names-append 0 (asserted (levels s)) a ∙ ap (λ m. names_from 0 (asserted (levels s)) ++ name_at m a.name) from_zero);
        constants = h.constants ∙ ap constants_of (sym (scope-kept a s));
        logic = h.logic ∙ sym (changed-logic (with_last a) s s.opened);
        begun = refl;
        nested = h.nested ∙ sym (changed-nested (with_last a) s s.opened);
        success = h.success ∙ sym (changed-success (with_last a) s s.opened);
        global = h.global ∙ sym (changed-global (with_last a) s s.opened);
        options = h.options ∙ sym (changed-options (with_last a) s s.opened);
        counts = h.counts ∙ sym (changed-counts (with_last a) s s.opened);
        last = refl;
        values = tt;
        assumed = tt;
        terms = refl;
        texts = tt;
      }

  pub held-assertion : (k : Held) (s : State) (id : ℕ) (t : Tree) → StandsAt trees id t → IsScriptIn trees k s → IsScriptIn trees (assertion_held id k) (with_assertion (record { tree = t; name = None }) s)
  held-assertion k s id t there h = held-asserted k s id (record { tree = t; name = None }) k.named there (sym (append-nil (named_of k.named))) h

  -- a definition more
  pub held-definition : (k : Held) (s : State) (name : List ℕ) (what : Kept) (entry : Entry) → IsScopeIn trees (with_name name what k.force) ((name, entry) ∷ scope_of s) → if_constant name entry ≡ [] → IsScriptIn trees k s → IsScriptIn trees (record k { force = with_name name what k.force; begun = true }) (with_entry name entry s)
  held-definition k s name what entry kept none h =
      let x : List ℕ × Entry = (name, entry) in
      let ls = levels-changed (with_front x) s in
      let scope_is : scope_of (with_entry name entry s) ≡ x ∷ scope_of s = ap scope_within ls ∙ front-scope x s.opened s.bottom in
      let asserted_is : asserted (levels (with_entry name entry s)) ≡ asserted (levels s) = ap asserted ls ∙ front-asserted x s.opened s.bottom in
      let forced : in_force (with_entry name entry s) ≡ in_force s = in-force (with_entry name entry s) ∙ ap (λ qs. map (λ (q : Assertion). q.tree) qs) asserted_is ∙ sym (in-force s) in
      record {
        scope = subst (λ xs. IsScopeIn trees (with_name name what k.force) xs) (sym scope_is) kept;
        names = h.names ∙ sym (changed-names (with_front x) s s.opened refl);
        starts = h.starts ∙ sym (changed-sizes (with_front x) s s.opened refl);
        assertions = subst (λ ts. AreAt trees k.assertions ts) (sym forced) h.assertions;
        named = h.named ∙ ap (λ qs. names_from 0 qs) (sym asserted_is);
        constants = h.constants ∙ sym (append-nil (constants_of (scope_of s))) ∙ ap (λ q. constants_of (scope_of s) ++ q) (sym none) ∙ ap constants_of (sym scope_is);
        logic = h.logic ∙ sym (changed-logic (with_front x) s s.opened);
        begun = refl;
        nested = h.nested ∙ sym (changed-nested (with_front x) s s.opened);
        success = h.success ∙ sym (changed-success (with_front x) s s.opened);
        global = h.global ∙ sym (changed-global (with_front x) s s.opened);
        options = h.options ∙ sym (changed-options (with_front x) s s.opened);
        counts = h.counts ∙ sym (changed-counts (with_front x) s s.opened);
        last = h.last ∙ sym (changed-last (with_front x) s s.opened);
        values = h.values;
        assumed = subst (λ ts. AreAt trees k.assumed ts) (sym (changed-assumed (with_front x) s s.opened)) h.assumed;
        terms = h.terms ∙ sym (changed-terms (with_front x) s s.opened);
        texts = h.texts;
      }

  -- a sort more
  pub held-synonym : (k : Held) (s : State) (name : List ℕ) (sort : Sort) → IsLawful sort → IsScriptIn trees k s → IsScriptIn trees (with_sort name sort k) (with_entry (sort_key name) (Synonym sort) s)
  held-synonym k s name sort lawful h = held-definition k s (sort_key name) (kept.Synonym sort) (Synonym sort) (sorts-are-kept trees k.force (scope_of s) name sort h.scope lawful) refl h

  -- an assertion more, with a name
  pub held-named : (k : Held) (s : State) (own : NamedAssertion) (sorts : Vec Sort Global) (body : Body) (term : Written) (t : Tree) →
      own.assertion ≡ length k.assertions → StandsAt trees body.id t → sorts.items ≡ [] → HasTokens term → IsReading trees (scope_of s) [] BoolSort term body → IsScriptIn trees k s →
      IsScriptIn trees (with_named own sorts body k) (with_entry own.name.items (definition (scope_of s) [] term) (with_assertion (record { tree = t; name = Some own.name.items }) s))
  held-named k s own sorts body term t number there none tokens reading h =
      let name = own.name.items in
      let a : Assertion = record { tree = t; name = Some name } in
      let d = definition (scope_of s) [] term in
      let what : Kept = kept.Definition sorts body in
      let counted : own.assertion ≡ length (asserted (levels s)) = number ∙ ap (λ (n : Start). n.assertions) (size-held trees k s h) in
      let names : named_of (k.named ++ own ∷ []) ≡ named_of k.named ++ name_at (length (asserted (levels s))) (Some name) =
      map-append (λ (x : NamedAssertion). (x.name.items, x.assertion)) k.named (own ∷ []) ∙ ap (λ n. named_of k.named ++ (name, n) ∷ []) counted in
      let one = held-asserted k s body.id a (k.named ++ own ∷ []) there names h in
      let defined = scope-defined trees k.force (scope_of s) name [] BoolSort term body what h.scope no-parameters tokens reading (definition-kept trees (scope_of s) [] BoolSort term sorts.items body no-parameters tokens reading none) in
      held-definition (record (assertion_held body.id k) { named = k.named ++ own ∷ [] }) (with_assertion a s) name what d
      (subst (λ xs. IsScopeIn trees (with_name name what k.force) ((name, d) ∷ xs)) (sym (scope-kept a s)) defined) refl one

-- what is held in a store that grows
module _ (old new : List Tree) (g : Grows old new) where
  at-grows : (ns : List ℕ) (ts : List Tree) → AreAt old ns ts → AreAt new ns ts
  at-grows [] [] h = tt
  at-grows [] (t ∷ ts) h = absurd h
  at-grows (n ∷ ns) [] h = absurd h
  at-grows (n ∷ ns) (t ∷ ts) h = (stands-grows old new g n t h.0, at-grows ns ts h.1)

  pub script-grows : (k : Held) (s : State) → IsScriptIn old k s → IsScriptIn new k s
  script-grows k s h = record {
    scope = scope-grows old new g k.force (scope_of s) h.scope;
    names = h.names;
    starts = h.starts;
    assertions = at-grows k.assertions (in_force s) h.assertions;
    named = h.named;
    constants = h.constants;
    logic = h.logic;
    begun = h.begun;
    nested = h.nested;
    success = h.success;
    global = h.global;
    options = h.options;
    counts = h.counts;
    last = h.last;
    values = h.values;
    assumed = at-grows k.assumed s.assumed h.assumed;
    terms = h.terms;
    texts = h.texts;
  }

pub held-sort : SortsAreHeld
held-sort trees k s name sort lawful h = held-synonym trees k s name sort lawful h
