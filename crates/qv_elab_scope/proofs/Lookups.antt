-- What is found in a scope, and what is kept for it.
use Rattle.std.proofs.Common.{◌≡◌, ◌<◌, ℕ, zero, suc, ◌⊎◌, inl, inr, Bool, true, false, cond, Option, Some, None, List, [], ◌∷◌, ◌++◌, length, reverse, slice_get, refl, sym, ap, subst, ◌∙◌, arith}
use Rattle.std.specs.Prelude.{option_and_then}
use Rattle.std.specs.Str.{bytes_eq}
use Rattle.std.proofs.lemmas.List.{reverse-append, reverse-reverse, length-reverse}
use Rattle.qv_sexpr.proofs.Standing.{get_front, get_last}
use Rattle.qv_words.specs.Tree.{Tree}
use Rattle.qv_elab_scope.specs.declared.scope.Kept.{Kept}
use Rattle.qv_elab_items.specs.Places.{place_in}
use Rattle.qv_elab_scope.specs.Force.{Force, stands_for}
use Rattle.qv_elab_defs.specs.Scopes.{Entry, Scope, found}
use Rattle.qv_elab_defs.specs.TreeLaws.{IsScope, empty, declares, defines, abbreviates}
use Rattle.qv_elab_scope.specs.Kept.{IsKeptFor, AreKeptFor, IsScopeIn}
use Rattle.qv_elab_items.proofs.NamesFound.{place-below}

-- what is behind a name
pub rest-scope : (scope : Scope) → IsScope scope → (x : List ℕ × Entry) (rest : Scope) → scope ≡ x ∷ rest → IsScope rest
rest-scope _ empty x rest e = absurd (cc)
rest-scope _ (declares scope name s h l) x rest e = let same : scope ≡ rest = cc in subst IsScope same h
rest-scope _ (abbreviates scope name s h l) x rest e = let same : scope ≡ rest = cc in subst IsScope same h
rest-scope _ (defines scope name parameters s body t h p w k) x rest e = tail scope rest (ap behind e) h
  where
    behind : Scope → Scope
    behind [] = []
    behind (y ∷ ys) = ys

    tail : (a b : Scope) → a ≡ b → IsScope a → IsScope b
    tail a b e h = subst IsScope e h

pub record IsThere (trees : List Tree) (scope : Scope) (name : List ℕ) (o : Option Kept) : Type 0 where
  pub kept : Kept
  pub entry : Entry
  pub rest : Scope
  pub kept_is : o ≡ Some kept
  pub entry_is : found name scope ≡ Some entry
  pub rest_is : IsScope rest
  pub kept_for : IsKeptFor trees rest kept entry

abbrev pub IsLooked : List Tree → Scope → List ℕ → Option Kept → Type 0
IsLooked trees scope name o = ((o ≡ None) × (found name scope ≡ None)) ⊎ IsThere trees scope name o

-- what is kept at a place counted from the oldest
abbrev kept_at : List Kept → Option ℕ → Option Kept
kept_at ks o = option_and_then (slice_get (reverse ks)) o

same-length : (trees : List Tree) (names : List (List ℕ)) (ks : List Kept) (scope : Scope) → AreKeptFor trees names ks scope → length names ≡ length ks
same-length trees [] [] [] h = refl
same-length trees (n ∷ names) (k ∷ ks) (x ∷ scope) h = ap suc (same-length trees names ks scope h.2)
same-length trees [] [] (x ∷ scope) h = absurd h
same-length trees [] (k ∷ ks) scope h = absurd h
same-length trees (n ∷ names) [] scope h = absurd h
same-length trees (n ∷ names) (k ∷ ks) [] h = absurd h

reverse-cons : (k : Kept) (ks : List Kept) → reverse (k ∷ ks) ≡ reverse ks ++ k ∷ []
reverse-cons k ks = reverse-append (k ∷ []) ks

looked : (trees : List Tree) (names : List (List ℕ)) (ks : List Kept) (scope : Scope) (name : List ℕ) → IsScope scope → AreKeptFor trees names ks scope → IsLooked trees scope name (kept_at ks (place_in name names))
looked trees [] [] [] name s h = inl (refl, refl)
looked trees [] [] (x ∷ scope) name s h = absurd h
looked trees [] (k ∷ ks) scope name s h = absurd h
looked trees (n ∷ names) [] scope name s h = absurd h
looked trees (n ∷ names) (k ∷ ks) [] name s h = absurd h
looked trees (n ∷ names) (k ∷ ks) (x ∷ scope) name s h =
    let rest = rest-scope (x ∷ scope) s x scope refl in
    let count = same-length trees names ks scope h.2 in
    go (bytes_eq n name) refl rest count (looked trees names ks scope name rest h.2)
  where
    test : (b : Bool) → bytes_eq n name ≡ b → bytes_eq x.0 name ≡ b
    test b e = ap (λ m. bytes_eq m name) h.0 ∙ e

    last : length names ≡ length ks → slice_get (reverse (k ∷ ks)) (length names) ≡ Some k
    last count =
        ap (λ xs. slice_get xs (length names)) (reverse-cons k ks)
        ∙ ap (λ m. slice_get (reverse ks ++ k ∷ []) m) (count ∙ sym (length-reverse ks))
        ∙ get_last (reverse ks) k

    more : (p : Option ℕ) (y : Kept) → kept_at ks p ≡ Some y → kept_at (k ∷ ks) p ≡ Some y
    more None y e = absurd (cc)
    more (Some p) y e = ap (λ xs. slice_get xs p) (reverse-cons k ks) ∙ get_front (reverse ks) (k ∷ []) p y e

    inner : (e : bytes_eq n name ≡ false) → IsThere trees scope name (kept_at ks (place_in name names)) → IsThere trees (x ∷ scope) name (kept_at (k ∷ ks) (place_in name names))
    inner e i = record {
      kept = i.kept;
      entry = i.entry;
      rest = i.rest;
      kept_is = more (place_in name names) i.kept i.kept_is;
      entry_is = ap (λ b. cond b (Some x.1) (found name scope)) (test false e) ∙ i.entry_is;
      rest_is = i.rest_is;
      kept_for = i.kept_for;
    }

    within : (p : Option ℕ) → place_in name names ≡ p → length names ≡ length ks → kept_at ks p ≡ None → kept_at (k ∷ ks) p ≡ None
    within None e count f = refl
    within (Some p) e count f = absurd (has (reverse ks) p (omega (arith, place-below name names p e, count, length-reverse ks)) f)
      where
        has : (xs : List Kept) (p : ℕ) → p < length xs → slice_get xs p ≡ None → ⊥
        has [] p lt f = omega arith
        has (y ∷ xs) zero lt f = cc
        has (y ∷ xs) (suc p) lt f = has xs p (omega arith) f

    go : (b : Bool) → bytes_eq n name ≡ b → IsScope scope → length names ≡ length ks → IsLooked trees scope name (kept_at ks (place_in name names)) → IsLooked trees (x ∷ scope) name (kept_at (k ∷ ks) (cond b (Some (length names)) (place_in name names)))
    go true e rest count l = inr (record {
      kept = k;
      entry = x.1;
      rest = scope;
      kept_is = last count;
      entry_is = ap (λ b. cond b (Some x.1) (found name scope)) (test true e);
      rest_is = rest;
      kept_for = h.1;
    })
    go false e rest count (inr i) = inr (inner e i)
    go false e rest count (inl n) = inl (within (place_in name names) refl count n.0, ap (λ b. cond b (Some x.1) (found name scope)) (test false e) ∙ n.1)

-- what is found in a scope in force
pub looked-up : (trees : List Tree) (force : Force) (scope : Scope) (name : List ℕ) → IsScopeIn trees force scope → IsLooked trees scope name (stands_for name force)
looked-up trees force scope name h =
    subst (λ ks. IsLooked trees scope name (option_and_then (slice_get ks) (place_in name force.names))) (reverse-reverse force.kept)
    (looked trees force.names (reverse force.kept) scope name h.is_scope h.kept)
