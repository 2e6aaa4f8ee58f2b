-- What is kept when a level is closed.
use Rattle.std.proofs.Common.{◌≡◌, ◌-◌, ℕ, zero, suc, List, [], ◌∷◌, ◌++◌, length, take, drop, refl, sym, ap, subst, ◌∙◌, arith}
use Rattle.std.specs.Prelude.{reverse}
use Rattle.std.proofs.lemmas.List.{reverse-append, length-reverse}
use Rattle.qv_words.specs.Tree.{Tree}
use Rattle.qv_elab_scope.specs.declared.scope.Kept.{Kept}
use Rattle.qv_elab_defs.specs.Scopes.{Scope}
use Rattle.qv_elab_scope.specs.Force.{Force, left_of, names_below, closed}
use Rattle.qv_elab_defs.specs.TreeLaws.{IsScope, empty}
use Rattle.qv_elab_scope.specs.Kept.{AreKeptFor}
use Rattle.qv_elab_scope.proofs.Lookups.{rest-scope}
use Rattle.qv_elab_cases.specs.Sessions.{IsKept}

scope-behind : (n : ℕ) (scope : Scope) → IsScope scope → IsScope (drop n scope)
scope-behind zero scope h = h
scope-behind (suc n) [] h = empty
scope-behind (suc n) (x ∷ scope) h = scope-behind n scope (rest-scope (x ∷ scope) h x scope refl)

module _ (trees : List Tree) where
  same-length : (names : List (List ℕ)) (ks : List Kept) (scope : Scope) → AreKeptFor trees names ks scope → length names ≡ length ks
  same-length [] [] [] h = refl
  same-length [] [] (x ∷ scope) h = absurd h
  same-length [] (k ∷ ks) scope h = absurd h
  same-length (n ∷ names) [] scope h = absurd h
  same-length (n ∷ names) (k ∷ ks) [] h = absurd h
  same-length (n ∷ names) (k ∷ ks) (x ∷ scope) h = ap suc (same-length names ks scope h.2)

  kept-behind : (n : ℕ) (names : List (List ℕ)) (ks : List Kept) (scope : Scope) → AreKeptFor trees names ks scope → AreKeptFor trees (drop n names) (drop n ks) (drop n scope)
  kept-behind zero names ks scope h = h
  kept-behind (suc n) [] [] [] h = h
  kept-behind (suc n) [] [] (x ∷ scope) h = absurd h
  kept-behind (suc n) [] (k ∷ ks) scope h = absurd h
  kept-behind (suc n) (m ∷ names) [] scope h = absurd h
  kept-behind (suc n) (m ∷ names) (k ∷ ks) [] h = absurd h
  kept-behind (suc n) (m ∷ names) (k ∷ ks) (x ∷ scope) h = kept-behind n names ks scope h.2

reverse-taken : (ks : List Kept) (m : ℕ) → reverse (take m ks) ≡ drop (length ks - m) (reverse ks)
reverse-taken ks m =
    let whole = ap reverse (take-drop ks m) ∙ reverse-append (take m ks) (drop m ks) in
    let count : length (reverse (drop m ks)) ≡ length ks - m = length-reverse (drop m ks) ∙ length-dropped ks m in
    sym (ap (λ xs. drop (length ks - m) xs) whole ∙ ap (λ i. drop i (reverse (drop m ks) ++ reverse (take m ks))) (sym count) ∙ drop-front (reverse (drop m ks)) (reverse (take m ks)))
  where
    take-drop : (xs : List Kept) (m : ℕ) → xs ≡ take m xs ++ drop m xs
    take-drop xs zero = refl
    take-drop [] (suc m) = refl
    take-drop (x ∷ xs) (suc m) = ap (λ ys. x ∷ ys) (take-drop xs m)

    length-dropped : (xs : List Kept) (m : ℕ) → length (drop m xs) ≡ length xs - m
    length-dropped xs zero = omega arith
    length-dropped [] (suc m) = omega arith
    length-dropped (x ∷ xs) (suc m) = let rest = length-dropped xs m in omega (arith, rest)

    drop-front : (xs ys : List Kept) → drop (length xs) (xs ++ ys) ≡ ys
    drop-front [] ys = refl
    drop-front (x ∷ xs) ys = drop-front xs ys

kept-left : (trees : List Tree) (n levels : ℕ) (force : Force) → IsKept trees force → IsKept trees (left_of n levels force)
kept-left trees n levels force h =
    let gone = length force.names - n in
    let count : length force.names ≡ length force.kept = same-length trees force.names (reverse force.kept) h.0 h.1.kept ∙ length-reverse force.kept in
    let turned : reverse (take n force.kept) ≡ drop gone (reverse force.kept) = reverse-taken force.kept n ∙ ap (λ m. drop (m - n) (reverse force.kept)) (sym count) in (
      drop gone h.0,
      record {
        is_scope = scope-behind gone h.0 h.1.is_scope;
        kept = subst (λ (ks : List Kept). AreKeptFor trees (drop gone force.names) ks (drop gone h.0)) (sym turned) (kept-behind trees gone force.names (reverse force.kept) h.0 h.1.kept);
      },
    )

pub kept-closed : (trees : List Tree) (n : ℕ) (force : Force) → IsKept trees force → IsKept trees (closed n force)
kept-closed trees n force h = kept-left trees (names_below n force) (length force.starts - n) force h
