-- A definition's body with arguments put in is sorted.
use Rattle.std.proofs.Common.{◌≡◌, ◌≤◌, ◌<◌, ◌+◌, ◌==◌, inl, ℕ, Bool, true, false, cond, Option, Some, None, List, [], ◌∷◌, length, slice_get, refl, sym, ap, subst, ◌∙◌, Ok, arith}
use Rattle.std.specs.Prelude.{Result, IfOk, IfSome, IsSome, IsSomeAnd, nat_lt, unwrap_or}
use Rattle.std.specs.List.{AllByRecursion}
use Rattle.std.proofs.lemmas.Bool.Decides.{nat_tests}
use Rattle.std.proofs.lemmas.List.{append-nil}
use Rattle.qv_sexpr.specs.Script.{Tree as Expr}
use Rattle.qv_words.specs.declared.sort.Sort.{Sort}
use Rattle.qv_words.specs.Tree.{Tree, Trees, Constant, Variable, Literal, Apply, ForAll, Exists, Nil, Cons, tree_sort}
use Rattle.qv_words.specs.Sorted.{IsSorted, IsSortedBelow, AreSortedBelow, with_level, no_levels, free_levels}
use Rattle.qv_words.proofs.Equals.{test-refl, eq-from_test}
use Rattle.qv_words.proofs.Leaves.{at_level, past_level}
use Rattle.qv_words.proofs.Elements.{all-at}
use Rattle.qv_elab_defs.specs.Faults.{Fault}
use Rattle.qv_elab_defs.specs.Tokens.{place_of}
use Rattle.qv_elab_defs.specs.Written.{HasTokens}
use Rattle.qv_elab_defs.specs.Scopes.{Named, Scope, constants_of, below_binders, outermost}
use Rattle.qv_elab_defs.specs.Elaborating.{elab}
use Rattle.qv_elab_defs.specs.Defining.{elaborate_body}
use Rattle.qv_elab_defs.specs.Putting.{moved_level, put_in_each}
use Rattle.qv_elab_defs.specs.TreeLaws.{AreParameters, IsScope}
use Rattle.qv_elab_defs.proofs.Opened.{IsOpen, AreOpen, IsBound, open-levels}
use Rattle.qv_elab_defs.proofs.OpenApplied.{IsGood}
use Rattle.qv_elab_defs.proofs.OpenElaborated.{Ends, with_levels, levels-end, good-variables, ok-elab}
use Rattle.qv_elab_defs.proofs.ElaboratedTrees.{sorts_of, good-scope}
use Rattle.qv_elab_defs.proofs.Alike.{Use, put, Begin, begin-level, same-sort}
use Rattle.qv_elab_defs.proofs.Uses.{length-sorts, lawful, of-same}
use Rattle.qv_elab_defs.proofs.SortedBelow.{IsKept, sorted-kept}

module _ (sorts : List Sort) (u : Use sorts) (sorted : AllByRecursion IsSorted u.args) (low : AllByRecursion (λ t. AllByRecursion (λ leaf. leaf.0 < u.binders) (free_levels t)) u.args) where
  abbrev k : ℕ
  k = length sorts

  abbrev moved : ℕ → ℕ
  moved l = moved_level (length sorts) u.binders l

  -- the levels at the use have nothing below its binders, and otherwise what the body's have
  record Fits (M N : ℕ → Option Sort) : Type 0 where
    begin : Begin sorts M
    none : (l : ℕ) → l < u.binders → N l ≡ None
    same : (l : ℕ) (s : Sort) → length sorts ≤ l → M l ≡ Some s → IfSome (N (moved_level (length sorts) u.binders l)) (λ bound. s ≡ bound)

  none-of : (N : ℕ → Option Sort) → ((l : ℕ) → l < u.binders → N l ≡ None) → (leaves : List (ℕ × Sort)) → AllByRecursion (λ leaf. leaf.0 < u.binders) leaves → AllByRecursion (IsKept no_levels N) leaves
  none-of N none [] h = tt
  none-of N none (leaf ∷ leaves) h = (inl (none leaf.0 h.0), none-of N none leaves h.1)

  fits-level : (M N : ℕ → Option Sort) (l : ℕ) (s : Sort) → length sorts ≤ l → Fits M N → Fits (with_level M l s) (with_level N (moved_level (length sorts) u.binders l) s)
  fits-level M N l s le h = record { begin = begin-level sorts M l s le h.begin; none = none; same = same }
    where
      none : (j : ℕ) → j < u.binders → with_level N (moved_level (length sorts) u.binders l) s j ≡ None
      none j lt =
          let other : (j == moved_level (length sorts) u.binders l) ≡ false = grind (arith, nat_tests) in
          past_level N (moved_level (length sorts) u.binders l) s j other ∙ h.none j lt

      same : (j : ℕ) (r : Sort) → length sorts ≤ j → with_level M l s j ≡ Some r → IfSome (with_level N (moved_level (length sorts) u.binders l) s (moved_level (length sorts) u.binders j)) (λ bound. r ≡ bound)
      same j r le' e = go (j == l) refl
        where
          go : (b : Bool) → (j == l) ≡ b → IfSome (with_level N (moved_level (length sorts) u.binders l) s (moved_level (length sorts) u.binders j)) (λ bound. r ≡ bound)
          go true f =
              let one : j ≡ l = eq-from_test j l f in
              let here : (moved_level (length sorts) u.binders j == moved_level (length sorts) u.binders l) ≡ true = ap (λ n. moved_level (length sorts) u.binders n == moved_level (length sorts) u.binders l) one ∙ test-refl (moved_level (length sorts) u.binders l) in
              let own : Some s ≡ Some r = sym (at_level M l s j f) ∙ e in
              let is : r ≡ s = cc in
              subst (λ (o : Option Sort). IfSome o (λ bound. r ≡ bound)) (sym (at_level N (moved_level (length sorts) u.binders l) s (moved_level (length sorts) u.binders j) here)) is
          go false f =
              let apart : (moved_level (length sorts) u.binders j == moved_level (length sorts) u.binders l) ≡ false = grind (arith, nat_tests) in
              subst (λ (o : Option Sort). IfSome o (λ bound. r ≡ bound)) (sym (past_level N (moved_level (length sorts) u.binders l) s (moved_level (length sorts) u.binders j) apart))
              (h.same j r le' (sym (past_level M l s j f) ∙ e))

  variable-sorted : (M N : ℕ → Option Sort) (K : List Sort) (l : ℕ) (s : Sort) → Fits M N → IsOpen K (length sorts) M (Variable l s) → IsSortedBelow N (put sorts u (Variable l s))
  variable-sorted M N K l s f h = go (nat_lt l (length sorts)) refl
    where
      at : (o : Option Tree) → slice_get u.args l ≡ o → IsSomeAnd o (λ a. tree_sort a ≡ Some s) → IsSortedBelow N (unwrap_or o (Variable l s))
      at None e k = absurd k
      at (Some a) e k =
          sorted-kept a no_levels N (none-of N f.none (free_levels a) (all-at (λ t. AllByRecursion (λ leaf. leaf.0 < u.binders) (free_levels t)) u.args l a low e)) (all-at IsSorted u.args l a sorted e)

      go : (b : Bool) → nat_lt l (length sorts) ≡ b → IsSortedBelow N (cond b (unwrap_or (slice_get u.args l) (Variable l s)) (Variable (moved_level (length sorts) u.binders l) s))
      go true e =
          let lt : l < length sorts = grind (arith, nat_tests) in
          at (slice_get u.args l) refl (u.fits l s (sym (f.begin l lt) ∙ h.1))
      go false e =
          let le : length sorts ≤ l = grind (arith, nat_tests) in
          (h.0, f.same l s le h.1)

  mutual
    put-sorted : (t : Tree) (K : List Sort) (M N : ℕ → Option Sort) → Fits M N → IsOpen K (length sorts) M t → IsSortedBelow N (put sorts u t)
    put-sorted (Constant i s) K M N f h = h.0
    put-sorted (Variable l s) K M N f h = variable-sorted M N K l s f h
    put-sorted (Literal s n) K M N f h = h
    put-sorted (Apply o ts) K M N f h =
        (puts-sorted ts K M N f h.0, subst (λ (q : Option Sort). IsSome q) (sym (same-sort sorts u (Apply o ts) K M f.begin h)) h.1)
    put-sorted (ForAll l s body) K M N f h = (
      h.0,
      put-sorted body K (with_level M l s) (with_level N (moved_level (length sorts) u.binders l) s) (fits-level M N l s h.1 f) h.2,
      same-sort sorts u body K (with_level M l s) (begin-level sorts M l s h.1 f.begin) h.2 ∙ h.3,
    )
    put-sorted (Exists l s body) K M N f h = (
      h.0,
      put-sorted body K (with_level M l s) (with_level N (moved_level (length sorts) u.binders l) s) (fits-level M N l s h.1 f) h.2,
      same-sort sorts u body K (with_level M l s) (begin-level sorts M l s h.1 f.begin) h.2 ∙ h.3,
    )

    puts-sorted : (ts : Trees) (K : List Sort) (M N : ℕ → Option Sort) → Fits M N → AreOpen K (length sorts) M ts → AreSortedBelow N (put_in_each (length sorts) u.binders u.args ts)
    puts-sorted Nil K M N f h = tt
    puts-sorted (Cons t ts) K M N f h = (put-sorted t K M N f h.0, puts-sorted ts K M N f h.1)

  pub put-is_sorted : (t : Tree) (K : List Sort) (M : ℕ → Option Sort) → Begin sorts M → IsOpen K (length sorts) M t → IsSorted (put sorts u t)
  put-is_sorted t K M b h = put-sorted t K M no_levels (record { begin = b; none = λ l lt. refl; same = λ l s le e. tt }) h

-- the body of a definition is open, over its parameters
pub body-good : (scope : Scope) (parameters : Named Sort) (s : Sort) (e : Expr) (t : Tree) → IsScope scope → AreParameters parameters → HasTokens e → elaborate_body scope parameters s e ≡ Ok t
    → IsGood (sorts_of (constants_of scope)) (length (sorts_of parameters)) (with_levels 0 parameters no_levels) t
body-good scope parameters s e t h p w r =
    let own = of-same (elab e (below_binders parameters (outermost scope))) s (place_of e) t r in
    let same = length-sorts parameters in
    let K = sorts_of (constants_of scope) in
    let good = ok-elab K (length (sorts_of parameters)) e (below_binders parameters (outermost scope)) (with_levels 0 parameters no_levels) w
    (record {
      scope = good-scope scope h K [] (length (sorts_of parameters)) (sym (append-nil K));
      bound = good-variables K (length (sorts_of parameters)) parameters 0 no_levels [] (lawful parameters p) (λ l le. refl) tt;
      ends = levels-end 0 parameters no_levels (λ l le. refl);
      from = omega arith;
    }) in
    subst (λ (x : Result Tree Fault). IfOk x (IsGood K (length (sorts_of parameters)) (with_levels 0 parameters no_levels))) own good

-- its free variables are its parameters
pub body-levels : (scope : Scope) (parameters : Named Sort) (t : Tree) → IsGood (sorts_of (constants_of scope)) (length (sorts_of parameters)) (with_levels 0 parameters no_levels) t
    → AllByRecursion (λ leaf. leaf.0 < length parameters) (free_levels t)
body-levels scope parameters t good = go (free_levels t) (open-levels t (sorts_of (constants_of scope)) (length (sorts_of parameters)) (with_levels 0 parameters no_levels) good.0)
  where
    ends : Ends (with_levels 0 parameters no_levels) (0 + length parameters)
    ends = levels-end 0 parameters no_levels (λ l le. refl)

    one : (l : ℕ) (s : Sort) → with_levels 0 parameters no_levels l ≡ Some s → l < length parameters
    one l s e = by (nat_lt l (length parameters)) refl
      where
        by : (b : Bool) → nat_lt l (length parameters) ≡ b → l < length parameters
        by true f = grind (arith, nat_tests)
        by false f =
            let le : 0 + length parameters ≤ l = grind (arith, nat_tests) in
            let none = ends l le in
            absurd (cc)

    go : (leaves : List (ℕ × Sort)) → AllByRecursion (IsBound (with_levels 0 parameters no_levels)) leaves → AllByRecursion (λ leaf. leaf.0 < length parameters) leaves
    go [] h = tt
    go (leaf ∷ leaves) h = (one leaf.0 leaf.1 h.0, go leaves h.1)
