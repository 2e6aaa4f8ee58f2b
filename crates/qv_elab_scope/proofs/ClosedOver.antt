-- Closing over variables, one after another from the last.
use Rattle.std.proofs.Common.{◌≡◌, ◌≤◌, ◌<◌, ◌+◌, ◌-◌, ℕ, zero, suc, true, false, cond, Option, Some, List, [], ◌∷◌, ◌++◌, length, take, drop, slice_get, refl, sym, ap, subst, ◌∙◌, append_assoc, arith, Ok}
use Rattle.std.specs.Prelude.{Bool, nat_le}
use Rattle.std.proofs.lemmas.Bool.Decides.{nat_tests}
use Rattle.qv_words.specs.declared.sort.Sort.{Sort}
use Rattle.qv_words.specs.declared.sort.Sort.TheVariants.{Bool as BoolSort}
use Rattle.qv_words.specs.Tree.{Tree, Variable, tree_sort}
use Rattle.qv_words.specs.Sorted.{IsSorted, with_level}
use Rattle.qv_store.specs.Nodes.{tree_at}
use Rattle.qv_store.specs.Stores.{StandsAt, Grows}
use Rattle.qv_elab_defs.specs.declared.faults.ElabKind.TheVariants.{DepthLimit}
use Rattle.qv_elab_defs.specs.Faults.{refuse}
use Rattle.qv_elab_defs.specs.Shapes.{Quantifier, Universal, Existential}
use Rattle.qv_elab_defs.specs.Scopes.{Named, with_variables}
use Rattle.qv_elab_defs.specs.Applying.{depth_of, depth_limit, shallow}
use Rattle.qv_elab_defs.specs.Elaborating.{quantified, closed}
use Rattle.qv_elab_defs.specs.OpenTrees.{IsOpen, with_levels, AreLawful}
use Rattle.qv_elab_scope.specs.Variables.{quantifier_of, AreNamedAt, AreVariables}
use Rattle.qv_elab_scope.specs.Quantifying.{IsClosing}
use Rattle.qv_elab_defs.proofs.Opened.{open-sorted}
use Rattle.qv_elab_defs.proofs.OpenElaborated.{open-closed}
use Rattle.qv_elab_defs.proofs.SortedBelow.{sorted-alone}
use Rattle.qv_elab_scope.proofs.Standing.{stands-grows}
use Rattle.qv_elab_scope.proofs.Standing.{named-length}

-- variables as names
pub variables-length : (level : ℕ) (xs : Named Sort) (bound : Named Tree) → length (with_variables level xs bound) ≡ length xs + length bound
variables-length level [] bound = omega arith
variables-length level (x ∷ xs) bound = variables-length (suc level) xs ((x.0, Variable level x.1) ∷ bound) ∙ omega arith

pub variables-onto : (level : ℕ) (xs : Named Sort) (bound : Named Tree) → with_variables level xs bound ≡ with_variables level xs [] ++ bound
variables-onto level [] bound = refl
variables-onto level (x ∷ xs) bound =
    variables-onto (suc level) xs ((x.0, Variable level x.1) ∷ bound)
    ∙ sym (append_assoc (with_variables (suc level) xs []) ((x.0, Variable level x.1) ∷ []) bound)
    ∙ ap (λ (ys : Named Tree). ys ++ bound) (sym (variables-onto (suc level) xs ((x.0, Variable level x.1) ∷ [])))

pub variables-snoc : (level : ℕ) (xs : Named Sort) (x : List ℕ × Sort) (bound : Named Tree) → with_variables level (xs ++ x ∷ []) bound ≡ (x.0, Variable (level + length xs) x.1) ∷ with_variables level xs bound
variables-snoc level [] x bound = let here : level ≡ level + 0 = omega arith in ap (λ l. (x.0, Variable l x.1) ∷ bound) here
variables-snoc level (y ∷ xs) x bound =
    let next : suc level + length xs ≡ level + suc (length xs) = omega arith in
    variables-snoc (suc level) xs x ((y.0, Variable level y.1) ∷ bound)
    ∙ ap (λ l. (x.0, Variable l x.1) ∷ with_variables (suc level) xs ((y.0, Variable level y.1) ∷ bound)) next

-- the variable of a name
behind-variables : (level : ℕ) (xs : Named Sort) (bound : Named Tree) (i : ℕ) → slice_get (with_variables level xs bound) (length xs + i) ≡ slice_get bound i
behind-variables level [] bound i = let here : 0 + i ≡ i = omega arith in ap (λ n. slice_get bound n) here
behind-variables level (x ∷ xs) bound i =
    let next : suc (length xs) + i ≡ length xs + suc i = omega arith in
    ap (λ n. slice_get (with_variables (suc level) xs ((x.0, Variable level x.1) ∷ bound)) n) next
    ∙ behind-variables (suc level) xs ((x.0, Variable level x.1) ∷ bound) (suc i)

some-same : {A : Type 0} (a b : A) → Some a ≡ Some b → a ≡ b
some-same a b e = cc

variable-from : (level : ℕ) (xs : Named Sort) (bound : Named Tree) (k j : ℕ) (y : List ℕ × Tree) → j + k + 1 ≡ length xs → slice_get (with_variables level xs bound) k ≡ Some y → (x : List ℕ × Sort) × (slice_get xs j ≡ Some x) × (y ≡ (x.0, Variable (level + j) x.1))
variable-from level [] bound k j y e h = absurd (omega (arith, e))
variable-from level (x ∷ xs) bound k zero y e h =
    let v : List ℕ × Tree = (x.0, Variable level x.1) in
    let at : k ≡ length xs + 0 = omega (arith, e) in
    let there : Some y ≡ Some v = sym h ∙ ap (λ n. slice_get (with_variables (suc level) xs (v ∷ bound)) n) at ∙ behind-variables (suc level) xs (v ∷ bound) 0 in
    let here : level ≡ level + 0 = omega arith in
    (x, refl, some-same y v there ∙ ap (λ l. (x.0, Variable l x.1)) here)
variable-from level (x ∷ xs) bound k (suc j) y e h =
    let r = variable-from (suc level) xs ((x.0, Variable level x.1) ∷ bound) k j y (omega (arith, e)) h in
    let next : suc level + j ≡ level + suc j = omega arith in
    (r.0, r.1, r.2 ∙ ap (λ l. (r.0.0, Variable l r.0.1)) next)

named-at : (trees : List Tree) (names : Named ℕ) (ys : Named Tree) (k : ℕ) (n : List ℕ × ℕ) → AreNamedAt trees names ys → slice_get names k ≡ Some n → (y : List ℕ × Tree) × (slice_get ys k ≡ Some y) × StandsAt trees n.1 y.1
named-at trees (m ∷ names) (y ∷ ys) zero n h e =
    let same : m ≡ n = some-same m n e in
    (y, refl, subst (λ (x : List ℕ × ℕ). StandsAt trees x.1 y.1) same h.1)
named-at trees (m ∷ names) (y ∷ ys) (suc k) n h e = named-at trees names ys k n h.2 e
named-at trees [] ys k n h e = absurd (cc)
named-at trees (m ∷ names) [] k n h e = absurd h

pub variable-at : (trees : List Tree) (level : ℕ) (xs : Named Sort) (names : Named ℕ) (k j : ℕ) (n : List ℕ × ℕ) → AreVariables trees level xs names → slice_get names k ≡ Some n → j + k + 1 ≡ length xs → (x : List ℕ × Sort) × (slice_get xs j ≡ Some x) × StandsAt trees n.1 (Variable (level + j) x.1)
variable-at trees level xs names k j n h e count =
    let y = named-at trees names (with_variables level xs []) k n h e in
    let x = variable-from level xs [] k j y.0 count y.1 in
    (x.0, x.1, subst (λ (z : List ℕ × Tree). StandsAt trees n.1 z.1) x.2 y.2)

-- the levels of the first variables, and of the others
levels-split : (level : ℕ) (xs : Named Sort) (M : ℕ → Option Sort) (n : ℕ) → with_levels level xs M ≡ with_levels (level + n) (drop n xs) (with_levels level (take n xs) M)
levels-split level xs M zero = let here : level ≡ level + 0 = omega arith in ap (λ l. with_levels l xs M) here
levels-split level [] M (suc n) = refl
levels-split level (x ∷ xs) M (suc n) =
    let next : suc level + n ≡ level + suc n = omega arith in
    levels-split (suc level) xs (with_level M level x.1) n
    ∙ ap (λ l. with_levels l (drop n xs) (with_levels (suc level) (take n xs) (with_level M level x.1))) next

drop-at : (xs : Named Sort) (n : ℕ) (x : List ℕ × Sort) → slice_get xs n ≡ Some x → drop n xs ≡ x ∷ drop (suc n) xs
drop-at [] n x e = absurd (cc)
drop-at (y ∷ xs) zero x e = ap (λ (z : List ℕ × Sort). z ∷ xs) (some-same y x e)
drop-at (y ∷ xs) (suc n) x e = drop-at xs n x e

lawful-behind : (n : ℕ) (xs : Named Sort) → AreLawful xs → AreLawful (drop n xs)
lawful-behind zero xs h = h
lawful-behind (suc n) [] h = h
lawful-behind (suc n) (x ∷ xs) h = lawful-behind n xs h.1

-- a quantifier one deeper than its body
depth-quantified : (q : Quantifier) (level : ℕ) (s : Sort) (t : Tree) → depth_of (quantified q level s t) ≡ 1 + depth_of t
depth-quantified Universal level s t = refl
depth-quantified Existential level s t = refl

pub depth-closed : (q : Quantifier) (level : ℕ) (xs : Named Sort) (t : Tree) → depth_of (closed q level xs t) ≡ depth_of t + length xs
depth-closed q level [] t = omega arith
depth-closed q level (x ∷ xs) t =
    let inside = depth-closed q (suc level) xs t in
    depth-quantified q level x.1 (closed q (suc level) xs t) ∙ omega (arith, inside)

module _ (q : Quantifier) (level : ℕ) (xs : Named Sort) (t : Tree) where
  -- all are closed over
  pub all-closed : (n : ℕ) → n ≡ length xs → closed q (level + n) (drop n xs) t ≡ t
  all-closed n e = ap (λ (ys : Named Sort). closed q (level + n) ys t) (ap (λ m. drop m xs) e ∙ none xs)
    where
      none : (ys : Named Sort) → drop (length ys) ys ≡ []
      none [] = refl
      none (y ∷ ys) = none ys

  -- one more
  pub one-closed : (n m : ℕ) (x : List ℕ × Sort) → slice_get xs n ≡ Some x → m ≡ suc n → closed q (level + n) (drop n xs) t ≡ quantified q (level + n) x.1 (closed q (level + m) (drop m xs) t)
  one-closed n m x e f =
      let next : suc (level + n) ≡ level + suc n = omega arith in
      ap (λ (ys : Named Sort). closed q (level + n) ys t) (drop-at xs n x e)
      ∙ ap (λ l. quantified q (level + n) x.1 (closed q l (drop (suc n) xs) t)) next
      ∙ ap (λ k. quantified q (level + n) x.1 (closed q (level + k) (drop k xs) t)) (sym f)

  pub closed-sorted : (K : List Sort) (M : ℕ → Option Sort) (n : ℕ) → AreLawful xs → IsOpen K 0 (with_levels level xs M) t → tree_sort t ≡ Some BoolSort → IsSorted (closed q (level + n) (drop n xs) t)
  closed-sorted K M n l h e =
      let N : ℕ → Option Sort = with_levels level (take n xs) M in
      let inside : IsOpen K 0 (with_levels (level + n) (drop n xs) N) t = subst (λ (F : ℕ → Option Sort). IsOpen K 0 F t) (levels-split level xs M n) h in
      let whole = open-closed K 0 q (drop n xs) N (level + n) t (lawful-behind n xs l) (omega arith) inside e in
      sorted-alone (closed q (level + n) (drop n xs) t) N (open-sorted (closed q (level + n) (drop n xs) t) K 0 N whole.0)

  -- too many of them
  pub too-deep : (place : ℕ) → depth_limit < depth_of t + length xs → shallow place (closed q level xs t) ≡ refuse place DepthLimit
  too-deep place h =
      let depth = depth-closed q level xs t in
      let test : nat_le (depth_of (closed q level xs t)) depth_limit ≡ false = grind (arith, nat_tests) in
      ap (λ b. cond b (Ok (closed q level xs t)) (refuse place DepthLimit)) test

  pub not-too-deep : (place : ℕ) → depth_of t + length xs ≤ depth_limit → shallow place (closed q level xs t) ≡ Ok (closed q level xs t)
  not-too-deep place h =
      let depth = depth-closed q level xs t in
      let test : nat_le (depth_of (closed q level xs t)) depth_limit ≡ true = grind (arith, nat_tests) in
      ap (λ b. cond b (Ok (closed q level xs t)) (refuse place DepthLimit)) test

-- the step of the loop
taken : (n : ℕ) (xs : Named ℕ) → n ≤ length xs → length (take n xs) ≡ n
taken zero xs h = refl
taken (suc n) [] h = absurd (omega (arith, h))
taken (suc n) (x ∷ xs) h = ap suc (taken n xs (omega (arith, h)))

in-front : (n k : ℕ) (xs : Named ℕ) → k < n → slice_get (take n xs) k ≡ slice_get xs k
in-front zero k xs lt = absurd (omega (arith, lt))
in-front (suc n) k [] lt = refl
in-front (suc n) zero (x ∷ xs) lt = refl
in-front (suc n) (suc k) (x ∷ xs) lt = in-front n k xs (omega (arith, lt))

module _ (trees : List Tree) (level body : ℕ) (bound : Named ℕ) (from : ℕ) (xs : Named Sort) (h : IsClosing trees level body (take (length bound - from) bound) xs) where
  pub count : length xs ≡ length bound - from
  count =
      let own = variables-length level xs [] in
      let all = named-length trees (take (length bound - from) bound) (with_variables level xs []) h.variables in
      let n = taken (length bound - from) bound (omega arith) in
      omega (arith, own, all, n)

  module _ (trees' : List Tree) (g : Grows trees trees') (u : Bool) (id at : ℕ) (n : List ℕ × ℕ) (lt : from < at) (le : at ≤ length bound) (there : slice_get bound (length bound - 1 - (at - 1)) ≡ Some n) (stands : StandsAt trees' id (closed (quantifier_of u) (level + (at - from)) (drop (at - from) xs) (tree_at trees body))) where
    variable : (x : List ℕ × Sort) × (slice_get xs (at - 1 - from) ≡ Some x) × StandsAt trees n.1 (Variable (level + (at - 1 - from)) x.1)
    variable =
        let k : length bound - 1 - (at - 1) < length bound - from = omega (arith, lt, le) in
        let sum : at - 1 - from + (length bound - 1 - (at - 1)) + 1 ≡ length xs = omega (arith, lt, le, count) in
        variable-at trees level xs (take (length bound - from) bound) (length bound - 1 - (at - 1)) (at - 1 - from) n h.variables
        (in-front (length bound - from) (length bound - 1 - (at - 1)) bound k ∙ there) sum

    grown : StandsAt trees' n.1 (Variable (level + (at - 1 - from)) variable.0.1)
    grown = stands-grows trees trees' g n.1 (Variable (level + (at - 1 - from)) variable.0.1) variable.2

    pub variable-below : n.1 < length trees'
    variable-below = grown.below

    pub quantified-is : (sort : Sort) → tree_sort (tree_at trees' n.1) ≡ Some sort → quantified (quantifier_of u) (level + (at - 1 - from)) sort (tree_at trees' id) ≡ closed (quantifier_of u) (level + (at - 1 - from)) (drop (at - 1 - from) xs) (tree_at trees body)
    quantified-is sort e =
        let same : variable.0.1 ≡ sort = some-same variable.0.1 sort (ap (λ (t : Tree). tree_sort t) (sym grown.tree) ∙ e) in
        let next : at - from ≡ suc (at - 1 - from) = omega (arith, lt) in
        ap (λ (s : Sort). quantified (quantifier_of u) (level + (at - 1 - from)) s (tree_at trees' id)) (sym same)
        ∙ ap (λ (t : Tree). quantified (quantifier_of u) (level + (at - 1 - from)) variable.0.1 t) stands.tree
        ∙ sym (one-closed (quantifier_of u) level xs (tree_at trees body) (at - 1 - from) (at - from) variable.0 variable.1 next)

    pub quantified-sorted : (sort : Sort) → tree_sort (tree_at trees' n.1) ≡ Some sort → IsSorted (quantified (quantifier_of u) (level + (at - 1 - from)) sort (tree_at trees' id))
    quantified-sorted sort e =
        subst (λ (t : Tree). IsSorted t) (sym (quantified-is sort e))
        (closed-sorted (quantifier_of u) level xs (tree_at trees body) h.K h.M (at - 1 - from) h.lawful h.formula h.is_bool)

    -- it is put
    pub closed-next : (sort : Sort) → tree_sort (tree_at trees' n.1) ≡ Some sort → (new : List Tree) (id' : ℕ) → StandsAt new id' (quantified (quantifier_of u) (level + (at - 1 - from)) sort (tree_at trees' id)) → StandsAt new id' (closed (quantifier_of u) (level + (at - 1 - from)) (drop (at - 1 - from) xs) (tree_at trees body))
    closed-next sort e new id' k = subst (λ (t : Tree). StandsAt new id' t) (quantified-is sort e) k

  -- the loop begins and ends
  pub closed-none : (u : Bool) (at : ℕ) → at ≡ length bound → body < length trees → StandsAt trees body (closed (quantifier_of u) (level + (at - from)) (drop (at - from) xs) (tree_at trees body))
  closed-none u at e lt =
      let n : at - from ≡ length xs = ap (λ m. m - from) e ∙ sym count in
      record { below = lt; tree = sym (all-closed (quantifier_of u) level xs (tree_at trees body) (at - from) n) }

  pub closed-all : (trees' : List Tree) (u : Bool) (place id at : ℕ) → at ≤ from → depth_of (tree_at trees body) + (length bound - from) ≤ depth_limit → StandsAt trees' id (closed (quantifier_of u) (level + (at - from)) (drop (at - from) xs) (tree_at trees body)) → (t : Tree) × (shallow place (closed (quantifier_of u) level xs (tree_at trees body)) ≡ Ok t) × StandsAt trees' id t
  closed-all trees' u place id at le depth stands =
      let n : at - from ≡ 0 = omega (arith, le) in
      let first : level + 0 ≡ level = omega arith in (
        closed (quantifier_of u) level xs (tree_at trees body),
        not-too-deep (quantifier_of u) level xs (tree_at trees body) place (omega (arith, depth, count)),
        subst (λ l. StandsAt trees' id (closed (quantifier_of u) l xs (tree_at trees body))) first
            (subst (λ m. StandsAt trees' id (closed (quantifier_of u) (level + m) (drop m xs) (tree_at trees body))) n stands),
      )

  pub closed-deep : (u : Bool) (place : ℕ) → depth_limit < depth_of (tree_at trees body) + (length bound - from) → shallow place (closed (quantifier_of u) level xs (tree_at trees body)) ≡ refuse place DepthLimit
  closed-deep u place depth = too-deep (quantifier_of u) level xs (tree_at trees body) place (omega (arith, depth, count))
