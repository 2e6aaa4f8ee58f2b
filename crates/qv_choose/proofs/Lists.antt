-- Lists of numbers of the formulas in which places stand.
use Rattle.std.proofs.Common.{◌≡◌, ℕ, zero, suc, ◌+◌, ◌-◌, ◌<◌, ◌==◌, ◌⊎◌, inl, inr, Bool, true, false, cond, not, Option, Some, None, List, [], ◌∷◌, ◌++◌, length, set, get_or, refl, sym, ap, ◌∙◌, subst, arith, slice_get, length-append}
use Rattle.std.specs.Prelude.{Vec}
use Rattle.std.specs.List.{AllByRecursion}
use Rattle.std.specs.declared.alloc.Global.{Global}
use Rattle.std.proofs.lemmas.Bool.{eqb-true}
use Rattle.std.proofs.lemmas.Option.{slice_get_within}
use Rattle.qv_words.specs.declared.sort.Sort.{Sort}
use Rattle.qv_words.specs.Tree.{Tree, Trees, Constant, Variable, Literal, Apply, ForAll, Exists, Nil, Cons, IsQuantifierFree, AreQuantifierFree}
use Rattle.qv_words.specs.Clauses.{with_nodes}
use Rattle.qv_words.specs.Choice.{occurrences, occurrences_in_each, is_in}
use Rattle.qv_words.proofs.Elements.{all-at, found-at, pushed-last, pushed-cases}
use Rattle.qv_circuits_laws.specs.ClauseLaws.{post_order, post_order_each}
use Rattle.qv_circuits_laws.proofs.Nodes.{In, in-left, in-right, in-either, firsts-gain, of-tree}
use Rattle.qv_choose.specs.Conjuncts.{ArePicked, at_end, picked, passed}
use Rattle.qv_choose.specs.Listing.{numbers_in, AreListed, AreLess, EndsWith, IsNoted, IsPlaceAt, IsPlaceOf, NotesTree, ListsOne}

-- ---- one more formula

pub picked-pass : (x n : ℕ) (ts : List Tree) (own : List ℕ) (t : Tree) → is_in x t ≡ false → ArePicked x n ts own → ArePicked x n (ts ++ t ∷ []) own
picked-pass x n ts own t none (at_end m) = passed m t [] [] none (at_end (suc m))
picked-pass x n ts own t none (picked m u us rest h) = picked m u (us ++ t ∷ []) rest (picked-pass x (suc m) us rest t none h)
picked-pass x n ts own t none (passed m u us rest out h) = passed m u (us ++ t ∷ []) rest out (picked-pass x (suc m) us rest t none h)

pub picked-push : (x n : ℕ) (ts : List Tree) (own : List ℕ) (t : Tree) (k : ℕ) → k ≡ n + length ts → ArePicked x n ts own → ArePicked x n (ts ++ t ∷ []) (own ++ k ∷ [])
picked-push x n ts own t k e (at_end m) =
    let same : m ≡ k = omega (arith, e) in
    subst (λ (i : ℕ). ArePicked x m (t ∷ []) (i ∷ [])) same (picked m t [] [] (at_end (suc m)))
picked-push x n ts own t k e (picked m u us rest h) = picked m u (us ++ t ∷ []) (rest ++ k ∷ []) (picked-push x (suc m) us rest t k (omega (arith, e)) h)
picked-push x n ts own t k e (passed m u us rest out h) = passed m u (us ++ t ∷ []) (rest ++ k ∷ []) out (picked-push x (suc m) us rest t k (omega (arith, e)) h)

-- a place whose variable is no subtree doesn't stand in a tree
mutual
  never-stands : (l : ℕ) (t : Tree) → IsQuantifierFree t → ((s : Sort) → In (Variable l s) (post_order t) → ⊥) → occurrences l t ≡ 0
  never-stands l (Constant i s) free h = refl
  never-stands l (Variable m s) free h = go (m == l) refl
    where
      go : (b : Bool) → (m == l) ≡ b → ◌≡◌ {A = ℕ} (cond b 1 0) 0
      go true e = absurd (h s (inl (ap (λ k. Variable k s) (sym (eqb-true m l e)))))
      go false e = refl
  never-stands l (Literal s n) free h = refl
  never-stands l (Apply o args) free h = never-stands_each l args free (λ s k. h s (in-left (Variable l s) (post_order_each args) (Apply o args ∷ []) k))
  never-stands l (ForAll m s body) free h = absurd free
  never-stands l (Exists m s body) free h = absurd free

  never-stands_each : (l : ℕ) (ts : Trees) → AreQuantifierFree ts → ((s : Sort) → In (Variable l s) (post_order_each ts) → ⊥) → occurrences_in_each l ts ≡ 0
  never-stands_each l Nil free h = refl
  never-stands_each l (Cons t ts) free h =
      let first : occurrences l t ≡ 0 = never-stands l t free.0 (λ s k. h s (in-left (Variable l s) (post_order t) (post_order_each ts) k)) in
      let rest : occurrences_in_each l ts ≡ 0 = never-stands_each l ts free.1 (λ s k. h s (in-right (Variable l s) (post_order t) (post_order_each ts) k)) in
      omega (arith, first, rest)

not-in : (l : ℕ) (t : Tree) → IsQuantifierFree t → ((s : Sort) → In (Variable l s) (with_nodes [] t) → ⊥) → is_in l t ≡ false
not-in l t free h =
    let of = of-tree [] t (λ u x k _. k) in
    ap (λ n. not (n == 0)) (never-stands l t free (λ s k. h s (subst (In (Variable l s)) (sym of.0) (firsts-gain [] (post_order t) (Variable l s) k))))

-- ---- one more subtree

-- what was noted for the subtrees so far
abbrev pub Noting : (first n : ℕ) → List Tree → (old new : List (List ℕ)) → Type 0
Noting first n us old new =
    (length new ≡ length old) × ((j : ℕ) (before own : List ℕ) → slice_get old j ≡ Some before → slice_get new j ≡ Some own →
    ((own ≡ before) × ((s : Sort) → In (Variable (first + j) s) us → ⊥)) ⊎ (own ≡ before ++ n ∷ []))

pub nothing-noted : (first n : ℕ) (old : List (List ℕ)) → Noting first n [] old old
nothing-noted first n old = (refl, λ j before own e f. inl (let both : Some before ≡ Some own = sym e ∙ f in cc, λ s k. k))

ends : (n : ℕ) (xs : List ℕ) → EndsWith n (xs ++ n ∷ [])
ends n xs =
    let last : length (xs ++ n ∷ []) - 1 ≡ length xs = omega (arith, length-append xs (n ∷ [])) in
    ap (slice_get (xs ++ n ∷ [])) last ∙ pushed-last xs n

low-end : (n : ℕ) (xs : List ℕ) → AllByRecursion (λ m. m < n) xs → EndsWith n xs → ⊥
low-end n xs low h = let own : n < n = all-at (λ m. m < n) xs (length xs - 1) n low h in omega (arith, own)

pub noted-next : (first n : ℕ) (us : List Tree) (t : Tree) (old mid new : List (List ℕ)) → AreLess n old → Noting first n us old mid → NotesTree first n t mid new → Noting first n (us ++ t ∷ []) old new
noted-next first n us t old mid new low h k = (k.0 ∙ h.0, at)
  where
    at : (j : ℕ) (before own : List ℕ) → slice_get old j ≡ Some before → slice_get new j ≡ Some own → ((own ≡ before) × ((s : Sort) → In (Variable (first + j) s) (us ++ t ∷ []) → ⊥)) ⊎ (own ≡ before ++ n ∷ [])
    at j before own e f =
        let there = found-at mid j (omega (arith, h.0, slice_get_within old j before e)) in
        step (h.1 j before there.0 e there.1) (k.1 j there.0 own there.1 f)
      where
        nowhere : ((s : Sort) → In (Variable (first + j) s) us → ⊥) → ((s : Sort) → t ≡ Variable (first + j) s → ⊥) → (s : Sort) → In (Variable (first + j) s) (us ++ t ∷ []) → ⊥
        nowhere a b s i = elim (in-either (Variable (first + j) s) us (t ∷ []) i) [ inl x ↦ a s x | inr (inl y) ↦ b s (sym y) | inr (inr none) ↦ none ]

        step : {m : List ℕ} → ((m ≡ before) × ((s : Sort) → In (Variable (first + j) s) us → ⊥)) ⊎ (m ≡ before ++ n ∷ []) → ((own ≡ m) × ((s : Sort) → t ≡ Variable (first + j) s → ⊥)) ⊎ IsNoted n m own
            → ((own ≡ before) × ((s : Sort) → In (Variable (first + j) s) (us ++ t ∷ []) → ⊥)) ⊎ (own ≡ before ++ n ∷ [])
        step {m} (inl a) (inl b) = inl (b.0 ∙ a.0, nowhere a.1 b.1)
        step {m} (inl a) (inr (inl b)) = inr (b.0 ∙ ap (λ xs. xs ++ n ∷ []) a.0)
        step {m} (inl a) (inr (inr b)) = absurd (low-end n before (low j before e) (subst (EndsWith n) a.0 b.1))
        step {m} (inr a) (inl b) = inr (b.0 ∙ a)
        step {m} (inr a) (inr (inl b)) = absurd (b.1 (subst (EndsWith n) (sym a) (ends n before)))
        step {m} (inr a) (inr (inr b)) = inr (b.0 ∙ a)

pub listed-one : (first n : ℕ) (t : Tree) (old new : List (List ℕ)) → IsQuantifierFree t → Noting first n (with_nodes [] t) old new → ListsOne first n t old new
listed-one first n t old new free h = (
  h.0,
  λ ts many listed j own f.
      let there = found-at old j (omega (arith, h.0, slice_get_within new j own f)) in
      step ts many j own (h.1 j there.0 own there.1 f) (listed j there.0 there.1),
)
  where
    step : (ts : List Tree) → length ts ≡ n → (j : ℕ) (own : List ℕ) {before : List ℕ} → ((own ≡ before) × ((s : Sort) → In (Variable (first + j) s) (with_nodes [] t) → ⊥)) ⊎ (own ≡ before ++ n ∷ []) → ArePicked (first + j) 0 ts before → ArePicked (first + j) 0 (ts ++ t ∷ []) own
    step ts many j own {before} (inl a) k = subst (ArePicked (first + j) 0 (ts ++ t ∷ [])) (sym a.0) (picked-pass (first + j) 0 ts before t (not-in (first + j) t free a.1) k)
    step ts many j own {before} (inr e) k = subst (ArePicked (first + j) 0 (ts ++ t ∷ [])) (sym e) (picked-push (first + j) 0 ts before t n (omega (arith, many)) k)

-- ---- one list of numbers is set

get-cases : (old : List (Vec ℕ Global)) (j : ℕ) (w : Vec ℕ Global) (k : ℕ) (before own : List ℕ) → slice_get (numbers_in old) k ≡ Some before → slice_get (numbers_in (set old j w)) k ≡ Some own
    → ((k ≡ j) × (own ≡ w.items)) ⊎ ((k ≡ j → ⊥) × (own ≡ before))
get-cases [] j w k before own e f = absurd (cc)
get-cases (v ∷ vs) zero w zero before own e f = inl (refl, let both : Some w.items ≡ Some own = f in cc)
get-cases (v ∷ vs) zero w (suc k) before own e f = inr (λ h. omega (arith, h), let both : Some before ≡ Some own = sym e ∙ f in cc)
get-cases (v ∷ vs) (suc j) w zero before own e f = inr (λ h. omega (arith, h), let both : Some before ≡ Some own = sym e ∙ f in cc)
get-cases (v ∷ vs) (suc j) w (suc k) before own e f =
    elim (get-cases vs j w k before own e f) [ inl a ↦ inl (ap suc a.0, a.1) | inr b ↦ inr (λ h. b.0 (omega (arith, h)), b.1) ]

get-own : (old : List (Vec ℕ Global)) (j : ℕ) (v : Vec ℕ Global) (before : List ℕ) → v ≡ get_or old j v → slice_get (numbers_in old) j ≡ Some before → before ≡ v.items
get-own [] j v before e f = absurd (cc)
get-own (u ∷ us) zero v before e f = let both : Some before ≡ Some u.items = sym f in let same : before ≡ u.items = cc in same ∙ sym (ap (λ w. w.items) e)
get-own (u ∷ us) (suc j) v before e f = get-own us j v before e f

length-numbers : (old : List (Vec ℕ Global)) (j : ℕ) (w : Vec ℕ Global) → length (numbers_in (set old j w)) ≡ length (numbers_in old)
length-numbers [] j w = refl
length-numbers (v ∷ vs) zero w = refl
length-numbers (v ∷ vs) (suc j) w = ap suc (length-numbers vs j w)

pub noted-there : (first n : ℕ) (t : Tree) (old : List (Vec ℕ Global)) (j : ℕ) (v w : Vec ℕ Global) → v ≡ get_or old j v → IsNoted n v.items w.items → (s : Sort) → t ≡ Variable (first + j) s → NotesTree first n t (numbers_in old) (numbers_in (set old j w))
noted-there first n t old j v w e noted s is = (
  length-numbers old j w,
  λ k before own g h. elim (get-cases old j w k before own g h) [
    | inl a ↦ inr (subst (IsNoted n before) (sym a.1) (subst (λ (xs : List ℕ). IsNoted n xs w.items) (sym (get-own old j v before e (subst (λ (i : ℕ). slice_get (numbers_in old) i ≡ Some before) a.0 g))) noted))
    | inr b ↦ inl (b.1, λ r at. let level : first + k ≡ first + j = levels k r at in b.0 (omega (arith, level)))
  ],
)
  where
    levels : (k : ℕ) (r : Sort) → t ≡ Variable (first + k) r → first + k ≡ first + j
    levels k r at = let both : Variable (first + k) r ≡ Variable (first + j) s = sym at ∙ is in cc

-- the place of a variable, and of other trees
pub place-of_variable : (first many level : ℕ) (r : Sort) (o : Option ℕ) → IsPlaceAt first many level o → IsPlaceOf first many (Variable level r) o
place-of_variable first many level r None h = λ j s low e. h j low (let same : Variable level r ≡ Variable (first + j) s = e in cc)
place-of_variable first many level r (Some j) h = (h.0, (r, ap (λ l. Variable l r) h.1))

pub noted-nowhere : (first n many : ℕ) (t : Tree) (old : List (List ℕ)) → many ≡ length old → IsPlaceOf first many t None → NotesTree first n t old old
noted-nowhere first n many t old long none = (
  refl,
  λ j before own e f. inl (
    let both : Some before ≡ Some own = sym e ∙ f in cc,
    λ s is. none j s (omega (arith, long, slice_get_within old j before e)) is,
  ),
)

-- one more list
pub less-pushed : (n : ℕ) (lists : List (List ℕ)) (ys : List ℕ) → AreLess n lists → AllByRecursion (λ m. m < n) ys → AreLess n (lists ++ ys ∷ [])
less-pushed n lists ys h k j own e = elim (pushed-cases lists ys j own e) [ inl a ↦ h j own a | inr b ↦ subst (AllByRecursion (λ m. m < n)) b.1 k ]

-- numbers in picked lists
pub less-picked : (x n : ℕ) (ts : List Tree) (own : List ℕ) (m : ℕ) → m ≡ n + length ts → ArePicked x n ts own → AllByRecursion (λ i. i < m) own
less-picked x n ts own m e (at_end k) = tt
less-picked x n ts own m e (picked k u us rest h) = (omega (arith, e), less-picked x (suc k) us rest m (omega (arith, e)) h)
less-picked x n ts own m e (passed k u us rest out h) = less-picked x (suc k) us rest m (omega (arith, e)) h

pub none-listed : (first : ℕ) (lists : List (List ℕ)) → AreLess 0 lists → AreListed first [] lists
none-listed first lists h j own e = go own (h j own e)
  where
    go : (xs : List ℕ) → AllByRecursion (λ m. m < 0) xs → ArePicked (first + j) 0 [] xs
    go [] k = at_end 0
    go (x ∷ xs) k = let low = k.0 in absurd (omega (arith, low))

pub less-listed : (first n : ℕ) (ts : List Tree) (lists : List (List ℕ)) → length ts ≡ n → AreListed first ts lists → AreLess n lists
less-listed first n ts lists many h j own e = less-picked (first + j) 0 ts own n (omega (arith, many)) (h j own e)
