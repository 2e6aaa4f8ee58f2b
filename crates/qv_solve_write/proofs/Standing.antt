-- Where the terms of a walk stand.
use Rattle.std.proofs.Common.{◌≡◌, ◌≢◌, ℕ, zero, suc, ◌+◌, ◌<◌, ◌≤◌, ◌==◌, ◌||◌, Bool, true, false, cond, Some, List, [], ◌∷◌, ◌++◌, length, take, get_or, slice_get, refl, sym, ap, subst, ◌∙◌, arith}
use Rattle.std.specs.List.{AllByRecursion, AllZip, list_any}
use Rattle.std.proofs.lemmas.Bool.{eqb-true, false≢true}
use Rattle.std.proofs.lemmas.Bool.Decides.{Decides-eqb}
use Rattle.std.proofs.lemmas.List.{length-map, take_all, take_more}
use Rattle.std.proofs.lemmas.List.Elements.{recursion_from_All}
use Rattle.std.proofs.lemmas.Map.Made.{IsDistinct-from_AllPairs}
use Rattle.std.proofs.lemmas.Map.Steps.{length-le_from_distinct_below}
use Rattle.std.proofs.lemmas.Option.{get_or_from_slice_get, slice_get-get_or, slice_get_within}
use Rattle.qv_words.specs.declared.sort.Sort.TheVariants.{Bool as BoolSort}
use Rattle.qv_words.specs.Tree.{Tree, Literal}
use Rattle.qv_words.specs.Equality.{tree_eq}
use Rattle.qv_words.proofs.Elements.{get-map, get-take, get-taken, zip-append}
use Rattle.qv_words.proofs.Equals.{tree_eq-is, tree_eq-refl}
use Rattle.qv_store.specs.Nodes.{tree_at, trees_at}
use Rattle.qv_store.specs.Walks.{IsEarlier, IsWalk, named}
use Rattle.qv_solve_write_laws.specs.Writing.{number_of, numbers_of, place_of}
use Rattle.qv_solve_write.specs.Places.{IsNumbered}

-- the first place of a tree among others
pub first-place : (us : List Tree) (t : Tree) (n : ℕ) → slice_get us n ≡ Some t → ((m : ℕ) → slice_get us m ≡ Some t → n ≤ m) → place_of us t ≡ n
first-place [] t n at first = absurd cc
first-place (u ∷ us) t zero at first =
    let same : u ≡ t = cc in
    ap (λ (b : Bool). cond b 0 (suc (place_of us t))) (ap (tree_eq t) same ∙ tree_eq-refl t)
first-place (u ∷ us) t (suc n) at first = go (tree_eq t u) refl (first-place us t n at (λ m e. omega (arith, first (suc m) e)))
  where
    go : (b : Bool) → tree_eq t u ≡ b → place_of us t ≡ n → cond b 0 (suc (place_of us t)) ≡ suc n
    go true is later = absurd (let below : suc n ≤ 0 = first 0 (ap (λ (x : Tree). Some x) (sym (tree_eq-is t u is))) in omega (arith, below))
    go false is later = ap suc later

low : (n q : ℕ) (xs : List ℕ) → AllByRecursion (λ x. x < n) xs → list_any (λ x. q == x) xs ≡ true → q < n
low n q [] h e = absurd (false≢true e)
low n q (x ∷ xs) h e = go (q == x) refl e (λ k. low n q xs h.1 k)
  where
    go : (b : Bool) → (q == x) ≡ b → (b || list_any (λ y. q == y) xs) ≡ true → (list_any (λ y. q == y) xs ≡ true → q < n) → q < n
    go true is k others = let same : q ≡ x = eqb-true q x is in omega (arith, same, h.0)
    go false is k others = others k

module _ (trees : List Tree) (ids : List ℕ) (walk : IsWalk trees ids) where
  -- each tree stands once
  pub stands-once : (m n : ℕ) (t : Tree) → slice_get (named trees ids) m ≡ Some t → slice_get (named trees ids) n ≡ Some t → m ≡ n
  stands-once m n t e f =
      walk.shared.once m n (slice_get_within (named trees ids) m t e) (slice_get_within (named trees ids) n t f)
      (get_or_from_slice_get (named trees ids) m t (Literal BoolSort 0) e ∙ sym (get_or_from_slice_get (named trees ids) n t (Literal BoolSort 0) f))

  -- so a term's place is that of its tree, also among the first ones
  pub place-first : (id n i : ℕ) → slice_get ids n ≡ Some id → n < i → place_of (take i (named trees ids)) (tree_at trees id) ≡ n
  place-first id n i at h =
      let t = tree_at trees id in
      let here : slice_get (named trees ids) n ≡ Some t = get-map (tree_at trees) ids n id at in
      first-place (take i (named trees ids)) t n (get-take (named trees ids) i n t h here)
      (λ m e. let same : n ≡ m = stands-once n m t here (get-taken (named trees ids) i m t e) in omega (arith, same))

  pub place-all : (id n : ℕ) → slice_get ids n ≡ Some id → place_of (named trees ids) (tree_at trees id) ≡ n
  place-all id n at =
      let within = slice_get_within ids n id at in
      let whole : take (length ids) (named trees ids) ≡ named trees ids = take_all (length ids) (named trees ids) (omega (arith, length-map ids (tree_at trees))) in
      ap (λ (us : List Tree). place_of us (tree_at trees id)) (sym whole) ∙ place-first id n (length ids) at within

  -- a walk is no longer than the store
  pub walk-few : length ids ≤ length trees
  walk-few = length-le_from_distinct_below ids (length trees) (IsDistinct-from_AllPairs Decides-eqb ids apart) (λ q h. low (length trees) q ids (recursion_from_All _ ids walk.within) h)
    where
      at : (i d : ℕ) → i < length ids → slice_get (named trees ids) i ≡ Some (tree_at trees (get_or ids i d))
      at i d h = get-map (tree_at trees) ids i (get_or ids i d) (slice_get-get_or ids i d h)

      apart : (i j : ℕ) (d : ℕ) → i < j → j < length ids → get_or ids i d ≢ get_or ids j d
      apart i j d h k e =
          let same : i ≡ j = stands-once i j (tree_at trees (get_or ids j d)) (at i d (omega (arith, h, k)) ∙ ap (λ n. Some (tree_at trees n)) e) (at j d k) in
          omega (arith, same, h)

  -- the number of a term
  pub numbered : (id number : ℕ) → IsNumbered ids id number → number ≡ number_of (named trees ids) (tree_at trees id)
  numbered id number h = h.number_is ∙ ap suc (sym (place-all id h.place h.at))

  -- and those of earlier terms
  pub numbered-before : (i : ℕ) (kids numbers : List ℕ) → AllByRecursion (IsEarlier ids i) kids → AllZip (IsNumbered ids) kids numbers → numbers ≡ numbers_of (take i (named trees ids)) (trees_at trees kids)
  numbered-before i [] [] h f = refl
  numbered-before i [] (n ∷ ns) h f = absurd f
  numbered-before i (k ∷ ks) [] h f = absurd f
  numbered-before i (k ∷ ks) (n ∷ ns) h f =
      let t = tree_at trees k in
      let same : h.0.place ≡ f.0.place = stands-once h.0.place f.0.place t (get-map (tree_at trees) ids h.0.place k h.0.at) (get-map (tree_at trees) ids f.0.place k f.0.at) in
      let first : n ≡ suc (place_of (take i (named trees ids)) t) = f.0.number_is ∙ ap suc (sym same ∙ sym (place-first k h.0.place i h.0.at h.0.before)) in
      ap (λ x. x ∷ ns) first ∙ ap (λ xs. suc (place_of (take i (named trees ids)) t) ∷ xs) (numbered-before i ks ns h.1 f.1)

-- one more number
pub numbered-push : (ids kids numbers : List ℕ) (i kid n : ℕ) → AllZip (IsNumbered ids) (take i kids) numbers → i < length kids → kid ≡ get_or kids i kid → IsNumbered ids kid n → AllZip (IsNumbered ids) (take (i + 1) kids) (numbers ++ n ∷ [])
numbered-push ids kids numbers i kid n so h at own =
    let next : take (i + 1) kids ≡ take i kids ++ kid ∷ [] = take_more kids i kid h ∙ ap (λ k. take i kids ++ k ∷ []) (sym at) in
    subst (λ ks. AllZip (IsNumbered ids) ks (numbers ++ n ∷ [])) (sym next) (zip-append (IsNumbered ids) (take i kids) (kid ∷ []) numbers (n ∷ []) so (own, tt))
