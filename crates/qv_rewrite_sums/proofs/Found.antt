-- The sums of a walk's terms, over a store that grows.
use Rattle.std.proofs.Common.{◌≡◌, ℕ, ◌<◌, ◌≤◌, Some, List, [], ◌∷◌, ◌++◌, Vec, length, get_or, slice_get, ◌⊎◌, inl, inr, refl, ap, sym, ◌∙◌, subst, arith}
use Rattle.std.specs.declared.alloc.Global.{Global}
use Rattle.std.proofs.lemmas.List.{length-append, length-map, map-append}
use Rattle.std.specs.List.{AllByRecursion}
use Rattle.std.proofs.lemmas.Option.{slice_get_read}
use Rattle.qv_words.specs.Tree.{Tree}
use Rattle.qv_words.proofs.Elements.{all-weaker, get-map, pushed-cases}
use Rattle.qv_store.specs.Nodes.{tree_at}
use Rattle.qv_store.specs.Stores.{Grows}
use Rattle.qv_store.specs.Walks.{IsWalk, IsFound}
use Rattle.qv_store.proofs.Replacement.{grown-tree, grown-within, grown-walk, walk-low}
use Rattle.qv_rewrite_sums.specs.declared.product.Product.{Product}
use Rattle.qv_rewrite_sums.specs.Held.{sums_in, AreBelow, IsSumOf, AreSums, IsNext}
use Rattle.qv_rewrite_sums.proofs.Held.{grown-sum}

below-more : (m n : ℕ) → m ≤ n → (p : List Product) → AreBelow m p → AreBelow n p
below-more m n le p h = all-weaker (λ (k : Product). AllByRecursion (λ id. id < m) k.factors.items) (λ (k : Product). AllByRecursion (λ id. id < n) k.factors.items) p (λ k g. all-weaker (λ id. id < m) (λ id. id < n) k.factors.items (λ id low. omega (arith, low, le)) g) h

-- a sum stays that of its tree
pub sum-grown : (old new : List Tree) (t : Tree) (p : List Product) → Grows old new → IsSumOf old t p → IsSumOf new t p
sum-grown old new t p grows h = record {
  sum = grown-sum old new p grows h.below ∙ h.sum;
  below = below-more (length old) (length new) (longer old new grows) p h.below;
}
  where
    longer : (a b : List Tree) → Grows a b → length a ≤ length b
    longer a b g = omega (arith, ap length g.behind, length-append a g.more)

pub sums-grown : (old new : List Tree) (tree : ℕ → Tree) (ids : List ℕ) (sums : List (List Product)) → Grows old new → AreSums old tree ids sums → AreSums new tree ids sums
sums-grown old new tree ids sums grows h = λ k n p at found. sum-grown old new (tree n) p grows (h k n p at found)

-- one sum more
pub sums-push : (trees : List Tree) (tree : ℕ → Tree) (ids : List ℕ) (sums : List (List Product)) (n : ℕ) (p : List Product) → AreSums trees tree ids sums → slice_get ids (length sums) ≡ Some n → IsSumOf trees (tree n) p → AreSums trees tree ids (sums ++ p ∷ [])
sums-push trees tree ids sums n p h at own k m q there found = by (pushed-cases sums p k q found)
  where
    by : (slice_get sums k ≡ Some q) ⊎ ((k ≡ length sums) × (p ≡ q)) → IsSumOf trees (tree m) q
    by (inl before) = h k m q there before
    by (inr last) =
        let same : Some n ≡ Some m = sym at ∙ sym (ap (slice_get ids) last.0) ∙ there in
        let one : n ≡ m = cc in
        subst (λ (r : List Product). IsSumOf trees (tree m) r) last.1 (subst (λ (j : ℕ). IsSumOf trees (tree j) p) one own)

-- the sum that was found for a term
pub sum-found : (trees : List Tree) (tree : ℕ → Tree) (ids : List ℕ) (sums : List (Vec Product Global)) (n : ℕ) (v : Vec Product Global) → AreSums trees tree ids (sums_in sums) → IsFound ids sums n v → IsSumOf trees (tree n) v.items
sum-found trees tree ids sums n v h f = h f.place n v.items f.at (get-map (λ (x : Vec Product Global). x.items) sums f.place v f.found)

-- the sums of terms of the old store are those of the terms in the greater one
pub sums-turned : (old now : List Tree) (ids : List ℕ) (sums : List (List Product)) → Grows old now → IsWalk old ids → AreSums now (tree_at old) ids sums → AreSums now (tree_at now) ids sums
sums-turned old now ids sums grows walk h = λ k n p at found.
    subst (λ (t : Tree). IsSumOf now t p) (sym (grown-tree old now grows n (walk-low old ids walk k n at))) (h k n p at found)

-- the next term of a walk in a store that grew
pub next-low : (old now : List Tree) (items ids : List ℕ) (k n : ℕ) → Grows old now → items ≡ ids → k < length items → n ≡ get_or items k n → IsWalk old ids → n < length now
next-low old now items ids k n grows same low at walk =
    let there : slice_get ids k ≡ Some n = subst (λ (is : List ℕ). slice_get is k ≡ Some n) same (slice_get_read items (length items) k n refl low at) in
    grown-within old now grows n (walk-low old ids walk k n there)

pub next-of : (old now : List Tree) (items ids : List ℕ) (sums lent : List (Vec Product Global)) (k n : ℕ) → Grows old now → items ≡ ids → lent ≡ sums → length sums ≡ k → k < length items → n ≡ get_or items k n → IsWalk old ids → AreSums now (tree_at old) ids (sums_in sums) → IsNext now ids (sums_in lent) n
next-of old now items ids sums lent k n grows same own many low at walk h =
    let there : slice_get ids k ≡ Some n = subst (λ (is : List ℕ). slice_get is k ≡ Some n) same (slice_get_read items (length items) k n refl low at) in
    let long : k ≡ length (sums_in lent) = sym many ∙ ap length (sym own) ∙ sym (length-map lent (λ (v : Vec Product Global). v.items)) in
    record {
      walk = grown-walk old now grows ids walk;
      at = subst (λ (j : ℕ). slice_get ids j ≡ Some n) long there;
      found = subst (λ (vs : List (Vec Product Global)). AreSums now (tree_at now) ids (sums_in vs)) (sym own) (sums-turned old now ids (sums_in sums) grows walk h);
    }

-- one sum more
pub sums-more : (old now new : List Tree) (items ids : List ℕ) (sums pushed : List (Vec Product Global)) (k n : ℕ) (v : Vec Product Global) → Grows old now → Grows now new → items ≡ ids → length sums ≡ k → k < length items → n ≡ get_or items k n → IsWalk old ids
    → AreSums now (tree_at old) ids (sums_in sums) → IsSumOf new (tree_at now n) v.items → pushed ≡ sums ++ v ∷ [] → AreSums new (tree_at old) ids (sums_in pushed)
sums-more old now new items ids sums pushed k n v g grows same many low at walk h own is =
    let there : slice_get ids k ≡ Some n = subst (λ (js : List ℕ). slice_get js k ≡ Some n) same (slice_get_read items (length items) k n refl low at) in
    let long : k ≡ length (sums_in sums) = sym many ∙ sym (length-map sums (λ (u : Vec Product Global). u.items)) in
    let here : IsSumOf new (tree_at old n) v.items = subst (λ (t : Tree). IsSumOf new t v.items) (grown-tree old now g n (walk-low old ids walk k n there)) own in
    subst (λ (qs : List (List Product)). AreSums new (tree_at old) ids qs)
    (sym (map-append (λ (u : Vec Product Global). u.items) sums (v ∷ [])) ∙ ap sums_in (sym is))
    (sums-push new (tree_at old) ids (sums_in sums) n v.items (sums-grown now new (tree_at old) ids (sums_in sums) grows h) (subst (λ (j : ℕ). slice_get ids j ≡ Some n) long there) here)

pub sums-none : (trees : List Tree) (tree : ℕ → Tree) (ids : List ℕ) (sums : List (Vec Product Global)) → sums ≡ [] → AreSums trees tree ids (sums_in sums)
sums-none trees tree ids sums none = subst (λ (vs : List (Vec Product Global)). AreSums trees tree ids (sums_in vs)) (sym none) (λ k n p at found. absurd (cc))
