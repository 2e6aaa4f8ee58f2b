-- What is made of a walk's terms, over a store that grows.
use Rattle.std.proofs.Common.{◌≡◌, ℕ, ◌<◌, Some, List, [], ◌∷◌, ◌++◌, length, get_or, slice_get, ◌⊎◌, inl, inr, ap, sym, ◌∙◌, subst, refl}
use Rattle.std.proofs.lemmas.Option.{slice_get_read}
use Rattle.qv_words.specs.Tree.{Tree}
use Rattle.qv_words.proofs.Elements.{pushed-cases}
use Rattle.qv_store.specs.Nodes.{tree_at}
use Rattle.qv_store.specs.Stores.{Grows, StandsAt}
use Rattle.qv_store.specs.Walks.{IsWalk, IsFound}
use Rattle.qv_store.proofs.Replacement.{grown-tree, grown-within, grown-walk, grown-stands, walk-low}
use Rattle.qv_rewrite_passes.specs.Simps.{simped}
use Rattle.qv_rewrite_simps.specs.Held.{AreSimped, IsNext}

pub simped-grown : (old new : List Tree) (tree : ℕ → Tree) (ids : List ℕ) (made : List ℕ) → Grows old new → AreSimped old tree ids made → AreSimped new tree ids made
simped-grown old new tree ids made grows h = λ k n p at found. grown-stands old new grows p (simped (tree n)) (h k n p at found)

-- one term more
simped-push : (trees : List Tree) (tree : ℕ → Tree) (ids : List ℕ) (made : List ℕ) (n : ℕ) (p : ℕ) → AreSimped trees tree ids made → slice_get ids (length made) ≡ Some n → StandsAt trees p (simped (tree n)) → AreSimped trees tree ids (made ++ p ∷ [])
simped-push trees tree ids made n p h at own k m q there found = by (pushed-cases made p k q found)
  where
    by : (slice_get made k ≡ Some q) ⊎ ((k ≡ length made) × (p ≡ q)) → StandsAt trees q (simped (tree m))
    by (inl before) = h k m q there before
    by (inr last) =
        let same : Some n ≡ Some m = sym at ∙ sym (ap (slice_get ids) last.0) ∙ there in
        let one : n ≡ m = cc in
        subst (λ (r : ℕ). StandsAt trees r (simped (tree m))) last.1 (subst (λ (j : ℕ). StandsAt trees p (simped (tree j))) one own)

-- what was made of a term
pub stands-found : (trees : List Tree) (tree : ℕ → Tree) (ids : List ℕ) (made : List ℕ) (n : ℕ) (p : ℕ) → AreSimped trees tree ids made → IsFound ids made n p → StandsAt trees p (simped (tree n))
stands-found trees tree ids made n p h f = h f.place n p f.at f.found

-- what was made of terms of the old store was made of the terms in the greater one
pub simped-turned : (old now : List Tree) (ids : List ℕ) (made : List ℕ) → Grows old now → IsWalk old ids → AreSimped now (tree_at old) ids made → AreSimped now (tree_at now) ids made
simped-turned old now ids made grows walk h = λ k n p at found.
    subst (λ (t : Tree). StandsAt now p (simped t)) (sym (grown-tree old now grows n (walk-low old ids walk k n at))) (h k n p at found)

-- the next term of a walk in a store that grew
pub next-of : (old now : List Tree) (items ids : List ℕ) (made lent : List ℕ) (k n : ℕ) → Grows old now → items ≡ ids → lent ≡ made → length made ≡ k → k < length items → n ≡ get_or items k n → IsWalk old ids → AreSimped now (tree_at old) ids made → IsNext now ids lent n
next-of old now items ids made lent k n grows same own many low at walk h =
    let there : slice_get ids k ≡ Some n = subst (λ (is : List ℕ). slice_get is k ≡ Some n) same (slice_get_read items (length items) k n refl low at) in
    record {
      walk = grown-walk old now grows ids walk;
      at = subst (λ (j : ℕ). slice_get ids j ≡ Some n) (sym many ∙ ap length (sym own)) there;
      found = subst (AreSimped now (tree_at now) ids) (sym own) (simped-turned old now ids made grows walk h);
    }

-- one term more
pub simped-more : (old now new : List Tree) (items ids : List ℕ) (made pushed : List ℕ) (k n : ℕ) (p : ℕ) → Grows old now → Grows now new → items ≡ ids → length made ≡ k → k < length items → n ≡ get_or items k n → IsWalk old ids
    → AreSimped now (tree_at old) ids made → StandsAt new p (simped (tree_at now n)) → pushed ≡ made ++ p ∷ [] → AreSimped new (tree_at old) ids pushed
simped-more old now new items ids made pushed k n p g grows same many low at walk h own is =
    let there : slice_get ids k ≡ Some n = subst (λ (js : List ℕ). slice_get js k ≡ Some n) same (slice_get_read items (length items) k n refl low at) in
    let here : StandsAt new p (simped (tree_at old n)) = subst (λ (t : Tree). StandsAt new p (simped t)) (grown-tree old now g n (walk-low old ids walk k n there)) own in
    subst (AreSimped new (tree_at old) ids) (sym is)
    (simped-push new (tree_at old) ids made n p (simped-grown now new (tree_at old) ids made grows h) (subst (λ (j : ℕ). slice_get ids j ≡ Some n) (sym many) there) here)

pub simped-none : (trees : List Tree) (tree : ℕ → Tree) (ids : List ℕ) (made : List ℕ) → made ≡ [] → AreSimped trees tree ids made
simped-none trees tree ids made none = subst (AreSimped trees tree ids) (sym none) (λ k n p at found. absurd (cc))

-- a term of a walk is in the greater store
pub next-low : (old now : List Tree) (items ids : List ℕ) (k n : ℕ) → Grows old now → items ≡ ids → k < length items → n ≡ get_or items k n → IsWalk old ids → n < length now
next-low old now items ids k n grows same low at walk =
    let there : slice_get ids k ≡ Some n = subst (λ (js : List ℕ). slice_get js k ≡ Some n) same (slice_get_read items (length items) k n refl low at) in
    grown-within old now grows n (walk-low old ids walk k n there)
