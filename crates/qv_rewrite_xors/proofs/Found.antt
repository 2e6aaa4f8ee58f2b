-- The chains of a walk's terms, over a store that grows.
use Rattle.std.proofs.Common.{◌≡◌, ℕ, ◌<◌, Some, List, [], ◌∷◌, ◌++◌, length, get_or, slice_get, ◌⊎◌, inl, inr, ap, sym, ◌∙◌, subst, refl}
use Rattle.std.proofs.lemmas.Option.{slice_get_read}
use Rattle.qv_words.specs.Tree.{Tree}
use Rattle.qv_words.proofs.Elements.{pushed-cases}
use Rattle.qv_store.specs.Nodes.{tree_at}
use Rattle.qv_store.specs.Stores.{Grows}
use Rattle.qv_store.specs.Walks.{IsWalk, IsFound}
use Rattle.qv_store.proofs.Replacement.{grown-tree, grown-walk, walk-low}
use Rattle.qv_rewrite_xors.specs.declared.chained.Chained.{Chained}
use Rattle.qv_rewrite_xors.specs.Held.{IsChainOf, AreChains, IsNext}
use Rattle.qv_rewrite_xors.proofs.Standing.{chain-grown}

pub chains-grown : (old new : List Tree) (tree : ℕ → Tree) (ids : List ℕ) (chains : List Chained) → Grows old new → AreChains old tree ids chains → AreChains new tree ids chains
chains-grown old new tree ids chains grows h = λ k n p at found. chain-grown old new (tree n) p grows (h k n p at found)

-- one chain more
chains-push : (trees : List Tree) (tree : ℕ → Tree) (ids : List ℕ) (chains : List Chained) (n : ℕ) (p : Chained) → AreChains trees tree ids chains → slice_get ids (length chains) ≡ Some n → IsChainOf trees (tree n) p → AreChains trees tree ids (chains ++ p ∷ [])
chains-push trees tree ids chains n p h at own k m q there found = by (pushed-cases chains p k q found)
  where
    by : (slice_get chains k ≡ Some q) ⊎ ((k ≡ length chains) × (p ≡ q)) → IsChainOf trees (tree m) q
    by (inl before) = h k m q there before
    by (inr last) =
        let same : Some n ≡ Some m = sym at ∙ sym (ap (slice_get ids) last.0) ∙ there in
        let one : n ≡ m = cc in
        subst (λ (r : Chained). IsChainOf trees (tree m) r) last.1 (subst (λ (j : ℕ). IsChainOf trees (tree j) p) one own)

-- the chain that was found for a term
pub chain-found : (trees : List Tree) (tree : ℕ → Tree) (ids : List ℕ) (chains : List Chained) (n : ℕ) (p : Chained) → AreChains trees tree ids chains → IsFound ids chains n p → IsChainOf trees (tree n) p
chain-found trees tree ids chains n p h f = h f.place n p f.at f.found

-- the chains of terms of the old store are those of the terms in the greater one
pub chains-turned : (old now : List Tree) (ids : List ℕ) (chains : List Chained) → Grows old now → IsWalk old ids → AreChains now (tree_at old) ids chains → AreChains now (tree_at now) ids chains
chains-turned old now ids chains grows walk h = λ k n p at found.
    subst (λ (t : Tree). IsChainOf now t p) (sym (grown-tree old now grows n (walk-low old ids walk k n at))) (h k n p at found)

-- the next term of a walk in a store that grew
pub next-of : (old now : List Tree) (items ids : List ℕ) (chains lent : List Chained) (k n : ℕ) → Grows old now → items ≡ ids → lent ≡ chains → length chains ≡ k → k < length items → n ≡ get_or items k n → IsWalk old ids → AreChains now (tree_at old) ids chains → IsNext now ids lent n
next-of old now items ids chains lent k n grows same own many low at walk h =
    let there : slice_get ids k ≡ Some n = subst (λ (is : List ℕ). slice_get is k ≡ Some n) same (slice_get_read items (length items) k n refl low at) in
    record {
      walk = grown-walk old now grows ids walk;
      at = subst (λ (j : ℕ). slice_get ids j ≡ Some n) (sym many ∙ ap length (sym own)) there;
      found = subst (AreChains now (tree_at now) ids) (sym own) (chains-turned old now ids chains grows walk h);
    }

-- one chain more
pub chains-more : (old now new : List Tree) (items ids : List ℕ) (chains pushed : List Chained) (k n : ℕ) (p : Chained) → Grows old now → Grows now new → items ≡ ids → length chains ≡ k → k < length items → n ≡ get_or items k n → IsWalk old ids
    → AreChains now (tree_at old) ids chains → IsChainOf new (tree_at now n) p → pushed ≡ chains ++ p ∷ [] → AreChains new (tree_at old) ids pushed
chains-more old now new items ids chains pushed k n p g grows same many low at walk h own is =
    let there : slice_get ids k ≡ Some n = subst (λ (js : List ℕ). slice_get js k ≡ Some n) same (slice_get_read items (length items) k n refl low at) in
    let here : IsChainOf new (tree_at old n) p = subst (λ (t : Tree). IsChainOf new t p) (grown-tree old now g n (walk-low old ids walk k n there)) own in
    subst (AreChains new (tree_at old) ids) (sym is)
    (chains-push new (tree_at old) ids chains n p (chains-grown now new (tree_at old) ids chains grows h) (subst (λ (j : ℕ). slice_get ids j ≡ Some n) (sym many) there) here)

pub chains-none : (trees : List Tree) (tree : ℕ → Tree) (ids : List ℕ) (chains : List Chained) → chains ≡ [] → AreChains trees tree ids chains
chains-none trees tree ids chains none = subst (AreChains trees tree ids) (sym none) (λ k n p at found. absurd (cc))
