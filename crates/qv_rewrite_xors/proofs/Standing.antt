-- Chains of terms in a store that grows.
use Rattle.std.proofs.Common.{◌≡◌, ℕ, suc, ◌+◌, ◌<◌, ◌==◌, Bool, true, false, cond, Option, Some, None, List, [], ◌∷◌, ◌++◌, map, fold, length, get_or, take, refl, ap, sym, ◌∙◌, subst, bit_xor}
use Rattle.std.specs.Prelude.{option_map}
use Rattle.std.specs.List.{AllByRecursion, remove}
use Rattle.std.proofs.lemmas.List.{take_more, map-append}
use Rattle.std.proofs.lemmas.List.Sums.{fold_push}
use Rattle.qv_words.specs.declared.sort.Sort.{Sort}
use Rattle.qv_words.specs.declared.op.Op.{Op}
use Rattle.qv_words.specs.Tree.{Tree, tree_sort}
use Rattle.qv_words.specs.Equality.{tree_eq}
use Rattle.qv_words.specs.Prenex.{binary}
use Rattle.qv_words.proofs.Elements.{all-weaker}
use Rattle.qv_words.proofs.Leaves.{both}
use Rattle.qv_words.proofs.Equals.{tree_eq-refl, tree_eq-is, test-refl, eq-from_test}
use Rattle.qv_rewrite_passes.specs.Xors.{toggled, linked}
use Rattle.qv_store.specs.Nodes.{tree_at}
use Rattle.qv_store.specs.Stores.{AreShared, Grows}
use Rattle.qv_store.proofs.Replacement.{grown-tree, grown-within}
use Rattle.qv_rewrite_sums.specs.Held.{first_place, StandsAs}
use Rattle.qv_rewrite_sums.proofs.Held.{at-place, grown-ids}
use Rattle.qv_rewrite_xors.specs.declared.chained.Chained.{Chained}
use Rattle.qv_rewrite_xors.specs.Held.{chain_at, toggled_ids, AreBelow, IsOfSort, IsChainOf}

-- a term that stands somewhere has its sort there
pub of-standing : (trees : List Tree) (s : Sort) (id : ℕ) (t : Tree) → StandsAs trees s id t → IsOfSort trees s id
of-standing trees s id t k = record { below = k.stands.below; sort = ap tree_sort k.stands.tree ∙ k.sort }

pub stands-itself : (trees : List Tree) (s : Sort) (id : ℕ) → IsOfSort trees s id → StandsAs trees s id (tree_at trees id)
stands-itself trees s id k = record { stands = record { below = k.below; tree = refl }; sort = k.sort }

pub sort-grown : (old new : List Tree) (s : Sort) (id : ℕ) → Grows old new → IsOfSort old s id → IsOfSort new s id
sort-grown old new s id grows k = record { below = grown-within old new grows id k.below; sort = ap tree_sort (grown-tree old new grows id k.below) ∙ k.sort }

pub sorts-grown : (old new : List Tree) (s : Sort) (ids : List ℕ) → Grows old new → AllByRecursion (IsOfSort old s) ids → AllByRecursion (IsOfSort new s) ids
sorts-grown old new s ids grows h = all-weaker (IsOfSort old s) (IsOfSort new s) ids (λ id k. sort-grown old new s id grows k) h

-- one term more joined
pub joined-more : (old now : List Tree) (o : Op) (s : Sort) (first : Tree) (rest : List ℕ) (k x term : ℕ) → Grows old now → k < length rest → x ≡ get_or rest k x → AllByRecursion (IsOfSort old s) rest → tree_at now term ≡ fold (binary o) first (map (tree_at old) (take k rest))
    → binary o (tree_at now term) (tree_at now x) ≡ fold (binary o) first (map (tree_at old) (take (k + 1) rest))
joined-more old now o s first rest k x term grows low at sorts so =
    let own : tree_at now x ≡ tree_at old x = grown-tree old now grows x (at-place (IsOfSort old s) rest k x sorts low at).below in
    ap (λ (t : Tree). binary o t (tree_at now x)) so
    ∙ ap (λ (t : Tree). binary o (fold (binary o) first (map (tree_at old) (take k rest))) t) own
    ∙ sym (fold_push (binary o) first (map (tree_at old) (take k rest)) (tree_at old x))
    ∙ sym (ap (fold (binary o) first)
    (ap (map (tree_at old)) (take_more rest k x low ∙ ap (λ (n : ℕ). take k rest ++ n ∷ []) (sym at))
    ∙ map-append (tree_at old) (take k rest) (x ∷ [])))

-- equal terms have one number
same-number : (trees : List Tree) (m n : ℕ) → AreShared trees → m < length trees → n < length trees → tree_eq (tree_at trees m) (tree_at trees n) ≡ (m == n)
same-number trees m n shared h k = go (tree_eq (tree_at trees m) (tree_at trees n)) refl (m == n) refl
  where
    go : (a : Bool) → tree_eq (tree_at trees m) (tree_at trees n) ≡ a → (b : Bool) → (m == n) ≡ b → a ≡ b
    go true is true e = refl
    go false is false e = refl
    go true is false e =
        let same : m ≡ n = shared.once m n h k (tree_eq-is (tree_at trees m) (tree_at trees n) is) in
        let one : (m == n) ≡ true = ap (λ (x : ℕ). m == x) (sym same) ∙ test-refl m in
        sym one ∙ e
    go false is true e =
        let same : m ≡ n = eq-from_test m n e in
        sym is ∙ ap (λ (x : ℕ). tree_eq (tree_at trees m) (tree_at trees x)) (sym same) ∙ tree_eq-refl (tree_at trees m)

-- one term more, as a number and as a tree
pub toggled-at : (trees : List Tree) (ids : List ℕ) (n : ℕ) → AreShared trees → AreBelow (length trees) ids → n < length trees → map (tree_at trees) (toggled_ids ids n) ≡ toggled (map (tree_at trees) ids) (tree_at trees n)
toggled-at trees [] n shared h k = refl
toggled-at trees (m ∷ ids) n shared h k =
    go (m == n) (toggled-at trees ids n shared h.1 k)
    ∙ ap (λ (b : Bool). cond b (map (tree_at trees) ids) (tree_at trees m ∷ toggled (map (tree_at trees) ids) (tree_at trees n))) (sym (same-number trees m n shared h.0 k))
  where
    go : (b : Bool) → map (tree_at trees) (toggled_ids ids n) ≡ toggled (map (tree_at trees) ids) (tree_at trees n)
        → map (tree_at trees) (cond b ids (m ∷ toggled_ids ids n)) ≡ cond b (map (tree_at trees) ids) (tree_at trees m ∷ toggled (map (tree_at trees) ids) (tree_at trees n))
    go true others = refl
    go false others = ap (λ (ts : List Tree). tree_at trees m ∷ ts) others

pub toggled-below : (most : ℕ) (ids : List ℕ) (n : ℕ) → AreBelow most ids → n < most → AreBelow most (toggled_ids ids n)
toggled-below most [] n h k = (k, tt)
toggled-below most (m ∷ ids) n h k = go (m == n) (toggled-below most ids n h.1 k)
  where
    go : (b : Bool) → AreBelow most (toggled_ids ids n) → AreBelow most (cond b ids (m ∷ toggled_ids ids n))
    go true others = h.1
    go false others = (h.0, others)

-- and more terms
pub linked-at : (trees : List Tree) (ids others : List ℕ) → AreShared trees → AreBelow (length trees) ids → AreBelow (length trees) others → map (tree_at trees) (fold toggled_ids ids others) ≡ fold toggled (map (tree_at trees) ids) (map (tree_at trees) others)
linked-at trees ids [] shared h k = refl
linked-at trees ids (n ∷ ns) shared h k =
    linked-at trees (toggled_ids ids n) ns shared (toggled-below (length trees) ids n h k.0) k.1
    ∙ ap (λ (ts : List Tree). fold toggled ts (map (tree_at trees) ns)) (toggled-at trees ids n shared h k.0)

pub linked-below : (most : ℕ) (ids others : List ℕ) → AreBelow most ids → AreBelow most others → AreBelow most (fold toggled_ids ids others)
linked-below most ids [] h k = h
linked-below most ids (n ∷ ns) h k = linked-below most (toggled_ids ids n) ns (toggled-below most ids n h k.0) k.1

-- two chains in one
pub linked-chain : (trees : List Tree) (p q r : Chained) → AreShared trees → AreBelow (length trees) p.atoms.items → AreBelow (length trees) q.atoms.items → r.constant ≡ bit_xor p.constant q.constant → r.atoms.items ≡ fold toggled_ids p.atoms.items q.atoms.items → chain_at trees r ≡ linked (chain_at trees p) (chain_at trees q)
linked-chain trees p q r shared h k number atoms =
    ap (λ (n : ℕ). record { constant = n; atoms = map (tree_at trees) r.atoms.items }) number
    ∙ ap (λ (ts : List Tree). record { constant = bit_xor p.constant q.constant; atoms = ts }) (ap (map (tree_at trees)) atoms ∙ linked-at trees p.atoms.items q.atoms.items shared h k)

-- one number more, by its first place
pub toggled-found : (ids : List ℕ) (n k : ℕ) → first_place (λ m. m == n) ids ≡ Some k → remove ids k ≡ toggled_ids ids n
toggled-found [] n k h = absurd (cc)
toggled-found (m ∷ ids) n k h = go (m == n) (λ j is. toggled-found ids n j is) h
  where
    behind : ((j : ℕ) → first_place (λ i. i == n) ids ≡ Some j → remove ids j ≡ toggled_ids ids n) → (q : Option ℕ) → first_place (λ j. j == n) ids ≡ q → option_map suc q ≡ Some k → remove (m ∷ ids) k ≡ m ∷ toggled_ids ids n
    behind others None is e = absurd (cc)
    behind others (Some j) is e =
        let next : suc j ≡ k = cc in
        ap (remove (m ∷ ids)) (sym next) ∙ ap (λ (ns : List ℕ). m ∷ ns) (others j is)

    go : (b : Bool) → ((j : ℕ) → first_place (λ i. i == n) ids ≡ Some j → remove ids j ≡ toggled_ids ids n) → cond b (Some 0) (option_map suc (first_place (λ j. j == n) ids)) ≡ Some k → remove (m ∷ ids) k ≡ cond b ids (m ∷ toggled_ids ids n)
    go true others e =
        let first : 0 ≡ k = cc in
        ap (remove (m ∷ ids)) (sym first)
    go false others e = behind others (first_place (λ j. j == n) ids) refl e

pub toggled-last : (ids : List ℕ) (n : ℕ) → first_place (λ m. m == n) ids ≡ None → ids ++ n ∷ [] ≡ toggled_ids ids n
toggled-last [] n h = refl
toggled-last (m ∷ ids) n h = go (m == n) (λ is. toggled-last ids n is) h
  where
    none : (q : Option ℕ) → option_map suc q ≡ None → q ≡ None
    none None e = refl
    none (Some j) e = absurd (cc)

    go : (b : Bool) → (first_place (λ j. j == n) ids ≡ None → ids ++ n ∷ [] ≡ toggled_ids ids n) → cond b (Some 0) (option_map suc (first_place (λ j. j == n) ids)) ≡ None → m ∷ (ids ++ n ∷ []) ≡ cond b ids (m ∷ toggled_ids ids n)
    go true others e = absurd (cc)
    go false others e = ap (λ (ns : List ℕ). m ∷ ns) (others (none (first_place (λ j. j == n) ids) e))

-- a chain stays that of its tree
pub grown-chain : (old new : List Tree) (p : Chained) → Grows old new → AreBelow (length old) p.atoms.items → chain_at new p ≡ chain_at old p
grown-chain old new p grows h = ap (λ (ts : List Tree). record { constant = p.constant; atoms = ts }) (grown-ids old new p.atoms.items grows h)

pub below-grown : (old new : List Tree) (ids : List ℕ) → Grows old new → AreBelow (length old) ids → AreBelow (length new) ids
below-grown old new ids grows h = all-weaker (λ id. id < length old) (λ id. id < length new) ids (λ id low. grown-within old new grows id low) h

pub chain-grown : (old new : List Tree) (t : Tree) (p : Chained) → Grows old new → IsChainOf old t p → IsChainOf new t p
chain-grown old new t p grows h = record {
  chain = grown-chain old new p grows h.below ∙ h.chain;
  below = below-grown old new p.atoms.items grows h.below;
}

-- terms of a sort, by their places and by their trees
pub of-sorts : (trees : List Tree) (s : Sort) (ids : List ℕ) → AllByRecursion (λ t. tree_sort t ≡ Some s) (map (tree_at trees) ids) → AreBelow (length trees) ids → AllByRecursion (IsOfSort trees s) ids
of-sorts trees s [] h k = tt
of-sorts trees s (n ∷ ids) h k = (record { below = k.0; sort = h.0 }, of-sorts trees s ids h.1 k.1)

-- one term more that is made of another
pub made-more : (old now new : List Tree) (g : Tree → Tree) (s : Sort) (atoms made pushed : List ℕ) (k x id : ℕ) → Grows old now → Grows now new → k < length atoms → x ≡ get_or atoms k x → AreBelow (length old) atoms → AllByRecursion (IsOfSort now s) made
    → map (tree_at now) made ≡ map g (map (tree_at old) (take k atoms)) → tree_at new id ≡ g (tree_at now x) → pushed ≡ made ++ id ∷ [] → map (tree_at new) pushed ≡ map g (map (tree_at old) (take (k + 1) atoms))
made-more old now new g s atoms made pushed k x id before grows low at below sorts so own is =
    let kept : map (tree_at new) made ≡ map (tree_at now) made = grown-ids now new made grows (all-weaker (IsOfSort now s) (λ n. n < length now) made (λ n h. h.below) sorts) in
    let one : tree_at new id ≡ g (tree_at old x) = own ∙ ap g (grown-tree old now before x (at-place (λ n. n < length old) atoms k x below low at)) in
    let next : take (k + 1) atoms ≡ take k atoms ++ x ∷ [] = take_more atoms k x low ∙ ap (λ (n : ℕ). take k atoms ++ n ∷ []) (sym at) in
    let front = map (tree_at old) (take k atoms) in
    ap (map (tree_at new)) is
    ∙ map-append (tree_at new) made (id ∷ [])
    ∙ ap (λ (ts : List Tree). ts ++ tree_at new id ∷ []) (kept ∙ so)
    ∙ ap (λ (t : Tree). map g front ++ t ∷ []) one
    ∙ sym (map-append g front (tree_at old x ∷ []))
    ∙ sym (ap (map g) (ap (map (tree_at old)) next ∙ map-append (tree_at old) (take k atoms) (x ∷ [])))

pub sorts-more : (now new : List Tree) (s : Sort) (made pushed : List ℕ) (id : ℕ) → Grows now new → AllByRecursion (IsOfSort now s) made → IsOfSort new s id → pushed ≡ made ++ id ∷ [] → AllByRecursion (IsOfSort new s) pushed
sorts-more now new s made pushed id grows h k is =
    subst (AllByRecursion (IsOfSort new s)) (sym is) (both (IsOfSort new s) made (id ∷ []) (sorts-grown now new s made grows h) (k, tt))
