-- The sorts of the trees of chains, and of the terms that these become.
use Rattle.std.proofs.Common.{◌≡◌, ℕ, ◌-◌, ◌^◌, ◌<◌, ◌==◌, Bool as Truth, true, false, cond, Option, Some, None, List, [], ◌∷◌, map, fold, length, refl, sym, ap, ◌∙◌, subst, inl, inr, ◌⊎◌}
use Rattle.std.specs.Prelude.{unwrap_or, option_map, option_and_then, nat_le, bit_xor}
use Rattle.std.specs.List.{AllByRecursion}
use Rattle.std.proofs.lemmas.Nat.{pow_pos, xor_lt}
use Rattle.qv_words.specs.declared.sort.Sort.{Sort}
use Rattle.qv_words.specs.declared.sort.Sort.TheVariants.{Bool, Bits}
use Rattle.qv_words.specs.declared.op.Op.{Op}
use Rattle.qv_words.specs.declared.op.Op.TheVariants.{Not, Xor, Equal, BvNot, BvXor}
use Rattle.qv_words.specs.Sort.{width_of}
use Rattle.qv_words.specs.Rank.{result_sort}
use Rattle.qv_words.specs.Tree.{Tree, Trees, Constant, Variable, Literal, Apply, ForAll, Exists, Nil, Cons, tree_sort, tree_sorts}
use Rattle.qv_words.specs.Sorted.{no_levels, IsSorted, AreSortedBelow}
use Rattle.qv_words.specs.Prenex.{binary, is_bool}
use Rattle.qv_words.specs.Inverse.{unary, number}
use Rattle.qv_words.proofs.Elements.{all-weaker}
use Rattle.qv_words.proofs.Equals.{test-refl}
use Rattle.qv_words.proofs.Existing.{has_sort}
use Rattle.qv_words.specs.Sums.{comes_before, in_order, bits_in}
use Rattle.qv_rewrite_passes.specs.Xors.{Chain, alone, flipped, linked, united, number_of, chain_or_alone, truth_term, word_term, as_truth, term_of, sort_in, terms_of, first_bits, applied, chain, chains}
use Rattle.qv_rewrite_passes.proofs.Linking.{all-linked, all-in_order}
use Rattle.qv_rewrite_passes.proofs.Chaining.{Links, Shape, shape-of, one-argument, two-arguments, sort-is}
use Rattle.qv_rewrite_xors.specs.Held.{IsAtom, IsChainFor}

-- a tree of this sort
abbrev pub HasSort : Sort → Tree → Type 0
HasSort s t = tree_sort t ≡ Some s

pub sort-binary : (o : Op) (x y s : Sort) (a b : Tree) → HasSort x a → HasSort y b → result_sort o (x ∷ y ∷ []) ≡ Some s → HasSort s (binary o a b)
sort-binary o x y s a b f g rank = rw (f, g) rank

pub sort-unary : (o : Op) (x s : Sort) (a : Tree) → HasSort x a → result_sort o (x ∷ []) ≡ Some s → HasSort s (unary o a)
sort-unary o x s a f rank = rw f rank

pub sort-joined : (o : Op) (s : Sort) (t : Tree) (ts : List Tree) → result_sort o (s ∷ s ∷ []) ≡ Some s → HasSort s t → AllByRecursion (HasSort s) ts → HasSort s (fold (binary o) t ts)
sort-joined o s t [] rank h k = h
sort-joined o s t (u ∷ us) rank h k = sort-joined o s (binary o t u) us rank (sort-binary o s s s t u h k.0 rank) k.1

pub xor-rank : (w : ℕ) → result_sort BvXor (Bits w ∷ Bits w ∷ []) ≡ Some (Bits w)
xor-rank w = rw (test-refl w) refl

-- the term of words
sort-word : (w n : ℕ) (ts : List Tree) → AllByRecursion (HasSort (Bits w)) ts → HasSort (Bits w) (word_term w n ts)
sort-word w n [] h = refl
sort-word w n (t ∷ ts) h = go (n == 0) (n == 2 ^ w - 1)
  where
    all : Tree
    all = fold (binary BvXor) t ts

    base : HasSort (Bits w) all
    base = sort-joined BvXor (Bits w) t ts (xor-rank w) h.0 h.1

    go : (a b : Truth) → HasSort (Bits w) (cond a all (cond b (unary BvNot all) (binary BvXor all (number w n))))
    go true b = base
    go false true = sort-unary BvNot (Bits w) (Bits w) all base refl
    go false false = sort-binary BvXor (Bits w) (Bits w) (Bits w) all (number w n) base refl (xor-rank w)

-- a bit as a truth value
pub truth-is : (t : Tree) → HasSort Bool t → as_truth t ≡ t
truth-is t h = ap (λ b. cond b t (binary Equal t (number 1 1))) (ap is_bool h)

pub bit-is : (t : Tree) (w : ℕ) → HasSort (Bits w) t → as_truth t ≡ binary Equal t (number 1 1)
bit-is t w h = ap (λ b. cond b t (binary Equal t (number 1 1))) (ap is_bool h)

pub sort-truth : (t : Tree) → IsAtom Bool t → HasSort Bool (as_truth t)
sort-truth t k = go k.0 k.1 k.2
  where
    go : (x : Sort) → width_of x ≡ 1 → HasSort x t → HasSort Bool (as_truth t)
    go Bool h is = ap tree_sort (truth-is t is) ∙ is
    go (Bits w) h is = ap tree_sort (bit-is t w is) ∙ sort-binary Equal (Bits 1) (Bits 1) Bool t (number 1 1) (is ∙ ap (λ n. Some (Bits n)) h) refl refl

pub sort-truths : (ts : List Tree) → AllByRecursion (IsAtom Bool) ts → AllByRecursion (HasSort Bool) (map as_truth ts)
sort-truths [] h = tt
sort-truths (t ∷ ts) h = (sort-truth t h.0, sort-truths ts h.1)

sort-truth_term : (n : ℕ) (ts : List Tree) → AllByRecursion (HasSort Bool) ts → HasSort Bool (truth_term n ts)
sort-truth_term n [] h = refl
sort-truth_term n (t ∷ ts) h = go (n == 0)
  where
    base : HasSort Bool (fold (binary Xor) t ts)
    base = sort-joined Xor Bool t ts refl h.0 h.1

    go : (b : Truth) → HasSort Bool (cond b (fold (binary Xor) t ts) (unary Not (fold (binary Xor) t ts)))
    go true = base
    go false = sort-unary Not Bool Bool (fold (binary Xor) t ts) base refl

-- the term of a chain
pub ordered-fit : (s : Sort) (p : Chain) → IsChainFor s p → AllByRecursion (IsAtom s) (in_order comes_before p.atoms)
ordered-fit s p h = all-in_order (IsAtom s) comes_before p.atoms h.atoms

pub sort-term : (s : Sort) (p : Chain) → IsChainFor s p → HasSort s (term_of s p)
sort-term Bool p h = sort-truth_term p.constant (map as_truth (in_order comes_before p.atoms)) (sort-truths (in_order comes_before p.atoms) (ordered-fit Bool p h))
sort-term (Bits w) p h = sort-word w p.constant (in_order comes_before p.atoms) (ordered-fit (Bits w) p h)

-- chains of each of some trees
abbrev pub FitEach : Trees → List Chain → Type 0
FitEach Nil [] = Unit {0}
FitEach Nil (p ∷ ps) = ⊥
FitEach (Cons t ts) [] = ⊥
FitEach (Cons t ts) (p ∷ ps) = ((s : Sort) → HasSort s t → IsChainFor s p) × FitEach ts ps

terms-sorts : (ts : Trees) (ps : List Chain) → AreSortedBelow no_levels ts → FitEach ts ps → tree_sorts (terms_of ts ps) ≡ tree_sorts ts
terms-sorts Nil [] h r = refl
terms-sorts Nil (p ∷ ps) h r = absurd r
terms-sorts (Cons t ts) [] h r = absurd r
terms-sorts (Cons t ts) (p ∷ ps) h r =
    let at = has_sort t no_levels h.0 in
    let own : tree_sort (term_of (sort_in t) p) ≡ tree_sort t =
    ap (λ (x : Sort). tree_sort (term_of x p)) (sort-is t at.0 at.1) ∙ sort-term at.0 p (r.0 at.0 at.1) ∙ sym at.1 in
    let others : tree_sorts (terms_of ts ps) ≡ tree_sorts ts = terms-sorts ts ps h.1 r.1 in
    ap (λ (q : Option Sort). option_and_then (λ s. option_map (λ sorts. s ∷ sorts) (tree_sorts (terms_of ts ps))) q) own
    ∙ ap (λ (q : Option (List Sort)). option_and_then (λ s. option_map (λ sorts. s ∷ sorts) q) (tree_sort t)) others

pub rebuilt-sort : (o : Op) (ts : Trees) (ps : List Chain) → AreSortedBelow no_levels ts → FitEach ts ps → tree_sort (Apply o (terms_of ts ps)) ≡ tree_sort (Apply o ts)
rebuilt-sort o ts ps h r = ap (option_and_then (result_sort o)) (terms-sorts ts ps h r)

-- a tree alone
atom-of : (s : Sort) (u : Tree) → HasSort s u → IsAtom s u
atom-of Bool u k = (Bool, refl, k)
atom-of (Bits w) u k = k

alone-fits : (u : Tree) (s : Sort) → HasSort s u → IsChainFor s (alone u)
alone-fits u s is = record { constant = pow_pos (width_of s); atoms = (atom-of s u is, tt) }

-- an application that is a chain
lifted-atom : (s r : Sort) (u : Tree) → width_of s ≡ width_of r → (s ≡ r) ⊎ (r ≡ Bool) → IsAtom s u → IsAtom r u
lifted-atom s r u width (inl same) k = subst (λ x. IsAtom x u) same k
lifted-atom s r u width (inr truths) k = subst (λ x. IsAtom x u) (sym truths) (go s (width ∙ ap width_of truths) k)
  where
    go : (x : Sort) → width_of x ≡ 1 → IsAtom x u → IsAtom Bool u
    go Bool h m = m
    go (Bits w) h m = (Bits w, h, m)

two-linked : (o : Op) (s r : Sort) (n : ℕ) (p q : Chain) → Links o s r n → IsChainFor s p → IsChainFor s q → IsChainFor r (linked (flipped n p) q)
two-linked o s r n p q k f g =
    let lifted = λ (us : List Tree) (m : AllByRecursion (IsAtom s) us). all-weaker (IsAtom s) (IsAtom r) us (λ u x. lifted-atom s r u k.width k.result x) m in
    record {
      constant = xor_lt (width_of r) (bit_xor p.constant n) q.constant
          (xor_lt (width_of r) p.constant n (subst (λ w. p.constant < 2 ^ w) k.width f.constant) k.bound)
          (subst (λ w. q.constant < 2 ^ w) k.width g.constant);
      atoms = all-linked (IsAtom r) p.atoms q.atoms (lifted p.atoms f.atoms) (lifted q.atoms g.atoms);
    }

united-fits : (o : Op) (ts : Trees) (ps : List Chain) (r : Sort) (n : ℕ) → Shape o ts r n → FitEach ts ps → IsChainFor r (united n ps)
united-fits o ts ps r n (inl k) m =
    one-argument (λ us. FitEach us ps → IsChainFor r (united n ps)) ts r k.0 (λ a sa. go a sa ps) m
  where
    go : (a : Tree) → HasSort r a → (qs : List Chain) → FitEach (Cons a Nil) qs → IsChainFor r (united n qs)
    go a sa [] h = absurd h
    go a sa (p ∷ []) h =
        let f = h.0 r sa in
        record { constant = xor_lt (width_of r) p.constant n f.constant k.1.bound; atoms = f.atoms }
    go a sa (p ∷ q ∷ qs) h = absurd h.1
united-fits o ts ps r n (inr k) m =
    two-arguments (λ us. FitEach us ps → IsChainFor r (united n ps)) ts k.0 k.0 k.1 (λ a b sa sb. go a b sa sb ps) m
  where
    go : (a b : Tree) → HasSort k.0 a → HasSort k.0 b → (qs : List Chain) → FitEach (Cons a (Cons b Nil)) qs → IsChainFor r (united n qs)
    go a b sa sb [] h = absurd h
    go a b sa sb (p ∷ []) h = absurd h.1
    go a b sa sb (p ∷ q ∷ []) h = two-linked o k.0 r n p q k.2 (h.0 k.0 sa) (h.1.0 k.0 sb)
    go a b sa sb (p ∷ q ∷ x ∷ qs) h = absurd h.1.1

applied-fits : (o : Op) (ts : Trees) (ps : List Chain) (s : Sort) → AreSortedBelow no_levels ts → FitEach ts ps → HasSort s (Apply o ts) → IsChainFor s (applied o ts ps)
applied-fits o ts ps s h r is = go (number_of o (2 ^ bits_in (Apply o ts) - 1) (first_bits ts)) refl
  where
    itself : IsChainFor s (alone (Apply o (terms_of ts ps)))
    itself = alone-fits (Apply o (terms_of ts ps)) s (rebuilt-sort o ts ps h r ∙ is)

    short : (p : Chain) → IsChainFor s p → (b : Truth) → IsChainFor s (cond b p (alone (Apply o (terms_of ts ps))))
    short p k true = k
    short p k false = itself

    go : (q : Option ℕ) → number_of o (2 ^ bits_in (Apply o ts) - 1) (first_bits ts) ≡ q → IsChainFor s (chain_or_alone q ps (Apply o (terms_of ts ps)))
    go None e = itself
    go (Some n) e =
        let bits : bits_in (Apply o ts) ≡ width_of s = ap (λ (q : Option Sort). width_of (unwrap_or q Bool)) is in
        let shape = shape-of o ts s n is (ap (λ w. number_of o (2 ^ w - 1) (first_bits ts)) (sym bits) ∙ e) in
        short (united n ps) (united-fits o ts ps s n shape r) (nat_le (length (united n ps).atoms) 64)

-- each tree's chain
some-same : {X : Type 0} (a b : X) → Some a ≡ Some b → a ≡ b
some-same a b h = cc

mutual
  pub chain-fits : (t : Tree) (s : Sort) → IsSorted t → HasSort s t → IsChainFor s (chain t)
  chain-fits (Constant i x) s h is = alone-fits (Constant i x) s is
  chain-fits (Variable l x) s h is = alone-fits (Variable l x) s is
  chain-fits (Literal x n) s h is =
      subst (λ (y : Sort). IsChainFor y (record { constant = n; atoms = [] })) (some-same x s is) (record { constant = h.1; atoms = tt })
  chain-fits (Apply o ts) s h is = applied-fits o ts (chains ts) s h.0 (chains-fit ts h.0) is
  chain-fits (ForAll l x t) s h is = alone-fits (ForAll l x t) s is
  chain-fits (Exists l x t) s h is = alone-fits (Exists l x t) s is

  pub chains-fit : (ts : Trees) → AreSortedBelow no_levels ts → FitEach ts (chains ts)
  chains-fit Nil h = tt
  chains-fit (Cons t ts) h = (λ s is. chain-fits t s h.0 is, chains-fit ts h.1)
