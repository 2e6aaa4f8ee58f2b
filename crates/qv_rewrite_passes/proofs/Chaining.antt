-- The chains of trees: each has the value of its tree, and so has the term that it becomes.
use Rattle.std.proofs.Common.{◌≡◌, ℕ, zero, suc, ◌-◌, ◌^◌, ◌<◌, ◌==◌, Bool as Truth, true, false, cond, not, Option, Some, None, List, [], ◌∷◌, map, length, refl, sym, ap, ◌∙◌, subst, arith, lit<, lit≤, fold, bit_xor, ◌⊎◌, inl, inr}
use Rattle.std.specs.Prelude.{unwrap_or, option_map, nat_le}
use Rattle.std.specs.Int.Bits.{xor_assoc, xor_zero_r}
use Rattle.std.specs.List.{AllByRecursion}
use Rattle.std.proofs.lemmas.Bool.{eqb-true}
use Rattle.std.proofs.lemmas.Nat.{pow_pos, xor_lt, xor_comm}
use Rattle.qv_words.specs.declared.sort.Sort.{Sort}
use Rattle.qv_words.specs.declared.sort.Sort.TheVariants.{Bool, Bits}
use Rattle.qv_words.specs.declared.op.Op.{Op}
use Rattle.qv_words.specs.declared.op.Op.TheVariants.{Not, Xor, Equal, BvNot, BvXor, BvXnor, BvComp}
use Rattle.qv_words.specs.Sort.{IsLawful, IsValueOf, width_of}
use Rattle.qv_words.specs.Rank.{result_sort, two_alike, one_width, two_widths}
use Rattle.qv_words.specs.Op.{op_value, truth}
use Rattle.qv_words.specs.Tree.{Tree, Trees, Constant, Variable, Literal, Apply, ForAll, Exists, Nil, Cons, tree_sort, tree_sorts, IsQuantifierFree, AreQuantifierFree}
use Rattle.qv_words.specs.Sorted.{no_levels, IsSorted, AreSortedBelow, constants_of, constants_of_all, free_levels, free_levels_of_all}
use Rattle.qv_words.specs.Prenex.{binary, is_bool}
use Rattle.qv_words.specs.Inverse.{unary, number}
use Rattle.qv_words.proofs.Elements.{all-weaker}
use Rattle.qv_words.proofs.Equals.{test-refl}
use Rattle.qv_words.proofs.Existing.{has_sort, lawful_sort}
use Rattle.qv_words.proofs.InSort.{one_bool-parts, two_bools-parts, two_alike-parts, one_width-parts, two_widths-parts}
use Rattle.qv_words.proofs.InverseValues.{xor_complement}
use Rattle.qv_words.proofs.PassLeaves.{Among}
use Rattle.qv_words.proofs.Passing.{Valued}
use Rattle.qv_words.proofs.Ranks.{rank_parts, sorts_parts}
use Rattle.qv_words.specs.Sums.{comes_before, in_order, bits_in}
use Rattle.qv_rewrite_passes.specs.Xors.{Chain, alone, flipped, linked, united, number_of, chain_or_alone, truth_term, word_term, as_truth, term_of, sort_in, terms_of, first_bits, applied, chain, chains, xored}
use Rattle.qv_rewrite_passes.proofs.Linking.{atoms_value, value, xor_zero_l, value-flipped, value-linked, value-in_order, value-map, all-linked, all-in_order}
use Rattle.qv_rewrite_passes.proofs.Meanings.{meaning, HaveValues, IsOver, Same, SameEach, over-meaning, same-itself, same-none, same-cons, same-apply, same-over, over-same, first-valued, others-valued}
use Rattle.qv_rewrite_passes.proofs.Building.{meaning-binary, meaning-unary, over-two, over-one}
use Rattle.qv_rewrite_passes.proofs.Collecting.{over-weaker, left-among, right-among}

-- a number below 2 is 0 or 1
pub below-two : (P : ℕ → Type 0) (n : ℕ) → n < 2 → P 0 → P 1 → P n
below-two P zero h a b = a
below-two P (suc zero) h a b = b
below-two P (suc (suc n)) h a b = absurd (omega (arith, h))

xor-truths : (x y : ℕ) → x < 2 → y < 2 → truth (not (x == y)) ≡ bit_xor x y
xor-truths x y f g =
    below-two (λ a. truth (not (a == y)) ≡ bit_xor a y) x f
    (below-two (λ b. truth (not (0 == b)) ≡ bit_xor 0 b) y g refl refl)
    (below-two (λ b. truth (not (1 == b)) ≡ bit_xor 1 b) y g refl refl)

equal-truths : (x y : ℕ) → x < 2 → y < 2 → truth (x == y) ≡ bit_xor (bit_xor x 1) y
equal-truths x y f g =
    below-two (λ a. truth (a == y) ≡ bit_xor (bit_xor a 1) y) x f
    (below-two (λ b. truth (0 == b) ≡ bit_xor (bit_xor 0 1) b) y g refl refl)
    (below-two (λ b. truth (1 == b) ≡ bit_xor (bit_xor 1 1) b) y g refl refl)

not-truth : (x : ℕ) → x < 2 → 1 - x ≡ bit_xor x 1
not-truth x f = below-two (λ a. 1 - a ≡ bit_xor a 1) x f refl refl

is-one : (x : ℕ) → x < 2 → truth (x == 1) ≡ x
is-one x f = below-two (λ a. truth (a == 1) ≡ a) x f refl refl

-- all bits turned
pub turned-all : (w x : ℕ) → x < 2 ^ w → 2 ^ w - 1 - x ≡ bit_xor x (2 ^ w - 1)
turned-all w x f =
    ap (λ n. 2 ^ w - 1 - n) (sym (xor_zero_l x)) ∙ sym (xor_complement w 0 x (pow_pos w) f)
    ∙ ap (λ n. bit_xor n x) (let none : 2 ^ w - 1 - 0 ≡ 2 ^ w - 1 = omega arith in none)
    ∙ xor_comm (2 ^ w - 1) x

-- an operator of two values of a sort that adds their bits
record Adds (o : Op) (s : Sort) : Type 0 where
  rank : result_sort o (s ∷ s ∷ []) ≡ Some s
  value : (x y : ℕ) → IsValueOf x s → IsValueOf y s → op_value o (s ∷ s ∷ []) (x ∷ y ∷ []) ≡ bit_xor x y

adds-xor : Adds Xor Bool
adds-xor = record { rank = refl; value = xor-truths }

adds-bvxor : (w : ℕ) → Adds BvXor (Bits w)
adds-bvxor w = record { rank = rw (test-refl w) refl; value = λ x y f g. refl }

-- trees joined from the left
over-joined : (cs vs : List (ℕ × Sort)) (o : Op) (s : Sort) (t : Tree) (ts : List Tree) → Adds o s → IsOver cs vs s t → AllByRecursion (IsOver cs vs s) ts → IsOver cs vs s (fold (binary o) t ts)
over-joined cs vs o s t [] k f g = f
over-joined cs vs o s t (u ∷ us) k f g = over-joined cs vs o s (binary o t u) us k (over-two cs vs o s s s t u k.rank f g.0) g.1

value-of : (c : List ℕ) (e : ℕ → Option ℕ) (cs vs : List (ℕ × Sort)) (s : Sort) (u : Tree) → IsOver cs vs s u → HaveValues c e cs vs → IsValueOf (meaning c e u) s
value-of c e cs vs s u k h = (over-meaning c e cs vs s u k h).0

value-joined : (c : List ℕ) (e : ℕ → Option ℕ) (cs vs : List (ℕ × Sort)) (o : Op) (s : Sort) (t : Tree) (ts : List Tree) → Adds o s → HaveValues c e cs vs → IsOver cs vs s t → AllByRecursion (IsOver cs vs s) ts → meaning c e (fold (binary o) t ts) ≡ bit_xor (meaning c e t) (atoms_value (meaning c e) ts)
value-joined c e cs vs o s t [] k h f g = sym (xor_zero_r (meaning c e t))
value-joined c e cs vs o s t (u ∷ us) k h f g =
    value-joined c e cs vs o s (binary o t u) us k h (over-two cs vs o s s s t u k.rank f g.0) g.1
    ∙ ap (λ n. bit_xor n (atoms_value (meaning c e) us))
    (meaning-binary c e o s s t u f.sort g.0.sort ∙ k.value (meaning c e t) (meaning c e u) (value-of c e cs vs s t f h) (value-of c e cs vs s u g.0 h))
    ∙ xor_assoc (meaning c e t) (meaning c e u) (atoms_value (meaning c e) us)

-- a term of a number and trees: over their leaves, with the value that they make
record IsTerm (cs vs : List (ℕ × Sort)) (s : Sort) (n : ℕ) (ts : List Tree) (u : Tree) : Type 0 where
  over : IsOver cs vs s u
  means : (c : List ℕ) (e : ℕ → Option ℕ) → HaveValues c e cs vs → meaning c e u ≡ bit_xor n (atoms_value (meaning c e) ts)

literal-term : (cs vs : List (ℕ × Sort)) (s : Sort) (n : ℕ) → IsLawful s → IsValueOf n s → IsTerm cs vs s n [] (Literal s n)
literal-term cs vs s n lawful h = record {
  over = record { sorted = (lawful, h); free = tt; sort = refl; leaves = record { constants_in = tt; variables_in = tt } };
  means = λ c e g. sym (xor_zero_r n);
}

joined-term : (cs vs : List (ℕ × Sort)) (o : Op) (s : Sort) (t : Tree) (ts : List Tree) → Adds o s → AllByRecursion (IsOver cs vs s) (t ∷ ts) → IsTerm cs vs s 0 (t ∷ ts) (fold (binary o) t ts)
joined-term cs vs o s t ts k f = record {
  over = over-joined cs vs o s t ts k f.0 f.1;
  means = λ c e h. value-joined c e cs vs o s t ts k h f.0 f.1 ∙ sym (xor_zero_l (atoms_value (meaning c e) (t ∷ ts)));
}

-- all bits of a term turned
turned-term : (cs vs : List (ℕ × Sort)) (o : Op) (s : Sort) (ts : List Tree) (u : Tree) → result_sort o (s ∷ []) ≡ Some s → ((x : ℕ) → IsValueOf x s → op_value o (s ∷ []) (x ∷ []) ≡ bit_xor x (2 ^ width_of s - 1)) → IsTerm cs vs s 0 ts u → IsTerm cs vs s (2 ^ width_of s - 1) ts (unary o u)
turned-term cs vs o s ts u rank turns k = record {
  over = over-one cs vs o s s u rank k.over;
  means = λ c e h.
      let v = atoms_value (meaning c e) ts in
      meaning-unary c e o s u k.over.sort
      ∙ turns (meaning c e u) (value-of c e cs vs s u k.over h)
      ∙ ap (λ x. bit_xor x (2 ^ width_of s - 1)) (k.means c e h ∙ xor_zero_l v)
      ∙ xor_comm v (2 ^ width_of s - 1);
}

-- the term of truth values, and of words
truth-term : (cs vs : List (ℕ × Sort)) (n : ℕ) (ts : List Tree) → n < 2 → AllByRecursion (IsOver cs vs Bool) ts → IsTerm cs vs Bool n ts (truth_term n ts)
truth-term cs vs n [] h f = literal-term cs vs Bool n (lit≤ tt, lit≤ tt) h
truth-term cs vs n (t ∷ ts) h f =
    let base = joined-term cs vs Xor Bool t ts adds-xor f in
    below-two (λ m. IsTerm cs vs Bool m (t ∷ ts) (truth_term m (t ∷ ts))) n h base
    (turned-term cs vs Not Bool (t ∷ ts) (fold (binary Xor) t ts) refl (λ x g. not-truth x g) base)

word-term : (cs vs : List (ℕ × Sort)) (w n : ℕ) (ts : List Tree) → IsLawful (Bits w) → n < 2 ^ w → AllByRecursion (IsOver cs vs (Bits w)) ts → IsTerm cs vs (Bits w) n ts (word_term w n ts)
word-term cs vs w n [] lawful h f = literal-term cs vs (Bits w) n lawful h
word-term cs vs w n (t ∷ ts) lawful h f = go (n == 0) (n == 2 ^ w - 1) refl refl
  where
    all : Tree
    all = fold (binary BvXor) t ts

    base : IsTerm cs vs (Bits w) 0 (t ∷ ts) all
    base = joined-term cs vs BvXor (Bits w) t ts (adds-bvxor w) f

    last : IsTerm cs vs (Bits w) n (t ∷ ts) (binary BvXor all (number w n))
    last = record {
      over = over-two cs vs BvXor (Bits w) (Bits w) (Bits w) all (number w n) (adds-bvxor w).rank base.over (literal-term cs vs (Bits w) n lawful h).over;
      means = λ c e g.
          let v = atoms_value (meaning c e) (t ∷ ts) in
          meaning-binary c e BvXor (Bits w) (Bits w) all (number w n) base.over.sort refl
          ∙ ap (λ x. bit_xor x n) (base.means c e g ∙ xor_zero_l v)
          ∙ xor_comm v n;
    }

    go : (a b : Truth) → (n == 0) ≡ a → (n == 2 ^ w - 1) ≡ b → IsTerm cs vs (Bits w) n (t ∷ ts) (cond a all (cond b (unary BvNot all) (binary BvXor all (number w n))))
    go true b is other = subst (λ m. IsTerm cs vs (Bits w) m (t ∷ ts) all) (sym (eqb-true n 0 is)) base
    go false true is other =
        subst (λ m. IsTerm cs vs (Bits w) m (t ∷ ts) (unary BvNot all)) (sym (eqb-true n (2 ^ w - 1) other))
        (turned-term cs vs BvNot (Bits w) (t ∷ ts) all refl (λ x g. turned-all w x g) base)
    go false false is other = last

-- a tree of a chain: among truth values a bit may stand too
abbrev IsAtom : List (ℕ × Sort) → List (ℕ × Sort) → Sort → Tree → Type 0
IsAtom cs vs Bool u = (x : Sort) × (width_of x ≡ 1) × IsOver cs vs x u
IsAtom cs vs (Bits w) u = IsOver cs vs (Bits w) u

-- a bit as a truth value
record IsTruthOf (cs vs : List (ℕ × Sort)) (u : Tree) : Type 0 where
  over : IsOver cs vs Bool (as_truth u)
  means : (c : List ℕ) (e : ℕ → Option ℕ) → HaveValues c e cs vs → meaning c e (as_truth u) ≡ meaning c e u

truth-of : (cs vs : List (ℕ × Sort)) (u : Tree) → IsAtom cs vs Bool u → IsTruthOf cs vs u
truth-of cs vs u k = go k.0 k.1 k.2
  where
    stays : is_bool (tree_sort u) ≡ true → IsOver cs vs Bool u → IsTruthOf cs vs u
    stays is over =
        let same : u ≡ as_truth u = sym (ap (λ b. cond b u (binary Equal u (number 1 1))) is) in
        record { over = subst (IsOver cs vs Bool) same over; means = λ c e g. ap (meaning c e) (sym same) }

    one : is_bool (tree_sort u) ≡ false → IsOver cs vs (Bits 1) u → IsTruthOf cs vs u
    one is over =
        let same : binary Equal u (number 1 1) ≡ as_truth u = sym (ap (λ b. cond b u (binary Equal u (number 1 1))) is) in
        let literal = literal-term cs vs (Bits 1) 1 (lit≤ tt, lit≤ tt) (lit< tt) in
        record {
          over = subst (IsOver cs vs Bool) same (over-two cs vs Equal (Bits 1) (Bits 1) Bool u (number 1 1) refl over literal.over);
          means = λ c e g.
              ap (meaning c e) (sym same)
              ∙ meaning-binary c e Equal (Bits 1) (Bits 1) u (number 1 1) over.sort refl
              ∙ is-one (meaning c e u) (value-of c e cs vs (Bits 1) u over g);
        }

    go : (x : Sort) → width_of x ≡ 1 → IsOver cs vs x u → IsTruthOf cs vs u
    go Bool h over = stays (ap is_bool over.sort) over
    go (Bits w) h over = one (ap is_bool over.sort) (subst (λ n. IsOver cs vs (Bits n) u) h over)

truths : (cs vs : List (ℕ × Sort)) (ts : List Tree) → AllByRecursion (IsAtom cs vs Bool) ts → AllByRecursion (IsOver cs vs Bool) (map as_truth ts)
truths cs vs [] h = tt
truths cs vs (t ∷ ts) h = ((truth-of cs vs t h.0).over, truths cs vs ts h.1)

-- a chain that has the value of a tree, over its leaves
record IsChainOf (t : Tree) (s : Sort) (p : Chain) : Type 0 where
  constant : IsValueOf p.constant s
  atoms : AllByRecursion (IsAtom (constants_of t) (free_levels t) s) p.atoms
  means : (c : List ℕ) (e : ℕ → Option ℕ) → Valued c e t → value (meaning c e) p ≡ meaning c e t

-- the term of a chain
term-at : (t : Tree) (s : Sort) (p : Chain) → IsLawful s → tree_sort t ≡ Some s → IsChainOf t s p → Same t (term_of s p)
term-at t Bool p lawful is r =
    let cs = constants_of t in
    let vs = free_levels t in
    let ordered = in_order comes_before p.atoms in
    let atoms = all-in_order (IsAtom cs vs Bool) comes_before p.atoms r.atoms in
    let k = truth-term cs vs p.constant (map as_truth ordered) r.constant (truths cs vs ordered atoms) in
    same-over t (term_of Bool p) Bool is k.over (λ c e g.
    k.means c e g
    ∙ ap (bit_xor p.constant) (
    value-map (meaning c e) as_truth ordered (all-weaker (IsAtom cs vs Bool) (λ u. meaning c e (as_truth u) ≡ meaning c e u) ordered (λ u a. (truth-of cs vs u a).means c e g) atoms)
    ∙ value-in_order (meaning c e) comes_before p.atoms)
    ∙ r.means c e g)
term-at t (Bits w) p lawful is r =
    let cs = constants_of t in
    let vs = free_levels t in
    let ordered = in_order comes_before p.atoms in
    let k = word-term cs vs w p.constant ordered lawful r.constant (all-in_order (IsOver cs vs (Bits w)) comes_before p.atoms r.atoms) in
    same-over t (term_of (Bits w) p) (Bits w) is k.over (λ c e g.
    k.means c e g ∙ ap (bit_xor p.constant) (value-in_order (meaning c e) comes_before p.atoms) ∙ r.means c e g)

pub sort-is : (t : Tree) (s : Sort) → tree_sort t ≡ Some s → sort_in t ≡ s
sort-is t s is = ap (λ (q : Option Sort). unwrap_or q Bool) is

term-same : (t : Tree) (s : Sort) (p : Chain) → IsLawful s → tree_sort t ≡ Some s → IsChainOf t s p → Same t (term_of (sort_in t) p)
term-same t s p lawful is r = subst (λ (x : Sort). Same t (term_of x p)) (sym (sort-is t s is)) (term-at t s p lawful is r)

-- chains of each of some trees
abbrev AreChainsOf : Trees → List Chain → Type 0
AreChainsOf Nil [] = Unit {0}
AreChainsOf Nil (p ∷ ps) = ⊥
AreChainsOf (Cons t ts) [] = ⊥
AreChainsOf (Cons t ts) (p ∷ ps) = ((s : Sort) → tree_sort t ≡ Some s → IsChainOf t s p) × AreChainsOf ts ps

terms-same : (ts : Trees) (ps : List Chain) → AreSortedBelow no_levels ts → AreChainsOf ts ps → SameEach ts (terms_of ts ps)
terms-same Nil [] h r = same-none
terms-same Nil (p ∷ ps) h r = absurd r
terms-same (Cons t ts) [] h r = absurd r
terms-same (Cons t ts) (p ∷ ps) h r =
    let at = has_sort t no_levels h.0 in
    same-cons t (term_of (sort_in t) p) ts (terms_of ts ps)
    (term-same t at.0 p (lawful_sort t no_levels at.0 h.0 at.1) at.1 (r.0 at.0 at.1)) (terms-same ts ps h.1 r.1)

-- a tree alone
atom-of : (cs vs : List (ℕ × Sort)) (s : Sort) (u : Tree) → IsOver cs vs s u → IsAtom cs vs s u
atom-of cs vs Bool u k = (Bool, refl, k)
atom-of cs vs (Bits w) u k = k

alone-chain : (t u : Tree) (s : Sort) → tree_sort t ≡ Some s → Same t u → IsChainOf t s (alone u)
alone-chain t u s is k = record {
  constant = pow_pos (width_of s);
  atoms = (atom-of (constants_of t) (free_levels t) s u (over-same t u s is k), tt);
  means = λ c e g. xor_zero_l (bit_xor (meaning c e u) 0) ∙ xor_zero_r (meaning c e u) ∙ k.value c e g;
}

-- an application of one tree, whose bits are turned by a number
pub record Turns (o : Op) (s : Sort) (n : ℕ) : Type 0 where
  pub bound : IsValueOf n s
  pub value : (x : ℕ) → IsValueOf x s → op_value o (s ∷ []) (x ∷ []) ≡ bit_xor x n

-- an application of two, whose bits are added to each other and to those of a number
pub record Links (o : Op) (s r : Sort) (n : ℕ) : Type 0 where
  pub width : width_of s ≡ width_of r
  pub result : (s ≡ r) ⊎ (r ≡ Bool)
  pub bound : IsValueOf n r
  pub value : (x y : ℕ) → IsValueOf x s → IsValueOf y s → op_value o (s ∷ s ∷ []) (x ∷ y ∷ []) ≡ bit_xor (bit_xor x n) y

lifted-atom : (cs vs : List (ℕ × Sort)) (s r : Sort) (u : Tree) → width_of s ≡ width_of r → (s ≡ r) ⊎ (r ≡ Bool) → IsAtom cs vs s u → IsAtom cs vs r u
lifted-atom cs vs s r u width (inl same) k = subst (λ x. IsAtom cs vs x u) same k
lifted-atom cs vs s r u width (inr truths) k = subst (λ x. IsAtom cs vs x u) (sym truths) (go s (width ∙ ap width_of truths) k)
  where
    go : (x : Sort) → width_of x ≡ 1 → IsAtom cs vs x u → IsAtom cs vs Bool u
    go Bool h m = m
    go (Bits w) h m = (Bits w, h, m)

atom-weaker : (cs vs ds ws : List (ℕ × Sort)) (s : Sort) (u : Tree) → Among cs ds → Among vs ws → IsAtom cs vs s u → IsAtom ds ws s u
atom-weaker cs vs ds ws Bool u f g k = (k.0, k.1, over-weaker cs vs ds ws k.0 u f g k.2)
atom-weaker cs vs ds ws (Bits w) u f g k = over-weaker cs vs ds ws (Bits w) u f g k

-- the trees of the first chain, and of others, over the leaves of all
first-atoms : (t : Tree) (ts : Trees) (s : Sort) (us : List Tree) → AllByRecursion (IsAtom (constants_of t) (free_levels t) s) us → AllByRecursion (IsAtom (constants_of_all (Cons t ts)) (free_levels_of_all (Cons t ts)) s) us
first-atoms t ts s us h =
    all-weaker (IsAtom (constants_of t) (free_levels t) s) (IsAtom (constants_of_all (Cons t ts)) (free_levels_of_all (Cons t ts)) s) us (λ u k.
    atom-weaker (constants_of t) (free_levels t) (constants_of_all (Cons t ts)) (free_levels_of_all (Cons t ts)) s u
    (left-among (constants_of t) (constants_of_all ts)) (left-among (free_levels t) (free_levels_of_all ts)) k) h

other-atoms : (t : Tree) (ts : Trees) (s : Sort) (us : List Tree) → AllByRecursion (IsAtom (constants_of_all ts) (free_levels_of_all ts) s) us → AllByRecursion (IsAtom (constants_of_all (Cons t ts)) (free_levels_of_all (Cons t ts)) s) us
other-atoms t ts s us h =
    all-weaker (IsAtom (constants_of_all ts) (free_levels_of_all ts) s) (IsAtom (constants_of_all (Cons t ts)) (free_levels_of_all (Cons t ts)) s) us (λ u k.
    atom-weaker (constants_of_all ts) (free_levels_of_all ts) (constants_of_all (Cons t ts)) (free_levels_of_all (Cons t ts)) s u
    (right-among (constants_of t) (constants_of_all ts)) (right-among (free_levels t) (free_levels_of_all ts)) k) h

-- what a tree means is of its sort
in-sort : (c : List ℕ) (e : ℕ → Option ℕ) (t : Tree) (s : Sort) → IsSorted t → IsQuantifierFree t → tree_sort t ≡ Some s → Valued c e t → IsValueOf (meaning c e t) s
in-sort c e t s h p is g = value-of c e (constants_of t) (free_levels t) s t (over-same t t s is (same-itself t h p)) g

one-chain : (o : Op) (a : Tree) (s : Sort) (n : ℕ) (p : Chain) → Turns o s n → IsSorted a → IsQuantifierFree a → tree_sort a ≡ Some s → IsChainOf a s p → IsChainOf (unary o a) s (flipped n p)
one-chain o a s n p k h free is r = record {
  constant = xor_lt (width_of s) p.constant n r.constant k.bound;
  atoms = first-atoms a Nil s p.atoms r.atoms;
  means = λ c e g.
      let inner = first-valued c e a Nil g in
      value-flipped (meaning c e) n p
      ∙ ap (λ x. bit_xor x n) (r.means c e inner)
      ∙ sym (k.value (meaning c e a) (in-sort c e a s h free is inner))
      ∙ sym (meaning-unary c e o s a is);
}

two-chain : (o : Op) (a b : Tree) (s r : Sort) (n : ℕ) (p q : Chain) → Links o s r n → AreSortedBelow no_levels (Cons a (Cons b Nil)) → AreQuantifierFree (Cons a (Cons b Nil)) → tree_sort a ≡ Some s → tree_sort b ≡ Some s → IsChainOf a s p → IsChainOf b s q → IsChainOf (binary o a b) r (linked (flipped n p) q)
two-chain o a b s r n p q k h free sa sb f g =
    let ts = Cons a (Cons b Nil) in
    let cs = constants_of_all ts in
    let vs = free_levels_of_all ts in
    let lifted = λ (us : List Tree) (m : AllByRecursion (IsAtom cs vs s) us). all-weaker (IsAtom cs vs s) (IsAtom cs vs r) us (λ u x. lifted-atom cs vs s r u k.width k.result x) m in
    record {
      constant = xor_lt (width_of r) (bit_xor p.constant n) q.constant
          (xor_lt (width_of r) p.constant n (subst (λ w. p.constant < 2 ^ w) k.width f.constant) k.bound)
          (subst (λ w. q.constant < 2 ^ w) k.width g.constant);
      atoms = all-linked (IsAtom cs vs r) p.atoms q.atoms
          (lifted p.atoms (first-atoms a (Cons b Nil) s p.atoms f.atoms))
          (lifted q.atoms (other-atoms a (Cons b Nil) s q.atoms (first-atoms b Nil s q.atoms g.atoms)));
      means = λ c e v.
          let one = first-valued c e a (Cons b Nil) v in
          let two = first-valued c e b Nil (others-valued c e a (Cons b Nil) v) in
          value-linked (meaning c e) (flipped n p) q
          ∙ ap (λ x. bit_xor x (value (meaning c e) q)) (value-flipped (meaning c e) n p ∙ ap (λ x. bit_xor x n) (f.means c e one))
          ∙ ap (bit_xor (bit_xor (meaning c e a) n)) (g.means c e two)
          ∙ sym (k.value (meaning c e a) (meaning c e b) (in-sort c e a s h.0 free.0 sa one) (in-sort c e b s h.1.0 free.1.0 sb two))
          ∙ sym (meaning-binary c e o s s a b sa sb);
    }

-- as many arguments as a rank has sorts
pub one-argument : (P : Trees → Type 0) (ts : Trees) (s : Sort) → tree_sorts ts ≡ Some (s ∷ []) → ((a : Tree) → tree_sort a ≡ Some s → P (Cons a Nil)) → P ts
one-argument P Nil s h each = cc
one-argument P (Cons a Nil) s h each =
    let k = sorts_parts a Nil (s ∷ []) h in
    let same : k.0 ≡ s = cc in
    each a (k.2 ∙ ap Some same)
one-argument P (Cons a (Cons b ts)) s h each =
    let k = sorts_parts a (Cons b ts) (s ∷ []) h in
    let m = sorts_parts b ts k.1 k.3 in
    let none : s ∷ [] ≡ k.0 ∷ m.0 ∷ m.1 = k.4 ∙ ap (λ xs. k.0 ∷ xs) m.4 in
    cc

pub two-arguments : (P : Trees → Type 0) (ts : Trees) (s t : Sort) → tree_sorts ts ≡ Some (s ∷ t ∷ []) → ((a b : Tree) → tree_sort a ≡ Some s → tree_sort b ≡ Some t → P (Cons a (Cons b Nil))) → P ts
two-arguments P Nil s t h each = cc
two-arguments P (Cons a ts) s t h each =
    let k = sorts_parts a ts (s ∷ t ∷ []) h in
    let first : k.0 ≡ s = cc in
    let others : k.1 ≡ t ∷ [] = cc in
    one-argument (λ us. P (Cons a us)) ts t (k.3 ∙ ap Some others) (λ b sb. each a b (k.2 ∙ ap Some first) sb)

one-united : (o : Op) (s : Sort) (n : ℕ) (ts : Trees) (ps : List Chain) → Turns o s n → tree_sorts ts ≡ Some (s ∷ []) → AreSortedBelow no_levels ts → AreQuantifierFree ts → AreChainsOf ts ps → IsChainOf (Apply o ts) s (united n ps)
one-united o s n ts ps k sorts =
    one-argument (λ us. AreSortedBelow no_levels us → AreQuantifierFree us → AreChainsOf us ps → IsChainOf (Apply o us) s (united n ps)) ts s sorts (λ a sa. go a sa ps)
  where
    go : (a : Tree) → tree_sort a ≡ Some s → (qs : List Chain) → AreSortedBelow no_levels (Cons a Nil) → AreQuantifierFree (Cons a Nil) → AreChainsOf (Cons a Nil) qs → IsChainOf (unary o a) s (united n qs)
    go a sa [] h free r = absurd r
    go a sa (p ∷ []) h free r = one-chain o a s n p k h.0 free.0 sa (r.0 s sa)
    go a sa (p ∷ q ∷ qs) h free r = absurd r.1

two-united : (o : Op) (s r : Sort) (n : ℕ) (ts : Trees) (ps : List Chain) → Links o s r n → tree_sorts ts ≡ Some (s ∷ s ∷ []) → AreSortedBelow no_levels ts → AreQuantifierFree ts → AreChainsOf ts ps → IsChainOf (Apply o ts) r (united n ps)
two-united o s r n ts ps k sorts =
    two-arguments (λ us. AreSortedBelow no_levels us → AreQuantifierFree us → AreChainsOf us ps → IsChainOf (Apply o us) r (united n ps)) ts s s sorts (λ a b sa sb. go a b sa sb ps)
  where
    go : (a b : Tree) → tree_sort a ≡ Some s → tree_sort b ≡ Some s → (qs : List Chain) → AreSortedBelow no_levels (Cons a (Cons b Nil)) → AreQuantifierFree (Cons a (Cons b Nil)) → AreChainsOf (Cons a (Cons b Nil)) qs → IsChainOf (binary o a b) r (united n qs)
    go a b sa sb [] h free m = absurd m
    go a b sa sb (p ∷ []) h free m = absurd m.1
    go a b sa sb (p ∷ q ∷ []) h free m = two-chain o a b s r n p q k h free sa sb (m.0 s sa) (m.1.0 s sb)
    go a b sa sb (p ∷ q ∷ x ∷ qs) h free m = absurd m.1.1

-- the operators
ones-fit : (w : ℕ) → 2 ^ w - 1 < 2 ^ w
ones-fit w = let some = pow_pos w in omega (arith, some)

turns-not : Turns Not Bool 1
turns-not = record { bound = lit< tt; value = not-truth }

turns-bvnot : (w : ℕ) → Turns BvNot (Bits w) (2 ^ w - 1)
turns-bvnot w = record { bound = ones-fit w; value = turned-all w }

links-xor : Links Xor Bool Bool 0
links-xor = record {
  width = refl;
  result = inl refl;
  bound = lit< tt;
  value = λ x y f g. xor-truths x y f g ∙ ap (λ z. bit_xor z y) (sym (xor_zero_r x));
}

links-bvxor : (w : ℕ) → Links BvXor (Bits w) (Bits w) 0
links-bvxor w = record { width = refl; result = inl refl; bound = pow_pos w; value = λ x y f g. ap (λ z. bit_xor z y) (sym (xor_zero_r x)) }

links-bvxnor : (w : ℕ) → Links BvXnor (Bits w) (Bits w) (2 ^ w - 1)
links-bvxnor w = record {
  width = refl;
  result = inl refl;
  bound = ones-fit w;
  value = λ x y f g. sym (xor_complement w x y f g) ∙ ap (λ z. bit_xor z y) (turned-all w x f);
}

links-equal : (s : Sort) → width_of s ≡ 1 → Links Equal s Bool 1
links-equal s one = record {
  width = one;
  result = inr refl;
  bound = lit< tt;
  value = λ x y f g. equal-truths x y (subst (λ w. x < 2 ^ w) one f) (subst (λ w. y < 2 ^ w) one g);
}

links-bvcomp : Links BvComp (Bits 1) (Bits 1) 1
links-bvcomp = record { width = refl; result = inl refl; bound = lit< tt; value = λ x y f g. equal-truths x y f g }

-- the sorts of an application that makes a chain, and what its operator does to values of them
abbrev pub Shape : Op → Trees → Sort → ℕ → Type 0
Shape o ts r n = ((tree_sorts ts ≡ Some (r ∷ [])) × Turns o r n) ⊎ ((s : Sort) × (tree_sorts ts ≡ Some (s ∷ s ∷ [])) × Links o s r n)

some-same : {X : Type 0} (a b : X) → Some a ≡ Some b → a ≡ b
some-same a b h = cc

first-width : (ts : Trees) (s : Sort) (ss : List Sort) → tree_sorts ts ≡ Some (s ∷ ss) → first_bits ts ≡ width_of s
first-width Nil s ss h = cc
first-width (Cons a ts) s ss h =
    let k = sorts_parts a ts (s ∷ ss) h in
    let same : k.0 ≡ s = cc in
    ap (λ (q : Option Sort). width_of (unwrap_or q Bool)) (k.2 ∙ ap Some same)

-- what a condition lets through
record Lets (k n v : ℕ) : Type 0 where
  number : k ≡ n
  width : v ≡ 1

lets : (k n v : ℕ) → cond (v == 1) (Some k) None ≡ Some n → Lets k n v
lets k n v = go (v == 1) refl
  where
    go : (b : Truth) → (v == 1) ≡ b → cond b (Some k) None ≡ Some n → Lets k n v
    go true is h = record { number = some-same k n h; width = eqb-true v 1 is }
    go false is h = cc

-- words of one width
words-shape : (o : Op) (ts : Trees) (r : Sort) (n : ℕ) (number : ℕ → ℕ) → ((w : ℕ) → Links o (Bits w) (Bits w) (number w)) → (ss : List Sort) → tree_sorts ts ≡ Some ss → option_map Bits (two_widths ss) ≡ Some r → number (width_of r) ≡ n → Shape o ts r n
words-shape o ts r n number links ss sorts rank is = go (two_widths ss) refl rank
  where
    go : (q : Option ℕ) → two_widths ss ≡ q → option_map Bits q ≡ Some r → Shape o ts r n
    go None e h = cc
    go (Some w) e h =
        let same : Bits w ≡ r = some-same (Bits w) r h in
        let at : number w ≡ n = ap (λ x. number (width_of x)) same ∙ is in
        subst (λ x. Shape o ts x n) same
        (inr (Bits w, sorts ∙ ap Some (two_widths-parts ss w e), subst (Links o (Bits w) (Bits w)) at (links w)))

word-shape : (ts : Trees) (r : Sort) (n : ℕ) (ss : List Sort) → tree_sorts ts ≡ Some ss → option_map Bits (one_width ss) ≡ Some r → 2 ^ width_of r - 1 ≡ n → Shape BvNot ts r n
word-shape ts r n ss sorts rank is = go (one_width ss) refl rank
  where
    go : (q : Option ℕ) → one_width ss ≡ q → option_map Bits q ≡ Some r → Shape BvNot ts r n
    go None e h = cc
    go (Some w) e h =
        let same : Bits w ≡ r = some-same (Bits w) r h in
        let at : 2 ^ w - 1 ≡ n = ap (λ x. 2 ^ width_of x - 1) same ∙ is in
        subst (λ x. Shape BvNot ts x n) same
        (inl (sorts ∙ ap Some (one_width-parts ss w e), subst (Turns BvNot (Bits w)) at (turns-bvnot w)))

equal-shape : (ts : Trees) (r : Sort) (n : ℕ) (ss : List Sort) → tree_sorts ts ≡ Some ss → option_map (λ _. Bool) (two_alike ss) ≡ Some r → cond (first_bits ts == 1) (Some (2 ^ width_of r - 1)) None ≡ Some n → Shape Equal ts r n
equal-shape ts r n ss sorts rank is = go (two_alike ss) refl rank
  where
    go : (q : Option Sort) → two_alike ss ≡ q → option_map (λ _. Bool) q ≡ Some r → Shape Equal ts r n
    go None e h = cc
    go (Some s) e h =
        let same : Bool ≡ r = some-same Bool r h in
        let both : tree_sorts ts ≡ Some (s ∷ s ∷ []) = sorts ∙ ap Some (two_alike-parts ss s e) in
        let k = lets (2 ^ width_of r - 1) n (first_bits ts) is in
        let at : 1 ≡ n = ap (λ x. 2 ^ width_of x - 1) same ∙ k.number in
        let one : width_of s ≡ 1 = sym (first-width ts s (s ∷ []) both) ∙ k.width in
        subst (λ x. Shape Equal ts x n) same (inr (s, both, subst (Links Equal s Bool) at (links-equal s one)))

comp-shape : (ts : Trees) (r : Sort) (n : ℕ) (ss : List Sort) → tree_sorts ts ≡ Some ss → option_map (λ _. Bits 1) (two_widths ss) ≡ Some r → cond (first_bits ts == 1) (Some (2 ^ width_of r - 1)) None ≡ Some n → Shape BvComp ts r n
comp-shape ts r n ss sorts rank is = go (two_widths ss) refl rank
  where
    go : (q : Option ℕ) → two_widths ss ≡ q → option_map (λ _. Bits 1) q ≡ Some r → Shape BvComp ts r n
    go None e h = cc
    go (Some w) e h =
        let same : Bits 1 ≡ r = some-same (Bits 1) r h in
        let both : tree_sorts ts ≡ Some (Bits w ∷ Bits w ∷ []) = sorts ∙ ap Some (two_widths-parts ss w e) in
        let k = lets (2 ^ width_of r - 1) n (first_bits ts) is in
        let at : 1 ≡ n = ap (λ x. 2 ^ width_of x - 1) same ∙ k.number in
        let one : w ≡ 1 = sym (first-width ts (Bits w) (Bits w ∷ []) both) ∙ k.width in
        subst (λ x. Shape BvComp ts x n) same
        (inr (Bits 1, both ∙ ap (λ v. Some (Bits v ∷ Bits v ∷ [])) one, subst (Links BvComp (Bits 1) (Bits 1)) at links-bvcomp))

pub shape-of : (o : Op) (ts : Trees) (r : Sort) (n : ℕ) → tree_sort (Apply o ts) ≡ Some r → number_of o (2 ^ width_of r - 1) (first_bits ts) ≡ Some n → Shape o ts r n
shape-of Not ts r n is e =
    let k = rank_parts Not ts r is in
    let parts = one_bool-parts k.0 r k.2 in
    let at : 1 ≡ n = ap (λ x. 2 ^ width_of x - 1) parts.1 ∙ some-same _ _ e in
    subst (λ x. Shape Not ts x n) parts.1 (inl (k.1 ∙ ap Some parts.0, subst (Turns Not Bool) at turns-not))
shape-of Xor ts r n is e =
    let k = rank_parts Xor ts r is in
    let parts = two_bools-parts k.0 r k.2 in
    subst (λ x. Shape Xor ts x n) parts.1 (inr (Bool, k.1 ∙ ap Some parts.0, subst (Links Xor Bool Bool) (some-same 0 n e) links-xor))
shape-of Equal ts r n is e = let k = rank_parts Equal ts r is in equal-shape ts r n k.0 k.1 k.2 e
shape-of BvNot ts r n is e = let k = rank_parts BvNot ts r is in word-shape ts r n k.0 k.1 k.2 (some-same _ _ e)
shape-of BvXor ts r n is e = let k = rank_parts BvXor ts r is in words-shape BvXor ts r n (λ w. 0) links-bvxor k.0 k.1 k.2 (some-same _ _ e)
shape-of BvXnor ts r n is e = let k = rank_parts BvXnor ts r is in words-shape BvXnor ts r n (λ w. 2 ^ w - 1) links-bvxnor k.0 k.1 k.2 (some-same _ _ e)
shape-of BvComp ts r n is e = let k = rank_parts BvComp ts r is in comp-shape ts r n k.0 k.1 k.2 e
shape-of _ ts r n is e = cc

-- an application that is a chain
united-chain : (o : Op) (ts : Trees) (ps : List Chain) (r : Sort) (n : ℕ) → Shape o ts r n → AreSortedBelow no_levels ts → AreQuantifierFree ts → AreChainsOf ts ps → IsChainOf (Apply o ts) r (united n ps)
united-chain o ts ps r n (inl k) h free m = one-united o r n ts ps k.1 k.0 h free m
united-chain o ts ps r n (inr k) h free m = two-united o k.0 r n ts ps k.2 k.1 h free m

applied-chain : (o : Op) (ts : Trees) (ps : List Chain) (s : Sort) → IsSorted (Apply o ts) → AreQuantifierFree ts → AreChainsOf ts ps → tree_sort (Apply o ts) ≡ Some s → IsChainOf (Apply o ts) s (applied o ts ps)
applied-chain o ts ps s h free r is = go (number_of o (2 ^ bits_in (Apply o ts) - 1) (first_bits ts)) refl
  where
    itself : IsChainOf (Apply o ts) s (alone (Apply o (terms_of ts ps)))
    itself = alone-chain (Apply o ts) (Apply o (terms_of ts ps)) s is (same-apply o ts (terms_of ts ps) h.1 (terms-same ts ps h.0 r))

    short : (p : Chain) → IsChainOf (Apply o ts) s p → (b : Truth) → IsChainOf (Apply o ts) s (cond b p (alone (Apply o (terms_of ts ps))))
    short p k true = k
    short p k false = itself

    go : (q : Option ℕ) → number_of o (2 ^ bits_in (Apply o ts) - 1) (first_bits ts) ≡ q → IsChainOf (Apply o ts) s (chain_or_alone q ps (Apply o (terms_of ts ps)))
    go None e = itself
    go (Some n) e =
        let bits : bits_in (Apply o ts) ≡ width_of s = ap (λ (q : Option Sort). width_of (unwrap_or q Bool)) is in
        let shape = shape-of o ts s n is (ap (λ w. number_of o (2 ^ w - 1) (first_bits ts)) (sym bits) ∙ e) in
        short (united n ps) (united-chain o ts ps s n shape h.0 free r) (nat_le (length (united n ps).atoms) 64)

-- each tree's chain
literal-chain : (x : Sort) (n : ℕ) → IsValueOf n x → IsChainOf (Literal x n) x (record { constant = n; atoms = [] })
literal-chain x n h = record { constant = h; atoms = tt; means = λ c e g. xor_zero_r n }

mutual
  chained : (t : Tree) (s : Sort) → IsSorted t → IsQuantifierFree t → tree_sort t ≡ Some s → IsChainOf t s (chain t)
  chained (Constant i x) s h p is = alone-chain (Constant i x) (Constant i x) s is (same-itself (Constant i x) h p)
  chained (Variable l x) s h p is = alone-chain (Variable l x) (Variable l x) s is (same-itself (Variable l x) h p)
  chained (Literal x n) s h p is =
      subst (λ (y : Sort). IsChainOf (Literal x n) y (record { constant = n; atoms = [] })) (some-same x s is) (literal-chain x n h.1)
  chained (Apply o ts) s h p is = applied-chain o ts (chains ts) s h p (each-chained ts h.0 p) is
  chained (ForAll l x t) s h p is = absurd p
  chained (Exists l x t) s h p is = absurd p

  each-chained : (ts : Trees) → AreSortedBelow no_levels ts → AreQuantifierFree ts → AreChainsOf ts (chains ts)
  each-chained Nil h p = tt
  each-chained (Cons t ts) h p = (λ s is. chained t s h.0 p.0 is, each-chained ts h.1 p.1)

pub xored-same : (t : Tree) → IsSorted t → IsQuantifierFree t → Same t (xored t)
xored-same t h p =
    let at = has_sort t no_levels h in
    term-same t at.0 (chain t) (lawful_sort t no_levels at.0 h at.1) at.1 (chained t at.0 h p at.1)
