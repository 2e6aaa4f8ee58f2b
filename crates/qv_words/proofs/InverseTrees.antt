-- What the trees of inverse terms are sorted as, and what they mean.
use Rattle.std.proofs.Common.{◌≡◌, ℕ, zero, suc, ◌+◌, ◌-◌, ◌*◌, ◌/◌, ◌%◌, ◌^◌, ◌≤◌, ◌<◌, ◌==◌, Bool, true, false, cond, nat_lt, Some, [], ◌∷◌, refl, sym, ap, ◌∙◌, subst, arith}
use Rattle.std.specs.Prelude.{option_map}
use Rattle.std.proofs.lemmas.Bool.{eq-eqb, le-leb, lt-ltb}
use Rattle.std.proofs.lemmas.Nat.{pow_pos}
use Rattle.qv_words.specs.declared.sort.Sort.{Sort}
use Rattle.qv_words.specs.declared.sort.Sort.TheVariants.{Bits, Bool as BoolSort}
use Rattle.qv_words.specs.declared.op.Op.{Op}
use Rattle.qv_words.specs.declared.op.Op.TheVariants.{Equal, BvUlt, Concat, Extract}
use Rattle.qv_words.specs.Sort.{IsLawful}
use Rattle.qv_words.specs.Rank.{result_sort, two_widths}
use Rattle.qv_words.specs.Op.{op_value, truth}
use Rattle.qv_words.specs.Tree.{Tree, tree_sort}
use Rattle.qv_words.specs.Sorted.{IsSorted}
use Rattle.qv_words.specs.Meaning.{Means}
use Rattle.qv_words.specs.Prenex.{binary, ite}
use Rattle.qv_words.specs.Inverse.{unary, number, other_term, target_term, zeros_before, zeros_behind, solving}

-- a tree is sorted, of a sort, and means v where s and t are the values of its variables
pub record Stands (s t : ℕ) (tree : Tree) (r : Sort) (v : ℕ) : Type 0 where
  pub sorted : IsSorted tree
  pub sort : tree_sort tree ≡ Some r
  pub means : Means [] (solving s t) tree v

pub stands_other : (s t : ℕ) (r : Sort) → IsLawful r → Stands s t (other_term r) r s
stands_other s t r lawful = record { sorted = (lawful, tt); sort = refl; means = refl }

pub stands_target : (s t : ℕ) (r : Sort) → IsLawful r → Stands s t (target_term r) r t
stands_target s t r lawful = record { sorted = (lawful, tt); sort = refl; means = refl }

pub stands_number : (s t w n : ℕ) → IsLawful (Bits w) → n < 2 ^ w → Stands s t (number w n) (Bits w) n
stands_number s t w n lawful fits = record { sorted = (lawful, fits); sort = refl; means = refl }

-- an application
pub stands_unary : (s t : ℕ) (o : Op) (a : Tree) (r q : Sort) (v : ℕ) → result_sort o (r ∷ []) ≡ Some q → Stands s t a r v → Stands s t (unary o a) q (op_value o (r ∷ []) (v ∷ []))
stands_unary s t o a r q v rank h =
    let sort : tree_sort (unary o a) ≡ Some q = rw h.sort rank in
    record {
      sorted = ((h.sorted, tt), rw sort refl);
      sort = sort;
      means = (r ∷ [], v ∷ [], rw h.sort refl, (v, [], h.means, refl, refl), refl);
    }

pub stands_binary : (s t : ℕ) (o : Op) (a b : Tree) (r q p : Sort) (v w : ℕ) → result_sort o (r ∷ q ∷ []) ≡ Some p → Stands s t a r v → Stands s t b q w → Stands s t (binary o a b) p (op_value o (r ∷ q ∷ []) (v ∷ w ∷ []))
stands_binary s t o a b r q p v w rank g h =
    let sort : tree_sort (binary o a b) ≡ Some p = rw (g.sort, h.sort) rank in
    record {
      sorted = ((g.sorted, (h.sorted, tt)), rw sort refl);
      sort = sort;
      means = (r ∷ q ∷ [], v ∷ w ∷ [], rw (g.sort, h.sort) refl, (v, w ∷ [], g.means, (w, [], h.means, refl, refl), refl), refl);
    }

pub same_width : (w : ℕ) → two_widths (Bits w ∷ Bits w ∷ []) ≡ Some w
same_width w = rw (eq-eqb w w refl) refl

-- of two trees of one width
pub stands_pair : (s t : ℕ) (o : Op) (a b : Tree) (w v u : ℕ) → result_sort o (Bits w ∷ Bits w ∷ []) ≡ option_map Bits (two_widths (Bits w ∷ Bits w ∷ [])) → Stands s t a (Bits w) v → Stands s t b (Bits w) u → Stands s t (binary o a b) (Bits w) (op_value o (Bits w ∷ Bits w ∷ []) (v ∷ u ∷ []))
stands_pair s t o a b w v u rank = stands_binary s t o a b (Bits w) (Bits w) (Bits w) v u (rank ∙ ap (option_map Bits) (same_width w))

-- the tests
pub stands_equal : (s t : ℕ) (a b : Tree) (w v u : ℕ) → Stands s t a (Bits w) v → Stands s t b (Bits w) u → Stands s t (binary Equal a b) BoolSort (truth (v == u))
stands_equal s t a b w v u = stands_binary s t Equal a b (Bits w) (Bits w) BoolSort v u (rw (eq-eqb w w refl) refl)

pub stands_less : (s t : ℕ) (a b : Tree) (w v u : ℕ) → Stands s t a (Bits w) v → Stands s t b (Bits w) u → Stands s t (binary BvUlt a b) BoolSort (truth (nat_lt v u))
stands_less s t a b w v u = stands_binary s t BvUlt a b (Bits w) (Bits w) BoolSort v u (ap (option_map (λ _. BoolSort)) (same_width w))

chosen : (b : Bool) (v u : ℕ) → cond (truth b == 1) v u ≡ cond b v u
chosen true v u = refl
chosen false v u = refl

pub stands_choice : (s t : ℕ) (c a b : Tree) (w v u : ℕ) (d : Bool) → Stands s t c BoolSort (truth d) → Stands s t a (Bits w) v → Stands s t b (Bits w) u → Stands s t (ite c a b) (Bits w) (cond d v u)
stands_choice s t c a b w v u d f g h =
    let sort : tree_sort (ite c a b) ≡ Some (Bits w) = rw (f.sort, g.sort, h.sort, eq-eqb w w refl) refl in
    record {
      sorted = ((f.sorted, (g.sorted, (h.sorted, tt))), rw sort refl);
      sort = sort;
      means = (
        BoolSort ∷ Bits w ∷ Bits w ∷ [],
        truth d ∷ v ∷ u ∷ [],
        rw (f.sort, g.sort, h.sort) refl,
        (truth d, v ∷ u ∷ [], f.means, (v, u ∷ [], g.means, (u, [], h.means, refl, refl), refl), refl),
        sym (chosen d v u),
      );
    }

-- the same of another width and value that are equal
pub stands_as : (s t : ℕ) (tree : Tree) (w v x y : ℕ) → w ≡ v → x ≡ y → Stands s t tree (Bits w) x → Stands s t tree (Bits v) y
stands_as s t tree w v x y e f h = subst (λ (n : ℕ). Stands s t tree (Bits n) y) e (subst (Stands s t tree (Bits w)) f h)

joined : (v w : ℕ) → v + w ≤ 128 → result_sort Concat (Bits v ∷ Bits w ∷ []) ≡ Some (Bits (v + w))
joined v w h = rw (le-leb (v + w) 128 h) refl

-- zeros before and behind
pub stands_before : (s t n v x : ℕ) (tree : Tree) → n + v ≤ 128 → Stands s t tree (Bits v) x → Stands s t (zeros_before n tree) (Bits (n + v)) x
stands_before s t zero v x tree h g = stands_as s t tree v (0 + v) x x (omega arith) refl g
stands_before s t (suc n) v x tree h g =
    let zeros = stands_number s t (suc n) 0 (omega arith, omega arith) (pow_pos (suc n)) in
    stands_as s t (binary Concat (number (suc n) 0) tree) (suc n + v) (suc n + v) (0 * 2 ^ v + x) x refl (omega arith)
    (stands_binary s t Concat (number (suc n) 0) tree (Bits (suc n)) (Bits v) (Bits (suc n + v)) 0 x (joined (suc n) v h) zeros g)

pub stands_behind : (s t n v x : ℕ) (tree : Tree) → v + n ≤ 128 → Stands s t tree (Bits v) x → Stands s t (zeros_behind n tree) (Bits (v + n)) (x * 2 ^ n)
stands_behind s t zero v x tree h g = stands_as s t tree v (v + 0) x (x * 2 ^ 0) (omega arith) (omega arith) g
stands_behind s t (suc n) v x tree h g =
    let zeros = stands_number s t (suc n) 0 (omega arith, omega arith) (pow_pos (suc n)) in
    stands_as s t (binary Concat tree (number (suc n) 0)) (v + suc n) (v + suc n) (x * 2 ^ suc n + 0) (x * 2 ^ suc n) refl (omega arith)
    (stands_binary s t Concat tree (number (suc n) 0) (Bits v) (Bits (suc n)) (Bits (v + suc n)) x 0 (joined v (suc n) h) g zeros)

-- some bits of a tree
pub stands_part : (s t i j v w x : ℕ) (tree : Tree) → i < v → j ≤ i → i - j + 1 ≡ w → Stands s t tree (Bits v) x → Stands s t (unary (Extract i j) tree) (Bits w) (x / 2 ^ j % 2 ^ w)
stands_part s t i j v w x tree inside order width g =
    let rank : result_sort (Extract i j) (Bits v ∷ []) ≡ Some (Bits (i - j + 1)) = rw (lt-ltb i v inside, le-leb j i order) refl in
    stands_as s t (unary (Extract i j) tree) (i - j + 1) w (x / 2 ^ j % 2 ^ (i - j + 1)) (x / 2 ^ j % 2 ^ w) width (ap (λ n. x / 2 ^ j % 2 ^ n) width)
    (stands_unary s t (Extract i j) tree (Bits v) (Bits (i - j + 1)) x rank g)

pub stands_low : (s t v w x : ℕ) (tree : Tree) → 1 ≤ w → w ≤ v → Stands s t tree (Bits v) x → Stands s t (unary (Extract (w - 1) 0) tree) (Bits w) (x % 2 ^ w)
stands_low s t v w x tree some inside g =
    let whole : x / 1 ≡ x = omega arith in
    stands_as s t (unary (Extract (w - 1) 0) tree) w w (x / 2 ^ 0 % 2 ^ w) (x % 2 ^ w) refl (ap (λ y. y % 2 ^ w) whole)
    (stands_part s t (w - 1) 0 v w x tree (omega arith) (omega arith) (omega arith) g)
