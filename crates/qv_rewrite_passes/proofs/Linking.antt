-- The value of a chain of exclusive or, where each tree has a number.
use Rattle.std.proofs.Common.{◌≡◌, ℕ, Bool, true, false, cond, List, [], ◌∷◌, map, refl, sym, ap, ◌∙◌, fold, bit_xor}
use Rattle.std.specs.Int.Bits.{xor_assoc, xor_self, xor_zero_r}
use Rattle.std.specs.List.{AllByRecursion}
use Rattle.std.proofs.lemmas.Nat.{xor_comm}
use Rattle.qv_words.specs.Tree.{Tree}
use Rattle.qv_words.specs.Equality.{tree_eq}
use Rattle.qv_words.proofs.Equals.{tree_eq-is}
use Rattle.qv_words.specs.Sums.{put_in, in_order}
use Rattle.qv_rewrite_passes.specs.Xors.{Chain, toggled, flipped, linked}

abbrev pub atoms_value : (Tree → ℕ) → List Tree → ℕ
atoms_value f [] = 0
atoms_value f (t ∷ ts) = bit_xor (f t) (atoms_value f ts)

abbrev pub value : (Tree → ℕ) → Chain → ℕ
value f p = bit_xor p.constant (atoms_value f p.atoms)

pub xor_zero_l : (a : ℕ) → bit_xor 0 a ≡ a
xor_zero_l a = xor_comm 0 a ∙ xor_zero_r a

-- numbers in another order, and a number twice
swap : (a b c : ℕ) → bit_xor a (bit_xor b c) ≡ bit_xor b (bit_xor a c)
swap a b c = sym (xor_assoc a b c) ∙ ap (λ n. bit_xor n c) (xor_comm a b) ∙ xor_assoc b a c

pub swap-last : (a b c : ℕ) → bit_xor (bit_xor a b) c ≡ bit_xor (bit_xor a c) b
swap-last a b c = xor_assoc a b c ∙ ap (bit_xor a) (xor_comm b c) ∙ sym (xor_assoc a c b)

twice : (a b : ℕ) → bit_xor a (bit_xor a b) ≡ b
twice a b = sym (xor_assoc a a b) ∙ ap (λ n. bit_xor n b) (xor_self a) ∙ xor_zero_l b

-- one tree more, and more trees
value-toggled : (f : Tree → ℕ) (us : List Tree) (t : Tree) → atoms_value f (toggled us t) ≡ bit_xor (f t) (atoms_value f us)
value-toggled f [] t = refl
value-toggled f (u ∷ us) t = go (value-toggled f us t) (tree_eq u t) refl
  where
    go : atoms_value f (toggled us t) ≡ bit_xor (f t) (atoms_value f us) → (b : Bool) → tree_eq u t ≡ b → atoms_value f (cond b us (u ∷ toggled us t)) ≡ bit_xor (f t) (bit_xor (f u) (atoms_value f us))
    go others true is = sym (ap (λ x. bit_xor (f t) (bit_xor (f x) (atoms_value f us))) (tree_eq-is u t is) ∙ twice (f t) (atoms_value f us))
    go others false is = ap (bit_xor (f u)) others ∙ swap (f u) (f t) (atoms_value f us)

value-fold : (f : Tree → ℕ) (us ts : List Tree) → atoms_value f (fold toggled us ts) ≡ bit_xor (atoms_value f us) (atoms_value f ts)
value-fold f us [] = sym (xor_zero_r (atoms_value f us))
value-fold f us (t ∷ ts) =
    value-fold f (toggled us t) ts
    ∙ ap (λ n. bit_xor n (atoms_value f ts)) (value-toggled f us t)
    ∙ xor_assoc (f t) (atoms_value f us) (atoms_value f ts)
    ∙ swap (f t) (atoms_value f us) (atoms_value f ts)

-- a number more, and a chain more
pub value-flipped : (f : Tree → ℕ) (n : ℕ) (p : Chain) → value f (flipped n p) ≡ bit_xor (value f p) n
value-flipped f n p = swap-last p.constant n (atoms_value f p.atoms)

pub value-linked : (f : Tree → ℕ) (p q : Chain) → value f (linked p q) ≡ bit_xor (value f p) (value f q)
value-linked f p q =
    ap (bit_xor (bit_xor p.constant q.constant)) (value-fold f p.atoms q.atoms)
    ∙ xor_assoc p.constant q.constant (bit_xor (atoms_value f p.atoms) (atoms_value f q.atoms))
    ∙ ap (bit_xor p.constant) (swap q.constant (atoms_value f p.atoms) (atoms_value f q.atoms))
    ∙ sym (xor_assoc p.constant (atoms_value f p.atoms) (value f q))

-- the order of trees doesn't matter
value-put_in : (f : Tree → ℕ) (before : Tree → Tree → Bool) (t : Tree) (ts : List Tree) → atoms_value f (put_in before t ts) ≡ bit_xor (f t) (atoms_value f ts)
value-put_in f before t [] = refl
value-put_in f before t (u ∷ us) = go (value-put_in f before t us) (before u t)
  where
    go : atoms_value f (put_in before t us) ≡ bit_xor (f t) (atoms_value f us) → (b : Bool) → atoms_value f (cond b (u ∷ put_in before t us) (t ∷ u ∷ us)) ≡ bit_xor (f t) (bit_xor (f u) (atoms_value f us))
    go others true = ap (bit_xor (f u)) others ∙ swap (f u) (f t) (atoms_value f us)
    go others false = refl

pub value-in_order : (f : Tree → ℕ) (before : Tree → Tree → Bool) (ts : List Tree) → atoms_value f (in_order before ts) ≡ atoms_value f ts
value-in_order f before [] = refl
value-in_order f before (t ∷ ts) = value-put_in f before t (in_order before ts) ∙ ap (bit_xor (f t)) (value-in_order f before ts)

-- trees with the same values
pub value-map : (f : Tree → ℕ) (g : Tree → Tree) (ts : List Tree) → AllByRecursion (λ t. f (g t) ≡ f t) ts → atoms_value f (map g ts) ≡ atoms_value f ts
value-map f g [] h = refl
value-map f g (t ∷ ts) h = ap (λ n. bit_xor n (atoms_value f (map g ts))) h.0 ∙ ap (bit_xor (f t)) (value-map f g ts h.1)

-- what is true of each tree of a chain
pub all-toggled : (P : Tree → Type 0) (us : List Tree) (t : Tree) → AllByRecursion P us → P t → AllByRecursion P (toggled us t)
all-toggled P [] t h k = (k, tt)
all-toggled P (u ∷ us) t h k = go (all-toggled P us t h.1 k) (tree_eq u t)
  where
    go : AllByRecursion P (toggled us t) → (b : Bool) → AllByRecursion P (cond b us (u ∷ toggled us t))
    go others true = h.1
    go others false = (h.0, others)

pub all-linked : (P : Tree → Type 0) (us ts : List Tree) → AllByRecursion P us → AllByRecursion P ts → AllByRecursion P (fold toggled us ts)
all-linked P us [] h k = h
all-linked P us (t ∷ ts) h k = all-linked P (toggled us t) ts (all-toggled P us t h k.0) k.1

all-put_in : (P : Tree → Type 0) (before : Tree → Tree → Bool) (t : Tree) (ts : List Tree) → P t → AllByRecursion P ts → AllByRecursion P (put_in before t ts)
all-put_in P before t [] k h = (k, tt)
all-put_in P before t (u ∷ us) k h = go (all-put_in P before t us k h.1) (before u t)
  where
    go : AllByRecursion P (put_in before t us) → (b : Bool) → AllByRecursion P (cond b (u ∷ put_in before t us) (t ∷ u ∷ us))
    go others true = (h.0, others)
    go others false = (k, h)

pub all-in_order : (P : Tree → Type 0) (before : Tree → Tree → Bool) (ts : List Tree) → AllByRecursion P ts → AllByRecursion P (in_order before ts)
all-in_order P before [] h = tt
all-in_order P before (t ∷ ts) h = all-put_in P before t (in_order before ts) h.0 (all-in_order P before ts h.1)
