-- The values of formulas.
use Rattle.std.proofs.Common.{◌≡◌, ℕ, zero, suc, ◌-◌, ◌/◌, ◌<◌, ◌≤◌, Bool, true, false, ◌&&◌, ◌||◌, inl, inr, List, [], ◌∷◌, ◌++◌, length, map, take, drop, Option, Some, refl, sym, ap, subst, ◌∙◌, arith}
use Rattle.std.specs.Prelude.{All}
use Rattle.std.specs.List.{list_any, list_all}
use Rattle.std.proofs.lemmas.List.{length-take-le, length-drop, length-map, take-map, drop-map, map-append, take-append-drop}
use Rattle.std.proofs.lemmas.List.Elements.{All-head, All-take, All-drop}
use Rattle.qv_words.specs.declared.sort.Sort.TheVariants.{Bool as BoolSort}
use Rattle.qv_words.specs.Op.{truth}
use Rattle.qv_words.specs.Tree.{Tree, Exists, ForAll, tree_sort}
use Rattle.qv_words.specs.Sorted.{with_level}
use Rattle.qv_words.specs.Meaning.{Means}
use Rattle.qv_words.specs.Prenex.{binary, under_sign}
use Rattle.qv_words.specs.Passes.{truth_literal}
use Rattle.qv_store.specs.declared.problem.Quant.{Quant}
use Rattle.qv_store.specs.declared.problem.Quant.TheVariants as quant
use Rattle.qv_qdimacs.specs.BooleanMeaning.{signed, quantified_by}
use Rattle.qv_qdimacs.specs.Translation.{connective, joined_within, joined, bound_by}
use Rattle.qv_qdimacs.proofs.Halves.{front-shorter, behind-shorter}

-- a formula with its truth value
pub record IsTruth (c : List ℕ) (e : ℕ → Option ℕ) (t : Tree) (b : Bool) : Type 0 where
  pub bool : tree_sort t ≡ Some BoolSort
  pub means : Means c e t (truth b)

pub truth-same : (c : List ℕ) (e : ℕ → Option ℕ) (t : Tree) (a b : Bool) → a ≡ b → IsTruth c e t a → IsTruth c e t b
truth-same c e t a b is h = subst (IsTruth c e t) is h

pub truth-literal : (c : List ℕ) (e : ℕ → Option ℕ) (b : Bool) → IsTruth c e (truth_literal b) b
truth-literal c e b = record { bool = refl; means = refl }

pub truth-sign : (c : List ℕ) (e : ℕ → Option ℕ) (positive : Bool) (t : Tree) (b : Bool) → IsTruth c e t b → IsTruth c e (under_sign positive t) (signed positive b)
truth-sign c e true t b h = h
truth-sign c e false t true h = record {
  bool = rw h.bool refl;
  means = (BoolSort ∷ [], 1 ∷ [], rw h.bool refl, (1, [], h.means, refl, refl), refl);
}
truth-sign c e false t false h = record {
  bool = rw h.bool refl;
  means = (BoolSort ∷ [], 0 ∷ [], rw h.bool refl, (0, [], h.means, refl, refl), refl);
}

-- both, or one of two
abbrev pub paired : Bool → Bool → Bool → Bool
paired true a b = a && b
paired false a b = a || b

pair-value : (both a b : Bool) (c : List ℕ) (e : ℕ → Option ℕ) (t u : Tree) → IsTruth c e t a → IsTruth c e u b → Means c e (binary (connective both) t u) (truth (paired both a b))
pair-value true true true c e t u h k = (BoolSort ∷ BoolSort ∷ [], 1 ∷ 1 ∷ [], rw (h.bool, k.bool) refl, (1, 1 ∷ [], h.means, (1, [], k.means, refl, refl), refl), refl)
pair-value true true false c e t u h k = (BoolSort ∷ BoolSort ∷ [], 1 ∷ 0 ∷ [], rw (h.bool, k.bool) refl, (1, 0 ∷ [], h.means, (0, [], k.means, refl, refl), refl), refl)
pair-value true false true c e t u h k = (BoolSort ∷ BoolSort ∷ [], 0 ∷ 1 ∷ [], rw (h.bool, k.bool) refl, (0, 1 ∷ [], h.means, (1, [], k.means, refl, refl), refl), refl)
pair-value true false false c e t u h k = (BoolSort ∷ BoolSort ∷ [], 0 ∷ 0 ∷ [], rw (h.bool, k.bool) refl, (0, 0 ∷ [], h.means, (0, [], k.means, refl, refl), refl), refl)
pair-value false true true c e t u h k = (BoolSort ∷ BoolSort ∷ [], 1 ∷ 1 ∷ [], rw (h.bool, k.bool) refl, (1, 1 ∷ [], h.means, (1, [], k.means, refl, refl), refl), refl)
pair-value false true false c e t u h k = (BoolSort ∷ BoolSort ∷ [], 1 ∷ 0 ∷ [], rw (h.bool, k.bool) refl, (1, 0 ∷ [], h.means, (0, [], k.means, refl, refl), refl), refl)
pair-value false false true c e t u h k = (BoolSort ∷ BoolSort ∷ [], 0 ∷ 1 ∷ [], rw (h.bool, k.bool) refl, (0, 1 ∷ [], h.means, (1, [], k.means, refl, refl), refl), refl)
pair-value false false false c e t u h k = (BoolSort ∷ BoolSort ∷ [], 0 ∷ 0 ∷ [], rw (h.bool, k.bool) refl, (0, 0 ∷ [], h.means, (0, [], k.means, refl, refl), refl), refl)

pair-bool : (both : Bool) (t u : Tree) → tree_sort t ≡ Some BoolSort → tree_sort u ≡ Some BoolSort → tree_sort (binary (connective both) t u) ≡ Some BoolSort
pair-bool true t u h k = rw (h, k) refl
pair-bool false t u h k = rw (h, k) refl

truth-pair : (both a b : Bool) (c : List ℕ) (e : ℕ → Option ℕ) (t u : Tree) → IsTruth c e t a → IsTruth c e u b → IsTruth c e (binary (connective both) t u) (paired both a b)
truth-pair both a b c e t u h k = record { bool = pair-bool both t u h.bool k.bool; means = pair-value both a b c e t u h k }

-- ---- lists

abbrev pub all_of : Bool → List Bool → Bool
all_of both [] = both
all_of both (b ∷ bs) = paired both b (all_of both bs)

one-paired : (both b : Bool) → paired both b both ≡ b
one-paired true true = refl
one-paired true false = refl
one-paired false true = refl
one-paired false false = refl

none-paired : (both b : Bool) → paired both both b ≡ b
none-paired true b = refl
none-paired false b = refl

paired-assoc : (both a b d : Bool) → paired both a (paired both b d) ≡ paired both (paired both a b) d
paired-assoc true true b d = refl
paired-assoc true false b d = refl
paired-assoc false true b d = refl
paired-assoc false false b d = refl

all_of-append : (both : Bool) (xs ys : List Bool) → all_of both (xs ++ ys) ≡ paired both (all_of both xs) (all_of both ys)
all_of-append both [] ys = sym (none-paired both (all_of both ys))
all_of-append both (x ∷ xs) ys = ap (paired both x) (all_of-append both xs ys) ∙ paired-assoc both x (all_of both xs) (all_of both ys)

all_of-halves : {X : Type 0} (both : Bool) (f : X → Bool) (n : ℕ) (xs : List X) → paired both (all_of both (map f (take n xs))) (all_of both (map f (drop n xs))) ≡ all_of both (map f xs)
all_of-halves both f n xs =
    sym (all_of-append both (map f (take n xs)) (map f (drop n xs)))
    ∙ ap (all_of both) (sym (map-append f (take n xs) (drop n xs)) ∙ ap (map f) (take-append-drop n xs))

pub all_of-all : {X : Type 0} (f : X → Bool) (xs : List X) → all_of true (map f xs) ≡ list_all f xs
all_of-all f [] = refl
all_of-all f (x ∷ xs) = ap (λ b. f x && b) (all_of-all f xs)

pub all_of-any : {X : Type 0} (f : X → Bool) (xs : List X) → all_of false (map f xs) ≡ list_any f xs
all_of-any f [] = refl
all_of-any f (x ∷ xs) = ap (λ b. f x || b) (all_of-any f xs)

-- formulas that are joined, each of its value
truth-within : {X : Type 0} (c : List ℕ) (e : ℕ → Option ℕ) (both : Bool) (g : X → Tree) (f : X → Bool) (n : ℕ) (xs : List X) → length xs ≤ n
    → All (λ x. IsTruth c e (g x) (f x)) xs → IsTruth c e (joined_within n both (map g xs)) (all_of both (map f xs))
unfolding joined_within
truth-within c e both g f zero [] h each = truth-literal c e both
truth-within c e both g f zero (x ∷ xs) h each = absurd (omega (arith, h))
truth-within c e both g f (suc n) [] h each = truth-literal c e both
truth-within c e both g f (suc n) (x ∷ []) h each =
    truth-same c e (g x) (f x) (paired both (f x) both) (sym (one-paired both (f x))) (All-head (λ y. IsTruth c e (g y) (f y)) x [] each)
truth-within c e both g f (suc n) (x ∷ y ∷ ys) h each =
    let many : length (map g (x ∷ y ∷ ys)) ≡ length (x ∷ y ∷ ys) = length-map (x ∷ y ∷ ys) g in
    let two : 2 ≤ length (map g (x ∷ y ∷ ys)) = omega (arith, many) in
    let less : length (map g (x ∷ y ∷ ys)) / 2 < length (map g (x ∷ y ∷ ys)) = front-shorter (length (map g (x ∷ y ∷ ys))) (length (map g (x ∷ y ∷ ys)) / 2) two refl in
    let fewer : length (map g (x ∷ y ∷ ys)) - length (map g (x ∷ y ∷ ys)) / 2 < length (map g (x ∷ y ∷ ys)) = behind-shorter (length (map g (x ∷ y ∷ ys))) (length (map g (x ∷ y ∷ ys)) / 2) two refl in
    halves c e both g f n (length (map g (x ∷ y ∷ ys)) / 2) (x ∷ y ∷ ys) (omega (arith, less, many, h)) (omega (arith, fewer, many, h)) (omega (arith, less, many)) each
    (λ zs few own. truth-within c e both g f n zs few own)
  where
    halves : {X : Type 0} (c : List ℕ) (e : ℕ → Option ℕ) (both : Bool) (g : X → Tree) (f : X → Bool) (n m : ℕ) (xs : List X) → m ≤ n → length xs - m ≤ n → m ≤ length xs
        → All (λ x. IsTruth c e (g x) (f x)) xs
        → ((zs : List X) → length zs ≤ n → All (λ x. IsTruth c e (g x) (f x)) zs → IsTruth c e (joined_within n both (map g zs)) (all_of both (map f zs)))
        → IsTruth c e (binary (connective both) (joined_within n both (take m (map g xs))) (joined_within n both (drop m (map g xs)))) (all_of both (map f xs))
    halves c e both g f n m xs low high within each ih =
        rw (take-map g m xs, drop-map g m xs)
        (truth-same c e (binary (connective both) (joined_within n both (map g (take m xs))) (joined_within n both (map g (drop m xs)))) _ _ (all_of-halves both f m xs)
        (truth-pair both (all_of both (map f (take m xs))) (all_of both (map f (drop m xs))) c e (joined_within n both (map g (take m xs))) (joined_within n both (map g (drop m xs)))
        (ih (take m xs) (omega (arith, length-take-le m xs within, low)) (All-take (λ x. IsTruth c e (g x) (f x)) m xs each))
        (ih (drop m xs) (omega (arith, length-drop m xs, high)) (All-drop (λ x. IsTruth c e (g x) (f x)) m xs each))))

pub truth-joined : {X : Type 0} (c : List ℕ) (e : ℕ → Option ℕ) (both : Bool) (g : X → Tree) (f : X → Bool) (xs : List X) → All (λ x. IsTruth c e (g x) (f x)) xs
    → IsTruth c e (joined both (map g xs)) (all_of both (map f xs))
truth-joined c e both g f xs each = truth-within c e both g f (length (map g xs)) xs (omega (arith, length-map xs g)) each

-- ---- quantifiers

two-values : (P : ℕ → Type 0) → P 0 → P 1 → (u : ℕ) → u < 2 → P u
two-values P a b zero h = a
two-values P a b (suc zero) h = b
two-values P a b (suc (suc u)) h = absurd (omega (arith, h))

exists-value : (c : List ℕ) (e : ℕ → Option ℕ) (level : ℕ) (t : Tree) (a b : Bool) → Means c (with_level e level 1) t (truth a) → Means c (with_level e level 0) t (truth b) → Means c e (Exists level BoolSort t) (truth (a || b))
exists-value c e level t true b h k = inl (refl, (1, omega arith, h))
exists-value c e level t false true h k = inl (refl, (0, omega arith, k))
exists-value c e level t false false h k = inr (refl, two-values (λ u. Means c (with_level e level u) t 0) k h)

all-value : (c : List ℕ) (e : ℕ → Option ℕ) (level : ℕ) (t : Tree) (a b : Bool) → Means c (with_level e level 1) t (truth a) → Means c (with_level e level 0) t (truth b) → Means c e (ForAll level BoolSort t) (truth (a && b))
all-value c e level t true true h k = inl (refl, two-values (λ u. Means c (with_level e level u) t 1) k h)
all-value c e level t true false h k = inr (refl, (0, omega arith, k))
all-value c e level t false b h k = inr (refl, (1, omega arith, h))

pub truth-bound : (q : Quant) (c : List ℕ) (e : ℕ → Option ℕ) (level : ℕ) (t : Tree) (a b : Bool) → IsTruth c (with_level e level 1) t a → IsTruth c (with_level e level 0) t b → IsTruth c e (bound_by q level t) (quantified_by q a b)
truth-bound quant.Exists c e level t a b h k = record { bool = rw h.bool refl; means = exists-value c e level t a b h.means k.means }
truth-bound quant.Forall c e level t a b h k = record { bool = rw h.bool refl; means = all-value c e level t a b h.means k.means }
