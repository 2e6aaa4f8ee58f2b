-- Sums as the code has them, and what they are to the definitions. No public contract cites this.
use Rattle.std.specs.Prelude.{◌≡◌, ℕ, zero, suc, ◌+◌, ◌%◌, ◌^◌, ◌<◌, nat_le, nat_lt, Bool, false, ◌&&◌, if◌then◌else◌, Option, Some, None, option_map, option_and_then, is_none, find, All, List, [], ◌∷◌, ◌++◌, map, length, slice_get, unwrap_or}
use Rattle.std.specs.List.{AllByRecursion}
use Rattle.std.specs.declared.alloc.Global.{Global}
use Rattle.std.specs.Prelude.{Vec}
use Rattle.qv_words.specs.declared.sort.Sort.{Sort}
use Rattle.qv_words.specs.declared.sort.Sort.TheVariants.{Bool as BoolSort, Bits}
use Rattle.qv_words.specs.declared.op.Op.{Op}
use Rattle.qv_words.specs.declared.op.Op.TheVariants.{Equal}
use Rattle.qv_words.specs.Tree.{Tree, Constant, Variable, Apply, tree_sort}
use Rattle.qv_words.specs.Sorted.{IsSorted}
use Rattle.qv_words.specs.Sums.{Monomial, Polynomial, atom, reduced, same_factors, factors_before, is_subtracted, combined, collected, polynomial}
use Rattle.qv_store.specs.Nodes.{tree_at, trees_at}
use Rattle.qv_store.specs.Stores.{StandsAt}
use Rattle.qv_store.specs.Walks.{IsWalk, IsEarlier}
use Rattle.qv_rewrite_sums.specs.declared.product.Product.{Product}
use Rattle.qv_rewrite_sums.specs.declared.summing.Sides.{Sides}

-- the monomial of a product, and the sum of products
abbrev pub monomial_at : List Tree → Product → Monomial
monomial_at trees m = record { coefficient = m.coefficient; factors = map (tree_at trees) m.factors.items }

abbrev pub sum_at : List Tree → List Product → Polynomial
sum_at trees p = map (monomial_at trees) p

abbrev pub with_coefficient : ℕ → Monomial → Monomial
with_coefficient c m = record { coefficient = c; factors = m.factors }

-- a sum with each coefficient modulo n
abbrev pub rest_of : ℕ → Monomial → Monomial
rest_of n m = record { coefficient = m.coefficient % n; factors = m.factors }

abbrev pub modulo : ℕ → Polynomial → Polynomial
modulo n p = map (rest_of n) p

-- a sum that isn't too long to be collected
abbrev pub short_raw : Option Polynomial → Option Polynomial
short_raw made = option_and_then (λ raw. if nat_le (length raw) 48 then Some raw else None) made

-- the first place of a list that passes a test
abbrev pub first_place : {X : Type 0} → (X → Bool) → List X → Option ℕ
first_place test [] = None
first_place test (x ∷ xs) = if test x then Some 0 else option_map suc (first_place test xs)

-- that place, or the end of the list
abbrev pub place_or_end : {X : Type 0} → (X → Bool) → List X → ℕ
place_or_end test xs = unwrap_or (first_place test xs) (length xs)

-- whether a product has factors like these
abbrev pub is_like : List Tree → List ℕ → Product → Bool
is_like trees factors m = same_factors (map (tree_at trees) m.factors.items) (map (tree_at trees) factors)

-- a sum with this much more at the coefficient of this place
abbrev pub raised : (n more : ℕ) → ℕ → Polynomial → Polynomial
raised n more place [] = []
raised n more zero (m ∷ p) = reduced n (m.coefficient + more) m.factors ++ p
raised n more (suc place) (m ∷ p) = m ∷ raised n more place p

-- the class of a tree in the order of factors, and its number there
abbrev pub class_of : Tree → ℕ
class_of (Constant i s) = 0
class_of (Variable l s) = 1
class_of _ = 2

abbrev pub number_in : Tree → ℕ
number_in (Constant i s) = i
number_in (Variable l s) = l
number_in _ = 0

-- a tree that is a word
abbrev pub IsWord : ℕ → Tree → Type 0
IsWord w t = tree_sort t ≡ Some (Bits w)

abbrev pub AreWords : ℕ → List Tree → Type 0
AreWords w ts = AllByRecursion (IsWord w) ts

-- the factors of a sum are words
abbrev pub HaveWords : ℕ → Polynomial → Type 0
HaveWords w p = AllByRecursion (λ m. AreWords w m.factors) p

-- a monomial of words, with a coefficient of w bits
pub record IsOfWords (w : ℕ) (m : Monomial) : Type 0 where
  pub coefficient : m.coefficient < 2 ^ w
  pub factors : AreWords w m.factors

abbrev pub AreOfWords : ℕ → Polynomial → Type 0
AreOfWords w p = AllByRecursion (IsOfWords w) p

-- a sum for a tree of a sort: of a truth value the tree alone
abbrev pub IsSumFor : Sort → Polynomial → Type 0
IsSumFor BoolSort p = (t : Tree) × (p ≡ atom t) × (tree_sort t ≡ Some BoolSort)
IsSumFor (Bits w) p = AreOfWords w p

-- the factors of products stand below this number
abbrev pub AreBelow : ℕ → List Product → Type 0
AreBelow n p = AllByRecursion (λ m. AllByRecursion (λ id. id < n) m.factors.items) p

-- a tree of this sort stands at this number
pub record StandsAs (trees : List Tree) (s : Sort) (id : ℕ) (t : Tree) : Type 0 where
  pub stands : StandsAt trees id t
  pub sort : tree_sort t ≡ Some s

-- products that are the sum of a tree
pub record IsSumOf (trees : List Tree) (t : Tree) (p : List Product) : Type 0 where
  pub sum : sum_at trees p ≡ polynomial t
  pub below : AreBelow (length trees) p

-- lists of products as lists
abbrev pub sums_in : List (Vec Product Global) → List (List Product)
sums_in sums = map (λ sum. sum.items) sums

-- the sums of the first terms of a walk, in their order
abbrev pub AreSums : List Tree → (ℕ → Tree) → List ℕ → List (List Product) → Type 0
AreSums trees tree ids sums = (k n : ℕ) (p : List Product) → slice_get ids k ≡ Some n → slice_get sums k ≡ Some p → IsSumOf trees (tree n) p

-- products in the order of their factors
abbrev pub product_before : Monomial → Monomial → Bool
product_before k m = factors_before k.factors m.factors

-- whether the first monomial of a sum is subtracted
abbrev pub is_first_subtracted : ℕ → Polynomial → Bool
is_first_subtracted w [] = false
is_first_subtracted w (m ∷ p) = is_subtracted w m

-- the sum of an application, where it is a short one
abbrev pub kept : Option Polynomial → Option Polynomial
kept made = option_and_then (λ p. if nat_le (length p) 24 && is_none (find (λ m. nat_lt 4 (length m.factors)) p) then Some p else None) made

abbrev pub short_sum : Op → ℕ → List Polynomial → Option Polynomial
short_sum o w ps = kept (option_map (collected w) (short_raw (combined o w ps)))

-- a sorted application of an operator to terms whose sums were found
pub record IsApplication (trees : List Tree) (ids : List ℕ) (sums : List (List Product)) (o : Op) (kids : List ℕ) : Type 0 where
  pub walk : IsWalk trees ids
  pub found : AreSums trees (tree_at trees) ids sums
  pub kids_earlier : All (IsEarlier ids (length sums)) kids
  pub kids_below : All (λ kid. kid < length trees) kids
  pub sorted : IsSorted (Apply o (trees_at trees kids))

-- the next term of a walk, over the sums of those before
pub record IsNext (trees : List Tree) (ids : List ℕ) (sums : List (List Product)) (n : ℕ) : Type 0 where
  pub walk : IsWalk trees ids
  pub at : slice_get ids (length sums) ≡ Some n
  pub found : AreSums trees (tree_at trees) ids sums

-- the sides of an equation of words
pub record AreSidesOf (trees : List Tree) (o : Op) (kids : List ℕ) (sides : Sides) : Type 0 where
  pub equation : o ≡ Equal
  pub kids_are : kids ≡ sides.a ∷ sides.b ∷ []
  pub word : IsWord sides.width (tree_at trees sides.a)
