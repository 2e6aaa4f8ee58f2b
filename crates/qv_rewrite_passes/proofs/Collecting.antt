-- Sums over the leaves of a tree: which words they have as factors.
use Rattle.std.proofs.Common.{ℕ, ◌+◌, ◌%◌, ◌^◌, ◌==◌, Bool, true, false, cond, List, [], ◌∷◌, ◌++◌, map, fold}
use Rattle.std.specs.List.{AllByRecursion, Contains}
use Rattle.std.proofs.lemmas.List.Elements.{All-contains_itself, recursion_from_All, Contains-append_left, Contains-append_right}
use Rattle.std.proofs.lemmas.Nat.{mod_below, pow_pos}
use Rattle.qv_words.specs.declared.sort.Sort.{Sort}
use Rattle.qv_words.specs.declared.sort.Sort.TheVariants.{Bits}
use Rattle.qv_words.specs.Tree.{Tree, Trees, Cons}
use Rattle.qv_words.specs.Sorted.{constants_of, constants_of_all, free_levels, free_levels_of_all}
use Rattle.qv_words.proofs.Elements.{all-weaker}
use Rattle.qv_words.proofs.Leaves.{both}
use Rattle.qv_words.proofs.PassLeaves.{Among, leaves-trans}
use Rattle.qv_words.specs.Sums.{Monomial, Polynomial, times, multiple, products, same_factors, reduced, plus, collected}
use Rattle.qv_rewrite_passes.proofs.Meanings.{IsOver}
use Rattle.qv_rewrite_passes.proofs.Building.{IsWord, Fits, AllFit}

-- all factors are words over these leaves
abbrev pub AllWords : List (ℕ × Sort) → List (ℕ × Sort) → ℕ → Polynomial → Type 0
AllWords cs vs w p = AllByRecursion (λ m. AllByRecursion (IsWord cs vs w) m.factors) p

pub fit-words : (cs vs : List (ℕ × Sort)) (w : ℕ) (p : Polynomial) → AllFit cs vs w p → AllWords cs vs w p
fit-words cs vs w [] h = tt
fit-words cs vs w (m ∷ p) h = (h.0.factors, fit-words cs vs w p h.1)

pub words-append : (cs vs : List (ℕ × Sort)) (w : ℕ) (p q : Polynomial) → AllWords cs vs w p → AllWords cs vs w q → AllWords cs vs w (p ++ q)
words-append cs vs w p q f g = both (λ m. AllByRecursion (IsWord cs vs w) m.factors) p q f g

pub words-multiple : (cs vs : List (ℕ × Sort)) (w k : ℕ) (p : Polynomial) → AllWords cs vs w p → AllWords cs vs w (multiple k p)
words-multiple cs vs w k [] h = tt
words-multiple cs vs w k (m ∷ p) h = (h.0, words-multiple cs vs w k p h.1)

words-times : (cs vs : List (ℕ × Sort)) (w : ℕ) (m : Monomial) (q : Polynomial) → AllByRecursion (IsWord cs vs w) m.factors → AllWords cs vs w q → AllWords cs vs w (map (times m) q)
words-times cs vs w m [] f g = tt
words-times cs vs w m (k ∷ q) f g = (both (IsWord cs vs w) m.factors k.factors f g.0, words-times cs vs w m q f g.1)

pub words-products : (cs vs : List (ℕ × Sort)) (w : ℕ) (p q : Polynomial) → AllWords cs vs w p → AllWords cs vs w q → AllWords cs vs w (products p q)
words-products cs vs w [] q f g = tt
words-products cs vs w (m ∷ p) q f g =
    words-append cs vs w (map (times m) q) (products p q) (words-times cs vs w m q f.0 g) (words-products cs vs w p q f.1 g)

-- like monomials put together
fit-reduced : (cs vs : List (ℕ × Sort)) (w c : ℕ) (ts : List Tree) → AllByRecursion (IsWord cs vs w) ts → AllFit cs vs w (reduced (2 ^ w) c ts)
fit-reduced cs vs w c ts h = go (c % 2 ^ w == 0)
  where
    go : (b : Bool) → AllFit cs vs w (cond b [] (record { coefficient = c % 2 ^ w; factors = ts } ∷ []))
    go true = tt
    go false = (record { coefficient = mod_below c (2 ^ w) (pow_pos w); factors = h }, tt)

fit-plus : (cs vs : List (ℕ × Sort)) (w : ℕ) (p : Polynomial) (m : Monomial) → AllFit cs vs w p → AllByRecursion (IsWord cs vs w) m.factors → AllFit cs vs w (plus (2 ^ w) p m)
fit-plus cs vs w [] m f h = fit-reduced cs vs w m.coefficient m.factors h
fit-plus cs vs w (k ∷ p) m f h = go (fit-plus cs vs w p m f.1 h) (same_factors k.factors m.factors)
  where
    go : AllFit cs vs w (plus (2 ^ w) p m) → (b : Bool) → AllFit cs vs w (cond b (reduced (2 ^ w) (k.coefficient + m.coefficient) k.factors ++ p) (k ∷ plus (2 ^ w) p m))
    go others true = both (Fits cs vs w) (reduced (2 ^ w) (k.coefficient + m.coefficient) k.factors) p (fit-reduced cs vs w (k.coefficient + m.coefficient) k.factors f.0.factors) f.1
    go others false = (f.0, others)

fit-fold : (cs vs : List (ℕ × Sort)) (w : ℕ) (q p : Polynomial) → AllFit cs vs w q → AllWords cs vs w p → AllFit cs vs w (fold (plus (2 ^ w)) q p)
fit-fold cs vs w q [] f h = f
fit-fold cs vs w q (m ∷ p) f h = fit-fold cs vs w (plus (2 ^ w) q m) p (fit-plus cs vs w q m f h.0) h.1

pub fit-collected : (cs vs : List (ℕ × Sort)) (w : ℕ) (p : Polynomial) → AllWords cs vs w p → AllFit cs vs w (collected w p)
fit-collected cs vs w p h = fit-fold cs vs w [] p tt h

-- over more leaves
pub over-weaker : (cs vs ds ws : List (ℕ × Sort)) (s : Sort) (u : Tree) → Among cs ds → Among vs ws → IsOver cs vs s u → IsOver ds ws s u
over-weaker cs vs ds ws s u f g k = record { sorted = k.sorted; free = k.free; sort = k.sort; leaves = leaves-trans u cs vs ds ws k.leaves f g }

fit-weaker : (cs vs ds ws : List (ℕ × Sort)) (w : ℕ) (p : Polynomial) → Among cs ds → Among vs ws → AllFit cs vs w p → AllFit ds ws w p
fit-weaker cs vs ds ws w p f g h =
    all-weaker (Fits cs vs w) (Fits ds ws w) p (λ m k. record {
      coefficient = k.coefficient;
      factors = all-weaker (IsWord cs vs w) (IsWord ds ws w) m.factors (λ u o. over-weaker cs vs ds ws (Bits w) u f g o) k.factors;
    }) h

pub left-among : (xs ys : List (ℕ × Sort)) → Among xs (xs ++ ys)
left-among xs ys = all-weaker (Contains xs) (Contains (xs ++ ys)) xs (λ x h. Contains-append_left xs ys x h) (recursion_from_All (Contains xs) xs (All-contains_itself xs))

pub right-among : (xs ys : List (ℕ × Sort)) → Among ys (xs ++ ys)
right-among xs ys = all-weaker (Contains ys) (Contains (xs ++ ys)) ys (λ x h. Contains-append_right xs ys x h) (recursion_from_All (Contains ys) ys (All-contains_itself ys))

-- a sum over the leaves of the first tree of a list, and of others
pub fit-first : (t : Tree) (ts : Trees) (w : ℕ) (p : Polynomial) → AllFit (constants_of t) (free_levels t) w p → AllFit (constants_of_all (Cons t ts)) (free_levels_of_all (Cons t ts)) w p
fit-first t ts w p h =
    fit-weaker (constants_of t) (free_levels t) (constants_of_all (Cons t ts)) (free_levels_of_all (Cons t ts)) w p
    (left-among (constants_of t) (constants_of_all ts)) (left-among (free_levels t) (free_levels_of_all ts)) h

pub fit-others : (t : Tree) (ts : Trees) (w : ℕ) (p : Polynomial) → AllFit (constants_of_all ts) (free_levels_of_all ts) w p → AllFit (constants_of_all (Cons t ts)) (free_levels_of_all (Cons t ts)) w p
fit-others t ts w p h =
    fit-weaker (constants_of_all ts) (free_levels_of_all ts) (constants_of_all (Cons t ts)) (free_levels_of_all (Cons t ts)) w p
    (right-among (constants_of t) (constants_of_all ts)) (right-among (free_levels t) (free_levels_of_all ts)) h
