-- The choice of terms for a block: candidates from the region's clauses, and from its literals by
-- inverse terms.
use Rattle.std.specs.Prelude.{◌≡◌, ℕ, zero, suc, ◌+◌, ◌-◌, ◌^◌, ◌==◌, nat_le, nat_lt, Bool, true, false, not, ◌&&◌, ◌||◌, ◌⊎◌, if◌then◌else◌, Option, Some, None, option_map, option_and_then, IsSomeAnd, List, [], ◌∷◌, ◌++◌, map, filter, All, slice_get}
use Rattle.std.specs.List.{list_any, list_all, flat_map}
use Rattle.std.specs.Option.{option_to_list}
use Rattle.qv_words.specs.declared.sort.Sort.{Sort}
use Rattle.qv_words.specs.declared.sort.Sort.TheVariants.{Bits}
use Rattle.qv_words.specs.declared.sort.Sort.TheVariants.{Bool as BoolSort}
use Rattle.qv_words.specs.declared.op.Op.{Op}
use Rattle.qv_words.specs.declared.op.Op.TheVariants.{And, Or, Equal, Ite, BvAdd, BvSub, BvUlt, BvUle, BvUgt, BvUge, BvSlt, BvSle, BvSgt, BvSge}
use Rattle.qv_words.specs.Tree.{Tree, Trees, Constant, Variable, Literal, Apply, ForAll, Exists, Nil, Cons, tree_sort, tree_sorts}
use Rattle.qv_words.specs.Sorted.{no_levels, with_level, free_levels}
use Rattle.qv_words.specs.Meaning.{Means}
use Rattle.qv_words.specs.Replacement.{replaced}
use Rattle.qv_words.specs.Prenex.{negation, binary, is_bool}
use Rattle.qv_words.specs.Problem.{conjunction}
use Rattle.qv_words.specs.Equality.{tree_eq}
use Rattle.qv_words.specs.Clauses.{is_among, nodes}
use Rattle.qv_words.specs.Inverse.{inverse_term, number}
use Rattle.qv_words.specs.Passes.{truth_literal}

-- how often the variable of a level stands in a tree
abbrev mutual
  pub occurrences : ℕ → Tree → ℕ
  occurrences x (Constant i s) = 0
  occurrences x (Variable l s) = if l == x then 1 else 0
  occurrences x (Literal s n) = 0
  occurrences x (Apply o args) = occurrences_in_each x args
  occurrences x (ForAll l s body) = occurrences x body
  occurrences x (Exists l s body) = occurrences x body

  pub occurrences_in_each : ℕ → Trees → ℕ
  occurrences_in_each x Nil = 0
  occurrences_in_each x (Cons t ts) = occurrences x t + occurrences_in_each x ts

abbrev pub is_in : ℕ → Tree → Bool
is_in x t = not (occurrences x t == 0)

abbrev pub is_ite : Op → Bool
is_ite Ite = true
is_ite _ = false

-- whether it stands below a choice
abbrev mutual
  pub is_below_ite : ℕ → Tree → Bool
  is_below_ite x (Apply o args) = (is_ite o && not (occurrences_in_each x args == 0)) || is_some_below_ite x args
  is_below_ite x _ = false

  pub is_some_below_ite : ℕ → Trees → Bool
  is_some_below_ite x Nil = false
  is_some_below_ite x (Cons t ts) = is_below_ite x t || is_some_below_ite x ts

-- a tree's value where it is a literal
abbrev pub literal_value : Tree → Option ℕ
literal_value (Literal s n) = Some n
literal_value _ = None

-- a row with the other argument and the target put in
abbrev pub put_in_row : Tree → Tree → Tree → Tree
put_in_row s t row = replaced (with_level (with_level no_levels 0 s) 1 t) row

-- the target for the argument at a position, beside another argument
abbrev pub next_target : Op → ℕ → Option (List Sort) → Tree → Tree → Option Tree
next_target o position None s t = None
next_target o position (Some sorts) s t = option_map (put_in_row s t) (inverse_term o position sorts (literal_value s))

-- the candidate that arrives at x down a tree's path to it
abbrev pub descend : ℕ → Tree → Tree → Option Tree
descend x (Variable l s) t = if l == x then Some t else None
descend x (Apply o (Cons a Nil)) t =
    option_and_then (λ next. descend x a next) (next_target o 0 (tree_sorts (Cons a Nil)) t t)
descend x (Apply o (Cons a (Cons b Nil))) t =
    if is_in x a then option_and_then (λ next. descend x a next) (next_target o 0 (tree_sorts (Cons a (Cons b Nil))) b t)
    else option_and_then (λ next. descend x b next) (next_target o 1 (tree_sorts (Cons a (Cons b Nil))) a t)
descend x _ t = None

-- the targets of an equation and of a comparison with b: b - 1, b + 1, b, the least and the
-- greatest value
abbrev pub targets_around : Tree → Option Sort → List Tree
targets_around b (Some (Bits w)) = binary BvSub b (number w 1) ∷ binary BvAdd b (number w 1) ∷ b ∷ number w 0 ∷ number w (2 ^ w - 1) ∷ []
targets_around b _ = []

abbrev pub is_comparison : Op → Bool
is_comparison BvUlt = true
is_comparison BvUle = true
is_comparison BvUgt = true
is_comparison BvUge = true
is_comparison BvSlt = true
is_comparison BvSle = true
is_comparison BvSgt = true
is_comparison BvSge = true
is_comparison _ = false

abbrev pub is_equation : Op → Bool
is_equation Equal = true
is_equation _ = false

abbrev pub targets : Op → Tree → List Tree
targets o b = if is_equation o then b ∷ [] else targets_around b (tree_sort b)

-- what the targets give down the side with x
abbrev pub candidates_down : ℕ → Tree → List Tree → List Tree
candidates_down x side ts = flat_map (λ t. option_to_list (descend x side t)) ts

-- a literal on bit-vectors whose sides are a and b gives candidates where x occurs in it once and
-- not below a choice
abbrev pub candidates_of_sides : ℕ → Op → Tree → Tree → List Tree
candidates_of_sides x o a b =
    if (is_equation o || is_comparison o) && not (is_bool (tree_sort a))
    && (occurrences x a + occurrences x b) == 1 && not (is_below_ite x a || is_below_ite x b)
    then (if is_in x a then candidates_down x a (targets o b) else candidates_down x b (targets o a))
    else []

-- the candidates of one subtree of a region; a literal that is x itself has true and false
abbrev pub candidates_of : ℕ → Tree → List Tree
candidates_of x (Variable l BoolSort) = if l == x then truth_literal true ∷ truth_literal false ∷ [] else []
candidates_of x (Apply o (Cons a (Cons b Nil))) = candidates_of_sides x o a b
candidates_of x _ = []

-- no place of this block stands in it, which has the places from first to end - 1
abbrev pub is_outside : ℕ → ℕ → Tree → Bool
is_outside first end t = not (list_any (λ leaf. nat_le first leaf.0 && nat_lt leaf.0 end) (free_levels t))

-- a region with a term for one variable
abbrev pub with_term : ℕ → Tree → Tree → Tree
with_term x t region = replaced (with_level no_levels x t) region

abbrev pub is_and : Op → Bool
is_and And = true
is_and _ = false

abbrev pub is_or : Op → Bool
is_or Or = true
is_or _ = false

-- what an operator joins in a tree: its conjuncts, or its disjuncts
abbrev pub joined : (Op → Bool) → Tree → List Tree
joined joins (Apply o (Cons a (Cons b Nil))) =
    if joins o then joined joins a ++ joined joins b else Apply o (Cons a (Cons b Nil)) ∷ []
joined joins t = t ∷ []

abbrev pub opposite : ℕ → Tree
opposite x = negation (Variable x BoolSort)

-- neither x stands in it nor a place of the block
abbrev pub is_apart : ℕ → ℕ → ℕ → Tree → Bool
is_apart first end x d = is_outside first end d && not (is_in x d)

-- a clause that says what x implies: a disjunct is x's negation, and all others are apart
abbrev pub is_implication : ℕ → ℕ → ℕ → Tree → Bool
is_implication first end x c =
    is_among (joined is_or c) (opposite x) && list_all (λ d. tree_eq d (opposite x) || is_apart first end x d) (joined is_or c)

-- those among a region's conjuncts
abbrev pub implications : ℕ → ℕ → Tree → ℕ → List Tree
implications first end region x =
    filter (λ c. is_implication first end x c && is_among (joined is_and region) c) (nodes (region ∷ []))

-- the conjunction of some formulas, where there are any
abbrev pub together : List Tree → List Tree
together [] = []
together (t ∷ ts) = conjunction (t ∷ ts) ∷ []

-- a truth value is defined by all that it implies
abbrev pub definitions : ℕ → ℕ → Tree → ℕ → List Tree
definitions first end region x = together (map (with_term x (truth_literal true)) (implications first end region x))

-- its definition, and those of the region's subtrees in post-order; but for those with a place of
-- the block
unfoldable pub candidates : ℕ → ℕ → Tree → ℕ → List Tree
candidates first end region x =
    filter (is_outside first end) (definitions first end region x ++ flat_map (candidates_of x) (nodes (region ∷ [])))

-- at the point the region is true
abbrev pub IsTrueAt : List ℕ → Tree → Type 0
IsTrueAt point region = Means [] (slice_get point) region 1

-- the first candidate with which the region stays true at the point
pub record IsFirst (point : List ℕ) (region : Tree) (x : ℕ) (all : List Tree) (t : Tree) : Type 0 where
  pub before : List Tree
  pub behind : List Tree
  pub stands : all ≡ before ++ t ∷ behind
  pub holds : IsTrueAt point (with_term x t region)
  pub others : All (λ u. IsTrueAt point (with_term x u region) → ⊥) before

-- the point's literal, where there is no such candidate
pub record IsPointLiteral (point : List ℕ) (region : Tree) (x : ℕ) (s : Sort) (all : List Tree) (t : Tree) : Type 0 where
  pub none : All (λ u. IsTrueAt point (with_term x u region) → ⊥) all
  pub value : IsSomeAnd (slice_get point x) (λ n. t ≡ Literal s n)

-- the choice for one place of a block; a block with no places before it takes the point's values
abbrev pub IsChosen : ℕ → ℕ → List ℕ → Tree → ℕ → Sort → Tree → Type 0
IsChosen zero end point region x s t = IsSomeAnd (slice_get point x) (λ n. t ≡ Literal s n)
IsChosen (suc before) end point region x s t =
    IsFirst point region x (candidates (suc before) end region x) t ⊎ IsPointLiteral point region x s (candidates (suc before) end region x) t

-- the choice for the places of a block in order, of these sorts, from place x on; each goes on with
-- the region in which the earlier terms stand
abbrev pub AreChosen : ℕ → ℕ → List ℕ → Tree → ℕ → List Sort → List Tree → Type 0
AreChosen first end point region x [] terms = terms ≡ []
AreChosen first end point region x (s ∷ sorts) [] = ⊥
AreChosen first end point region x (s ∷ sorts) (t ∷ terms) =
    IsChosen first end point region x s t × AreChosen first end point (with_term x t region) (suc x) sorts terms
