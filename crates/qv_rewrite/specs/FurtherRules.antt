-- The rules by which terms are simplified besides those of passes. What each makes of an
-- application is a literal or a subtree of an argument. No public contract cites this.
use Rattle.std.specs.Prelude.{ℕ, ◌-◌, ◌^◌, ◌==◌, Bool, true, false, ◌&&◌, ◌||◌, if◌then◌else◌, Option, Some, None, option_map, List, [], ◌∷◌}
use Rattle.std.specs.Option.{option_or}
use Rattle.qv_words.specs.declared.sort.Sort.TheVariants.{Bool as BoolSort, Bits}
use Rattle.qv_words.specs.declared.op.Op.{Op}
use Rattle.qv_words.specs.declared.op.Op.TheVariants.{Not, And, Or, Xor, Implies, Equal, Ite, BvAnd, BvOr, BvXor, BvXnor, BvAdd, BvSub, BvUlt, BvUle, BvUgt, BvUge, BvSlt, BvSle, BvSgt, BvSge}
use Rattle.qv_words.specs.Tree.{Tree, Trees, Literal, Apply, Nil, Cons, tree_sort}
use Rattle.qv_words.specs.Equality.{tree_eq, op_eq}
use Rattle.qv_words.specs.Passes.{truth_literal, is_literal}
use Rattle.qv_rewrite.specs.declared.further_rules.FurtherRule.{FurtherRule}
use Rattle.qv_rewrite.specs.declared.further_rules.FurtherRule.TheVariants.{Twins, PastEnds, Opposites, Undone, Known, ChosenTruth}

-- the literal 0 of a tree's sort
abbrev pub zero_of : Tree → Option Tree
zero_of t = option_map (λ s. Literal s 0) (tree_sort t)

-- an operator's application to a tree and itself
abbrev pub of_twins : Op → Tree → Option Tree
of_twins And t = Some t
of_twins Or t = Some t
of_twins BvAnd t = Some t
of_twins BvOr t = Some t
of_twins BvXor t = zero_of t
of_twins BvSub t = zero_of t
of_twins Xor t = Some (truth_literal false)
of_twins BvUlt t = Some (truth_literal false)
of_twins BvUgt t = Some (truth_literal false)
of_twins BvSlt t = Some (truth_literal false)
of_twins BvSgt t = Some (truth_literal false)
of_twins Implies t = Some (truth_literal true)
of_twins BvUle t = Some (truth_literal true)
of_twins BvUge t = Some (truth_literal true)
of_twins BvSle t = Some (truth_literal true)
of_twins BvSge t = Some (truth_literal true)
of_twins _ t = None

abbrev pub twins : Op → Tree → Tree → Option Tree
twins o a b = if tree_eq a b then of_twins o a else None

-- whether a tree is the literal of its width's greatest value
abbrev pub is_greatest : Tree → Bool
is_greatest (Literal (Bits w) n) = 2 ^ w - 1 - n == 0
is_greatest _ = false

-- no value is below 0 or above the greatest
abbrev pub past_ends : Op → Tree → Tree → Option Tree
past_ends BvUlt a b = if is_literal 0 b || is_greatest a then Some (truth_literal false) else None
past_ends BvUgt a b = if is_literal 0 a || is_greatest b then Some (truth_literal false) else None
past_ends BvUle a b = if is_literal 0 a || is_greatest b then Some (truth_literal true) else None
past_ends BvUge a b = if is_literal 0 b || is_greatest a then Some (truth_literal true) else None
past_ends _ a b = None

-- whether a tree is the negation of another
abbrev pub is_not : Tree → Tree → Bool
is_not u (Apply p (Cons t Nil)) = op_eq Not p && tree_eq t u
is_not u _ = false

-- a formula and its negation
abbrev pub opposites : Op → Tree → Tree → Option Tree
opposites And a b = if is_not a b || is_not b a then Some (truth_literal false) else None
opposites Or a b = if is_not a b || is_not b a then Some (truth_literal true) else None
opposites _ a b = None

-- the operators that are undone
abbrev pub IsPairOp : Op → Type 0
IsPairOp BvAdd = Unit {0}
IsPairOp BvSub = Unit {0}
IsPairOp BvXor = Unit {0}
IsPairOp BvXnor = Unit {0}
IsPairOp _ = ⊥

-- what stands before a tree in this operator's application to two trees, and what behind it
abbrev pub before : Op → Tree → Tree → Option Tree
before o u (Apply p (Cons t (Cons s Nil))) = if op_eq o p && tree_eq s u then Some t else None
before o u _ = None

abbrev pub behind : Op → Tree → Tree → Option Tree
behind o u (Apply p (Cons s (Cons t Nil))) = if op_eq o p && tree_eq s u then Some t else None
behind o u _ = None

abbrev pub either_side : Op → Tree → Tree → Option Tree
either_side o u t = option_or (before o u t) (behind o u t)

-- what an operator undoes that was done to one of its arguments with the other
abbrev pub added_back : Tree → Tree → Option Tree
added_back a b = option_or (before BvSub b a) (before BvSub a b)

abbrev pub taken_back : Tree → Tree → Option Tree
taken_back a b = option_or (either_side BvAdd b a) (behind BvSub a b)

abbrev pub crossed_back : Op → Tree → Tree → Option Tree
crossed_back o a b = option_or (either_side o b a) (either_side o a b)

abbrev pub undone : Op → Tree → Tree → Option Tree
undone BvAdd a b = added_back a b
undone BvSub a b = taken_back a b
undone BvXor a b = crossed_back BvXor a b
undone BvXnor a b = crossed_back BvXnor a b
undone _ a b = None

-- whether a tree is the literal of this truth value
abbrev pub is_truth : ℕ → Tree → Bool
is_truth n (Literal BoolSort m) = m == n
is_truth n _ = false

-- an equation of a formula with true
abbrev pub known : Op → Tree → Tree → Option Tree
known Equal a b = if is_truth 1 a then Some b else (if is_truth 1 b then Some a else None)
known _ a b = None

-- a choice between true and false
abbrev pub chosen_truth : Op → Tree → Tree → Tree → Option Tree
chosen_truth Ite c a b = if is_truth 1 a && is_truth 0 b then Some c else None
chosen_truth _ c a b = None

-- the right form of a rule where its left form fits the application
abbrev pub further_form : FurtherRule → Op → Trees → Option Tree
further_form Twins o (Cons a (Cons b Nil)) = twins o a b
further_form PastEnds o (Cons a (Cons b Nil)) = past_ends o a b
further_form Opposites o (Cons a (Cons b Nil)) = opposites o a b
further_form Undone o (Cons a (Cons b Nil)) = undone o a b
further_form Known o (Cons a (Cons b Nil)) = known o a b
further_form ChosenTruth o (Cons c (Cons a (Cons b Nil))) = chosen_truth o c a b
further_form _ _ _ = None

abbrev pub further_in_order : List FurtherRule
further_in_order = Twins ∷ PastEnds ∷ Opposites ∷ Undone ∷ Known ∷ ChosenTruth ∷ []

-- the right form of the first rule that fits an application
abbrev pub first_further : List FurtherRule → Op → Trees → Option Tree
first_further [] o args = None
first_further (r ∷ rs) o args = option_or (further_form r o args) (first_further rs o args)

abbrev pub further : Op → Trees → Option Tree
further o args = first_further further_in_order o args
