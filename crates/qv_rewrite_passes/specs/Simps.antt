-- Small rules, and the pass that makes them from the leaves up.
use Rattle.std.specs.Prelude.{ℕ, zero, suc, ◌-◌, ◌^◌, ◌%◌, ◌==◌, nat_le, Bool, true, false, ◌&&◌, ◌||◌, if◌then◌else◌, Option, Some, None, unwrap_or, option_map, option_and_then, List, map}
use Rattle.std.specs.Option.{option_or}
use Rattle.qv_words.specs.declared.sort.Sort.{Sort}
use Rattle.qv_words.specs.declared.sort.Sort.TheVariants.{Bits}
use Rattle.qv_words.specs.declared.sort.Sort.TheVariants.{Bool as BoolSort}
use Rattle.qv_words.specs.declared.op.Op.{Op}
use Rattle.qv_words.specs.declared.op.Op.TheVariants.{Not, And, Or, Xor, Implies, Equal, Ite, BvNot, BvAnd, BvOr, BvXor, BvNand, BvNor, BvXnor, BvAdd, BvSub, BvMul, BvUdiv, BvUrem, BvShl, BvLshr, BvAshr, BvUlt, BvUle, BvUgt, BvUge, BvSlt, BvSle, BvSgt, BvSge, Extract, Repeat, ZeroExtend, SignExtend, RotateLeft, RotateRight}
use Rattle.qv_words.specs.Sort.{width_of}
use Rattle.qv_words.specs.Tree.{Tree, Trees, Constant, Variable, Literal, Apply, ForAll, Exists, Nil, Cons}
use Rattle.qv_words.specs.Equality.{tree_eq, op_eq}
use Rattle.qv_words.specs.Passes.{truth_literal, under_both}
use Rattle.qv_words.specs.Prenex.{binary}
use Rattle.qv_words.specs.Inverse.{unary}
use Rattle.qv_rewrite_passes.specs.declared.outcome.Outcome.{Outcome}
use Rattle.qv_rewrite_passes.specs.declared.outcome.Outcome.TheVariants.{Argument, Complement, Number, Truth, Under}
use Rattle.qv_rewrite_passes.specs.Xors.{sort_in}

-- a negation's argument, or else the negation: all bits turned
abbrev pub complement : Sort → Tree → Tree
complement BoolSort t = unwrap_or (under_both Not t) (unary Not t)
complement (Bits w) t = unwrap_or (under_both BvNot t) (unary BvNot t)

-- what an outcome makes of the argument t, of sort s
abbrev pub made : Sort → Tree → Outcome → Tree
made s t Argument = t
made s t Complement = complement s t
made s t (Number n) = Literal s n
made s t (Truth b) = truth_literal b
made s t (Under o n) = binary o t (Literal s n)

-- ---- tables: what an operator makes of its other argument, of sort s

-- the greatest value
abbrev pub greatest : Sort → ℕ
greatest s = 2 ^ width_of s - 1

-- one outcome where n is k, and one where it is 0 and another where it is the greatest
abbrev pub where_is : (k n : ℕ) → Outcome → Option Outcome
where_is k n r = if n == k then Some r else None

abbrev pub at_ends : Sort → ℕ → (low high : Outcome) → Option Outcome
at_ends s n low high = if n == 0 then Some low else where_is (greatest s) n high

-- the least and the greatest value as a signed number, and an outcome where n is either
abbrev pub least_signed : Sort → ℕ
least_signed s = 2 ^ (width_of s - 1)

abbrev pub greatest_signed : Sort → ℕ
greatest_signed s = 2 ^ (width_of s - 1) - 1

abbrev pub at_signed_ends : Sort → ℕ → (low high : Outcome) → Option Outcome
at_signed_ends s n low high = if n == least_signed s then Some low else where_is (greatest_signed s) n high

-- one outcome where n is 0, and another where it is the width or more
abbrev pub by_shift : Sort → ℕ → (none past : Outcome) → Option Outcome
by_shift s n none past = if n == 0 then Some none else (if nat_le (width_of s) n then Some past else None)

-- the k below w of which n is the power of two
abbrev pub power_in : (w n : ℕ) → Option ℕ
power_in zero n = None
power_in (suc k) n = if n == 2 ^ k then Some k else power_in k n

-- one outcome where n is 0, one where it is 1, and one where it is another power of two
abbrev pub at_powers : Sort → ℕ → (none one : Outcome) → (power : ℕ → Outcome) → Option Outcome
at_powers s n none one power =
    if n == 0 then Some none else (if n == 1 then Some one else option_map power (power_in (width_of s) n))

-- where either argument is the number n
abbrev pub by_either : Op → Sort → (n : ℕ) → Option Outcome
by_either And s n = at_ends s n (Number 0) Argument
by_either Or s n = at_ends s n Argument (Number 1)
by_either Xor s n = at_ends s n Argument Complement
by_either Equal BoolSort n = at_ends BoolSort n Complement Argument
by_either BvAnd s n = at_ends s n (Number 0) Argument
by_either BvOr s n = at_ends s n Argument (Number (greatest s))
by_either BvXor s n = at_ends s n Argument Complement
by_either BvNand s n = at_ends s n (Number (greatest s)) Complement
by_either BvNor s n = at_ends s n Complement (Number 0)
by_either BvXnor s n = at_ends s n Complement Argument
by_either BvAdd s n = where_is 0 n Argument
by_either BvMul s n = if n == 0 then Some (Number 0) else where_is 1 n Argument
by_either _ s n = None

-- where the first is
abbrev pub by_first : Op → Sort → (n : ℕ) → Option Outcome
by_first Implies s n = at_ends s n (Number 1) Argument
by_first BvUrem s n = where_is 0 n (Number 0)
by_first BvShl s n = where_is 0 n (Number 0)
by_first BvLshr s n = where_is 0 n (Number 0)
by_first BvUlt s n = where_is (greatest s) n (Truth false)
by_first BvUle s n = at_ends s n (Truth true) (Under Equal (greatest s))
by_first BvUgt s n = if n == 0 then Some (Truth false) else where_is 1 n (Under Equal 0)
by_first BvUge s n = at_ends s n (Under Equal 0) (Truth true)
by_first BvSlt s n = where_is (greatest_signed s) n (Truth false)
by_first BvSle s n = at_signed_ends s n (Truth true) (Under Equal (greatest_signed s))
by_first BvSgt s n = where_is (least_signed s) n (Truth false)
by_first BvSge s n = at_signed_ends s n (Under Equal (least_signed s)) (Truth true)
by_first o s n = by_either o s n

-- where the second is
abbrev pub by_second : Op → Sort → (n : ℕ) → Option Outcome
by_second Implies s n = at_ends s n Complement (Number 1)
by_second BvSub s n = where_is 0 n Argument
by_second BvUdiv s n = at_powers s n (Number (greatest s)) Argument (Under BvLshr)
by_second BvUrem s n = at_powers s n Argument (Number 0) (λ k. Under BvAnd (2 ^ k - 1))
by_second BvShl s n = by_shift s n Argument (Number 0)
by_second BvLshr s n = by_shift s n Argument (Number 0)
by_second BvAshr s n = by_shift s n Argument (Under BvAshr (width_of s - 1))
by_second BvUlt s n = if n == 0 then Some (Truth false) else where_is 1 n (Under Equal 0)
by_second BvUle s n = at_ends s n (Under Equal 0) (Truth true)
by_second BvUgt s n = where_is (greatest s) n (Truth false)
by_second BvUge s n = at_ends s n (Truth true) (Under Equal (greatest s))
by_second BvSlt s n = where_is (least_signed s) n (Truth false)
by_second BvSle s n = at_signed_ends s n (Under Equal (least_signed s)) (Truth true)
by_second BvSgt s n = where_is (greatest_signed s) n (Truth false)
by_second BvSge s n = at_signed_ends s n (Truth true) (Under Equal (greatest_signed s))
by_second o s n = by_either o s n

-- where both arguments are one
abbrev pub of_twins : Op → Sort → Option Outcome
of_twins And s = Some Argument
of_twins Or s = Some Argument
of_twins Xor s = Some (Number 0)
of_twins Implies s = Some (Number 1)
of_twins Equal s = Some (Truth true)
of_twins BvAnd s = Some Argument
of_twins BvOr s = Some Argument
of_twins BvXor s = Some (Number 0)
of_twins BvNand s = Some Complement
of_twins BvNor s = Some Complement
of_twins BvXnor s = Some (Number (greatest s))
of_twins BvSub s = Some (Number 0)
of_twins BvUrem s = Some (Number 0)
of_twins BvUlt s = Some (Truth false)
of_twins BvUle s = Some (Truth true)
of_twins BvUgt s = Some (Truth false)
of_twins BvUge s = Some (Truth true)
of_twins BvSlt s = Some (Truth false)
of_twins BvSle s = Some (Truth true)
of_twins BvSgt s = Some (Truth false)
of_twins BvSge s = Some (Truth true)
of_twins _ s = None

-- where one argument is the complement of the other
abbrev pub of_opposites : Op → Sort → Option Outcome
of_opposites And s = Some (Number 0)
of_opposites Or s = Some (Number 1)
of_opposites Xor s = Some (Number 1)
of_opposites Equal s = Some (Truth false)
of_opposites BvAnd s = Some (Number 0)
of_opposites BvOr s = Some (Number (greatest s))
of_opposites BvXor s = Some (Number (greatest s))
of_opposites BvXnor s = Some (Number 0)
of_opposites _ s = None

-- where there is no other one
abbrev pub of_one : Op → Sort → Option Outcome
of_one (Extract i j) s = if j == 0 then where_is (width_of s - 1) i Argument else None
of_one (Repeat k) s = where_is 1 k Argument
of_one (ZeroExtend k) s = where_is 0 k Argument
of_one (SignExtend k) s = where_is 0 k Argument
of_one (RotateLeft k) s = where_is 0 (k % width_of s) Argument
of_one (RotateRight k) s = where_is 0 (k % width_of s) Argument
of_one _ s = None

-- ---- the rules at an application

-- the value of a literal
abbrev pub value_of : Tree → Option ℕ
value_of (Literal s n) = Some n
value_of _ = None

-- whether t is the complement of u
abbrev pub is_complement : (u t : Tree) → Bool
is_complement u (Apply p (Cons t Nil)) = (op_eq Not p || op_eq BvNot p) && tree_eq t u
is_complement u _ = false

-- what a table makes of t
abbrev pub by_table : Tree → Option Outcome → Option Tree
by_table t found = option_map (made (sort_in t) t) found

abbrev pub small_two : Op → (a b : Tree) → Option Tree
small_two o a b =
    if tree_eq a b then by_table a (of_twins o (sort_in a))
    else (if is_complement a b || is_complement b a then by_table a (of_opposites o (sort_in a))
    else option_or (by_table a (option_and_then (by_second o (sort_in a)) (value_of b)))
    (by_table b (option_and_then (by_first o (sort_in b)) (value_of a))))

-- whether a tree is the literal of this truth value
abbrev pub is_truth : ℕ → Tree → Bool
is_truth n (Literal BoolSort m) = m == n
is_truth n _ = false

-- a choice that is known, or between one and itself, or between true and false
abbrev pub chosen : (c a b : Tree) → Tree
chosen c a b =
    if is_truth 1 c || tree_eq a b then a
    else (if is_truth 0 c then b
    else (if is_truth 1 a && is_truth 0 b then c
    else (if is_truth 0 a && is_truth 1 b then complement BoolSort c
    else Apply Ite (Cons c (Cons a (Cons b Nil))))))

-- a choice by a negation is the other choice by what is negated
abbrev pub choice_by : Option Tree → (c a b : Tree) → Tree
choice_by None c a b = chosen c a b
choice_by (Some d) c a b = chosen d b a

abbrev pub small_three : Op → (c a b : Tree) → Option Tree
small_three Ite c a b = Some (choice_by (under_both Not c) c a b)
small_three _ c a b = None

abbrev pub small : Op → Trees → Option Tree
small o (Cons a Nil) = by_table a (of_one o (sort_in a))
small o (Cons a (Cons b Nil)) = small_two o a b
small o (Cons c (Cons a (Cons b Nil))) = small_three o c a b
small o _ = None

abbrev pub simp_node : Op → Trees → Tree
simp_node o ts = unwrap_or (small o ts) (Apply o ts)

-- ---- each application rebuilt once, from the leaves up

abbrev mutual
  pub simped : Tree → Tree
  simped (Constant i s) = Constant i s
  simped (Variable l s) = Variable l s
  simped (Literal s n) = Literal s n
  simped (Apply o ts) = simp_node o (simped_each ts)
  simped (ForAll l s body) = ForAll l s body
  simped (Exists l s body) = Exists l s body

  pub simped_each : Trees → Trees
  simped_each Nil = Nil
  simped_each (Cons t ts) = Cons (simped t) (simped_each ts)

abbrev pub simp_pass : List Tree → List Tree
simp_pass formulas = map simped formulas
