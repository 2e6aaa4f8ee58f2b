-- Rewriting passes, by name, and simple formulas, in which none of their rules fits.
use Rattle.std.specs.Prelude.{◌≡◌, ℕ, ◌==◌, Bool, true, false, if◌then◌else◌, Option, Some, None, unwrap_or, option_map, List, [], ◌∷◌, map}
use Rattle.qv_words.specs.declared.sort.Sort.{Sort}
use Rattle.qv_words.specs.declared.sort.Sort.TheVariants.{Bool as BoolSort}
use Rattle.qv_words.specs.declared.op.Op.{Op}
use Rattle.qv_words.specs.declared.op.Op.TheVariants.{Not, And, Or, Equal, Ite, BvNot, BvNeg, BvAdd, BvSub, BvMul}
use Rattle.qv_words.specs.declared.rule.Rule.{Rule}
use Rattle.qv_words.specs.declared.rule.Rule.TheVariants.{Fold, Same, NotNot, Unit as UnitRule, Absorb, IteKnown, IteSame, AddZero, MulOne, MulZero}
use Rattle.qv_words.specs.Rank.{result_sort}
use Rattle.qv_words.specs.Op.{op_value}
use Rattle.qv_words.specs.Tree.{Tree, Trees, Constant, Variable, Literal, Apply, ForAll, Exists, Nil, Cons}
use Rattle.qv_words.specs.Equality.{tree_eq, op_eq}

abbrev pub truth_literal : Bool → Tree
truth_literal b = Literal BoolSort (if b then 1 else 0)

-- whether a tree is the literal of this value
abbrev pub is_literal : ℕ → Tree → Bool
is_literal n (Literal s m) = m == n
is_literal n _ = false

-- the sorts and the values of trees that are all literals
pub record Literals : Type 0 where
  pub sorts : List Sort
  pub values : List ℕ

abbrev pub literals_of : Trees → Option Literals
literals_of Nil = Some (record { sorts = []; values = [] })
literals_of (Cons (Literal s n) ts) = option_map (λ l. record { sorts = s ∷ l.sorts; values = n ∷ l.values }) (literals_of ts)
literals_of (Cons _ ts) = None

abbrev pub folded : Op → Literals → Option Tree
folded o l = option_map (λ s. Literal s (op_value o l.sorts l.values)) (result_sort o l.sorts)

abbrev pub fold_literals : Op → Option Literals → Option Tree
fold_literals o None = None
fold_literals o (Some l) = folded o l

-- what stands under two applications of one operator
abbrev pub under_both : Op → Tree → Option Tree
under_both o (Apply p (Cons t Nil)) = if op_eq o p then Some t else None
under_both o _ = None

-- the other of two trees where one is the literal of this value
abbrev pub beside : ℕ → Tree → Tree → Option Tree
beside n a b = if is_literal n a then Some b else (if is_literal n b then Some a else None)

-- the one of two trees that is the literal of this value
abbrev pub among_two : ℕ → Tree → Tree → Option Tree
among_two n a b = if is_literal n a then Some a else (if is_literal n b then Some b else None)

-- the right form of a rule where its left form fits the application
abbrev pub rewritten : Rule → Op → Trees → Option Tree
rewritten Fold o args = fold_literals o (literals_of args)
rewritten Same Equal (Cons a (Cons b Nil)) = if tree_eq a b then Some (truth_literal true) else None
rewritten NotNot Not (Cons a Nil) = under_both Not a
rewritten NotNot BvNot (Cons a Nil) = under_both BvNot a
rewritten NotNot BvNeg (Cons a Nil) = under_both BvNeg a
rewritten UnitRule And (Cons a (Cons b Nil)) = beside 1 a b
rewritten UnitRule Or (Cons a (Cons b Nil)) = beside 0 a b
rewritten Absorb And (Cons a (Cons b Nil)) = among_two 0 a b
rewritten Absorb Or (Cons a (Cons b Nil)) = among_two 1 a b
rewritten IteKnown Ite (Cons c (Cons a (Cons b Nil))) = if is_literal 1 c then Some a else (if is_literal 0 c then Some b else None)
rewritten IteSame Ite (Cons c (Cons a (Cons b Nil))) = if tree_eq a b then Some a else None
rewritten AddZero BvAdd (Cons a (Cons b Nil)) = beside 0 a b
rewritten AddZero BvSub (Cons a (Cons b Nil)) = if is_literal 0 b then Some a else None
rewritten MulOne BvMul (Cons a (Cons b Nil)) = beside 1 a b
rewritten MulZero BvMul (Cons a (Cons b Nil)) = among_two 0 a b
rewritten _ _ _ = None

-- each application of a formula rebuilt from its leaves up, and rewritten once where the rule fits
abbrev mutual
  pub passed : Rule → Tree → Tree
  passed r (Constant i s) = Constant i s
  passed r (Variable l s) = Variable l s
  passed r (Literal s n) = Literal s n
  passed r (Apply o args) = unwrap_or (rewritten r o (passed_each r args)) (Apply o (passed_each r args))
  passed r (ForAll l s body) = ForAll l s body
  passed r (Exists l s body) = Exists l s body

  pub passed_each : Rule → Trees → Trees
  passed_each r Nil = Nil
  passed_each r (Cons t ts) = Cons (passed r t) (passed_each r ts)

-- one pass over a list of formulas, and all ten in order
abbrev pub pass : Rule → List Tree → List Tree
pass r formulas = map (passed r) formulas

abbrev pub rules_in_order : List Rule
rules_in_order = Fold ∷ Same ∷ NotNot ∷ UnitRule ∷ Absorb ∷ IteKnown ∷ IteSame ∷ AddZero ∷ MulOne ∷ MulZero ∷ []

abbrev pub passes_by : List Rule → List Tree → List Tree
passes_by [] formulas = formulas
passes_by (r ∷ rs) formulas = passes_by rs (pass r formulas)

abbrev pub passes : List Tree → List Tree
passes formulas = passes_by rules_in_order formulas

-- no rule fits an application
abbrev pub FitsNone : Op → Trees → Type 0
FitsNone o args = (r : Rule) → rewritten r o args ≡ None

-- no rule fits any subtree
abbrev mutual
  pub IsSimple : Tree → Type 0
  IsSimple (Constant i s) = Unit {0}
  IsSimple (Variable l s) = Unit {0}
  IsSimple (Literal s n) = Unit {0}
  IsSimple (Apply o args) = FitsNone o args × AreSimple args
  IsSimple (ForAll l s body) = Unit {0}
  IsSimple (Exists l s body) = Unit {0}

  pub AreSimple : Trees → Type 0
  AreSimple Nil = Unit {0}
  AreSimple (Cons t ts) = IsSimple t × AreSimple ts
