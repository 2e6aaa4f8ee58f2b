-- A formula that every pass leaves as it is is simple: a rule's right form has fewer applications than its left.
use Rattle.std.proofs.Common.{◌≡◌, ℕ, ◌+◌, ◌≤◌, ◌<◌, Bool, true, false, cond, Option, Some, None, refl, sym, ap, ◌∙◌, subst, arith, le_refl}
use Rattle.std.specs.Prelude.{unwrap_or, option_map}
use Rattle.qv_words.specs.declared.sort.Sort.{Sort}
use Rattle.qv_words.specs.declared.op.Op.{Op}
use Rattle.qv_words.specs.declared.op.Op.TheVariants.{Not, And, Or, Equal, Ite, BvNot, BvNeg, BvAdd, BvSub, BvMul}
use Rattle.qv_words.specs.Rank.{result_sort}
use Rattle.qv_words.specs.Op.{op_value}
use Rattle.qv_words.specs.Tree.{Tree, Trees, Constant, Variable, Literal, Apply, ForAll, Exists, Nil, Cons}
use Rattle.qv_words.specs.Equality.{tree_eq, op_eq}
use Rattle.qv_words.specs.declared.rule.Rule.{Rule}
use Rattle.qv_words.specs.declared.rule.Rule.TheVariants.{Fold, Same, NotNot, Unit as UnitRule, Absorb, IteKnown, IteSame, AddZero, MulOne, MulZero}
use Rattle.qv_words.specs.Passes.{truth_literal, is_literal, Literals, literals_of, fold_literals, under_both, beside, among_two, rewritten, passed, passed_each, IsSimple, AreSimple}
use Rattle.qv_words.proofs.Passing.{some-same}

-- how many applications a tree has
abbrev mutual
  pub uses : Tree → ℕ
  uses (Constant i s) = 0
  uses (Variable l s) = 0
  uses (Literal s n) = 0
  uses (Apply o ts) = 1 + uses_each ts
  uses (ForAll l s t) = uses t
  uses (Exists l s t) = uses t

  pub uses_each : Trees → ℕ
  uses_each Nil = 0
  uses_each (Cons t ts) = uses t + uses_each ts

-- a tree, if there is one, has fewer
abbrev pub Fewer : Option Tree → ℕ → Type 0
Fewer q n = (u : Tree) → q ≡ Some u → uses u < n

none-fewer : (n : ℕ) → Fewer None n
none-fewer n u h = cc

some-fewer : (t : Tree) (n : ℕ) → uses t < n → Fewer (Some t) n
some-fewer t n h u e = subst (λ (x : Tree). uses x < n) (some-same t u e) h

one-of : (b : Bool) (p q : Option Tree) (n : ℕ) → Fewer p n → Fewer q n → Fewer (cond b p q) n
one-of true p q n f g = f
one-of false p q n f g = g

under-fewer : (o : Op) (a : Tree) → Fewer (under_both o a) (uses (Apply o (Cons a Nil)))
under-fewer o (Apply p (Cons t Nil)) =
    let n = uses (Apply o (Cons (Apply p (Cons t Nil)) Nil)) in
    one-of (op_eq o p) (Some t) None n (some-fewer t n (omega arith)) (none-fewer n)
under-fewer o _ = λ u h. cc

-- one of two arguments
first-fewer : (o : Op) (a b : Tree) → uses a < uses (Apply o (Cons a (Cons b Nil)))
first-fewer o a b = omega arith

second-fewer : (o : Op) (a b : Tree) → uses b < uses (Apply o (Cons a (Cons b Nil)))
second-fewer o a b = omega arith

two-fewer : (o : Op) (a b : Tree) (p q : Bool) (x y : Tree) → uses x < uses (Apply o (Cons a (Cons b Nil))) → uses y < uses (Apply o (Cons a (Cons b Nil))) → Fewer (cond p (Some x) (cond q (Some y) None)) (uses (Apply o (Cons a (Cons b Nil))))
two-fewer o a b p q x y f g =
    let n = uses (Apply o (Cons a (Cons b Nil))) in
    one-of p (Some x) (cond q (Some y) None) n (some-fewer x n f) (one-of q (Some y) None n (some-fewer y n g) (none-fewer n))

beside-fewer : (o : Op) (n : ℕ) (a b : Tree) → Fewer (beside n a b) (uses (Apply o (Cons a (Cons b Nil))))
beside-fewer o n a b = two-fewer o a b (is_literal n a) (is_literal n b) b a (second-fewer o a b) (first-fewer o a b)

among-fewer : (o : Op) (n : ℕ) (a b : Tree) → Fewer (among_two n a b) (uses (Apply o (Cons a (Cons b Nil))))
among-fewer o n a b = two-fewer o a b (is_literal n a) (is_literal n b) a b (first-fewer o a b) (second-fewer o a b)

-- each rule
fold-fewer : (o : Op) (ts : Trees) → Fewer (rewritten Fold o ts) (uses (Apply o ts))
fold-fewer o ts = go (literals_of ts)
  where
    value : (l : Literals) (q : Option Sort) → Fewer (option_map (λ s. Literal s (op_value o l.sorts l.values)) q) (uses (Apply o ts))
    value l None = none-fewer (uses (Apply o ts))
    value l (Some s) = some-fewer (Literal s (op_value o l.sorts l.values)) (uses (Apply o ts)) (omega arith)

    go : (q : Option Literals) → Fewer (fold_literals o q) (uses (Apply o ts))
    go None = none-fewer (uses (Apply o ts))
    go (Some l) = value l (result_sort o l.sorts)

same-fewer : (o : Op) (ts : Trees) → Fewer (rewritten Same o ts) (uses (Apply o ts))
same-fewer Equal (Cons a (Cons b Nil)) =
    let n = uses (Apply Equal (Cons a (Cons b Nil))) in
    one-of (tree_eq a b) (Some (truth_literal true)) None n (some-fewer (truth_literal true) n (omega arith)) (none-fewer n)
same-fewer _ _ = λ u h. cc

not-fewer : (o : Op) (ts : Trees) → Fewer (rewritten NotNot o ts) (uses (Apply o ts))
not-fewer Not (Cons a Nil) = under-fewer Not a
not-fewer BvNot (Cons a Nil) = under-fewer BvNot a
not-fewer BvNeg (Cons a Nil) = under-fewer BvNeg a
not-fewer _ _ = λ u h. cc

unit-fewer : (o : Op) (ts : Trees) → Fewer (rewritten UnitRule o ts) (uses (Apply o ts))
unit-fewer And (Cons a (Cons b Nil)) = beside-fewer And _ a b
unit-fewer Or (Cons a (Cons b Nil)) = beside-fewer Or _ a b
unit-fewer _ _ = λ u h. cc

absorb-fewer : (o : Op) (ts : Trees) → Fewer (rewritten Absorb o ts) (uses (Apply o ts))
absorb-fewer And (Cons a (Cons b Nil)) = among-fewer And 0 a b
absorb-fewer Or (Cons a (Cons b Nil)) = among-fewer Or 1 a b
absorb-fewer _ _ = λ u h. cc

ite_known-fewer : (o : Op) (ts : Trees) → Fewer (rewritten IteKnown o ts) (uses (Apply o ts))
ite_known-fewer Ite (Cons c (Cons a (Cons b Nil))) =
    let n = uses (Apply Ite (Cons c (Cons a (Cons b Nil)))) in
    one-of (is_literal 1 c) (Some a) (cond (is_literal 0 c) (Some b) None) n (some-fewer a n (omega arith))
    (one-of (is_literal 0 c) (Some b) None n (some-fewer b n (omega arith)) (none-fewer n))
ite_known-fewer _ _ = λ u h. cc

ite_same-fewer : (o : Op) (ts : Trees) → Fewer (rewritten IteSame o ts) (uses (Apply o ts))
ite_same-fewer Ite (Cons c (Cons a (Cons b Nil))) =
    let n = uses (Apply Ite (Cons c (Cons a (Cons b Nil)))) in
    one-of (tree_eq a b) (Some a) None n (some-fewer a n (omega arith)) (none-fewer n)
ite_same-fewer _ _ = λ u h. cc

add_zero-fewer : (o : Op) (ts : Trees) → Fewer (rewritten AddZero o ts) (uses (Apply o ts))
add_zero-fewer BvAdd (Cons a (Cons b Nil)) = beside-fewer BvAdd 0 a b
add_zero-fewer BvSub (Cons a (Cons b Nil)) =
    let n = uses (Apply BvSub (Cons a (Cons b Nil))) in
    one-of (is_literal _ b) (Some a) None n (some-fewer a n (first-fewer BvSub a b)) (none-fewer n)
add_zero-fewer _ _ = λ u h. cc

mul_one-fewer : (o : Op) (ts : Trees) → Fewer (rewritten MulOne o ts) (uses (Apply o ts))
mul_one-fewer BvMul (Cons a (Cons b Nil)) = beside-fewer BvMul 1 a b
mul_one-fewer _ _ = λ u h. cc

mul_zero-fewer : (o : Op) (ts : Trees) → Fewer (rewritten MulZero o ts) (uses (Apply o ts))
mul_zero-fewer BvMul (Cons a (Cons b Nil)) = among-fewer BvMul 0 a b
mul_zero-fewer _ _ = λ u h. cc

pub rewritten-fewer : (r : Rule) (o : Op) (ts : Trees) → Fewer (rewritten r o ts) (uses (Apply o ts))
rewritten-fewer Fold o ts = fold-fewer o ts
rewritten-fewer Same o ts = same-fewer o ts
rewritten-fewer NotNot o ts = not-fewer o ts
rewritten-fewer UnitRule o ts = unit-fewer o ts
rewritten-fewer Absorb o ts = absorb-fewer o ts
rewritten-fewer IteKnown o ts = ite_known-fewer o ts
rewritten-fewer IteSame o ts = ite_same-fewer o ts
rewritten-fewer AddZero o ts = add_zero-fewer o ts
rewritten-fewer MulOne o ts = mul_one-fewer o ts
rewritten-fewer MulZero o ts = mul_zero-fewer o ts

-- a pass never has more
pub whole-uses : (r : Rule) (o : Op) (ts us : Trees) → uses_each us ≤ uses_each ts → uses (unwrap_or (rewritten r o us) (Apply o us)) ≤ uses (Apply o ts)
whole-uses r o ts us h = go (rewritten r o us) (rewritten-fewer r o us)
  where
    go : (q : Option Tree) → Fewer q (uses (Apply o us)) → uses (unwrap_or q (Apply o us)) ≤ uses (Apply o ts)
    go None f = omega (arith, h)
    go (Some u) f = omega (arith, h, f u refl)

mutual
  pub passed-uses : (r : Rule) (t : Tree) → uses (passed r t) ≤ uses t
  passed-uses r (Constant i s) = le_refl 0
  passed-uses r (Variable l s) = le_refl 0
  passed-uses r (Literal s n) = le_refl 0
  passed-uses r (Apply o ts) = whole-uses r o ts (passed_each r ts) (each-uses r ts)
  passed-uses r (ForAll l s t) = le_refl (uses t)
  passed-uses r (Exists l s t) = le_refl (uses t)

  pub each-uses : (r : Rule) (ts : Trees) → uses_each (passed_each r ts) ≤ uses_each ts
  each-uses r Nil = le_refl 0
  each-uses r (Cons t ts) = omega (arith, passed-uses r t, each-uses r ts)

-- an application that a pass leaves: its arguments stay, and the rule doesn't fit
left-alone : (r : Rule) (o : Op) (ts : Trees) → passed r (Apply o ts) ≡ Apply o ts → (passed_each r ts ≡ ts) × (rewritten r o ts ≡ None)
left-alone r o ts = go (passed_each r ts) (each-uses r ts) (rewritten r o (passed_each r ts)) refl
  where
    go : (us : Trees) → uses_each us ≤ uses_each ts → (q : Option Tree) → rewritten r o us ≡ q → unwrap_or q (Apply o us) ≡ Apply o ts → (us ≡ ts) × (rewritten r o ts ≡ None)
    go us h None is e = let same : us ≡ ts = cc in (same, ap (rewritten r o) (sym same) ∙ is)
    go us h (Some u) is e =
        let fewer : uses u < uses (Apply o us) = rewritten-fewer r o us u is in
        let same : uses u ≡ uses (Apply o ts) = ap uses e in
        absurd (omega (arith, h, fewer, same))

first-alone : (t u : Tree) (ts us : Trees) → Cons t ts ≡ Cons u us → t ≡ u
first-alone t u ts us e = cc

others-alone : (t u : Tree) (ts us : Trees) → Cons t ts ≡ Cons u us → ts ≡ us
others-alone t u ts us e = cc

mutual
  pub stays-simple : (t : Tree) → ((r : Rule) → passed r t ≡ t) → IsSimple t
  stays-simple (Constant i s) h = tt
  stays-simple (Variable l s) h = tt
  stays-simple (Literal s n) h = tt
  stays-simple (Apply o ts) h = (λ r. (left-alone r o ts (h r)).1, stay-simple ts (λ r. (left-alone r o ts (h r)).0))
  stays-simple (ForAll l s t) h = tt
  stays-simple (Exists l s t) h = tt

  stay-simple : (ts : Trees) → ((r : Rule) → passed_each r ts ≡ ts) → AreSimple ts
  stay-simple Nil h = tt
  stay-simple (Cons t ts) h =
      (stays-simple t (λ r. first-alone (passed r t) t (passed_each r ts) ts (h r)), stay-simple ts (λ r. others-alone (passed r t) t (passed_each r ts) ts (h r)))
