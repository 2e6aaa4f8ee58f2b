-- What a rule's right form is: a literal, or a subtree of an argument.
use Rattle.std.proofs.Common.{◌≡◌, ℕ, ◌⊎◌, inl, inr, Bool, true, false, cond, Option, Some, None, refl, subst}
use Rattle.std.specs.Prelude.{option_map}
use Rattle.qv_words.specs.declared.sort.Sort.{Sort}
use Rattle.qv_words.specs.declared.op.Op.{Op}
use Rattle.qv_words.specs.declared.op.Op.TheVariants.{Not, And, Or, Equal, Ite, BvNot, BvNeg, BvAdd, BvSub, BvMul}
use Rattle.qv_words.specs.Rank.{result_sort}
use Rattle.qv_words.specs.Op.{op_value}
use Rattle.qv_words.specs.Tree.{Tree, Trees, Constant, Variable, Literal, Apply, ForAll, Exists, Nil, Cons}
use Rattle.qv_words.specs.Equality.{tree_eq, op_eq}
use Rattle.qv_words.specs.declared.rule.Rule.{Rule}
use Rattle.qv_words.specs.declared.rule.Rule.TheVariants.{Fold, Same, NotNot, Unit as UnitRule, Absorb, IteKnown, IteSame, AddZero, MulOne, MulZero}
use Rattle.qv_words.specs.Passes.{truth_literal, is_literal, Literals, literals_of, fold_literals, under_both, beside, among_two, rewritten}
use Rattle.qv_words.proofs.Passing.{some-same}

-- a subtree of a tree, and of one of a list
abbrev mutual
  pub IsWithin : Tree → Tree → Type 0
  IsWithin u (Apply o ts) = IsWithinEach u ts ⊎ (u ≡ Apply o ts)
  IsWithin u t = u ≡ t

  pub IsWithinEach : Tree → Trees → Type 0
  IsWithinEach u Nil = ⊥
  IsWithinEach u (Cons t ts) = IsWithin u t ⊎ IsWithinEach u ts

root : (t : Tree) → IsWithin t t
root (Constant i s) = refl
root (Variable l s) = refl
root (Literal s n) = refl
root (Apply o ts) = inr refl
root (ForAll l s t) = refl
root (Exists l s t) = refl

-- a literal, or such a subtree
abbrev pub IsPart : Tree → Trees → Type 0
IsPart u ts = ((s : Sort) × (n : ℕ) × (u ≡ Literal s n)) ⊎ IsWithinEach u ts

-- a tree, if there is one, is a part
abbrev Part : Trees → Option Tree → Type 0
Part ts q = (u : Tree) → q ≡ Some u → IsPart u ts

none-part : (ts : Trees) → Part ts None
none-part ts u h = cc

some-part : (ts : Trees) (t : Tree) → IsPart t ts → Part ts (Some t)
some-part ts t h u e = subst (λ (x : Tree). IsPart x ts) (some-same t u e) h

literal-part : (ts : Trees) (s : Sort) (n : ℕ) → Part ts (Some (Literal s n))
literal-part ts s n = some-part ts (Literal s n) (inl (s, n, refl))

below-part : (ts : Trees) (t : Tree) → IsWithinEach t ts → Part ts (Some t)
below-part ts t h = some-part ts t (inr h)

one-of : (ts : Trees) (b : Bool) (p q : Option Tree) → Part ts p → Part ts q → Part ts (cond b p q)
one-of ts true p q f g = f
one-of ts false p q f g = g

-- an argument
first-part : (a : Tree) (ts : Trees) → Part (Cons a ts) (Some a)
first-part a ts = below-part (Cons a ts) a (inl (root a))

second-part : (a b : Tree) (ts : Trees) → Part (Cons a (Cons b ts)) (Some b)
second-part a b ts = below-part (Cons a (Cons b ts)) b (inr (inl (root b)))

third-part : (a b c : Tree) (ts : Trees) → Part (Cons a (Cons b (Cons c ts))) (Some c)
third-part a b c ts = below-part (Cons a (Cons b (Cons c ts))) c (inr (inr (inl (root c))))

under-part : (o : Op) (a : Tree) → Part (Cons a Nil) (under_both o a)
under-part o (Apply p (Cons t Nil)) =
    let whole = Apply p (Cons t Nil) in
    one-of (Cons whole Nil) (op_eq o p) (Some t) None (below-part (Cons whole Nil) t (inl (inl (inl (root t))))) (none-part (Cons whole Nil))
under-part o _ = λ u h. cc

beside-part : (n : ℕ) (a b : Tree) → Part (Cons a (Cons b Nil)) (beside n a b)
beside-part n a b =
    let ts = Cons a (Cons b Nil) in
    one-of ts (is_literal n a) (Some b) (cond (is_literal n b) (Some a) None) (second-part a b Nil)
    (one-of ts (is_literal n b) (Some a) None (first-part a (Cons b Nil)) (none-part ts))

among-part : (n : ℕ) (a b : Tree) → Part (Cons a (Cons b Nil)) (among_two n a b)
among-part n a b =
    let ts = Cons a (Cons b Nil) in
    one-of ts (is_literal n a) (Some a) (cond (is_literal n b) (Some b) None) (first-part a (Cons b Nil))
    (one-of ts (is_literal n b) (Some b) None (second-part a b Nil) (none-part ts))

-- each rule
fold-part : (o : Op) (ts : Trees) → Part ts (rewritten Fold o ts)
fold-part o ts = go (literals_of ts)
  where
    value : (l : Literals) (q : Option Sort) → Part ts (option_map (λ s. Literal s (op_value o l.sorts l.values)) q)
    value l None = none-part ts
    value l (Some s) = literal-part ts s (op_value o l.sorts l.values)

    go : (q : Option Literals) → Part ts (fold_literals o q)
    go None = none-part ts
    go (Some l) = value l (result_sort o l.sorts)

same-part : (o : Op) (ts : Trees) → Part ts (rewritten Same o ts)
same-part Equal (Cons a (Cons b Nil)) =
    let ts = Cons a (Cons b Nil) in
    one-of ts (tree_eq a b) (Some (truth_literal true)) None (some-part ts (truth_literal true) (inl (_, _, refl))) (none-part ts)
same-part _ _ = λ u h. cc

not-part : (o : Op) (ts : Trees) → Part ts (rewritten NotNot o ts)
not-part Not (Cons a Nil) = under-part Not a
not-part BvNot (Cons a Nil) = under-part BvNot a
not-part BvNeg (Cons a Nil) = under-part BvNeg a
not-part _ _ = λ u h. cc

unit-part : (o : Op) (ts : Trees) → Part ts (rewritten UnitRule o ts)
unit-part And (Cons a (Cons b Nil)) = beside-part 1 a b
unit-part Or (Cons a (Cons b Nil)) = beside-part 0 a b
unit-part _ _ = λ u h. cc

absorb-part : (o : Op) (ts : Trees) → Part ts (rewritten Absorb o ts)
absorb-part And (Cons a (Cons b Nil)) = among-part 0 a b
absorb-part Or (Cons a (Cons b Nil)) = among-part 1 a b
absorb-part _ _ = λ u h. cc

ite_known-part : (o : Op) (ts : Trees) → Part ts (rewritten IteKnown o ts)
ite_known-part Ite (Cons c (Cons a (Cons b Nil))) =
    let ts = Cons c (Cons a (Cons b Nil)) in
    one-of ts (is_literal 1 c) (Some a) (cond (is_literal 0 c) (Some b) None) (second-part c a (Cons b Nil))
    (one-of ts (is_literal 0 c) (Some b) None (third-part c a b Nil) (none-part ts))
ite_known-part _ _ = λ u h. cc

ite_same-part : (o : Op) (ts : Trees) → Part ts (rewritten IteSame o ts)
ite_same-part Ite (Cons c (Cons a (Cons b Nil))) =
    let ts = Cons c (Cons a (Cons b Nil)) in
    one-of ts (tree_eq a b) (Some a) None (second-part c a (Cons b Nil)) (none-part ts)
ite_same-part _ _ = λ u h. cc

add_zero-part : (o : Op) (ts : Trees) → Part ts (rewritten AddZero o ts)
add_zero-part BvAdd (Cons a (Cons b Nil)) = beside-part 0 a b
add_zero-part BvSub (Cons a (Cons b Nil)) =
    let ts = Cons a (Cons b Nil) in
    one-of ts (is_literal 0 b) (Some a) None (first-part a (Cons b Nil)) (none-part ts)
add_zero-part _ _ = λ u h. cc

mul_one-part : (o : Op) (ts : Trees) → Part ts (rewritten MulOne o ts)
mul_one-part BvMul (Cons a (Cons b Nil)) = beside-part 1 a b
mul_one-part _ _ = λ u h. cc

mul_zero-part : (o : Op) (ts : Trees) → Part ts (rewritten MulZero o ts)
mul_zero-part BvMul (Cons a (Cons b Nil)) = among-part 0 a b
mul_zero-part _ _ = λ u h. cc

pub rewritten-part : (r : Rule) (o : Op) (ts : Trees) (u : Tree) → rewritten r o ts ≡ Some u → IsPart u ts
rewritten-part Fold o ts = fold-part o ts
rewritten-part Same o ts = same-part o ts
rewritten-part NotNot o ts = not-part o ts
rewritten-part UnitRule o ts = unit-part o ts
rewritten-part Absorb o ts = absorb-part o ts
rewritten-part IteKnown o ts = ite_known-part o ts
rewritten-part IteSame o ts = ite_same-part o ts
rewritten-part AddZero o ts = add_zero-part o ts
rewritten-part MulOne o ts = mul_one-part o ts
rewritten-part MulZero o ts = mul_zero-part o ts
