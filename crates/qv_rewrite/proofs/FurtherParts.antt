-- What a further rule makes is a literal, or a subtree of an argument.
use Rattle.std.proofs.Common.{◌≡◌, ℕ, inl, inr, true, false, cond, Option, Some, None, List, [], ◌∷◌, length, refl, sym, ap, ◌∙◌, subst}
use Rattle.std.specs.Prelude.{Bool as Truth, ◌&&◌, ◌||◌, option_map}
use Rattle.std.specs.Option.{option_or}
use Rattle.qv_words.specs.declared.sort.Sort.{Sort}
use Rattle.qv_words.specs.declared.op.Op.{Op}
use Rattle.qv_words.specs.declared.op.Op.TheVariants.{Not, And, Or, Xor, Implies, Equal, Ite, BvAnd, BvOr, BvXor, BvXnor, BvAdd, BvSub, BvUlt, BvUle, BvUgt, BvUge, BvSlt, BvSle, BvSgt, BvSge}
use Rattle.qv_words.specs.Tree.{Tree, Trees, Constant, Variable, Literal, Apply, ForAll, Exists, Nil, Cons, tree_sort}
use Rattle.qv_words.specs.Equality.{tree_eq, op_eq}
use Rattle.qv_words.specs.Passes.{truth_literal, is_literal}
use Rattle.qv_store.specs.Nodes.{trees_at}
use Rattle.qv_words.proofs.Equals.{op_eq-is, tree_eq-is}
use Rattle.qv_words.proofs.Passing.{some-same}
use Rattle.qv_words.proofs.RuleParts.{IsWithin, IsWithinEach, IsPart}
use Rattle.qv_rewrite.specs.declared.further_rules.FurtherRule.{FurtherRule}
use Rattle.qv_rewrite.specs.declared.further_rules.FurtherRule.TheVariants.{Twins, PastEnds, Opposites, Undone, Known, ChosenTruth}
use Rattle.qv_rewrite.specs.FurtherRules.{zero_of, of_twins, twins, is_greatest, past_ends, is_not, opposites, before, behind, either_side, added_back, taken_back, crossed_back, undone, is_truth, known, chosen_truth, further_form, first_further, further_in_order, further}
use Rattle.std.proofs.lemmas.Bool.{and_parts}

-- what holds of both holds of the first of them that is there
pub either-of : (P : Tree → Type 0) (p q : Option Tree) → ((u : Tree) → p ≡ Some u → P u) → ((u : Tree) → q ≡ Some u → P u) → (u : Tree) → option_or p q ≡ Some u → P u
either-of P None q f g u e = g u e
either-of P (Some x) q f g u e = f u e

-- what holds of a tree where a test is passed
pub where-true : (P : Tree → Type 0) (b : Truth) (p : Option Tree) → (b ≡ true → (u : Tree) → p ≡ Some u → P u) → (u : Tree) → cond b p None ≡ Some u → P u
where-true P true p f u e = f refl u e
where-true P false p f u e = cc

pub of-one : (P : Tree → Type 0) (t : Tree) → P t → (u : Tree) → Some t ≡ Some u → P u
of-one P t h u e = subst P (some-same t u e) h

pub of-none : (P : Tree → Type 0) (u : Tree) → None ≡ Some u → P u
of-none P u e = cc

pub of-zero : (P : Tree → Type 0) (q : Option Sort) → ((s : Sort) → q ≡ Some s → P (Literal s 0)) → (u : Tree) → option_map (λ s. Literal s 0) q ≡ Some u → P u
of-zero P None h u e = cc
of-zero P (Some s) h u e = subst P (some-same (Literal s 0) u e) (h s refl)

-- what a negation, and what an operator with a tree on one side, is
pub not-is : (u t : Tree) → is_not u t ≡ true → t ≡ Apply Not (Cons u Nil)
not-is u (Apply p (Cons t Nil)) e =
    let tests = and_parts (op_eq Not p) (tree_eq t u) e in
    ap (λ q. Apply q (Cons t Nil)) (sym (op_eq-is Not p tests.0)) ∙ ap (λ x. Apply Not (Cons x Nil)) (tree_eq-is t u tests.1)
not-is u _ e = cc

pub before-is : (o : Op) (u t r : Tree) → before o u t ≡ Some r → t ≡ Apply o (Cons r (Cons u Nil))
before-is o u (Apply p (Cons a (Cons b Nil))) r e = where-true (λ x. Apply p (Cons a (Cons b Nil)) ≡ Apply o (Cons x (Cons u Nil))) (op_eq o p && tree_eq b u) (Some a) here r e
  where
    here : (op_eq o p && tree_eq b u) ≡ true → (x : Tree) → Some a ≡ Some x → Apply p (Cons a (Cons b Nil)) ≡ Apply o (Cons x (Cons u Nil))
    here h x k =
        let tests = and_parts (op_eq o p) (tree_eq b u) h in
        ap (λ q. Apply q (Cons a (Cons b Nil))) (sym (op_eq-is o p tests.0))
        ∙ ap (λ y. Apply o (Cons a (Cons y Nil))) (tree_eq-is b u tests.1)
        ∙ ap (λ y. Apply o (Cons y (Cons u Nil))) (some-same a x k)
before-is o u _ r e = cc

pub behind-is : (o : Op) (u t r : Tree) → behind o u t ≡ Some r → t ≡ Apply o (Cons u (Cons r Nil))
behind-is o u (Apply p (Cons a (Cons b Nil))) r e = where-true (λ x. Apply p (Cons a (Cons b Nil)) ≡ Apply o (Cons u (Cons x Nil))) (op_eq o p && tree_eq a u) (Some b) here r e
  where
    here : (op_eq o p && tree_eq a u) ≡ true → (x : Tree) → Some b ≡ Some x → Apply p (Cons a (Cons b Nil)) ≡ Apply o (Cons u (Cons x Nil))
    here h x k =
        let tests = and_parts (op_eq o p) (tree_eq a u) h in
        ap (λ q. Apply q (Cons a (Cons b Nil))) (sym (op_eq-is o p tests.0))
        ∙ ap (λ y. Apply o (Cons y (Cons b Nil))) (tree_eq-is a u tests.1)
        ∙ ap (λ y. Apply o (Cons u (Cons y Nil))) (some-same b x k)
behind-is o u _ r e = cc

-- a tree is within itself
pub within-itself : (t : Tree) → IsWithin t t
within-itself (Constant i s) = refl
within-itself (Variable l s) = refl
within-itself (Literal s n) = refl
within-itself (Apply o ts) = inr refl
within-itself (ForAll l s t) = refl
within-itself (Exists l s t) = refl

pub within-before : (o : Op) (u t r : Tree) → before o u t ≡ Some r → IsWithin r t
within-before o u t r e = subst (IsWithin r) (sym (before-is o u t r e)) (inl (inl (within-itself r)))

pub within-behind : (o : Op) (u t r : Tree) → behind o u t ≡ Some r → IsWithin r t
within-behind o u t r e = subst (IsWithin r) (sym (behind-is o u t r e)) (inl (inr (inl (within-itself r))))

within-side : (o : Op) (u t r : Tree) → either_side o u t ≡ Some r → IsWithin r t
within-side o u t r e = either-of (λ x. IsWithin x t) (before o u t) (behind o u t) (within-before o u t) (within-behind o u t) r e

-- the parts
abbrev PartOf : Trees → Option Tree → Type 0
PartOf ts q = (u : Tree) → q ≡ Some u → IsPart u ts

abbrev Pair : Tree → Tree → Trees
Pair a b = Cons a (Cons b Nil)

literal-part : (ts : Trees) (s : Sort) (n : ℕ) → PartOf ts (Some (Literal s n))
literal-part ts s n = of-one (λ x. IsPart x ts) (Literal s n) (inl (s, n, refl))

first-part : (a b : Tree) → PartOf (Pair a b) (Some a)
first-part a b = of-one (λ x. IsPart x (Pair a b)) a (inr (inl (within-itself a)))

second-part : (a b : Tree) → PartOf (Pair a b) (Some b)
second-part a b = of-one (λ x. IsPart x (Pair a b)) b (inr (inr (inl (within-itself b))))

or-part : (ts : Trees) (p q : Option Tree) → PartOf ts p → PartOf ts q → PartOf ts (option_or p q)
or-part ts p q f g = either-of (λ x. IsPart x ts) p q f g

if-part : (ts : Trees) (b : Truth) (p : Option Tree) → PartOf ts p → PartOf ts (cond b p None)
if-part ts b p f = where-true (λ x. IsPart x ts) b p (λ h. f)

zero-part : (ts : Trees) (t : Tree) → PartOf ts (zero_of t)
zero-part ts t = of-zero (λ x. IsPart x ts) (tree_sort t) (λ s e. inl (s, 0, refl))

of_twins-part : (o : Op) (a b : Tree) → PartOf (Pair a b) (of_twins o a)
of_twins-part And a b = first-part a b
of_twins-part Or a b = first-part a b
of_twins-part BvAnd a b = first-part a b
of_twins-part BvOr a b = first-part a b
of_twins-part BvXor a b = zero-part (Pair a b) a
of_twins-part BvSub a b = zero-part (Pair a b) a
of_twins-part Xor a b = literal-part (Pair a b) _ _
of_twins-part BvUlt a b = literal-part (Pair a b) _ _
of_twins-part BvUgt a b = literal-part (Pair a b) _ _
of_twins-part BvSlt a b = literal-part (Pair a b) _ _
of_twins-part BvSgt a b = literal-part (Pair a b) _ _
of_twins-part Implies a b = literal-part (Pair a b) _ _
of_twins-part BvUle a b = literal-part (Pair a b) _ _
of_twins-part BvUge a b = literal-part (Pair a b) _ _
of_twins-part BvSle a b = literal-part (Pair a b) _ _
of_twins-part BvSge a b = literal-part (Pair a b) _ _
of_twins-part _ a b = λ u h. cc

past_ends-part : (o : Op) (a b : Tree) → PartOf (Pair a b) (past_ends o a b)
past_ends-part BvUlt a b = if-part (Pair a b) (is_literal 0 b || is_greatest a) _ (literal-part (Pair a b) _ _)
past_ends-part BvUgt a b = if-part (Pair a b) (is_literal 0 a || is_greatest b) _ (literal-part (Pair a b) _ _)
past_ends-part BvUle a b = if-part (Pair a b) (is_literal 0 a || is_greatest b) _ (literal-part (Pair a b) _ _)
past_ends-part BvUge a b = if-part (Pair a b) (is_literal 0 b || is_greatest a) _ (literal-part (Pair a b) _ _)
past_ends-part _ a b = λ u h. cc

opposites-part : (o : Op) (a b : Tree) → PartOf (Pair a b) (opposites o a b)
opposites-part And a b = if-part (Pair a b) (is_not a b || is_not b a) _ (literal-part (Pair a b) _ _)
opposites-part Or a b = if-part (Pair a b) (is_not a b || is_not b a) _ (literal-part (Pair a b) _ _)
opposites-part _ a b = λ u h. cc

before-first : (o : Op) (a b : Tree) → PartOf (Pair a b) (before o b a)
before-first o a b u e = inr (inl (within-before o b a u e))

before-second : (o : Op) (a b : Tree) → PartOf (Pair a b) (before o a b)
before-second o a b u e = inr (inr (inl (within-before o a b u e)))

behind-second : (o : Op) (a b : Tree) → PartOf (Pair a b) (behind o a b)
behind-second o a b u e = inr (inr (inl (within-behind o a b u e)))

side-first : (o : Op) (a b : Tree) → PartOf (Pair a b) (either_side o b a)
side-first o a b u e = inr (inl (within-side o b a u e))

side-second : (o : Op) (a b : Tree) → PartOf (Pair a b) (either_side o a b)
side-second o a b u e = inr (inr (inl (within-side o a b u e)))

undone-part : (o : Op) (a b : Tree) → PartOf (Pair a b) (undone o a b)
undone-part BvAdd a b = or-part (Pair a b) (before BvSub b a) (before BvSub a b) (before-first BvSub a b) (before-second BvSub a b)
undone-part BvSub a b = or-part (Pair a b) (either_side BvAdd b a) (behind BvSub a b) (side-first BvAdd a b) (behind-second BvSub a b)
undone-part BvXor a b = or-part (Pair a b) (either_side BvXor b a) (either_side BvXor a b) (side-first BvXor a b) (side-second BvXor a b)
undone-part BvXnor a b = or-part (Pair a b) (either_side BvXnor b a) (either_side BvXnor a b) (side-first BvXnor a b) (side-second BvXnor a b)
undone-part _ a b = λ u h. cc

known-part : (o : Op) (a b : Tree) → PartOf (Pair a b) (known o a b)
known-part Equal a b = go (is_truth 1 a) (is_truth 1 b)
  where
    go : (p q : Truth) → PartOf (Pair a b) (cond p (Some b) (cond q (Some a) None))
    go true q = second-part a b
    go false true = first-part a b
    go false false = λ u h. cc
known-part _ a b = λ u h. cc

chosen-part : (o : Op) (c a b : Tree) → PartOf (Cons c (Pair a b)) (chosen_truth o c a b)
chosen-part Ite c a b = if-part (Cons c (Pair a b)) (is_truth 1 a && is_truth 0 b) (Some c) (of-one (λ x. IsPart x (Cons c (Pair a b))) c (inr (inl (within-itself c))))
chosen-part _ c a b = λ u h. cc

form-part : (r : FurtherRule) (o : Op) (ts : Trees) → PartOf ts (further_form r o ts)
form-part Twins o (Cons a (Cons b Nil)) = if-part (Pair a b) (tree_eq a b) (of_twins o a) (of_twins-part o a b)
form-part PastEnds o (Cons a (Cons b Nil)) = past_ends-part o a b
form-part Opposites o (Cons a (Cons b Nil)) = opposites-part o a b
form-part Undone o (Cons a (Cons b Nil)) = undone-part o a b
form-part Known o (Cons a (Cons b Nil)) = known-part o a b
form-part ChosenTruth o (Cons c (Cons a (Cons b Nil))) = chosen-part o c a b
form-part _ o _ = λ u h. cc

-- what holds of each rule's right form holds of the first one's that fits
pub each-further : (P : Tree → Type 0) (rs : List FurtherRule) (o : Op) (ts : Trees) → ((r : FurtherRule) (u : Tree) → further_form r o ts ≡ Some u → P u) → (u : Tree) → first_further rs o ts ≡ Some u → P u
each-further P [] o ts h u e = cc
each-further P (r ∷ rs) o ts h u e = either-of P (further_form r o ts) (first_further rs o ts) (h r) (each-further P rs o ts h) u e

pub further-part : (o : Op) (ts : Trees) (u : Tree) → further o ts ≡ Some u → IsPart u ts
further-part o ts = each-further (λ x. IsPart x ts) further_in_order o ts (λ r. form-part r o ts)

-- applications of other numbers of arguments
pub not-none : (trees : List Tree) (u : Tree) (p : Op) (kids : List ℕ) → (length kids ≡ 1 → ⊥) → false ≡ is_not u (Apply p (trees_at trees kids))
not-none trees u p [] h = refl
not-none trees u p (a ∷ []) h = absurd (h refl)
not-none trees u p (a ∷ b ∷ kids) h = refl

pub before-none : (trees : List Tree) (o : Op) (u : Tree) (p : Op) (kids : List ℕ) → (length kids ≡ 2 → ⊥) → None ≡ before o u (Apply p (trees_at trees kids))
before-none trees o u p [] h = refl
before-none trees o u p (a ∷ []) h = refl
before-none trees o u p (a ∷ b ∷ []) h = absurd (h refl)
before-none trees o u p (a ∷ b ∷ d ∷ kids) h = refl

pub behind-none : (trees : List Tree) (o : Op) (u : Tree) (p : Op) (kids : List ℕ) → (length kids ≡ 2 → ⊥) → None ≡ behind o u (Apply p (trees_at trees kids))
behind-none trees o u p [] h = refl
behind-none trees o u p (a ∷ []) h = refl
behind-none trees o u p (a ∷ b ∷ []) h = absurd (h refl)
behind-none trees o u p (a ∷ b ∷ d ∷ kids) h = refl
