-- The lengths of a form and its matrix by the rule of its tree.
use Rattle.std.proofs.Common.{◌≡◌, ℕ, Bool, true, false, if◌then◌else◌, Option, Some, None, [], refl, sym, ap, ◌∙◌}
use Rattle.qv_words.specs.declared.op.Op.{Op}
use Rattle.qv_words.specs.declared.op.Op.TheVariants.{Not, And, Or, Xor, Implies, Equal, Ite}
use Rattle.qv_words.specs.Tree.{Tree, Trees, Constant, Variable, Literal, Apply, ForAll, Exists, Nil, Cons, tree_sort}
use Rattle.qv_words.specs.Prenex.{Choice, is_bool, is_quantified, first_choice, ite, binary}
use Rattle.qv_prenex_laws.specs.FormLaws.{lengths_under, joined_lengths, paired_lengths, chosen_lengths, split_lengths, application_lengths, quantified_lengths}
use Rattle.qv_prenex_laws.specs.MatrixLaws.{Cursor, matrix_under, alike_built, unlike_built, chosen_built, split_built, application_built, quantified_built, plain_built}
use Rattle.qv_prenex_laws.specs.RuleLaws.{Rule, Plain, alike_rule, unlike_rule, chosen_rule, split_rule, application_rule, quantified_rule, lengths_by_rule, LengthsByRule, matrix_by_rule, MatrixByRule}
use Rattle.qv_prenex_laws.proofs.FormLengths.{lengths-rule, negation-length, crossed-turned}
use Rattle.qv_prenex_laws.proofs.MatrixRule.{matrix-rule}

-- what is made by a rule that a test chooses
either : {A : Type 0} (m : Rule → A) (test : Bool) (x y : A) (r s : Rule) → x ≡ m r → y ≡ m s →
    (if test then x else y) ≡ m (if test then r else s)
either m true x y r s h k = h
either m false x y r s h k = k

-- the same of both sides
neither : {A : Type 0} (m : Rule → A) (test : Bool) (x : A) (r s : Rule) → x ≡ m r → x ≡ m s → x ≡ m (if test then r else s)
neither m true x r s h k = h
neither m false x r s h k = k

split-lengths : (plus : Bool) (t : Tree) (o : Option Choice) →
    split_lengths lengths_under plus t o ≡ lengths_by_rule plus (split_rule plus t o)
split-lengths plus t None = refl
split-lengths plus t (Some c) = refl

unlike-lengths : (plus : Bool) (a b : Tree) → paired_lengths lengths_under a b ≡ lengths_by_rule plus (unlike_rule a b)
unlike-lengths plus a b =
    sym (crossed-turned (lengths_under true a) (lengths_under false b) (lengths_under false a) (lengths_under true b))

application-lengths : (plus : Bool) (o : Op) (args : Trees) →
    application_lengths lengths_under plus o args ≡ lengths_by_rule plus (application_rule plus o args)
application-lengths plus Not (Cons a Nil) = refl
application-lengths plus And (Cons a (Cons b Nil)) = refl
application-lengths plus Or (Cons a (Cons b Nil)) = refl
application-lengths plus Implies (Cons a (Cons b Nil)) =
    ap (λ ns. joined_lengths ns (lengths_under plus b)) (sym (negation-length plus a))
application-lengths plus Xor (Cons a (Cons b Nil)) =
    neither (lengths_by_rule plus) plus (paired_lengths lengths_under a b) (unlike_rule a b) (alike_rule a b) (unlike-lengths plus a b) refl
application-lengths plus Equal (Cons a (Cons b Nil)) =
    either (lengths_by_rule plus) (is_bool (tree_sort a)) (paired_lengths lengths_under a b)
    (split_lengths lengths_under plus (binary Equal a b) (first_choice (binary Equal a b)))
    (if plus then alike_rule a b else unlike_rule a b)
    (split_rule plus (binary Equal a b) (first_choice (binary Equal a b)))
    (neither (lengths_by_rule plus) plus (paired_lengths lengths_under a b) (alike_rule a b) (unlike_rule a b) refl (unlike-lengths plus a b))
    (split-lengths plus (binary Equal a b) (first_choice (binary Equal a b)))
application-lengths plus Ite (Cons c (Cons a (Cons b Nil))) =
    either (lengths_by_rule plus) (is_bool (tree_sort a)) (chosen_lengths lengths_under plus c a b)
    (split_lengths lengths_under plus (ite c a b) (first_choice (ite c a b)))
    (chosen_rule plus c a b)
    (split_rule plus (ite c a b) (first_choice (ite c a b)))
    refl (split-lengths plus (ite c a b) (first_choice (ite c a b)))
application-lengths plus o args = split-lengths plus (Apply o args) (first_choice (Apply o args))

quantified-lengths : (plus : Bool) (t : Tree) → quantified_lengths lengths_under plus t ≡ lengths_by_rule plus (quantified_rule plus t)
quantified-lengths plus (ForAll l s body) = refl
quantified-lengths plus (Exists l s body) = refl
quantified-lengths plus (Apply o args) = application-lengths plus o args
quantified-lengths plus (Constant i s) = refl
quantified-lengths plus (Variable l s) = refl
quantified-lengths plus (Literal s n) = refl

pub lengths-by-rule : LengthsByRule
lengths-by-rule plus t =
    lengths-rule plus t
    ∙ either (lengths_by_rule plus) (is_quantified t) (quantified_lengths lengths_under plus t) [] (quantified_rule plus t) Plain
    (quantified-lengths plus t) refl

-- the matrix
split-matrix : (place : ℕ → ℕ) (plus : Bool) (t : Tree) (o : Option Choice) (at : Cursor) →
    split_built place (matrix_under place) plus t o at ≡ matrix_by_rule place plus t (split_rule plus t o) at
split-matrix place plus t None at = refl
split-matrix place plus t (Some c) at = refl

application-matrix : (place : ℕ → ℕ) (plus : Bool) (o : Op) (args : Trees) (at : Cursor) →
    application_built place (matrix_under place) plus o args at
    ≡ matrix_by_rule place plus (Apply o args) (application_rule plus o args) at
application-matrix place plus Not (Cons a Nil) at = refl
application-matrix place plus And (Cons a (Cons b Nil)) at = refl
application-matrix place plus Or (Cons a (Cons b Nil)) at = refl
application-matrix place plus Implies (Cons a (Cons b Nil)) at = refl
application-matrix place plus Xor (Cons a (Cons b Nil)) at =
    either (λ r. matrix_by_rule place plus (binary Xor a b) r at) plus (unlike_built (matrix_under place) a b at)
    (alike_built (matrix_under place) a b at) (unlike_rule a b) (alike_rule a b) refl refl
application-matrix place plus Equal (Cons a (Cons b Nil)) at =
    let m : Rule → Tree = λ r. matrix_by_rule place plus (binary Equal a b) r at in
    either m (is_bool (tree_sort a))
    (if plus then alike_built (matrix_under place) a b at else unlike_built (matrix_under place) a b at)
    (split_built place (matrix_under place) plus (binary Equal a b) (first_choice (binary Equal a b)) at)
    (if plus then alike_rule a b else unlike_rule a b)
    (split_rule plus (binary Equal a b) (first_choice (binary Equal a b)))
    (either m plus (alike_built (matrix_under place) a b at) (unlike_built (matrix_under place) a b at) (alike_rule a b) (unlike_rule a b)
    refl refl)
    (split-matrix place plus (binary Equal a b) (first_choice (binary Equal a b)) at)
application-matrix place plus Ite (Cons c (Cons a (Cons b Nil))) at =
    either (λ r. matrix_by_rule place plus (ite c a b) r at) (is_bool (tree_sort a)) (chosen_built (matrix_under place) plus c a b at)
    (split_built place (matrix_under place) plus (ite c a b) (first_choice (ite c a b)) at)
    (chosen_rule plus c a b) (split_rule plus (ite c a b) (first_choice (ite c a b)))
    refl (split-matrix place plus (ite c a b) (first_choice (ite c a b)) at)
application-matrix place plus o args at = split-matrix place plus (Apply o args) (first_choice (Apply o args)) at

quantified-matrix : (place : ℕ → ℕ) (plus : Bool) (t : Tree) (at : Cursor) →
    quantified_built place (matrix_under place) plus t at ≡ matrix_by_rule place plus t (quantified_rule plus t) at
quantified-matrix place plus (ForAll l s body) at = refl
quantified-matrix place plus (Exists l s body) at = refl
quantified-matrix place plus (Apply o args) at = application-matrix place plus o args at
quantified-matrix place plus (Constant i s) at = refl
quantified-matrix place plus (Variable l s) at = refl
quantified-matrix place plus (Literal s n) at = refl

pub matrix-by-rule : MatrixByRule
matrix-by-rule place plus t at =
    matrix-rule place plus t at
    ∙ either (λ r. matrix_by_rule place plus t r at) (is_quantified t) (quantified_built place (matrix_under place) plus t at)
    (plain_built place plus t at) (quantified_rule plus t) Plain (quantified-matrix place plus t at) refl
