-- The blocks of a form by the rule of its tree, and the sizes of the rule's parts.
use Rattle.std.proofs.Common.{◌≡◌, ℕ, ◌<◌, ◌==◌, Bool, true, false, not, if◌then◌else◌, Option, Some, None, List, [], ◌∷◌, length, refl, ap, ◌∙◌, arith}
use Rattle.std.specs.List.{AllByRecursion}
use Rattle.std.proofs.lemmas.List.Elements.{All-from_recursion}
use Rattle.qv_words.specs.declared.sort.Sort.{Sort}
use Rattle.qv_words.specs.declared.op.Op.{Op}
use Rattle.qv_words.specs.declared.op.Op.TheVariants.{Not, And, Or, Xor, Implies, Equal, Ite}
use Rattle.qv_words.specs.Tree.{Tree, Trees, Constant, Variable, Literal, Apply, ForAll, Exists, Nil, Cons, tree_sort}
use Rattle.qv_words.specs.Prenex.{Form, Choice, is_bool, is_quantified, tree_size, first_choice, ite, binary, block_at, with_universal, with_quantifier, unquantified, alike, unlike, chosen, split, split_at, form_of_application, form_of_quantified}
use Rattle.qv_prenex_laws.specs.FormLaws.{form_under}
use Rattle.qv_prenex_laws.specs.RuleLaws.{Rule, Part, Plain, under, alike_rule, unlike_rule, chosen_rule, split_rule, application_rule, quantified_rule, rule_at, parts_of, PartsShrink, universal_blocks, quantifier_blocks, blocks_by_rule, BlocksByRule}
use Rattle.qv_prenex_laws.proofs.Fuel.{form-rule, some-size, shrinks}

-- what is made by a rule that a test chooses
either : (m : Rule → List (List Sort)) (test : Bool) (f g : Form) (r s : Rule) → f.blocks ≡ m r → g.blocks ≡ m s →
    (if test then f else g).blocks ≡ m (if test then r else s)
either m true f g r s h k = h
either m false f g r s h k = k

split-blocks : (plus : Bool) (t : Tree) (o : Option Choice) →
    (split_at form_under plus t o).blocks ≡ blocks_by_rule plus (split_rule plus t o)
split-blocks plus t None = refl
split-blocks plus t (Some c) = refl

test-blocks : (test : Bool) (f g : Form) → (if test then f else g).blocks ≡ (if test then f.blocks else g.blocks)
test-blocks true f g = refl
test-blocks false f g = refl

universal-blocks : (l : ℕ) (s : Sort) (f : Form) → (with_universal l s f).blocks ≡ universal_blocks s f.blocks
universal-blocks l s f = test-blocks (length (block_at f.blocks 0) == 0) _ _

quantifier-blocks : (existential : Bool) (l : ℕ) (s : Sort) (f : Form) →
    (with_quantifier existential l s f).blocks ≡ quantifier_blocks existential s f.blocks
quantifier-blocks true l s f = refl
quantifier-blocks false l s f = universal-blocks l s f

application-blocks : (plus : Bool) (o : Op) (args : Trees) →
    (form_of_application form_under plus o args).blocks ≡ blocks_by_rule plus (application_rule plus o args)
application-blocks plus Not (Cons a Nil) = refl
application-blocks plus And (Cons a (Cons b Nil)) = refl
application-blocks plus Or (Cons a (Cons b Nil)) = refl
application-blocks plus Implies (Cons a (Cons b Nil)) = refl
application-blocks plus Xor (Cons a (Cons b Nil)) =
    either (blocks_by_rule plus) plus (unlike form_under a b) (alike form_under a b) (unlike_rule a b) (alike_rule a b) refl refl
application-blocks plus Equal (Cons a (Cons b Nil)) =
    either (blocks_by_rule plus) (is_bool (tree_sort a)) (if plus then alike form_under a b else unlike form_under a b)
    (split form_under plus (binary Equal a b)) (if plus then alike_rule a b else unlike_rule a b)
    (split_rule plus (binary Equal a b) (first_choice (binary Equal a b)))
    (either (blocks_by_rule plus) plus (alike form_under a b) (unlike form_under a b) (alike_rule a b) (unlike_rule a b) refl refl)
    (split-blocks plus (binary Equal a b) (first_choice (binary Equal a b)))
application-blocks plus Ite (Cons c (Cons a (Cons b Nil))) =
    either (blocks_by_rule plus) (is_bool (tree_sort a)) (chosen form_under plus c a b) (split form_under plus (ite c a b))
    (chosen_rule plus c a b) (split_rule plus (ite c a b) (first_choice (ite c a b)))
    refl (split-blocks plus (ite c a b) (first_choice (ite c a b)))
application-blocks plus o args = split-blocks plus (Apply o args) (first_choice (Apply o args))

quantified-blocks : (plus : Bool) (t : Tree) →
    (form_of_quantified form_under plus t).blocks ≡ blocks_by_rule plus (quantified_rule plus t)
quantified-blocks plus (ForAll l s body) = quantifier-blocks (not plus) l s (form_under plus body)
quantified-blocks plus (Exists l s body) = quantifier-blocks plus l s (form_under plus body)
quantified-blocks plus (Apply o args) = application-blocks plus o args
quantified-blocks plus (Constant i s) = refl
quantified-blocks plus (Variable l s) = refl
quantified-blocks plus (Literal s n) = refl

pub blocks-by-rule : BlocksByRule
blocks-by-rule plus t =
    ap (λ f. f.blocks) (form-rule plus t)
    ∙ either (blocks_by_rule plus) (is_quantified t) (form_of_quantified form_under plus t) (unquantified plus t) (quantified_rule plus t)
    Plain (quantified-blocks plus t) refl

-- the parts are smaller
abbrev Smaller : Tree → Bool → Rule → Type 0
Smaller t plus r = AllByRecursion (λ p. tree_size p.tree < tree_size t) (parts_of plus r)

either-smaller : (t : Tree) (plus test : Bool) (r s : Rule) → Smaller t plus r → Smaller t plus s →
    Smaller t plus (if test then r else s)
either-smaller t plus true r s h k = h
either-smaller t plus false r s h k = k

split-smaller : (plus : Bool) (t : Tree) (o : Option Choice) → first_choice t ≡ o → Smaller t plus (split_rule plus t o)
split-smaller plus t None e = tt
split-smaller plus t (Some c) e =
    let s = shrinks t c e in
    (s.condition, (s.putting c.yes (omega arith), (s.condition, (s.putting c.no (omega arith), tt))))

pair-smaller : (t a b : Tree) (plus p q : Bool) → tree_size a < tree_size t → tree_size b < tree_size t →
    AllByRecursion (λ (x : Part). tree_size x.tree < tree_size t) (under true a ∷ under p b ∷ under false a ∷ under q b ∷ [])
pair-smaller t a b plus p q h k = (h, (k, (h, (k, tt))))

application-smaller : (plus : Bool) (o : Op) (args : Trees) → Smaller (Apply o args) plus (application_rule plus o args)
application-smaller plus Not (Cons a Nil) = (omega arith, tt)
application-smaller plus And (Cons a (Cons b Nil)) =
    (omega (arith, some-size b), (omega (arith, some-size a), tt))
application-smaller plus Or (Cons a (Cons b Nil)) =
    (omega (arith, some-size b), (omega (arith, some-size a), tt))
application-smaller plus Implies (Cons a (Cons b Nil)) =
    (omega (arith, some-size b), (omega (arith, some-size a), tt))
application-smaller plus Xor (Cons a (Cons b Nil)) =
    let h : tree_size a < tree_size (binary Xor a b) = omega (arith, some-size b) in
    let k : tree_size b < tree_size (binary Xor a b) = omega (arith, some-size a) in
    either-smaller (binary Xor a b) plus plus (unlike_rule a b) (alike_rule a b)
    (pair-smaller (binary Xor a b) a b plus false true h k) (pair-smaller (binary Xor a b) a b plus true false h k)
application-smaller plus Equal (Cons a (Cons b Nil)) =
    let t : Tree = binary Equal a b in
    let h : tree_size a < tree_size (binary Equal a b) = omega (arith, some-size b) in
    let k : tree_size b < tree_size (binary Equal a b) = omega (arith, some-size a) in
    either-smaller t plus (is_bool (tree_sort a)) (if plus then alike_rule a b else unlike_rule a b)
    (split_rule plus t (first_choice t))
    (either-smaller t plus plus (alike_rule a b) (unlike_rule a b)
    (pair-smaller t a b plus true false h k) (pair-smaller t a b plus false true h k))
    (split-smaller plus t (first_choice t) refl)
application-smaller plus Ite (Cons c (Cons a (Cons b Nil))) =
    let t : Tree = ite c a b in
    let h : tree_size c < tree_size (ite c a b) = omega (arith, some-size a) in
    let j : tree_size a < tree_size (ite c a b) = omega (arith, some-size c) in
    let k : tree_size b < tree_size (ite c a b) = omega (arith, some-size c) in
    either-smaller t plus (is_bool (tree_sort a)) (chosen_rule plus c a b) (split_rule plus t (first_choice t))
    (h, (j, (h, (k, tt)))) (split-smaller plus t (first_choice t) refl)
application-smaller plus o args = split-smaller plus (Apply o args) (first_choice (Apply o args)) refl

quantified-smaller : (plus : Bool) (t : Tree) → Smaller t plus (quantified_rule plus t)
quantified-smaller plus (ForAll l s body) = (omega arith, tt)
quantified-smaller plus (Exists l s body) = (omega arith, tt)
quantified-smaller plus (Apply o args) = application-smaller plus o args
quantified-smaller plus (Constant i s) = tt
quantified-smaller plus (Variable l s) = tt
quantified-smaller plus (Literal s n) = tt

pub parts-shrink : PartsShrink
parts-shrink plus t =
    All-from_recursion _ (parts_of plus (rule_at plus t))
    (either-smaller t plus (is_quantified t) (quantified_rule plus t) Plain (quantified-smaller plus t) tt)
