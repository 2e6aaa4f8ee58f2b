-- The parts that a sorted tree's rule names are sorted, and formulas where the tree is one.
use Rattle.std.proofs.Common.{◌≡◌, ℕ, Bool as Truth, true, false, not, if◌then◌else◌, Option, Some, None, List, [], ◌∷◌, refl, sym, ap, ◌∙◌, subst}
use Rattle.std.specs.Prelude.{is_some}
use Rattle.qv_words.specs.declared.sort.Sort.{Sort}
use Rattle.qv_words.specs.declared.sort.Sort.TheVariants.{Bool, Bits}
use Rattle.qv_words.specs.declared.op.Op.{Op}
use Rattle.qv_words.specs.declared.op.Op.TheVariants.{Not, And, Or, Xor, Implies, Equal, Ite}
use Rattle.qv_words.specs.Rank.{result_sort, two_alike}
use Rattle.qv_words.specs.Sort.{IsLawful}
use Rattle.qv_words.specs.Tree.{Tree, Trees, Constant, Variable, Literal, Apply, ForAll, Exists, Nil, Cons, tree_sort}
use Rattle.qv_words.specs.Sorted.{IsSortedBelow, with_level}
use Rattle.qv_words.specs.Prenex.{Choice, is_bool, is_quantified, is_some_quantified, first_choice, ite, negation, binary}
use Rattle.qv_words.proofs.Ranks.{found, rank_parts}
use Rattle.qv_words.proofs.InSort.{one_bool-parts, two_bools-parts, two_alike-parts}
use Rattle.qv_prenex_laws.specs.RuleLaws.{Rule, Plain, Turned, Joined, Crossed, Bound, alike_rule, unlike_rule, chosen_rule, split_rule, application_rule, quantified_rule, rule_at}
use Rattle.qv_prenex_laws.proofs.Fuel.{target_of}
use Rattle.qv_prenex_laws.proofs.Splits.{put-sort, AllBits, is_core}
use Rattle.qv_prenex_laws.proofs.Found.{mapped, one-sort, two-sorts, by-core, all-there}
use Rattle.qv_prenex_splits.proofs.PutFor.{put-sorted, choice-sorted, choice-sorts}

-- each part is sorted below these quantifiers
abbrev pub AreSortedParts : (ℕ → Option Sort) → Rule → Type 0
AreSortedParts levels Plain = Unit {0}
AreSortedParts levels (Turned a) = IsSortedBelow levels a
AreSortedParts levels (Joined o a b) = IsSortedBelow levels a × IsSortedBelow levels b
AreSortedParts levels (Crossed a b c d) = IsSortedBelow levels a.tree × IsSortedBelow levels b.tree × IsSortedBelow levels c.tree × IsSortedBelow levels d.tree
AreSortedParts levels (Bound existential l s body) = IsLawful s × IsSortedBelow (with_level levels l s) body

-- each part is a formula
abbrev pub AreFormulas : Rule → Type 0
AreFormulas Plain = Unit {0}
AreFormulas (Turned a) = tree_sort a ≡ Some Bool
AreFormulas (Joined o a b) = (tree_sort a ≡ Some Bool) × (tree_sort b ≡ Some Bool) × (result_sort o (Bool ∷ Bool ∷ []) ≡ Some Bool)
AreFormulas (Crossed a b c d) = (tree_sort a.tree ≡ Some Bool) × (tree_sort b.tree ≡ Some Bool) × (tree_sort c.tree ≡ Some Bool) × (tree_sort d.tree ≡ Some Bool)
AreFormulas (Bound existential l s body) = tree_sort body ≡ Some Bool

either : (P : Rule → Type 0) (test : Truth) (r s : Rule) → (test ≡ true → P r) → (test ≡ false → P s) → P (if test then r else s)
either P true r s h k = h refl
either P false r s h k = k refl

junction : (plus : Truth) (o p : Op) → result_sort o (Bool ∷ Bool ∷ []) ≡ Some Bool → result_sort p (Bool ∷ Bool ∷ []) ≡ Some Bool → result_sort (if plus then o else p) (Bool ∷ Bool ∷ []) ≡ Some Bool
junction true o p h k = h
junction false o p h k = k

-- the sorts of two arguments of `and`, `or`, `xor` and `=>`, and of the one of `not`
pub one-formula : (a : Tree) (r : Sort) → tree_sort (negation a) ≡ Some r → tree_sort a ≡ Some Bool
one-formula a r h =
    let p = rank_parts Not (Cons a Nil) r h in
    one-sort a Bool p.0 p.1 (one_bool-parts p.0 r p.2).0

abbrev TwoFormulas : Tree → Tree → Type 0
TwoFormulas a b = (tree_sort a ≡ Some Bool) × (tree_sort b ≡ Some Bool)

two-formulas : (o : Op) (a b : Tree) (r : Sort) → tree_sort (binary o a b) ≡ Some r →
    ((ss : List Sort) → result_sort o ss ≡ Some r → ss ≡ Bool ∷ Bool ∷ []) → TwoFormulas a b
two-formulas o a b r h two =
    let p = rank_parts o (Cons a (Cons b Nil)) r h in
    two-sorts a b Bool Bool p.0 p.1 (two p.0 p.2)

implied : (a b : Tree) (r : Sort) → tree_sort (binary Implies a b) ≡ Some r → TwoFormulas a b
implied a b r h = two-formulas Implies a b r h (λ ss e. (two_bools-parts ss r e).0)

pub negation-formula : (a : Tree) → tree_sort a ≡ Some Bool → tree_sort (negation a) ≡ Some Bool
negation-formula a e = rw e refl

pub negation-sorted : (levels : ℕ → Option Sort) (a : Tree) → IsSortedBelow levels a → tree_sort a ≡ Some Bool → IsSortedBelow levels (negation a)
negation-sorted levels a h e = ((h, tt), rw e refl)

-- a split
split-sorted : (levels : ℕ → Option Sort) (plus : Truth) (t : Tree) (o : Option Choice) → first_choice t ≡ o → IsSortedBelow levels t → AreSortedParts levels (split_rule plus t o)
split-sorted levels plus t None e h = tt
split-sorted levels plus t (Some c) e h =
    let whole = choice-sorted levels t c h e in
    let sorts = choice-sorts c.condition c.yes c.no whole.1 in
    (whole.0.0, put-sorted levels (target_of c) c.yes t sorts.yes whole.0.1.0 h, whole.0.0, put-sorted levels (target_of c) c.no t sorts.no whole.0.1.1.0 h)

split-formulas : (levels : ℕ → Option Sort) (plus : Truth) (t : Tree) (o : Option Choice) → first_choice t ≡ o → IsSortedBelow levels t → tree_sort t ≡ Some Bool → AreFormulas (split_rule plus t o)
split-formulas levels plus t None e h s = tt
split-formulas levels plus t (Some c) e h s =
    let whole = choice-sorted levels t c h e in
    let sorts = choice-sorts c.condition c.yes c.no whole.1 in
    (sorts.condition, put-sort (target_of c) c.yes t sorts.yes ∙ s, sorts.condition, put-sort (target_of c) c.no t sorts.no ∙ s)

compared-sorted : (levels : ℕ → Option Sort) (plus : Truth) (a b : Tree) → IsSortedBelow levels a → IsSortedBelow levels b → AreSortedParts levels (if plus then alike_rule a b else unlike_rule a b)
compared-sorted levels plus a b h k = either (AreSortedParts levels) plus (alike_rule a b) (unlike_rule a b) (λ e. (h, k, h, k)) (λ e. (h, k, h, k))

compared-formulas : (plus : Truth) (a b : Tree) → TwoFormulas a b → AreFormulas (if plus then alike_rule a b else unlike_rule a b)
compared-formulas plus a b h = either AreFormulas plus (alike_rule a b) (unlike_rule a b) (λ e. (h.0, h.1, h.0, h.1)) (λ e. (h.0, h.1, h.0, h.1))

turned-sorted : (levels : ℕ → Option Sort) (plus : Truth) (a b : Tree) → IsSortedBelow levels a → IsSortedBelow levels b → AreSortedParts levels (if plus then unlike_rule a b else alike_rule a b)
turned-sorted levels plus a b h k = either (AreSortedParts levels) plus (unlike_rule a b) (alike_rule a b) (λ e. (h, k, h, k)) (λ e. (h, k, h, k))

turned-formulas : (plus : Truth) (a b : Tree) → TwoFormulas a b → AreFormulas (if plus then unlike_rule a b else alike_rule a b)
turned-formulas plus a b h = either AreFormulas plus (unlike_rule a b) (alike_rule a b) (λ e. (h.0, h.1, h.0, h.1)) (λ e. (h.0, h.1, h.0, h.1))

application-sorted : (levels : ℕ → Option Sort) (plus : Truth) (o : Op) (args : Trees) → IsSortedBelow levels (Apply o args) → AreSortedParts levels (application_rule plus o args)
application-sorted levels plus Not (Cons a Nil) h = h.0.0
application-sorted levels plus And (Cons a (Cons b Nil)) h = (h.0.0, h.0.1.0)
application-sorted levels plus Or (Cons a (Cons b Nil)) h = (h.0.0, h.0.1.0)
application-sorted levels plus Implies (Cons a (Cons b Nil)) h =
    let rank = found (tree_sort (binary Implies a b)) h.1 in
    (negation-sorted levels a h.0.0 (implied a b rank.0 rank.1).0, h.0.1.0)
application-sorted levels plus Xor (Cons a (Cons b Nil)) h = turned-sorted levels plus a b h.0.0 h.0.1.0
application-sorted levels plus Equal (Cons a (Cons b Nil)) h =
    either (AreSortedParts levels) (is_bool (tree_sort a)) (if plus then alike_rule a b else unlike_rule a b) (split_rule plus (binary Equal a b) (first_choice (binary Equal a b)))
    (λ e. compared-sorted levels plus a b h.0.0 h.0.1.0) (λ e. split-sorted levels plus (binary Equal a b) (first_choice (binary Equal a b)) refl h)
application-sorted levels plus Ite (Cons c (Cons a (Cons b Nil))) h =
    either (AreSortedParts levels) (is_bool (tree_sort a)) (chosen_rule plus c a b) (split_rule plus (ite c a b) (first_choice (ite c a b)))
    (λ e. (h.0.0, h.0.1.0, h.0.0, h.0.1.1.0)) (λ e. split-sorted levels plus (ite c a b) (first_choice (ite c a b)) refl h)
application-sorted levels plus o args h = split-sorted levels plus (Apply o args) (first_choice (Apply o args)) refl h

bool-sort : (o : Option Sort) → is_bool o ≡ true → o ≡ Some Bool
bool-sort None h = absurd (cc)
bool-sort (Some Bool) h = refl
bool-sort (Some (Bits w)) h = absurd (cc)

equal-formulas : (a b : Tree) → tree_sort (binary Equal a b) ≡ Some Bool → is_bool (tree_sort a) ≡ true → TwoFormulas a b
equal-formulas a b h e =
    let p = rank_parts Equal (Cons a (Cons b Nil)) Bool h in
    let m = mapped (two_alike p.0) Bool p.2 in
    let sorts = two-sorts a b m.0 m.0 p.0 p.1 (two_alike-parts p.0 m.0 m.1) in
    let first = bool-sort (tree_sort a) e in
    (first, sorts.1 ∙ sym sorts.0 ∙ first)

application-formulas : (levels : ℕ → Option Sort) (plus : Truth) (o : Op) (args : Trees) → IsSortedBelow levels (Apply o args) → tree_sort (Apply o args) ≡ Some Bool → AreFormulas (application_rule plus o args)
application-formulas levels plus Not (Cons a Nil) h s = one-formula a Bool s
application-formulas levels plus And (Cons a (Cons b Nil)) h s =
    let two = two-formulas And a b Bool s (λ ss e. (two_bools-parts ss Bool e).0) in (two.0, two.1, junction plus And Or refl refl)
application-formulas levels plus Or (Cons a (Cons b Nil)) h s =
    let two = two-formulas Or a b Bool s (λ ss e. (two_bools-parts ss Bool e).0) in (two.0, two.1, junction plus Or And refl refl)
application-formulas levels plus Implies (Cons a (Cons b Nil)) h s =
    let two = implied a b Bool s in (negation-formula a two.0, two.1, junction plus Or And refl refl)
application-formulas levels plus Xor (Cons a (Cons b Nil)) h s = turned-formulas plus a b (two-formulas Xor a b Bool s (λ ss e. (two_bools-parts ss Bool e).0))
application-formulas levels plus Equal (Cons a (Cons b Nil)) h s =
    either AreFormulas (is_bool (tree_sort a)) (if plus then alike_rule a b else unlike_rule a b) (split_rule plus (binary Equal a b) (first_choice (binary Equal a b)))
    (λ e. compared-formulas plus a b (equal-formulas a b s e)) (λ e. split-formulas levels plus (binary Equal a b) (first_choice (binary Equal a b)) refl h s)
application-formulas levels plus Ite (Cons c (Cons a (Cons b Nil))) h s =
    let sorts = choice-sorts c a b h.1 in
    either AreFormulas (is_bool (tree_sort a)) (chosen_rule plus c a b) (split_rule plus (ite c a b) (first_choice (ite c a b)))
    (λ e. (sorts.condition, sorts.yes ∙ s, sorts.condition, sorts.no ∙ s)) (λ e. split-formulas levels plus (ite c a b) (first_choice (ite c a b)) refl h s)
application-formulas levels plus o args h s = split-formulas levels plus (Apply o args) (first_choice (Apply o args)) refl h s

quantified-sorted : (levels : ℕ → Option Sort) (plus : Truth) (t : Tree) → IsSortedBelow levels t → AreSortedParts levels (quantified_rule plus t)
quantified-sorted levels plus (ForAll l s body) h = (h.0, h.1)
quantified-sorted levels plus (Exists l s body) h = (h.0, h.1)
quantified-sorted levels plus (Apply o args) h = application-sorted levels plus o args h
quantified-sorted levels plus (Constant i s) h = tt
quantified-sorted levels plus (Variable l s) h = tt
quantified-sorted levels plus (Literal s n) h = tt

quantified-formulas : (levels : ℕ → Option Sort) (plus : Truth) (t : Tree) → IsSortedBelow levels t → tree_sort t ≡ Some Bool → AreFormulas (quantified_rule plus t)
quantified-formulas levels plus (ForAll l s body) h e = h.2
quantified-formulas levels plus (Exists l s body) h e = h.2
quantified-formulas levels plus (Apply o args) h e = application-formulas levels plus o args h e
quantified-formulas levels plus (Constant i s) h e = tt
quantified-formulas levels plus (Variable l s) h e = tt
quantified-formulas levels plus (Literal s n) h e = tt

-- the parts of a sorted tree are sorted
pub parts-sorted : (levels : ℕ → Option Sort) (plus : Truth) (t : Tree) → IsSortedBelow levels t → AreSortedParts levels (rule_at plus t)
parts-sorted levels plus t h = either (AreSortedParts levels) (is_quantified t) (quantified_rule plus t) Plain (λ e. quantified-sorted levels plus t h) (λ e. tt)

-- those of a formula are formulas
pub parts-formulas : (levels : ℕ → Option Sort) (plus : Truth) (t : Tree) → IsSortedBelow levels t → tree_sort t ≡ Some Bool → AreFormulas (rule_at plus t)
parts-formulas levels plus t h s = either AreFormulas (is_quantified t) (quantified_rule plus t) Plain (λ e. quantified-formulas levels plus t h s) (λ e. tt)

-- a formula whose rule is plain has no quantifier
IsOther : Rule → Type 0
IsOther r = r ≡ Plain → ⊥

split-other : (plus : Truth) (t : Tree) (d : Choice) → first_choice t ≡ Some d → IsOther (split_rule plus t (first_choice t))
unfolding IsOther
split-other plus t d e = rw e (λ k. absurd (cc))

other-either : (test : Truth) (r s : Rule) → (test ≡ true → IsOther r) → (test ≡ false → IsOther s) → IsOther (if test then r else s)
other-either = either IsOther

alike-other : (a b : Tree) → IsOther (alike_rule a b)
unfolding IsOther
alike-other a b k = absurd (cc)

unlike-other : (a b : Tree) → IsOther (unlike_rule a b)
unfolding IsOther
unlike-other a b k = absurd (cc)

chosen-other : (plus : Truth) (c a b : Tree) → IsOther (chosen_rule plus c a b)
unfolding IsOther
chosen-other plus c a b k = absurd (cc)

turned-other : (a : Tree) → IsOther (Turned a)
unfolding IsOther
turned-other a k = absurd (cc)

joined-other : (o : Op) (a b : Tree) → IsOther (Joined o a b)
unfolding IsOther
joined-other o a b k = absurd (cc)

bound-other : (existential : Truth) (l : ℕ) (s : Sort) (body : Tree) → IsOther (Bound existential l s body)
unfolding IsOther
bound-other existential l s body k = absurd (cc)

no-bool : (o : Option Sort) → is_bool o ≡ false → o ≡ Some Bool → ⊥
no-bool None h e = absurd (cc)
no-bool (Some Bool) h e = absurd (cc)
no-bool (Some (Bits w)) h e = absurd (cc)

bits-of : (o : Option Sort) (s : Sort) → is_bool o ≡ false → o ≡ Some s → (w : ℕ) × (s ≡ Bits w)
bits-of None s h e = absurd (cc)
bits-of (Some Bool) s h e = absurd (cc)
bits-of (Some (Bits w)) s h e = (w, cc)

equal-other : (plus : Truth) (a b : Tree) → tree_sort (binary Equal a b) ≡ Some Bool → is_some_quantified (Cons a (Cons b Nil)) ≡ true → is_bool (tree_sort a) ≡ false →
    IsOther (split_rule plus (binary Equal a b) (first_choice (binary Equal a b)))
equal-other plus a b s q e =
    let p = rank_parts Equal (Cons a (Cons b Nil)) Bool s in
    let m = mapped (two_alike p.0) Bool p.2 in
    let parts = two_alike-parts p.0 m.0 m.1 in
    let sorts = two-sorts a b m.0 m.0 p.0 p.1 parts in
    let w = bits-of (tree_sort a) m.0 e sorts.0 in
    let bits : AllBits p.0 = subst AllBits (sym (parts ∙ ap (λ (r : Sort). r ∷ r ∷ []) w.1)) tt in
    let d = all-there (Cons a (Cons b Nil)) p.0 p.1 bits q in
    split-other plus (binary Equal a b) d.0 d.1

application-other : (plus : Truth) (o : Op) (args : Trees) → tree_sort (Apply o args) ≡ Some Bool → is_some_quantified args ≡ true → IsOther (application_rule plus o args)
application-other plus Not (Cons a Nil) s q = turned-other a
application-other plus And (Cons a (Cons b Nil)) s q = joined-other (if plus then And else Or) a b
application-other plus Or (Cons a (Cons b Nil)) s q = joined-other (if plus then Or else And) a b
application-other plus Implies (Cons a (Cons b Nil)) s q = joined-other (if plus then Or else And) (negation a) b
application-other plus Xor (Cons a (Cons b Nil)) s q = other-either plus (unlike_rule a b) (alike_rule a b) (λ e. unlike-other a b) (λ e. alike-other a b)
application-other plus Equal (Cons a (Cons b Nil)) s q =
    other-either (is_bool (tree_sort a)) (if plus then alike_rule a b else unlike_rule a b) (split_rule plus (binary Equal a b) (first_choice (binary Equal a b)))
    (λ e. other-either plus (alike_rule a b) (unlike_rule a b) (λ k. alike-other a b) (λ k. unlike-other a b)) (λ e. equal-other plus a b s q e)
application-other plus Ite (Cons c (Cons a (Cons b Nil))) s q =
    let sorts = choice-sorts c a b (ap is_some s) in
    other-either (is_bool (tree_sort a)) (chosen_rule plus c a b) (split_rule plus (ite c a b) (first_choice (ite c a b)))
    (λ e. chosen-other plus c a b) (λ e. absurd (no-bool (tree_sort a) e (sorts.yes ∙ s)))
application-other plus o args s q =
    let d = by-core o args Bool (is_core o) refl refl s (λ ss e bits. all-there args ss e bits q) in
    split-other plus (Apply o args) d.0 d.1

quantified-other : (plus : Truth) (t : Tree) → tree_sort t ≡ Some Bool → is_quantified t ≡ true → IsOther (quantified_rule plus t)
quantified-other plus (ForAll l s body) h q = bound-other (not plus) l s body
quantified-other plus (Exists l s body) h q = bound-other plus l s body
quantified-other plus (Apply o args) h q = application-other plus o args h q
quantified-other plus (Constant i s) h q = absurd (cc)
quantified-other plus (Variable l s) h q = absurd (cc)
quantified-other plus (Literal s n) h q = absurd (cc)

pub plain-free : (plus : Truth) (t : Tree) → tree_sort t ≡ Some Bool → rule_at plus t ≡ Plain → is_quantified t ≡ false
unfolding IsOther
plain-free plus t h = go (is_quantified t) refl
  where
    go : (b : Truth) → is_quantified t ≡ b → (if b then quantified_rule plus t else Plain) ≡ Plain → b ≡ false
    go true e k = absurd (quantified-other plus t h e k)
    go false e k = refl
