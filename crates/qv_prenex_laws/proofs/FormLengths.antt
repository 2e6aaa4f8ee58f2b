-- The forms of trees by a recursion without a bound, and the lengths of their blocks.
use Rattle.std.proofs.Common.{◌≡◌, ℕ, zero, suc, ◌+◌, Bool, true, false, not, ◌||◌, if◌then◌else◌, Option, Some, None, List, [], ◌∷◌, length, map, refl, sym, ap, ◌∙◌, arith}
use Rattle.std.specs.Prelude.{sum}
use Rattle.std.proofs.lemmas.List.{length-map, length-append, take-map}
use Rattle.std.proofs.lemmas.List.Sums.{sum_by-cons}
use Rattle.qv_words.specs.declared.sort.Sort.{Sort}
use Rattle.qv_words.specs.declared.op.Op.{Op}
use Rattle.qv_words.specs.declared.op.Op.TheVariants.{Not, And, Or, Xor, Implies, Equal, Ite}
use Rattle.qv_words.specs.Tree.{Tree, Trees, Constant, Variable, Literal, Apply, ForAll, Exists, Nil, Cons, tree_sort}
use Rattle.qv_words.specs.Prenex.{Form, Choice, is_bool, is_quantified, first_choice, put_for, ite, negation, binary, joined, joined_blocks, with_first, with_universal, with_quantifier, unquantified, alike, unlike, chosen, split, split_at, form_of_application, form_of_quantified, form_of}
use Rattle.qv_words.specs.Problem.{Quantifier, Existential, other, problem_of, conjunction, places_of}
use Rattle.qv_prenex_laws.specs.FormLaws.{form_under, FormBoundsAgree, FormRule, SplitsShrink, joined_forms, ConjunctionForm, lengths_of, lengths_under, joined_lengths, one_first, universal_lengths, quantifier_lengths, crossed_lengths, paired_lengths, chosen_lengths, split_lengths, application_lengths, quantified_lengths, LengthsRule, all_lengths, ConjunctionLengths, PlacesCount, PlacesByLengths, JoinedTotal, QuantifierTotal}
use Rattle.qv_prenex_laws.proofs.Fuel.{bounds-agree, form-rule, shrinks}
use Rattle.qv_prenex_laws.proofs.ClosedBlocks.{place_of}
use Rattle.qv_prenex_laws.proofs.LawfulProblems.{constant_place}
use Rattle.qv_prenex_laws.proofs.UnderConstants.{constants_in, blocks_in}
use Rattle.std.proofs.lemmas.Bool.{ne_eqb}

pub form-bounds-agree : FormBoundsAgree
form-bounds-agree = bounds-agree

pub form-by-rule : FormRule
form-by-rule = form-rule

pub splits-shrink : SplitsShrink
splits-shrink t c e =
    let s = shrinks t c e in
    (s.condition, s.putting c.yes (omega arith), s.putting c.no (omega arith))

-- the lengths of joined blocks, and of those with one more
pub joined-length : (as' bs : List (List Sort)) → lengths_of (joined_blocks as' bs) ≡ joined_lengths (lengths_of as') (lengths_of bs)
joined-length [] bs = refl
joined-length (a ∷ as') [] = refl
joined-length (a ∷ as') (b ∷ bs) = let here = length-append a b in let rest = joined-length as' bs in cc

first-length : (s : Sort) (bs : List (List Sort)) → lengths_of (with_first s bs) ≡ one_first (lengths_of bs)
first-length s [] = refl
first-length s (b ∷ bs) = ap (λ n. n ∷ lengths_of bs) (one-more b)
  where
    one-more : (b : List Sort) → length (s ∷ b) ≡ suc (length b)
    one-more b = refl

universal-length : (l : ℕ) (s : Sort) (f : Form) → lengths_of (with_universal l s f).blocks ≡ universal_lengths (lengths_of f.blocks)
universal-length l s f = by-blocks f.blocks f.matrix
  where
    by-blocks : (blocks : List (List Sort)) (matrix : (ℕ → Option Tree) → (ℕ → ℕ → Tree) → Tree) →
        lengths_of (with_universal l s (record { blocks = blocks; matrix = matrix })).blocks ≡ universal_lengths (lengths_of blocks)
    by-blocks [] matrix = refl
    by-blocks ([] ∷ bs) matrix = ap (λ ns. 0 ∷ ns) (first-length s bs)
    by-blocks ((b ∷ block) ∷ bs) matrix = rw (ne_eqb (length (b ∷ block)) 0 (λ e. omega (arith, e)))

quantifier-length : (existential : Bool) (l : ℕ) (s : Sort) (f : Form) →
    lengths_of (with_quantifier existential l s f).blocks ≡ quantifier_lengths existential (lengths_of f.blocks)
quantifier-length true l s f = first-length s f.blocks
quantifier-length false l s f = universal-length l s f

crossed-length : (a b c d : Form) →
    lengths_of (joined Or (joined And a b) (joined And c d)).blocks
    ≡ crossed_lengths (lengths_of a.blocks) (lengths_of b.blocks) (lengths_of c.blocks) (lengths_of d.blocks)
crossed-length a b c d =
    let left = joined-length a.blocks b.blocks in
    let right = joined-length c.blocks d.blocks in
    joined-length (joined And a b).blocks (joined And c d).blocks ∙ ap (λ x. joined_lengths x (lengths_of (joined And c d).blocks)) left
    ∙ ap (joined_lengths (joined_lengths (lengths_of a.blocks) (lengths_of b.blocks))) right

-- the sums of blocks may be taken in any order
joined-turned : (a b : List ℕ) → joined_lengths a b ≡ joined_lengths b a
joined-turned [] [] = refl
joined-turned [] (m ∷ ms) = refl
joined-turned (n ∷ ns) [] = refl
joined-turned (n ∷ ns) (m ∷ ms) =
    let here : n + m ≡ m + n = omega arith in
    let rest = joined-turned ns ms in
    cc

joined-regrouped : (a b c : List ℕ) → joined_lengths (joined_lengths a b) c ≡ joined_lengths a (joined_lengths b c)
joined-regrouped [] b c = refl
joined-regrouped (n ∷ ns) [] c = refl
joined-regrouped (n ∷ ns) (m ∷ ms) [] = refl
joined-regrouped (n ∷ ns) (m ∷ ms) (k ∷ ks) =
    let here : n + m + k ≡ n + (m + k) = omega arith in
    let rest = joined-regrouped ns ms ks in
    cc

pub crossed-turned : (a b c d : List ℕ) → crossed_lengths a b c d ≡ crossed_lengths a d c b
crossed-turned a b c d =
    joined-regrouped a b (joined_lengths c d)
    ∙ ap (joined_lengths a) (joined-turned b (joined_lengths c d) ∙ ap (λ x. joined_lengths x b) (joined-turned c d)
    ∙ joined-regrouped d c b)
    ∙ sym (joined-regrouped a d (joined_lengths c b))

-- the lengths of a form that is made of smaller ones
abbrev lengths_by : (Bool → Tree → Form) → Bool → Tree → List ℕ
lengths_by F plus t = lengths_of (F plus t).blocks

split-length : (F : Bool → Tree → Form) (plus : Bool) (t : Tree) (o : Option Choice) →
    lengths_of (split_at F plus t o).blocks ≡ split_lengths (lengths_by F) plus t o
split-length F plus t None = refl
split-length F plus t (Some c) =
    crossed-length (F true c.condition) (F plus (put_for (ite c.condition c.yes c.no) c.yes t)) (F false c.condition)
    (F plus (put_for (ite c.condition c.yes c.no) c.no t))

alike-length : (F : Bool → Tree → Form) (a b : Tree) → lengths_of (alike F a b).blocks ≡ paired_lengths (lengths_by F) a b
alike-length F a b = crossed-length (F true a) (F true b) (F false a) (F false b)

unlike-length : (F : Bool → Tree → Form) (a b : Tree) → lengths_of (unlike F a b).blocks ≡ paired_lengths (lengths_by F) a b
unlike-length F a b =
    crossed-length (F true a) (F false b) (F false a) (F true b)
    ∙ crossed-turned (lengths_by F true a) (lengths_by F false b) (lengths_by F false a) (lengths_by F true b)

either-length : (test : Bool) (f g : Form) (ns : List ℕ) → lengths_of f.blocks ≡ ns → lengths_of g.blocks ≡ ns →
    lengths_of (if test then f else g).blocks ≡ ns
either-length true f g ns h k = h
either-length false f g ns h k = k

by-sort : (test : Bool) (f g : Form) (ns ms : List ℕ) → lengths_of f.blocks ≡ ns → lengths_of g.blocks ≡ ms →
    lengths_of (if test then f else g).blocks ≡ (if test then ns else ms)
by-sort true f g ns ms h k = h
by-sort false f g ns ms h k = k

application-length : (F : Bool → Tree → Form) → ((plus : Bool) (a : Tree) → lengths_by F plus (negation a) ≡ lengths_by F (not plus) a) →
    (plus : Bool) (o : Op) (args : Trees) →
    lengths_of (form_of_application F plus o args).blocks ≡ application_lengths (lengths_by F) plus o args
application-length F negated plus Not (Cons a Nil) = refl
application-length F negated plus And (Cons a (Cons b Nil)) = joined-length (F plus a).blocks (F plus b).blocks
application-length F negated plus Or (Cons a (Cons b Nil)) = joined-length (F plus a).blocks (F plus b).blocks
application-length F negated plus Implies (Cons a (Cons b Nil)) =
    joined-length (F plus (negation a)).blocks (F plus b).blocks ∙ ap (λ ns. joined_lengths ns (lengths_by F plus b)) (negated plus a)
application-length F negated plus Xor (Cons a (Cons b Nil)) =
    either-length plus (unlike F a b) (alike F a b) (paired_lengths (lengths_by F) a b) (unlike-length F a b) (alike-length F a b)
application-length F negated plus Equal (Cons a (Cons b Nil)) =
    by-sort (is_bool (tree_sort a)) (if plus then alike F a b else unlike F a b) (split F plus (binary Equal a b))
    (paired_lengths (lengths_by F) a b) (split_lengths (lengths_by F) plus (binary Equal a b) (first_choice (binary Equal a b)))
    (either-length plus (alike F a b) (unlike F a b) (paired_lengths (lengths_by F) a b) (alike-length F a b) (unlike-length F a b))
    (split-length F plus (binary Equal a b) (first_choice (binary Equal a b)))
application-length F negated plus Ite (Cons c (Cons a (Cons b Nil))) =
    by-sort (is_bool (tree_sort a)) (chosen F plus c a b) (split F plus (ite c a b)) (chosen_lengths (lengths_by F) plus c a b)
    (split_lengths (lengths_by F) plus (ite c a b) (first_choice (ite c a b)))
    (crossed-length (F true c) (F plus a) (F false c) (F plus b))
    (split-length F plus (ite c a b) (first_choice (ite c a b)))
application-length F negated plus o args = split-length F plus (Apply o args) (first_choice (Apply o args))

quantified-length : (F : Bool → Tree → Form) → ((plus : Bool) (a : Tree) → lengths_by F plus (negation a) ≡ lengths_by F (not plus) a) →
    (plus : Bool) (t : Tree) →
    lengths_of (form_of_quantified F plus t).blocks ≡ quantified_lengths (lengths_by F) plus t
quantified-length F negated plus (ForAll l s body) = quantifier-length (not plus) l s (F plus body)
quantified-length F negated plus (Exists l s body) = quantifier-length plus l s (F plus body)
quantified-length F negated plus (Apply o args) = application-length F negated plus o args
quantified-length F negated plus (Constant i s) = refl
quantified-length F negated plus (Variable l s) = refl
quantified-length F negated plus (Literal s n) = refl

-- the blocks of a negation are those under the other sign
pub negation-length : (plus : Bool) (a : Tree) → lengths_under plus (negation a) ≡ lengths_under (not plus) a
negation-length plus a = go (is_quantified a) refl
  where
    either-false : (b : Bool) → (b || false) ≡ b
    either-false true = refl
    either-false false = refl

    go : (b : Bool) → is_quantified a ≡ b → lengths_under plus (negation a) ≡ lengths_under (not plus) a
    go true e =
        let same : is_quantified (negation a) ≡ true = either-false (is_quantified a) ∙ e in
        ap (λ f. lengths_of f.blocks) (form-rule plus (negation a)) ∙ rw same refl
    go false e =
        let same : is_quantified (negation a) ≡ false = either-false (is_quantified a) ∙ e in
        ap (λ f. lengths_of f.blocks) (form-rule plus (negation a))
        ∙ rw same (sym (ap (λ f. lengths_of f.blocks) (form-rule (not plus) a) ∙ rw e refl))

pub lengths-rule : LengthsRule
lengths-rule plus t =
    ap (λ f. lengths_of f.blocks) (form-rule plus t)
    ∙ by-sort (is_quantified t) (form_of_quantified form_under plus t) (unquantified plus t) (quantified_lengths lengths_under plus t) []
    (quantified-length form_under negation-length plus t) refl

-- conjunctions
neither-first : (a b : Bool) → (a || (b || false)) ≡ false → a ≡ false
neither-first true b e = cc
neither-first false b e = refl

neither-second : (a b : Bool) → (a || (b || false)) ≡ false → b ≡ false
neither-second a true e = absurd (or-true a e)
  where
    or-true : (a : Bool) → (a || true) ≡ false → ⊥
    or-true true k = cc
    or-true false k = cc
neither-second a false e = refl

plain-form : (t : Tree) → is_quantified t ≡ false → form_of t ≡ unquantified true t
plain-form t e = form-rule true t ∙ rw e refl

and-form : (a b : Tree) → form_of (binary And a b) ≡ joined And (form_of a) (form_of b)
and-form a b = go (is_quantified (binary And a b)) refl
  where
    go : (k : Bool) → is_quantified (binary And a b) ≡ k → form_of (binary And a b) ≡ joined And (form_of a) (form_of b)
    go true e = form-rule true (binary And a b) ∙ rw e refl
    go false e =
        plain-form (binary And a b) e
        ∙ sym (ap (λ f. joined And f (form_of b)) (plain-form a (neither-first (is_quantified a) (is_quantified b) e))
        ∙ ap (joined And (unquantified true a)) (plain-form b (neither-second (is_quantified a) (is_quantified b) e)))

pub conjunction-form : ConjunctionForm
conjunction-form t [] = refl
conjunction-form t (u ∷ us) = conjunction-form (binary And t u) us ∙ ap (λ f. joined_forms f us) (and-form t u)

joined-none : (ns : List ℕ) → joined_lengths ns [] ≡ ns
joined-none [] = refl
joined-none (n ∷ ns) = refl

joined-forms-length : (f : Form) (us : List Tree) →
    lengths_of (joined_forms f us).blocks ≡ joined_lengths (lengths_of f.blocks) (all_lengths us)
joined-forms-length f [] = sym (joined-none (lengths_of f.blocks))
joined-forms-length f (u ∷ us) =
    joined-forms-length (joined And f (form_of u)) us
    ∙ ap (λ ns. joined_lengths ns (all_lengths us)) (joined-length f.blocks (form_of u).blocks)
    ∙ joined-regrouped (lengths_of f.blocks) (lengths_under true u) (all_lengths us)

pub conjunction-lengths : ConjunctionLengths
conjunction-lengths [] = ap (λ f. lengths_of f.blocks) (form-rule true (conjunction []))
conjunction-lengths (t ∷ ts) = ap (λ f. lengths_of f.blocks) (conjunction-form t ts) ∙ joined-forms-length (form_of t) ts

-- places
places-length : (q : Quantifier) (bs : List (List Sort)) → length (places_of q bs) ≡ sum (lengths_of bs)
places-length q [] = refl
places-length q (b ∷ bs) =
    let both = length-append (map (place_of q) b) (places_of (other q) bs) in
    let first = length-map b (place_of q) in
    let rest = places-length (other q) bs in
    let total = sum_by-cons (λ n. n) (length b) (lengths_of bs) in
    omega (arith, both, first, rest, total)

pub places-count : PlacesCount
unfolding problem_of
places-count formulas =
    let ds = constants_in formulas in
    let bs = blocks_in formulas in
    let both = length-append (map constant_place ds) (places_of Existential bs) in
    let first = length-map ds constant_place in
    let rest = places-length Existential bs ∙ ap sum (conjunction-lengths formulas) in
    omega (arith, both, first, rest)

pub places-by-lengths : PlacesByLengths
places-by-lengths blocks i = sym (ap sum (take-map (λ b. length b) i blocks))

-- totals
sum-more : (n : ℕ) (ns : List ℕ) → sum (n ∷ ns) ≡ n + sum ns
sum-more n ns = sum_by-cons (λ m. m) n ns

pub joined-total : JoinedTotal
joined-total [] ms = omega arith
joined-total (n ∷ ns) [] = omega arith
joined-total (n ∷ ns) (m ∷ ms) =
    let whole = sum-more (n + m) (joined_lengths ns ms) in
    let left = sum-more n ns in
    let right = sum-more m ms in
    let rest = joined-total ns ms in
    omega (arith, whole, left, right, rest)

one_first-total : (ns : List ℕ) → sum (one_first ns) ≡ suc (sum ns)
one_first-total [] = refl
one_first-total (n ∷ ns) = let more = sum-more (suc n) ns in let own = sum-more n ns in omega (arith, more, own)

universal-total : (ns : List ℕ) → sum (universal_lengths ns) ≡ suc (sum ns)
universal-total [] = refl
universal-total (zero ∷ ns) =
    let front = sum-more 0 (one_first ns) in
    let own = sum-more 0 ns in
    let first = one_first-total ns in
    omega (arith, front, own, first)
universal-total (suc n ∷ ns) = rw (ne_eqb (suc n) 0 (λ e. omega (arith, e))) (alone n ns)
  where
    alone : (n : ℕ) (ns : List ℕ) → sum (0 ∷ 1 ∷ suc n ∷ ns) ≡ suc (sum (suc n ∷ ns))
    alone n ns =
        let front = sum-more 0 (1 ∷ suc n ∷ ns) in
        let one = sum-more 1 (suc n ∷ ns) in
        omega (arith, front, one)

pub quantifier-total : QuantifierTotal
quantifier-total true body = one_first-total body
quantifier-total false body = universal-total body
