-- What holds of each form, and that a matrix reads the variables of its form alone.
use Rattle.std.proofs.Common.{◌≡◌, ℕ, zero, suc, ◌+◌, Bool, true, false, not, if◌then◌else◌, Option, Some, None, List, [], ◌∷◌, length, slice_get, refl, sym, ap, ◌∙◌, subst, arith}
use Rattle.qv_words.specs.declared.sort.Sort.{Sort}
use Rattle.qv_words.specs.declared.op.Op.{Op}
use Rattle.qv_words.specs.declared.op.Op.TheVariants.{Not, And, Or, Xor, Implies, Equal, Ite}
use Rattle.qv_words.specs.Tree.{Tree, Trees, Constant, Variable, Literal, Apply, ForAll, Exists, Nil, Cons, tree_sort}
use Rattle.qv_words.specs.Sorted.{with_level}
use Rattle.qv_words.specs.Prenex.{Form, Choice, is_bool, is_quantified, first_choice, ite, put_for, negation, binary, joined, joined_blocks, with_first, block_at, moved_in, with_universal, with_quantifier, unquantified, alike, unlike, chosen, split, split_at, form_of_application, form_of_quantified, form_within}
use Rattle.qv_prenex_laws.proofs.Forms.{block-joined, behind}
use Rattle.qv_words.proofs.Elements.{in-front}
use Rattle.std.proofs.lemmas.Bool.{ne_eqb}

-- a property that the rules keep
pub record IsKept (R : Form → Type 0) : Type 0 where
  pub joins : (o : Op) (a b : Form) → R a → R b → R (joined o a b)
  pub quantifies : (existential : Bool) (l : ℕ) (s : Sort) (f : Form) → R f → R (with_quantifier existential l s f)
  pub stands : (plus : Bool) (t : Tree) → R (unquantified plus t)

crossed-has : (R : Form → Type 0) → IsKept R → (a b c d : Form) → R a → R b → R c → R d → R (joined Or (joined And a b) (joined And c d))
crossed-has R kept a b c d ha hb hc hd =
    kept.joins Or (joined And a b) (joined And c d) (kept.joins And a b ha hb) (kept.joins And c d hc hd)

either-has : (R : Form → Type 0) (test : Bool) (f g : Form) → R f → R g → R (if test then f else g)
either-has R true f g h k = h
either-has R false f g h k = k

alike-has : (R : Form → Type 0) → IsKept R → (F : Bool → Tree → Form) → ((plus : Bool) (u : Tree) → R (F plus u)) → (a b : Tree) →
    R (alike F a b)
alike-has R kept F h a b = crossed-has R kept (F true a) (F true b) (F false a) (F false b) (h true a) (h true b) (h false a) (h false b)

unlike-has : (R : Form → Type 0) → IsKept R → (F : Bool → Tree → Form) → ((plus : Bool) (u : Tree) → R (F plus u)) → (a b : Tree) →
    R (unlike F a b)
unlike-has R kept F h a b = crossed-has R kept (F true a) (F false b) (F false a) (F true b) (h true a) (h false b) (h false a) (h true b)

chosen-has : (R : Form → Type 0) → IsKept R → (F : Bool → Tree → Form) → ((plus : Bool) (u : Tree) → R (F plus u)) →
    (plus : Bool) (c a b : Tree) → R (chosen F plus c a b)
chosen-has R kept F h plus c a b =
    crossed-has R kept (F true c) (F plus a) (F false c) (F plus b) (h true c) (h plus a) (h false c) (h plus b)

split-has : (R : Form → Type 0) → IsKept R → (F : Bool → Tree → Form) → ((plus : Bool) (u : Tree) → R (F plus u)) →
    (plus : Bool) (t : Tree) (o : Option Choice) → R (split_at F plus t o)
split-has R kept F h plus t None = kept.stands plus t
split-has R kept F h plus t (Some c) =
    chosen-has R kept F h plus c.condition (put_for (ite c.condition c.yes c.no) c.yes t) (put_for (ite c.condition c.yes c.no) c.no t)

application-has : (R : Form → Type 0) → IsKept R → (F : Bool → Tree → Form) → ((plus : Bool) (u : Tree) → R (F plus u)) →
    (plus : Bool) (o : Op) (args : Trees) → R (form_of_application F plus o args)
application-has R kept F h plus Not (Cons a Nil) = h (not plus) a
application-has R kept F h plus And (Cons a (Cons b Nil)) =
    kept.joins (if plus then And else Or) (F plus a) (F plus b) (h plus a) (h plus b)
application-has R kept F h plus Or (Cons a (Cons b Nil)) = kept.joins (if plus then Or else And) (F plus a) (F plus b) (h plus a) (h plus b)
application-has R kept F h plus Implies (Cons a (Cons b Nil)) =
    kept.joins (if plus then Or else And) (F plus (negation a)) (F plus b) (h plus (negation a)) (h plus b)
application-has R kept F h plus Xor (Cons a (Cons b Nil)) =
    either-has R plus (unlike F a b) (alike F a b) (unlike-has R kept F h a b) (alike-has R kept F h a b)
application-has R kept F h plus Equal (Cons a (Cons b Nil)) =
    either-has R (is_bool (tree_sort a)) (if plus then alike F a b else unlike F a b) (split F plus (binary Equal a b))
    (either-has R plus (alike F a b) (unlike F a b) (alike-has R kept F h a b) (unlike-has R kept F h a b))
    (split-has R kept F h plus (binary Equal a b) (first_choice (binary Equal a b)))
application-has R kept F h plus Ite (Cons c (Cons a (Cons b Nil))) =
    either-has R (is_bool (tree_sort a)) (chosen F plus c a b) (split F plus (ite c a b)) (chosen-has R kept F h plus c a b)
    (split-has R kept F h plus (ite c a b) (first_choice (ite c a b)))
application-has R kept F h plus o args = split-has R kept F h plus (Apply o args) (first_choice (Apply o args))

quantified-has : (R : Form → Type 0) → IsKept R → (F : Bool → Tree → Form) → ((plus : Bool) (u : Tree) → R (F plus u)) →
    (plus : Bool) (t : Tree) → R (form_of_quantified F plus t)
quantified-has R kept F h plus (ForAll l s body) = kept.quantifies (not plus) l s (F plus body) (h plus body)
quantified-has R kept F h plus (Exists l s body) = kept.quantifies plus l s (F plus body) (h plus body)
quantified-has R kept F h plus (Apply o args) = application-has R kept F h plus o args
quantified-has R kept F h plus (Constant i s) = kept.stands plus (Constant i s)
quantified-has R kept F h plus (Variable l s) = kept.stands plus (Variable l s)
quantified-has R kept F h plus (Literal s n) = kept.stands plus (Literal s n)

-- holds of the form of each tree
pub each-form : (R : Form → Type 0) → IsKept R → (n : ℕ) (plus : Bool) (t : Tree) → R (form_within n plus t)
unfolding form_within
each-form R kept zero plus t = kept.stands plus t
each-form R kept (suc n) plus t =
    either-has R (is_quantified t) (form_of_quantified (λ sign u. form_within n sign u) plus t) (unquantified plus t)
    (quantified-has R kept (λ sign u. form_within n sign u) (λ sign u. each-form R kept n sign u) plus t) (kept.stands plus t)

-- two namings of a form's variables that agree on them
abbrev pub SameIn : List (List Sort) → (ℕ → ℕ → Tree) → (ℕ → ℕ → Tree) → Type 0
SameIn blocks var other = (i j : ℕ) (s : Sort) → slice_get (block_at blocks i) j ≡ Some s → var i j ≡ other i j

abbrev pub ReadsInRange : Form → Type 0
ReadsInRange f =
    (outer : ℕ → Option Tree) (var other : ℕ → ℕ → Tree) → SameIn f.blocks var other → f.matrix outer var ≡ f.matrix outer other

left-same : (as' bs : List (List Sort)) (var other : ℕ → ℕ → Tree) → SameIn (joined_blocks as' bs) var other → SameIn as' var other
left-same as' bs var other h i j s hs =
    h i j s (ap (λ b. slice_get b j) (block-joined as' bs i) ∙ in-front (block_at as' i) (block_at bs i) j s hs)

right-same : (as' bs : List (List Sort)) (var other : ℕ → ℕ → Tree) → SameIn (joined_blocks as' bs) var other →
    SameIn bs (λ i j. var i (length (block_at as' i) + j)) (λ i j. other i (length (block_at as' i) + j))
right-same as' bs var other h i j s hs =
    h i (length (block_at as' i) + j) s
    (ap (λ b. slice_get b (length (block_at as' i) + j)) (block-joined as' bs i) ∙ behind (block_at as' i) (block_at bs i) j ∙ hs)

own-same : (s : Sort) (bs : List (List Sort)) (var other : ℕ → ℕ → Tree) → SameIn (with_first s bs) var other → var 0 0 ≡ other 0 0
own-same s [] var other h = h 0 0 s refl
own-same s (b ∷ bs) var other h = h 0 0 s refl

first-same : (s : Sort) (bs : List (List Sort)) (var other : ℕ → ℕ → Tree) → SameIn (with_first s bs) var other →
    SameIn bs (moved_in 0 var) (moved_in 0 other)
first-same s [] var other h i j r hs = cc
first-same s (b ∷ bs) var other h zero j r hs = h 0 (suc j) r hs
first-same s (b ∷ bs) var other h (suc i) j r hs = rw (ne_eqb (suc i) 0 (λ k. omega (arith, k))) (h (suc i) j r hs)

second-own_same : (s : Sort) (bs : List (List Sort)) (var other : ℕ → ℕ → Tree) → SameIn ([] ∷ with_first s bs) var other →
    var 1 0 ≡ other 1 0
second-own_same s [] var other h = h 1 0 s refl
second-own_same s (b ∷ bs) var other h = h 1 0 s refl

second-same : (s : Sort) (bs : List (List Sort)) (var other : ℕ → ℕ → Tree) → SameIn ([] ∷ with_first s bs) var other →
    SameIn ([] ∷ bs) (moved_in 1 var) (moved_in 1 other)
second-same s bs var other h zero j r hs = cc
second-same s [] var other h (suc i) j r hs = cc
second-same s (b ∷ bs) var other h (suc zero) j r hs = h 1 (suc j) r hs
second-same s (b ∷ bs) var other h (suc (suc i)) j r hs = rw (ne_eqb (suc (suc i)) 1 (λ k. omega (arith, k))) (h (suc (suc i)) j r hs)

alone-same : (s : Sort) (bs : List (List Sort)) (var other : ℕ → ℕ → Tree) → SameIn ([] ∷ (s ∷ []) ∷ bs) var other →
    SameIn bs (λ i j. var (i + 2) j) (λ i j. other (i + 2) j)
alone-same s bs var other h i j r hs =
    let two : i + 2 ≡ suc (suc i) = omega arith in
    subst (λ (k : ℕ). var k j ≡ other k j) (sym two) (h (suc (suc i)) j r hs)

-- below a quantifier
below-same : (f : Form) → ReadsInRange f → (outer : ℕ → Option Tree) (l : ℕ) (x y : Tree) (var other : ℕ → ℕ → Tree) → x ≡ y →
    SameIn f.blocks var other → f.matrix (with_level outer l x) var ≡ f.matrix (with_level outer l y) other
below-same f h outer l x y var other e same = ap (λ z. f.matrix (with_level outer l z) var) e ∙ h (with_level outer l y) var other same

joined-in_range : (o : Op) (a b : Form) → ReadsInRange a → ReadsInRange b → ReadsInRange (joined o a b)
joined-in_range o a b ha hb outer var other h =
    let right = λ (v : ℕ → ℕ → Tree) (i j : ℕ). v i (length (block_at a.blocks i) + j) in
    ap (λ x. binary o x (b.matrix outer (right var))) (ha outer var other (left-same a.blocks b.blocks var other h))
    ∙ ap (binary o (a.matrix outer other)) (hb outer (right var) (right other) (right-same a.blocks b.blocks var other h))

universal-in_range : (l : ℕ) (s : Sort) (f : Form) → ReadsInRange f → ReadsInRange (with_universal l s f)
universal-in_range l s f h = by-blocks f.blocks f.matrix h
  where
    by-blocks : (blocks : List (List Sort)) (matrix : (ℕ → Option Tree) → (ℕ → ℕ → Tree) → Tree) →
        ReadsInRange (record { blocks = blocks; matrix = matrix }) →
        ReadsInRange (with_universal l s (record { blocks = blocks; matrix = matrix }))
    by-blocks [] matrix k = λ outer var other same.
        below-same (record { blocks = []; matrix = matrix }) k outer l (var 1 0) (other 1 0) (moved_in 1 var) (moved_in 1 other)
        (same 1 0 s refl) (λ i j r hs. cc)
    by-blocks ([] ∷ bs) matrix k = λ outer var other same.
        below-same (record { blocks = [] ∷ bs; matrix = matrix }) k outer l (var 1 0) (other 1 0) (moved_in 1 var) (moved_in 1 other)
        (second-own_same s bs var other same) (second-same s bs var other same)
    by-blocks ((b ∷ block) ∷ bs) matrix k = rw (ne_eqb (length (b ∷ block)) 0 (λ e. omega (arith, e))) (λ outer var other same.
        below-same (record { blocks = (b ∷ block) ∷ bs; matrix = matrix }) k outer l (var 1 0) (other 1 0) (λ i j. var (i + 2) j)
        (λ i j. other (i + 2) j) (same 1 0 s refl) (alone-same s ((b ∷ block) ∷ bs) var other same))

quantifier-in_range : (existential : Bool) (l : ℕ) (s : Sort) (f : Form) → ReadsInRange f → ReadsInRange (with_quantifier existential l s f)
quantifier-in_range true l s f h = λ outer var other same.
    below-same f h outer l (var 0 0) (other 0 0) (moved_in 0 var) (moved_in 0 other) (own-same s f.blocks var other same)
    (first-same s f.blocks var other same)
quantifier-in_range false l s f h = universal-in_range l s f h

-- each form's matrix reads the form's own variables alone
pub each-in_range : (n : ℕ) (plus : Bool) (t : Tree) → ReadsInRange (form_within n plus t)
each-in_range =
    each-form ReadsInRange (record {
      joins = joined-in_range;
      quantifies = quantifier-in_range;
      stands = λ plus t outer var other same. refl;
    })

pub joined-reads : (o : Op) (a b : Form) → ReadsInRange a → ReadsInRange b → ReadsInRange (joined o a b)
joined-reads = joined-in_range
