-- The matrix of each form is built from those of smaller ones, with its variables at their places.
use Rattle.std.proofs.Common.{◌≡◌, ℕ, zero, suc, ◌+◌, ◌<◌, Bool, true, false, not, if◌then◌else◌, Option, Some, None, List, [], ◌∷◌, length, take, slice_get, refl, sym, ap, ◌∙◌, subst, arith}
use Rattle.std.specs.Prelude.{sum, unwrap_or}
use Rattle.std.proofs.lemmas.Bool.{ne_eqb, eq-eqb}
use Rattle.std.proofs.lemmas.List.{length-append}
use Rattle.qv_words.specs.declared.sort.Sort.{Sort}
use Rattle.qv_words.specs.declared.sort.Sort.TheVariants.{Bool as BoolSort}
use Rattle.qv_words.specs.declared.op.Op.{Op}
use Rattle.qv_words.specs.declared.op.Op.TheVariants.{Not, And, Or, Xor, Implies, Equal, Ite}
use Rattle.qv_words.specs.Tree.{Tree, Trees, Constant, Variable, Literal, Apply, ForAll, Exists, Nil, Cons, tree_sort}
use Rattle.qv_words.specs.Sorted.{with_level, no_levels}
use Rattle.qv_words.specs.Prenex.{Form, Choice, is_bool, is_quantified, tree_size, first_choice, ite, put_for, negation, binary, joined, joined_blocks, with_first, block_at, moved_in, with_quantifier, unquantified, alike, unlike, chosen, split, split_at, form_of_application, form_of_quantified, form_of}
use Rattle.qv_words.specs.Problem.{problem_of, conjunction, index_in, with_places, placed_variable, places_before}
use Rattle.qv_prenex_laws.specs.FormLaws.{form_under, lengths_of, all_lengths, joined_forms}
use Rattle.qv_prenex_laws.specs.MatrixLaws.{Cursor, numbered, form_matrix, matrix_under, raised, advanced, past_form, past_variable, quantifier_cursor, crossed_built, alike_built, unlike_built, chosen_built, plain_built, split_built, application_built, quantified_built, MatrixRule, start, ProblemMatrix, all_built, ConjunctionMatrix}
use Rattle.qv_prenex_laws.proofs.Forms.{block-joined, behind}
use Rattle.qv_prenex_laws.proofs.Fuel.{form-rule}
use Rattle.qv_prenex_laws.proofs.FormLengths.{conjunction-lengths, places-by-lengths, joined-length, conjunction-form}
use Rattle.qv_prenex_laws.proofs.Advancing.{joined-advances}
use Rattle.qv_prenex_laws.proofs.InRange.{SameIn, ReadsInRange, each-in_range, joined-reads}
use Rattle.qv_prenex_laws.proofs.UnderConstants.{constants_in, blocks_in}
use Rattle.qv_words.proofs.Elements.{in-front}

-- what advancing does
raised-here : (next : ℕ → ℕ) (k n m : ℕ) → m ≡ k → raised next k n m ≡ next m + n
raised-here next k n m e = rw (eq-eqb m k e) refl

raised-other : (next : ℕ → ℕ) (k n m : ℕ) → (m ≡ k → ⊥) → raised next k n m ≡ next m
raised-other next k n m h = rw (ne_eqb m k h) refl

advanced-before : (next : ℕ → ℕ) (k : ℕ) (ns : List ℕ) (m : ℕ) → m < k → advanced next k ns m ≡ next m
advanced-before next k [] m lt = refl
advanced-before next k (n ∷ ns) m lt =
    advanced-before (raised next k n) (suc k) ns m (omega (arith, lt)) ∙ raised-other next k n m (λ e. omega (arith, e, lt))

advanced-at : (next : ℕ → ℕ) (k : ℕ) (bs : List (List Sort)) (i : ℕ) →
    advanced next k (lengths_of bs) (i + k) ≡ next (i + k) + length (block_at bs i)
advanced-at next k [] i = omega arith
advanced-at next k (b ∷ bs) zero =
    let here : 0 + k ≡ k = omega arith in
    advanced-before (raised next k (length b)) (suc k) (lengths_of bs) (0 + k) (omega arith) ∙ raised-here next k (length b) (0 + k) here
advanced-at next k (b ∷ bs) (suc i) =
    let there : suc i + k ≡ i + suc k = omega arith in
    subst (λ (m : ℕ). advanced (raised next k (length b)) (suc k) (lengths_of bs) m ≡ next m + length (block_at bs i)) (sym there)
    (advanced-at (raised next k (length b)) (suc k) bs i
    ∙ ap (λ n. n + length (block_at bs i)) (raised-other next k (length b) (i + suc k) (λ e. omega (arith, e))))

-- variables of one level and one sort
same-variable : (l m : ℕ) (p q : Option Sort) (s : Sort) → l ≡ m → p ≡ Some s → q ≡ Some s →
    Variable l (unwrap_or p BoolSort) ≡ Variable m (unwrap_or q BoolSort)
same-variable l m p q s e f g = ap (λ k. Variable k (unwrap_or p BoolSort)) e ∙ ap (λ o. Variable m (unwrap_or o BoolSort)) (f ∙ sym g)

-- one cursor serves as another whose levels are the same from its block on
abbrev SameNext : Cursor → Cursor → Type 0
SameNext at to = (i : ℕ) → at.next (i + at.block) ≡ to.next (i + to.block)

same-matrix : (place : ℕ → ℕ) (f : Form) → ReadsInRange f → (outer : ℕ → Option Tree) (at to : Cursor) → SameNext at to →
    with_places place (f.matrix outer (numbered at f.blocks)) ≡ with_places place (f.matrix outer (numbered to f.blocks))
same-matrix place f h outer at to same =
    ap (with_places place) (h outer (numbered at f.blocks) (numbered to f.blocks)
    (λ i j s hs. ap (λ n. Variable (n + j) (unwrap_or (slice_get (block_at f.blocks i) j) BoolSort)) (same i)))

-- two forms
joined-matrix : (place : ℕ → ℕ) (o : Op) (a b : Form) → ReadsInRange a → ReadsInRange b → (at : Cursor) →
    form_matrix place (joined o a b) at ≡ binary o (form_matrix place a at) (form_matrix place b (past_form at (lengths_of a.blocks)))
joined-matrix place o a b ha hb at =
    let whole = numbered at (joined_blocks a.blocks b.blocks) in
    let right = λ (i j : ℕ). whole i (length (block_at a.blocks i) + j) in
    let to = past_form at (lengths_of a.blocks) in
    let left_same : SameIn a.blocks whole (numbered at a.blocks) = λ i j s hs.
    same-variable (at.next (i + at.block) + j) (at.next (i + at.block) + j)
    (slice_get (block_at (joined_blocks a.blocks b.blocks) i) j) (slice_get (block_at a.blocks i) j) s refl
    (ap (λ x. slice_get x j) (block-joined a.blocks b.blocks i) ∙ in-front (block_at a.blocks i) (block_at b.blocks i) j s hs) hs in
    let right_same : SameIn b.blocks right (numbered to b.blocks) = λ i j s hs.
    let level = advanced-at at.next at.block a.blocks i in
    same-variable (at.next (i + at.block) + (length (block_at a.blocks i) + j)) (to.next (i + at.block) + j)
    (slice_get (block_at (joined_blocks a.blocks b.blocks) i) (length (block_at a.blocks i) + j))
    (slice_get (block_at b.blocks i) j) s (omega (arith, level))
    (ap (λ x. slice_get x (length (block_at a.blocks i) + j)) (block-joined a.blocks b.blocks i)
    ∙ behind (block_at a.blocks i) (block_at b.blocks i) j ∙ hs) hs in
    ap (λ x. binary o (with_places place x) (with_places place (b.matrix at.outer right)))
    (ha at.outer whole (numbered at a.blocks) left_same)
    ∙ ap (λ x. binary o (form_matrix place a at) (with_places place x)) (hb at.outer right (numbered to b.blocks) right_same)

-- a quantifier
below-matrix : (place : ℕ → ℕ) (f : Form) → ReadsInRange f → (outer : ℕ → Option Tree) (l : ℕ) (x y : Tree) (var other : ℕ → ℕ → Tree) →
    x ≡ y → SameIn f.blocks var other →
    with_places place (f.matrix (with_level outer l x) var) ≡ with_places place (f.matrix (with_level outer l y) other)
below-matrix place f h outer l x y var other e same =
    ap (λ z. with_places place (f.matrix (with_level outer l z) var)) e ∙ ap (with_places place) (h (with_level outer l y) var other same)

first-level : (next : ℕ → ℕ) (m k : ℕ) → m ≡ k → next m + 0 ≡ next k
first-level next m k e = let same = ap next e in omega (arith, same)

first-variable : (at : Cursor) (s : Sort) (bs : List (List Sort)) → numbered at (with_first s bs) 0 0 ≡ Variable (at.next at.block) s
first-variable at s [] = ap (λ n. Variable n s) (first-level at.next (0 + at.block) at.block (omega arith))
first-variable at s (b ∷ bs) = ap (λ n. Variable n s) (first-level at.next (0 + at.block) at.block (omega arith))

first-rest : (at : Cursor) (l : ℕ) (s : Sort) (bs : List (List Sort)) →
    SameIn bs (moved_in 0 (numbered at (with_first s bs))) (numbered (past_variable at l s at.block at.block) bs)
first-rest at l s [] i j r hs = cc
first-rest at l s (b ∷ bs) zero j r hs =
    let here : 0 + at.block ≡ at.block = omega arith in
    let level = raised-here at.next at.block 1 (0 + at.block) here in
    ap (λ n. Variable n (unwrap_or (slice_get b j) BoolSort)) (omega (arith, level))
first-rest at l s (b ∷ bs) (suc i) j r hs =
    let level = raised-other at.next at.block 1 (suc i + at.block) (λ e. omega (arith, e)) in
    rw (ne_eqb (suc i) 0 (λ e. omega (arith, e)))
    (ap (λ n. Variable n (unwrap_or (slice_get (block_at bs i) j) BoolSort)) (omega (arith, level)))

second-variable : (at : Cursor) (s : Sort) (bs : List (List Sort)) →
    numbered at ([] ∷ with_first s bs) 1 0 ≡ Variable (at.next (suc at.block)) s
second-variable at s [] = ap (λ n. Variable n s) (first-level at.next (1 + at.block) (suc at.block) (omega arith))
second-variable at s (b ∷ bs) = ap (λ n. Variable n s) (first-level at.next (1 + at.block) (suc at.block) (omega arith))

second-rest : (at : Cursor) (l : ℕ) (s : Sort) (bs : List (List Sort)) →
    SameIn ([] ∷ bs) (moved_in 1 (numbered at ([] ∷ with_first s bs))) (numbered (past_variable at l s (suc at.block) at.block) ([] ∷ bs))
second-rest at l s bs zero j r hs = cc
second-rest at l s [] (suc i) j r hs = cc
second-rest at l s (b ∷ bs) (suc zero) j r hs =
    let here : 1 + at.block ≡ suc at.block = omega arith in
    let level = raised-here at.next (suc at.block) 1 (1 + at.block) here in
    ap (λ n. Variable n (unwrap_or (slice_get b j) BoolSort)) (omega (arith, level))
second-rest at l s (b ∷ bs) (suc (suc i)) j r hs =
    let level = raised-other at.next (suc at.block) 1 (suc (suc i) + at.block) (λ e. omega (arith, e)) in
    rw (ne_eqb (suc (suc i)) 1 (λ e. omega (arith, e)))
    (ap (λ n. Variable n (unwrap_or (slice_get (block_at bs i) j) BoolSort)) (omega (arith, level)))

alone-rest : (at : Cursor) (l : ℕ) (s : Sort) (bs : List (List Sort)) →
    SameIn bs (λ i j. numbered at ([] ∷ (s ∷ []) ∷ bs) (i + 2) j) (numbered (past_variable at l s (suc at.block) (at.block + 2)) bs)
alone-rest at l s bs i j r hs =
    let two : i + 2 ≡ suc (suc i) = omega arith in
    let there : i + 2 + at.block ≡ i + (at.block + 2) = omega arith in
    let level : at.next (i + 2 + at.block) + j ≡ raised at.next (suc at.block) 1 (i + (at.block + 2)) + j =
    ap (λ n. at.next n + j) there
    ∙ ap (λ n. n + j) (sym (raised-other at.next (suc at.block) 1 (i + (at.block + 2)) (λ e. omega (arith, e)))) in
    same-variable (at.next (i + 2 + at.block) + j) (raised at.next (suc at.block) 1 (i + (at.block + 2)) + j)
    (slice_get (block_at ([] ∷ (s ∷ []) ∷ bs) (i + 2)) j) (slice_get (block_at bs i) j) r level
    (ap (λ n. slice_get (block_at ([] ∷ (s ∷ []) ∷ bs) n) j) two ∙ hs) hs

abbrev QuantifierMatrix : (ℕ → ℕ) → Bool → ℕ → Sort → Form → Cursor → Type 0
QuantifierMatrix place existential l s f at =
    form_matrix place (with_quantifier existential l s f) at
    ≡ form_matrix place f (quantifier_cursor existential l s (lengths_of f.blocks) at)

universal-matrix : (place : ℕ → ℕ) (l : ℕ) (s : Sort) (f : Form) → ReadsInRange f → (at : Cursor) → QuantifierMatrix place false l s f at
universal-matrix place l s f h at = by-blocks f.blocks f.matrix h
  where
    by-blocks : (blocks : List (List Sort)) (matrix : (ℕ → Option Tree) → (ℕ → ℕ → Tree) → Tree) →
        ReadsInRange (record { blocks = blocks; matrix = matrix }) →
        QuantifierMatrix place false l s (record { blocks = blocks; matrix = matrix }) at
    by-blocks [] matrix k =
        below-matrix place (record { blocks = []; matrix = matrix }) k at.outer l (numbered at ([] ∷ (s ∷ []) ∷ []) 1 0)
        (Variable (at.next (suc at.block)) s)
        (moved_in 1 (numbered at ([] ∷ (s ∷ []) ∷ []))) (numbered (past_variable at l s (suc at.block) at.block) [])
        (second-variable at s []) (λ i j r hs. cc)
    by-blocks ([] ∷ bs) matrix k =
        below-matrix place (record { blocks = [] ∷ bs; matrix = matrix }) k at.outer l (numbered at ([] ∷ with_first s bs) 1 0)
        (Variable (at.next (suc at.block)) s)
        (moved_in 1 (numbered at ([] ∷ with_first s bs))) (numbered (past_variable at l s (suc at.block) at.block) ([] ∷ bs))
        (second-variable at s bs) (second-rest at l s bs)
    by-blocks ((b ∷ block) ∷ bs) matrix k = rw (ne_eqb (length (b ∷ block)) 0 (λ e. omega (arith, e)))
        (below-matrix place (record { blocks = (b ∷ block) ∷ bs; matrix = matrix }) k at.outer l
        (numbered at ([] ∷ (s ∷ []) ∷ (b ∷ block) ∷ bs) 1 0) (Variable (at.next (suc at.block)) s)
        (λ i j. numbered at ([] ∷ (s ∷ []) ∷ (b ∷ block) ∷ bs) (i + 2) j)
        (numbered (past_variable at l s (suc at.block) (at.block + 2)) ((b ∷ block) ∷ bs))
        (second-variable at s []) (alone-rest at l s ((b ∷ block) ∷ bs)))

quantifier-matrix : (place : ℕ → ℕ) (existential : Bool) (l : ℕ) (s : Sort) (f : Form) → ReadsInRange f → (at : Cursor) →
    QuantifierMatrix place existential l s f at
quantifier-matrix place true l s f h at =
    below-matrix place f h at.outer l (numbered at (with_first s f.blocks) 0 0) (Variable (at.next at.block) s)
    (moved_in 0 (numbered at (with_first s f.blocks))) (numbered (past_variable at l s at.block at.block) f.blocks)
    (first-variable at s f.blocks) (first-rest at l s f.blocks)
quantifier-matrix place false l s f h at = universal-matrix place l s f h at

-- two pairs of forms
crossed-next : (at : Cursor) (as' bs : List (List Sort)) →
    SameNext (past_form at (lengths_of (joined_blocks as' bs))) (past_form (past_form at (lengths_of as')) (lengths_of bs))
crossed-next at as' bs i =
    let whole = advanced-at at.next at.block (joined_blocks as' bs) i in
    let left = advanced-at at.next at.block as' i in
    let right = advanced-at (advanced at.next at.block (lengths_of as')) at.block bs i in
    let both = ap (λ b. length b) (block-joined as' bs i) ∙ length-append (block_at as' i) (block_at bs i) in
    omega (arith, whole, left, right, both)

crossed-matrix : (place : ℕ → ℕ) (a b c d : Form) → ReadsInRange a → ReadsInRange b → ReadsInRange c → ReadsInRange d → (at : Cursor) →
    form_matrix place (joined Or (joined And a b) (joined And c d)) at
    ≡ binary Or (binary And (form_matrix place a at) (form_matrix place b (past_form at (lengths_of a.blocks))))
    (binary And (form_matrix place c (past_form (past_form at (lengths_of a.blocks)) (lengths_of b.blocks)))
    (form_matrix place d (past_form (past_form (past_form at (lengths_of a.blocks)) (lengths_of b.blocks)) (lengths_of c.blocks))))
crossed-matrix place a b c d ha hb hc hd at =
    let behind = past_form at (lengths_of (joined_blocks a.blocks b.blocks)) in
    let to = past_form (past_form at (lengths_of a.blocks)) (lengths_of b.blocks) in
    joined-matrix place Or (joined And a b) (joined And c d) (joined-reads And a b ha hb) (joined-reads And c d hc hd) at
    ∙ ap (λ x. binary Or x (form_matrix place (joined And c d) behind)) (joined-matrix place And a b ha hb at)
    ∙ ap (binary Or (binary And (form_matrix place a at) (form_matrix place b (past_form at (lengths_of a.blocks)))))
    (same-matrix place (joined And c d) (joined-reads And c d hc hd) at.outer behind to (crossed-next at a.blocks b.blocks)
    ∙ joined-matrix place And c d hc hd to)

-- the forms of trees
reads : (plus : Bool) (t : Tree) → ReadsInRange (form_under plus t)
reads plus t = each-in_range (tree_size t) plus t

pair-matrix : (place : ℕ → ℕ) (p : Bool) (a : Tree) (q : Bool) (b : Tree) (r : Bool) (c : Tree) (s : Bool) (d : Tree) (at : Cursor) →
    form_matrix place (joined Or (joined And (form_under p a) (form_under q b)) (joined And (form_under r c) (form_under s d))) at
    ≡ crossed_built (matrix_under place) p a q b r c s d at
pair-matrix place p a q b r c s d at =
    crossed-matrix place (form_under p a) (form_under q b) (form_under r c) (form_under s d) (reads p a) (reads q b) (reads r c)
    (reads s d) at

plain-matrix : (place : ℕ → ℕ) (plus : Bool) (t : Tree) (at : Cursor) →
    form_matrix place (unquantified plus t) at ≡ plain_built place plus t at
plain-matrix place true t at = refl
plain-matrix place false t at = refl

split-matrix : (place : ℕ → ℕ) (plus : Bool) (t : Tree) (o : Option Choice) (at : Cursor) →
    form_matrix place (split_at form_under plus t o) at ≡ split_built place (matrix_under place) plus t o at
split-matrix place plus t None at = plain-matrix place plus t at
split-matrix place plus t (Some c) at =
    pair-matrix place true c.condition plus (put_for (ite c.condition c.yes c.no) c.yes t) false c.condition plus
    (put_for (ite c.condition c.yes c.no) c.no t) at

either-matrix : (place : ℕ → ℕ) (test : Bool) (f g : Form) (x y : Tree) (at : Cursor) → form_matrix place f at ≡ x →
    form_matrix place g at ≡ y → form_matrix place (if test then f else g) at ≡ (if test then x else y)
either-matrix place true f g x y at h k = h
either-matrix place false f g x y at h k = k

alike-matrix : (place : ℕ → ℕ) (a b : Tree) (at : Cursor) →
    form_matrix place (alike form_under a b) at ≡ alike_built (matrix_under place) a b at
alike-matrix place a b at = pair-matrix place true a true b false a false b at

unlike-matrix : (place : ℕ → ℕ) (a b : Tree) (at : Cursor) →
    form_matrix place (unlike form_under a b) at ≡ unlike_built (matrix_under place) a b at
unlike-matrix place a b at = pair-matrix place true a false b false a true b at

application-matrix : (place : ℕ → ℕ) (plus : Bool) (o : Op) (args : Trees) (at : Cursor) →
    form_matrix place (form_of_application form_under plus o args) at ≡ application_built place (matrix_under place) plus o args at
application-matrix place plus Not (Cons a Nil) at = refl
application-matrix place plus And (Cons a (Cons b Nil)) at =
    joined-matrix place (if plus then And else Or) (form_under plus a) (form_under plus b) (reads plus a) (reads plus b) at
application-matrix place plus Or (Cons a (Cons b Nil)) at =
    joined-matrix place (if plus then Or else And) (form_under plus a) (form_under plus b) (reads plus a) (reads plus b) at
application-matrix place plus Implies (Cons a (Cons b Nil)) at =
    joined-matrix place (if plus then Or else And) (form_under plus (negation a)) (form_under plus b) (reads plus (negation a))
    (reads plus b) at
application-matrix place plus Xor (Cons a (Cons b Nil)) at =
    either-matrix place plus (unlike form_under a b) (alike form_under a b) (unlike_built (matrix_under place) a b at)
    (alike_built (matrix_under place) a b at) at (unlike-matrix place a b at) (alike-matrix place a b at)
application-matrix place plus Equal (Cons a (Cons b Nil)) at =
    either-matrix place (is_bool (tree_sort a)) (if plus then alike form_under a b else unlike form_under a b)
    (split form_under plus (binary Equal a b))
    (if plus then alike_built (matrix_under place) a b at else unlike_built (matrix_under place) a b at)
    (split_built place (matrix_under place) plus (binary Equal a b) (first_choice (binary Equal a b)) at) at
    (either-matrix place plus (alike form_under a b) (unlike form_under a b) (alike_built (matrix_under place) a b at)
    (unlike_built (matrix_under place) a b at) at (alike-matrix place a b at) (unlike-matrix place a b at))
    (split-matrix place plus (binary Equal a b) (first_choice (binary Equal a b)) at)
application-matrix place plus Ite (Cons c (Cons a (Cons b Nil))) at =
    either-matrix place (is_bool (tree_sort a)) (chosen form_under plus c a b) (split form_under plus (ite c a b))
    (chosen_built (matrix_under place) plus c a b at)
    (split_built place (matrix_under place) plus (ite c a b) (first_choice (ite c a b)) at) at
    (pair-matrix place true c plus a false c plus b at)
    (split-matrix place plus (ite c a b) (first_choice (ite c a b)) at)
application-matrix place plus o args at = split-matrix place plus (Apply o args) (first_choice (Apply o args)) at

quantified-matrix : (place : ℕ → ℕ) (plus : Bool) (t : Tree) (at : Cursor) →
    form_matrix place (form_of_quantified form_under plus t) at ≡ quantified_built place (matrix_under place) plus t at
quantified-matrix place plus (ForAll l s body) at = quantifier-matrix place (not plus) l s (form_under plus body) (reads plus body) at
quantified-matrix place plus (Exists l s body) at = quantifier-matrix place plus l s (form_under plus body) (reads plus body) at
quantified-matrix place plus (Apply o args) at = application-matrix place plus o args at
quantified-matrix place plus (Constant i s) at = plain-matrix place plus (Constant i s) at
quantified-matrix place plus (Variable l s) at = plain-matrix place plus (Variable l s) at
quantified-matrix place plus (Literal s n) at = plain-matrix place plus (Literal s n) at

pub matrix-rule : MatrixRule
matrix-rule place plus t at =
    ap (λ f. form_matrix place f at) (form-rule plus t)
    ∙ either-matrix place (is_quantified t) (form_of_quantified form_under plus t) (unquantified plus t)
    (quantified_built place (matrix_under place) plus t at) (plain_built place plus t at) at
    (quantified-matrix place plus t at) (plain-matrix place plus t at)

-- conjunctions
past-joined : (at : Cursor) (as' bs : List (List Sort)) →
    past_form at (lengths_of (joined_blocks as' bs)) ≡ past_form (past_form at (lengths_of as')) (lengths_of bs)
past-joined at as' bs =
    ap (past_form at) (joined-length as' bs)
    ∙ ap (λ next. record { outer = at.outer; next = next; block = at.block })
    (sym (joined-advances at.next at.block (lengths_of as') (lengths_of bs)))

joined-forms-matrix : (place : ℕ → ℕ) (f : Form) → ReadsInRange f → (us : List Tree) (at : Cursor) →
    form_matrix place (joined_forms f us) at
    ≡ all_built (matrix_under place) (form_matrix place f at) us (past_form at (lengths_of f.blocks))
joined-forms-matrix place f h [] at = refl
joined-forms-matrix place f h (u ∷ us) at =
    joined-forms-matrix place (joined And f (form_of u)) (joined-reads And f (form_of u) h (reads true u)) us at
    ∙ ap (λ x. all_built (matrix_under place) x us (past_form at (lengths_of (joined_blocks f.blocks (form_of u).blocks))))
    (joined-matrix place And f (form_of u) h (reads true u) at)
    ∙ ap (all_built (matrix_under place)
    (binary And (form_matrix place f at) (matrix_under place true u (past_form at (lengths_of f.blocks)))) us)
    (past-joined at f.blocks (form_of u).blocks)

pub conjunction-matrix : ConjunctionMatrix
conjunction-matrix place t us at =
    ap (λ f. form_matrix place f at) (conjunction-form t us) ∙ joined-forms-matrix place (form_of t) (reads true t) us at

-- the matrix of a problem, from the start
pub problem-matrix : ProblemMatrix
unfolding problem_of
problem-matrix formulas =
    let ds = constants_in formulas in
    let bs = blocks_in formulas in
    let at = start (length ds) (all_lengths formulas) in
    ap (with_places (index_in ds))
    (reads true (conjunction formulas) no_levels (placed_variable (length ds) bs) (numbered at bs) (λ i j s hs.
    let same : places_before bs i ≡ sum (take i (all_lengths formulas)) =
    places-by-lengths bs i ∙ ap (λ ns. sum (take i ns)) (conjunction-lengths formulas) in
    let none : i + 0 ≡ i = omega arith in
    let level : length ds + places_before bs i + j ≡ length ds + sum (take (i + 0) (all_lengths formulas)) + j =
    ap (λ n. length ds + n + j) (same ∙ ap (λ k. sum (take k (all_lengths formulas))) (sym none)) in
    ap (λ n. Variable n (unwrap_or (slice_get (block_at bs i) j) BoolSort)) level))
