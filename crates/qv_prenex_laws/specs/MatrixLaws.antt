-- Laws for a program that builds the matrix of a prenex form from smaller ones, with its variables
-- at their places: it keeps one next level for each block.
use Rattle.std.specs.Prelude.{◌≡◌, ℕ, suc, ◌+◌, ◌==◌, Bool, true, false, not, if◌then◌else◌, unwrap_or, Option, Some, None, IfSome, List, [], ◌∷◌, take, sum, length, slice_get}
use Rattle.qv_words.specs.declared.sort.Sort.{Sort}
use Rattle.qv_words.specs.declared.sort.Sort.TheVariants.{Bool as BoolSort}
use Rattle.qv_words.specs.declared.op.Op.{Op}
use Rattle.qv_words.specs.declared.op.Op.TheVariants.{Not, And, Or, Xor, Implies, Equal, Ite}
use Rattle.qv_words.specs.Tree.{Tree, Trees, Constant, Variable, Literal, Apply, ForAll, Exists, Nil, Cons, tree_sort}
use Rattle.qv_words.specs.Sorted.{with_level, no_levels}
use Rattle.qv_words.specs.Replacement.{replaced}
use Rattle.qv_words.specs.Truth.{constants_of_each}
use Rattle.qv_words.specs.Prenex.{Form, Choice, is_bool, is_quantified, first_choice, ite, put_for, negation, binary, under_sign, block_at}
use Rattle.qv_words.specs.Problem.{problem_of, conjunction, in_order, index_in, with_places}
use Rattle.qv_prenex_laws.specs.FormLaws.{form_under, lengths_under, joined_lengths, quantifier_lengths, all_lengths}

-- where a matrix is built: what stands for the variables that are bound outside, the level of the
-- next variable of each block, and the block that is the form's first
pub record Cursor : Type 0 where
  pub outer : ℕ → Option Tree
  pub next : ℕ → ℕ
  pub block : ℕ

-- the variables of a form there
abbrev pub numbered : Cursor → List (List Sort) → ℕ → ℕ → Tree
numbered at blocks i j = Variable (at.next (i + at.block) + j) (unwrap_or (slice_get (block_at blocks i) j) BoolSort)

-- the matrix of a form there, with places for the constants
abbrev pub form_matrix : (ℕ → ℕ) → Form → Cursor → Tree
form_matrix place f at = with_places place (f.matrix at.outer (numbered at f.blocks))

abbrev pub matrix_under : (ℕ → ℕ) → Bool → Tree → Cursor → Tree
matrix_under place plus t at = form_matrix place (form_under plus t) at

-- so many variables of a block more, and of each block from this one on
abbrev pub raised : (ℕ → ℕ) → ℕ → ℕ → ℕ → ℕ
raised next k n m = if m == k then next m + n else next m

abbrev pub advanced : (ℕ → ℕ) → ℕ → List ℕ → ℕ → ℕ
advanced next k [] = next
advanced next k (n ∷ ns) = advanced (raised next k n) (suc k) ns

-- behind a form whose blocks have these lengths
abbrev pub past_form : Cursor → List ℕ → Cursor
past_form at lengths = record { outer = at.outer; next = advanced at.next at.block lengths; block = at.block }

-- below a quantifier whose variable is the next one of a block, in a body whose first block is this
-- one
abbrev pub past_variable : Cursor → ℕ → Sort → ℕ → ℕ → Cursor
past_variable at l s k block = record { outer = with_level at.outer l (Variable (at.next k) s); next = raised at.next k 1; block = block }

-- whether the first of some blocks is empty
abbrev pub starts_empty : List ℕ → Bool
starts_empty [] = true
starts_empty (n ∷ ns) = n == 0

abbrev pub quantifier_cursor : Bool → ℕ → Sort → List ℕ → Cursor → Cursor
quantifier_cursor existential l s body at =
    if existential then past_variable at l s at.block at.block
    else past_variable at l s (suc at.block) (if starts_empty body then at.block else at.block + 2)

-- In what follows build gives the matrices of smaller trees.

-- two formulas, each under a sign
abbrev pub two_built : Op → (Bool → Tree → Cursor → Tree) → Bool → Tree → Bool → Tree → Cursor → Tree
two_built o build p a q b at = binary o (build p a at) (build q b (past_form at (lengths_under p a)))

-- two pairs
abbrev pub crossed_built : (Bool → Tree → Cursor → Tree) → Bool → Tree → Bool → Tree → Bool → Tree → Bool → Tree → Cursor → Tree
crossed_built build p a q b r c s d at =
    binary Or (two_built And build p a q b at)
    (two_built And build r c s d (past_form (past_form at (lengths_under p a)) (lengths_under q b)))

abbrev pub alike_built : (Bool → Tree → Cursor → Tree) → Tree → Tree → Cursor → Tree
alike_built build a b at = crossed_built build true a true b false a false b at

abbrev pub unlike_built : (Bool → Tree → Cursor → Tree) → Tree → Tree → Cursor → Tree
unlike_built build a b at = crossed_built build true a false b false a true b at

abbrev pub chosen_built : (Bool → Tree → Cursor → Tree) → Bool → Tree → Tree → Tree → Cursor → Tree
chosen_built build plus c a b at = crossed_built build true c plus a false c plus b at

-- a formula without quantifiers
abbrev pub plain_built : (ℕ → ℕ) → Bool → Tree → Cursor → Tree
plain_built place plus t at = under_sign plus (with_places place (replaced at.outer t))

abbrev pub split_built : (ℕ → ℕ) → (Bool → Tree → Cursor → Tree) → Bool → Tree → Option Choice → Cursor → Tree
split_built place build plus t None at = plain_built place plus t at
split_built place build plus t (Some c) at =
    let target = ite c.condition c.yes c.no in
    chosen_built build plus c.condition (put_for target c.yes t) (put_for target c.no t) at

-- an application that is quantified
abbrev pub application_built : (ℕ → ℕ) → (Bool → Tree → Cursor → Tree) → Bool → Op → Trees → Cursor → Tree
application_built place build plus Not (Cons a Nil) at = build (not plus) a at
application_built place build plus And (Cons a (Cons b Nil)) at = two_built (if plus then And else Or) build plus a plus b at
application_built place build plus Or (Cons a (Cons b Nil)) at = two_built (if plus then Or else And) build plus a plus b at
application_built place build plus Implies (Cons a (Cons b Nil)) at = two_built (if plus then Or else And) build plus (negation a) plus b at
application_built place build plus Xor (Cons a (Cons b Nil)) at = if plus then unlike_built build a b at else alike_built build a b at
application_built place build plus Equal (Cons a (Cons b Nil)) at =
    if is_bool (tree_sort a) then (if plus then alike_built build a b at else unlike_built build a b at)
    else split_built place build plus (binary Equal a b) (first_choice (binary Equal a b)) at
application_built place build plus Ite (Cons c (Cons a (Cons b Nil))) at =
    if is_bool (tree_sort a) then chosen_built build plus c a b at
    else split_built place build plus (ite c a b) (first_choice (ite c a b)) at
application_built place build plus o args at = split_built place build plus (Apply o args) (first_choice (Apply o args)) at

-- a tree that is quantified
abbrev pub quantified_built : (ℕ → ℕ) → (Bool → Tree → Cursor → Tree) → Bool → Tree → Cursor → Tree
quantified_built place build plus (ForAll l s body) at = build plus body (quantifier_cursor (not plus) l s (lengths_under plus body) at)
quantified_built place build plus (Exists l s body) at = build plus body (quantifier_cursor plus l s (lengths_under plus body) at)
quantified_built place build plus (Apply o args) at = application_built place build plus o args at
quantified_built place build plus t at = plain_built place plus t at

-- the matrix of a tree is built from those of smaller trees
abbrev pub MatrixRule : Type 0
MatrixRule =
    (place : ℕ → ℕ) (plus : Bool) (t : Tree) (at : Cursor) →
    matrix_under place plus t at
    ≡ (if is_quantified t then quantified_built place (matrix_under place) plus t at else plain_built place plus t at)

-- the matrix of a conjunction from those of its formulas, from left to right
abbrev pub all_built : (Bool → Tree → Cursor → Tree) → Tree → List Tree → Cursor → Tree
all_built build before [] at = before
all_built build before (u ∷ us) at = all_built build (binary And before (build true u at)) us (past_form at (lengths_under true u))

abbrev pub ConjunctionMatrix : Type 0
ConjunctionMatrix =
    (place : ℕ → ℕ) (t : Tree) (us : List Tree) (at : Cursor) →
    matrix_under place true (conjunction (t ∷ us)) at
    ≡ all_built (matrix_under place) (matrix_under place true t at) us (past_form at (lengths_under true t))

-- before the matrix of a problem: behind the constants each block begins behind those before it
abbrev pub start : ℕ → List ℕ → Cursor
start constants lengths = record { outer = no_levels; next = λ i. constants + sum (take i lengths); block = 0 }

-- the matrix of a problem is that of the conjunction, from the start
abbrev pub ProblemMatrix : Type 0
ProblemMatrix =
    (formulas : List Tree) →
    (problem_of formulas).matrix
    ≡ matrix_under (index_in (in_order (constants_of_each formulas))) true (conjunction formulas)
    (start (length (in_order (constants_of_each formulas))) (all_lengths formulas))

-- behind one form and then another the levels are those behind both joined, and behind the body of
-- a quantifier those behind the quantified form: a program keeps one list of levels, and moves it
-- on alone
abbrev pub JoinedAdvances : Type 0
JoinedAdvances = (next : ℕ → ℕ) (k : ℕ) (ns ms : List ℕ) → advanced (advanced next k ns) k ms ≡ advanced next k (joined_lengths ns ms)

abbrev pub QuantifierAdvances : Type 0
QuantifierAdvances =
    (existential : Bool) (l : ℕ) (s : Sort) (body : List ℕ) (at : Cursor) →
    advanced (quantifier_cursor existential l s body at).next (quantifier_cursor existential l s body at).block body
    ≡ advanced at.next at.block (quantifier_lengths existential body)

-- places for the constants and trees for the variables, put in by one pass
abbrev mutual
  pub put_leaves : (ℕ → ℕ) → (ℕ → Option Tree) → Tree → Tree
  put_leaves place outer (Constant i s) = Variable (place i) s
  put_leaves place outer (Variable l s) = unwrap_or (outer l) (Variable l s)
  put_leaves place outer (Literal s n) = Literal s n
  put_leaves place outer (Apply o args) = Apply o (put_leaves_each place outer args)
  put_leaves place outer (ForAll l s body) = ForAll l s (put_leaves place outer body)
  put_leaves place outer (Exists l s body) = Exists l s (put_leaves place outer body)

  pub put_leaves_each : (ℕ → ℕ) → (ℕ → Option Tree) → Trees → Trees
  put_leaves_each place outer Nil = Nil
  put_leaves_each place outer (Cons t ts) = Cons (put_leaves place outer t) (put_leaves_each place outer ts)

-- what stands for the variables are variables, as it is at the start and stays below quantifiers
abbrev pub ArePlaces : (ℕ → Option Tree) → Type 0
ArePlaces outer = (l : ℕ) → IfSome (outer l) (λ put. (level : ℕ) × (s : Sort) × (put ≡ Variable level s))

abbrev pub PlacesStay : Type 0
PlacesStay = (at : Cursor) (l : ℕ) (s : Sort) (k block : ℕ) → ArePlaces at.outer → ArePlaces (past_variable at l s k block).outer

-- then the one pass does what the two do
abbrev pub OnePass : Type 0
OnePass =
    (place : ℕ → ℕ) (outer : ℕ → Option Tree) (t : Tree) → ArePlaces outer → with_places place (replaced outer t) ≡ put_leaves place outer t
