-- Laws for a program that makes prenex forms: the recursion without a bound, and the lengths of the
-- blocks by tree and sign, which are known before any matrix is built.
use Rattle.std.specs.Prelude.{◌≡◌, ℕ, suc, ◌+◌, ◌==◌, ◌<◌, ◌≤◌, Bool, true, false, not, if◌then◌else◌, Option, Some, None, List, [], ◌∷◌, map, length, take, sum}
use Rattle.qv_words.specs.declared.sort.Sort.{Sort}
use Rattle.qv_words.specs.declared.op.Op.{Op}
use Rattle.qv_words.specs.declared.op.Op.TheVariants.{Not, And, Or, Xor, Implies, Equal, Ite}
use Rattle.qv_words.specs.Tree.{Tree, Trees, Apply, ForAll, Exists, Nil, Cons, tree_sort}
use Rattle.qv_words.specs.Truth.{constants_of_each}
use Rattle.qv_words.specs.Prenex.{Form, Choice, is_bool, is_quantified, tree_size, first_choice, ite, put_for, binary, joined, unquantified, form_of_quantified, form_within, form_of}
use Rattle.qv_words.specs.Problem.{problem_of, conjunction, in_order, places_before}

-- the prenex form of a tree under a sign: true is plus
abbrev pub form_under : Bool → Tree → Form
form_under plus t = form_within (tree_size t) plus t

-- any two bounds that are enough give one form
abbrev pub FormBoundsAgree : Type 0
FormBoundsAgree = (n m : ℕ) (plus : Bool) (t : Tree) → tree_size t ≤ n → tree_size t ≤ m → form_within n plus t ≡ form_within m plus t

-- the recursion without a bound
abbrev pub FormRule : Type 0
FormRule =
    (plus : Bool) (t : Tree) → form_under plus t ≡ (if is_quantified t then form_of_quantified form_under plus t else unquantified plus t)

-- where a choice is split, its condition and the tree with either side put in are smaller than the
-- tree
abbrev pub SplitsShrink : Type 0
SplitsShrink =
    (t : Tree) (c : Choice) → first_choice t ≡ Some c →
    (tree_size c.condition < tree_size t)
    × (tree_size (put_for (ite c.condition c.yes c.no) c.yes t) < tree_size t)
    × (tree_size (put_for (ite c.condition c.yes c.no) c.no t) < tree_size t)

-- the form of a conjunction is joined from the forms of its formulas, from left to right
abbrev pub joined_forms : Form → List Tree → Form
joined_forms f [] = f
joined_forms f (u ∷ us) = joined_forms (joined And f (form_of u)) us

abbrev pub ConjunctionForm : Type 0
ConjunctionForm = (t : Tree) (us : List Tree) → form_of (conjunction (t ∷ us)) ≡ joined_forms (form_of t) us

-- how many variables stand in each block
abbrev pub lengths_of : List (List Sort) → List ℕ
lengths_of blocks = map (λ b. length b) blocks

abbrev pub lengths_under : Bool → Tree → List ℕ
lengths_under plus t = lengths_of (form_under plus t).blocks

-- block by block, the sum
abbrev pub joined_lengths : List ℕ → List ℕ → List ℕ
joined_lengths [] ms = ms
joined_lengths (n ∷ ns) [] = n ∷ ns
joined_lengths (n ∷ ns) (m ∷ ms) = (n + m) ∷ joined_lengths ns ms

-- one more in the first block
abbrev pub one_first : List ℕ → List ℕ
one_first [] = 1 ∷ []
one_first (n ∷ ns) = suc n ∷ ns

abbrev pub universal_lengths : List ℕ → List ℕ
universal_lengths [] = 0 ∷ 1 ∷ []
universal_lengths (n ∷ ns) = if n == 0 then 0 ∷ one_first ns else 0 ∷ 1 ∷ n ∷ ns

abbrev pub quantifier_lengths : Bool → List ℕ → List ℕ
quantifier_lengths existential body = if existential then one_first body else universal_lengths body

-- In what follows lengths gives those of smaller trees.

-- of two pairs
abbrev pub crossed_lengths : List ℕ → List ℕ → List ℕ → List ℕ → List ℕ
crossed_lengths a b c d = joined_lengths (joined_lengths a b) (joined_lengths c d)

-- of two formulas, each under both signs
abbrev pub paired_lengths : (Bool → Tree → List ℕ) → Tree → Tree → List ℕ
paired_lengths lengths a b = crossed_lengths (lengths true a) (lengths true b) (lengths false a) (lengths false b)

abbrev pub chosen_lengths : (Bool → Tree → List ℕ) → Bool → Tree → Tree → Tree → List ℕ
chosen_lengths lengths plus c a b = crossed_lengths (lengths true c) (lengths plus a) (lengths false c) (lengths plus b)

abbrev pub split_lengths : (Bool → Tree → List ℕ) → Bool → Tree → Option Choice → List ℕ
split_lengths lengths plus t None = []
split_lengths lengths plus t (Some c) =
    let target = ite c.condition c.yes c.no in
    chosen_lengths lengths plus c.condition (put_for target c.yes t) (put_for target c.no t)

-- of an application that is quantified
abbrev pub application_lengths : (Bool → Tree → List ℕ) → Bool → Op → Trees → List ℕ
application_lengths lengths plus Not (Cons a Nil) = lengths (not plus) a
application_lengths lengths plus And (Cons a (Cons b Nil)) = joined_lengths (lengths plus a) (lengths plus b)
application_lengths lengths plus Or (Cons a (Cons b Nil)) = joined_lengths (lengths plus a) (lengths plus b)
application_lengths lengths plus Implies (Cons a (Cons b Nil)) = joined_lengths (lengths (not plus) a) (lengths plus b)
application_lengths lengths plus Xor (Cons a (Cons b Nil)) = paired_lengths lengths a b
application_lengths lengths plus Equal (Cons a (Cons b Nil)) =
    if is_bool (tree_sort a) then paired_lengths lengths a b else split_lengths lengths plus (binary Equal a b)
    (first_choice (binary Equal a b))
application_lengths lengths plus Ite (Cons c (Cons a (Cons b Nil))) =
    if is_bool (tree_sort a) then chosen_lengths lengths plus c a b else split_lengths lengths plus (ite c a b) (first_choice (ite c a b))
application_lengths lengths plus o args = split_lengths lengths plus (Apply o args) (first_choice (Apply o args))

-- of a tree that is quantified
abbrev pub quantified_lengths : (Bool → Tree → List ℕ) → Bool → Tree → List ℕ
quantified_lengths lengths plus (ForAll l s body) = quantifier_lengths (not plus) (lengths plus body)
quantified_lengths lengths plus (Exists l s body) = quantifier_lengths plus (lengths plus body)
quantified_lengths lengths plus (Apply o args) = application_lengths lengths plus o args
quantified_lengths lengths plus t = []

-- the lengths of a tree's blocks come from those of smaller trees
abbrev pub LengthsRule : Type 0
LengthsRule = (plus : Bool) (t : Tree) → lengths_under plus t ≡ (if is_quantified t then quantified_lengths lengths_under plus t else [])

-- those of a conjunction from those of its formulas
abbrev pub all_lengths : List Tree → List ℕ
all_lengths [] = []
all_lengths (t ∷ ts) = joined_lengths (lengths_under true t) (all_lengths ts)

abbrev pub ConjunctionLengths : Type 0
ConjunctionLengths = (formulas : List Tree) → lengths_under true (conjunction formulas) ≡ all_lengths formulas

-- a problem has a place for each constant and for each variable of a block
abbrev pub PlacesCount : Type 0
PlacesCount =
    (formulas : List Tree) →
    length (problem_of formulas).prefix ≡ length (in_order (constants_of_each formulas)) + sum (all_lengths formulas)

-- what stands before a block
abbrev pub PlacesByLengths : Type 0
PlacesByLengths = (blocks : List (List Sort)) (i : ℕ) → places_before blocks i ≡ sum (take i (lengths_of blocks))

-- the variables of joined forms are those of both, and a quantifier has one more
abbrev pub JoinedTotal : Type 0
JoinedTotal = (ns ms : List ℕ) → sum (joined_lengths ns ms) ≡ sum ns + sum ms

abbrev pub QuantifierTotal : Type 0
QuantifierTotal = (existential : Bool) (body : List ℕ) → sum (quantifier_lengths existential body) ≡ suc (sum body)
