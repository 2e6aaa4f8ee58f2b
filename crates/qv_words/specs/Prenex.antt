-- Prenex form: the quantifiers of a formula in front, in blocks that alternate, and a matrix
-- without any.
use Rattle.std.specs.Prelude.{ℕ, zero, suc, ◌+◌, ◌==◌, Bool, true, false, not, ◌||◌, ◌&&◌, if◌then◌else◌, Option, Some, None, unwrap_or, List, [], ◌∷◌, ◌++◌, length, slice_get}
use Rattle.qv_words.specs.declared.sort.Sort.{Sort}
use Rattle.qv_words.specs.declared.sort.Sort.TheVariants.{Bits}
use Rattle.qv_words.specs.declared.sort.Sort.TheVariants.{Bool as BoolSort}
use Rattle.qv_words.specs.declared.op.Op.{Op}
use Rattle.qv_words.specs.declared.op.Op.TheVariants.{Not, And, Or, Xor, Implies, Equal, Ite}
use Rattle.qv_words.specs.Tree.{Tree, Trees, Constant, Variable, Literal, Apply, ForAll, Exists, Nil, Cons, tree_sort}
use Rattle.qv_words.specs.Sorted.{with_level}
use Rattle.qv_words.specs.Equality.{tree_eq}
use Rattle.qv_words.specs.Replacement.{replaced}

-- whether a quantifier is in a tree, or in one of a list
abbrev mutual
  pub is_quantified : Tree → Bool
  is_quantified (Constant i s) = false
  is_quantified (Variable l s) = false
  is_quantified (Literal s n) = false
  is_quantified (Apply o args) = is_some_quantified args
  is_quantified (ForAll l s body) = true
  is_quantified (Exists l s body) = true

  pub is_some_quantified : Trees → Bool
  is_some_quantified Nil = false
  is_some_quantified (Cons t ts) = is_quantified t || is_some_quantified ts

-- how many nodes a tree has
abbrev mutual
  pub tree_size : Tree → ℕ
  tree_size (Constant i s) = 1
  tree_size (Variable l s) = 1
  tree_size (Literal s n) = 1
  tree_size (Apply o args) = 1 + trees_size args
  tree_size (ForAll l s body) = 1 + tree_size body
  tree_size (Exists l s body) = 1 + tree_size body

  pub trees_size : Trees → ℕ
  trees_size Nil = 0
  trees_size (Cons t ts) = tree_size t + trees_size ts

-- a choice between two bit-vectors whose condition is quantified
pub record Choice : Type 0 where
  pub condition : Tree
  pub yes : Tree
  pub no : Tree

abbrev pub is_bool : Option Sort → Bool
is_bool (Some BoolSort) = true
is_bool (Some (Bits w)) = false
is_bool None = false

-- whether the operator, applied to these trees, is such a choice
abbrev pub own_choice : Op → Trees → Option Choice
own_choice Ite (Cons c (Cons a (Cons b Nil))) =
    if is_quantified c && not (is_bool (tree_sort a)) then Some (record { condition = c; yes = a; no = b }) else None
own_choice _ _ = None

-- the first of two that is there
abbrev pub or_else : {A : Type 0} → Option A → Option A → Option A
or_else (Some x) y = Some x
or_else None y = y

-- the first such choice in pre-order that stands below no quantifier
abbrev mutual
  pub first_choice : Tree → Option Choice
  first_choice (Constant i s) = None
  first_choice (Variable l s) = None
  first_choice (Literal s n) = None
  first_choice (Apply o args) = or_else (own_choice o args) (first_choice_of args)
  first_choice (ForAll l s body) = None
  first_choice (Exists l s body) = None

  pub first_choice_of : Trees → Option Choice
  first_choice_of Nil = None
  first_choice_of (Cons t ts) = or_else (first_choice t) (first_choice_of ts)

abbrev pub ite : Tree → Tree → Tree → Tree
ite c a b = Apply Ite (Cons c (Cons a (Cons b Nil)))

-- a tree with each subtree that is the target and stands below no quantifier replaced by another
abbrev mutual
  pub put_for : Tree → Tree → Tree → Tree
  put_for target put (Apply o args) = if tree_eq (Apply o args) target then put else Apply o (put_for_each target put args)
  put_for target put t = t

  pub put_for_each : Tree → Tree → Trees → Trees
  put_for_each target put Nil = Nil
  put_for_each target put (Cons t ts) = Cons (put_for target put t) (put_for_each target put ts)

-- A formula in prenex form. The blocks are existential and universal in turn, the first existential
-- and perhaps empty. A variable of the form is named by its block and its position therein, both
-- from 0. The matrix is given what stands for the variables that are bound outside, and for those
-- of the form.
pub record Form : Type 0 where
  pub blocks : List (List Sort)
  pub matrix : (ℕ → Option Tree) → (ℕ → ℕ → Tree) → Tree

abbrev pub negation : Tree → Tree
negation t = Apply Not (Cons t Nil)

abbrev pub binary : Op → Tree → Tree → Tree
binary o a b = Apply o (Cons a (Cons b Nil))

-- a tree, or its negation
abbrev pub under_sign : Bool → Tree → Tree
under_sign plus t = if plus then t else negation t

-- a tree without quantifiers
abbrev pub unquantified : Bool → Tree → Form
unquantified plus t = record { blocks = []; matrix = λ outer var. under_sign plus (replaced outer t) }

-- a block of a list; behind the last one they are empty
abbrev pub block_at : List (List Sort) → ℕ → List Sort
block_at blocks i = unwrap_or (slice_get blocks i) []

-- block by block, the left side's variables first
abbrev pub joined_blocks : List (List Sort) → List (List Sort) → List (List Sort)
joined_blocks [] bs = bs
joined_blocks (a ∷ as') [] = a ∷ as'
joined_blocks (a ∷ as') (b ∷ bs) = (a ++ b) ∷ joined_blocks as' bs

abbrev pub joined : Op → Form → Form → Form
joined o a b = record {
  blocks = joined_blocks a.blocks b.blocks;
  matrix = λ outer var. binary o (a.matrix outer var) (b.matrix outer (λ i j. var i (length (block_at a.blocks i) + j)));
}

-- one more variable at the front of the first block
abbrev pub with_first : Sort → List (List Sort) → List (List Sort)
with_first s [] = (s ∷ []) ∷ []
with_first s (b ∷ bs) = (s ∷ b) ∷ bs

-- the blocks behind the first
abbrev pub behind_first : List (List Sort) → List (List Sort)
behind_first [] = []
behind_first (b ∷ bs) = bs

-- the variables of the body, where a variable went to the front of block k
abbrev pub moved_in : ℕ → (ℕ → ℕ → Tree) → ℕ → ℕ → Tree
moved_in k var i j = if i == k then var i (suc j) else var i j

-- an existential quantifier: its variable goes to the front of the first block
abbrev pub with_existential : ℕ → Sort → Form → Form
with_existential l s body = record {
  blocks = with_first s body.blocks;
  matrix = λ outer var. body.matrix (with_level outer l (var 0 0)) (moved_in 0 var);
}

-- a universal quantifier: its variable goes to the front of the second block where the first one is
-- empty, and otherwise stands alone before the body's blocks
abbrev pub with_universal : ℕ → Sort → Form → Form
with_universal l s body =
    if length (block_at body.blocks 0) == 0 then record {
      blocks = [] ∷ with_first s (behind_first body.blocks);
      matrix = λ outer var. body.matrix (with_level outer l (var 1 0)) (moved_in 1 var);
    }
    else record {
      blocks = [] ∷ (s ∷ []) ∷ body.blocks;
      matrix = λ outer var. body.matrix (with_level outer l (var 1 0)) (λ i j. var (i + 2) j);
    }

-- a quantifier, which under a minus is the other one
abbrev pub with_quantifier : Bool → ℕ → Sort → Form → Form
with_quantifier existential l s body = if existential then with_existential l s body else with_universal l s body

-- In what follows form gives the prenex form of smaller trees, under a sign: true is plus.

-- both hold or neither does, and one holds but not the other
abbrev pub alike : (Bool → Tree → Form) → Tree → Tree → Form
alike form a b = joined Or (joined And (form true a) (form true b)) (joined And (form false a) (form false b))

abbrev pub unlike : (Bool → Tree → Form) → Tree → Tree → Form
unlike form a b = joined Or (joined And (form true a) (form false b)) (joined And (form false a) (form true b))

-- the one under the condition, the other under its negation
abbrev pub chosen : (Bool → Tree → Form) → Bool → Tree → Tree → Tree → Form
chosen form plus c a b = joined Or (joined And (form true c) (form plus a)) (joined And (form false c) (form plus b))

-- another formula: its first choice with a quantified condition is split
abbrev pub split_at : (Bool → Tree → Form) → Bool → Tree → Option Choice → Form
split_at form plus t None = unquantified plus t
split_at form plus t (Some c) =
    let target = ite c.condition c.yes c.no in
    chosen form plus c.condition (put_for target c.yes t) (put_for target c.no t)

abbrev pub split : (Bool → Tree → Form) → Bool → Tree → Form
split form plus t = split_at form plus t (first_choice t)

-- an application that is quantified
abbrev pub form_of_application : (Bool → Tree → Form) → Bool → Op → Trees → Form
form_of_application form plus Not (Cons a Nil) = form (not plus) a
form_of_application form plus And (Cons a (Cons b Nil)) = joined (if plus then And else Or) (form plus a) (form plus b)
form_of_application form plus Or (Cons a (Cons b Nil)) = joined (if plus then Or else And) (form plus a) (form plus b)
form_of_application form plus Implies (Cons a (Cons b Nil)) =
    joined (if plus then Or else And) (form plus (negation a)) (form plus b)
form_of_application form plus Xor (Cons a (Cons b Nil)) = if plus then unlike form a b else alike form a b
form_of_application form plus Equal (Cons a (Cons b Nil)) =
    if is_bool (tree_sort a) then (if plus then alike form a b else unlike form a b)
    else split form plus (binary Equal a b)
form_of_application form plus Ite (Cons c (Cons a (Cons b Nil))) =
    if is_bool (tree_sort a) then chosen form plus c a b else split form plus (ite c a b)
form_of_application form plus o args = split form plus (Apply o args)

-- a tree that is quantified
abbrev pub form_of_quantified : (Bool → Tree → Form) → Bool → Tree → Form
form_of_quantified form plus (ForAll l s body) = with_quantifier (not plus) l s (form plus body)
form_of_quantified form plus (Exists l s body) = with_quantifier plus l s (form plus body)
form_of_quantified form plus (Apply o args) = form_of_application form plus o args
form_of_quantified form plus t = unquantified plus t

-- the prenex form of a tree of at most n nodes
unfoldable pub form_within : ℕ → Bool → Tree → Form
form_within zero plus t = unquantified plus t
form_within (suc n) plus t =
    if is_quantified t then form_of_quantified (λ sign u. form_within n sign u) plus t else unquantified plus t

abbrev pub form_of : Tree → Form
form_of t = form_within (tree_size t) true t
