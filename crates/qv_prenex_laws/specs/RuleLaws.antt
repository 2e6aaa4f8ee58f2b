-- Laws for a program that looks up by which rule a tree is put into prenex form, and then goes
-- through its parts in order.
use Rattle.std.specs.Prelude.{◌≡◌, ℕ, ◌<◌, ◌==◌, Bool, true, false, not, if◌then◌else◌, Option, Some, None, List, [], ◌∷◌, All, length}
use Rattle.qv_words.specs.declared.sort.Sort.{Sort}
use Rattle.qv_words.specs.declared.op.Op.{Op}
use Rattle.qv_words.specs.declared.op.Op.TheVariants.{Not, And, Or, Xor, Implies, Equal, Ite}
use Rattle.qv_words.specs.Tree.{Tree, Trees, Apply, ForAll, Exists, Nil, Cons, tree_sort}
use Rattle.qv_words.specs.Prenex.{Choice, is_bool, is_quantified, tree_size, first_choice, ite, put_for, negation, binary, block_at, joined_blocks, with_first, behind_first}
use Rattle.qv_prenex_laws.specs.FormLaws.{form_under, lengths_under, joined_lengths, quantifier_lengths, crossed_lengths}
use Rattle.qv_prenex_laws.specs.MatrixLaws.{Cursor, matrix_under, plain_built, two_built, crossed_built, quantifier_cursor}

-- a tree under a sign
pub record Part : Type 0 where
  pub plus : Bool
  pub tree : Tree

-- how the form of a tree under a sign comes from those of smaller ones: it has no quantifier; it is
-- that of a tree under the other sign; two are joined by an operator, each under the sign; two
-- pairs are joined, each by `and`, and these by `or`; or a quantifier, which under a minus is the
-- other one, stands before that of its body
pub data Rule : Type 0 where
  Plain : Rule
  Turned : (a : Tree) → Rule
  Joined : (o : Op) → (a b : Tree) → Rule
  Crossed : (a b c d : Part) → Rule
  Bound : (existential : Bool) → (level : ℕ) → (s : Sort) → (body : Tree) → Rule

abbrev pub under : Bool → Tree → Part
under plus t = record { plus = plus; tree = t }

-- both hold or neither does, and one holds but not the other
abbrev pub alike_rule : Tree → Tree → Rule
alike_rule a b = Crossed (under true a) (under true b) (under false a) (under false b)

abbrev pub unlike_rule : Tree → Tree → Rule
unlike_rule a b = Crossed (under true a) (under false b) (under false a) (under true b)

-- the one under the condition, the other under its negation
abbrev pub chosen_rule : Bool → Tree → Tree → Tree → Rule
chosen_rule plus c a b = Crossed (under true c) (under plus a) (under false c) (under plus b)

-- another formula: its first choice with a quantified condition is split
abbrev pub split_rule : Bool → Tree → Option Choice → Rule
split_rule plus t None = Plain
split_rule plus t (Some c) =
    let target = ite c.condition c.yes c.no in
    chosen_rule plus c.condition (put_for target c.yes t) (put_for target c.no t)

-- an application that is quantified
abbrev pub application_rule : Bool → Op → Trees → Rule
application_rule plus Not (Cons a Nil) = Turned a
application_rule plus And (Cons a (Cons b Nil)) = Joined (if plus then And else Or) a b
application_rule plus Or (Cons a (Cons b Nil)) = Joined (if plus then Or else And) a b
application_rule plus Implies (Cons a (Cons b Nil)) = Joined (if plus then Or else And) (negation a) b
application_rule plus Xor (Cons a (Cons b Nil)) = if plus then unlike_rule a b else alike_rule a b
application_rule plus Equal (Cons a (Cons b Nil)) =
    if is_bool (tree_sort a) then (if plus then alike_rule a b else unlike_rule a b)
    else split_rule plus (binary Equal a b) (first_choice (binary Equal a b))
application_rule plus Ite (Cons c (Cons a (Cons b Nil))) =
    if is_bool (tree_sort a) then chosen_rule plus c a b else split_rule plus (ite c a b) (first_choice (ite c a b))
application_rule plus o args = split_rule plus (Apply o args) (first_choice (Apply o args))

-- a tree that is quantified
abbrev pub quantified_rule : Bool → Tree → Rule
quantified_rule plus (ForAll l s body) = Bound (not plus) l s body
quantified_rule plus (Exists l s body) = Bound plus l s body
quantified_rule plus (Apply o args) = application_rule plus o args
quantified_rule plus t = Plain

-- the rule of a tree under a sign
abbrev pub rule_at : Bool → Tree → Rule
rule_at plus t = if is_quantified t then quantified_rule plus t else Plain

-- what the forms are built of, in order
abbrev pub parts_of : Bool → Rule → List Part
parts_of plus Plain = []
parts_of plus (Turned a) = under (not plus) a ∷ []
parts_of plus (Joined o a b) = under plus a ∷ under plus b ∷ []
parts_of plus (Crossed a b c d) = a ∷ b ∷ c ∷ d ∷ []
parts_of plus (Bound existential l s body) = under plus body ∷ []

-- each part is smaller than the tree
abbrev pub PartsShrink : Type 0
PartsShrink = (plus : Bool) (t : Tree) → All (λ p. tree_size p.tree < tree_size t) (parts_of plus (rule_at plus t))

-- the blocks of a form
abbrev pub blocks_under : Bool → Tree → List (List Sort)
blocks_under plus t = (form_under plus t).blocks

-- with one more variable at the front of the first universal block, which is a new one where an
-- existential variable stands before it
abbrev pub universal_blocks : Sort → List (List Sort) → List (List Sort)
universal_blocks s blocks =
    if length (block_at blocks 0) == 0 then [] ∷ with_first s (behind_first blocks) else [] ∷ (s ∷ []) ∷ blocks

abbrev pub quantifier_blocks : Bool → Sort → List (List Sort) → List (List Sort)
quantifier_blocks existential s body = if existential then with_first s body else universal_blocks s body

-- the blocks of a tree's form by its rule
abbrev pub blocks_by_rule : Bool → Rule → List (List Sort)
blocks_by_rule plus Plain = []
blocks_by_rule plus (Turned a) = blocks_under (not plus) a
blocks_by_rule plus (Joined o a b) = joined_blocks (blocks_under plus a) (blocks_under plus b)
blocks_by_rule plus (Crossed a b c d) =
    joined_blocks (joined_blocks (blocks_under a.plus a.tree) (blocks_under b.plus b.tree))
    (joined_blocks (blocks_under c.plus c.tree) (blocks_under d.plus d.tree))
blocks_by_rule plus (Bound existential l s body) = quantifier_blocks existential s (blocks_under plus body)

abbrev pub BlocksByRule : Type 0
BlocksByRule = (plus : Bool) (t : Tree) → blocks_under plus t ≡ blocks_by_rule plus (rule_at plus t)

-- the lengths of a tree's blocks by its rule
abbrev pub lengths_by_rule : Bool → Rule → List ℕ
lengths_by_rule plus Plain = []
lengths_by_rule plus (Turned a) = lengths_under (not plus) a
lengths_by_rule plus (Joined o a b) = joined_lengths (lengths_under plus a) (lengths_under plus b)
lengths_by_rule plus (Crossed a b c d) =
    crossed_lengths (lengths_under a.plus a.tree) (lengths_under b.plus b.tree) (lengths_under c.plus c.tree) (lengths_under d.plus d.tree)
lengths_by_rule plus (Bound existential l s body) = quantifier_lengths existential (lengths_under plus body)

abbrev pub LengthsByRule : Type 0
LengthsByRule = (plus : Bool) (t : Tree) → lengths_under plus t ≡ lengths_by_rule plus (rule_at plus t)

-- its matrix by its rule
abbrev pub matrix_by_rule : (ℕ → ℕ) → Bool → Tree → Rule → Cursor → Tree
matrix_by_rule place plus t Plain at = plain_built place plus t at
matrix_by_rule place plus t (Turned a) at = matrix_under place (not plus) a at
matrix_by_rule place plus t (Joined o a b) at = two_built o (matrix_under place) plus a plus b at
matrix_by_rule place plus t (Crossed a b c d) at =
    crossed_built (matrix_under place) a.plus a.tree b.plus b.tree c.plus c.tree d.plus d.tree at
matrix_by_rule place plus t (Bound existential l s body) at =
    matrix_under place plus body (quantifier_cursor existential l s (lengths_under plus body) at)

abbrev pub MatrixByRule : Type 0
MatrixByRule =
    (place : ℕ → ℕ) (plus : Bool) (t : Tree) (at : Cursor) →
    matrix_under place plus t at ≡ matrix_by_rule place plus t (rule_at plus t) at
