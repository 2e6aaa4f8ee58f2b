-- Prenex problems: a prefix of quantified places, and a matrix over them.
use Rattle.std.specs.Prelude.{ℕ, suc, ◌+◌, ◌==◌, nat_lt, if◌then◌else◌, unwrap_or, List, [], ◌∷◌, ◌++◌, map, length, take, sum, slice_get}
use Rattle.qv_words.specs.declared.sort.Sort.{Sort}
use Rattle.qv_words.specs.declared.sort.Sort.TheVariants.{Bool as BoolSort}
use Rattle.qv_words.specs.declared.op.Op.TheVariants.{And}
use Rattle.qv_words.specs.Tree.{Tree, Trees, Constant, Variable, Literal, Apply, ForAll, Exists, Nil, Cons}
use Rattle.qv_words.specs.Sorted.{no_levels}
use Rattle.qv_words.specs.Meaning.{Means}
use Rattle.qv_words.specs.Truth.{constants_of_each}
use Rattle.qv_words.specs.Prenex.{Form, form_of, block_at, binary}

pub data Quantifier : Type 0 where
  Existential : Quantifier
  Universal : Quantifier

-- a place of a prefix
pub record Place : Type 0 where
  pub quantifier : Quantifier
  pub sort : Sort

-- a prefix, and a matrix in which the variable of a place has the place's number as its level
pub record Problem : Type 0 where
  pub prefix : List Place
  pub matrix : Tree

-- the conjunction of formulas, in order: true for none
abbrev pub conjunction_with : Tree → List Tree → Tree
conjunction_with t [] = t
conjunction_with t (u ∷ us) = conjunction_with (binary And t u) us

abbrev pub conjunction : List Tree → Tree
conjunction [] = Literal BoolSort 1
conjunction (t ∷ ts) = conjunction_with t ts

-- a constant put in its place among constants in the order of their indices, unless it is there
abbrev pub with_constant : ℕ × Sort → List (ℕ × Sort) → List (ℕ × Sort)
with_constant c [] = c ∷ []
with_constant c (d ∷ ds) =
    if c.0 == d.0 then d ∷ ds
    else (if nat_lt c.0 d.0 then c ∷ d ∷ ds else d ∷ with_constant c ds)

-- each of some constants once, in the order of their indices, which is that of their declaration
abbrev pub in_order : List (ℕ × Sort) → List (ℕ × Sort)
in_order [] = []
in_order (c ∷ cs) = with_constant c (in_order cs)

-- the place of a constant in such a list
abbrev pub index_in : List (ℕ × Sort) → ℕ → ℕ
index_in [] i = 0
index_in (c ∷ cs) i = if c.0 == i then 0 else suc (index_in cs i)

-- a tree with the variable of its place for each constant
abbrev mutual
  pub with_places : (ℕ → ℕ) → Tree → Tree
  with_places place (Constant i s) = Variable (place i) s
  with_places place (Variable l s) = Variable l s
  with_places place (Literal s n) = Literal s n
  with_places place (Apply o args) = Apply o (each_with_places place args)
  with_places place (ForAll l s body) = ForAll l s (with_places place body)
  with_places place (Exists l s body) = Exists l s (with_places place body)

  pub each_with_places : (ℕ → ℕ) → Trees → Trees
  each_with_places place Nil = Nil
  each_with_places place (Cons t ts) = Cons (with_places place t) (each_with_places place ts)

-- how many places stand in the blocks before this one
abbrev pub places_before : List (List Sort) → ℕ → ℕ
places_before blocks i = sum (map (λ b. length b) (take i blocks))

-- the variable of a form, where so many constants stand before all blocks
abbrev pub placed_variable : ℕ → List (List Sort) → ℕ → ℕ → Tree
placed_variable constants blocks i j =
    Variable (constants + places_before blocks i + j) (unwrap_or (slice_get (block_at blocks i) j) BoolSort)

-- the places of blocks, the first of which is of this quantifier
abbrev pub other : Quantifier → Quantifier
other Existential = Universal
other Universal = Existential

abbrev pub places_of : Quantifier → List (List Sort) → List Place
places_of q [] = []
places_of q (b ∷ bs) = map (λ s. record { quantifier = q; sort = s }) b ++ places_of (other q) bs

-- the prenex problem of a formula: its constants are the first places
abbrev pub problem_from : List (ℕ × Sort) → Form → Problem
problem_from constants form = record {
  prefix = map (λ c. record { quantifier = Existential; sort = c.1 }) constants ++ places_of Existential form.blocks;
  matrix = with_places (index_in constants) (form.matrix no_levels (placed_variable (length constants) form.blocks));
}

-- the prenex problem of asserted formulas
unfoldable pub problem_of : List Tree → Problem
problem_of formulas = problem_from (in_order (constants_of_each formulas)) (form_of (conjunction formulas))

-- a tree closed by the quantifiers of some places, the first of which has this number
abbrev pub quantified : Quantifier → ℕ → Sort → Tree → Tree
quantified Existential l s body = Exists l s body
quantified Universal l s body = ForAll l s body

abbrev pub closed_from : ℕ → List Place → Tree → Tree
closed_from n [] matrix = matrix
closed_from n (p ∷ ps) matrix = quantified p.quantifier n p.sort (closed_from (suc n) ps matrix)

-- the matrix, closed for its places, means 1
abbrev pub Holds : Problem → Type 0
Holds p = Means [] no_levels (closed_from 0 p.prefix p.matrix) 1
