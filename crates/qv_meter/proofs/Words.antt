-- Words of width 2, and regions that fix one.
use Rattle.std.proofs.Common.{ℕ, ◌<◌, refl, arith}
use Rattle.qv_words.specs.declared.sort.Sort.TheVariants.{Bits}
use Rattle.qv_words.specs.declared.sort.Sort.TheVariants.{Bool as BoolSort}
use Rattle.qv_words.specs.declared.op.Op.TheVariants.{Equal, Extract}
use Rattle.qv_words.specs.Sort.{IsLawful}
use Rattle.qv_words.specs.Sorted.{IsSorted}
use Rattle.qv_words.specs.Skolem.{IsTermOf}
use Rattle.qv_words.specs.Tree.{Tree, Variable, Literal, Apply, Nil, Cons}
use Rattle.qv_words.specs.Prenex.{binary}

-- the word at a place, and a number
abbrev pub word : ℕ → Tree
word i = Variable i (Bits 2)

abbrev pub number : ℕ → Tree
number n = Literal (Bits 2) n

abbrev pub yes : Tree
yes = Literal BoolSort 1

abbrev pub no : Tree
no = Literal BoolSort 0

-- all bits of the word are those of the number
abbrev pub fixed : ℕ → ℕ → Tree
fixed i n = binary Equal (Apply (Extract 1 0) (Cons (word i) Nil)) (number n)

pub lawful : IsLawful (Bits 2)
lawful = (omega arith, omega arith)

pub word-sorted : (i : ℕ) → IsSorted (word i)
word-sorted i = (lawful, tt)

pub number-sorted : (n : ℕ) → n < 4 → IsSorted (number n)
number-sorted n h = (lawful, h)

pub yes-formula : IsTermOf yes BoolSort
yes-formula = record { sorted = ((omega arith, omega arith), omega arith); sort = refl; quantifier_free = tt; constant_free = refl }

pub fixed-formula : (i n : ℕ) → n < 4 → IsTermOf (fixed i n) BoolSort
fixed-formula i n h = record {
  sorted = ((((word-sorted i, tt), refl), (number-sorted n h, tt)), refl);
  sort = refl;
  quantifier_free = ((tt, tt), (tt, tt));
  constant_free = refl;
}
