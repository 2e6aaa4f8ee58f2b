-- Chains of exclusive or, and the pass that writes each term as such a chain.
use Rattle.std.specs.Prelude.{ℕ, ◌-◌, ◌^◌, ◌==◌, nat_le, if◌then◌else◌, Option, Some, None, unwrap_or, List, [], ◌∷◌, map, length, fold, bit_xor}
use Rattle.qv_words.specs.declared.sort.Sort.{Sort}
use Rattle.qv_words.specs.declared.sort.Sort.TheVariants.{Bits}
use Rattle.qv_words.specs.declared.sort.Sort.TheVariants.{Bool as BoolSort}
use Rattle.qv_words.specs.declared.op.Op.{Op}
use Rattle.qv_words.specs.declared.op.Op.TheVariants.{Not, Xor, Equal, BvNot, BvXor, BvXnor, BvComp}
use Rattle.qv_words.specs.Tree.{Tree, Trees, Constant, Variable, Literal, Apply, ForAll, Exists, Nil, Cons, tree_sort}
use Rattle.qv_words.specs.Equality.{tree_eq}
use Rattle.qv_words.specs.Prenex.{binary, negation, is_bool}
use Rattle.qv_words.specs.Inverse.{unary, number}
use Rattle.qv_words.specs.Sums.{comes_before, in_order, bits_in}

-- a number, and the trees whose bits are added to its bits modulo 2
pub record Chain : Type 0 where
  pub constant : ℕ
  pub atoms : List Tree

-- a tree as a chain of itself
abbrev pub alone : Tree → Chain
alone t = record { constant = 0; atoms = t ∷ [] }

-- one tree more: it goes together with its like, or it comes last
abbrev pub toggled : List Tree → Tree → List Tree
toggled [] t = t ∷ []
toggled (u ∷ us) t = if tree_eq u t then us else u ∷ toggled us t

-- a number more, and a chain more
abbrev pub flipped : ℕ → Chain → Chain
flipped n p = record { constant = bit_xor p.constant n; atoms = p.atoms }

abbrev pub linked : Chain → Chain → Chain
linked p q = record { constant = bit_xor p.constant q.constant; atoms = fold toggled p.atoms q.atoms }

-- chains and a number in one
abbrev pub united : ℕ → List Chain → Chain
united n [] = record { constant = n; atoms = [] }
united n (p ∷ ps) = fold linked (flipped n p) ps

-- what an operator adds to the chains of its arguments, of v bits; n is all bits of its result
abbrev pub number_of : Op → (n v : ℕ) → Option ℕ
number_of Not n v = Some n
number_of Xor n v = Some 0
number_of Equal n v = if v == 1 then Some n else None
number_of BvNot n v = Some n
number_of BvXor n v = Some 0
number_of BvXnor n v = Some n
number_of BvComp n v = if v == 1 then Some n else None
number_of _ n v = None

-- a chain of at most 64 trees, or else the tree itself: so to unite two takes at most some 6,000
-- comparisons, and a term has at most 130 nodes more than its parts
abbrev pub short_or_alone : Chain → Tree → Chain
short_or_alone p t = if nat_le (length p.atoms) 64 then p else alone t

abbrev pub chain_or_alone : Option ℕ → List Chain → Tree → Chain
chain_or_alone None ps t = alone t
chain_or_alone (Some n) ps t = short_or_alone (united n ps) t

-- truth values joined from the left, and negated once where the number is 1
abbrev pub truth_term : ℕ → List Tree → Tree
truth_term n [] = Literal BoolSort n
truth_term n (t ∷ ts) = if n == 0 then fold (binary Xor) t ts else negation (fold (binary Xor) t ts)

-- a word with these bits turned: by one `bvnot` where they are all
abbrev pub with_turned : (w n : ℕ) → Tree → Tree
with_turned w n t = if n == 0 then t else (if n == 2 ^ w - 1 then unary BvNot t else binary BvXor t (number w n))

-- words joined from the left
abbrev pub word_term : (w n : ℕ) → List Tree → Tree
word_term w n [] = number w n
word_term w n (t ∷ ts) = with_turned w n (fold (binary BvXor) t ts)

-- a truth value, or of a bit that it is 1
abbrev pub as_truth : Tree → Tree
as_truth t = if is_bool (tree_sort t) then t else binary Equal t (number 1 1)

-- the term of a chain: constants come first, then variables, and all others as they came in
abbrev pub term_of : Sort → Chain → Tree
term_of BoolSort p = truth_term p.constant (map as_truth (in_order comes_before p.atoms))
term_of (Bits w) p = word_term w p.constant (in_order comes_before p.atoms)

-- the sort of a tree
abbrev pub sort_in : Tree → Sort
sort_in t = unwrap_or (tree_sort t) BoolSort

-- trees as the terms of their chains
abbrev pub terms_of : Trees → List Chain → Trees
terms_of Nil ps = Nil
terms_of (Cons t ts) [] = Nil
terms_of (Cons t ts) (p ∷ ps) = Cons (term_of (sort_in t) p) (terms_of ts ps)

-- the bits of the first of some trees
abbrev pub first_bits : Trees → ℕ
first_bits Nil = 0
first_bits (Cons t ts) = bits_in t

-- an application as a chain, where its arguments are these; `extract` stays where it stands
abbrev pub applied : Op → Trees → List Chain → Chain
applied o ts ps =
    chain_or_alone (number_of o (2 ^ bits_in (Apply o ts) - 1) (first_bits ts)) ps (Apply o (terms_of ts ps))

-- each tree as a chain, from its leaves up
abbrev mutual
  pub chain : Tree → Chain
  chain (Constant i s) = alone (Constant i s)
  chain (Variable l s) = alone (Variable l s)
  chain (Literal s n) = record { constant = n; atoms = [] }
  chain (Apply o ts) = applied o ts (chains ts)
  chain (ForAll l s body) = alone (ForAll l s body)
  chain (Exists l s body) = alone (Exists l s body)

  pub chains : Trees → List Chain
  chains Nil = []
  chains (Cons t ts) = chain t ∷ chains ts

-- a tree as the term of its chain, and a list of formulas
abbrev pub xored : Tree → Tree
xored t = term_of (sort_in t) (chain t)

abbrev pub xor_pass : List Tree → List Tree
xor_pass formulas = map xored formulas
