-- Chains and pairs, as calls work on them.
use Rattle.std.specs.Prelude.{◌≡◌, ℕ, ◌<◌, Bool, false, true, List, [], ◌∷◌, ◌++◌, map, Result, Err}
use Rattle.qv_words.specs.declared.op.Op.{Op}
use Rattle.qv_words.specs.declared.op.Op.TheVariants.{Equal}
use Rattle.qv_words.specs.Tree.{Tree}
use Rattle.qv_words.specs.Prenex.{negation, binary}
use Rattle.qv_store.specs.Nodes.{tree_at}
use Rattle.qv_elab_defs.specs.declared.faults.ElabKind.{ElabKind}
use Rattle.qv_elab_defs.specs.declared.faults.ElabKind.TheVariants.{Arity}
use Rattle.qv_elab_defs.specs.Applying.{sort_of, to_the_right}

-- a chain to the right of a list, which is to have one tree at least
abbrev pub all_to_the_right : Op → List Tree → Result Tree ElabKind
all_to_the_right o [] = Err Arity
all_to_the_right o (t ∷ ts) = to_the_right o t ts

-- the pairs of neighbours
abbrev pub neighbours_in : ℕ → List ℕ → List (ℕ × ℕ)
neighbours_in n [] = []
neighbours_in n (m ∷ ms) = (n, m) ∷ neighbours_in m ms

-- the pairs of places, the smaller first place first
abbrev pub pairs_in : List ℕ → List (ℕ × ℕ)
pairs_in [] = []
pairs_in (n ∷ ns) = map (λ m. (n, m)) ns ++ pairs_in ns

-- the trees of a pair
abbrev pub both_at : List Tree → ℕ × ℕ → Tree × Tree
both_at trees p = (tree_at trees p.0, tree_at trees p.1)

-- what is said of a pair: that both are the same, or that they aren't
abbrev pub said_of : Bool → Tree × Tree → Tree
said_of true p = binary Equal p.0 p.1
said_of false p = negation (binary Equal p.0 p.1)

-- both of a pair have one sort
abbrev pub AreAlike : Tree × Tree → Type 0
AreAlike p = sort_of p.0 ≡ sort_of p.1

-- both are below this number
abbrev pub IsPairBelow : ℕ → ℕ × ℕ → Type 0
IsPairBelow n p = (p.0 < n) × (p.1 < n)
