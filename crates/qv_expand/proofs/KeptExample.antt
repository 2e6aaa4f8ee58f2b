-- Lines as they are kept: those that are drawn from two entries, over a store of three terms.
use Rattle.std.proofs.Common.{◌≡◌, ℕ, Some, None, List, [], ◌∷◌, refl}
use Rattle.qv_words.specs.declared.sort.Sort.TheVariants.{Bits, Bool as BoolSort}
use Rattle.qv_words.specs.declared.op.Op.TheVariants.{BvAdd, BvUlt}
use Rattle.qv_words.specs.Tree.{Tree, Variable, Literal}
use Rattle.qv_words.specs.Prenex.{binary}
use Rattle.qv_words.specs.Problem.{Problem, Place, Existential, Universal}
use Rattle.qv_words.specs.Expansion.{Instance, Eigen}
use Rattle.qv_words.specs.Linked.{Entry, blocks_of, drawn, no_lines, paths_of, tree_of}
use Rattle.qv_expand.specs.Trees.{lines_in}
use Rattle.qv_expand.proofs.Parts.{finish}

abbrev ex : Place
ex = record { quantifier = Existential; sort = Bits 2 }

abbrev un : Place
un = record { quantifier = Universal; sort = Bits 2 }

abbrev v : ℕ → Tree
v l = Variable l (Bits 2)

abbrev n : ℕ → Tree
n k = Literal (Bits 2) k

-- one existential place, and then one universal
abbrev p : Problem
p = record { prefix = ex ∷ un ∷ []; matrix = binary BvUlt (v 0) (v 1) }

abbrev low : Entry
low = record { level = 2; winner = Universal; region = n 1; point = []; terms = binary BvAdd (v 0) (n 1) ∷ []; links = [] }

abbrev other : Entry
other = record { level = 2; winner = Universal; region = n 1; point = []; terms = n 1 ∷ []; links = [] }

abbrev first : Entry
first = record { level = 1; winner = Universal; region = n 1; point = []; terms = []; links = 1 ∷ 0 ∷ [] }

the-lines : lines_in (n 1 ∷ v 1 ∷ binary BvAdd (v 1) (n 1) ∷ []) (record { parent = 0; instance = None } ∷ record { parent = 1; instance = Some 0 } ∷ record { parent = 1; instance = Some 2 } ∷ []) ≡ tree_of p (low ∷ other ∷ first ∷ [])
unfolding tree_of drawn
the-lines = refl

the-paths : paths_of p (low ∷ other ∷ first ∷ []) ≡ (2 ∷ []) ∷ (2 ∷ 1 ∷ []) ∷ (2 ∷ 0 ∷ []) ∷ []
unfolding paths_of drawn
the-paths = refl

-- the links' parts, one after the other behind the line of the first block
the-parts : (finish (blocks_of p.prefix) (low ∷ other ∷ first ∷ []) (
    record { levels = 1; entry = 1; parent = 1; path = v 1 ∷ []; under = 2 ∷ [] } ∷ record { levels = 1; entry = 0; parent = 1; path = v 1 ∷ []; under = 2 ∷ [] } ∷ []
    ) (record { lines = Eigen 0 ∷ []; numbers = (2 ∷ []) ∷ []; parent = 1; path = v 1 ∷ []; under = 2 ∷ [] })).lines ≡ tree_of p (low ∷ other ∷ first ∷ [])
unfolding tree_of drawn
the-parts = refl
