-- What is drawn from lists with entries of both players at many levels: which ones count, in which
-- order, and what is put in.
use Rattle.std.proofs.Common.{◌≡◌, ℕ, List, [], ◌∷◌, refl}
use Rattle.qv_words.specs.declared.sort.Sort.{Sort}
use Rattle.qv_words.specs.declared.sort.Sort.TheVariants.{Bits}
use Rattle.qv_words.specs.declared.op.Op.TheVariants.{BvAdd, BvSub, BvUlt}
use Rattle.qv_words.specs.Tree.{Tree, Variable}
use Rattle.qv_words.specs.Prenex.{binary, ite}
use Rattle.qv_words.specs.Problem.{Problem, Place, Quantifier, Existential, Universal}
use Rattle.qv_words.specs.Inverse.{number}
use Rattle.qv_words.specs.Expansion.{Instance, Eigen}
use Rattle.qv_words.specs.Linked.{Entry, blocks_of, places_below, chain, chain_of, drawn, tree_of, paths_of}

abbrev ex : Place
ex = record { quantifier = Existential; sort = Bits 2 }

abbrev un : Place
un = record { quantifier = Universal; sort = Bits 2 }

abbrev v : ℕ → Tree
v l = Variable l (Bits 2)

abbrev n : ℕ → Tree
n k = number 2 k

abbrev below : Tree → Tree → Tree
below a b = binary BvUlt a b

abbrev two : List Sort
two = Bits 2 ∷ []

-- five places in four blocks
abbrev p : Problem
p = record { prefix = un ∷ ex ∷ ex ∷ un ∷ ex ∷ []; matrix = below (v 0) (v 4) }

their-blocks : blocks_of p.prefix ≡
    record { owner = Universal; sorts = two } ∷ record { owner = Existential; sorts = Bits 2 ∷ Bits 2 ∷ [] } ∷ record { owner = Universal; sorts = two } ∷ record { owner = Existential; sorts = two } ∷ []
their-blocks = refl

before-each : places_below (blocks_of p.prefix) 1 ∷ places_below (blocks_of p.prefix) 2 ∷ places_below (blocks_of p.prefix) 3 ∷ places_below (blocks_of p.prefix) 4 ∷ [] ≡ 0 ∷ 1 ∷ 3 ∷ 4 ∷ []
before-each = refl

abbrev entry : (level : ℕ) → Quantifier → Tree → List Tree → List ℕ → Entry
entry level winner region terms links = record { level = level; winner = winner; region = region; point = []; terms = terms; links = links }

-- at level 4 and at level 2 two entries of the existential player, and others between them
abbrev entries : List Entry
entries =
    entry 4 Existential (below (v 1) (n 3)) (binary BvAdd (v 2) (v 3) ∷ []) []
    ∷ entry 4 Universal (below (v 0) (n 1)) [] []
    ∷ entry 4 Existential (below (v 3) (n 2)) (v 1 ∷ []) []
    ∷ entry 3 Existential (below (v 2) (n 2)) [] (0 ∷ [])
    ∷ entry 2 Existential (below (v 0) (n 2)) (n 1 ∷ v 0 ∷ []) (3 ∷ [])
    ∷ entry 2 Existential (below (v 0) (n 3)) (binary BvSub (v 0) (n 1) ∷ n 0 ∷ []) (3 ∷ [])
    ∷ []

first : Tree
first = ite (below (v 0) (n 2)) (n 1) (binary BvSub (v 0) (n 1))

second : Tree
second = ite (below (v 0) (n 2)) (v 0) (n 0)

-- the first region decides, the last term is left, and earlier places stand for their terms
the-chain : chain p entries ≡
    record { place = 1; term = first }
    ∷ record { place = 2; term = second }
    ∷ record { place = 4; term = ite (below first (n 3)) (binary BvAdd second (v 3)) first }
    ∷ []
unfolding chain chain_of first second
the-chain = refl

-- a block of two universal places, one existential, one universal
abbrev q : Problem
q = record { prefix = un ∷ un ∷ ex ∷ un ∷ []; matrix = below (v 2) (v 3) }

abbrev games : List Entry
games =
    entry 1 Existential (n 0) [] []
    ∷ entry 3 Universal (below (v 0) (v 2)) (binary BvAdd (v 0) (v 2) ∷ []) []
    ∷ entry 3 Universal (below (v 2) (v 0)) (v 1 ∷ []) []
    ∷ entry 2 Universal (n 1) [] (2 ∷ 1 ∷ [])
    ∷ entry 1 Universal (n 1) (n 3 ∷ n 2 ∷ []) (3 ∷ [])
    ∷ entry 1 Universal (n 1) (n 0 ∷ n 0 ∷ []) (3 ∷ [])
    ∷ []

-- the first entry of the universal player at level 1, and the parts of the links in their order
the-lines : tree_of q games ≡ Instance 0 (n 3) ∷ Instance 1 (n 2) ∷ Eigen 2 ∷ Instance 3 (n 2) ∷ Instance 3 (binary BvAdd (n 3) (v 3)) ∷ []
unfolding tree_of drawn
the-lines = refl

the-paths : paths_of q games ≡ (4 ∷ []) ∷ (4 ∷ 4 ∷ []) ∷ (4 ∷ 4 ∷ 3 ∷ []) ∷ (4 ∷ 4 ∷ 3 ∷ 2 ∷ []) ∷ (4 ∷ 4 ∷ 3 ∷ 1 ∷ []) ∷ []
unfolding paths_of drawn
the-paths = refl
