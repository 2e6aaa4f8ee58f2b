-- Applications to trees, with the abbreviations for more arguments than two, and their rank faults.
use Rattle.std.specs.Prelude.{ℕ, ◌==◌, ◌&&◌, not, nat_le, if◌then◌else◌, Option, Some, None, unwrap_or, List, [], ◌∷◌, ◌++◌, map, length, Result, Ok, Err}
use Rattle.std.specs.Prelude.{Bool as Truth, true, false}
use Rattle.std.specs.List.{list_all}
use Rattle.qv_words.specs.declared.sort.Sort.{Sort}
use Rattle.qv_words.specs.declared.sort.Sort.TheVariants.{Bool}
use Rattle.qv_words.specs.declared.op.Op.{Op}
use Rattle.qv_words.specs.declared.op.Op.TheVariants.{And, Or, Xor, Implies, Equal, BvAnd, BvOr, BvXor, BvAdd, BvMul, Concat}
use Rattle.qv_words.specs.Rank.{sort_eq}
use Rattle.qv_words.specs.Tree.{Tree, Trees, Apply, Nil, Cons, tree_sort}
use Rattle.qv_words.specs.Prenex.{negation, binary}
pub use Rattle.qv_store.specs.Depth.{depth_of, depth_of_all}
use Rattle.qv_sorts.specs.declared.ranking.RankFault.{RankFault}
use Rattle.qv_sorts.specs.declared.ranking.RankFault.TheVariants as rank
use Rattle.qv_sorts.specs.Faults.{fault_of}
use Rattle.qv_elab_defs.specs.declared.faults.ElabKind.{ElabKind}
use Rattle.qv_elab_defs.specs.declared.faults.ElabKind.TheVariants.{Arity, Sorts, Index, Width, DepthLimit}
use Rattle.qv_elab_defs.specs.Faults.{Fault, refuse, ◌>>=◌, at, moved}
use Rattle.qv_elab_defs.specs.Heads.{Head, Macro, Distinct, Operator}

-- the sort of a tree that has one, as each that an expression stands for
abbrev pub sort_of : Tree → Sort
sort_of t = unwrap_or (tree_sort t) Bool

abbrev pub is_bool : Tree → Truth
is_bool t = sort_eq (sort_of t) Bool

abbrev pub in_trees : List Tree → Trees
in_trees [] = Nil
in_trees (t ∷ ts) = Cons t (in_trees ts)

abbrev pub kind_of : RankFault → ElabKind
kind_of rank.Arity = Arity
kind_of rank.Sorts = Sorts
kind_of rank.Index = Index
kind_of rank.Width = Width

-- a tree, unless it has a rank fault
abbrev pub unless_fault : Option RankFault → Tree → Result Tree ElabKind
unless_fault None t = Ok t
unless_fault (Some fault) t = Err (kind_of fault)

-- an operator's application
abbrev pub applied : Op → List Tree → Result Tree ElabKind
applied o ts = unless_fault (fault_of o (map (λ t. sort_of t) ts)) (Apply o (in_trees ts))

-- ((t u) v) ..
abbrev pub to_the_left : Op → Tree → List Tree → Result Tree ElabKind
to_the_left o t [] = Ok t
to_the_left o t (u ∷ us) = applied o (t ∷ u ∷ []) >>= λ tu. to_the_left o tu us

-- (t (u v)) ..
abbrev pub to_the_right : Op → Tree → List Tree → Result Tree ElabKind
to_the_right o t [] = Ok t
to_the_right o t (u ∷ us) = to_the_right o u us >>= λ uv. applied o (t ∷ uv ∷ [])

-- the pairs of neighbours
abbrev pub neighbours : Tree → List Tree → List (Tree × Tree)
neighbours t [] = []
neighbours t (u ∷ us) = (t, u) ∷ neighbours u us

-- the pairs of places, the smaller first place first
abbrev pub all_pairs : List Tree → List (Tree × Tree)
all_pairs [] = []
all_pairs (t ∷ ts) = map (λ u. (t, u)) ts ++ all_pairs ts

-- whether the trees have one sort
abbrev pub have_one_sort : List Tree → Truth
have_one_sort [] = true
have_one_sort (t ∷ ts) = list_all (λ u. sort_eq (sort_of t) (sort_of u)) ts

-- formulas joined by `and` to the left; of one argument `distinct` has none
abbrev pub conjunction : List Tree → Result Tree ElabKind
conjunction [] = Err Arity
conjunction (t ∷ ts) = to_the_left And t ts

-- each tree is the next
abbrev pub chained : Tree → List Tree → Result Tree ElabKind
chained t ts =
    if have_one_sort (t ∷ ts) then conjunction (map (λ p. binary Equal p.0 p.1) (neighbours t ts)) else Err Sorts

-- no tree is another
abbrev pub distinct : List Tree → Result Tree ElabKind
distinct ts =
    if have_one_sort ts then conjunction (map (λ p. negation (binary Equal p.0 p.1)) (all_pairs ts)) else Err Sorts

-- a formula alone
abbrev pub alone : Tree → Result Tree ElabKind
alone t = if is_bool t then Ok t else Err Sorts

-- an operator's application, where some take more arguments than their rank has, and `and` and `or`
-- take one
abbrev pub application : Op → List Tree → Result Tree ElabKind
application And (t ∷ []) = alone t
application Or (t ∷ []) = alone t
application And (t ∷ ts) = to_the_left And t ts
application Or (t ∷ ts) = to_the_left Or t ts
application Xor (t ∷ u ∷ us) = to_the_left Xor t (u ∷ us)
application BvAnd (t ∷ u ∷ us) = to_the_left BvAnd t (u ∷ us)
application BvOr (t ∷ u ∷ us) = to_the_left BvOr t (u ∷ us)
application BvXor (t ∷ u ∷ us) = to_the_left BvXor t (u ∷ us)
application BvAdd (t ∷ u ∷ us) = to_the_left BvAdd t (u ∷ us)
application BvMul (t ∷ u ∷ us) = to_the_left BvMul t (u ∷ us)
application Concat (t ∷ u ∷ us) = to_the_left Concat t (u ∷ us)
application Implies (t ∷ u ∷ us) = to_the_right Implies t (u ∷ us)
application Equal (t ∷ u ∷ us) = chained t (u ∷ us)
application o ts = applied o ts

abbrev pub depth_limit : ℕ
depth_limit = 10000

-- a tree of an expression at this place, unless it is too deep
abbrev pub shallow : ℕ → Tree → Result Tree Fault
shallow place t = if nat_le (depth_of t) depth_limit then Ok t else refuse place DepthLimit

-- whether lists of sorts are the same
abbrev pub are_sorts_eq : List Sort → List Sort → Truth
are_sorts_eq [] [] = true
are_sorts_eq (s ∷ ss) (u ∷ us) = sort_eq s u && are_sorts_eq ss us
are_sorts_eq _ _ = false

-- the arguments of a definition: as many as its parameters, and of their sorts
abbrev pub fitting : List Sort → List Tree → Result (List Tree) ElabKind
fitting parameters ts =
    if not (length ts == length parameters) then Err Arity
    else (if are_sorts_eq parameters (map (λ t. sort_of t) ts) then Ok ts
    else Err Sorts)

-- what a head gives of these trees, at this place with so many open binders
abbrev pub apply : ℕ → ℕ → Head → List Tree → Result Tree Fault
apply place binders (Macro parameters body) ts = at place (fitting parameters ts) >>= λ args. moved place (body binders args)
apply place binders Distinct ts = at place (distinct ts)
apply place binders (Operator o) ts = at place (application o ts)
