-- Sections that are read line by line: what is kept of the lines so far, and why that is enough.
use Rattle.std.specs.Prelude.{◌≡◌, ◌≢◌, ℕ, zero, suc, ◌<◌, ◌==◌, if◌then◌else◌, Option, Some, None, IsSomeAnd, unwrap_or, List, [], ◌∷◌, ◌++◌, length, map, slice_get, All, AllPairs}
use Rattle.qv_words.specs.declared.sort.Sort.{Sort}
use Rattle.qv_words.specs.declared.sort.Sort.TheVariants.{Bool as BoolSort}
use Rattle.qv_words.specs.Tree.{Tree, Trees, Constant, Variable, Literal, Apply, ForAll, Exists, Nil, Cons}
use Rattle.qv_words.specs.Sorted.{with_level, no_levels, free_levels}
use Rattle.qv_words.specs.Replacement.{replaced}
use Rattle.qv_words.specs.Problem.{Problem, Quantifier, Existential, Universal, Holds}
use Rattle.qv_words.specs.Skolem.{SkolemTerm, SkolemOk, IsSkolemTerm, IsEarlierUniversal, IsTermOf, term_of, goal_of}
use Rattle.qv_words.specs.Expansion.{ExpansionLine, Instance, Eigen, Grown, root, sort_at, grow, grown_behind, IsEarlierEigen, IsExpansion, IsLine, leaves_of}
use Rattle.qv_words.specs.GameLaws.{IsProblem, MakesAllTrue}

-- a section's goal is a formula over the universal places
abbrev pub GoalsAreTerms : Type 0
GoalsAreTerms =
    (p : Problem) (terms : List SkolemTerm) → IsProblem p → SkolemOk p terms →
    IsTermOf (goal_of p terms) BoolSort
    × All (IsEarlierUniversal p (length p.prefix)) (free_levels (goal_of p terms))

-- each leaf of an expansion list is a formula over the lines' eigenvariables
abbrev pub LeavesAreTerms : Type 0
LeavesAreTerms =
    (p : Problem) (lines : List ExpansionLine) → IsProblem p → IsExpansion p lines →
    All (λ t. IsTermOf t BoolSort × All (IsEarlierEigen (grown_behind p [] lines)) (free_levels t)) (leaves_of p lines)

-- a Skolem section so far: all but that each existential place has a term
pub record SkolemSoFar (p : Problem) (terms : List SkolemTerm) : Type 0 where
  pub each : All (IsSkolemTerm p) terms
  pub once : AllPairs (λ s t. s.place ≢ t.place) terms

-- one more term may come exactly where it is one of the problem and its place has none, and it is
-- its place's term from then on
abbrev pub SkolemByOneMore : Type 0
SkolemByOneMore =
    (p : Problem) (terms : List SkolemTerm) (s : SkolemTerm) → SkolemSoFar p terms →
    (IsSkolemTerm p s → term_of terms s.place ≡ None → SkolemSoFar p (terms ++ s ∷ []))
    × (SkolemSoFar p (terms ++ s ∷ []) → IsSkolemTerm p s × (term_of terms s.place ≡ None))
    × (term_of terms s.place ≡ None → (j : ℕ) → term_of (terms ++ s ∷ []) j ≡ with_level (term_of terms) s.place s.term j)

-- one more line of an expansion list stands behind those before
abbrev pub GrownByOneMore : Type 0
GrownByOneMore =
    (p : Problem) (lines : List ExpansionLine) (line : ExpansionLine) →
    grown_behind p [] (lines ++ line ∷ []) ≡ grown_behind p [] lines ++ grow p (grown_behind p [] lines) line ∷ []

-- the matrix at a line, if it is a leaf
abbrev pub leaf_of : Problem → Grown → List Tree
leaf_of p g = if length g.path == length p.prefix then replaced (slice_get g.path) p.matrix ∷ [] else []

-- the root is the first leaf, if it is one, and a line's leaf comes behind those before
abbrev pub LeavesByOneMore : Type 0
LeavesByOneMore =
    (p : Problem) →
    (leaves_of p [] ≡ leaf_of p root)
    × ((lines : List ExpansionLine) (line : ExpansionLine) →
    leaves_of p (lines ++ line ∷ []) ≡ leaves_of p lines ++ leaf_of p (grow p (grown_behind p [] lines) line))

-- what is known behind some lines where each one's path is kept: they are an expansion list, and
-- these are the lines and their leaves
pub record IsReadByPaths (p : Problem) (lines : List ExpansionLine) (grown : List Grown) (leaves : List Tree) : Type 0 where
  pub expansion : IsExpansion p lines
  pub grown_are : grown ≡ grown_behind p [] lines
  pub leaves_are : leaves ≡ leaves_of p lines

-- before the first line, and by one more line: it may come exactly where the lines so far say so
abbrev pub ReadingByPaths : Type 0
ReadingByPaths =
    (p : Problem) →
    IsReadByPaths p [] [] (leaf_of p root)
    × ((lines : List ExpansionLine) (grown : List Grown) (leaves : List Tree) (line : ExpansionLine) → IsReadByPaths p lines grown leaves →
    (IsLine p grown line → IsReadByPaths p (lines ++ line ∷ []) (grown ++ grow p grown line ∷ []) (leaves ++ leaf_of p (grow p grown line)))
    × (IsExpansion p (lines ++ line ∷ []) → IsLine p grown line))

-- one more term of a path takes the next place
abbrev pub PathByOneMore : Type 0
PathByOneMore =
    (path : List Tree) (t : Tree) (k : ℕ) → slice_get (path ++ t ∷ []) k ≡ with_level (slice_get path) (length path) t k

-- a tree with a tree put in for each variable whose level has one in b, and for each other variable
-- the constant of its level: so the places behind a path are told from eigenvariables
abbrev mutual
  pub opened : (ℕ → Option Tree) → Tree → Tree
  opened b (Constant i s) = Constant i s
  opened b (Variable l s) = unwrap_or (b l) (Constant l s)
  opened b (Literal s n) = Literal s n
  opened b (Apply o args) = Apply o (each_opened b args)
  opened b (ForAll l s body) = ForAll l s (opened b body)
  opened b (Exists l s body) = Exists l s (opened b body)

  -- the same of each tree of a list
  pub each_opened : (ℕ → Option Tree) → Trees → Trees
  each_opened b Nil = Nil
  each_opened b (Cons t ts) = Cons (opened b t) (each_opened b ts)

-- a tree with another put in for the constant of an index
abbrev mutual
  pub constant_put : ℕ → Tree → Tree → Tree
  constant_put i put (Constant k s) = if k == i then put else Constant k s
  constant_put i put (Variable l s) = Variable l s
  constant_put i put (Literal s n) = Literal s n
  constant_put i put (Apply o args) = Apply o (constant_put_each i put args)
  constant_put i put (ForAll l s body) = ForAll l s (constant_put i put body)
  constant_put i put (Exists l s body) = Exists l s (constant_put i put body)

  -- the same of each tree of a list
  pub constant_put_each : ℕ → Tree → Trees → Trees
  constant_put_each i put Nil = Nil
  constant_put_each i put (Cons t ts) = Cons (constant_put i put t) (constant_put_each i put ts)

-- what is kept of a line: how many places its path has, the sort of its eigenvariable, and the
-- matrix with what stands for those places put in
pub record Kept : Type 0 where
  pub depth : ℕ
  pub eigen : Option Sort
  pub tree : Tree

abbrev pub kept_of : Problem → Grown → Kept
kept_of p g = record { depth = length g.path; eigen = g.eigen; tree = opened (slice_get g.path) p.matrix }

-- of the root
abbrev pub kept_first : Problem → Kept
kept_first p = record { depth = 0; eigen = None; tree = opened no_levels p.matrix }

abbrev pub kept_numbered : Problem → List Kept → ℕ → Kept
kept_numbered p kept zero = kept_first p
kept_numbered p kept (suc n) = unwrap_or (slice_get kept n) (kept_first p)

-- of the next line
abbrev pub keep : Problem → List Kept → ExpansionLine → Kept
keep p kept (Instance parent term) =
    let above = kept_numbered p kept parent in
    record { depth = suc above.depth; eigen = None; tree = constant_put above.depth term above.tree }
keep p kept (Eigen parent) =
    let above = kept_numbered p kept parent in
    let s = sort_at p above.depth in
    record {
      depth = suc above.depth;
      eigen = Some s;
      tree = constant_put above.depth (Variable (suc (length kept)) s) above.tree;
    }

-- the parent's number is of a line so far, or 0
abbrev pub IsKeptNumber : List Kept → ℕ → Type 0
IsKeptNumber kept parent = parent < suc (length kept)

-- a quantifier of this kind stands at this place
abbrev pub IsPlaceOf : Problem → Quantifier → ℕ → (Sort → Type 0) → Type 0
IsPlaceOf p q depth P = IsSomeAnd (slice_get p.prefix depth) (λ place. (place.quantifier ≡ q) × P place.sort)

-- a line may come next, by what is kept
abbrev pub MayCome : Problem → List Kept → ExpansionLine → Type 0
MayCome p kept (Instance parent term) =
    IsKeptNumber kept parent × IsPlaceOf p Universal (kept_numbered p kept parent).depth (IsTermOf term)
    × All (λ leaf. (0 < leaf.0) × IsKeptNumber kept leaf.0 × ((kept_numbered p kept leaf.0).eigen ≡ Some leaf.1)) (free_levels term)
MayCome p kept (Eigen parent) =
    IsKeptNumber kept parent × IsPlaceOf p Existential (kept_numbered p kept parent).depth (λ s. Unit {0})

-- the tree of a kept line, if it is a leaf
abbrev pub kept_leaf : Problem → Kept → List Tree
kept_leaf p k = if k.depth == length p.prefix then k.tree ∷ [] else []

-- what is known behind some lines where their trees are kept: they are an expansion list, and these
-- are kept of them and their leaves
pub record IsRead (p : Problem) (lines : List ExpansionLine) (kept : List Kept) (leaves : List Tree) : Type 0 where
  pub expansion : IsExpansion p lines
  pub kept_are : kept ≡ map (kept_of p) (grown_behind p [] lines)
  pub leaves_are : leaves ≡ leaves_of p lines

-- before the first line, and by one more line: it may come exactly where what is kept says so
abbrev pub ReadingByLine : Type 0
ReadingByLine =
    (p : Problem) → IsProblem p →
    IsRead p [] [] (kept_leaf p (kept_first p))
    × ((lines : List ExpansionLine) (kept : List Kept) (leaves : List Tree) (line : ExpansionLine) → IsRead p lines kept leaves →
    (MayCome p kept line → IsRead p (lines ++ line ∷ []) (kept ++ keep p kept line ∷ []) (leaves ++ kept_leaf p (keep p kept line)))
    × (IsExpansion p (lines ++ line ∷ []) → MayCome p kept line))

-- a problem doesn't hold where no values make all leaves true that were read
abbrev pub ReadingSoundness : Type 0
ReadingSoundness =
    (p : Problem) (lines : List ExpansionLine) (kept : List Kept) (leaves : List Tree) → IsProblem p → IsRead p lines kept leaves →
    ((e : ℕ → Option ℕ) → MakesAllTrue e leaves → ⊥) → Holds p → ⊥
