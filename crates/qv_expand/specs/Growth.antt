-- A tree while it is drawn.
use Rattle.std.specs.Prelude.{◌≡◌, ℕ, Bool, Option, Some, None, IsSome, IsSomeAnd, if◌then◌else◌, option_map, unwrap_or, List, [], ◌∷◌, ◌++◌, map, length, take, slice_get, All}
use Rattle.qv_words.specs.declared.sort.Sort.TheVariants.{Bool as BoolSort}
use Rattle.qv_words.specs.Tree.{Tree, Literal, tree_sort}
use Rattle.qv_words.specs.Problem.{Problem, Quantifier, Universal}
use Rattle.qv_words.specs.Linked.{Drawn, Entry, HoldsFirst, blocks_of, block_numbered, first_universal, paths_of, places_below, tree_lines, with_block}
use Rattle.qv_store.specs.declared.problem.Problem.{Problem as Posed}
use Rattle.qv_store.specs.Nodes.{tree_at}
use Rattle.qv_store.specs.Stores.{StandsAt}
use Rattle.qv_store.specs.Problems.{places_of, problem_in, IsPosedIn}
use Rattle.qv_store.specs.Replacing.{AreTermsOf, term_of_level}
use Rattle.qv_entries.specs.Rows.{Row, entries_in, IsRowIn}
use Rattle.qv_meter.specs.Played.{IsPlayed}
use Rattle.qv_meter.specs.Records.{Metering}
use Rattle.qv_meter.specs.Charging.{OfNewest}
use Rattle.qv_game_laws.specs.PathLaws.{IsLongerTree}
use Rattle.qv_expand.specs.declared.growing.Growing.{Growing}
use Rattle.qv_expand.specs.Charges.{HasCounted}
use Rattle.qv_expand.specs.Trees.{IsLineIn, lines_in}

-- what stands for the places on a path
abbrev pub slot_tree : List Tree → Option ℕ → Tree
slot_tree trees o = unwrap_or (option_map (tree_at trees) o) (Literal BoolSort 0)

-- the tree that it is in a store, where the lines have the first of these paths
abbrev pub drawn_in : List Tree → List (List ℕ) → Growing → Drawn
drawn_in trees paths g = record {
  lines = lines_in trees g.lines.items;
  numbers = take (length g.lines.items) paths;
  parent = g.parent;
  path = map (slot_tree trees) g.path.items;
  under = g.under.items;
}

-- its terms are terms of the store, and each stands for its place
pub record IsGrowing (p : Problem) (trees : List Tree) (g : Growing) : Type 0 where
  pub lines : All (IsLineIn trees) g.lines.items
  pub many : length g.under.items ≡ length g.path.items
  pub filled : All IsSome g.path.items
  pub there : AreTermsOf trees g.path.items
  pub typed : (l id : ℕ) → term_of_level g.path.items l ≡ Some id → IsSomeAnd (slice_get p.prefix l) (λ place. tree_sort (tree_at trees id) ≡ Some place.sort)

-- the tree of a list of entries of the store with which the universal player has won is drawn, and
-- each line so far is charged
pub record IsExpanding (trees : List Tree) (problem : Posed) (rows : List Row) (m : Metering) (g : Growing) : Type 0 where
  pub posed : IsPosedIn trees problem
  pub within : All (IsRowIn trees) rows
  pub played : IsPlayed (problem_in trees problem) (entries_in trees rows)
  pub won : HoldsFirst Universal (entries_in trees rows)
  pub growing : IsGrowing (problem_in trees problem) trees g
  pub counted : OfNewest m (HasCounted (problem_in trees problem) (entries_in trees rows) (length g.lines.items))

-- the whole tree
abbrev pub whole_tree : Problem → List Entry → Drawn
whole_tree p entries = tree_lines (blocks_of p.prefix) entries (first_universal 0 entries)

-- a tree with the lines of an entry's block below the last line
abbrev pub with_lines_of : Problem → Drawn → ℕ → Option Entry → Drawn
with_lines_of p d n None = d
with_lines_of p d n (Some e) = with_block n d e (block_numbered (blocks_of p.prefix) e.level)

abbrev pub with_entry : Problem → List Entry → Drawn → ℕ → Drawn
with_entry p entries d n = with_lines_of p d n (slice_get entries n)

-- an entry of the universal player at whose block the path ends
pub record IsNext (p : Problem) (entries : List Entry) (depth n : ℕ) : Type 0 where
  pub entry : Entry
  pub here : slice_get entries n ≡ Some entry
  pub winner : entry.winner ≡ Universal
  pub below : depth ≡ places_below (blocks_of p.prefix) entry.level

-- the lines of such an entry's block come next in the whole tree
pub record MayDraw (trees : List Tree) (problem : Posed) (rows : List Row) (g : Growing) (n : ℕ) : Type 0 where
  pub is : IsNext (problem_in trees problem) (entries_in trees rows) (length g.path.items) n
  pub longer : IsLongerTree (with_entry (problem_in trees problem) (entries_in trees rows) (drawn_in trees (paths_of (problem_in trees problem) (entries_in trees rows)) g) n) (whole_tree (problem_in trees problem) (entries_in trees rows))

-- they were drawn
abbrev pub HasDrawn : (old new : List Tree) → Posed → List Row → (before after : Growing) → ℕ → Type 0
HasDrawn old new problem rows before after n =
    drawn_in new (paths_of (problem_in old problem) (entries_in old rows)) after
    ≡ with_entry (problem_in old problem) (entries_in old rows) (drawn_in old (paths_of (problem_in old problem) (entries_in old rows)) before) n

-- the path ends before a place with this quantifier
abbrev pub StandsBefore : Posed → Quantifier → Growing → Type 0
StandsBefore problem q g = IsSomeAnd (slice_get (places_of problem) (length g.path.items)) (λ place. place.quantifier ≡ q)

-- one more line under this entry, with a variable or a term, and what stands for its place
pub record IsLonger (old new : Growing) (number : ℕ) (eigen : Bool) (trees : List Tree) (t : Tree) : Type 0 where
  pub id : ℕ
  pub stands : StandsAt trees id t
  pub lines : new.lines.items ≡ old.lines.items ++ record { parent = old.parent; instance = if eigen then None else Some id } ∷ []
  pub parent : new.parent ≡ length new.lines.items
  pub path : new.path.items ≡ old.path.items ++ Some id ∷ []
  pub under : new.under.items ≡ old.under.items ++ number ∷ []

-- back at a line with so many places on the path down to it
pub record IsBackAt (old new : Growing) (parent depth : ℕ) : Type 0 where
  pub lines : new.lines.items ≡ old.lines.items
  pub below : new.parent ≡ parent
  pub path : new.path.items ≡ take depth old.path.items
  pub under : new.under.items ≡ take depth old.under.items
