-- What is drawn from linked lists: the paths of its lines, and lists that go on.
use Rattle.std.specs.Prelude.{◌≡◌, ℕ, zero, suc, ◌≤◌, Some, IsSome, IsSomeAnd, unwrap_or, List, [], ◌∷◌, ◌++◌, length, slice_get}
use Rattle.qv_words.specs.Tree.{Tree}
use Rattle.qv_words.specs.Problem.{Problem}
use Rattle.qv_words.specs.Expansion.{ExpansionLine, Instance, Eigen, Grown, grown_behind}
use Rattle.qv_words.specs.Linked.{Block, Entry, Drawn, with_line, drawn, tree_of, paths_of}

-- the lines that are drawn have one path each
abbrev pub PathsPerLine : Type 0
PathsPerLine = (p : Problem) (entries : List Entry) → length (paths_of p entries) ≡ length (tree_of p entries)

-- the number of the line above a line, or 0 for the root
abbrev pub parent_of : ExpansionLine → ℕ
parent_of (Instance parent term) = parent
parent_of (Eigen parent) = parent

-- the path of a line by its number; the root's is empty
abbrev pub path_numbered : List (List ℕ) → ℕ → List ℕ
path_numbered paths zero = []
path_numbered paths (suc n) = unwrap_or (slice_get paths n) []

-- a line's parent is the root or an earlier line, and the line's path is the parent's and the
-- number of one more entry
abbrev pub ParentsPathIsFront : Type 0
ParentsPathIsFront =
    (p : Problem) (entries : List Entry) (n : ℕ) (line : ExpansionLine) → slice_get (tree_of p entries) n ≡ Some line →
    (parent_of line ≤ n)
    × ((k : ℕ) × IsSome (slice_get entries k) × (slice_get (paths_of p entries) n ≡ Some (path_numbered (paths_of p entries) (parent_of line) ++ k ∷ [])))

-- what has been drawn goes on: its lines and their paths stay, and as many of each are added
pub record IsLongerTree (d f : Drawn) : Type 0 where
  pub lines : List ExpansionLine
  pub numbers : List (List ℕ)
  pub alike : length numbers ≡ length lines
  pub has_lines : f.lines ≡ d.lines ++ lines
  pub has_numbers : f.numbers ≡ d.numbers ++ numbers

-- drawing the part below an entry is such
abbrev pub DrawnIsLonger : Type 0
DrawnIsLonger = (levels : ℕ) (blocks : List Block) (entries : List Entry) (d : Drawn) (n : ℕ) → IsLongerTree d (drawn levels blocks entries d n)

-- a line's path is the same in each longer tree
abbrev pub PathsStay : Type 0
PathsStay = (d f : Drawn) (n : ℕ) → IsLongerTree d f → n ≤ length d.numbers → path_numbered f.numbers n ≡ path_numbered d.numbers n

-- the path of the next line, in the tree with this line and in each longer one
abbrev pub NextLinesPath : Type 0
NextLinesPath =
    (d f : Drawn) (n : ℕ) (line : ExpansionLine) (t : Tree) → length d.numbers ≡ length d.lines → IsLongerTree (with_line n d line t) f →
    (slice_get f.lines (length d.lines) ≡ Some line) × (slice_get f.numbers (length d.lines) ≡ Some (d.under ++ n ∷ []))

-- a line's path has a number for each place down to it
abbrev pub PathsReachDown : Type 0
PathsReachDown =
    (p : Problem) (entries : List Entry) (n : ℕ) (g : Grown) → slice_get (grown_behind p [] (tree_of p entries)) n ≡ Some g →
    IsSomeAnd (slice_get (paths_of p entries) n) (λ path. length path ≡ length g.path)
