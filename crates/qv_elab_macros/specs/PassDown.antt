-- A pass from terms down to the variables below them.
use Rattle.std.specs.Prelude.{◌≡◌, ◌<◌, ℕ, zero, suc, max, Option, Some, None, List, [], ◌∷◌, length, slice_index}
use Rattle.qv_words.specs.Tree.{Tree}
use Rattle.qv_elab_macros.specs.DepthUnder.{depth_from}

-- the greatest depth of a variable below trees, each at its depth, if it has one
abbrev pub peak : ℕ → List Tree → List (Option ℕ) → ℕ
peak l [] depths = 0
peak l (t ∷ ts) [] = 0
peak l (t ∷ ts) (d ∷ ds) = max (depth_from l t d) (peak l ts ds)

-- the same of trees at one depth
abbrev pub peak_at : ℕ → List Tree → ℕ → ℕ
peak_at l [] depth = 0
peak_at l (t ∷ ts) depth = max (depth_from l t (Some depth)) (peak_at l ts depth)

-- the greater depth
abbrev pub raised : Option ℕ → ℕ → Option ℕ
raised None depth = Some depth
raised (Some d) depth = Some (max d depth)

-- the same at a place of a list
abbrev pub raised_at : List (Option ℕ) → ℕ → ℕ → List (Option ℕ)
raised_at [] place depth = []
raised_at (d ∷ ds) zero depth = raised d depth ∷ ds
raised_at (d ∷ ds) (suc place) depth = d ∷ raised_at ds place depth

abbrev pub noted_at : List ℕ → ℕ → ℕ → List ℕ
noted_at [] place depth = []
noted_at (d ∷ ds) zero depth = max d depth ∷ ds
noted_at (d ∷ ds) (suc place) depth = d ∷ noted_at ds place depth

-- a tree at a depth is passed on to what is below it
pub record IsPassed (ts : List Tree) (below : List (Option ℕ)) (depths : List ℕ) (t : Tree) (depth : ℕ) (below' : List (Option ℕ)) (depths' : List ℕ) : Type 0 where
  pub len : length below' ≡ length below
  pub count : length depths' ≡ length depths
  pub passed : (l : ℕ) → l < length depths →
      max (slice_index depths' l) (peak l ts below') ≡ max (max (slice_index depths l) (peak l ts below)) (depth_from l t (Some depth))
