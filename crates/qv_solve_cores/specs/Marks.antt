-- Which places that have names are left, by a mark for each: whether its item is kept. No public
-- contract cites this.
use Rattle.std.specs.Prelude.{ℕ, Bool, true, false, Option, Some, None, List, [], ◌∷◌, slice_set}

-- of places, those whose item is gone; and those whose item is kept
abbrev pub gone : (named : List ℕ) → List Bool → List ℕ
gone [] kept = []
gone (n ∷ named) [] = []
gone (n ∷ named) (true ∷ kept) = gone named kept
gone (n ∷ named) (false ∷ kept) = n ∷ gone named kept

abbrev pub kept_of : (named : List ℕ) → List Bool → List ℕ
kept_of [] kept = []
kept_of (n ∷ named) [] = []
kept_of (n ∷ named) (true ∷ kept) = n ∷ kept_of named kept
kept_of (n ∷ named) (false ∷ kept) = kept_of named kept

-- what is kept in a trial: all but the item that is out, if there is one
abbrev pub kept_but : Option ℕ → List Bool → List Bool
kept_but None kept = kept
kept_but (Some item) kept = slice_set kept item false

-- each item that is kept now was kept before
abbrev pub AreFewer : (now before : List Bool) → Type 0
AreFewer [] [] = Unit {0}
AreFewer (false ∷ a) (b ∷ bs) = AreFewer a bs
AreFewer (true ∷ a) (true ∷ bs) = AreFewer a bs
AreFewer _ _ = ⊥
