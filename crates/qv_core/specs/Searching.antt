-- Where a search for a core stands.
use Rattle.std.specs.Prelude.{ℕ, ◌+◌, Bool, true, false, if◌then◌else◌, Option, Some, None, List, [], ◌∷◌, drop, replicate, slice_set}

-- whether each item is kept; those below `next` were tried, or dropped
pub record Search : Type 0 where
  pub kept : List Bool
  pub next : ℕ

abbrev pub begun : ℕ → Search
begun count = record { kept = replicate count true; next = 0 }

-- the first item that is kept, of items of which the first has this number
abbrev pub first_from : ℕ → List Bool → Option ℕ
first_from n [] = None
first_from n (true ∷ kept) = Some n
first_from n (false ∷ kept) = first_from (n + 1) kept

-- the item that is left out next: the first that is kept and wasn't tried
abbrev pub trial_of : Search → Option ℕ
trial_of s = first_from s.next (drop s.next s.kept)

-- an item goes without a trial
abbrev pub without_item : ℕ → Search → Search
without_item item s = record { kept = slice_set s.kept item false; next = s.next }

-- an item was tried, and goes where the others have no model without it
abbrev pub after_trial : Bool → Search → Option ℕ → Search
after_trial unsat s None = s
after_trial unsat s (Some item) = record { kept = if unsat then slice_set s.kept item false else s.kept; next = item + 1 }

-- the trial has this answer
abbrev pub answered : Bool → Search → Search
answered unsat s = after_trial unsat s (trial_of s)
