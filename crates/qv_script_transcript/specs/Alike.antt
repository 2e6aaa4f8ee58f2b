-- States that differ in the last answer's values or reason and in what was counted alone. No public contract cites this.
use Rattle.std.specs.Prelude.{◌≡◌, Option, None, option_map, Ok, Err}
use Rattle.qv_script_defs.specs.declared.counts.Counts.{Counts}
use Rattle.qv_script_defs.specs.State.{State, Last}
use Rattle.qv_script_defs.specs.Moves.{Effect, Text, Move}
use Rattle.qv_script_transcript.specs.Certificates.{word_of}

-- the same last answer, by its word
abbrev pub AreLast : Option Last → Option Last → Type 0
AreLast a b = option_map word_of a ≡ option_map word_of b

-- the state with another last answer, for which other counts are kept
abbrev pub with_last : Option Last → Option Counts → State → State
with_last last counts s = record s { last = last; counts = counts }

pub record AreAlike (s t : State) : Type 0 where
  pub apart : with_last None None s ≡ with_last None None t
  pub last : AreLast s.last t.last

-- the same effect, but for a text
abbrev pub HaveOneEffect : Effect → Effect → Type 0
HaveOneEffect (Text words) (Text others) = Unit {0}
HaveOneEffect f g = f ≡ g

-- moves to such states, with the same effect or fault
abbrev pub MoveAlike : Move → Move → Type 0
MoveAlike (Err f) (Err g) = f ≡ g
MoveAlike (Ok a) (Ok b) = AreAlike a.0 b.0 × HaveOneEffect a.1 b.1
MoveAlike _ _ = ⊥
