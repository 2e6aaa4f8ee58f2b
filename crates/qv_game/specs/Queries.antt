-- The only query of a game.
use Rattle.std.specs.Prelude.{if◌then◌else◌, Bool, false, Option, Some, None, List, [], ◌∷◌}
use Rattle.qv_words.specs.Problem.{Quantifier}
use Rattle.qv_words.specs.Linked.{same_quantifier}
use Rattle.qv_store.specs.Problems.{quantifier_of}
use Rattle.qv_game_lanes.specs.declared.lane.Lane.{Lane}
use Rattle.qv_game_state.specs.declared.query.Query.{Query}

-- whether one query is all, and about this player
abbrev pub has_only : List Query → Quantifier → Bool
has_only [] winner = false
has_only (q ∷ []) winner = same_quantifier (quantifier_of q.winner) winner
has_only (q ∷ r ∷ queries) winner = false

-- its lane, and else none
abbrev pub only_lane : List Query → Quantifier → Option Lane
only_lane [] winner = None
only_lane (q ∷ []) winner = if same_quantifier (quantifier_of q.winner) winner then Some q.lane else None
only_lane (q ∷ r ∷ queries) winner = None
