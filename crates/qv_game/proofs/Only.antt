-- The only query of a game.
use Rattle.std.proofs.Common.{◌≡◌, Bool, true, false, cond, Option, Some, None, List, [], ◌∷◌, refl, sym, ap, ◌∙◌}
use Rattle.qv_words.specs.Problem.{Quantifier}
use Rattle.qv_words.specs.Linked.{same_quantifier}
use Rattle.qv_store.specs.Problems.{quantifier_of}
use Rattle.qv_game_lanes.specs.declared.lane.Lane.{Lane}
use Rattle.qv_game_state.specs.declared.query.Query.{Query}
use Rattle.qv_game.specs.Queries.{has_only, only_lane}

pub only-there : (qs : List Query) (winner : Quantifier) (o : Option Lane) → has_only qs winner ≡ true → ((q : Query) → qs ≡ q ∷ [] → o ≡ Some q.lane) → o ≡ only_lane qs winner
only-there [] winner o is h = absurd cc
only-there (q ∷ []) winner o is h = h q refl ∙ sym (ap (λ (k : Bool). cond k (Some q.lane) None) is)
only-there (q ∷ r ∷ qs) winner o is h = absurd cc

pub only-none : (qs : List Query) (winner : Quantifier) → has_only qs winner ≡ false → None ≡ only_lane qs winner
only-none [] winner is = refl
only-none (q ∷ []) winner is = sym (ap (λ (k : Bool). cond k (Some q.lane) None) is)
only-none (q ∷ r ∷ qs) winner is = refl
