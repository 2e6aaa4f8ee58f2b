use Rattle.std.proofs.Common.{◌≡◌, ◌≢◌, [], ◌∷◌, length, map, refl, sym, ap, subst, ◌∙◌, arith}
use Rattle.std.specs.List.{All}
use Rattle.std.proofs.lemmas.List.{length-map}
use Rattle.qv_words.specs.Gate.{yes}
use Rattle.qv_words.specs.Clauses.{Blasting}
use Rattle.qv_cnf.specs.Listing.{Numbered, clauses_of}
use Rattle.qv_circuits.specs.Adding.{lits_of}
use Rattle.qv_sat.specs.CoreState.{CoreState}
use Rattle.qv_meter.specs.Bases.{HaveClauses}
use Rattle.qv_game_lanes.proofs.Growing.{begun, one-clause}
use Rattle.qv_game_lanes.proofs.lane.Lane.new.Goals as goal
use Rattle.qv_game_lanes.proofs.lane.Lane.new.Goals.{After-clauses}

one : (c : After-clauses) → (length (clauses_of c.clauses.result.now.live) ≡ 1) × All (λ d. d ≢ []) (clauses_of c.clauses.result.now.live)
one c =
    let is : map lits_of (clauses_of c.clauses.result.now.live) ≡ (yes ∷ []) ∷ [] =
    c.clauses.ensures.clauses [] ∙ ap (λ (s : Blasting). s.clauses) (c.in_ok-blaster.ensures.first []) in
    one-clause (clauses_of c.clauses.result.now.live) is

pub feed-requires-clause-all : goal.feed-requires-clause-all
feed-requires-clause-all c =
    let count = (one c).0 in
    let same = length-map c.clauses.result.now.live (λ (n : Numbered). n.lits) in
    omega (arith, count, same)

pub feed-requires-clause-each : goal.feed-requires-clause-each
feed-requires-clause-each c = (one c).1

pub returns-clause-lane : goal.returns-clause-lane
returns-clause-lane c trees shared =
    let has = c.in_ok-blaster.ensures.none trees shared in
    let none = c.new-core.ensures in
    begun trees _ c.clauses.result.now has (c.clauses.ensures.cnf trees [] has)
    (c.in_ok-feed.ensures.base [] (subst (λ (s : CoreState). HaveClauses [] s.base []) (sym none) refl))
    (c.in_ok-feed.ensures.steps ∙ ap (λ (s : CoreState). s.steps) none) c.in_ok-feed.ensures.top refl refl refl
