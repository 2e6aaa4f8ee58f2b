-- What is kept of a game beside what was won.
use Rattle.std.proofs.Common.{◌≡◌, ℕ, ◌+◌, Bool, true, false, cond, Result, Ok, Option, Some, None, List, [], ◌∷◌, length, map, slice_get, refl, sym, ap, subst, ◌∙◌, inl, arith}
use Rattle.std.specs.Prelude.{IfOk, IsSomeAnd}
use Rattle.std.specs.List.{All}
use Rattle.qv_words.specs.Tree.{Tree}
use Rattle.qv_words.specs.Problem.{Place, Problem, Quantifier, other}
use Rattle.qv_words.specs.Linked.{Block, Entry, blocks_of, same_quantifier}
use Rattle.qv_words.specs.GameLaws.{HasWon}
use Rattle.qv_words.proofs.Elements.{to-some}
use Rattle.qv_cnf.specs.Derivation.{additions}
use Rattle.qv_rewrite_passes.specs.Passes.{IsBehind}
use Rattle.qv_store.specs.Problems.{quantifier_of}
use Rattle.qv_store.specs.Walks.{named}
use Rattle.qv_store.specs.declared.problem.Quant.{Quant}
use Rattle.qv_entries.specs.Rows.{Row, IsRowIn, entries_in}
use Rattle.qv_meter.specs.Played.{IsPlayed}
use Rattle.qv_meter.specs.Queries.{block_count}
use Rattle.qv_meter.specs.Records.{Kept, Metering, Record, position_of}
use Rattle.qv_meter.specs.Units.{Query as QueryLane}
use Rattle.qv_meter.specs.declared.faults.PlayFault.{PlayFault}
use Rattle.qv_game_lanes.specs.Lanes.{steps_of}
use Rattle.qv_game_lanes.specs.declared.lane.Lane.{Lane}
use Rattle.qv_game_state.specs.declared.game.Game.{Game}
use Rattle.qv_game_state.specs.declared.query.Query.{Query}
use Rattle.qv_game_state.specs.Charges.{IsCharged}
use Rattle.qv_game_state.specs.Playing.{tally_of, AreQueries, IsQueryAt}
use Rattle.qv_game_state.specs.Starting.{HasCharged}
use Rattle.qv_game_state.proofs.Asking.{if-ok}
use Rattle.qv_game.specs.declared.playing.Played.{Played}
use Rattle.qv_game.specs.Played.{IsAskedAbout, IsAskedLane, IsKept}
use Rattle.qv_game.specs.Queries.{only_lane}
use Rattle.qv_game.specs.WholeGames.{IsOver, IsWonBy}
use Rattle.qv_game.proofs.Rounds.{of-charged}
use Rattle.qv_game_state.proofs.Blocks.{same-self}
use Rattle.qv_meter.proofs.Linking.{same as one-player}
use Rattle.qv_meter.proofs.Standing.{list-last, stands-last}

-- ---- players

differ : true ≡ false → ⊥
differ h = absurd cc

-- ---- the only query

-- as many blocks as queries: one
one-block : (bs : List Block) → 1 ≡ length bs → (b : Block) × (bs ≡ b ∷ [])
one-block [] h = absurd (omega (arith, h))
one-block (b ∷ []) h = (b, refl)
one-block (b ∷ c ∷ bs) h = absurd (omega (arith, h))

asked-lane : (trees : List Tree) (p : Problem) (entries : List Entry) (n limit : ℕ) (q : Query) (m : Metering) → IsQueryAt trees p entries limit 0 q → IsCharged p n limit (tally_of q ∷ []) m → IsAskedLane trees p (quantifier_of q.winner) q.lane m
asked-lane trees p entries n limit q m at charged =
    let winner = quantifier_of q.winner in
    let formulas = named trees q.list.items in
    let levels = charged.levels in
    let last : 2 ≡ block_count p + 1 = omega (arith, levels) in
    let same : slice_get charged.kept.tallies (position_of (QueryLane winner 2)) ≡ Some (additions (steps_of q.lane)) = charged.each 0 (tally_of q) refl ∙ ap Some at.lane.learnt in
    record {
      formulas = formulas;
      behind = subst (λ (list : List Tree). IsBehind list formulas) (list-last p entries winner 2 last) (stands-last p entries winner 2 formulas last at.list);
      lane = at.lane;
      charged =
          to-some m.newest (λ (r : Record). IsSomeAnd r.kept (λ (k : Kept). slice_get k.tallies (position_of (QueryLane winner 2)) ≡ Some (additions (steps_of q.lane)))) charged.newest charged.newest_is
          (to-some charged.newest.kept (λ (k : Kept). slice_get k.tallies (position_of (QueryLane winner 2)) ≡ Some (additions (steps_of q.lane))) charged.kept charged.kept_is same);
    }

asked-about : (trees : List Tree) (p : Problem) (entries : List Entry) (limit : ℕ) (q : Query) (winner : Quantifier) → IsQueryAt trees p entries limit 0 q → 1 ≡ block_count p → quantifier_of q.winner ≡ winner → IsAskedAbout p winner
asked-about trees p entries limit q winner at one same =
    let block = one-block (blocks_of p.prefix) one in
    (block.0, block.1, sym same ∙ at.opponent block.0 (ap (λ (bs : List Block). slice_get bs 0) block.1))

-- and it is about this player where there is such a query
about-one : (trees : List Tree) (p : Problem) (entries : List Entry) (limit : ℕ) (q : Query) (winner : Quantifier) → IsQueryAt trees p entries limit 0 q → IsAskedAbout p winner → same_quantifier (quantifier_of q.winner) winner ≡ true
about-one trees p entries limit q winner at about =
    let same : quantifier_of q.winner ≡ winner = at.opponent about.0 (ap (λ (bs : List Block). slice_get bs 0) about.1) ∙ sym about.2 in
    subst (λ (w : Quantifier). same_quantifier (quantifier_of q.winner) w ≡ true) same (same-self (quantifier_of q.winner))

-- so its lane is what is to be kept
kept-lane : (trees : List Tree) (p : Problem) (entries : List Entry) (n limit : ℕ) (m : Metering) (winner : Quantifier) (qs : List Query) → AreQueries trees p entries limit qs → IsCharged p n limit (map tally_of qs) m → IsKept trees p winner (only_lane qs winner) m
kept-lane trees p entries n limit m winner [] are charged = λ about.
    let one = ap length about.1 in
    let none = charged.levels in
    absurd (omega (arith, one, none))
kept-lane trees p entries n limit m winner (q ∷ r ∷ qs) are charged = λ about.
    let one = ap length about.1 in
    let more = charged.levels in
    absurd (omega (arith, one, more))
kept-lane trees p entries n limit m winner (q ∷ []) are charged = pick (same_quantifier (quantifier_of q.winner) winner) refl
  where
    pick : (k : Bool) → same_quantifier (quantifier_of q.winner) winner ≡ k → IsKept trees p winner (cond k (Some q.lane) None) m
    pick true e =
        let same = one-player (quantifier_of q.winner) winner e in
        (asked-about trees p entries limit q winner (are 0 q refl) charged.levels same, subst (λ (w : Quantifier). IsAskedLane trees p w q.lane m) same (asked-lane trees p entries n limit q m (are 0 q refl) charged))
    pick false e = λ about. differ (sym (about-one trees p entries limit q winner (are 0 q refl) about) ∙ e)

-- ---- a game that was won

pub won-by : (trees : List Tree) (p : Problem) (limit : ℕ) (g : Game) (m : Metering) (winner : Quant) (played : Played) → IsOver trees p limit g m winner → played.won.winner ≡ winner → played.won.entries ≡ g.entries → played.lane ≡ only_lane g.queries.items (quantifier_of winner) →
    IsWonBy trees p played m
won-by trees p limit g m winner played over is entries lane =
    let rows = sym entries in
    let who = sym is in
    record {
      played = subst (λ (es : List Row). IsPlayed p (entries_in trees es)) rows over.0.played;
      won = subst (λ (w : Quant). HasWon p (quantifier_of w) (entries_in trees played.won.entries)) who (subst (λ (es : List Row). HasWon p (quantifier_of winner) (entries_in trees es)) rows (inl over.1));
      rows = subst (λ (es : List Row). All (IsRowIn trees) es) rows over.0.rows;
      charged = subst (λ (es : List Row). HasCharged p (length es) m) rows (of-charged p (length g.entries) limit _ m over.0.charged);
      kept = subst (λ (w : Quant). IsKept trees p (quantifier_of w) played.lane m) who
          (subst (λ (o : Option Lane). IsKept trees p (quantifier_of winner) o m) (sym lane)
          (kept-lane trees p (entries_in trees g.entries) (length g.entries) limit m (quantifier_of winner) g.queries.items over.0.queries over.0.charged));
    }

-- without places nothing is kept
pub kept-none : (trees : List Tree) (p : Problem) (r : Result Played PlayFault) (m : Metering) → p.prefix ≡ [] → IfOk r (λ played. played.lane ≡ None) → IfOk r (λ played. IsKept trees p (quantifier_of played.won.winner) played.lane m)
kept-none trees p r m none h = if-ok r (λ played lane. subst (λ (o : Option Lane). IsKept trees p (quantifier_of played.won.winner) o m) (sym lane) (never (quantifier_of played.won.winner))) h
  where
    never : (winner : Quantifier) → IsAskedAbout p winner → ⊥
    never winner about =
        let some = ap length about.1 in
        let zero_blocks : block_count p ≡ 0 = ap (λ (ps : List Place). length (blocks_of ps)) none in
        absurd (omega (arith, some, zero_blocks))
