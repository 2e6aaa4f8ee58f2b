-- What a lane may be charged for, and what stands after it was asked.
use Rattle.std.proofs.Common.{◌≡◌, ℕ, ◌+◌, ◌-◌, ◌≤◌, ◌<◌, ◌^◌, Some, List, [], ◌∷◌, ◌++◌, length, set, slice_get, sym, ap, ◌∙◌, subst, arith}
use Rattle.std.specs.Prelude.{IsSomeAnd}
use Rattle.std.specs.List.{All}
use Rattle.std.proofs.lemmas.List.{map-append}
use Rattle.qv_words.specs.declared.word.Word.{Word}
use Rattle.qv_words.specs.Tree.{Tree}
use Rattle.qv_words.specs.Clauses.{cnf_variables}
use Rattle.qv_words.specs.Problem.{Problem, Quantifier}
use Rattle.qv_words.specs.Linked.{Entry}
use Rattle.qv_words.proofs.Elements.{of-some, to-some}
use Rattle.qv_cnf.specs.Derivation.{additions}
use Rattle.qv_cnf.specs.Listing.{Numbered}
use Rattle.qv_cnf.specs.LratLine.{LratLine}
use Rattle.qv_store.specs.Nodes.{tree_at}
use Rattle.qv_store.specs.Problems.{quantifier_of}
use Rattle.qv_store.specs.Walks.{named}
use Rattle.qv_meter.specs.Played.{IsPlayed, IsUndecided}
use Rattle.qv_meter.specs.Queries.{IsQueryLevel, StandsForQuery}
use Rattle.qv_meter.proofs.Standing.{stands-asked}
use Rattle.qv_meter.specs.Records.{IsLaneOf, IsMetering, Kept, Metering, Record, in_lane, position_of}
use Rattle.qv_meter.specs.Units.{IsOverLarge, IsQuery, MayGoOn, Query as QueryLane}
use Rattle.qv_meter.specs.Charging.{ExceedsVariables, MayCharge, OfNewest, SameButConflicts, conflict_count, conflict_limit}
use Rattle.qv_game_lanes.specs.Lanes.{IsLane, base_of, steps_of, variables_of}
use Rattle.qv_game_state.specs.declared.query.Query.{Query}
use Rattle.qv_game_state.specs.Charges.{IsCharged, Tally}
use Rattle.qv_game_state.specs.Playing.{tally_of, IsQueryAt}
use Rattle.qv_game_state.specs.Asking.{IsAsked, MayDeny}
use Rattle.qv_game_state.proofs.Counting.{charged-conflicts, charged-lane, few-learnt}

-- what holds of the newest record and its problem
pub of-charged : (p : Problem) (n limit : ℕ) (tallies : List Tally) (m : Metering) (P : Record → Kept → Type 0) → (h : IsCharged p n limit tallies m) → P h.newest h.kept → OfNewest m P
of-charged p n limit tallies m P h x =
    to-some m.newest (λ r. IsSomeAnd r.kept (P r)) h.newest h.newest_is (to-some h.newest.kept (P h.newest) h.kept h.kept_is x)

-- a level's number is two more than its lane's place
level-is : (level : ℕ) → 2 ≤ level → level - 2 + 2 ≡ level
level-is level h = omega (arith, h)

pub may-name : (trees : List Tree) (p : Problem) (entries : List Entry) (limit : ℕ) (tallies : List Tally) (q : Query) (places : List ℕ) (point : List Word) (level : ℕ) (m : Metering) → IsAsked trees p entries limit tallies q places point level m → OfNewest m (λ r k. IsLaneOf k.problem (QueryLane (quantifier_of q.winner) level))
may-name trees p entries limit tallies q places point level m h =
    of-charged p (length entries) limit tallies m (λ r k. IsLaneOf k.problem (QueryLane (quantifier_of q.winner) level)) h.charged
    (subst (λ (x : Problem). IsQueryLevel x level) (sym h.charged.problem) h.of_level)

-- the lane's formulas at its level
pub stands-at : (trees : List Tree) (p : Problem) (entries : List Entry) (limit level : ℕ) (q : Query) → 2 ≤ level → IsQueryAt trees p entries limit (level - 2) q → StandsForQuery p entries (quantifier_of q.winner) level (named trees q.list.items)
stands-at trees p entries limit level q low h =
    subst (λ (k : ℕ). StandsForQuery p entries (quantifier_of q.winner) k (named trees q.list.items)) (level-is level low) h.list

query-is : (p x : Problem) (entries : List Entry) (n level : ℕ) (winner : Quantifier) (formulas : List Tree) → x ≡ p → n ≡ length entries → IsPlayed p entries → IsUndecided entries → IsQueryLevel p level → StandsForQuery p entries winner level formulas → IsQuery x n entries winner level formulas
query-is p x entries n level winner formulas problem count played undecided asked stands =
    subst (λ (y : Problem). IsQuery y n entries winner level formulas) (sym problem)
    (record { played = played; counted = sym count; undecided = undecided; asked = asked; list = stands-asked p entries winner level formulas stands })

pub may-charge : (trees : List Tree) (p : Problem) (entries : List Entry) (limit : ℕ) (tallies : List Tally) (q : Query) (places : List ℕ) (point : List Word) (level : ℕ) (m : Metering) → IsAsked trees p entries limit tallies q places point level m → MayCharge (in_lane (QueryLane (quantifier_of q.winner) level) m) (base_of q.lane) (steps_of q.lane)
may-charge trees p entries limit tallies q places point level m h =
    let winner = quantifier_of q.winner in
    let lane = h.query.lane in
    let stands = stands-at trees p entries limit level q h.of_level.low h.query in
    let c = h.charged in
    let at : slice_get c.kept.tallies (position_of (QueryLane winner level)) ≡ Some q.lane.learnt =
    ap (λ (k : ℕ). slice_get c.kept.tallies (position_of (QueryLane winner k))) (sym (level-is level h.of_level.low)) ∙ c.each (level - 2) (tally_of q) h.tally in
    let goes : MayGoOn c.kept.problem c.newest.instances (QueryLane winner level) q.lane.learnt (base_of q.lane) (steps_of q.lane) = record {
      entries = entries;
      formulas = named trees q.list.items;
      list = query-is p c.kept.problem entries c.newest.instances level winner (named trees q.list.items) c.problem c.instances h.played h.undecided h.of_level stands;
      clauses = lane.core;
      charged = sym lane.learnt;
    } in
    of-charged p (length entries) limit tallies m
    (λ r k. (tally : ℕ) × (slice_get k.tallies (position_of (QueryLane winner level)) ≡ Some tally) × MayGoOn k.problem r.instances (QueryLane winner level) tally (base_of q.lane) (steps_of q.lane))
    c (q.lane.learnt, at, goes)

-- what a budget's charges say of the tally
tally-is : (m : Metering) (base : List Numbered) (steps : List LratLine) (learnt : ℕ) → MayCharge m base steps → learnt ≡ additions steps → (r : Record) (k : Kept) → m.newest ≡ Some r → r.kept ≡ Some k → slice_get k.tallies (position_of m.lane) ≡ Some learnt
tally-is m base steps learnt may is r k at kept =
    let one = of-some m.newest _ r at may in
    let two = of-some r.kept _ k kept one in
    two.1 ∙ ap Some (sym (is ∙ two.2.charged))

pub asked-after : (trees : List Tree) (p : Problem) (entries : List Entry) (limit : ℕ) (tallies : List Tally) (old new : Query) (places : List ℕ) (point : List Word) (level : ℕ) (m after : Metering) → IsAsked trees p entries limit tallies old places point level m → new.winner ≡ old.winner → new.list.items ≡ old.list.items → IsLane trees (named trees old.list.items) new.lane → variables_of new.lane ≡ variables_of old.lane → SameButConflicts (in_lane (QueryLane (quantifier_of old.winner) level) m) after → MayCharge after (base_of new.lane) (steps_of new.lane) → IsQueryAt trees p entries limit (level - 2) new × IsCharged p (length entries) limit (set tallies (level - 2) (tally_of new)) after
asked-after trees p entries limit tallies old new places point level m after h winner list lane variables same may =
    let w = quantifier_of old.winner in
    let who : quantifier_of new.winner ≡ w = ap quantifier_of winner in
    let up = level-is level h.of_level.low in
    let charged = charged-conflicts p (length entries) limit tallies (level - 2) (tally_of old) new.lane.learnt (in_lane (QueryLane w level) m) after
    (charged-lane p (length entries) limit tallies (QueryLane w level) m h.charged) h.tally (ap (QueryLane w) (sym up)) same
    (tally-is after (base_of new.lane) (steps_of new.lane) new.lane.learnt may lane.learnt) in (
      record {
        opponent = λ b at. who ∙ h.query.opponent b at;
        below = subst (λ (ns : List ℕ). All (λ n. n < length trees) ns) (sym list) h.query.below;
        list = subst (λ (v : Quantifier). StandsForQuery p entries v (level - 2 + 2) (named trees new.list.items)) (sym who)
            (subst (λ (ns : List ℕ). StandsForQuery p entries w (level - 2 + 2) (named trees ns)) (sym list) h.query.list);
        lane = subst (λ (ns : List ℕ). IsLane trees (named trees ns) new.lane) (sym list) lane;
        variables = variables ∙ h.query.variables;
      },
      subst (λ (v : Quantifier). IsCharged p (length entries) limit (set tallies (level - 2) (record { winner = v; count = new.lane.learnt })) after) (sym who) charged,
    )

-- the same where the lane was asked alone
pub asked-whole : (trees : List Tree) (p : Problem) (entries : List Entry) (limit : ℕ) (tallies : List Tally) (old new : Query) (places : List ℕ) (point : List Word) (level : ℕ) (m mid after : Metering) → new.winner ≡ old.winner → new.list.items ≡ old.list.items → mid ≡ in_lane (QueryLane (quantifier_of old.winner) level) m → ((formulas : List Tree) → IsLane trees formulas old.lane → IsLane trees formulas new.lane) → variables_of new.lane ≡ variables_of old.lane → SameButConflicts mid after → MayCharge after (base_of new.lane) (steps_of new.lane) → IsAsked trees p entries limit tallies old places point level m → IsQueryAt trees p entries limit (level - 2) new × IsCharged p (length entries) limit (set tallies (level - 2) (tally_of new)) after
asked-whole trees p entries limit tallies old new places point level m mid after winner list named_is stays variables same may h =
    asked-after trees p entries limit tallies old new places point level m after h winner list
    (stays (named trees old.list.items) h.query.lane) variables
    (subst (λ (x : Metering). SameButConflicts x after) named_is same) may

-- a lane has learnt few clauses
pub asked-few : (trees : List Tree) (p : Problem) (entries : List Entry) (limit : ℕ) (tallies : List Tally) (q : Query) (places : List ℕ) (point : List Word) (level : ℕ) (m mid : Metering) → IsAsked trees p entries limit tallies q places point level m → mid ≡ in_lane (QueryLane (quantifier_of q.winner) level) m → IsMetering mid → q.lane.learnt + (conflict_limit mid - conflict_count mid) ≤ 2 ^ 60
asked-few trees p entries limit tallies q places point level m mid h named_is keeps =
    few-learnt p (length entries) limit tallies (level - 2) (tally_of q) mid
    (subst (IsCharged p (length entries) limit tallies) (sym named_is) (charged-lane p (length entries) limit tallies (QueryLane (quantifier_of q.winner) level) m h.charged)) keeps h.tally

pub denied-few : (trees : List Tree) (p : Problem) (n limit level : ℕ) (formulas : List Tree) (q : Query) (formula : ℕ) (tallies : List Tally) (m : Metering) → MayDeny trees p n limit level formulas q formula tallies m → IsMetering m → q.lane.learnt ≤ 2 ^ 60
denied-few trees p n limit level formulas q formula tallies m h keeps =
    let few = few-learnt p n limit tallies (level - 2) (tally_of q) m h.charged keeps h.tally in
    omega (arith, few)

-- a list with one formula more that is too large
pub may-exceed : (trees : List Tree) (p : Problem) (n limit level : ℕ) (formulas : List Tree) (q : Query) (formula : ℕ) (tallies : List Tally) (m : Metering) (ids : List ℕ) → (h : MayDeny trees p n limit level formulas q formula tallies m) → ids ≡ q.list.items ++ formula ∷ [] → ((fs : List Tree) → IsLane trees fs q.lane → variables_of q.lane < cnf_variables (fs ++ tree_at trees formula ∷ [])) → ExceedsVariables m h.entries (named trees ids)
may-exceed trees p n limit level formulas q formula tallies m ids h is over =
    let w = quantifier_of q.winner in
    let c = h.charged in
    let list : named trees ids ≡ formulas ++ tree_at trees formula ∷ [] =
    ap (named trees) is ∙ map-append (tree_at trees) q.list.items (formula ∷ []) ∙ ap (λ (ts : List Tree). ts ++ tree_at trees formula ∷ []) h.list in
    let query : IsQuery c.kept.problem c.newest.instances h.entries w level (named trees ids) =
    subst (λ (x : Problem). IsQuery x c.newest.instances h.entries w level (named trees ids)) (sym c.problem)
    (subst (λ (k : ℕ). IsQuery p k h.entries w level (named trees ids)) (sym c.instances)
    (subst (λ (ts : List Tree). IsQuery p n h.entries w level ts) (sym list) h.longer)) in
    let more = over formulas h.lane in
    let same : c.newest.limits.variables ≡ variables_of q.lane = c.variables ∙ sym h.variables in
    let large : c.newest.limits.variables < cnf_variables (named trees ids) =
    subst (λ (ts : List Tree). c.newest.limits.variables < cnf_variables ts) (sym list) (subst (λ (k : ℕ). k < cnf_variables (formulas ++ tree_at trees formula ∷ [])) (sym same) more) in
    of-charged p n limit tallies m (λ r k. IsOverLarge k.problem r.instances h.entries r.limits.variables (named trees ids)) c
    (record { lane = QueryLane w level; list = query; over = large })
