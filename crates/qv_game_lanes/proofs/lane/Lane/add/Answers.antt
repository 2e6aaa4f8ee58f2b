use Rattle.std.proofs.Common.{◌≡◌, ◌+◌, ◌-◌, ◌++◌, [], ◌∷◌, Err, refl, ap, arith}
use Rattle.std.proofs.lemmas.Result.{err_from_is_err_and}
use Rattle.qv_blast.specs.declared.faults.BlastFault.TheVariants.{TooManyVariables}
use Rattle.qv_store.specs.Nodes.{tree_at}
use Rattle.qv_game_lanes.specs.declared.lane.Lane.{Lane}
use Rattle.qv_game_lanes.specs.Lanes.{IsLane}
use Rattle.qv_game_lanes.proofs.Growing.{adding-filled, adding-lane, adding-of, adding-order, wanted}
use Rattle.qv_game_lanes.proofs.lane.Lane.add.Goals as goal

pub returns-in_err-added-clause-over : goal.returns-in_err-added-clause-over
returns-in_err-added-clause-over c e formulas lane =
    let p = err_from_is_err_and c.from_residual.result c.from_residual.ensures.1 in
    let is : c.in_err-added.field-0.0 ≡ TooManyVariables = let q = p.1 in let r = p.2 in cc in
    wanted c.args.store.now formulas (tree_at c.args.store.now c.args.formula) c.args.self.now.blaster c.args.self.now.blaster.lists.limit lane.blaster
    (c.in_err-added.ensures.over (ap Err is))

pub feed-requires-clause-order : goal.feed-requires-clause-order
feed-requires-clause-order c =
    let t = tree_at c.args.store.now c.args.formula in
    let at = adding-of c.args.store.now c.requires.lane.0 t c.args.self.now c.assert.new.self c.clauses-clauses.result.now c.in_ok-added.added.first c.in_ok-added.added.end c.requires.lane.1 c.requires.formula
    c.in_ok-added.ensures.more c.in_ok-added.ensures.added c.clauses-clauses.ensures.cnf in
    adding-order _ _ _ _ _ _ _ _ at

pub feed-requires-clause-each : goal.feed-requires-clause-each
feed-requires-clause-each c =
    let t = tree_at c.args.store.now c.args.formula in
    let at = adding-of c.args.store.now c.requires.lane.0 t c.args.self.now c.assert.new.self c.clauses-clauses.result.now c.in_ok-added.added.first c.in_ok-added.added.end c.requires.lane.1 c.requires.formula
    c.in_ok-added.ensures.more c.in_ok-added.ensures.added c.clauses-clauses.ensures.cnf in
    adding-filled _ _ _ _ _ _ _ _ at

pub feed-requires-clause-few : goal.feed-requires-clause-few
feed-requires-clause-few c =
    let few = c.requires.lane.1.few in
    let learnt = c.requires.few in
    let low = c.if-self-count.false in
    omega (arith, few, learnt, low)

pub overflow_sub-count : goal.overflow_sub-count
overflow_sub-count c =
    let t = tree_at c.args.store.now c.args.formula in
    let at = adding-of c.args.store.now c.requires.lane.0 t c.args.self.now c.assert.new.self c.clauses-clauses.result.now c.in_ok-added.added.first c.in_ok-added.added.end c.requires.lane.1 c.requires.formula
    c.in_ok-added.ensures.more c.in_ok-added.ensures.added c.clauses-clauses.ensures.cnf in
    adding-order _ _ _ _ _ _ _ _ at

pub close-requires : goal.close-requires
close-requires c =
    let t = tree_at c.args.store.now c.args.formula in
    let old = c.args.self.now in
    let first = c.in_ok-added.added.first in
    let end = c.in_ok-added.added.end in
    let at = adding-of c.args.store.now c.requires.lane.0 t old c.assert.new.self c.clauses-clauses.result.now first end c.requires.lane.1 c.requires.formula
    c.in_ok-added.ensures.more c.in_ok-added.ensures.added c.clauses-clauses.ensures.cnf in
    let new : Lane = record { alloc = old.alloc; blaster = c.assert.new.self; core = c.feed.new.core; fed = old.fed + (end - first); learnt = old.learnt; laid = old.laid; closed = old.closed } in
    let few = c.requires.lane.1.few in
    let low = c.if-self-count.false in
    let fed : IsLane c.args.store.now (c.requires.lane.0 ++ t ∷ []) new = adding-lane c.args.store.now c.requires.lane.0 t old new c.clauses-clauses.result.now first end at c.in_ok-feed.ensures.base c.in_ok-feed.ensures.steps c.in_ok-feed.ensures.top refl (omega (arith, few, low)) refl refl in
    record { lane = (c.args.store.now, c.requires.lane.0 ++ t ∷ [], fed) }

pub returns-clause-more : goal.returns-clause-more
returns-clause-more c formulas lane =
    let t = tree_at c.args.store.now c.args.formula in
    let old = c.args.self.now in
    let first = c.in_ok-added.added.first in
    let end = c.in_ok-added.added.end in
    let at = adding-of c.args.store.now formulas t old c.assert.new.self c.clauses-clauses.result.now first end lane c.requires.formula
    c.in_ok-added.ensures.more c.in_ok-added.ensures.added c.clauses-clauses.ensures.cnf in
    let new : Lane = record { alloc = old.alloc; blaster = c.assert.new.self; core = c.feed.new.core; fed = old.fed + (end - first); learnt = old.learnt; laid = old.laid; closed = old.closed } in
    let few = lane.few in
    let low = c.if-self-count.false in
    let fed : IsLane c.args.store.now (formulas ++ t ∷ []) new = adding-lane c.args.store.now formulas t old new c.clauses-clauses.result.now first end at c.in_ok-feed.ensures.base c.in_ok-feed.ensures.steps c.in_ok-feed.ensures.top refl (omega (arith, few, low)) refl refl in
    c.in_ok-close.ensures.lane c.args.store.now (formulas ++ t ∷ []) fed

pub overflow_sub-self : goal.overflow_sub-self
overflow_sub-self c = let few = c.requires.lane.1.few in omega (arith, few)
