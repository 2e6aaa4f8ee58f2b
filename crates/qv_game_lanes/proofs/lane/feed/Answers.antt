use Rattle.std.proofs.Common.{◌≡◌, ℕ, sym, ap, ◌∙◌, arith}
use Rattle.std.proofs.lemmas.List.{length-map}
use Rattle.qv_cnf.specs.Listing.{Listing, Numbered, clause_named, clauses_of}
use Rattle.qv_blast.specs.Blasters.{from_one}
use Rattle.qv_game_lanes.proofs.Feeding.{fed-more, fed-none, clause-is_there, clause-is_filled}
use Rattle.qv_game_lanes.proofs.lane.feed.Goals as goal

-- a clause of a list under ids from 1 on
in-order : (list : Listing) (id : ℕ) → list ≡ from_one (clauses_of list.live) → clause_named id (from_one (clauses_of list.live)).live ≡ clause_named id list.live
in-order list id numbered = ap (λ (l : Listing). clause_named id l.live) (sym numbered)

pub clauses-init : goal.clauses-init
clauses-init c = fed-none c.args.core.now (clauses_of c.args.clauses.now.live) c.args.top c.args.added.first c.requires.top

pub add-requires-clause-some : goal.add-requires-clause-some
add-requires-clause-some c =
    let list = c.args.clauses.now in
    let first = c.requires.some in
    let up = c.clauses.auto.id in
    clause-is_filled c.clauses.id (clauses_of list.live) c.in-Some.lits.now (omega (arith, first, up)) c.requires.each
    (in-order list c.clauses.id c.requires.numbered ∙ sym c.in-Some.ensures)

pub unreachable-requires : goal.unreachable-requires
unreachable-requires c =
    let list = c.args.clauses.now in
    let first = c.requires.some in
    let up = c.clauses.auto.id in
    let low = c.clauses-test.true in
    let all = c.requires.all in
    let count = length-map list.live (λ (n : Numbered). n.lits) in
    clause-is_there c.clauses.id (clauses_of list.live) (omega (arith, first, up)) (omega (arith, low, all, count))
    (in-order list c.clauses.id c.requires.numbered ∙ sym c.in-None.ensures)

pub clauses-preserved : goal.clauses-preserved
clauses-preserved c =
    let list = c.args.clauses.now in
    fed-more c.args.core.now c.clauses.core c.add.new.self (clauses_of list.live) c.args.top c.clauses.last c.args.added.first c.clauses.id c.in-Some.lits.now c.requires.some c.clauses.auto.id c.clauses.invariant
    (in-order list c.clauses.id c.requires.numbered ∙ sym c.in-Some.ensures) c.in_ok-add-in-Some.ensures.ok
