use Rattle.std.proofs.Common.{◌≡◌, ◌∙◌, ap, arith, set}
use Rattle.std.specs.List.{slice_get}
use Rattle.qv_cnf.specs.Literal.{index_of, negated}
use Rattle.qv_watch.specs.Watching.{lists_in as all_lists}
use Rattle.qv_watch.proofs.Listed.{lists_in-set}
use Rattle.qv_watch.proofs.Walking.{head_entry, length-lists_in, visit_none, visit_start, walk_back}
use Rattle.qv_watch.proofs.propagation.visit_all.Goals as goal

pub returns-then-at-len-clause-stop : goal.returns-then-at-len-clause-stop
returns-then-at-len-clause-stop c =
    let w = c.args.watches.now in
    let es = c.args.values.now.entries in
    let e = head_entry (slice_get es w.head) (negated c.args.lit) c.requires.follows in
    let n = length-lists_in w.lists.items in
    visit_none c.args.clauses.now es w.queue.items w.head w.pairs.items (all_lists w.lists.items) c.args.lit e.0 (omega (arith, n, c.if-at-len.true, c.len.ensures, c.index-at.ensures.value, w.lists.ok.0)) e.1 e.2 c.requires.watching

pub visit_each-stop-requires-clause-visiting : goal.visit_each-stop-requires-clause-visiting
visit_each-stop-requires-clause-visiting c =
    let w = c.args.watches.now in
    let es = c.args.values.now.entries in
    let e = head_entry (slice_get es w.head) (negated c.args.lit) c.requires.follows in
    let t = c.take-list.ensures in
    let out = rw c.index-at.ensures.value at t.out in
    rw (t.frames.queue, t.frames.head, t.pairs, t.none, c.index-at.ensures.value) (visit_start c.args.clauses.now es w.queue.items w.head w.pairs.items (all_lists w.lists.items) c.take-list.result.items c.args.lit e.0 out e.1 e.2 c.requires.watching)

pub index_mut-requires : goal.index_mut-requires
index_mut-requires c = omega (arith, c.if-at-len.false, c.len.ensures, c.take-list.ensures.frames.places, c.visit_each-stop.ensures.frames.places, c.args.watches.now.lists.ok.0, c.visit_each-stop.new.watches.lists.ok.0)

pub returns-clause-stop : goal.returns-clause-stop
returns-clause-stop c =
    let w = c.visit_each-stop.new.watches in
    let given : all_lists (set w.lists.items c.index-at.result record { watches = c.visit_each-stop.new.list }) ≡ set (all_lists w.lists.items) (index_of c.args.lit) c.visit_each-stop.new.list.items =
    lists_in-set w.lists.items c.index-at.result record { watches = c.visit_each-stop.new.list } ∙ ap (λ n. set (all_lists w.lists.items) n c.visit_each-stop.new.list.items) c.index-at.ensures.value in
    walk_back c.visit_each-stop.result c.args.clauses.now c.visit_each-stop.new.values.entries w (all_lists (set w.lists.items c.index-at.result record { watches = c.visit_each-stop.new.list })) c.visit_each-stop.new.list.items c.args.lit c.visit_each-stop.ensures.stop given
