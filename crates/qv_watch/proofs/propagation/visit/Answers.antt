use Rattle.std.proofs.Common.{◌≡◌, ◌∷◌, [], ◌++◌, length, set, length-set, None, Some, true, List, refl, sym, ◌∙◌, ap, subst, arith}
use Rattle.std.specs.List.{slice_get, swap_remove}
use Rattle.std.proofs.lemmas.Option.{none-some, same_Some, slice_get_read, slice_get_within}
use Rattle.qv_cnf.specs.Literal.{Literal}
use Rattle.qv_cnf.specs.Refutation.{among}
use Rattle.qv_cnf.specs.declared.readings.Reading.TheVariants.{Forced}
use Rattle.qv_watch.specs.Attaching.{attached_in, lits_in}
use Rattle.qv_watch.specs.Entries.{Entry, value_of, last_level, reading_on}
use Rattle.qv_watch.specs.Scanning.{Scans}
use Rattle.qv_watch.specs.Table.{HasNoTwice, IsStepped}
use Rattle.qv_watch.specs.Visiting.{IsVisitingAt}
use Rattle.qv_watch.specs.Watching.{lists_in as all_lists}
use Rattle.qv_watch.specs.declared.watches.Watch.{Watch}
use Rattle.qv_watch.proofs.Covering.{HasTrue-now, entry_true}
use Rattle.qv_watch.proofs.Growing.{once_grown}
use Rattle.qv_watch.proofs.Keeping.{stepped_grown}
use Rattle.qv_watch.proofs.Lists.{slice_get-last}
use Rattle.qv_watch.proofs.Placing.{slice_get-set_here}
use Rattle.qv_watch.proofs.Looking.{says_at, place_within, forced_has_room, forced_follows}
use Rattle.qv_watch.proofs.Resting.{fails, forces, not-false, value-true}
use Rattle.qv_watch.proofs.Walking.{all_false, beside_own, none_beside, visit_kept, visit_gone, visit_push, visit_renewed, visit_shifted, Scans-push}
use Rattle.qv_watch.proofs.Valuing.{written}
use Rattle.qv_watch.proofs.propagation.visit.Goals as goal
use Rattle.qv_watch.proofs.propagation.visit.Goals.{After-index-watch, After-id_at-id, After-push}

at : (c : After-index-watch) → slice_get c.args.list.now.items c.args.i ≡ Some c.index-watch.result.now
at c = slice_get_read c.args.list.now.items c.args.list.now.len c.args.i c.index-watch.result.now (omega (arith, c.args.list.now.ok.0)) (omega (arith, c.requires.within)) c.index-watch.ensures

once : (c : After-index-watch) → HasNoTwice c.args.values.now.entries
once c = once_grown c.args.values.now.room (attached_in c.args.clauses.now) c.args.values.now.entries c.requires.may.grown

stepped : (c : After-index-watch) → IsStepped 0 c.args.values.now.entries
stepped c = stepped_grown c.args.values.now.room (attached_in c.args.clauses.now) c.args.values.now.entries c.requires.may.grown

pub returns-then-is_true-clause-visited : goal.returns-then-is_true-clause-visited
returns-then-is_true-clause-visited c =
    let d = (goal.at.returns-then-is_true-clause-visited c).After-index-watch in
    let w = c.args.watches.now in
    let cs = c.args.clauses.now in
    let es = c.args.values.now.entries in
    let list = c.args.list.now.items in
    let x = c.index-watch.result.now in
    let y : Watch = record { place = x.place; other = c.in-Some.other } in
    let len : length (set list c.args.i y) ≡ c.args.list.now.len = omega (arith, length-set list c.args.i y, c.args.list.now.ok.0) in
    let renewed : IsVisitingAt cs es w.queue.items w.head w.pairs.items (all_lists w.lists.items) (set list c.args.i y) c.args.i c.args.lit =
    visit_renewed cs es w.queue.items w.head w.pairs.items (all_lists w.lists.items) list c.args.i c.args.lit x (at d) c.requires.visiting y refl
    (λ k lits same watched. beside_own es w.pairs.items x.place k w.head c.args.lit c.in-Some.other lits _ same c.in-Some.ensures watched) in (
      rw (c.renew.ensures, c.deref_mut.ensures.value, written (set list c.args.i y) list c.args.list.now.len len) (
          visit_kept cs es w.queue.items w.head w.pairs.items (all_lists w.lists.items) (set list c.args.i y) c.args.i c.args.lit y (slice_get-set_here list c.args.i y (slice_get_within list c.args.i x (at d))) renewed
          (λ k lits here same own watched. HasTrue-now es lits c.in-Some.other (stepped d) own (value-true es c.in-Some.other (c.if-is_true.ensures.yes refl)))
          ),
      rw (c.renew.ensures, c.deref_mut.ensures.value, written (set list c.args.i y) list c.args.list.now.len len) (length-set list c.args.i y),
    )

pub returns-in_default-clause-visited : goal.returns-in_default-clause-visited
returns-in_default-clause-visited c =
    let d = (goal.at.returns-in_default-clause-visited c).After-index-watch in
    let w = c.args.watches.now in
    let es = c.args.values.now.entries in
    let list = c.args.list.now.items in
    let x = c.index-watch.result.now in
    let removed : x ≡ c.swap_remove-watch.result = same_Some x c.swap_remove-watch.result (sym (at d) ∙ slice_get_read list c.args.list.now.len c.args.i c.swap_remove-watch.result (omega (arith, c.args.list.now.ok.0)) (omega (arith, c.requires.within)) c.swap_remove-watch.ensures.value) in
    let gone : IsVisitingAt c.args.clauses.now es w.queue.items w.head w.pairs.items (all_lists w.lists.items) (swap_remove list c.args.i x) c.args.i c.args.lit =
    visit_gone c.args.clauses.now es w.queue.items w.head w.pairs.items (all_lists w.lists.items) list c.args.i c.args.lit x (at d) c.requires.visiting
    (λ k lits here same _ l _. none_beside es w.pairs.items x.place k w.head c.args.lit lits _ same c.in_default.ensures) in (
      rw c.swap_remove-watch.ensures.items (subst (λ (y : Watch). IsVisitingAt c.args.clauses.now es w.queue.items w.head w.pairs.items (all_lists w.lists.items) (swap_remove list c.args.i y) c.args.i c.args.lit) removed gone),
      omega (arith, c.swap_remove-watch.ensures.len, c.swap_remove-watch.new.self.ok.0, c.args.list.now.ok.0),
    )

pub returns-in-Detached-clause-visited : goal.returns-in-Detached-clause-visited
returns-in-Detached-clause-visited c =
    let d = (goal.at.returns-in-Detached-clause-visited c).After-index-watch in
    let w = c.args.watches.now in
    let es = c.args.values.now.entries in
    let list = c.args.list.now.items in
    let x = c.index-watch.result.now in
    let out = c.swap_remove-watch-in-Detached in
    let removed : x ≡ out.result = same_Some x out.result (sym (at d) ∙ slice_get_read list c.args.list.now.len c.args.i out.result (omega (arith, c.args.list.now.ok.0)) (omega (arith, c.requires.within)) out.ensures.value) in
    let gone : IsVisitingAt c.args.clauses.now es w.queue.items w.head w.pairs.items (all_lists w.lists.items) (swap_remove list c.args.i x) c.args.i c.args.lit =
    visit_gone c.args.clauses.now es w.queue.items w.head w.pairs.items (all_lists w.lists.items) list c.args.i c.args.lit x (at d) c.requires.visiting
    (λ k lits here same _ l _ _ _. none-some lits (sym c.in-Detached.ensures ∙ ap (λ n. lits_in (slice_get c.args.clauses.now n)) same ∙ here)) in (
      rw out.ensures.items (subst (λ (y : Watch). IsVisitingAt c.args.clauses.now es w.queue.items w.head w.pairs.items (all_lists w.lists.items) (swap_remove list c.args.i y) c.args.i c.args.lit) removed gone),
      omega (arith, out.ensures.len, out.new.self.ok.0, c.args.list.now.ok.0),
    )

pub id_at-id-requires : goal.id_at-id-requires
id_at-id-requires c = place_within c.args.clauses.now c.index-watch.result.now.place c.in-Rest.ensures.lits c.in-Rest.ensures.at

-- the clause forces the other literal
forced : (c : After-id_at-id) → c.in-Rest.has ≡ true → value_of c.args.values.now.entries c.in-Some.other ≡ None → reading_on c.args.values.now.entries c.in-Rest.ensures.lits ≡ Forced c.in-Some.other
forced c has none =
    let rest = c.in-Rest.ensures.rest in
    forces c.args.values.now.entries c.in-Rest.ensures.lits c.in-Some.other (once_grown c.args.values.now.room (attached_in c.args.clauses.now) c.args.values.now.entries c.requires.may.grown) (rest.1 has) none rest.0

pub push-requires-clause-has_room : goal.push-requires-clause-has_room
push-requires-clause-has_room c =
    let yes = c.if-is_forced.ensures.yes refl in
    forced_has_room c.args.clauses.now c.args.values.now.room c.args.values.now.entries c.index-watch.result.now.place c.in-Rest.ensures.lits c.in-Some.other c.id_at-id.ensures.named c.requires.may.has_room c.in-Rest.ensures.at
    (forced (goal.at.push-requires-clause-has_room c).After-id_at-id yes.0 yes.1)

pushed : (c : After-push) → Scans c.args.clauses.now c.args.values.now record { room = c.args.values.now.room; entries = c.args.values.now.entries ++ record { lit = c.in-Some.other; level = last_level c.args.values.now.entries; reason = Some c.id_at-id.result } ∷ [] }
pushed c =
    let yes = c.if-is_forced.ensures.yes refl in
    let cs = c.args.clauses.now in
    let values = c.args.values.now in
    let follows = forced_follows cs values.room values.entries c.index-watch.result.now.place c.in-Rest.ensures.lits c.in-Some.other c.id_at-id.ensures.named c.requires.may.has_room c.in-Rest.ensures.at
    (forced (goal.at.returns-then-is_forced-clause-scans c).After-id_at-id yes.0 yes.1) c.id_at-id.result c.id_at-id.ensures.id c.push.ensures.literal in
    Scans-push cs values record { lit = c.in-Some.other; level = last_level values.entries; reason = Some c.id_at-id.result } c.requires.may.grown follows refl refl

pub returns-else-not-shift-clause-visited : goal.returns-else-not-shift-clause-visited
returns-else-not-shift-clause-visited c =
    let d = (goal.at.returns-else-not-shift-clause-visited c).After-index-watch in
    let w = c.args.watches.now in
    let es = c.args.values.now.entries in
    let list = c.args.list.now.items in
    let x = c.index-watch.result.now in
    let out = c.swap_remove-watch-in-Open in
    let shifted = c.if-not-shift.ensures.shifted refl in
    let removed : x ≡ out.result = same_Some x out.result (sym (at d) ∙ slice_get_read list c.args.list.now.len c.args.i out.result (omega (arith, c.args.list.now.ok.0)) (omega (arith, c.requires.within)) out.ensures.value) in
    let gone : IsVisitingAt c.args.clauses.now es w.queue.items w.head c.shift.new.self.pairs.items (all_lists c.shift.new.self.lists.items) (swap_remove list c.args.i x) c.args.i c.args.lit =
    visit_shifted c.args.clauses.now es w.queue.items w.head w.pairs.items (all_lists w.lists.items) list c.args.i c.args.lit x (at d) c.requires.visiting
    c.in-Some.other c.in-Open.next (all_lists c.shift.new.self.lists.items) c.shift.new.self.pairs.items c.in-Some.ensures c.in-Open.ensures.own c.in-Open.ensures.apart (not-false es c.in-Open.next (once d) c.in-Open.ensures.unset) shifted.listed shifted.pairs in (
      rw (c.shift.ensures.frames.queue, c.shift.ensures.frames.head, out.ensures.items) (subst (λ (y : Watch). IsVisitingAt c.args.clauses.now es w.queue.items w.head c.shift.new.self.pairs.items (all_lists c.shift.new.self.lists.items) (swap_remove list c.args.i y) c.args.i c.args.lit) removed gone),
      omega (arith, out.ensures.len, out.new.self.ok.0, c.args.list.now.ok.0),
    )

pub returns-then-is_forced-clause-scans : goal.returns-then-is_forced-clause-scans
returns-then-is_forced-clause-scans c = rw c.push.ensures.entries (pushed c)

pub returns-then-is_forced-clause-visited : goal.returns-then-is_forced-clause-visited
returns-then-is_forced-clause-visited c =
    let d = (goal.at.returns-then-is_forced-clause-visited c).After-index-watch in
    let w = c.args.watches.now in
    let cs = c.args.clauses.now in
    let es = c.args.values.now.entries in
    let e : Entry = record { lit = c.in-Some.other; level = last_level es; reason = Some c.id_at-id.result } in
    let x = c.index-watch.result.now in
    let yes = c.if-is_forced.ensures.yes refl in
    let scans = pushed c in
    let steps : IsStepped 0 (es ++ e ∷ []) = stepped_grown c.args.values.now.room (attached_in cs) (es ++ e ∷ []) scans.grown in
    rw c.push.ensures.entries (
      visit_kept cs (es ++ e ∷ []) w.queue.items w.head w.pairs.items (all_lists w.lists.items) c.args.list.now.items c.args.i c.args.lit x (at d)
          (visit_push cs es w.queue.items w.head w.pairs.items (all_lists w.lists.items) c.args.list.now.items c.args.i c.args.lit e refl c.requires.visiting)
          (λ k lits here same own watched.
          let lits_same : c.in-Rest.ensures.lits ≡ lits = same_Some c.in-Rest.ensures.lits lits (sym c.in-Rest.ensures.at ∙ ap (λ n. lits_in (slice_get cs n)) same ∙ here) in
          let ours : among lits c.in-Some.other ≡ true = ap (λ (ls : List Literal). among ls c.in-Some.other) (sym lits_same) ∙ c.in-Rest.ensures.rest.1 yes.0 in
          HasTrue-now (es ++ e ∷ []) lits c.in-Some.other steps ours (entry_true (es ++ e ∷ []) e (length es) (slice_get-last es e))),
      refl,
    )

pub returns-else-is_forced-clause-visited : goal.returns-else-is_forced-clause-visited
returns-else-is_forced-clause-visited c =
    let es = c.args.values.now.entries in
    let lits = c.in-Rest.ensures.lits in
    let rest = c.in-Rest.ensures.rest in (
      c.requires.visiting,
      says_at c.args.clauses.now c.index-watch.result.now.place c.id_at-id.result lits c.id_at-id.ensures.named c.in-Rest.ensures.at c.id_at-id.ensures.id es
          ∙ fails es lits (all_false es lits c.in-Some.other c.in-Rest.has rest.0 rest.2 (c.if-is_true.ensures.not refl) (c.if-is_forced.ensures.not refl)),
    )
