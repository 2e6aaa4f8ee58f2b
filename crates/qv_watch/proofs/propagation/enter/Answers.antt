use Rattle.std.proofs.Common.{◌≡◌, ◌-◌, ℕ, length, take, Some, List, refl, sym, ◌∙◌, ap, subst, arith, inl, inr}
use Rattle.std.specs.List.{slice_get}
use Rattle.std.proofs.lemmas.Option.{same_Some}
use Rattle.qv_cnf.specs.Literal.{Literal}
use Rattle.qv_watch.specs.Attaching.{attached_in, lits_in}
use Rattle.qv_watch.specs.Entries.{Entry, last_level, reading_on, says, up_to}
use Rattle.qv_watch.specs.Choosing.{IsChosen}
use Rattle.qv_watch.specs.declared.choosing.Choice.TheVariants.{Watching}
use Rattle.qv_watch.specs.declared.watches.Watches.{Watches}
use Rattle.qv_watch.specs.Watching.{lists_in as all_lists, HasTrue, IsWatchingAt}
use Rattle.qv_watch.proofs.Growing.{once_grown}
use Rattle.qv_watch.proofs.Keeping.{stepped_grown}
use Rattle.qv_watch.proofs.Looking.{place_within, forced_has_room, forced_is_fresh, forced_follows, says_at}
use Rattle.qv_watch.proofs.Walking.{others_stay, own_comes, watching_pop, watching_push, Scans-push}
use Rattle.qv_watch.proofs.propagation.enter.Goals as goal
use Rattle.qv_watch.proofs.propagation.enter.Goals.{After-push, in-Settled, in-Watching+else-not-watch}

pub look_at-requires : goal.look_at-requires
look_at-requires c = once_grown c.args.values.now.room (attached_in c.args.clauses.now) c.args.values.now.entries c.requires.may.grown

pub id_at-id-requires : goal.id_at-id-requires
id_at-id-requires c = place_within c.args.clauses.now c.args.place c.in-Some.lits.now (sym c.in-Some.ensures)

pub choose-requires : goal.choose-requires
choose-requires c =
    let cs = c.args.clauses.now in
    let es = c.args.values.now.entries in
    let lits = c.in-Some.lits.now in
    let reads : (older : List Entry) → says (attached_in cs) older c.id_at-id.result ≡ reading_on older lits = λ older. says_at cs c.args.place c.id_at-id.result lits c.id_at-id.ensures.named (sym c.in-Some.ensures) c.id_at-id.ensures.id older in
    record {
      once = once_grown c.args.values.now.room (attached_in cs) es c.requires.may.grown;
      stepped = stepped_grown c.args.values.now.room (attached_in cs) es c.requires.may.grown;
      now = sym c.in-Useless.ensures;
      below = λ k low. sym (reads (up_to k es)) ∙ c.requires.settled k low c.id_at-id.result;
    }

pub push-requires-clause-has_room : goal.push-requires-clause-has_room
push-requires-clause-has_room c =
    forced_has_room c.args.clauses.now c.args.values.now.room c.args.values.now.entries c.args.place c.in-Some.lits.now c.in-Forced.lit c.id_at-id.ensures.named c.requires.may.has_room (sym c.in-Some.ensures) (sym c.in-Forced.ensures)

pub push-requires-clause-fresh : goal.push-requires-clause-fresh
push-requires-clause-fresh c =
    forced_is_fresh c.args.clauses.now c.args.values.now.room c.args.values.now.entries c.args.place c.in-Some.lits.now c.in-Forced.lit c.id_at-id.ensures.named c.requires.may.has_room (sym c.in-Some.ensures) (sym c.in-Forced.ensures)

pub returns-in-Forced-clause-scans : goal.returns-in-Forced-clause-scans
returns-in-Forced-clause-scans c =
    let values = c.args.values.now in
    let cs = c.args.clauses.now in
    let follows = forced_follows cs values.room values.entries c.args.place c.in-Some.lits.now c.in-Forced.lit c.id_at-id.ensures.named c.requires.may.has_room (sym c.in-Some.ensures) (sym c.in-Forced.ensures) c.id_at-id.result c.id_at-id.ensures.id c.push.ensures.literal in
    rw c.push.ensures.entries (Scans-push cs values record { lit = c.in-Forced.lit; level = last_level values.entries; reason = Some c.id_at-id.result } c.requires.may.grown follows refl refl)

pub returns-in-Forced-clause-watching : goal.returns-in-Forced-clause-watching
returns-in-Forced-clause-watching c =
    let w = c.args.watches.now in
    let es = c.args.values.now.entries in
    rw c.push.ensures.entries (watching_push c.args.clauses.now es w.queue.items w.head w.pairs.items (all_lists w.lists.items) record { lit = c.in-Forced.lit; level = last_level es; reason = Some c.id_at-id.result } (inl refl) c.requires.watching)

pub returns-clause-watching : goal.returns-clause-watching
returns-clause-watching c =
    let cs = c.args.clauses.now in
    let w = c.args.watches.now in
    let es = c.args.values.now.entries in
    let place = c.args.place in
    let lits = c.in-Some.lits.now in
    let here : lits_in (slice_get cs place) ≡ Some lits = sym c.in-Some.ensures in
    let q = c.match-choose.watches.queue in
    let popped : q.items ≡ w.queue.items → c.pop-place-2.new.self.items ≡ take (length w.queue.items - 1) w.queue.items = λ same.
    let n : q.len ≡ length q.items = omega (arith, q.ok.0) in
    c.pop-place-2.ensures.rest ∙ ap (λ n. take (n - 1) q.items) n ∙ ap (λ (xs : List ℕ). take (length xs - 1) xs) same in
    let same_lits : (ls : List Literal) → lits_in (slice_get cs place) ≡ Some ls → lits ≡ ls = λ ls h. same_Some lits ls (sym here ∙ h) in
    elim c.match-choose.branch [
      | in-Settled b ↦
          let m : c.match-choose.watches ≡ w = b.watches-is in
          let done = watching_pop cs es w.queue.items c.pop-place-2.new.self.items w.head place w.pairs.items w.pairs.items (all_lists w.lists.items) (all_lists w.lists.items) (popped (ap (λ (v : Watches). v.queue.items) m)) c.requires.last c.requires.watching (λ k ls far watched. watched) (λ ls h. inl (subst (HasTrue 0 es) (same_lits ls h) b.in-Settled.ensures)) in
          subst (λ (v : Watches). IsWatchingAt cs es c.pop-place-2.new.self.items v.head v.pairs.items (all_lists v.lists.items)) (sym m) done
      | in-Watching+else-not-watch b ↦
          let m : c.match-choose.watches ≡ b.watch.new.self = b.watches-is in
          let new = b.watch.new.self in
          let now = b.if-not-watch.ensures refl in
          let pair = b.in-Watching.pair in
          let done = watching_pop cs es w.queue.items c.pop-place-2.new.self.items w.head place w.pairs.items new.pairs.items (all_lists w.lists.items) (all_lists new.lists.items) (popped (ap (λ (v : Watches). v.queue.items) m ∙ now.frames.queue)) c.requires.last c.requires.watching
          (λ k ls far watched. others_stay es w.head place w.pairs.items new.pairs.items pair (all_lists w.lists.items) now.middle (all_lists new.lists.items) now.first now.second now.pairs k ls far watched)
          (λ ls h. inr (own_comes es w.head place w.pairs.items new.pairs.items pair (all_lists w.lists.items) now.middle (all_lists new.lists.items) now.first now.second now.pairs ls now.within (subst (λ (xs : List Literal). IsChosen es xs (Watching pair)) (same_lits ls h) b.in-Watching.ensures))) in
          subst (λ (v : Watches). IsWatchingAt cs es c.pop-place-2.new.self.items v.head v.pairs.items (all_lists v.lists.items)) (sym m) (rw now.frames.head done)
    ]
