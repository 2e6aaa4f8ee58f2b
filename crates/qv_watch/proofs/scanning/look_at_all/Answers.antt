use Rattle.std.proofs.Common.{◌≡◌, sym, ◌∙◌, ap, arith}
use Rattle.std.proofs.lemmas.Option.{none-some, same_Some}
use Rattle.qv_cnf.specs.declared.readings.Reading.TheVariants.{Useless}
use Rattle.qv_watch.specs.Attaching.{attached_in}
use Rattle.qv_watch.specs.Entries.{reading_on}
use Rattle.qv_watch.specs.TrailState.{AllHaveRoom}
use Rattle.qv_watch.proofs.Growing.{once_grown, settled_by_places}
use Rattle.qv_watch.proofs.Looking.{Looked-rest, Looked-derive, place_within, forced_has_room, forced_is_fresh, forced_follows}
use Rattle.qv_watch.proofs.scanning.look_at_all.Goals as goal
use Rattle.qv_watch.proofs.scanning.look_at_all.Goals.{in-Some+in-Useless, in-Some+in-Forced, in_default}

pub look_at-requires : goal.look_at-requires
look_at-requires c = once_grown c.loop-place.values.room (attached_in c.args.clauses.now) c.loop-place.values.entries c.loop-place.invariant.looked.grown

pub push-requires-clause-has_room : goal.push-requires-clause-has_room
push-requires-clause-has_room c =
    let rooms : AllHaveRoom c.loop-place.values.room (attached_in c.args.clauses.now) = rw (sym c.loop-place.invariant.room) at c.requires.has_room in
    forced_has_room c.args.clauses.now c.loop-place.values.room c.loop-place.values.entries c.loop-place.place c.in-Some.lits.now c.in-Forced.lit c.id_at.ensures.named rooms (sym c.in-Some.ensures) (sym c.in-Forced.ensures)

pub push-requires-clause-fresh : goal.push-requires-clause-fresh
push-requires-clause-fresh c =
    let rooms : AllHaveRoom c.loop-place.values.room (attached_in c.args.clauses.now) = rw (sym c.loop-place.invariant.room) at c.requires.has_room in
    forced_is_fresh c.args.clauses.now c.loop-place.values.room c.loop-place.values.entries c.loop-place.place c.in-Some.lits.now c.in-Forced.lit c.id_at.ensures.named rooms (sym c.in-Some.ensures) (sym c.in-Forced.ensures)

pub returns-then-quiet-clause-answer : goal.returns-then-quiet-clause-answer
returns-then-quiet-clause-answer c =
    settled_by_places c.args.clauses.now c.loop-place.values.entries (λ k lits here. c.loop-place.invariant.looked.at_rest c.if-quiet.true k lits (let within = place_within c.args.clauses.now k lits here in omega arith) here)

pub loop-place-preserved : goal.loop-place-preserved
loop-place-preserved c =
    let clauses = c.args.clauses.now in
    let old = c.args.values.now.entries in
    let now = c.loop-place.values in
    let i = c.loop-place.place in
    let looked = c.loop-place.invariant.looked in
    elim c.match-get_at.branch [
      | in-Some+in-Useless w ↦
          let rests : reading_on now.entries w.in-Some.lits.now ≡ Useless = sym w.in-Useless.ensures in
          rw (w.values-is, w.quiet-is) record {
            room = c.loop-place.invariant.room;
            looked = Looked-rest clauses now.room old now.entries c.loop-place.quiet i looked (λ lits is. ap (reading_on now.entries) (same_Some lits w.in-Some.lits.now (sym is ∙ sym w.in-Some.ensures)) ∙ rests);
          }
      | in-Some+in-Forced w ↦
          let rooms : AllHaveRoom now.room (attached_in clauses) = rw (sym c.loop-place.invariant.room) at c.requires.has_room in
          let follows = forced_follows clauses now.room now.entries i w.in-Some.lits.now w.in-Forced.lit w.id_at.ensures.named rooms (sym w.in-Some.ensures) (sym w.in-Forced.ensures) w.id_at.result w.id_at.ensures.id w.push.ensures.literal in
          rw (w.values-is, w.quiet-is, w.push.ensures.entries) record {
            room = c.loop-place.invariant.room;
            looked = Looked-derive clauses now.room old now.entries c.loop-place.quiet i w.in-Forced.lit w.id_at.result looked follows (rw w.push.ensures.entries at w.push.ensures.within);
          }
      | in_default w ↦
          rw (w.values-is, w.quiet-is) record {
            room = c.loop-place.invariant.room;
            looked = Looked-rest clauses now.room old now.entries c.loop-place.quiet i looked (λ lits is. absurd (none-some lits (w.in_default.ensures ∙ is)));
          }
    ]
