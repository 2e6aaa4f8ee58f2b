use Rattle.std.proofs.Common.{◌≡◌, max, sym, subst}
use Rattle.std.specs.Prelude.{Ok, Err, Result, OnOk, OnErr}
use Rattle.qv_watch.specs.Attaching.{attached_in}
use Rattle.qv_watch.specs.Table.{Entered}
use Rattle.qv_watch.specs.Keeping.{IsKept}
use Rattle.qv_watch.proofs.Minding.{kept_grows}
use Rattle.qv_watch.proofs.Keeping.{IsTrail-room}
use Rattle.qv_watch.proofs.trails.Trail.room.Goals as goal

-- whether there was memory or not
either : {T E : Type 0} (r : Result T E) (P : Entered → Type 0) (old more new : Entered) → OnOk r (new ≡ more) → OnErr r (new ≡ old) → P old → P more → P new
either (Ok x) P old more new ok err before after = subst P (sym ok) after
either (Err x) P old more new ok err before after = subst P (sym err) before

pub invariant_of-self : goal.invariant_of-self
invariant_of-self c =
    let a = c.self.inside in
    kept_grows a.clauses a.values a.watches c.room.new.self a.answer c.in_err-room.ensures c.self.invariant

pub invariant_of-self-2 : goal.invariant_of-self-2
invariant_of-self-2 c =
    let a = c.self.inside in
    let more : Entered = record { room = max a.values.room c.args.variables; entries = a.values.entries } in
    let before : IsKept a.clauses a.values c.room.new.self a.answer = kept_grows a.clauses a.values a.watches c.room.new.self a.answer c.in_ok-room.ensures c.self.invariant in
    let after : IsKept a.clauses more c.room.new.self a.answer = record {
      trail = IsTrail-room (attached_in a.clauses) a.values a.answer c.args.variables c.self.invariant.trail;
      watching = before.watching;
      quiet = before.quiet;
    } in
    either c.room-2.result (λ v. IsKept a.clauses v c.room.new.self a.answer) a.values more c.room-2.new.self c.room-2.ensures.ok c.room-2.ensures.err before after
