use Rattle.std.proofs.Common.{◌≤◌, Some, All, refl, sym, subst}
use Rattle.std.proofs.lemmas.Option.{none-some}
use Rattle.qv_watch.specs.Attaching.{Stored, attached_in}
use Rattle.qv_watch.specs.declared.propagation.Propagated.TheVariants.{Quiet}
use Rattle.qv_watch.proofs.Minding.{kept_grows, watching_put}
use Rattle.qv_watch.specs.TrailState.{IsAtRestBelow}
use Rattle.qv_watch.specs.Viewed.{state_of}
use Rattle.qv_watch.proofs.Finding.{attached_in-push}
use Rattle.qv_watch.proofs.Keeping.{IsTrail-attach}
use Rattle.qv_watch.proofs.trails.Trail.attach.Goals as goal

pub invariant_of-self : goal.invariant_of-self
invariant_of-self c =
    let a = c.self.inside in
    kept_grows a.clauses a.values a.watches c.reserve.new.self a.answer c.in_err-reserve.ensures.grows c.self.invariant

pub invariant_of-self-in_err-attach : goal.invariant_of-self-in_err-attach
invariant_of-self-in_err-attach c =
    let a = c.self.inside in
    rw c.in_err-attach.ensures.err (kept_grows a.clauses a.values a.watches c.reserve.new.self a.answer c.in_ok-reserve.ensures.grows c.self.invariant)

pub invariant_of-self-2 : goal.invariant_of-self-2
invariant_of-self-2 c =
    let a = c.self.inside in
    let lits = c.args.lits.now in
    let s : Stored = record { id = c.args.id; lits = Some lits } in
    let rooms : All (λ l. l.variable ≤ a.values.room) lits = subst (λ t. All (λ l. l.variable ≤ t.room) lits) (sym c.self.view_is) c.requires.has_room in
    let rests : IsAtRestBelow (state_of (attached_in a.clauses) a.values a.answer) lits = subst (λ t. IsAtRestBelow t lits) (sym c.self.view_is) c.requires.at_rest_below in
    let reserved = kept_grows a.clauses a.values a.watches c.reserve.new.self a.answer c.in_ok-reserve.ensures.grows c.self.invariant in
    rw c.in_ok-attach.ensures.ok record {
      trail = rw (attached_in-push a.clauses c.args.id lits) (IsTrail-attach (attached_in a.clauses) a.values a.answer c.args.id lits c.self.invariant.trail rooms rests);
      watching = watching_put a.clauses a.values.entries c.reserve.new.self c.put.new.self c.len-place.result s c.len-place.ensures c.put.ensures reserved.watching;
      quiet = λ none. absurd (none-some Quiet none);
    }

pub returns-clause-ok : goal.returns-clause-ok
returns-clause-ok c = rw (c.in_ok-attach.ensures.ok, attached_in-push c.self.inside.clauses c.args.id c.args.lits.now, ← c.self.view_is) refl
