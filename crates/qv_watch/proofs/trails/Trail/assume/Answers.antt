use Rattle.std.proofs.Common.{◌≡◌, ◌≤◌, ◌+◌, inr, Some, None, sym, subst, ◌∙◌, ap}
use Rattle.qv_watch.specs.Attaching.{attached_in}
use Rattle.std.proofs.lemmas.Option.{none-some}
use Rattle.qv_watch.specs.Entries.{Entry, last_level, value_of}
use Rattle.qv_watch.specs.Watching.{lists_in as all_lists}
use Rattle.qv_watch.proofs.Walking.{watching_push}
use Rattle.qv_watch.specs.TrailState.{IsTrail}
use Rattle.qv_watch.specs.Viewed.{state_of}
use Rattle.qv_watch.specs.declared.propagation.Propagated.TheVariants.{Quiet}
use Rattle.qv_watch.proofs.Keeping.{IsTrail-assume}
use Rattle.qv_watch.proofs.trails.Trail.assume.Goals as goal

pub invariant_of-self : goal.invariant_of-self
invariant_of-self c =
    let a = c.self.inside in
    let lit = c.args.lit in
    let room : lit.variable ≤ a.values.room = subst (λ t. lit.variable ≤ t.room) (sym c.self.view_is) c.requires.has_room in
    let fresh : value_of a.values.entries lit ≡ None = subst (λ t. value_of t.entries lit ≡ None) (sym c.self.view_is) c.requires.fresh in
    let quiet : a.answer ≡ Some Quiet = ap (λ t. t.answer) c.self.view_is ∙ c.requires.quiet in
    let e : Entry = record { lit = lit; level = last_level a.values.entries + 1; reason = None } in
    rw c.push.ensures.entries record {
      trail = IsTrail-assume (attached_in a.clauses) a.values lit (subst (λ o. IsTrail (state_of (attached_in a.clauses) a.values o)) quiet c.self.invariant.trail) c.push.ensures.literal room fresh;
      watching = λ kept. watching_push a.clauses a.values.entries a.watches.queue.items a.watches.head a.watches.pairs.items (all_lists a.watches.lists.items) e (inr (c.self.invariant.quiet quiet kept)) (c.self.invariant.watching kept);
      quiet = λ none. absurd (none-some Quiet none);
    }
