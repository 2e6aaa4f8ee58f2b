use Rattle.std.proofs.Common.{◌≡◌, ◌≤◌, length, take, sym, subst, ◌∙◌, ap}
use Rattle.qv_watch.specs.Attaching.{attached_in}
use Rattle.qv_watch.specs.Entries.{last_level, up_to}
use Rattle.std.proofs.Common.{min}
use Rattle.std.proofs.lemmas.Option.{none-some}
use Rattle.qv_watch.specs.Table.{IsStepped}
use Rattle.qv_watch.specs.Watching.{lists_in as all_lists}
use Rattle.qv_watch.specs.declared.propagation.Propagated.TheVariants.{Quiet}
use Rattle.qv_watch.proofs.Minding.{length-trues, watching_cut}
use Rattle.qv_watch.proofs.Keeping.{stepped_grown, IsTrail-back}
use Rattle.qv_watch.proofs.trails.Trail.back_to.Goals as goal

pub invariant_of-self : goal.invariant_of-self
invariant_of-self c =
    let a = c.self.inside in
    let es = a.values.entries in
    let is : c.cut.new.self.entries ≡ up_to c.args.level es = ap (λ v. v.entries) c.cut.ensures.entries in
    let within : c.args.level ≤ last_level es = subst (λ t. c.args.level ≤ t.level) (sym c.self.view_is) c.requires in
    let level : last_level (up_to c.args.level es) ≡ c.args.level = ap last_level (sym is) ∙ c.cut.ensures.level in
    let front : up_to c.args.level es ≡ take (length c.cut.new.self.entries) es = sym is ∙ c.cut.ensures.front in
    let w = a.watches in
    let head : c.min-self-inside.result ≡ min w.head (length (up_to c.args.level es)) = c.min-self-inside.ensures ∙ ap (min w.head) (ap length c.order.ensures ∙ length-trues c.cut.new.self.entries ∙ ap length is) in
    let stepped : IsStepped 0 es = stepped_grown a.values.room (attached_in a.clauses) es c.self.invariant.trail.grown in
    rw (c.cut.ensures.entries, head) record {
      trail = IsTrail-back (attached_in a.clauses) a.values a.answer c.args.level (length c.cut.new.self.entries) c.self.invariant.trail within level front;
      watching = λ kept. watching_cut a.clauses es w.queue.items w.head w.pairs.items (all_lists w.lists.items) c.args.level (length c.cut.new.self.entries) stepped front (c.self.invariant.watching kept);
      quiet = λ none. absurd (none-some Quiet none);
    }
