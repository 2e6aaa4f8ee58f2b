use Rattle.std.proofs.Common.{◌≢◌, Some, All, refl, sym, subst}
use Rattle.qv_watch.specs.Attaching.{attached_in}
use Rattle.qv_watch.proofs.Minding.{kept_released, quiet_before, watching_let_go}
use Rattle.qv_watch.proofs.Finding.{attached_in-let_go}
use Rattle.qv_watch.proofs.Keeping.{IsTrail-detach}
use Rattle.qv_watch.proofs.trails.Trail.detach.Goals as goal

pub invariant_of-self : goal.invariant_of-self
invariant_of-self c =
    let a = c.self.inside in
    let kept = kept_released a.clauses a.values a.watches c.release.new.watches a.answer c.release.ensures c.self.invariant in
    let unused : All (λ e. e.reason ≢ Some c.args.id) a.values.entries = subst (λ t. All (λ e. e.reason ≢ Some c.args.id) t.entries) (sym c.self.view_is) c.requires.no_reason in
    rw (c.detach.ensures, c.quiet_only-self-inside.ensures) record {
      trail = rw (attached_in-let_go c.args.id a.clauses) (IsTrail-detach (attached_in a.clauses) a.values a.answer c.args.id c.self.invariant.trail unused);
      watching = λ found. watching_let_go a.clauses a.values.entries c.args.id c.release.new.watches (kept.watching found);
      quiet = λ still. kept.quiet (quiet_before a.answer still);
    }

pub returns : goal.returns
returns c = rw (c.detach.ensures, attached_in-let_go c.args.id c.self.inside.clauses, c.quiet_only-self-inside.ensures, ← c.self.view_is) refl
