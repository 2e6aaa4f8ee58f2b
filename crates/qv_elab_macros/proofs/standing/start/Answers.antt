use Rattle.std.proofs.Common.{◌≡◌, ◌<◌, ◌++◌, length, drop, take, slice_get, sym, ap, ◌∙◌, arith}
use Rattle.qv_store.specs.Walks.{named}
use Rattle.qv_elab_macros.specs.PassDown.{peak, raised_at}
use Rattle.qv_store.proofs.Passes.{contains-earlier}
use Rattle.qv_elab_macros.proofs.Peaks.{written, started, length-raised, earlier-place}
use Rattle.qv_elab_macros.proofs.standing.start.Goals as goal

pub checks-preserved : goal.checks-preserved
checks-preserved c =
    let behind : c.visit.new.self ≡ c.checks.walk ++ c.visit.ensures.behind.more = c.visit.ensures.behind.behind in
    let is : c.raise.new.below ≡ raised_at c.fill.new.depths.items c.position.result c.check-item.result.depth = c.raise.ensures ∙ ap (λ ds. raised_at ds c.position.result c.check-item.result.depth) c.deref_mut.ensures.value in
    let many : length c.fill.new.depths.items ≡ length c.visit.new.self = c.in_ok-fill.ensures.len ∙ c.len.ensures in
    let long : length c.raise.new.below ≡ length c.fill.new.depths.items = ap length is ∙ length-raised c.fill.new.depths.items c.position.result c.check-item.result.depth in
    let whole : take c.fill.new.depths.len (c.raise.new.below ++ drop (length c.raise.new.below) c.fill.new.depths.items) ≡ c.raise.new.below =
    written c.raise.new.below c.fill.new.depths.items c.fill.new.depths.len long (sym c.deref_mut.ensures.len ∙ ap length c.deref_mut.ensures.value) in
    let place : c.position.result < length c.visit.new.self =
    earlier-place c.visit.new.self (length c.visit.new.self) c.check-item.result.id c.position.result c.position.ensures.first (contains-earlier c.visit.new.self c.check-item.result.id c.in_ok-visit.ensures.has) in
    let within : c.position.result < length c.fill.new.depths.items = omega (arith, place, many) in
    record {
      walk = c.visit.ensures.walk;
      len = ap length whole ∙ long ∙ many;
      peaks = λ k.
          ap (peak k (named c.args.store.now c.visit.new.self)) whole ∙ ap (λ ids. peak k (named c.args.store.now ids) c.raise.new.below) behind
          ∙ started c.args.store.now k c.checks.walk c.visit.ensures.behind.more c.checks.below.items c.fill.new.depths.items c.raise.new.below c.args.checks.now c.checks.check-index c.position.result c.check-item.result
          c.checks.invariant.len (c.checks.invariant.peaks k) (c.fill.ensures.same k) is within
          (ap (λ ids. slice_get ids c.position.result) (sym behind) ∙ c.position.ensures.at) c.checks-test.true c.check-item.is;
    }
