use Rattle.std.proofs.Common.{◌≡◌, List, Some, map, sym, subst}
use Rattle.qv_words.specs.Tree.{Tree}
use Rattle.qv_store.specs.Nodes.{tree_at}
use Rattle.qv_core.specs.Searching.{trial_of}
use Rattle.qv_meter.specs.Views.{limits_of}
use Rattle.qv_solve_cores.specs.Trying.{HasTried, Stands}
use Rattle.qv_solve_cores.proofs.Searches.{far-begins, far-more, far-some, fewer-left, some-then}
use Rattle.qv_solve_cores.proofs.Steps.{formulas-grow, grows-more, grows-self, may-grow, on-error}
use Rattle.qv_solve_cores.proofs.cores.try_each.Goals as goal

pub trials-init : goal.trials-init
trials-init c = record {
  grows = grows-self c.args.store.now;
  far = far-begins (limits_of c.args.limits) (map (tree_at c.args.store.now) c.args.assertions.now) c.args.named.now c.args.meter.now c.args.course.now c.requires.begun c.requires.stands;
}

pub try_one-requires-clause-may : goal.try_one-requires-clause-may
try_one-requires-clause-may c = may-grow c.args.store.now c.trials.store c.args.assertions.now c.args.named.now c.trials.invariant.grows c.requires.may

pub try_one-requires-clause-stands : goal.try_one-requires-clause-stands
try_one-requires-clause-stands c =
    subst (λ (fs : List Tree). Stands fs c.args.named.now c.trials.course.search c.trials.course.section)
    (sym (formulas-grow c.args.store.now c.trials.store c.args.assertions.now c.trials.invariant.grows c.requires.may.ids)) c.trials.invariant.far.stands

pub trials-smaller : goal.trials-smaller
trials-smaller c =
    let is : trial_of c.trials.course.search ≡ Some c.in-Some.item = cc in
    fewer-left (limits_of c.args.limits) (map (tree_at c.trials.store) c.args.assertions.now) c.args.named.now c.trials.meter c.try_one.new.meter c.trials.course c.try_one.new.course c.in-Some.item
    c.trials.invariant.far.stands.each is c.in_ok-try_one.ensures.tried

pub trials-preserved : goal.trials-preserved
trials-preserved c =
    let limits = limits_of c.args.limits in
    let fs = map (tree_at c.args.store.now) c.args.assertions.now in
    let named = c.args.named.now in
    let is : trial_of c.trials.course.search ≡ Some c.in-Some.item = cc in
    let same = formulas-grow c.args.store.now c.trials.store c.args.assertions.now c.trials.invariant.grows c.requires.may.ids in
    let tried = subst (λ (ts : List Tree). HasTried limits ts named c.in-Some.item c.trials.meter c.try_one.new.meter c.trials.course c.try_one.new.course) same c.in_ok-try_one.ensures.tried in
    record {
      grows = grows-more c.args.store.now c.trials.store c.try_one.new.store c.trials.invariant.grows c.try_one.ensures.grows;
      far = far-more limits fs named c.requires.may.rises c.args.meter.now c.trials.meter c.try_one.new.meter c.args.course.now c.trials.course c.try_one.new.course c.in-Some.item c.trials.invariant.far is tried;
    }

pub returns-in_err-try_one-clause-memory : goal.returns-in_err-try_one-clause-memory
returns-in_err-try_one-clause-memory c =
    let limits = limits_of c.args.limits in
    let fs = map (tree_at c.args.store.now) c.args.assertions.now in
    on-error c.from_residual.result
    (some-then limits c.args.meter.now c.trials.meter c.try_one.new.meter (far-some limits fs c.args.named.now c.args.meter.now c.trials.meter c.args.course.now c.trials.course c.trials.invariant.far) c.in_err-try_one.ensures.memory)
