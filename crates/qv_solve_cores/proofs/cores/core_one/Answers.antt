use Rattle.std.proofs.Common.{List, ◌++◌, ℕ, map, sym, subst}
use Rattle.qv_words.specs.Tree.{Tree}
use Rattle.qv_store.specs.Nodes.{tree_at}
use Rattle.qv_meter.specs.Views.{limits_of}
use Rattle.qv_solve_cores.specs.Cores.{IsCore, IsSectionLeft}
use Rattle.qv_solve_cores.specs.Trying.{HasTriedAll, Stands}
use Rattle.qv_solve_cores.proofs.Searches.{all-some, core-of, core-started, left-some, section-of, some-none, some-then}
use Rattle.qv_solve_cores.proofs.Steps.{formulas-grow, grows-more, grows-self, may-grow, may-search, on-error}
use Rattle.qv_solve_cores.proofs.cores.core_one.Goals as goal

pub returns-in_err-search-clause-memory : goal.returns-in_err-search-clause-memory
returns-in_err-search-clause-memory c = on-error c.from_residual.result (some-none (limits_of c.args.limits) c.args.meter.now)

pub try_each-requires-clause-may : goal.try_each-requires-clause-may
try_each-requires-clause-may c =
    may-grow c.args.store.now c.leave_out.new.store c.args.assertions.now c.args.named.now c.leave_out.ensures.grows
    (may-search c.args.store.now c.args.assertions.now c.args.named.now c.requires.ids c.requires.assertions c.requires.sorts c.requires.within c.requires.unsat c.requires.rises c.requires.below)

pub try_each-requires-clause-stands : goal.try_each-requires-clause-stands
try_each-requires-clause-stands c =
    subst (λ (ts : List Tree). Stands ts c.args.named.now c.leave_out.new.course.search c.leave_out.new.course.section)
    (sym (formulas-grow c.args.store.now c.leave_out.new.store c.args.assertions.now c.leave_out.ensures.grows c.requires.ids)) c.in_ok-leave_out.ensures.left_out.stands

pub returns-in_err-try_each-clause-memory : goal.returns-in_err-try_each-clause-memory
returns-in_err-try_each-clause-memory c =
    let limits = limits_of c.args.limits in
    let fs = map (tree_at c.args.store.now) c.args.assertions.now in
    let named = c.args.named.now in
    let left = c.in_ok-leave_out.ensures.left_out in
    on-error c.from_residual-in_err-try_each.result
    (some-then limits c.args.meter.now c.leave_out.new.meter c.try_each.new.meter (left-some limits fs named c.args.meter.now c.leave_out.new.meter c.leave_out.new.course left) c.in_err-try_each.ensures.memory)

pub returns-in_err-kept-clause-memory : goal.returns-in_err-kept-clause-memory
returns-in_err-kept-clause-memory c =
    let limits = limits_of c.args.limits in
    let fs = map (tree_at c.args.store.now) c.args.assertions.now in
    let named = c.args.named.now in
    let left = c.in_ok-leave_out.ensures.left_out in
    let same = formulas-grow c.args.store.now c.leave_out.new.store c.args.assertions.now c.leave_out.ensures.grows c.requires.ids in
    let all = subst (λ (ts : List Tree). HasTriedAll limits ts named c.leave_out.new.meter c.try_each.new.meter c.leave_out.new.course c.try_each.new.course) same c.in_ok-try_each.ensures.tried in
    on-error c.from_residual-in_err-kept.result (all-some limits fs named c.requires.rises c.args.meter.now c.leave_out.new.meter c.try_each.new.meter c.leave_out.new.course c.try_each.new.course left all)

pub returns-clause-core : goal.returns-clause-core
returns-clause-core c =
    let limits = limits_of c.args.limits in
    let fs = map (tree_at c.args.store.now) c.args.assertions.now in
    let named = c.args.named.now in
    let left = c.in_ok-leave_out.ensures.left_out in
    let same = formulas-grow c.args.store.now c.leave_out.new.store c.args.assertions.now c.leave_out.ensures.grows c.requires.ids in
    let all = subst (λ (ts : List Tree). HasTriedAll limits ts named c.leave_out.new.meter c.try_each.new.meter c.leave_out.new.course c.try_each.new.course) same c.in_ok-try_each.ensures.tried in
    let records = left.records ++ all.far.records in (
      records,
      subst (λ (ks : List ℕ). IsCore limits fs named ks records) (sym c.in_ok-kept.ensures) (core-of limits fs named c.requires.rises c.args.meter.now c.leave_out.new.meter c.try_each.new.meter c.leave_out.new.course c.try_each.new.course left all),
      core-started limits fs named c.requires.rises c.args.meter.now c.leave_out.new.meter c.try_each.new.meter c.leave_out.new.course c.try_each.new.course left all,
    )

pub returns-clause-section : goal.returns-clause-section
returns-clause-section c =
    let limits = limits_of c.args.limits in
    let fs = map (tree_at c.args.store.now) c.args.assertions.now in
    let named = c.args.named.now in
    let left = c.in_ok-leave_out.ensures.left_out in
    let same = formulas-grow c.args.store.now c.leave_out.new.store c.args.assertions.now c.leave_out.ensures.grows c.requires.ids in
    let all = subst (λ (ts : List Tree). HasTriedAll limits ts named c.leave_out.new.meter c.try_each.new.meter c.leave_out.new.course c.try_each.new.course) same c.in_ok-try_each.ensures.tried in
    subst (λ (ks : List ℕ). IsSectionLeft fs named ks c.try_each.new.course.section) (sym c.in_ok-kept.ensures) (section-of limits fs named c.requires.rises c.args.meter.now c.leave_out.new.meter c.try_each.new.meter c.leave_out.new.course c.try_each.new.course left all)

pub leave_out-requires-clause-may : goal.leave_out-requires-clause-may
leave_out-requires-clause-may c = may-search c.args.store.now c.args.assertions.now c.args.named.now c.requires.ids c.requires.assertions c.requires.sorts c.requires.within c.requires.unsat c.requires.rises c.requires.below

pub returns-in_err-leave_out-clause-memory : goal.returns-in_err-leave_out-clause-memory
returns-in_err-leave_out-clause-memory c = on-error c.from_residual-in_err-leave_out.result c.in_err-leave_out.ensures.memory

pub returns-in_err-search-clause-grows : goal.returns-in_err-search-clause-grows
returns-in_err-search-clause-grows c = grows-self c.args.store.now

pub returns-in_err-leave_out-clause-grows : goal.returns-in_err-leave_out-clause-grows
returns-in_err-leave_out-clause-grows c = c.leave_out.ensures.grows

pub returns-in_err-try_each-clause-grows : goal.returns-in_err-try_each-clause-grows
returns-in_err-try_each-clause-grows c = grows-more c.args.store.now c.leave_out.new.store c.try_each.new.store c.leave_out.ensures.grows c.try_each.ensures.grows

pub returns-in_err-kept-clause-grows : goal.returns-in_err-kept-clause-grows
returns-in_err-kept-clause-grows c = grows-more c.args.store.now c.leave_out.new.store c.try_each.new.store c.leave_out.ensures.grows c.try_each.ensures.grows

pub returns-clause-grows : goal.returns-clause-grows
returns-clause-grows c = grows-more c.args.store.now c.leave_out.new.store c.try_each.new.store c.leave_out.ensures.grows c.try_each.ensures.grows
