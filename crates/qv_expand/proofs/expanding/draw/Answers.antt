use Rattle.std.proofs.Common.{◌≡◌, ℕ, List, [], ◌∷◌, ◌++◌, map, reverse, length, sym, ap, ◌∙◌, subst, arith}
use Rattle.std.proofs.lemmas.List.{append-nil, length-map}
use Rattle.std.proofs.lemmas.Option.{slice_get_within}
use Rattle.qv_store.specs.Problems.{problem_in}
use Rattle.qv_store.proofs.Replacement.{grows-more}
use Rattle.qv_store.proofs.Visiting.{popped-none}
use Rattle.qv_entries.specs.Rows.{entries_in, entry_in, row_of}
use Rattle.qv_expand.specs.declared.tasks.Task.{Task}
use Rattle.qv_expand.specs.Tasks.{task_below}
use Rattle.qv_expand.proofs.NextLine.{counted-on, none-counted}
use Rattle.qv_expand.proofs.Tour.{back-expanding, expanding-first, may-draw, more-lines, tour-first, tour-last, tour-next, IsOnTour}
use Rattle.qv_expand.proofs.expanding.draw.Goals as goal

pub tasks-init : goal.tasks-init
tasks-init c =
    let p = problem_in c.args.store.now c.args.problem.now in
    let es = entries_in c.args.store.now c.args.entries.now in
    let start : Task = record { entry = c.args.first; parent = 0; depth = 0 } in
    let one : c.push.new.self.items ≡ start ∷ [] = c.in_ok-push.ensures.items ∙ ap (λ (ts : List Task). ts ++ start ∷ []) c.new-tasks.ensures.items in
    record {
      grows = record { more = []; behind = sym (append-nil c.args.store.now) };
      only = none-counted c.args.meter.now;
      expanding = expanding-first c.args.store.now c.args.problem.now c.args.entries.now c.args.meter.now c.args.growing.now c.args.first c.requires.posed c.requires.rows c.requires.played c.requires.record c.requires.lines c.requires.path c.requires.under c.requires.first;
      tour = subst (IsOnTour p es c.args.store.now c.args.growing.now) (sym one) (tour-first p es c.args.store.now c.args.growing.now c.args.first c.requires.lines c.requires.first);
    }

pub block-requires-clause-number : goal.block-requires-clause-number
block-requires-clause-number c =
    let i = c.tasks.invariant in
    let may = may-draw c.args.store.now c.tasks.store c.args.problem.now c.args.entries.now c.tasks.meter c.tasks.growing c.tasks.tasks.items c.pop.new.self.items c.in-Some.task i.grows c.requires.posed c.requires.rows c.requires.played i.expanding i.tour c.in-Some.ensures.items
    c.back_to.new.self c.back_to.ensures in
    let within = slice_get_within (entries_in c.tasks.store c.args.entries.now) c.in-Some.task.entry may.is.entry may.is.here in
    omega (arith, within, length-map c.args.entries.now (entry_in c.tasks.store))

pub block-requires-clause-expanding : goal.block-requires-clause-expanding
block-requires-clause-expanding c =
    let i = c.tasks.invariant in
    back-expanding c.args.store.now c.tasks.store c.args.problem.now c.args.entries.now c.tasks.meter c.tasks.growing c.tasks.tasks.items c.pop.new.self.items c.in-Some.task i.grows c.requires.posed c.requires.rows c.requires.played i.expanding i.tour c.in-Some.ensures.items
    c.back_to.new.self c.back_to.ensures

pub block-requires-clause-may : goal.block-requires-clause-may
block-requires-clause-may c =
    let i = c.tasks.invariant in
    may-draw c.args.store.now c.tasks.store c.args.problem.now c.args.entries.now c.tasks.meter c.tasks.growing c.tasks.tasks.items c.pop.new.self.items c.in-Some.task i.grows c.requires.posed c.requires.rows c.requires.played i.expanding i.tour c.in-Some.ensures.items
    c.back_to.new.self c.back_to.ensures

pub returns-in_err-block-clause-only : goal.returns-in_err-block-clause-only
returns-in_err-block-clause-only c = counted-on c.args.meter.now c.tasks.meter c.block.new.meter c.tasks.invariant.only c.block.ensures.only

pub entry-requires : goal.entry-requires
entry-requires c =
    let i = c.tasks.invariant in
    let may = may-draw c.args.store.now c.tasks.store c.args.problem.now c.args.entries.now c.tasks.meter c.tasks.growing c.tasks.tasks.items c.pop.new.self.items c.in-Some.task i.grows c.requires.posed c.requires.rows c.requires.played i.expanding i.tour c.in-Some.ensures.items
    c.back_to.new.self c.back_to.ensures in
    let within = slice_get_within (entries_in c.tasks.store c.args.entries.now) c.in-Some.task.entry may.is.entry may.is.here in
    omega (arith, within, length-map c.args.entries.now (entry_in c.tasks.store))

pub tasks-smaller : goal.tasks-smaller
tasks-smaller c =
    let i = c.tasks.invariant in
    let row = row_of c.entry.result.now in
    let new = c.block.new.store in
    let g2 = c.block.new.self in
    let more = more-lines c.args.store.now c.tasks.store c.args.problem.now c.args.entries.now c.tasks.meter c.tasks.growing c.tasks.tasks.items c.pop.new.self.items c.in-Some.task i.grows c.requires.posed c.requires.rows c.requires.played i.expanding i.tour c.in-Some.ensures.items
    c.back_to.new.self c.back_to.ensures
    new g2 row c.entry.ensures c.in_ok-block.ensures.drawn in
    omega (arith, more.0, more.1)

pub tasks-preserved : goal.tasks-preserved
tasks-preserved c =
    let i = c.tasks.invariant in
    let row = row_of c.entry.result.now in
    let new = c.block.new.store in
    let g2 = c.block.new.self in
    let p = problem_in c.args.store.now c.args.problem.now in
    let es = entries_in c.args.store.now c.args.entries.now in
    let tour = tour-next c.args.store.now c.tasks.store c.args.problem.now c.args.entries.now c.tasks.meter c.tasks.growing c.tasks.tasks.items c.pop.new.self.items c.in-Some.task i.grows c.requires.posed c.requires.rows c.requires.played i.expanding i.tour c.in-Some.ensures.items
    c.back_to.new.self c.back_to.ensures
    new g2 row c.entry.ensures c.in_ok-block.ensures.drawn in
    let depth : c.len.result ≡ length g2.path.items = omega (arith, c.len.ensures, g2.path.ok) in
    let tasks : c.push_links.new.tasks.items ≡ c.pop.new.self.items ++ reverse (map (task_below g2.parent (length g2.path.items)) row.links) =
    c.in_ok-push_links.ensures ∙ ap (λ (k : ℕ). c.pop.new.self.items ++ reverse (map (task_below g2.parent k) c.deref.result.now)) depth
    ∙ ap (λ (ks : List ℕ). c.pop.new.self.items ++ reverse (map (task_below g2.parent (length g2.path.items)) ks)) c.deref.ensures.value in
    record {
      grows = grows-more c.args.store.now c.tasks.store new i.grows c.block.ensures.grows;
      only = counted-on c.args.meter.now c.tasks.meter c.block.new.meter i.only c.block.ensures.only;
      expanding = c.in_ok-block.ensures.expanding;
      tour = subst (IsOnTour p es new g2) (sym tasks) tour;
    }

pub returns-in_err-push_links-clause-only : goal.returns-in_err-push_links-clause-only
returns-in_err-push_links-clause-only c = counted-on c.args.meter.now c.tasks.meter c.block.new.meter c.tasks.invariant.only c.block.ensures.only

pub returns-clause-lines : goal.returns-clause-lines
returns-clause-lines c =
    let p = problem_in c.args.store.now c.args.problem.now in
    let es = entries_in c.args.store.now c.args.entries.now in
    tour-last p es c.tasks.store c.tasks.growing c.tasks.tasks.items c.tasks.invariant.tour (popped-none c.tasks.tasks.items c.pop.result (λ some. c.pop.ensures.variant.1 (omega (arith, some, c.tasks.tasks.ok))) c.in_default.not-Some)

pub returns-in_err-block-clause-grows : goal.returns-in_err-block-clause-grows
returns-in_err-block-clause-grows c = grows-more c.args.store.now c.tasks.store c.block.new.store c.tasks.invariant.grows c.block.ensures.grows

pub returns-in_err-push_links-clause-grows : goal.returns-in_err-push_links-clause-grows
returns-in_err-push_links-clause-grows c = grows-more c.args.store.now c.tasks.store c.block.new.store c.tasks.invariant.grows c.block.ensures.grows
