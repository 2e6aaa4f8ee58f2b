use Rattle.std.proofs.Common.{◌≡◌, length, true, refl, sym, ◌∙◌, ap, subst, arith}
use Rattle.std.specs.Option.{option_copied}
use Rattle.std.specs.Prelude.{IfSome}
use Rattle.qv_cnf.specs.Literal.{negated}
use Rattle.qv_cnf.specs.Refutation.{among}
use Rattle.qv_learn.proofs.Pointing.{conflict_negated, conflict_reads, conflict_values, frontier_alone, frontier_popped, may_reach_false, pointing_ends, pointing_goes_on, pointing_starts}
use Rattle.qv_learn.proofs.Positions.{false_present}
use Rattle.qv_learn.specs.Frontiers.{IsAlone}
use Rattle.qv_learn.specs.Learning.{level_at}
use Rattle.qv_learn.specs.declared.point.Frontier.{Frontier}
use Rattle.qv_learn.proofs.point.first_point.Goals as goal

pub first_of_level-requires : goal.first_of_level-requires
first_of_level-requires c =
    let t = c.args.trail.now in
    let lits = c.unwrap-clause.result.now in
    conflict_values t lits (conflict_reads t c.args.conflict lits c.level-present.ensures.trail c.requires.conflict (sym c.clause.ensures ∙ ap option_copied c.unwrap-clause.ensures))

pub unwrap-start-requires : goal.unwrap-start-requires
unwrap-start-requires c =
    let t = c.args.trail.now in
    let trail = c.level-present.ensures.trail in
    let lits = c.unwrap-clause.result.now in
    let named = sym c.clause.ensures ∙ ap option_copied c.unwrap-clause.ensures in
    let m = false_present t trail c.requires.above_zero c.args.conflict lits named (conflict_reads t c.args.conflict lits trail c.requires.conflict named) in
    c.first_of_level.ensures.some m.0 m.1 (m.2 ∙ sym c.level-present.ensures.level)

pub reach_all-requires-clause-frontier : goal.reach_all-requires-clause-frontier
reach_all-requires-clause-frontier c =
    let t = c.args.trail.now in
    let lits = c.unwrap-clause.result.now in
    let start = c.unwrap-start.result in
    let reads = conflict_reads t c.args.conflict lits c.level-present.ensures.trail c.requires.conflict (sym c.clause.ensures ∙ ap option_copied c.unwrap-clause.ensures) in
    let found : (among lits start ≡ true) × (level_at t.entries start ≡ c.level-present.result) = subst (λ o. IfSome o (λ l. (among lits l ≡ true) × (level_at t.entries l ≡ c.level-present.result))) c.unwrap-start.ensures c.first_of_level.ensures.found in
    let alone : IsAlone (negated start) c.start.new.self = subst (λ l. IsAlone l c.start.new.self) c.negated.ensures c.in_ok-start.ensures in
    frontier_alone t (negated start) c.start.new.self (conflict_negated t lits start reads found.0 (found.1 ∙ c.level-present.ensures.level)) alone

pub reach_all-requires-clause-may : goal.reach_all-requires-clause-may
reach_all-requires-clause-may c =
    let t = c.args.trail.now in
    let lits = c.unwrap-clause.result.now in
    may_reach_false t c.start.new.self.marks lits (conflict_reads t c.args.conflict lits c.level-present.ensures.trail c.requires.conflict (sym c.clause.ensures ∙ ap option_copied c.unwrap-clause.ensures))

pub loop-lit-init : goal.loop-lit-init
loop-lit-init c =
    let t = c.args.trail.now in
    let trail = c.level-present.ensures.trail in
    let lits = c.unwrap-clause.result.now in
    let start = c.unwrap-start.result in
    let named = sym c.clause.ensures ∙ ap option_copied c.unwrap-clause.ensures in
    let reads = conflict_reads t c.args.conflict lits trail c.requires.conflict named in
    let found : (among lits start ≡ true) × (level_at t.entries start ≡ c.level-present.result) = subst (λ o. IfSome o (λ l. (among lits l ≡ true) × (level_at t.entries l ≡ c.level-present.result))) c.unwrap-start.ensures c.first_of_level.ensures.found in
    let alone : IsAlone (negated start) c.start.new.self = subst (λ l. IsAlone l c.start.new.self) c.negated.ensures c.in_ok-start.ensures in
    let present = conflict_negated t lits start reads found.0 (found.1 ∙ c.level-present.ensures.level) in
    pointing_starts t c.args.conflict lits start c.start.new.self c.reach_all.new.self trail named found.0 present alone c.in_ok-reach_all.ensures

pub resolve-requires-clause-frontier : goal.resolve-requires-clause-frontier
resolve-requires-clause-frontier c =
    let f = c.loop-lit.frontier in
    let g : Frontier = record f { pending = c.pop.new.self } in
    (frontier_popped c.args.trail.now f g c.in-Some.lit c.loop-lit.invariant.frontier c.in-Some.ensures.items refl).0

pub resolve-requires-clause-pending : goal.resolve-requires-clause-pending
resolve-requires-clause-pending c =
    let f = c.loop-lit.frontier in
    let g : Frontier = record f { pending = c.pop.new.self } in
    (frontier_popped c.args.trail.now f g c.in-Some.lit c.loop-lit.invariant.frontier c.in-Some.ensures.items refl).1

pub loop-lit-preserved : goal.loop-lit-preserved
loop-lit-preserved c =
    let f = c.loop-lit.frontier in
    let g : Frontier = record f { pending = c.pop.new.self } in
    pointing_goes_on c.args.trail.now c.args.conflict f g c.resolve.new.self c.in-Some.lit c.level-present.ensures.trail c.requires.above_zero c.loop-lit.invariant c.in-Some.ensures.items refl c.in_ok-resolve.ensures

pub returns : goal.returns
returns c =
    let none : length c.loop-lit.frontier.pending.items ≡ 0 = omega (arith, c.in_default.ensures.cases) in
    pointing_ends c.args.trail.now c.args.conflict c.loop-lit.frontier c.level-present.ensures.trail c.requires.above_zero c.loop-lit.invariant none
