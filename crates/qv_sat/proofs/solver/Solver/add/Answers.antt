use Rattle.std.proofs.Common.{◌≡◌, ◌<◌, sym, ◌∙◌, ap, subst, arith}
use Rattle.qv_cnf.specs.Listing.{Listing}
use Rattle.qv_cnf.specs.LratLine.{lines_of}
use Rattle.qv_watch.specs.TrailState.{TrailState}
use Rattle.qv_sat.specs.CoreState.{CoreState}
use Rattle.qv_sat.specs.Holding.{IsHeld}
use Rattle.qv_sat.proofs.Holdings.{added_back, fresh_attached, has_none-some, IsHeld-add}
use Rattle.qv_sat.proofs.solver.Solver.add.Goals as goal

pub attach-requires-clause-fresh : goal.attach-requires-clause-fresh
attach-requires-clause-fresh c =
    let s = c.make_room.new.self in
    let above : s.top < c.args.id = omega (arith, ap (λ (k : CoreState). k.top) c.make_room.ensures.core, c.requires.above) in
    fresh_attached s.base (lines_of s.steps.items) s.trail s.top s.variables s.refuted s.aside c.args.id c.make_room.ensures.held above

pub returns-in-Err-clause-held : goal.returns-in-Err-clause-held
returns-in-Err-clause-held c =
    let s = c.make_room.new.self in
    let above : s.top < c.args.id = omega (arith, ap (λ (k : CoreState). k.top) c.make_room.ensures.core, c.requires.above) in
    let back : c.cut.new.self ≡ s.base = c.cut.ensures.cut ∙ added_back s.base c.add.new.self (lines_of s.steps.items) s.trail s.top s.variables s.refuted s.aside c.args.id c.args.lits.now c.make_room.ensures.held above c.in_ok-add.ensures.ok in
    subst (λ (b : Listing). IsHeld b (lines_of s.steps.items) c.attach.new.self s.top s.variables s.refuted s.aside) (sym back)
    (subst (λ (t : TrailState). IsHeld s.base (lines_of s.steps.items) t s.top s.variables s.refuted s.aside) (sym c.in-Err.ensures.err) c.make_room.ensures.held)

pub returns-in-Err-clause-err : goal.returns-in-Err-clause-err
returns-in-Err-clause-err c =
    let s = c.make_room.new.self in
    let above : s.top < c.args.id = omega (arith, ap (λ (k : CoreState). k.top) c.make_room.ensures.core, c.requires.above) in
    let back : c.cut.new.self ≡ s.base = c.cut.ensures.cut ∙ added_back s.base c.add.new.self (lines_of s.steps.items) s.trail s.top s.variables s.refuted s.aside c.args.id c.args.lits.now c.make_room.ensures.held above c.in_ok-add.ensures.ok in
    let by_base : Listing → CoreState = λ b. record { base = b.live; steps = lines_of s.steps.items; top = s.top } in
    ap by_base back ∙ c.make_room.ensures.core

pub returns-clause-held : goal.returns-clause-held
returns-clause-held c =
    let s = c.make_room.new.self in
    let above : s.top < c.args.id = omega (arith, ap (λ (k : CoreState). k.top) c.make_room.ensures.core, c.requires.above) in
    IsHeld-add s.base c.add.new.self (lines_of s.steps.items) s.trail c.attach.new.self s.top s.variables s.refuted s.aside c.args.id c.args.lits.now c.make_room.ensures.held above c.requires.few (has_none-some c.args.lits.now c.requires.some) c.in_ok-make_room.ensures.within c.in_ok-add.ensures.ok (ap (λ (t : TrailState). t.room) c.in_default.ensures.ok) (ap (λ (t : TrailState). t.clauses) c.in_default.ensures.ok)
