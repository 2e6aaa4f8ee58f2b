use Rattle.std.proofs.Common.{◌≡◌, max, ◌-◌, ◌++◌, length, take, replicate, None, Option, ◌∙◌, ap, arith}
use Rattle.std.proofs.lemmas.List.{take_all}
use Rattle.qv_watch.specs.Table.{entries_of, ArePlaced, IsTold}
use Rattle.qv_watch.specs.declared.values.Assigned.{Assigned}
use Rattle.qv_watch.proofs.Placing.{ArePlaced-room}
use Rattle.qv_watch.proofs.Tabling.{filled-within, entries_of-more}
use Rattle.qv_watch.proofs.Telling.{IsTold-room}
use Rattle.qv_watch.proofs.Valuing.{IsValued-room, IsValued-wider, same_entered}
use Rattle.qv_watch.proofs.values.Values.room.Goals as goal
use Rattle.qv_watch.proofs.values.Values.room.Goals.{In_ok-resize, In_ok-resize-2, In_ok-resize-3}

pub overflow_sub-variables : goal.overflow_sub-variables
overflow_sub-variables c =
    let old = c.self.inside in
    let most = filled-within old.vars.items in
    omega (arith, c.self.invariant.table.counted, old.vars.ok.0, old.order.ok.0)

placed : (c : In_ok-resize) → ArePlaced c.resize.new.self.items c.self.inside.order.items
placed c =
    let old = c.self.inside in
    let v = c.self.invariant in
    rw c.in_ok-resize.ensures.items (ArePlaced-room old.vars.items old.order.items old.positions.items _ c.args.variables v.table v.placed (omega (arith, old.vars.ok.0, c.if-variables-len.true, c.len.ensures)))

told : (c : In_ok-resize-2) → IsTold c.resize-then-variables-len.new.self.items (entries_of c.self.inside.vars.items c.self.inside.order.items)
told c =
    let old = c.self.inside in
    rw c.in_ok-resize-2.ensures.items (IsTold-room old.truths.items old.vars.items old.order.items c.args.variables _ c.self.invariant.table (omega (arith, old.vars.ok.0, c.if-variables-len.true, c.len.ensures)) c.self.invariant.told)

resized : (c : In_ok-resize-3) → c.resize-then-variables-len-2.new.self.items ≡ c.self.inside.vars.items ++ replicate {A = Option Assigned} (c.args.variables - length c.self.inside.vars.items) None
resized c =
    let old = c.self.inside in
    let all : take c.args.variables old.vars.items ≡ old.vars.items = take_all c.args.variables old.vars.items (omega (arith, old.vars.ok.0)) in
    let n : old.vars.len ≡ length old.vars.items = omega (arith, old.vars.ok.0) in
    rw (← n) (c.in_ok-resize-3.ensures.items ∙ (rw all))

pub invariant_of-self-in_err-resize-2 : goal.invariant_of-self-in_err-resize-2
invariant_of-self-in_err-resize-2 c =
    let old = c.self.inside in
    let v = c.self.invariant in
    rw (c.in_err-resize-2.ensures.items, c.in_ok-reserve.ensures.items)
    (IsValued-wider old.truths.items old.truths.items old.vars.items old.order.items old.positions.items c.resize.new.self.items _ _ old.level v v.told v.places (placed (goal.at.invariant_of-self-in_err-resize-2 c).In_ok-resize) (omega (arith, c.in_ok-resize.ensures.len, c.resize.new.self.ok.0, old.vars.ok.0, c.if-variables-len.true, c.len.ensures)) (omega (arith, c.in_ok-reserve.ensures.capacity)))

pub invariant_of-self-in_err-resize-3 : goal.invariant_of-self-in_err-resize-3
invariant_of-self-in_err-resize-3 c =
    let old = c.self.inside in
    let v = c.self.invariant in
    let known : IsTold c.resize-then-variables-len.new.self.items (entries_of old.vars.items old.order.items) = told (goal.at.invariant_of-self-in_err-resize-3 c).In_ok-resize-2 in
    rw (c.in_err-resize-3.ensures.items, c.in_ok-reserve.ensures.items)
    (IsValued-wider old.truths.items c.resize-then-variables-len.new.self.items old.vars.items old.order.items old.positions.items c.resize.new.self.items _ _ old.level v known (λ w from to. omega (arith, c.in_ok-resize-2.ensures.len, c.resize-then-variables-len.new.self.ok.0, old.vars.ok.0, c.if-variables-len.true, c.len.ensures)) (placed (goal.at.invariant_of-self-in_err-resize-3 c).In_ok-resize) (omega (arith, c.in_ok-resize.ensures.len, c.resize.new.self.ok.0, old.vars.ok.0, c.if-variables-len.true, c.len.ensures)) (omega (arith, c.in_ok-reserve.ensures.capacity)))

pub invariant_of-self-in-Continue-branch-4 : goal.invariant_of-self-in-Continue-branch-4
invariant_of-self-in-Continue-branch-4 c =
    let old = c.self.inside in
    let known : IsTold c.resize-then-variables-len.new.self.items (entries_of old.vars.items old.order.items) = told (goal.at.invariant_of-self-in-Continue-branch-4 c).In_ok-resize-2 in
    rw (resized c, c.in_ok-reserve.ensures.items)
    (IsValued-room old.truths.items c.resize-then-variables-len.new.self.items old.vars.items old.order.items old.positions.items c.resize.new.self.items _ _ old.level (c.args.variables - length old.vars.items) c.self.invariant known (omega (arith, c.in_ok-resize-2.ensures.len, c.resize-then-variables-len.new.self.ok.0, old.vars.ok.0)) (placed (goal.at.invariant_of-self-in-Continue-branch-4 c).In_ok-resize) (omega (arith, c.in_ok-resize.ensures.len, c.resize.new.self.ok.0, old.vars.ok.0)) (omega (arith, c.in_ok-reserve.ensures.ok, old.vars.ok.0)) (omega (arith, old.vars.ok.0)))

pub returns-in_ok-resize-3-clause-ok : goal.returns-in_ok-resize-3-clause-ok
returns-in_ok-resize-3-clause-ok c =
    let old = c.self.inside in
    let room : length old.vars.items ≡ c.args.self.now.room = ap (λ v. v.room) c.self.view_is in
    let entries : entries_of old.vars.items old.order.items ≡ c.args.self.now.entries = ap (λ v. v.entries) c.self.view_is in
    let longer : length c.resize-then-variables-len-2.new.self.items ≡ max c.args.self.now.room c.args.variables = omega (arith, c.in_ok-resize-3.ensures.len, c.resize-then-variables-len-2.new.self.ok.0, old.vars.ok.0, c.if-variables-len.true, c.len.ensures) in
    let same : entries_of c.resize-then-variables-len-2.new.self.items c.reserve.new.self.items ≡ c.args.self.now.entries =
    rw (resized c, c.in_ok-reserve.ensures.items) (entries_of-more old.vars.items old.order.items (c.args.variables - length old.vars.items) c.self.invariant.table ∙ entries) in
    same_entered _ _ _ _ longer same
