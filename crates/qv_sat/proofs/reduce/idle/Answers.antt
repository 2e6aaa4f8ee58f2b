use Rattle.std.proofs.Common.{◌++◌, ℕ, List, sym, ◌∙◌, subst, arith}
use Rattle.std.proofs.lemmas.Bool.{false≢true}
use Rattle.qv_sat.specs.Reducing.{IsIdle, Picks, rising}
use Rattle.qv_sat.proofs.Picking.{picked-end, picked-low, picked-not, picked-one}
use Rattle.qv_sat.proofs.reduce.idle.Goals as goal
use Rattle.qv_sat.proofs.reduce.idle.Goals.{then-is_idle+in_ok-push, else-is_idle}

pub chosen-init : goal.chosen-init
chosen-init c rest h =
    subst (λ (ids : List ℕ). Picks (IsIdle c.args.base.now.live c.args.trail.now) (rising 0 c.args.chosen.now) (ids ++ rest)) (sym c.in_ok-ids.ensures.items) h

pub chosen-preserved-then-id-last : goal.chosen-preserved-then-id-last
chosen-preserved-then-id-last c =
    picked-low (IsIdle c.args.base.now.live c.args.trail.now) c.args.chosen.now c.chosen.last c.chosen.id-index c.chosen.ids.items c.chosen-test.true (omega (arith, c.if-id-last.true)) c.chosen.invariant

pub chosen-preserved : goal.chosen-preserved
chosen-preserved c =
    let P = IsIdle c.args.base.now.live c.args.trail.now in
    let chosen = c.args.chosen.now in
    let i = c.chosen.id-index in
    elim c.if-is_idle.branch [
      | then-is_idle+in_ok-push w ↦ rw (w.ids-is, w.in_ok-push.ensures.items) (picked-one P chosen c.chosen.last i c.chosen.ids.items c.chosen-test.true (omega (arith, c.if-id-last.false)) (c.is_idle.ensures.0 w.if-is_idle.true) c.chosen.invariant)
      | else-is_idle w ↦ rw w.ids-is (picked-not P chosen c.chosen.last i c.chosen.ids.items c.chosen-test.true (omega (arith, c.if-id-last.false)) (λ own. false≢true (sym w.if-is_idle.false ∙ c.is_idle.ensures.1 own)) c.chosen.invariant)
    ]

pub returns : goal.returns
returns c = picked-end (IsIdle c.args.base.now.live c.args.trail.now) c.args.chosen.now c.chosen.last c.chosen.id-index c.chosen.ids.items c.chosen-test.false c.chosen.invariant
