use Rattle.std.proofs.Common.{◌≡◌, ◌<◌, ◌≤◌, ◌+◌, ◌*◌, ℕ, Bool, true, false, cond, All, take, arith, subst}
use Rattle.std.proofs.lemmas.List.{take_all}
use Rattle.std.proofs.lemmas.List.Elements.{All-more, All-weaker}
use Rattle.qv_cnf.specs.Literal.{index_of, Literal}
use Rattle.qv_game_state.proofs.marks.room.Goals as goal
use Rattle.qv_game_state.proofs.marks.room.Goals.{then-index-room, else-index-room}

index-small : (v : ℕ) (b : Bool) → v ≤ 1073741824 → 2 * v + cond b 0 1 + 1 < 4294967296
index-small v true h = omega (arith, h)
index-small v false h = omega (arith, h)

pub lits-preserved : goal.lits-preserved
lits-preserved c =
    let lits = c.args.lits.now in
    let lit = c.lit-item.result in
    let at : c.index.result ≡ index_of lit = c.index.ensures.value in
    let before = c.lits.invariant.above in
    let small = c.lits.invariant.small in
    let literal = c.index.ensures.literal in
    let up : c.lits.room ≤ c.if-index-room.room = elim c.if-index-room.branch [
      | then-index-room w ↦ (let more = w.if-index-room.true in let is = w.room-is in omega arith)
      | else-index-room w ↦ (let is = w.room-is in omega arith)
    ] in
    let over : index_of lit < c.if-index-room.room = elim c.if-index-room.branch [
      | then-index-room w ↦ omega arith
      | else-index-room w ↦ omega arith
    ] in
    record {
      above = All-more (λ x. index_of x < c.if-index-room.room) lits c.lits.lit-index lit (omega arith)
          (All-weaker (λ x. index_of x < c.lits.room) (λ x. index_of x < c.if-index-room.room) (λ x h. omega (arith, h, up)) (take c.lits.lit-index lits) before)
          (subst (λ (x : Literal). index_of x < c.if-index-room.room) c.lit-item.is over);
      small = elim c.if-index-room.branch [
        | then-index-room w ↦ (let top = index-small lit.variable lit.positive literal.1 in let is = w.room-is in omega arith)
        | else-index-room w ↦ (let is = w.room-is in omega (arith, is, small))
      ];
    }

pub returns-clause-above : goal.returns-clause-above
returns-clause-above c =
    subst (All (λ (x : Literal). index_of x < c.lits.room)) (take_all c.lits.lit-index c.args.lits.now (omega arith)) c.lits.invariant.above
