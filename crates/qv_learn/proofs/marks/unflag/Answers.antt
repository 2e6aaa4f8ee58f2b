use Rattle.std.proofs.Common.{sym, refl, ◌∙◌, arith}
use Rattle.qv_learn.proofs.Marked.{unflags_all, unflags_none, unflags_one}
use Rattle.qv_learn.proofs.marks.unflag.Goals as goal
use Rattle.qv_learn.proofs.marks.unflag.Goals.{then-place-flags, else-place-flags}

pub loop-variable-init : goal.loop-variable-init
loop-variable-init c = λ v on. sym (c.requires v) ∙ on

pub loop-variable-preserved : goal.loop-variable-preserved
loop-variable-preserved c =
    let l = c.loop-variable in
    elim c.if-place-flags.branch [
      | then-place-flags w ↦ rw w.flags-is (unflags_one l.flags c.args.list.now l.variable-index _ c.loop-variable-test.true refl w.if-place-flags.true l.invariant)
      | else-place-flags w ↦ rw w.flags-is (unflags_none l.flags c.args.list.now l.variable-index _ c.loop-variable-test.true refl w.if-place-flags.false l.invariant)
    ]

pub returns : goal.returns
returns c = unflags_all c.loop-variable.flags c.args.list.now c.loop-variable.variable-index (omega arith) c.loop-variable.invariant
