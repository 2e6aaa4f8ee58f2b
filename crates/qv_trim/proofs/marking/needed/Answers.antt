use Rattle.std.proofs.Common.{◌≡◌, Bool, List, length, sym, subst, ap, arith}
use Rattle.qv_trim.specs.Marking.{MarksLast}
use Rattle.qv_trim.proofs.Marked.{are-marked, take-back}
use Rattle.qv_trim.proofs.marking.needed.Goals as goal

pub returns : goal.returns
returns c live lines refutes are =
    let named = c.in_ok-close.ensures.named in
    let first : length c.deref_mut.result.now ≡ length c.in_ok-marks.marks.items = ap length c.deref_mut.ensures.value in
    let size : c.in_ok-marks.marks.len ≡ length c.close.new.marks = omega (arith, first, named.each, c.in_ok-marks.marks.ok.0) in
    rw (take-back c.in_ok-marks.marks.len c.close.new.marks _ size)
    (are-marked c.args.text.now live lines c.args.entries.now refutes are c.deref_mut.result.now c.close.new.marks
    (subst (λ (marks : List Bool). MarksLast (length c.args.entries.now) marks) (sym c.deref_mut.ensures.value) c.in_ok-marks.ensures) named c.in_ok-close.ensures.closed)
