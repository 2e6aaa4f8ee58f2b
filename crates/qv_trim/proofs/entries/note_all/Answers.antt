use Rattle.std.proofs.Common.{arith}
use Rattle.qv_trim.proofs.Noted.{noted-none, noted-more, noted-all}
use Rattle.qv_trim.proofs.entries.note_all.Goals as goal

pub lines-init : goal.lines-init
lines-init c lines rest b none = noted-none c.args.text.now c.args.from c.args.entries.now.items lines rest c.requires b

pub lines-preserved : goal.lines-preserved
lines-preserved c lines rest b none =
    let found = rw c.in-Some.is at c.in_ok-found.ensures in
    noted-more c.args.text.now c.lines.at c.in-Some.found.behind c.lines.refuted c.in_ok-refuted.refuted c.lines.entries.items c.note_step.new.entries.items lines rest _ none found.0 c.in_ok-refuted.ensures (c.lines.invariant lines rest b none)

pub lines-smaller : goal.lines-smaller
lines-smaller c =
    let found = rw c.in-Some.is at c.in_ok-found.ensures in
    omega (arith, found.0.further, found.0.within)

pub returns-in_default : goal.returns-in_default
returns-in_default c lines rest b none =
    noted-all c.args.text.now c.lines.at c.lines.refuted c.lines.entries.items lines rest (rw c.in_default.is at c.in_ok-found.ensures) (c.lines.invariant lines rest b none)
