use Rattle.qv_cert.proofs.LineEnds.{first-lf}
use Rattle.qv_trim.proofs.Lines.{none-beyond, none-open, slice-rest}
use Rattle.qv_trim.proofs.texts.line_at.Goals as goal

pub returns-then-at-text : goal.returns-then-at-text
returns-then-at-text c line rest b = none-beyond c.args.text.now c.args.at line rest c.if-at-text.true b

pub returns-in-None : goal.returns-in-None
returns-in-None c line rest b =
    none-open _ line rest (rw c.in-None.is at (first-lf _ c.memchr.result c.memchr.ensures)) (rw (slice-rest c.args.text.now c.args.at) b)
