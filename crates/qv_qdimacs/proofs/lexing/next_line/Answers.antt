use Rattle.qv_qdimacs.proofs.LineLemmas.{line-none, line-some}
use Rattle.qv_qdimacs.proofs.lexing.next_line.Goals as goal

pub returns-then-end-text : goal.returns-then-end-text
returns-then-end-text c =
    line-none c.args.text.now c.args.at c.line_end-end.result c.requires c.line_end-end.ensures.end c.line_end-end.ensures.within c.if-end-text.true

pub returns : goal.returns
returns c =
    line-some c.args.text.now c.args.at c.line_end-end.result c.requires c.line_end-end.ensures.end c.line_end-end.ensures.within c.if-end-text.false
