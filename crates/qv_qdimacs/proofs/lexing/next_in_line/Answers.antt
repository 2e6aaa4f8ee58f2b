use Rattle.qv_qdimacs.proofs.LineLemmas.{in_line-none, in_line-some}
use Rattle.qv_qdimacs.proofs.lexing.next_in_line.Goals as goal

pub returns-then-begin-end : goal.returns-then-begin-end
returns-then-begin-end c =
    in_line-none c.args.text.now c.args.at c.gap_end-begin.result c.word_end-end.result c.requires c.gap_end-begin.ensures.end c.word_end-end.ensures.end
    c.gap_end-begin.ensures.within c.word_end-end.ensures.within c.if-begin-end.true

pub returns : goal.returns
returns c =
    in_line-some c.args.text.now c.args.at c.gap_end-begin.result c.word_end-end.result c.requires c.gap_end-begin.ensures.end c.word_end-end.ensures.end
    c.gap_end-begin.ensures.within c.word_end-end.ensures.within c.if-begin-end.false
