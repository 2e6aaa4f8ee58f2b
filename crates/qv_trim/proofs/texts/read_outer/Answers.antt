use Rattle.qv_trim.proofs.Lines.{unread}
use Rattle.qv_trim.proofs.texts.read_outer.Goals as goal

pub returns-in_default : goal.returns-in_default
returns-in_default c said r = unread c.in-Err.fault _ said c.in-Err.ensures.fault c.in_default.not-NoMemory r
