use Rattle.qv_cert.proofs.Texts.{texts-are-their-lines}
use Rattle.qv_cert.proofs.laws.texts_are_their_lines.Goals as goal

pub returns : goal.returns
returns c = texts-are-their-lines
