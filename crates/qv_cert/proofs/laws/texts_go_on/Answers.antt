use Rattle.qv_cert.proofs.Texts.{texts-go-on}
use Rattle.qv_cert.proofs.laws.texts_go_on.Goals as goal

pub returns : goal.returns
returns c = texts-go-on
