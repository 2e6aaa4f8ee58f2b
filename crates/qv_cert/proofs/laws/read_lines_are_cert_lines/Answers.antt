use Rattle.qv_cert.proofs.Ranges.{read-lines-are-cert-lines}
use Rattle.qv_cert.proofs.laws.read_lines_are_cert_lines.Goals as goal

pub returns : goal.returns
returns c = read-lines-are-cert-lines
