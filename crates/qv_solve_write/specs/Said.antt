-- What lines say.
use Rattle.std.specs.Prelude.{List, map}
use Rattle.qv_cert.specs.declared.line.Line.{Line}
use Rattle.qv_cert.specs.Line.{CertLine}
use Rattle.qv_cert.specs.LineView.{cert_line_of}

abbrev pub lines_said : List Line → List CertLine
lines_said = map cert_line_of
