-- What a line says, wherever its lists lie in memory.
use Rattle.qv_words.specs.Word.{word_sort, word_value}
use Rattle.qv_cnf.specs.LratLine.{line_of}
use Rattle.qv_cert.specs.declared.line.Line.{Line}
use Rattle.qv_cert.specs.declared.line.Line.TheVariants as line
use Rattle.qv_cert.specs.Line.{CertLine, Header, Check, VariableNode, EigenNode, LiteralNode, OperatorNode, Skolem, Instance, Eigen, Rewrite, Lrat, Step, End}

abbrev pub cert_line_of : Line → CertLine
cert_line_of (line.Header version) = Header version
cert_line_of (line.Check number answer) = Check number answer
cert_line_of (line.VarNode node place) = VariableNode node place
cert_line_of (line.EigenNode node n) = EigenNode node n
cert_line_of (line.LitNode node word) = LiteralNode node (word_sort word) (word_value word)
cert_line_of (line.OpNode node op kids) = OperatorNode node op kids.items
cert_line_of (line.Skolem place node) = Skolem place node
cert_line_of (line.Instance n parent node) = Instance n parent node
cert_line_of (line.Eigen n parent) = Eigen n parent
cert_line_of (line.Rewrite p) = Rewrite p
cert_line_of line.Lrat = Lrat
cert_line_of (line.Step step) = Step (line_of step)
cert_line_of line.End = End
