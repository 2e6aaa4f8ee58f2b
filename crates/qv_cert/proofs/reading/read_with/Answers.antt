use Rattle.std.proofs.Common.{ℕ, List, subst}
use Rattle.std.specs.Prelude.{true, false}
use Rattle.qv_lrat_text.specs.Words.{words}
use Rattle.qv_cert.specs.LineView.{cert_line_of}
use Rattle.qv_cert.specs.Grammar.{cert_line, outer_line}
use Rattle.qv_cert.specs.Reading.{Gives}
use Rattle.qv_cert.proofs.ReadingLemmas.{in_ranges}
use Rattle.qv_cert.proofs.reading.read_with.Goals as goal

pub returns-then-in_lrat-clause-in_range : goal.returns-then-in_lrat-clause-in_range
unfolding cert_line
returns-then-in_lrat-clause-in_range c = in_ranges cert_line_of c.inner_line.result true c.args.bytes.now c.inner_line.ensures

pub returns-else-in_lrat-clause-in_range : goal.returns-else-in_lrat-clause-in_range
unfolding cert_line
returns-else-in_lrat-clause-in_range c =
    in_ranges cert_line_of c.outer_line.result false c.args.bytes.now
    (subst (λ (text : List ℕ). Gives cert_line_of c.outer_line.result (outer_line (words text))) c.without_lf.ensures c.outer_line.ensures)
