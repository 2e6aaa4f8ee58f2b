use Rattle.std.proofs.Common.{List, ℕ, ap, sym, ◌∙◌}
use Rattle.qv_cert.specs.LineView.{cert_line_of}
use Rattle.qv_cert.specs.Text.{line_behind}
use Rattle.qv_cert.proofs.NextLemmas.{four_bytes}
use Rattle.qv_cert.proofs.reader.read_next.Goals as goal

pub returns-clause-four : goal.returns-clause-four
returns-clause-four g c =
    let reads = ap (λ (text : List ℕ). line_behind c.args.given c.args.in_lrat text) (sym c.line.ensures) ∙ c.in_ok-line_behind.ensures.read in
    four_bytes _ g.S.Source.read_gives c.args.input.now.buffer c.args.input.now.taken c.args.source.now c.take_line.new.self.line.items c.take_line.new.self.buffer c.take_line.new.self.taken c.take_line.new.source
    c.args.given c.args.in_lrat (cert_line_of c.in_ok-line_behind.field-0) c.in_ok-take_line.ensures.line reads
