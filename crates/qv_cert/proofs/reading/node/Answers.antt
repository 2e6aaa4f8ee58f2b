use Rattle.std.proofs.Common.{ℕ, List, ap, sym, subst, ◌∙◌}
use Rattle.qv_lrat_text.specs.Words.{words}
use Rattle.qv_cert.specs.LineView.{cert_line_of}
use Rattle.qv_cert.specs.Grammar.{Reading, node_line, formed}
use Rattle.qv_cert.specs.Reading.{Gives}
use Rattle.qv_cert.proofs.ReadingLemmas.{node_first}
use Rattle.qv_cert.proofs.reading.node.Goals as goal

pub returns-in-Some-split_word : goal.returns-in-Some-split_word
returns-in-Some-split_word c =
    let k = c.in-Some.node in
    let rest = words c.in-Some.rest.now in
    let e = ap formed (node_first (words c.args.text.now) rest k (sym c.in-Some.ensures)) ∙ ap (λ (ws : List (List ℕ)). formed (node_line k ws)) c.in-Some-split_word.ensures.split in
    subst (λ (read : Reading). Gives cert_line_of c.node_line.result read) (sym e) c.node_line.ensures
