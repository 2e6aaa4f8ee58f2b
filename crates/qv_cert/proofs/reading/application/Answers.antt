use Rattle.std.proofs.Common.{ℕ, List, ap, sym, ◌∙◌}
use Rattle.qv_lrat_text.specs.Words.{words}
use Rattle.qv_sorts.specs.Search.{indexed_operator}
use Rattle.qv_cert.specs.Grammar.{application, formed, operator_node}
use Rattle.qv_cert.proofs.ReadingLemmas.{applied}
use Rattle.qv_cert.proofs.reading.application.Goals as goal

pub returns-in-Some-operator_named : goal.returns-in-Some-operator_named
returns-in-Some-operator_named c =
    let node = c.args.node in
    let kids = c.in_ok-kids.kids.items in
    let name = c.in-Some.name.now in
    ap (λ (ws : List (List ℕ)). formed (application node ws)) c.in-Some.ensures.split
    ∙ applied node name (words c.in-Some.rest.now) (words c.in_ok-indices.rest.now) c.in_ok-indices.indices.items kids c.in_ok-indices.ensures c.in_ok-kids.ensures
    ∙ ap (λ (ns : List ℕ). operator_node node kids (indexed_operator name ns)) (sym c.deref.ensures.value)
    ∙ ap (operator_node node kids) (sym c.in-Some-operator_named.ensures)
