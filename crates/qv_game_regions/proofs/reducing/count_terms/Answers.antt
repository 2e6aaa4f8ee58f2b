use Rattle.std.proofs.Common.{◌≡◌, [], length, sym, ap, ◌∙◌}
use Rattle.std.proofs.lemmas.List.{length-map}
use Rattle.qv_words.specs.Clauses.{with_nodes}
use Rattle.qv_store.specs.Nodes.{tree_at}
use Rattle.qv_store.specs.Walks.{named}
use Rattle.qv_game_regions.proofs.reducing.count_terms.Goals as goal

pub returns : goal.returns
returns c =
    let trees = c.args.store.now in
    let nodes : named trees c.visit.new.self ≡ with_nodes [] (tree_at trees c.args.formula) =
    c.in_ok-visit.ensures.nodes c.requires.free ∙ ap (λ ids. with_nodes (named trees ids) (tree_at trees c.args.formula)) c.new-walk.ensures in
    c.len.ensures ∙ sym (length-map c.visit.new.self (tree_at trees)) ∙ ap length nodes
