use Rattle.std.proofs.Common.{◌≡◌, [], ap, ◌∙◌}
use Rattle.qv_words.specs.Clauses.{with_nodes}
use Rattle.qv_words.specs.Tree.{IsQuantifierFree}
use Rattle.qv_store.specs.Nodes.{tree_at}
use Rattle.qv_store.specs.Walks.{named, with_subtrees}
use Rattle.qv_store.proofs.Passes.{each-of-walk, contains-earlier}
use Rattle.qv_choose_paths.proofs.SceneLaws.{inherit-free}
use Rattle.qv_choose_paths.proofs.seeing.Sight.of.Goals as goal

pub returns-clause-sight : goal.returns-clause-sight
returns-clause-sight c =
    let trees = c.args.store.now in
    let order : named trees c.visit.new.self ≡ with_subtrees [] (tree_at trees c.args.region) =
    c.in_ok-visit.ensures.order ∙ ap (λ ids. with_subtrees (named trees ids) (tree_at trees c.args.region)) c.new-walk.ensures in
    record {
      scene = record {
        shared = c.requires.shared;
        walk = c.visit.ensures.walk;
        free = λ k n at. each-of-walk IsQuantifierFree inherit-free trees c.visit.new.self c.args.region order c.requires.free k n at;
        many_looks = c.in_ok-looks.ensures.many;
        looks = c.in_ok-looks.ensures.looks;
      };
      subtrees = order;
      order = c.in_ok-visit.ensures.nodes c.requires.free ∙ ap (λ ids. with_nodes (named trees ids) (tree_at trees c.args.region)) c.new-walk.ensures;
      has = contains-earlier c.visit.new.self c.args.region c.in_ok-visit.ensures.has;
    }
