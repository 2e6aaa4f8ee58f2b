use Rattle.std.proofs.Common.{◌≡◌, ◌+◌, ap, sym, ◌∙◌, arith}
use Rattle.std.proofs.lemmas.Option.{get_or_from_slice_get}
use Rattle.qv_words.specs.Tree.{Variable}
use Rattle.qv_words.specs.Expansion.{sort_at}
use Rattle.qv_store.specs.declared.problem.Place.{Place}
use Rattle.qv_store.specs.Problems.{problem_in}
use Rattle.qv_store.specs.Stores.{StandsAt}
use Rattle.qv_store.proofs.Visiting.{on-ok}
use Rattle.qv_cert_nodes.proofs.Grown.{node-listed}
use Rattle.qv_cert_nodes.proofs.Clean.{sort-found}
use Rattle.qv_cert_nodes.proofs.listing.list_variable.Goals as goal

pub returns-clause-lists : goal.returns-clause-lists
returns-clause-lists c p h =
    let place = c.args.place in
    let problem = c.args.problem.now in
    let found : c.requires.found ≡ c.index.result.now =
    sym (get_or_from_slice_get problem.prefix.items place c.requires.found c.index.result.now c.requires.place_is) ∙ sym c.index.ensures in
    let sort : c.index.result.now.sort ≡ sort_at (problem_in c.args.store.now problem) place =
    ap (λ (q : Place). q.sort) (sym found) ∙ sym (sort-found c.args.store.now problem place c.requires.found c.requires.place_is) in
    let t = Variable place (sort_at (problem_in c.args.store.now problem) place) in
    let stands : StandsAt c.put.new.self c.in_ok-id.id t =
    record { below = c.in_ok-id.ensures.id.below; tree = c.in_ok-id.ensures.id.tree ∙ ap (Variable place) sort } in
    on-ok c.push_node.result
    (λ w. node-listed c.args.store.now c.put.new.self p c.args.listed.now c.push_node.new.self c.in_ok-id.id (place + 1) t h c.put.ensures.grows w stands (omega arith))
    c.push_node.ensures
