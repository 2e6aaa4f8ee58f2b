use Rattle.std.proofs.Common.{◌≡◌, ◌+◌, suc, true, length, get_or, ap, sym, ◌∙◌, arith, rules}
use Rattle.std.proofs.lemmas.Option.{get_or_from_slice_get}
use Rattle.qv_words.specs.Tree.{Variable}
use Rattle.qv_words.specs.Expansion.{sort_at}
use Rattle.qv_store.specs.declared.problem.Place.{Place}
use Rattle.qv_store.specs.Problems.{problem_in}
use Rattle.qv_store.proofs.Visiting.{on-ok}
use Rattle.qv_cert_nodes.specs.declared.listed.Branch.{Branch}
use Rattle.qv_cert_nodes.specs.Lists.{depth_in}
use Rattle.qv_cert_nodes.proofs.Grown.{branch-listed, MayStand}
use Rattle.qv_cert_nodes.proofs.Clean.{sort-found}
use Rattle.qv_cert_nodes.proofs.listing.list_eigen.Goals as goal

pub returns-clause-lists : goal.returns-clause-lists
returns-clause-lists c h =
    let a = c.args.listed.now in
    let problem = c.args.problem.now in
    let p = problem_in c.args.store.now problem in
    let place = depth_in a c.args.parent in
    let many : c.len.result ≡ length a.branches.items = search rules in
    let found : c.requires.place.found ≡ c.index.result.now =
    sym (get_or_from_slice_get problem.prefix.items place c.requires.place.found c.index.result.now c.requires.place.place_is)
    ∙ sym (c.index.ensures ∙ ap (λ k. get_or problem.prefix.items k c.index.result.now) c.depth-depth.ensures.kept) in
    let sort : c.index.result.now.sort ≡ sort_at p place =
    ap (λ (q : Place). q.sort) (sym found) ∙ sym (sort-found c.args.store.now problem place c.requires.place.found c.requires.place.place_is) in
    let b : Branch = record { parent = c.args.parent; id = c.in_ok-id.id; depth = c.depth-depth.result + 1; is_eigen = true } in
    let number : c.len.result + 1 ≡ suc (length a.branches.items) = omega (arith, many) in
    let may : MayStand c.put.new.self p a b =
    record {
      below = c.in_ok-id.ensures.id.below;
      parent = c.requires.parent;
      depth = omega (arith, c.depth-depth.ensures.kept);
      own = λ e. c.in_ok-id.ensures.id.tree ∙ ap (λ n. Variable n c.index.result.now.sort) number ∙ ap (Variable (suc (length a.branches.items))) sort;
    } in
    on-ok c.push_branch.result (λ w. branch-listed c.args.store.now c.put.new.self p a c.push_branch.new.self b h c.put.ensures.grows w may) c.push_branch.ensures
