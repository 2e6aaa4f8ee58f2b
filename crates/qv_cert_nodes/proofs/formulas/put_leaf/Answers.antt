use Rattle.std.proofs.Common.{◌≡◌, ℕ, List, Option, length, subst, sym, ◌∙◌, rules, vec_len}
use Rattle.qv_words.specs.Replacement.{replaced, HasTheirSorts}
use Rattle.qv_store.specs.Nodes.{tree_at}
use Rattle.qv_store.specs.Stores.{StandsAt}
use Rattle.qv_store.specs.Problems.{problem_in}
use Rattle.qv_store.specs.Replacing.{put_by_level, AreTermsOf}
use Rattle.std.specs.Prelude.{slice_get}
use Rattle.qv_cert_nodes.specs.Lists.{listed_in}
use Rattle.qv_cert_nodes.proofs.Climbing.{path-terms}
use Rattle.qv_cert_nodes.proofs.Gathering.{path_at, leaf-terms, leaf-stands, if-ok}
use Rattle.qv_cert_nodes.proofs.formulas.put_leaf.Goals as goal

pub put_in-requires-clause-terms : goal.put_in-requires-clause-terms
put_in-requires-clause-terms c =
    subst (AreTermsOf c.args.store.now) (sym c.deref.ensures.value)
    (path-terms c.args.store.now c.in_ok-path.path.items (path_at (problem_in c.args.store.now c.args.problem.now) (listed_in c.args.store.now c.args.listed.now) c.args.line) c.in_ok-path.ensures)

pub put_in-requires-clause-sorts : goal.put_in-requires-clause-sorts
put_in-requires-clause-sorts c =
    let many : vec_len c.args.problem.now.prefix ≡ length c.args.problem.now.prefix.items = search rules in
    subst (λ (put : List (Option ℕ)). HasTheirSorts (put_by_level c.args.store.now put) (tree_at c.args.store.now c.args.problem.now.matrix)) (sym c.deref.ensures.value)
    (leaf-terms c.args.store.now c.args.problem.now c.args.listed.now c.args.line c.in_ok-path.path.items c.requires.posed c.requires.kept c.requires.lines c.requires.line (c.requires.leaf ∙ many) c.in_ok-path.ensures)

pub returns-clause-leaf : goal.returns-clause-leaf
returns-clause-leaf c =
    let path = path_at (problem_in c.args.store.now c.args.problem.now) (listed_in c.args.store.now c.args.listed.now) c.args.line in
    let matrix = tree_at c.args.store.now c.args.problem.now.matrix in
    if-ok c.put_in.result (λ id. StandsAt c.put_in.new.self id (replaced (put_by_level c.args.store.now c.deref.result.now) matrix)) (λ id. StandsAt c.put_in.new.self id (replaced (slice_get path) matrix))
    (λ id s. leaf-stands c.args.store.now c.put_in.new.self c.in_ok-path.path.items path matrix id c.in_ok-path.ensures
    (subst (λ (put : List (Option ℕ)). StandsAt c.put_in.new.self id (replaced (put_by_level c.args.store.now put) matrix)) c.deref.ensures.value s))
    c.put_in.ensures.id
