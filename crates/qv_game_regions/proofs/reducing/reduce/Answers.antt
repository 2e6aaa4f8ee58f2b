use Rattle.std.proofs.Common.{◌≤◌, [], ◌∷◌, length, sym, subst, arith}
use Rattle.qv_words.specs.Tree.{Tree, IsQuantifierFree}
use Rattle.qv_words.specs.Clauses.{nodes}
use Rattle.qv_words.specs.Passes.{IsSimple}
use Rattle.qv_words.specs.PassLaws.{StandsFor}
use Rattle.qv_store.specs.Nodes.{tree_at}
use Rattle.qv_store.proofs.Replacement.{grown-tree}
use Rattle.qv_rewrite_passes.proofs.Behind.{stands-trans}
use Rattle.qv_game_regions.proofs.reducing.reduce.Goals as goal

pub simplify_sums-requires-clause-plain : goal.simplify_sums-requires-clause-plain
simplify_sums-requires-clause-plain c = c.in_ok-simple.ensures.stands_for.plain

pub has_fewer-requires-clause-first_free : goal.has_fewer-requires-clause-first_free
has_fewer-requires-clause-first_free c = c.in_ok-summed.ensures.stands_for.plain.free

pub has_fewer-requires-clause-second_free : goal.has_fewer-requires-clause-second_free
has_fewer-requires-clause-second_free c =
    subst IsQuantifierFree (sym (grown-tree c.simplify.new.store c.simplify_sums.new.store c.simplify_sums.ensures.grows c.in_ok-simple.simple c.in_ok-simple.ensures.below))
    c.in_ok-simple.ensures.stands_for.plain.free

pub returns-then-branch-clause-stands_for : goal.returns-then-branch-clause-stands_for
returns-then-branch-clause-stands_for c =
    stands-trans (tree_at c.args.store.now c.args.formula) (tree_at c.simplify.new.store c.in_ok-simple.simple) (tree_at c.simplify_sums.new.store c.in_ok-summed.summed)
    c.in_ok-simple.ensures.stands_for c.in_ok-summed.ensures.stands_for

pub returns-then-branch-clause-no_more : goal.returns-then-branch-clause-no_more
returns-then-branch-clause-no_more c =
    let new = c.simplify_sums.new.store in
    let same = grown-tree c.simplify.new.store new c.simplify_sums.ensures.grows c.in_ok-simple.simple c.in_ok-simple.ensures.below in
    let fewer = subst (λ (t : Tree). length (nodes (tree_at new c.in_ok-summed.summed ∷ [])) ≤ length (nodes (t ∷ []))) same (c.in_ok-has_fewer.ensures c.if-branch.true) in
    omega (arith, fewer, c.in_ok-simple.ensures.no_more)

pub returns-clause-stands_for : goal.returns-clause-stands_for
returns-clause-stands_for c =
    subst (λ (t : Tree). StandsFor t (tree_at c.args.store.now c.args.formula))
    (sym (grown-tree c.simplify.new.store c.simplify_sums.new.store c.simplify_sums.ensures.grows c.in_ok-simple.simple c.in_ok-simple.ensures.below))
    c.in_ok-simple.ensures.stands_for

pub returns-clause-simple : goal.returns-clause-simple
returns-clause-simple c =
    subst IsSimple (sym (grown-tree c.simplify.new.store c.simplify_sums.new.store c.simplify_sums.ensures.grows c.in_ok-simple.simple c.in_ok-simple.ensures.below))
    c.in_ok-simple.ensures.simple

pub returns-clause-no_more : goal.returns-clause-no_more
returns-clause-no_more c =
    subst (λ (t : Tree). length (nodes (t ∷ [])) ≤ length (nodes (tree_at c.args.store.now c.args.formula ∷ [])))
    (sym (grown-tree c.simplify.new.store c.simplify_sums.new.store c.simplify_sums.ensures.grows c.in_ok-simple.simple c.in_ok-simple.ensures.below))
    c.in_ok-simple.ensures.no_more
