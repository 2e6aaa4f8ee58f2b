use Rattle.std.proofs.Common.{[], ◌∷◌, sym, subst}
use Rattle.qv_words.specs.Tree.{Tree, IsQuantifierFree}
use Rattle.qv_words.specs.PassLaws.{IsPlain, StandsFor}
use Rattle.qv_words.specs.Sums.{summed}
use Rattle.qv_store.specs.Nodes.{tree_at}
use Rattle.qv_rewrite_passes.specs.Simps.{simped}
use Rattle.qv_rewrite_passes.specs.declared.pass.Pass.TheVariants.{Simp, Sum}
use Rattle.qv_rewrite_passes.proofs.Behind.{all-stand, stands-trans}
use Rattle.qv_game_regions.proofs.reducing.simplify_sums.Goals as goal

-- a formula behind small rules, and the sums of that, stand for it
small-stands : (t : Tree) → IsPlain t → StandsFor (simped t) t
small-stands t h = (all-stand (Simp ∷ []) (t ∷ []) (h, tt)).0

summed-stands : (t : Tree) → IsPlain t → StandsFor (summed t) t
summed-stands t h = (all-stand (Sum ∷ []) (t ∷ []) (h, tt)).0

pub simp-requires-clause-free : goal.simp-requires-clause-free
simp-requires-clause-free c = c.requires.plain.free

pub simplify-requires-clause-free : goal.simplify-requires-clause-free
simplify-requires-clause-free c =
    let t = tree_at c.args.store.now c.args.formula in
    let small = subst (λ (u : Tree). StandsFor u t) (sym c.in_ok-small.ensures.id.tree) (small-stands t c.requires.plain) in
    subst IsQuantifierFree (sym c.in_ok-summed.ensures.id.tree) (summed-stands (tree_at c.simp.new.store c.in_ok-small.small) small.plain).plain.free

pub returns-clause-stands_for : goal.returns-clause-stands_for
returns-clause-stands_for c =
    let t = tree_at c.args.store.now c.args.formula in
    let u = tree_at c.simp.new.store c.in_ok-small.small in
    let small = subst (λ (x : Tree). StandsFor x t) (sym c.in_ok-small.ensures.id.tree) (small-stands t c.requires.plain) in
    let sums = subst (λ (x : Tree). StandsFor x u) (sym c.in_ok-summed.ensures.id.tree) (summed-stands u small.plain) in
    stands-trans t (tree_at c.sum.new.store c.in_ok-summed.summed) (tree_at c.simplify.new.store c.in_ok-new.new)
    (stands-trans t u (tree_at c.sum.new.store c.in_ok-summed.summed) small sums) c.in_ok-new.ensures.stands_for
