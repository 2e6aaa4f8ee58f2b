use Rattle.std.proofs.Common.{◌≡◌, ℕ, List, [], ◌∷◌, sym, subst}
use Rattle.qv_words.specs.declared.op.Op.TheVariants.{Ite}
use Rattle.qv_words.specs.Tree.{Apply}
use Rattle.qv_words.specs.Sorted.{IsSorted}
use Rattle.qv_store.specs.Nodes.{trees_at}
use Rattle.qv_skolem.proofs.Leading.{ite-sorted}
use Rattle.qv_skolem.proofs.putting.put_ite.Goals as goal

pub put-requires-clause-sorted : goal.put-requires-clause-sorted
put-requires-clause-sorted c =
    let trees = c.args.store.now in
    let kids : c.in_ok-kids.kids.items ≡ c.args.formula ∷ c.args.yes ∷ c.args.no ∷ [] = c.in_ok-kids.ensures.ok in
    subst (λ (ks : List ℕ). IsSorted (Apply Ite (trees_at trees ks))) (sym kids)
    (ite-sorted trees c.args.formula c.args.yes c.args.no c.len-few.ensures.shared c.requires.formula c.requires.yes c.requires.no c.requires.bool c.requires.alike)
