use Rattle.std.proofs.Common.{◌≡◌, ◌+◌, ℕ, List, ◌∷◌, length, drop, fold, ap, sym, ◌∙◌, subst}
use Rattle.std.proofs.lemmas.List.{drop_more}
use Rattle.qv_rewrite_passes.specs.Xors.{Chain, linked, chain, chains}
use Rattle.qv_store.specs.Nodes.{tree_at, trees_at}
use Rattle.qv_rewrite_xors.specs.Held.{chain_at, AreBelow}
use Rattle.qv_rewrite_xors.proofs.Standing.{linked-chain, linked-below}
use Rattle.qv_rewrite_xors.proofs.xoring.link_each.Goals as goal

pub kids-preserved : goal.kids-preserved
kids-preserved c =
    let trees = c.args.store.now in
    let kids = c.args.kids.now in
    let k = c.kids.kid-index in
    let x = c.kid-item.result in
    let p = c.kids.made in
    let q = c.chain_of.result.now in
    let rest = chains (trees_at trees (drop (k + 1) kids)) in
    let own : chain_at trees c.link.new.chain ≡ linked (chain_at trees p) (chain (tree_at trees x)) =
    linked-chain trees p q c.link.new.chain c.requires.shared c.kids.invariant.below c.chain_of.ensures.below c.in_ok-link.ensures.constant c.in_ok-link.ensures.atoms
    ∙ ap (linked (chain_at trees p)) c.chain_of.ensures.chain in
    let left : x ∷ drop (k + 1) kids ≡ drop k kids = ap (λ (n : ℕ). n ∷ drop (k + 1) kids) c.kid-item.is ∙ sym (drop_more kids k x c.kids-test.true) in
    record {
      chain = ap (λ (r : Chain). fold linked r rest) own
          ∙ ap (λ (ids : List ℕ). fold linked (chain_at trees p) (chains (trees_at trees ids))) left
          ∙ c.kids.invariant.chain;
      below = subst (AreBelow (length trees)) (sym c.in_ok-link.ensures.atoms) (linked-below (length trees) p.atoms.items q.atoms.items c.kids.invariant.below c.chain_of.ensures.below);
    }
