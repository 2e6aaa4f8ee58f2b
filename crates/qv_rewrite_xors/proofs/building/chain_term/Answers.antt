use Rattle.std.proofs.Common.{◌<◌, ℕ, List, length, map, ap, sym, ◌∙◌, subst}
use Rattle.std.specs.List.{AllByRecursion}
use Rattle.std.proofs.lemmas.List.Elements.{recursion_from_All}
use Rattle.qv_words.specs.declared.sort.Sort.{Sort}
use Rattle.qv_words.specs.declared.sort.Sort.TheVariants.{Bool, Bits}
use Rattle.qv_words.specs.Sums.{comes_before, in_order}
use Rattle.qv_store.specs.Nodes.{tree_at}
use Rattle.qv_rewrite_xors.specs.Held.{chain_at, AreBelow, IsAtom, IsChainFor}
use Rattle.qv_rewrite_xors.proofs.Fitting.{HasSort, ordered-fit}
use Rattle.qv_rewrite_xors.proofs.Standing.{of-sorts}
use Rattle.qv_rewrite_xors.proofs.building.chain_term.Goals as goal

pub truth_term-requires-clause-atoms : goal.truth_term-requires-clause-atoms
truth_term-requires-clause-atoms c =
    let trees = c.args.store.now in
    let p = chain_at trees c.args.chain.now in
    let whole = ap (map (tree_at trees)) c.as_slice-in-Bool.ensures ∙ c.in_ok-ordered.ensures.factors ∙ ap (λ (ids : List ℕ). in_order comes_before (map (tree_at trees) ids)) c.as_slice.ensures in
    subst (AllByRecursion (IsAtom Bool)) (sym whole) (ordered-fit Bool p (subst (λ (s : Sort). IsChainFor s p) c.in-Bool.is c.requires.fits))

pub word_term-requires-clause-atoms : goal.word_term-requires-clause-atoms
word_term-requires-clause-atoms c =
    let trees = c.args.store.now in
    let s = Bits c.in-Bits.width in
    let p = chain_at trees c.args.chain.now in
    let whole = ap (map (tree_at trees)) c.as_slice-in-Bits.ensures ∙ c.in_ok-ordered.ensures.factors ∙ ap (λ (ids : List ℕ). in_order comes_before (map (tree_at trees) ids)) c.as_slice.ensures in
    of-sorts trees s c.as_slice-in-Bits.result.now
    (subst (AllByRecursion (HasSort s)) (sym whole) (ordered-fit s p (subst (λ (x : Sort). IsChainFor x p) c.in-Bits.is c.requires.fits)))
    (subst (AreBelow (length trees)) (sym c.as_slice-in-Bits.ensures) (recursion_from_All (λ (id : ℕ). id < length trees) c.in_ok-ordered.ordered.items c.in_ok-ordered.ensures.below))
