use Rattle.std.proofs.Common.{◌+◌, ◌++◌, List, map, drop, ap, ◌∙◌}
use Rattle.qv_words.specs.declared.sort.Sort.{Sort}
use Rattle.qv_words.specs.Problem.{places_of}
use Rattle.qv_store.specs.declared.problem.Quant.{Quant}
use Rattle.qv_store.specs.declared.problem.Quant.TheVariants.{Exists}
use Rattle.qv_store.specs.Problems.{place_of, quantifier_of}
use Rattle.qv_prenex.specs.Blocks.{sorts_in}
use Rattle.qv_prenex.specs.Prefixes.{constant_place, place_with}
use Rattle.qv_prenex.proofs.Prefixing.{prefix-more}
use Rattle.qv_prenex.proofs.prefix.prefix_of.Goals as goal

pub each-preserved : goal.each-preserved
each-preserved c =
    let bs = c.args.blocks.now in
    let pre = c.each.prefix.items in
    let block = c.block-item.result in
    ap (λ (q : Quant). map place_of c.push_places.new.prefix.items ++ places_of (quantifier_of q) (sorts_in (drop (c.each.block-index + 1) bs))) c.other-quant.ensures
    ∙ prefix-more (map constant_place c.args.constants.now ++ places_of (quantifier_of Exists) (sorts_in bs)) pre c.push_places.new.prefix.items c.each.quant bs c.each.block-index block
    c.each-test.true c.block-item.is
    (c.in_ok-push_places.ensures ∙ ap (λ (xs : List Sort). pre ++ map (place_with c.each.quant) xs) c.deref.ensures.value)
    c.each.invariant
