use Rattle.std.proofs.Common.{◌≡◌, ◌+◌, ◌<◌, ◌≤◌, ℕ, List, Option, length, slice_index_or, refl, sym, ap, subst, ◌∙◌, arith}
use Rattle.std.specs.List.{AllByRecursion}
use Rattle.std.proofs.lemmas.List.Elements.{recursion_from_All, All-from_recursion}
use Rattle.qv_store.specs.Nodes.{tree_at}
use Rattle.qv_store.specs.Walks.{named}
use Rattle.qv_store.proofs.Replacement.{grows-more}
use Rattle.qv_choose_clauses.proofs.Stores.{grows-itself}
use Rattle.qv_choose.specs.Parts.{Takes}
use Rattle.qv_words.proofs.Elements.{all-at}
use Rattle.qv_words.specs.Sorted.{no_levels, with_level}
use Rattle.qv_words.specs.Tree.{Tree}
use Rattle.qv_words.specs.Replacement.{HasTheirSorts}
use Rattle.qv_choose_clauses.proofs.Stores.{tree-grows}
use Rattle.qv_choose.proofs.GoingLaws.{by-tree}
use Rattle.qv_choose.proofs.PartLaws.{put-none, part-takes, part-put, all-put, at-number, length-set}
use Rattle.qv_choose.proofs.parting.put_each.Goals as goal

pub numbers-init : goal.numbers-init
numbers-init c = record {
  grows = grows-itself c.args.store.now;
  put = refl;
  many = refl;
  below = recursion_from_All (λ id. id < length c.args.store.now) c.args.parts.now c.requires.below;
  putting = put-none c.args.level (tree_at c.args.store.now c.args.term) (named c.args.store.now c.args.parts.now) c.args.numbers.now c.requires.picked;
}

pub put_one-requires-clause-region : goal.put_one-requires-clause-region
put_one-requires-clause-region c =
    let old = c.args.store.now in
    let trees = c.numbers.store in
    let u = tree_at old c.args.term in
    let was = named old c.args.parts.now in
    let ns = c.args.numbers.now in
    let k = c.numbers.number-index in
    let n : ℕ = slice_index_or ns k 0 in
    let id : ℕ = c.index-parts-number.result in
    let within : n < length c.numbers.parts = omega (arith, c.requires.numbers k 0 c.numbers-test.true, c.numbers.invariant.many) in
    all-at (λ i. i < length trees) c.numbers.parts n id c.numbers.invariant.below (at-number c.numbers.parts n id within c.index-parts-number.is)

pub put_one-requires-clause-free : goal.put_one-requires-clause-free
put_one-requires-clause-free c =
    let old = c.args.store.now in
    let trees = c.numbers.store in
    let u = tree_at old c.args.term in
    let was = named old c.args.parts.now in
    let ns = c.args.numbers.now in
    let k = c.numbers.number-index in
    let n : ℕ = slice_index_or ns k 0 in
    let id : ℕ = c.index-parts-number.result in
    let all = by-tree (Takes c.args.level u) old c.args.parts.now (recursion_from_All (λ i. Takes c.args.level u (tree_at old i)) c.args.parts.now c.requires.fit) in
    let takes = part-takes c.args.level u was trees c.numbers.parts ns k n c.numbers-test.true refl c.numbers.invariant.putting id c.index-parts-number.is all in
    takes.free

pub put_one-requires-clause-sorts : goal.put_one-requires-clause-sorts
put_one-requires-clause-sorts c =
    let old = c.args.store.now in
    let trees = c.numbers.store in
    let u = tree_at old c.args.term in
    let was = named old c.args.parts.now in
    let ns = c.args.numbers.now in
    let k = c.numbers.number-index in
    let n : ℕ = slice_index_or ns k 0 in
    let id : ℕ = c.index-parts-number.result in
    let all = by-tree (Takes c.args.level u) old c.args.parts.now (recursion_from_All (λ i. Takes c.args.level u (tree_at old i)) c.args.parts.now c.requires.fit) in
    let takes = part-takes c.args.level u was trees c.numbers.parts ns k n c.numbers-test.true refl c.numbers.invariant.putting id c.index-parts-number.is all in
    subst (λ (t : Tree). HasTheirSorts (with_level no_levels c.args.level t) (tree_at trees id)) (sym (tree-grows old trees c.args.term c.numbers.invariant.grows c.requires.term)) takes.sorts

pub numbers-preserved : goal.numbers-preserved
numbers-preserved c =
    let old = c.args.store.now in
    let trees = c.numbers.store in
    let u = tree_at old c.args.term in
    let was = named old c.args.parts.now in
    let ns = c.args.numbers.now in
    let k = c.numbers.number-index in
    let n : ℕ = slice_index_or ns k 0 in
    let id : ℕ = c.index-parts-number.result in
    let made : ℕ = c.in_ok-parts.field-0 in
    let new = c.put_one.new.store in
    let put = part-put c.args.level u was trees c.numbers.parts ns k n c.numbers-test.true refl c.numbers.invariant.putting id c.index-parts-number.is new made (tree_at trees c.args.term)
    c.put_one.ensures.grows c.numbers.invariant.below (tree-grows old trees c.args.term c.numbers.invariant.grows c.requires.term) c.in_ok-parts.ensures.id in
    record {
      grows = grows-more old trees new c.numbers.invariant.grows c.put_one.ensures.grows;
      put = c.in_ok-parts.ensures.same ∙ c.numbers.invariant.put;
      many = length-set c.numbers.parts n made ∙ c.numbers.invariant.many;
      below = put.1;
      putting = put.0;
    }

pub returns-clause-parts : goal.returns-clause-parts
returns-clause-parts c =
    let old = c.args.store.now in
    let long : length c.args.numbers.now ≤ c.numbers.number-index = omega (arith, c.numbers-test.false) in
    all-put c.args.level (tree_at old c.args.term) (named old c.args.parts.now) (named c.numbers.store c.numbers.parts) c.args.numbers.now c.numbers.number-index long c.numbers.invariant.putting
