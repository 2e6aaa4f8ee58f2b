use Rattle.std.proofs.Common.{◌≡◌, ◌+◌, ◌-◌, ◌<◌, ◌≤◌, ℕ, List, [], length, refl, sym, ap, subst, ◌∙◌, arith, le_refl}
use Rattle.std.proofs.lemmas.List.Elements.{recursion_from_All, All-from_recursion}
use Rattle.std.proofs.lemmas.List.{length-map}
use Rattle.qv_words.specs.declared.word.Word.{Word}
use Rattle.qv_words.specs.Word.{word_sort, sorts_of, values_of}
use Rattle.qv_words.specs.Choice.{IsTrueAt}
use Rattle.qv_store.specs.Nodes.{tree_at}
use Rattle.qv_store.specs.Walks.{named}
use Rattle.qv_choose_paths.specs.Sights.{IsRegion}
use Rattle.qv_choose.specs.Conjuncts.{ArePicked}
use Rattle.qv_choose.specs.Listing.{numbers_in}
use Rattle.qv_choose_clauses.proofs.Stores.{grows-itself}
use Rattle.qv_choose.proofs.GoingLaws.{IsGoing, start-going, going-on, whole-going, own-picked}
use Rattle.qv_choose.specs.Parts.{IsPartChoice}
use Rattle.qv_choose.proofs.choosing.choose_each.Goals as goal

pub places-init : goal.places-init
places-init c = record {
  low = le_refl c.args.first;
  point = refl;
  put = refl;
  so_far = subst (λ (ids : List ℕ). IsGoing c.args.point.now c.args.first c.args.end c.args.store.now c.args.parts.now c.args.store.now c.args.parts.now c.args.first ids (numbers_in c.args.lists.now)) (sym c.new-terms.ensures.items)
      (start-going c.args.point.now c.args.first c.args.end c.args.store.now c.args.parts.now (numbers_in c.args.lists.now) c.requires.shared (grows-itself c.args.store.now)
      (recursion_from_All (IsRegion c.args.point.now c.args.store.now) c.args.parts.now c.requires.regions)
      (recursion_from_All (λ id. IsTrueAt (values_of c.args.point.now) (tree_at c.args.store.now id)) c.args.parts.now c.requires.hold) c.requires.listed);
}

pub choose_next-requires-clause-picked : goal.choose_next-requires-clause-picked
choose_next-requires-clause-picked c =
    let within : c.places.level - c.args.first < length c.args.lists.now = omega (arith, c.requires.many, c.places-test.true, c.places.invariant.low) in
    let picked = subst (λ (ns : List ℕ). ArePicked c.places.level 0 (named c.places.store c.places.parts) ns) (sym c.deref.ensures.value)
    (own-picked c.args.first c.places.level (named c.places.store c.places.parts) c.args.lists.now c.index-lists-level.result c.places.invariant.low within c.index-lists-level.is c.places.invariant.so_far.listed) in
    picked

pub places-preserved : goal.places-preserved
places-preserved c =
    let within : c.places.level - c.args.first < length c.args.lists.now = omega (arith, c.requires.many, c.places-test.true, c.places.invariant.low) in
    let picked = subst (λ (ns : List ℕ). ArePicked c.places.level 0 (named c.places.store c.places.parts) ns) (sym c.deref.ensures.value)
    (own-picked c.args.first c.places.level (named c.places.store c.places.parts) c.args.lists.now c.index-lists-level.result c.places.invariant.low within c.index-lists-level.is c.places.invariant.so_far.listed) in
    let low : c.places.level < length c.args.point.now = omega (arith, c.places-test.true, c.requires.point) in
    let long : c.args.first + length (numbers_in c.args.lists.now) ≤ c.args.end = omega (arith, c.requires.many, length-map c.args.lists.now (λ v. v.items), c.requires.block) in
    let choice = subst (λ (point : List Word). IsPartChoice point (record { first = c.args.first; end = c.args.end; level = c.places.level }) c.places.store c.places.parts c.deref.result.now c.choose_next.new.store c.in_ok-term.term) c.places.invariant.point c.in_ok-term.ensures.choice in
    record {
      low = omega (arith, c.places.invariant.low);
      point = c.in_ok-term.ensures.point ∙ c.places.invariant.point;
      put = c.in_ok-term.ensures.put ∙ c.places.invariant.put;
      so_far = going-on c.args.point.now c.args.first c.args.end c.args.store.now c.args.parts.now c.places.store c.places.parts c.places.level c.places.terms.items (numbers_in c.args.lists.now) c.deref.result.now c.choose_next.new.store c.choose_next.new.parts c.push.new.self.items c.in_ok-term.term
          c.places.invariant.so_far choice c.in_ok-term.ensures.parts c.choose_next.ensures.grows c.in_ok-term.ensures.shared low long picked c.in_ok-push.ensures.items;
    }

pub returns-clause-chosen : goal.returns-clause-chosen
returns-clause-chosen c = λ region h.
    let long : length (sorts_of c.args.point.now) ≤ c.places.level = omega (arith, length-map c.args.point.now word_sort, c.requires.point, c.places-test.false) in
    whole-going c.args.point.now c.args.first c.args.end c.args.store.now c.args.parts.now c.places.store c.places.parts c.places.level c.places.terms.items (numbers_in c.args.lists.now) c.places.invariant.so_far long region h
