use Rattle.std.proofs.Common.{◌≡◌, ℕ, ◌+◌, ◌-◌, ◌<◌, Bool, not, List, map, length, drop, ap, sym, ◌∙◌, subst, arith}
use Rattle.std.specs.Prelude.{All}
use Rattle.std.specs.List.{insert}
use Rattle.std.proofs.lemmas.List.Elements.{recursion_from_All, All-from_recursion}
use Rattle.qv_words.specs.Sums.{comes_before, in_order}
use Rattle.qv_store.specs.Nodes.{tree_at}
use Rattle.qv_rewrite_sums.specs.Held.{place_or_end}
use Rattle.qv_rewrite_sums.proofs.Ordered.{factor-more, inserted}
use Rattle.qv_rewrite_sums.proofs.ordering.terms_in_order.Goals as goal

pub left-preserved : goal.left-preserved
left-preserved c =
    let trees = c.args.store.now in
    let factors = c.args.factors.now in
    let left : ℕ = c.left.left - 1 in
    let low : left < length factors = omega (arith, c.left-test.true, c.left.invariant.within) in
    let again : left + 1 ≡ c.left.left = omega (arith, c.left-test.true) in
    let x = c.index-factors-left.result in
    let old = c.left.ordered.items in
    let below : ℕ → Type 0 = λ id. id < length trees in
    let test : ℕ → Bool = λ other. not (comes_before (tree_at trees other) (tree_at trees x)) in
    let so : map (tree_at trees) old ≡ in_order comes_before (map (tree_at trees) (drop (left + 1) factors)) =
    c.left.invariant.order ∙ ap (λ (k : ℕ). in_order comes_before (map (tree_at trees) (drop k factors))) (sym again) in
    let place : c.place_of_factor-place.result ≡ place_or_end test old = c.place_of_factor-place.ensures.place ∙ ap (place_or_end test) c.as_slice.ensures in
    let put : c.insert.new.self.items ≡ insert old c.place_of_factor-place.result x = c.in_ok-insert.ensures.ok in
    let own : x < length trees = subst below (sym c.index-factors-left.is) (c.requires.below left x low) in
    record {
      within = omega (arith, c.left.invariant.within);
      order = factor-more trees factors old c.insert.new.self.items left low so x c.index-factors-left.is (put ∙ ap (λ (k : ℕ). insert old k x) place);
      below = subst (λ (ids : List ℕ). All below ids) (sym put)
          (All-from_recursion below (insert old c.place_of_factor-place.result x) (inserted below old c.place_of_factor-place.result x (recursion_from_All below old c.left.invariant.below) own));
    }
