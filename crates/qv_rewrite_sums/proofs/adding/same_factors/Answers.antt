use Rattle.std.proofs.Common.{◌≡◌, ◌+◌, ◌==◌, ℕ, List, Some, None, map, drop, ap, sym, ◌∙◌, subst}
use Rattle.qv_words.specs.Sums.{same_factors}
use Rattle.qv_store.specs.Nodes.{tree_at}
use Rattle.qv_rewrite_sums.specs.Held.{first_place, IsWord, AreWords}
use Rattle.qv_rewrite_sums.proofs.Held.{at-mapped}
use Rattle.qv_rewrite_sums.proofs.Alike.{same-taken, same-missing, same-on, removed-mapped}
use Rattle.qv_rewrite_sums.proofs.adding.same_factors.Goals as goal

pub factors-init : goal.factors-init
factors-init c = record {
  same = ap (λ (ids : List ℕ). same_factors (map (tree_at c.args.store.now) c.args.a.now) (map (tree_at c.args.store.now) ids)) c.in_ok-left.ensures.ok;
  words = subst (λ (ids : List ℕ). AreWords c.args.width (map (tree_at c.args.store.now) ids)) (sym c.in_ok-left.ensures.ok) c.requires.b;
}

pub returns-in-None : goal.returns-in-None
returns-in-None c =
    let trees = c.args.store.now in
    let x = c.id-item.result in
    let left = c.factors.left.items in
    let k = c.factors.id-index in
    let word = at-mapped (IsWord c.args.width) (tree_at trees) c.args.a.now k x c.requires.a c.factors-test.true c.id-item.is in
    let none : first_place (λ (m : ℕ). m == x) left ≡ None = ap (first_place (λ (m : ℕ). m == x)) (sym c.as_slice.ensures) ∙ sym c.in-None.ensures.place in
    sym (sym c.factors.invariant.same ∙ sym (same-on trees c.args.a.now left k x c.factors-test.true c.id-item.is)
    ∙ same-missing trees c.args.width x (drop (k + 1) c.args.a.now) left c.requires.shared word c.factors.invariant.words none)

pub factors-preserved : goal.factors-preserved
factors-preserved c =
    let trees = c.args.store.now in
    let x = c.id-item.result in
    let left = c.factors.left.items in
    let k = c.factors.id-index in
    let word = at-mapped (IsWord c.args.width) (tree_at trees) c.args.a.now k x c.requires.a c.factors-test.true c.id-item.is in
    let at : first_place (λ (m : ℕ). m == x) left ≡ Some c.in-Some.place = ap (first_place (λ (m : ℕ). m == x)) (sym c.as_slice.ensures) ∙ sym c.in-Some.ensures.place in
    record {
      same = ap (λ (ids : List ℕ). same_factors (map (tree_at trees) (drop (k + 1) c.args.a.now)) (map (tree_at trees) ids)) c.remove.ensures.items
          ∙ sym (same-taken trees c.args.width x c.in-Some.place (drop (k + 1) c.args.a.now) left c.requires.shared word c.factors.invariant.words at)
          ∙ same-on trees c.args.a.now left k x c.factors-test.true c.id-item.is ∙ c.factors.invariant.same;
      words = subst (λ (ids : List ℕ). AreWords c.args.width (map (tree_at trees) ids)) (sym c.remove.ensures.items) (removed-mapped (IsWord c.args.width) (tree_at trees) left c.in-Some.place c.factors.invariant.words);
    }
