use Rattle.std.proofs.Common.{◌≡◌, ℕ, [], ◌∷◌, ◌++◌, List, reverse, ap, subst, sym, ◌∙◌, arith}
use Rattle.std.proofs.lemmas.List.{reverse-append}
use Rattle.qv_store.specs.Nodes.{tree_at}
use Rattle.qv_store.proofs.Visiting.{popped-none}
use Rattle.qv_choose.specs.Splitting.{IsSplit}
use Rattle.qv_choose.proofs.Splits.{first-split, whole-split}
use Rattle.qv_choose.proofs.splitting.split.Goals as goal

pub waiting-init : goal.waiting-init
waiting-init c =
    let trees = c.args.store.now in
    let first : reverse c.push.new.self.items ≡ c.args.region ∷ [] = ap reverse (c.in_ok-push.ensures.items ∙ ap (λ ids. ids ++ c.args.region ∷ []) c.new-waiting.ensures.items) in
    subst (λ (ids : List ℕ). IsSplit trees (tree_at trees c.args.region) (reverse c.push.new.self.items) ids) (sym c.new-parts.ensures.items)
    (subst (λ (ids : List ℕ). IsSplit trees (tree_at trees c.args.region) ids []) (sym first) (first-split trees c.args.region c.requires.region))

pub waiting-preserved : goal.waiting-preserved
waiting-preserved c =
    let trees = c.args.store.now in
    let popped : reverse c.waiting.waiting.items ≡ c.in-Some.next ∷ reverse c.pop.new.self.items = ap reverse c.in-Some.ensures.items ∙ reverse-append c.pop.new.self.items (c.in-Some.next ∷ []) in
    c.in_ok-split_next.ensures.split (tree_at trees c.args.region)
    (subst (λ (ids : List ℕ). IsSplit trees (tree_at trees c.args.region) ids c.waiting.parts.items) popped c.waiting.invariant)

pub returns-clause-conjuncts : goal.returns-clause-conjuncts
returns-clause-conjuncts c =
    let trees = c.args.store.now in
    let none : c.waiting.waiting.items ≡ [] = popped-none c.waiting.waiting.items c.pop.result (λ h. c.pop.ensures.variant.1 (omega (arith, h, c.waiting.waiting.ok.0))) c.in_default.not-Some in
    whole-split trees (tree_at trees c.args.region) c.waiting.parts.items
    (subst (λ (ids : List ℕ). IsSplit trees (tree_at trees c.args.region) (reverse ids) c.waiting.parts.items) none c.waiting.invariant)
