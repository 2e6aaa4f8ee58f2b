use Rattle.std.proofs.Common.{◌+◌, ◌<◌, ◌^◌, ◌≡◌, Bool, true, false, not, cond, [], ◌∷◌, ◌++◌, Some, length, slice_get, refl, ap, sym, ◌∙◌, subst, arith}
use Rattle.std.specs.List.{list_any}
use Rattle.qv_words.specs.Sorted.{IsSorted}
use Rattle.qv_store.specs.declared.node.Node.{Node}
use Rattle.qv_store.specs.Nodes.{node_tree, children, HasChildrenBelow}
use Rattle.qv_store.specs.Facts.{deepest, sort_over, is_quantified_over}
use Rattle.qv_store.specs.Kept.{trees_of, IsKept}
use Rattle.qv_store.proofs.Same.{node_eq}
use Rattle.qv_store.proofs.Keeping.{IsPut, kept-push, put-seen, sorted-over, shallow-over}
use Rattle.qv_store.proofs.store.Store.put.Goals as goal
use Rattle.qv_store.proofs.store.Store.put.Goals.{then-added, else-added}

pub of-facts-requires-clause-sorted : goal.of-facts-requires-clause-sorted
of-facts-requires-clause-sorted c =
    sorted-over c.self.inside.nodes.keys c.self.inside.facts.items c.deref.result.now c.args.node c.args.self.now c.self.invariant c.self.view_is c.deref.ensures.value c.requires.children c.requires.sorted

pub of-facts-requires-clause-shallow : goal.of-facts-requires-clause-shallow
of-facts-requires-clause-shallow c =
    let low = shallow-over c.self.inside.nodes.keys c.self.inside.facts.items c.deref.result.now c.args.node c.args.self.now c.self.invariant c.self.view_is c.deref.ensures.value c.requires.children in
    omega (arith, low, c.self.invariant.few, c.len.ensures.len)

absent : (a b : Bool) → a ≡ not b → a ≡ true → b ≡ false
absent a true e h = absurd (cc)
absent a false e h = refl

pub invariant_of-self-then-added : goal.invariant_of-self-then-added
invariant_of-self-then-added c =
    let nodes = c.self.inside.nodes.keys in
    let beside = c.self.inside.facts.items in
    let node = c.args.node in
    let none : list_any (node_eq node) nodes ≡ false = absent c.in_ok-number.added (list_any (node_eq node) nodes) c.in_ok-number.ensures.added c.if-added.true in
    let keys : c.insert_full.new.self.keys ≡ nodes ++ node ∷ [] = c.in_ok-number.ensures.keys ∙ ap (λ b. cond b nodes (nodes ++ node ∷ [])) none in
    let before : c.deref.result.now ≡ beside = c.deref.ensures.value in
    let items : c.push_reserved.new.self.items ≡ beside ++ c.of-facts.result ∷ [] = c.push_reserved.ensures.items ∙ ap (λ b. b ++ c.of-facts.result ∷ []) c.in_ok-reserve.ensures.items in
    let few : length nodes + 1 < 2 ^ 32 = omega (arith, c.self.invariant.few, c.len.ensures.len) in
    let kids = subst (λ ts. HasChildrenBelow (length ts) node) (sym c.self.view_is) c.requires.children in
    let sorted = subst (λ ts. IsSorted (node_tree ts node)) (sym c.self.view_is) c.requires.sorted in
    let made = kept-push nodes beside node c.of-facts.result c.self.invariant kids sorted none few
    (subst (λ b. sort_over b node ≡ Some c.of-facts.result.sort) before c.of-facts.ensures.sort)
    (subst (λ b. c.of-facts.result.depth ≡ deepest b (children node) + 1) before c.of-facts.ensures.depth)
    (subst (λ b. c.of-facts.result.quantified ≡ is_quantified_over b node) before c.of-facts.ensures.quantified) in
    subst (λ b. IsKept c.insert_full.new.self.keys b) (sym items) (subst (λ ns. IsKept ns (beside ++ c.of-facts.result ∷ [])) (sym keys) made)

put : (c : goal.After-of) → IsPut c.args.self.now c.if-added.self (node_tree c.args.self.now c.args.node) c.of.result
put c =
    let at : (found : Node) × (slice_get c.insert_full.new.self.keys c.in_ok-number.number ≡ Some found) × (node_eq c.args.node found ≡ true) = c.in_ok-number.ensures.stored in
    let number : c.of.result ≡ c.in_ok-number.number = c.of.ensures in
    let made : c.if-added.self ≡ trees_of c.insert_full.new.self.keys = elim c.if-added.branch [ then-added w ↦ w.self-is | else-added w ↦ w.self-is ] in
    let all = put-seen c.self.inside.nodes.keys c.insert_full.new.self.keys c.self.inside.facts.items c.args.node at.0 c.in_ok-number.number c.args.self.now c.if-added.self
    c.self.invariant c.self.view_is c.requires.children c.requires.sorted c.in_ok-number.ensures.keys at.1 at.2 made in
    subst (λ n. IsPut c.args.self.now c.if-added.self (node_tree c.args.self.now c.args.node) n) (sym number) all

pub returns-clause-id : goal.returns-clause-id
returns-clause-id c = (put c).id

pub returns-clause-ok : goal.returns-clause-ok
returns-clause-ok c = (put c).ok

pub returns-clause-grows : goal.returns-clause-grows
returns-clause-grows c = (put c).grows

pub returns-clause-shared : goal.returns-clause-shared
returns-clause-shared c = (put c).shared
