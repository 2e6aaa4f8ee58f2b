use Rattle.std.proofs.Common.{◌≡◌, ℕ, List, [], ◌∷◌, filter, ap, sym, ◌∙◌, subst, arith}
use Rattle.std.specs.Prelude.{OnOk}
use Rattle.qv_words.specs.Tree.{Tree, Apply}
use Rattle.qv_words.specs.Choice.{candidates_of, is_outside}
use Rattle.qv_store.specs.Nodes.{tree_at, trees_at, node_tree, children}
use Rattle.qv_store.proofs.Evaluation.{two-of}
use Rattle.qv_choose_paths.specs.Steps.{AreKids}
use Rattle.qv_choose_candidates.specs.Offers.{AddsOffers}
use Rattle.qv_choose_paths.proofs.SceneLaws.{kids-of}
use Rattle.qv_choose_candidates.proofs.BetweenLaws.{sides-of, not-two}
use Rattle.qv_choose_candidates.proofs.ListLaws.{adds-none}
use Rattle.qv_choose_candidates.proofs.offering.add_term.Goals as goal

pub add_between-requires-clause-sides : goal.add_between-requires-clause-sides
add_between-requires-clause-sides c =
    let own : children c.node.result.now ≡ c.as_slice.result.now = ap children c.in-App.is ∙ sym c.as_slice.ensures in
    let is : Apply c.in-App.op (trees_at c.args.store.now c.as_slice.result.now) ≡ tree_at c.args.store.now c.args.id =
    ap (λ ks. Apply c.in-App.op (trees_at c.args.store.now ks)) c.as_slice.ensures ∙ sym (ap (node_tree c.args.store.now) c.in-App.is) ∙ c.node.ensures.tree in
    let kids = kids-of c.args.store.now c.args.sight.now c.args.id c.in-App.op c.node.result.now c.as_slice.result.now c.requires.scene c.requires.id c.node.ensures.tree c.node.ensures.children own is in
    sides-of c.args.store.now c.args.sight.now c.args.id c.a-item.result c.b-item.result c.in-App.op c.requires.scene
    (subst (λ (ks : List ℕ). AreKids c.args.store.now c.args.sight.now.walk c.args.id c.in-App.op ks)
    (two-of c.as_slice.result.now c.a-item.result c.b-item.result c.in-len2.len_at_least c.in-len2.len_below c.a-item.is c.b-item.is) kids)

pub returns-in-len1 : goal.returns-in-len1
returns-in-len1 c =
    let is : Apply c.in-App.op (trees_at c.args.store.now c.as_slice.result.now) ≡ tree_at c.args.store.now c.args.id =
    ap (λ ks. Apply c.in-App.op (trees_at c.args.store.now ks)) c.as_slice.ensures ∙ sym (ap (node_tree c.args.store.now) c.in-App.is) ∙ c.node.ensures.tree in
    adds-none c.args.sight.now.place c.args.store.now c.args.sight.now.walk (candidates_of c.args.sight.now.place.level (tree_at c.args.store.now c.args.id)) c.args.offers.now.items
    (ap (filter (is_outside c.args.sight.now.place.first c.args.sight.now.place.end)) (ap (candidates_of c.args.sight.now.place.level) (sym is) ∙ not-two c.args.store.now c.args.sight.now.place.level c.in-App.op c.as_slice.result.now (λ e. omega (arith, e, c.in-len1.len_below))))

pub returns-in-len2 : goal.returns-in-len2
returns-in-len2 c =
    let is : Apply c.in-App.op (trees_at c.args.store.now c.as_slice.result.now) ≡ tree_at c.args.store.now c.args.id =
    ap (λ ks. Apply c.in-App.op (trees_at c.args.store.now ks)) c.as_slice.ensures ∙ sym (ap (node_tree c.args.store.now) c.in-App.is) ∙ c.node.ensures.tree in
    let two = two-of c.as_slice.result.now c.a-item.result c.b-item.result c.in-len2.len_at_least c.in-len2.len_below c.a-item.is c.b-item.is in
    let here : Apply c.in-App.op (trees_at c.args.store.now (c.a-item.result ∷ c.b-item.result ∷ [])) ≡ tree_at c.args.store.now c.args.id = ap (λ ks. Apply c.in-App.op (trees_at c.args.store.now ks)) (sym two) ∙ is in
    subst (λ (t : Tree). OnOk c.add_between.result (AddsOffers c.args.sight.now.place c.args.store.now c.args.sight.now.walk (candidates_of c.args.sight.now.place.level t) c.args.offers.now.items c.add_between.new.offers.items)) here c.add_between.ensures

pub returns-in-len3-up : goal.returns-in-len3-up
returns-in-len3-up c =
    let is : Apply c.in-App.op (trees_at c.args.store.now c.as_slice.result.now) ≡ tree_at c.args.store.now c.args.id =
    ap (λ ks. Apply c.in-App.op (trees_at c.args.store.now ks)) c.as_slice.ensures ∙ sym (ap (node_tree c.args.store.now) c.in-App.is) ∙ c.node.ensures.tree in
    adds-none c.args.sight.now.place c.args.store.now c.args.sight.now.walk (candidates_of c.args.sight.now.place.level (tree_at c.args.store.now c.args.id)) c.args.offers.now.items
    (ap (filter (is_outside c.args.sight.now.place.first c.args.sight.now.place.end)) (ap (candidates_of c.args.sight.now.place.level) (sym is) ∙ not-two c.args.store.now c.args.sight.now.place.level c.in-App.op c.as_slice.result.now (λ e. omega (arith, e, c.in-len3-up.len_at_least))))
