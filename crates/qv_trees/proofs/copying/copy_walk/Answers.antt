use Rattle.std.proofs.Common.{◌≤◌, ◌∙◌, Contains, List, ap, arith, length}
use Rattle.std.proofs.lemmas.List.{length-map}
use Rattle.std.proofs.lemmas.List.Elements.{All-weaker}
use Rattle.qv_words.specs.Tree.{Tree}
use Rattle.qv_store.specs.Nodes.{tree_at}
use Rattle.qv_store.specs.Walks.{named, IsEarlier}
use Rattle.qv_store.proofs.Passes.{contains-earlier, earlier-in}
use Rattle.qv_trees.proofs.Placing.{places-named, places-below}
use Rattle.qv_trees.proofs.copying.copy_walk.Goals as goal

pub places_of-requires : goal.places_of-requires
places_of-requires c =
    let walk = c.args.walk.now in
    let copied = c.copy_all.new.copied in
    let many : length walk ≤ length copied = omega (arith, ap length c.in_ok-copy_all.ensures, length-map walk (tree_at c.args.store.now)) in
    All-weaker (Contains walk) (IsEarlier walk (length copied)) (λ n h. earlier-in walk (length walk) (length copied) n many (contains-earlier walk n h)) c.args.ids.now c.requires.has

pub returns-clause-ids : goal.returns-clause-ids
returns-clause-ids c =
    ap (λ (trees : List Tree). named trees c.in_ok-ids.ids.items) c.in_ok-copy_all.ensures
    ∙ places-named c.args.store.now c.args.walk.now (length c.copy_all.new.copied) c.args.ids.now c.in_ok-ids.ids.items c.in_ok-ids.ensures

pub returns-clause-below : goal.returns-clause-below
returns-clause-below c = places-below c.args.store.now c.args.walk.now (length c.copy_all.new.copied) c.args.ids.now c.in_ok-ids.ids.items c.in_ok-ids.ensures
