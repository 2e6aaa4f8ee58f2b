-- on the way down
use Rattle.std.proofs.Common.{◌≡◌, ◌<◌, length}
use Rattle.qv_words.specs.Tree.{tree_sort}
use Rattle.qv_words.specs.Choice.{descend}
use Rattle.qv_store.specs.Nodes.{tree_at}
use Rattle.qv_store.specs.Stores.{Grows}
use Rattle.qv_store.specs.Walks.{IsEarlier}
use Rattle.qv_choose_paths.specs.declared.ways.Way.TheVariants.{Open}
use Rattle.qv_choose_paths.specs.Looks.{way_of}
use Rattle.qv_choose_paths.specs.Sights.{IsScene}
use Rattle.qv_choose_paths.proofs.descending.put_down.Given as goal

abbrev pub invariant-down : goal.invariant-down
invariant-down l = record {
  grows : Grows l.fn.store l.store;
  scene : IsScene l.store l.sight;
  at : IsEarlier l.sight.walk (length l.sight.walk) l.at;
  way : way_of l.sight.place (tree_at l.store l.at) ≡ Open;
  made : l.made < length l.store;
  sort : tree_sort (tree_at l.store l.made) ≡ tree_sort (tree_at l.store l.at);
  goes : descend l.sight.place.level (tree_at l.fn.store l.fn.id) (tree_at l.fn.store l.fn.target) ≡ descend l.sight.place.level (tree_at l.store l.at) (tree_at l.store l.made);
}

abbrev pub decreases-down : goal.decreases-down
decreases-down l = l.at
