-- on the way down
use Rattle.std.proofs.Common.{◌≡◌, List, [], Some, length}
use Rattle.qv_words.specs.declared.word.Word.{Word}
use Rattle.qv_words.specs.Word.{word_sort}
use Rattle.qv_words.specs.Tree.{Tree, tree_sort}
use Rattle.qv_store.specs.Nodes.{tree_at}
use Rattle.qv_store.specs.Walks.{IsEarlier}
use Rattle.qv_store.specs.Evaluating.{IsWordOf, AreWords}
use Rattle.qv_choose_paths.specs.declared.ways.Way.TheVariants.{Open}
use Rattle.qv_choose_paths.specs.Looks.{way_of}
use Rattle.qv_choose_paths.specs.Steps.{IsOnTheWay}
use Rattle.qv_choose_paths.proofs.descending.word_down.Given as goal

abbrev pub invariant-down : goal.invariant-down
invariant-down l = record {
  at : IsEarlier l.trial.sight.walk (length l.trial.sight.walk) l.at;
  way : way_of l.trial.sight.place (tree_at l.store l.at) ≡ Open;
  sort : tree_sort (tree_at l.store l.at) ≡ Some (word_sort l.target);
  goes : (point : List Word) (t : Tree) → AreWords [] point l.store l.trial.sight.walk l.trial.words.items → IsWordOf [] point t l.fn.word → IsOnTheWay l.trial.sight.place l.store l.fn.id l.at point t l.target;
}

abbrev pub decreases-down : goal.decreases-down
decreases-down l = l.at
