-- the reach of the first terms
use Rattle.std.proofs.Common.{List, take}
use Rattle.qv_words.specs.Tree.{Tree}
use Rattle.qv_store.specs.Nodes.{trees_at}
use Rattle.qv_prenex_splits.specs.Memos.{AreWithin, AreKept}
use Rattle.qv_prenex_splits.proofs.memo.reach_of_all.Given as goal

abbrev pub invariant-kids : goal.invariant-kids
invariant-kids l = (trees : List Tree) → AreKept trees l.made → AreWithin l.reach (trees_at trees (take l.kid-index l.kids))
