-- the terms that are visited are there, and what is left leads to the same end
use Rattle.std.proofs.Common.{◌≡◌, Contains, take, drop}
use Rattle.std.specs.Prelude.{All}
use Rattle.qv_store.specs.Walks.{named, IsWalk}
use Rattle.qv_trees.specs.Subtrees.{subtrees_behind}
use Rattle.qv_trees.proofs.copying.visit_all.Given as goal

abbrev pub invariant-terms : goal.invariant-terms
invariant-terms l =
    record {
      walk : IsWalk l.store l.walk;
      order : subtrees_behind (named l.store l.walk) (named l.store (drop l.id-index l.ids)) ≡ subtrees_behind (named l.store l.fn.walk) (named l.store l.ids);
      has : All (Contains l.walk) (take l.id-index l.ids);
    }
