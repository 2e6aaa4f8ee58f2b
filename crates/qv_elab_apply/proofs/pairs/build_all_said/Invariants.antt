-- what is said of the first pairs is there
use Rattle.std.proofs.Common.{◌≡◌, ◌<◌, All, map, take, length}
use Rattle.qv_store.specs.Stores.{Grows}
use Rattle.qv_store.specs.Walks.{named}
use Rattle.qv_elab_apply.specs.Chained.{both_at, said_of}
use Rattle.qv_elab_apply.proofs.pairs.build_all_said.Given as goal

abbrev pub invariant-pairs : goal.invariant-pairs
invariant-pairs l =
    record {
      grows : Grows l.fn.store l.store;
      below : All (λ id. id < length l.store) l.ids.items;
      ids : named l.store l.ids.items ≡ map (λ pair. said_of l.fn.same (both_at l.fn.store pair)) (take l.pair-index l.pairs);
    }
