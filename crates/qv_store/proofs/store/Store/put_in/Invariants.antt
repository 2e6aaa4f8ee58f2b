-- what was made of the terms so far
use Rattle.std.proofs.Common.{◌≡◌, length}
use Rattle.qv_store.specs.Nodes.{tree_at}
use Rattle.qv_store.specs.Stores.{Grows}
use Rattle.qv_store.specs.Replacing.{put_by_level, AreMade}
use Rattle.qv_store.proofs.store.Store.put_in.Given as goal

abbrev pub invariant-terms : goal.invariant-terms
invariant-terms l =
    record {
      grows : Grows l.fn.self l.self;
      many : length l.made.items ≡ l.term-index;
      right : AreMade l.self (put_by_level l.fn.self l.terms) (tree_at l.fn.self) l.term-items l.made.items;
    }
