-- what was made of the terms so far
use Rattle.std.proofs.Common.{◌≡◌, length}
use Rattle.qv_store.specs.Nodes.{tree_at}
use Rattle.qv_store.specs.Stores.{Grows}
use Rattle.qv_elab_macros.specs.PutIn.{with_args, ArePut}
use Rattle.qv_elab_macros.proofs.using.put_body.Given as goal

abbrev pub invariant-terms : goal.invariant-terms
invariant-terms l =
    record {
      grows : Grows l.fn.store l.store;
      many : length l.made.items ≡ l.term-index;
      right : ArePut l.store (with_args l.fn.store l.fn.binders l.fn.args) (tree_at l.fn.store) l.term-items l.made.items;
    }
