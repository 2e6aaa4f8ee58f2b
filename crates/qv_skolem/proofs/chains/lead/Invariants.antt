-- the first chains are led
use Rattle.std.proofs.Common.{◌≡◌, ◌<◌, length}
use Rattle.std.specs.Prelude.{IfSome, option_map}
use Rattle.qv_store.specs.Nodes.{tree_at}
use Rattle.qv_store.specs.Stores.{Grows}
use Rattle.qv_store.specs.Replacing.{put_by_level}
use Rattle.qv_entries.specs.Rows.{entry_in, row_of}
use Rattle.qv_skolem.specs.Chains.{led_by}
use Rattle.qv_skolem.proofs.Leading.{AreLedTo}
use Rattle.qv_skolem.proofs.chains.lead.Given as goal

abbrev pub invariant-places : goal.invariant-places
invariant-places l = record {
  grows : Grows l.fn.store l.store;
  region : option_map (tree_at l.store) l.region ≡ led_by (put_by_level l.fn.store l.slots) l.behind (entry_in l.fn.store (row_of l.entry));
  below : IfSome l.region (λ r. r < length l.store);
  led : AreLedTo l.fn.store l.store (put_by_level l.fn.store l.slots) (led_by (put_by_level l.fn.store l.slots) l.behind (entry_in l.fn.store (row_of l.entry))) (entry_in l.fn.store (row_of l.entry)) l.fn.chains l.chains l.place;
}
