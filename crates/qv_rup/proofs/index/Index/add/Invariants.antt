use Rattle.std.proofs.Common.{◌≡◌, length, take}
use Rattle.qv_cnf.specs.Listing.{Numbered}
use Rattle.qv_rup.specs.Indexing.{ids_in, IsFiled}
use Rattle.qv_rup.proofs.index.Index.add.Given as goal

-- the clause stands in the lists of the literals so far
abbrev pub invariant-filing : goal.invariant-filing
invariant-filing l = record {
  long : length l.self.lists.items ≡ length l.fn.self.lists.items;
  stay : (c : Numbered) → IsFiled (ids_in l.fn.self.lists.items) c → IsFiled (ids_in l.self.lists.items) c;
  filed : IsFiled (ids_in l.self.lists.items) (record { id = l.id; lits = take l.lit-index l.lits });
}
