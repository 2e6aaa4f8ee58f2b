-- no numbers so far
use Rattle.std.proofs.Common.{◌≡◌, length}
use Rattle.qv_choose.specs.Listing.{numbers_in, AreLess}
use Rattle.qv_choose.proofs.listing.empty.Given as goal

abbrev pub invariant-lists : goal.invariant-lists
invariant-lists l = record { many : length l.lists.items ≡ l._count; none : AreLess 0 (numbers_in l.lists.items) }
