-- what was noted for the subtrees so far
use Rattle.std.proofs.Common.{take}
use Rattle.qv_store.specs.Walks.{named}
use Rattle.qv_choose.specs.Listing.{numbers_in}
use Rattle.qv_choose.proofs.Lists.{Noting}
use Rattle.qv_choose.proofs.listing.list_one.Given as goal

abbrev pub invariant-terms : goal.invariant-terms
invariant-terms l = Noting l.fn.first l.fn.number (named l.store (take l.term-index l.term-items)) (numbers_in l.fn.lists) (numbers_in l.lists)
