-- the formulas so far are listed
use Rattle.std.proofs.Common.{◌≡◌, ◌-◌, length, take}
use Rattle.qv_store.specs.Walks.{named}
use Rattle.qv_choose.specs.Listing.{numbers_in, AreListed}
use Rattle.qv_choose.proofs.listing.listed.Given as goal

abbrev pub invariant-formulas : goal.invariant-formulas
invariant-formulas l = record {
  many : length l.lists.items ≡ l.fn.end - l.fn.first;
  listed : AreListed l.fn.first (named l.store (take l.number l.formulas)) (numbers_in l.lists.items);
}
