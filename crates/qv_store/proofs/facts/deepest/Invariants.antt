-- the greatest depth so far, and of what is left
use Rattle.std.proofs.Common.{◌≡◌, max, drop}
use Rattle.qv_store.specs.Facts.{deepest}
use Rattle.qv_store.proofs.facts.deepest.Given as goal

abbrev pub invariant-kids : goal.invariant-kids
invariant-kids l = max l.depth (deepest l.before (drop l.kid-index l.kids)) ≡ deepest l.before l.kids
