use Rattle.std.proofs.Common.{◌≡◌, take}
use Rattle.qv_cnf.specs.Listing.{without}
use Rattle.qv_watch.specs.TrailState.{TrailState}
use Rattle.qv_sat.proofs.reduce.detach_all.Given as goal

abbrev pub invariant-ids : goal.invariant-ids
invariant-ids l = let now : TrailState = l.trail in let old : TrailState = l.fn.trail in
    now ≡ record { room = old.room; clauses = without (take l.id-index l.ids) old.clauses; entries = old.entries; level = old.level; answer = now.answer }
