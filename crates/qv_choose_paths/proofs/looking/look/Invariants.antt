-- what the terms so far show
use Rattle.std.proofs.Common.{◌≡◌, length}
use Rattle.qv_choose_paths.specs.Looks.{AreLooks}
use Rattle.qv_choose_paths.proofs.looking.look.Given as goal

abbrev pub invariant-terms : goal.invariant-terms
invariant-terms l = record { many : length l.looks.items ≡ l.term-index; right : AreLooks l.place l.store l.term-items l.looks.items }
