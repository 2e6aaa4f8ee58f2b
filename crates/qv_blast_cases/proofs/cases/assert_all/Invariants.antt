use Rattle.qv_blast.specs.States.{IsBlaster}
use Rattle.qv_blast_cases.proofs.cases.assert_all.Given as goal

abbrev pub invariant-ids : goal.invariant-ids
invariant-ids l = IsBlaster l.store l.blaster
