use Rattle.qv_blast.specs.States.{IsBlaster}
use Rattle.qv_blast_cases.proofs.cases.assert_in_turn.Given as goal

abbrev pub invariant-parts : goal.invariant-parts
invariant-parts l = IsBlaster l.store l.blaster
