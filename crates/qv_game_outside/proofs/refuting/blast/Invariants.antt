-- the blaster has the formulas so far
use Rattle.std.proofs.Common.{take}
use Rattle.qv_blast.specs.States.{HasFormulas}
use Rattle.qv_store.specs.Walks.{named}
use Rattle.qv_game_outside.proofs.refuting.blast.Given as goal

abbrev pub invariant-blasted : goal.invariant-blasted
invariant-blasted l = HasFormulas l.store (named l.store (take l.formula-index l.formulas)) l.blaster
