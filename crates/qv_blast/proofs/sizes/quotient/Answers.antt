use Rattle.std.proofs.Common.{arith}
use Rattle.qv_blast.proofs.Rooms.{scaled}
use Rattle.qv_blast.proofs.sizes.quotient.Goals as goal

pub returns-clause-clauses : goal.returns-clause-clauses
returns-clause-clauses c =
    scaled 18 14 c.args.width c.plus.result.clauses _ (omega (arith, c.saturating_add.ensures, c.times.ensures.clauses, c.times-2.ensures.clauses, c.plus.ensures.clauses)) c.times-3.ensures.clauses

pub returns-clause-lits : goal.returns-clause-lits
returns-clause-lits c =
    scaled 54 42 c.args.width c.plus.result.lits _ (omega (arith, c.saturating_add.ensures, c.times.ensures.lits, c.times-2.ensures.lits, c.plus.ensures.lits)) c.times-3.ensures.lits
