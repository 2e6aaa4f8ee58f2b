use Rattle.std.proofs.Common.{arith}
use Rattle.qv_blast.proofs.Rooms.{doubled, square}
use Rattle.qv_blast.proofs.sizes.test.Goals as goal

pub returns-in-BvUmulo-clause-clauses : goal.returns-in-BvUmulo-clause-clauses
returns-in-BvUmulo-clause-clauses c = rw (c.in-BvUmulo.is, square)
    (omega (arith, c.saturating_mul.ensures, doubled c.args.width c.saturating_mul.result (omega (arith, c.saturating_mul.ensures)), c.product.ensures.clauses, c.folded.ensures.clauses, c.plus-in-BvUmulo.ensures.clauses))

pub returns-in-BvUmulo-clause-lits : goal.returns-in-BvUmulo-clause-lits
returns-in-BvUmulo-clause-lits c = rw (c.in-BvUmulo.is, square)
    (omega (arith, c.saturating_mul.ensures, doubled c.args.width c.saturating_mul.result (omega (arith, c.saturating_mul.ensures)), c.product.ensures.lits, c.folded.ensures.lits, c.plus-in-BvUmulo.ensures.lits))

pub returns-in-BvSmulo-clause-clauses : goal.returns-in-BvSmulo-clause-clauses
returns-in-BvSmulo-clause-clauses c = rw (c.in-BvSmulo.is, square)
    (omega (arith, c.saturating_mul-in-BvSmulo.ensures, doubled c.args.width c.saturating_mul-in-BvSmulo.result (omega (arith, c.saturating_mul-in-BvSmulo.ensures)), c.product-in-BvSmulo.ensures.clauses, c.times-in-BvSmulo.ensures.clauses, c.plus-in-BvSmulo.ensures.clauses, c.folded-in-BvSmulo.ensures.clauses, c.plus-in-BvSmulo-2.ensures.clauses))

pub returns-in-BvSmulo-clause-lits : goal.returns-in-BvSmulo-clause-lits
returns-in-BvSmulo-clause-lits c = rw (c.in-BvSmulo.is, square)
    (omega (arith, c.saturating_mul-in-BvSmulo.ensures, doubled c.args.width c.saturating_mul-in-BvSmulo.result (omega (arith, c.saturating_mul-in-BvSmulo.ensures)), c.product-in-BvSmulo.ensures.lits, c.times-in-BvSmulo.ensures.lits, c.plus-in-BvSmulo.ensures.lits, c.folded-in-BvSmulo.ensures.lits, c.plus-in-BvSmulo-2.ensures.lits))
