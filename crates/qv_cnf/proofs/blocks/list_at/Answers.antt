use Rattle.std.proofs.Common.{arith}
use Rattle.qv_cnf.proofs.Packing.{begin-is, lies}
use Rattle.qv_cnf.proofs.blocks.list_at.Goals as goal

pub between-requires-clause-up : goal.between-requires-clause-up
between-requires-clause-up c =
    let l = lies 0 c.args.lits.now c.args.ends.now c.args.at c.requires.packs c.requires.within in
    omega (arith, l.up, c.start_at-start.ensures, begin-is c.args.ends.now c.args.at)

pub between-requires-clause-within : goal.between-requires-clause-within
between-requires-clause-within c =
    let l = lies 0 c.args.lits.now c.args.ends.now c.args.at c.requires.packs c.requires.within in
    omega (arith, l.within)

pub returns : goal.returns
returns c =
    let l = lies 0 c.args.lits.now c.args.ends.now c.args.at c.requires.packs c.requires.within in
    rw (c.between.ensures, c.start_at-start.ensures, ← begin-is c.args.ends.now c.args.at) l.is
