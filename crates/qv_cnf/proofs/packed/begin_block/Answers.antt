use Rattle.std.proofs.Common.{arith}
use Rattle.std.proofs.lemmas.List.{append-nil, length_push}
use Rattle.qv_cnf.proofs.BlockLaws.{AreFull-push, lists_of-push}
use Rattle.qv_cnf.proofs.packed.begin_block.Goals as goal

pub returns-clause-packed : goal.returns-clause-packed
returns-clause-packed c =
    rw (c.push_reserved.ensures.items, c.in_ok-reserve.ensures.items, c.shrink.ensures, c.replace-block.ensures.value, c.replace-block.ensures.after, c.in_ok-next.ensures) record {
      full = AreFull-push c.args.full.now.items c.args.last.now c.requires.packed.full c.requires.full;
      last = omega arith;
      few = omega (arith, length_push c.args.full.now.items c.args.last.now, c.len.ensures);
    }

pub returns-clause-lists : goal.returns-clause-lists
returns-clause-lists c =
    rw (c.push_reserved.ensures.items, c.in_ok-reserve.ensures.items, c.shrink.ensures, c.replace-block.ensures.value, c.replace-block.ensures.after, c.in_ok-next.ensures, lists_of-push c.args.full.now.items c.args.last.now)
    (append-nil _)
