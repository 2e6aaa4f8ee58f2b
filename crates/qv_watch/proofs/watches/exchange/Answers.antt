use Rattle.std.proofs.Common.{length, refl, arith}
use Rattle.std.proofs.lemmas.Option.{slice_get_read}
use Rattle.qv_watch.proofs.watches.exchange.Goals as goal

pub returns : goal.returns
returns c _ =
    let pairs = c.args.pairs.now in
    record {
      pair = c.index-pairs-at.result;
      at = slice_get_read pairs (length pairs) c.args.place c.index-pairs-at.result refl (omega arith) c.index-pairs-at.is;
      fourth = c.left_over-fourth.result;
      stood = c.left_over-fourth.ensures;
      is = refl;
    }
