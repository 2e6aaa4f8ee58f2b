use Rattle.std.proofs.Common.{refl, ◌∙◌, arith, length-set}
use Rattle.qv_watch.proofs.Listed.{lists_in-set, lists_in-at}
use Rattle.qv_watch.proofs.watches.Watches.take.Goals as goal

pub returns : goal.returns
returns c =
    let lists = c.args.self.now.lists in
    record {
      frames = record { places = length-set lists.items c.args.at record { watches = c.replace.new.dest }; queue = refl; head = refl; lost = refl };
      pairs = refl;
      out = rw c.replace.ensures.value (lists_in-at lists.items c.args.at lists.len c.index_mut.result.now (omega (arith, lists.ok.0)) (omega (arith, c.requires)) c.index_mut.ensures.value);
      none = lists_in-set lists.items c.args.at record { watches = c.replace.new.dest } ∙ (rw (c.replace.ensures.after, c.new.ensures.items) refl);
    }
