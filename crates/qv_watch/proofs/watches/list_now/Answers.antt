use Rattle.std.proofs.Common.{◌≡◌, length, refl, sym, ◌∙◌, ◌∷◌, [], ◌++◌, ap, arith, set, get_or}
use Rattle.qv_cnf.specs.Literal.{index_of}
use Rattle.qv_watch.specs.Watching.{lists_in}
use Rattle.qv_watch.specs.declared.watches.WatchList.{WatchList}
use Rattle.qv_watch.proofs.Listed.{lists_in-set, lists_in-at}
use Rattle.qv_watch.proofs.watches.list_now.Goals as goal

pub returns : goal.returns
returns c _ =
    let lists = c.args.lists.now in
    let read : c.index-lists-at.result ≡ get_or lists (index_of c.args.lit) c.index-lists-at.result = rw c.index-at.ensures.value at c.index-lists-at.is in
    record {
      list = c.index-lists-at.result.watches.items;
      at = rw c.index-at.ensures.value at (lists_in-at lists c.index-at.result (length lists) c.index-lists-at.result refl (omega arith) c.index-lists-at.is);
      is = lists_in-set lists c.index-at.result record { watches = c.push_reserved.new.self } ∙ (rw (c.push_reserved.ensures.items, c.index-at.ensures.value) (ap (λ (l : WatchList). set (lists_in lists) (index_of c.args.lit) (l.watches.items ++ c.args.watch ∷ [])) (sym read)));
    }
