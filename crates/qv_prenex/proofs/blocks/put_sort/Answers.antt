use Rattle.std.proofs.Common.{◌≡◌, ◌+◌, ◌<◌, ◌++◌, ◌∷◌, [], List, length, get_or, set, ap, sym, ◌∙◌, arith, length-append}
use Rattle.std.specs.Prelude.{Vec}
use Rattle.std.specs.declared.alloc.Global.{Global}
use Rattle.qv_words.specs.declared.sort.Sort.{Sort}
use Rattle.qv_words.specs.Prenex.{joined_blocks}
use Rattle.qv_prenex.specs.Blocks.{sorts_in, behind}
use Rattle.qv_prenex.proofs.Placing.{alone, joined-more, joined-at, length-alone, length-sorts, sorts-push, sorts-set, sorts-at}
use Rattle.qv_prenex.proofs.blocks.put_sort.Goals as goal

pub room-preserved : goal.room-preserved
room-preserved c =
    let bs = c.room.blocks.items in
    let x : List (List Sort) = behind c.args.block (alone c.args.sort) in
    let short : length (sorts_in bs) < length x = omega (arith, c.room-test.true, c.len.ensures, length-sorts bs, length-alone c.args.block c.args.sort) in
    record {
      same = ap (λ (ys : List (Vec Sort Global)). joined_blocks (sorts_in ys) x) c.in_ok-push.ensures.items
          ∙ ap (λ ys. joined_blocks ys x) (sorts-push bs c.new.result c.new.ensures.items)
          ∙ joined-more (sorts_in bs) x short ∙ c.room.invariant.same;
      more = omega (arith, c.room.invariant.more, ap length c.in_ok-push.ensures.items, length-append bs (c.new.result ∷ []));
    }

pub returns-clause-blocks : goal.returns-clause-blocks
returns-clause-blocks c =
    let bs = c.room.blocks.items in
    let low : c.args.block < length bs = omega arith in
    let v = c.index_mut.result.now in
    let here : get_or (sorts_in bs) c.args.block [] ≡ v.items = sorts-at bs c.args.block v low (sym c.index_mut.ensures.value) in
    let long : c.args.block < length (sorts_in bs) = omega (arith, low, length-sorts bs) in
    sorts-set bs c.args.block c.push-2.new.self
    ∙ ap (λ (xs : List Sort). set (sorts_in bs) c.args.block xs) (c.in_ok-push-2.ensures.items ∙ sym (ap (λ (xs : List Sort). xs ++ c.args.sort ∷ []) here))
    ∙ sym (joined-at (sorts_in bs) c.args.block c.args.sort long)
    ∙ c.room.invariant.same
