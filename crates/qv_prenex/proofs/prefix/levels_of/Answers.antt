use Rattle.std.proofs.Common.{◌≡◌, ◌+◌, ◌++◌, [], ℕ, List, length, map, drop, get_or, ap, sym, ◌∙◌, arith, append-nil}
use Rattle.std.specs.Prelude.{Vec, sum}
use Rattle.std.specs.declared.alloc.Global.{Global}
use Rattle.std.proofs.lemmas.List.{drop_all}
use Rattle.qv_words.specs.declared.sort.Sort.{Sort}
use Rattle.qv_prenex.specs.Blocks.{sorts_in}
use Rattle.qv_prenex.specs.Prefixes.{starts_from}
use Rattle.qv_prenex.proofs.Prefixing.{starts-at, starts-more, total-more}
use Rattle.qv_prenex.proofs.prefix.levels_of.Goals as goal

pub overflow_add-total : goal.overflow_add-total
overflow_add-total c =
    let more = total-more c.each.total c.args.blocks.now c.each.block-index c.block-item.result c.each-test.true c.block-item.is in
    omega (arith, more, c.each.invariant.total, c.requires, c.len.ensures, c.block-item.result.ok.0)

pub each-preserved : goal.each-preserved
each-preserved c =
    let bs = c.args.blocks.now in
    let b = c.block-item.result in
    let i = c.each.block-index in
    let len : c.len.result ≡ length b.items = omega (arith, c.len.ensures, b.ok.0) in
    let more = total-more c.each.total bs i b c.each-test.true c.block-item.is in
    record {
      starts = ap (λ (n : ℕ). c.push.new.self.items ++ starts_from (c.each.total + n) (map (λ x. length x) (sorts_in (drop (i + 1) bs)))) len
          ∙ starts-more (starts_from c.args.constants (map (λ x. length x) (sorts_in bs))) c.each.total c.each.next.items c.push.new.self.items bs i b c.each-test.true c.block-item.is c.in_ok-push.ensures.items c.each.invariant.starts;
      total = omega (arith, more, len, c.each.invariant.total);
    }

pub returns : goal.returns
returns c = λ k.
    let bs = c.args.blocks.now in
    let ks = map (λ (x : List Sort). length x) (sorts_in bs) in
    let none : drop c.each.block-index bs ≡ [] = drop_all c.each.block-index bs c.each-test.false in
    let starts : c.each.next.items ≡ starts_from c.args.constants ks =
    sym (append-nil c.each.next.items)
    ∙ sym (ap (λ (xs : List (Vec Sort Global)). c.each.next.items ++ starts_from c.each.total (map (λ x. length x) (sorts_in xs))) none)
    ∙ c.each.invariant.starts in
    let rest = ap (λ (xs : List (Vec Sort Global)). sum (map (λ x. length x) (sorts_in xs))) none in
    let total : c.each.total ≡ c.args.constants + sum ks = omega (arith, rest, c.each.invariant.total) in
    ap (λ (xs : List ℕ). get_or xs k c.each.total) starts ∙ ap (λ (d : ℕ). get_or (starts_from c.args.constants ks) k d) total
    ∙ starts-at c.args.constants ks k
