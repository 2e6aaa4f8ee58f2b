-- the products so far, and those that are left
use Rattle.std.proofs.Common.{◌≡◌, ◌^◌, [], fold, drop}
use Rattle.qv_words.specs.Sums.{plus}
use Rattle.qv_rewrite_sums.specs.Held.{sum_at, HaveWords}
use Rattle.qv_rewrite_sums.proofs.adding.collected.Given as goal

abbrev pub invariant-raw : goal.invariant-raw
invariant-raw l = record {
  sum : fold (plus (2 ^ l.width)) (sum_at l.store l.sum.items) (sum_at l.store (drop l.product-index l.raw)) ≡ fold (plus (2 ^ l.width)) [] (sum_at l.store l.raw);
  words : HaveWords l.width (sum_at l.store l.sum.items);
  left : HaveWords l.width (sum_at l.store (drop l.product-index l.raw));
}
