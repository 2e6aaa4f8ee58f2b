use Rattle.std.proofs.Common.{◌≡◌, ◌^◌, ℕ, Some, List, Vec, ap, sym, ◌∙◌, subst}
use Rattle.std.specs.declared.alloc.Global.{Global}
use Rattle.std.specs.Prelude.{option_map, All}
use Rattle.std.proofs.lemmas.List.{length-map}
use Rattle.qv_store.specs.Walks.{IsEarlier}
use Rattle.qv_words.specs.Sums.{combined, polynomials}
use Rattle.qv_store.specs.Nodes.{trees_at}
use Rattle.qv_rewrite_sums.specs.declared.product.Product.{Product}
use Rattle.qv_rewrite_sums.specs.Held.{sum_at, modulo, short_raw, HaveWords}
use Rattle.qv_rewrite_sums.proofs.Rebuilding.{kept-whole, kept-none, raw-held_words}
use Rattle.qv_rewrite_sums.proofs.summing.short_sum.Goals as goal

pub raw_sum-requires : goal.raw_sum-requires
raw_sum-requires c = record { low = c.requires.low; high = c.requires.high; found = c.requires.application.found; kids = subst (λ (n : ℕ). All (IsEarlier c.args.walk.now n) c.args.kids.now) (length-map c.args.sums.now (λ (v : Vec Product Global). v.items)) c.requires.application.kids_earlier }

pub collected-requires : goal.collected-requires
collected-requires c =
    let made : Some (sum_at c.args.store.now c.in-Some.raw.items) ≡ option_map (modulo (2 ^ c.args.width)) (short_raw (combined c.args.op c.args.width (polynomials (trees_at c.args.store.now c.args.kids.now)))) =
    ap (option_map (λ (v : Vec Product Global). sum_at c.args.store.now v.items)) (sym c.in-Some.is) ∙ c.in_ok-raw.ensures in
    record {
      low = c.requires.low;
      high = c.requires.high;
      shared = c.requires.shared;
      words = subst (λ (p : List Product). HaveWords c.args.width (sum_at c.args.store.now p)) (sym c.deref.ensures.value)
          (raw-held_words c.args.op (trees_at c.args.store.now c.args.kids.now) c.args.width (sum_at c.args.store.now c.in-Some.raw.items) c.requires.application.sorted c.requires.width made);
    }

pub returns-in_ok-sum-in-Some : goal.returns-in_ok-sum-in-Some
returns-in_ok-sum-in-Some c =
    let made : Some (sum_at c.args.store.now c.in-Some.raw.items) ≡ option_map (modulo (2 ^ c.args.width)) (short_raw (combined c.args.op c.args.width (polynomials (trees_at c.args.store.now c.args.kids.now)))) =
    ap (option_map (λ (v : Vec Product Global). sum_at c.args.store.now v.items)) (sym c.in-Some.is) ∙ c.in_ok-raw.ensures in
    c.if_short.ensures c.args.store.now
    ∙ kept-whole c.args.width (short_raw (combined c.args.op c.args.width (polynomials (trees_at c.args.store.now c.args.kids.now)))) (sum_at c.args.store.now c.deref.result.now) (sum_at c.args.store.now c.in_ok-sum-in-Some.sum.items)
    (ap (λ (p : List Product). Some (sum_at c.args.store.now p)) c.deref.ensures.value ∙ made) c.in_ok-sum-in-Some.ensures

pub returns-in-None : goal.returns-in-None
returns-in-None c =
    kept-none c.args.width (short_raw (combined c.args.op c.args.width (polynomials (trees_at c.args.store.now c.args.kids.now))))
    (ap (option_map (λ (v : Vec Product Global). sum_at c.args.store.now v.items)) (sym c.in-None.is) ∙ c.in_ok-raw.ensures)
