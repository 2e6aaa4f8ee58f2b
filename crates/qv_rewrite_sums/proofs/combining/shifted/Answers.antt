use Rattle.std.proofs.Common.{◌≡◌, ℕ, ◌*◌, ◌%◌, ◌^◌, ◌<◌, ◌++◌, Bool, cond, Option, Some, None, List, ap, sym, ◌∙◌, subst, arith}
use Rattle.std.specs.Prelude.{option_map, option_and_then}
use Rattle.std.proofs.lemmas.Bool.{lt-ltb}
use Rattle.std.proofs.lemmas.Nat.{one_shl}
use Rattle.qv_words.specs.Sums.{Polynomial, multiple, shifted}
use Rattle.qv_rewrite_sums.specs.declared.product.Product.{Product}
use Rattle.qv_rewrite_sums.specs.Held.{sum_at, modulo, short_raw}
use Rattle.qv_rewrite_sums.proofs.Tests.{short-modulo}
use Rattle.qv_rewrite_sums.proofs.combining.shifted.Goals as goal

pub returns-then-k-from : goal.returns-then-k-from
returns-then-k-from c = λ trees.
    let w = c.args.width in
    let k = c.in-Some.k in
    let p = sum_at trees c.args.a.now in
    let below : k < w = subst (λ (n : ℕ). k < n) c.from.ensures c.if-k-from.true in
    let power : 1 * 2 ^ k % 2 ^ 128 ≡ 2 ^ k = one_shl k 128 (let low : k < 128 = omega (arith, below, c.requires.high) in low) in
    let made : sum_at trees c.push_multiple.new.raw.items ≡ modulo (2 ^ w) (multiple (2 ^ k) p) =
    c.in_ok-push_multiple-in-Some.ensures trees
    ∙ ap (λ (l : List Product). sum_at trees l ++ modulo (2 ^ w) (multiple (1 * 2 ^ k % 2 ^ 128) p)) c.new-raw.ensures.items
    ∙ ap (λ (f : ℕ). modulo (2 ^ w) (multiple f p)) power in
    let is : option_and_then (shifted w p) c.args.by ≡ Some (multiple (2 ^ k) p) =
    ap (option_and_then (shifted w p)) c.in-Some.is ∙ ap (λ (b : Bool). cond b (Some (multiple (2 ^ k) p)) None) (lt-ltb k w below) in
    c.unless_long.ensures trees
    ∙ ap (λ (l : Polynomial). short_raw (Some l)) made
    ∙ short-modulo (2 ^ w) (multiple (2 ^ k) p)
    ∙ sym (ap (λ (q : Option Polynomial). option_map (modulo (2 ^ w)) (short_raw q)) is)
