-- Odd sums.
use Rattle.std.proofs.Common.{◌≡◌, ℕ, ◌+◌, ◌%◌, ◌<◌, ◌==◌, Bool, not, ◌&&◌, List, [], ◌∷◌, ◌++◌, fold, length, get_or, take, ap, sym, ◌∙◌}
use Rattle.std.specs.List.{list_any}
use Rattle.std.proofs.lemmas.List.{take_more, map-append}
use Rattle.std.proofs.lemmas.List.Sums.{fold_push}
use Rattle.std.proofs.Math.Nat.{mod-add-mod, add-mod-mod}
use Rattle.qv_words.specs.Tree.{Tree}
use Rattle.qv_words.specs.Sums.{Monomial, has_factors, is_odd}
use Rattle.qv_rewrite_sums.specs.declared.product.Product.{Product}
use Rattle.qv_rewrite_sums.specs.Held.{monomial_at, sum_at}
use Rattle.qv_rewrite_sums.proofs.Combined.{found-any}

abbrev pub total : List Tree → List Product → ℕ
total trees p = fold (λ (n : ℕ) (m : Monomial). n + m.coefficient) 0 (sum_at trees p)

-- one coefficient more
pub total-more : (trees : List Tree) (p : List Product) (k odd : ℕ) (x : Product) → k < length p → x ≡ get_or p k x → odd ≡ total trees (take k p) % 2 → (odd + x.coefficient % 2) % 2 ≡ total trees (take (k + 1) p) % 2
total-more trees p k odd x low at so =
    let s = total trees (take k p) in
    let whole : total trees (take (k + 1) p) ≡ s + x.coefficient =
    ap (λ (ps : List Product). total trees ps) (take_more p k x low ∙ ap (λ (z : Product). take k p ++ z ∷ []) (sym at))
    ∙ ap (fold (λ (n : ℕ) (m : Monomial). n + m.coefficient) 0) (map-append (monomial_at trees) (take k p) (x ∷ []))
    ∙ fold_push (λ (n : ℕ) (m : Monomial). n + m.coefficient) 0 (sum_at trees (take k p)) (monomial_at trees x) in
    ap (λ (n : ℕ). (n + x.coefficient % 2) % 2) so
    ∙ add-mod-mod (s % 2) x.coefficient 2 ∙ mod-add-mod s 2 x.coefficient
    ∙ ap (λ (n : ℕ). n % 2) (sym whole)

-- by a test of each product, and the total
pub odd-parts : (trees : List Tree) (p : List Product) (some odd : Bool) → some ≡ list_any (λ (m : Product). has_factors (monomial_at trees m) && (m.coefficient % 2 == 1)) p → odd ≡ (total trees p % 2 == 1) → (not some && odd) ≡ is_odd (sum_at trees p)
odd-parts trees p some odd e f =
    ap (λ (b : Bool). not b && odd) e
    ∙ ap (λ (b : Bool). not (list_any (λ (m : Product). has_factors (monomial_at trees m) && (m.coefficient % 2 == 1)) p) && b) f
    ∙ ap (λ (b : Bool). b && (total trees p % 2 == 1)) (sym (found-any (λ (m : Monomial). has_factors m && (m.coefficient % 2 == 1)) (monomial_at trees) p))
