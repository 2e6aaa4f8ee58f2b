-- Which places stand in what a row gives.
use Rattle.std.proofs.Common.{◌≡◌, ℕ, zero, suc, ◌-◌, ◌≤◌, ◌==◌, ◌&&◌, ◌||◌, arith, Bool, true, false, cond, Option, Some, None, [], ◌∷◌, refl, ap, ◌∙◌}
use Rattle.std.specs.Prelude.{IfSome, option_and_then}
use Rattle.qv_words.specs.declared.sort.Sort.{Sort}
use Rattle.qv_words.specs.declared.sort.Sort.TheVariants.{Bits, Bool as BoolSort}
use Rattle.qv_words.specs.declared.op.Op.{Op}
use Rattle.qv_words.specs.declared.op.Op.TheVariants.{BvNot, BvNeg, BvAnd, BvOr, BvXor, BvNand, BvNor, BvXnor, BvAdd, BvSub, BvMul, BvUdiv, BvUrem, BvShl, BvLshr, BvAshr, Concat, Extract, Repeat, ZeroExtend, SignExtend, RotateLeft, RotateRight}
use Rattle.qv_words.specs.Sort.{IsLawful}
use Rattle.qv_words.specs.Rank.{result_sort}
use Rattle.qv_words.specs.Tree.{Tree}
use Rattle.qv_words.specs.Inverse.{inverse_term, row_at, unary_row, first_row, second_row, product_row, amount_chain, other_term, target_term, zeros_before, zeros_behind}
use Rattle.qv_words.specs.Choice.{put_in_row}
use Rattle.qv_choose_paths.specs.declared.ways.Place.{Place}
use Rattle.qv_choose_paths.specs.Rows.{uses_other}
use Rattle.qv_choose_paths.specs.Looks.{has_inside}
use Rattle.qv_choose_paths.proofs.Insides.{or-false}

-- in a row at terms for the other argument and the target stand places that stand in the target, and
-- those of the other argument where the row uses it
abbrev pub Brings : Place → (s t : Tree) → Bool → Tree → Type 0
Brings p s t used row = has_inside p (put_in_row s t row) ≡ (has_inside p t || (has_inside p s && used))

not-used : (T S : Bool) → T ≡ (T || (S && false))
not-used true S = refl
not-used false true = refl
not-used false false = refl

below-not_used : (T S : Bool) → (T || false) ≡ (T || (S && false))
below-not_used true S = refl
below-not_used false true = refl
below-not_used false false = refl

product-not_used : (T S : Bool) → ((T || (false || false)) || (false || false)) ≡ (T || (S && false))
product-not_used true S = refl
product-not_used false true = refl
product-not_used false false = refl

target-other : (T S : Bool) → (T || (S || false)) ≡ (T || (S && true))
target-other true S = refl
target-other false true = refl
target-other false false = refl

other-target : (T S : Bool) → (S || (T || false)) ≡ (T || (S && true))
other-target true true = refl
other-target true false = refl
other-target false true = refl
other-target false false = refl

signed-both : (T S : Bool) → ((S || (false || false)) || ((T || (S || false)) || (T || false))) ≡ (T || (S && true))
signed-both true true = refl
signed-both true false = refl
signed-both false true = refl
signed-both false false = refl

divisor-both : (T S : Bool) → ((S || (T || false)) || (false || ((S || (T || false)) || false))) ≡ (T || (S && true))
divisor-both true true = refl
divisor-both true false = refl
divisor-both false true = refl
divisor-both false false = refl

amount-last : (T S : Bool) → (((S || (false || false)) || (T || false)) || (false || (false || false))) ≡ (T || (S && true))
amount-last true true = refl
amount-last true false = refl
amount-last false true = refl
amount-last false false = refl

amount-more : (T S : Bool) → (((S || (false || false)) || (T || false)) || (false || ((T || (S && true)) || false))) ≡ (T || (S && true))
amount-more true true = refl
amount-more true false = refl
amount-more false true = refl
amount-more false false = refl

-- row by row
before-brings : (p : Place) (s t : Tree) (n : ℕ) (row : Tree) → has_inside p (put_in_row s t row) ≡ has_inside p t → has_inside p (put_in_row s t (zeros_before n row)) ≡ has_inside p t
before-brings p s t zero row h = h
before-brings p s t (suc n) row h = or-false (has_inside p (put_in_row s t row)) ∙ h

behind-brings : (p : Place) (s t : Tree) (n : ℕ) (row : Tree) → has_inside p (put_in_row s t row) ≡ has_inside p t → has_inside p (put_in_row s t (zeros_behind n row)) ≡ has_inside p t
behind-brings p s t zero row h = h
behind-brings p s t (suc n) row h = or-false (has_inside p (put_in_row s t row)) ∙ h

one-brings : (p : Place) (s t : Tree) (o : Op) (w : ℕ) (r : Sort) → IfSome (unary_row o w (target_term r)) (λ row. has_inside p (put_in_row s t row) ≡ has_inside p t)
one-brings p s t BvNot w r = or-false (has_inside p t)
one-brings p s t BvNeg w r = or-false (has_inside p t)
one-brings p s t (Extract i j) w r = before-brings p s t (w - 1 - i) (zeros_behind j (target_term r)) (behind-brings p s t j (target_term r) refl)
one-brings p s t (Repeat k) w r = or-false (has_inside p t)
one-brings p s t (ZeroExtend k) w r = or-false (has_inside p t)
one-brings p s t (SignExtend k) w r = or-false (has_inside p t)
one-brings p s t (RotateLeft k) w r = or-false (has_inside p t)
one-brings p s t (RotateRight k) w r = or-false (has_inside p t)
one-brings p s t _ w r = tt

product-brings : (p : Place) (s t : Tree) (w : ℕ) (r : Sort) (value : Option ℕ) → IfSome (product_row w (target_term r) value) (Brings p s t false)
product-brings p s t w r None = tt
product-brings p s t w r (Some n) = go (n == 0) _ (product-not_used (has_inside p t) (has_inside p s))
  where
    go : (b : Bool) (row : Tree) → Brings p s t false row → IfSome (cond b None (Some row)) (Brings p s t false)
    go true row k = tt
    go false row k = k

first-brings : (p : Place) (s t : Tree) (o : Op) (w v : ℕ) (q r : Sort) (value : Option ℕ) → IfSome (first_row o w v (other_term q) (target_term r) value) (Brings p s t (uses_other o 0))
first-brings p s t BvAdd w v q r value = target-other (has_inside p t) (has_inside p s)
first-brings p s t BvSub w v q r value = target-other (has_inside p t) (has_inside p s)
first-brings p s t BvXor w v q r value = target-other (has_inside p t) (has_inside p s)
first-brings p s t BvXnor w v q r value = target-other (has_inside p t) (has_inside p s)
first-brings p s t BvAnd w v q r value = not-used (has_inside p t) (has_inside p s)
first-brings p s t BvOr w v q r value = not-used (has_inside p t) (has_inside p s)
first-brings p s t BvNand w v q r value = below-not_used (has_inside p t) (has_inside p s)
first-brings p s t BvNor w v q r value = below-not_used (has_inside p t) (has_inside p s)
first-brings p s t BvMul w v q r value = product-brings p s t w r value
first-brings p s t BvUdiv w v q r value = other-target (has_inside p t) (has_inside p s)
first-brings p s t BvUrem w v q r value = not-used (has_inside p t) (has_inside p s)
first-brings p s t BvShl w v q r value = target-other (has_inside p t) (has_inside p s)
first-brings p s t BvLshr w v q r value = target-other (has_inside p t) (has_inside p s)
first-brings p s t BvAshr w v q r value = signed-both (has_inside p t) (has_inside p s)
first-brings p s t Concat w v q r value = below-not_used (has_inside p t) (has_inside p s)
first-brings p s t _ w v q r value = tt

chain-brings : (p : Place) (s t : Tree) (shift : Op) (w : ℕ) (q r : Sort) (i n : ℕ) → Brings p s t true (amount_chain shift w (other_term q) (target_term r) i (suc n))
chain-brings p s t shift w q r i zero = amount-last (has_inside p t) (has_inside p s)
chain-brings p s t shift w q r i (suc n) =
    ap (λ b. ((has_inside p s || (false || false)) || (has_inside p t || false)) || (false || (b || false))) (chain-brings p s t shift w q r (suc i) n)
    ∙ amount-more (has_inside p t) (has_inside p s)

amount-brings : (p : Place) (s t : Tree) (shift : Op) (w : ℕ) (q r : Sort) → 1 ≤ w → Brings p s t true (amount_chain shift w (other_term q) (target_term r) 0 w)
amount-brings p s t shift zero q r h = absurd (omega (arith, h))
amount-brings p s t shift (suc n) q r h = chain-brings p s t shift (suc n) q r 0 n

second-brings : (p : Place) (s t : Tree) (o : Op) (w v : ℕ) (q r : Sort) (value : Option ℕ) → 1 ≤ w → IfSome (second_row o w v (other_term q) (target_term r) value) (Brings p s t (uses_other o 1))
second-brings p s t BvAdd w v q r value h = target-other (has_inside p t) (has_inside p s)
second-brings p s t BvSub w v q r value h = other-target (has_inside p t) (has_inside p s)
second-brings p s t BvXor w v q r value h = target-other (has_inside p t) (has_inside p s)
second-brings p s t BvXnor w v q r value h = target-other (has_inside p t) (has_inside p s)
second-brings p s t BvAnd w v q r value h = not-used (has_inside p t) (has_inside p s)
second-brings p s t BvOr w v q r value h = not-used (has_inside p t) (has_inside p s)
second-brings p s t BvNand w v q r value h = below-not_used (has_inside p t) (has_inside p s)
second-brings p s t BvNor w v q r value h = below-not_used (has_inside p t) (has_inside p s)
second-brings p s t BvMul w v q r value h = product-brings p s t w r value
second-brings p s t BvUdiv w v q r value h = other-target (has_inside p t) (has_inside p s)
second-brings p s t BvUrem w v q r value h = divisor-both (has_inside p t) (has_inside p s)
second-brings p s t BvShl w v q r value h = amount-brings p s t BvShl w q r h
second-brings p s t BvLshr w v q r value h = amount-brings p s t BvLshr w q r h
second-brings p s t BvAshr w v q r value h = amount-brings p s t BvAshr w q r h
second-brings p s t Concat w v q r value h = below-not_used (has_inside p t) (has_inside p s)
second-brings p s t _ w v q r value h = tt

-- the row for the only argument, for the first of two and for the second
pub only-brings : (p : Place) (s t : Tree) (o : Op) (a : Sort) (value : Option ℕ) → IfSome (inverse_term o 0 (a ∷ []) value) (λ row. has_inside p (put_in_row s t row) ≡ has_inside p t)
unfolding inverse_term
only-brings p s t o a value = go (result_sort o (a ∷ []))
  where
    at : (a r : Sort) → IfSome (row_at o 0 (a ∷ []) r value) (λ row. has_inside p (put_in_row s t row) ≡ has_inside p t)
    at (Bits w) r = one-brings p s t o w r
    at BoolSort r = tt

    go : (q : Option Sort) → IfSome (option_and_then (λ r. row_at o 0 (a ∷ []) r value) q) (λ row. has_inside p (put_in_row s t row) ≡ has_inside p t)
    go None = tt
    go (Some r) = at a r

pub left-brings : (p : Place) (s t : Tree) (o : Op) (a b : Sort) (value : Option ℕ) → IfSome (inverse_term o 0 (a ∷ b ∷ []) value) (Brings p s t (uses_other o 0))
unfolding inverse_term
left-brings p s t o a b value = go (result_sort o (a ∷ b ∷ []))
  where
    at : (a b r : Sort) → IfSome (row_at o 0 (a ∷ b ∷ []) r value) (Brings p s t (uses_other o 0))
    at (Bits w) (Bits v) r = first-brings p s t o w v (Bits v) r value
    at (Bits w) BoolSort r = tt
    at BoolSort b r = tt

    go : (q : Option Sort) → IfSome (option_and_then (λ r. row_at o 0 (a ∷ b ∷ []) r value) q) (Brings p s t (uses_other o 0))
    go None = tt
    go (Some r) = at a b r

pub right-brings : (p : Place) (s t : Tree) (o : Op) (a b : Sort) (value : Option ℕ) → IsLawful b → IfSome (inverse_term o 1 (a ∷ b ∷ []) value) (Brings p s t (uses_other o 1))
unfolding inverse_term
right-brings p s t o a b value lawful = go (result_sort o (a ∷ b ∷ []))
  where
    at : (a b r : Sort) → IsLawful b → IfSome (row_at o 1 (a ∷ b ∷ []) r value) (Brings p s t (uses_other o 1))
    at (Bits v) (Bits w) r h = second-brings p s t o w v (Bits v) r value h.0
    at (Bits v) BoolSort r h = tt
    at BoolSort b r h = tt

    go : (q : Option Sort) → IfSome (option_and_then (λ r. row_at o 1 (a ∷ b ∷ []) r value) q) (Brings p s t (uses_other o 1))
    go None = tt
    go (Some r) = at a b r lawful
