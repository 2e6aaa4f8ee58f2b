-- The circuit of each operator computes its value.
use Rattle.std.proofs.Common.{◌≡◌, ℕ, zero, suc, ◌+◌, ◌-◌, ◌*◌, ◌/◌, ◌%◌, ◌^◌, ◌≤◌, ◌<◌, ◌==◌, ◌&&◌, ◌||◌, not, true, false, cond, nat_lt, nat_le, Option, Some, None, List, [], ◌∷◌, ◌++◌, map, length, take, drop, replicate, refl, sym, ap, ◌∙◌, subst, arith, bit_and, bit_or, bit_xor}
use Rattle.std.specs.Prelude.{Bool as Truth, option_map, option_and_then, int_lt, int_le}
use Rattle.std.specs.List.{AllZip, AllByRecursion}
use Rattle.std.proofs.lemmas.List.{length-map, length-drop}
use Rattle.std.proofs.lemmas.List.Elements.{recursion_from_All}
use Rattle.qv_words.specs.declared.sort.Sort.{Sort}
use Rattle.qv_words.specs.declared.sort.Sort.TheVariants.{Bool, Bits}
use Rattle.qv_words.specs.declared.op.Op.{Op}
use Rattle.qv_words.specs.declared.op.Op.TheVariants.{Not, And, Or, Xor, Implies, Equal, Ite, BvNot, BvNeg, BvAnd, BvOr, BvXor, BvNand, BvNor, BvXnor, BvAdd, BvSub, BvMul, BvUdiv, BvUrem, BvSdiv, BvSrem, BvSmod, BvShl, BvLshr, BvAshr, BvUlt, BvUle, BvUgt, BvUge, BvSlt, BvSle, BvSgt, BvSge, BvComp, Concat, Extract, Repeat, ZeroExtend, SignExtend, RotateLeft, RotateRight, BvNego, BvUaddo, BvSaddo, BvUmulo, BvSmulo, BvUsubo, BvSsubo, BvSdivo}
use Rattle.qv_words.specs.Sort.{IsLawful, width_of}
use Rattle.qv_words.specs.Rank.{result_sort, one_width, two_widths, two_alike, joined_width, bits_of, bits_between, bits_repeated}
use Rattle.qv_words.specs.Op.{op_value, truth, turned, copies as number_copies}
use Rattle.qv_words.specs.Signed.{signed, is_negative, residue}
use Rattle.qv_words.specs.Gate.{Lit, Circuit, neg, no, lit_value, and, or, xor}
use Rattle.qv_words.specs.Routine.{negs, top, copies, turned_left, turned_right}
use Rattle.qv_words.specs.OpCircuit.{one, not_one, negated_each, op_circuit}
use Rattle.qv_circuits_laws.specs.CircuitLaws.{number_of, CircuitTheorem, LeftShiftsShift, RightShiftsShift, SignedShiftsShift}
use Rattle.qv_words.proofs.InSort.{one_bool-parts, two_bools-parts, two_alike-parts, choice-parts, one_width-parts, two_widths-parts, joined_width-parts, map_then}
use Rattle.qv_circuits_laws.proofs.Gates.{neg-value}
use Rattle.qv_circuits_laws.proofs.Evaluations.{Computes, done-computes, then-computes, weaker}
use Rattle.qv_words.proofs.TwosComplement.{extended-negative, extended-other}
use Rattle.qv_circuits_laws.proofs.Adding.{number-below}
use Rattle.qv_circuits_laws.proofs.Choosing.{sel-computes, sub-computes, negs-number}
use Rattle.qv_circuits_laws.proofs.Multiplying.{sum-computes, mul-computes, number-take}
use Rattle.qv_circuits_laws.proofs.Places.{number-append, number-zeros, number-ones, number-drop}
use Rattle.qv_circuits_laws.proofs.Dividing.{div-computes}
use Rattle.qv_words.proofs.MovedBits.{extended_ones}
use Rattle.qv_circuits_laws.proofs.Values.{IsNumber, each-computes, and-bits, or-bits, xor-bits, neg-computes, equal-computes, quotient-computes, remainder-computes, top-of}
use Rattle.qv_circuits_laws.proofs.Comparing.{ult-computes, slt-computes, le-not, int-le-not, modulus-computes}
use Rattle.qv_circuits_laws.proofs.Overflows.{sum_overflow-computes, signed_sum-computes, signed_difference-computes, product-computes, signed_product-computes, least-computes, signed_quotient-computes}

-- a circuit at these arguments computes the operator's value at these sorts
abbrev At : (ℕ → Truth) → ℕ → Op → List (List Lit) → List Sort → Type 0
At v n o args ss = Computes v n (op_circuit o args) (λ r. number_of v r ≡ op_value o ss (map (number_of v) args))

abbrev Sized : List (List Lit) → List Sort → Type 0
Sized args ss = AllZip (λ bits sort. length bits ≡ width_of sort) args ss

one_list : (args : List (List Lit)) (s : Sort) → Sized args (s ∷ []) → (a : List Lit) × (args ≡ a ∷ []) × (length a ≡ width_of s)
one_list [] s h = absurd h
one_list (a ∷ []) s h = (a, refl, h.0)
one_list (a ∷ b ∷ args) s h = absurd h.1

two_lists : (args : List (List Lit)) (s t : Sort) → Sized args (s ∷ t ∷ []) → (a : List Lit) × (b : List Lit) × (args ≡ a ∷ b ∷ []) × (length a ≡ width_of s) × (length b ≡ width_of t)
two_lists [] s t h = absurd h
two_lists (a ∷ []) s t h = absurd h.1
two_lists (a ∷ b ∷ []) s t h = (a, b, refl, h.0, h.1.0)
two_lists (a ∷ b ∷ c ∷ args) s t h = absurd h.1.1

three_lists : (args : List (List Lit)) (s t u : Sort) → Sized args (s ∷ t ∷ u ∷ []) → (a : List Lit) × (b : List Lit) × (c : List Lit) × (args ≡ a ∷ b ∷ c ∷ []) × (length a ≡ width_of s) × (length b ≡ width_of t) × (length c ≡ width_of u)
three_lists [] s t u h = absurd h
three_lists (a ∷ []) s t u h = absurd h.1
three_lists (a ∷ b ∷ []) s t u h = absurd h.1.1
three_lists (a ∷ b ∷ c ∷ []) s t u h = (a, b, c, refl, h.0, h.1.0, h.1.1.0)
three_lists (a ∷ b ∷ c ∷ d ∷ args) s t u h = absurd h.1.1.1

-- at sorts and arguments that are equal
at-shape : (v : ℕ → Truth) (n : ℕ) (o : Op) (args others : List (List Lit)) (ss ts : List Sort) → ss ≡ ts → args ≡ others → At v n o others ts → At v n o args ss
at-shape v n o args others ss ts p q h = subst (λ (x : List Sort). At v n o args x) (sym p) (subst (λ (y : List (List Lit)). At v n o y ts) (sym q) h)

-- by the shapes of ranks
at_one_width : (v : ℕ → Truth) (n : ℕ) (o : Op) (f : ℕ → Option Sort) → ((w : ℕ) (a : List Lit) → 1 ≤ w → length a ≡ w → At v n o (a ∷ []) (Bits w ∷ [])) → (ss : List Sort) (r : Sort) (args : List (List Lit)) → AllByRecursion IsLawful ss → Sized args ss → option_and_then f (one_width ss) ≡ Some r → At v n o args ss
at_one_width v n o f give ss r args lawful sized e = go (one_width ss) refl e
  where
    go : (p : Option ℕ) → one_width ss ≡ p → option_and_then f p ≡ Some r → At v n o args ss
    go None is e = cc
    go (Some w) is e =
        let shape = one_width-parts ss w is in
        let k = one_list args (Bits w) (subst (Sized args) shape sized) in
        rw (shape, k.1) (give w k.0 (subst (AllByRecursion IsLawful) shape lawful).0.0 k.2)

at_two_widths : (v : ℕ → Truth) (n : ℕ) (o : Op) (f : ℕ → Sort) → ((w : ℕ) (a b : List Lit) → 1 ≤ w → length a ≡ w → length b ≡ w → At v n o (a ∷ b ∷ []) (Bits w ∷ Bits w ∷ [])) → (ss : List Sort) (r : Sort) (args : List (List Lit)) → AllByRecursion IsLawful ss → Sized args ss → option_map f (two_widths ss) ≡ Some r → At v n o args ss
at_two_widths v n o f give ss r args lawful sized e = go (two_widths ss) refl e
  where
    go : (p : Option ℕ) → two_widths ss ≡ p → option_map f p ≡ Some r → At v n o args ss
    go None is e = cc
    go (Some w) is e =
        let shape = two_widths-parts ss w is in
        let k = two_lists args (Bits w) (Bits w) (subst (Sized args) shape sized) in
        rw (shape, k.2) (give w k.0 k.1 (subst (AllByRecursion IsLawful) shape lawful).0.0 k.3 k.4)

at_two_bools : (v : ℕ → Truth) (n : ℕ) (o : Op) → ((a b : List Lit) → length a ≡ 1 → length b ≡ 1 → At v n o (a ∷ b ∷ []) (Bool ∷ Bool ∷ [])) → (ss : List Sort) (r : Sort) (args : List (List Lit)) → Sized args ss → result_sort And ss ≡ Some r → At v n o args ss
at_two_bools v n o give ss r args sized e =
    let parts = two_bools-parts ss r e in
    let k = two_lists args Bool Bool (subst (Sized args) parts.0 sized) in
    rw (parts.0, k.2) (give k.0 k.1 k.3 k.4)

at_one_bool : (v : ℕ → Truth) (n : ℕ) (o : Op) → ((a : List Lit) → length a ≡ 1 → At v n o (a ∷ []) (Bool ∷ [])) → (ss : List Sort) (r : Sort) (args : List (List Lit)) → Sized args ss → result_sort Not ss ≡ Some r → At v n o args ss
at_one_bool v n o give ss r args sized e =
    let parts = one_bool-parts ss r e in
    let k = one_list args Bool (subst (Sized args) parts.0 sized) in
    rw (parts.0, k.1) (give k.0 k.2)

-- one bit as a number
one-computes : {v : ℕ → Truth} {n : ℕ} {m : Circuit Lit} (t : Truth) → Computes v n m (λ x. lit_value v x ≡ t) → Computes v n (one m) (λ r. number_of v r ≡ truth t)
one-computes t h = then-computes h (λ i x hx. done-computes (x ∷ []) (ap (λ b. truth b + 2 * 0) hx ∙ omega arith))

not_one-computes : {v : ℕ → Truth} {n : ℕ} {m : Circuit Lit} (t u : Truth) → Computes v n m (λ x. lit_value v x ≡ t) → not t ≡ u → Computes v n (not_one m) (λ r. number_of v r ≡ truth u)
not_one-computes {v} t u h e = then-computes h (λ i x hx. done-computes (neg x ∷ []) (ap (λ b. truth b + 2 * 0) (neg-value v x ∙ ap not hx ∙ e) ∙ omega arith))

negs-is : (v : ℕ → Truth) (w : ℕ) (a : List Lit) → length a ≡ w → number_of v (negs a) ≡ 2 ^ w - 1 - number_of v a
negs-is v w a h = let all = negs-number v a in let power : 2 ^ length a ≡ 2 ^ w = ap (λ k. 2 ^ k) h in omega (arith, all, power)

negated-computes : {v : ℕ → Truth} {n : ℕ} {m : Circuit (List Lit)} (w w' x : ℕ) → w' ≡ w → Computes v n m (IsNumber v w' x) → Computes v n (negated_each m) (λ r. number_of v r ≡ 2 ^ w - 1 - x)
negated-computes {v} w w' x e h = then-computes h (λ i r hr. done-computes (negs r) (negs-is v w r (hr.0 ∙ e) ∙ ap (λ k. 2 ^ w - 1 - k) hr.1))

-- truth values
bit-of : (v : ℕ → Truth) (a : List Lit) → length a ≡ 1 → (t : Truth) × (number_of v a ≡ truth t)
bit-of v [] h = absurd (omega (arith, h))
bit-of v (l ∷ []) h = (lit_value v l, omega arith)
bit-of v (l ∷ m ∷ ms) h = absurd (omega (arith, h))

on-bits : (v : ℕ → Truth) (a b : List Lit) (g h : ℕ → ℕ → ℕ) → length a ≡ 1 → length b ≡ 1 → ((x y : Truth) → g (truth x) (truth y) ≡ h (truth x) (truth y)) → g (number_of v a) (number_of v b) ≡ h (number_of v a) (number_of v b)
on-bits v a b g h ha hb table =
    let p = bit-of v a ha in
    let q = bit-of v b hb in
    ap (λ k. g k (number_of v b)) p.1 ∙ ap (g (truth p.0)) q.1 ∙ table p.0 q.0 ∙ sym (ap (λ k. h k (number_of v b)) p.1 ∙ ap (h (truth p.0)) q.1)

and-values : (x y : Truth) → bit_and (truth x) (truth y) ≡ truth ((truth x == 1) && (truth y == 1))
and-values true true = refl
and-values true false = refl
and-values false true = refl
and-values false false = refl

or-values : (x y : Truth) → bit_or (truth x) (truth y) ≡ truth ((truth x == 1) || (truth y == 1))
or-values true true = refl
or-values true false = refl
or-values false true = refl
or-values false false = refl

xor-values : (x y : Truth) → bit_xor (truth x) (truth y) ≡ truth (not (truth x == truth y))
xor-values true true = refl
xor-values true false = refl
xor-values false true = refl
xor-values false false = refl

implies-values : (x y : Truth) → bit_or (2 ^ 1 - 1 - truth x) (truth y) ≡ truth ((truth x == 0) || (truth y == 1))
implies-values true true = refl
implies-values true false = refl
implies-values false true = refl
implies-values false false = refl

ite-values : (t : Truth) (a b : ℕ) → cond t a b ≡ cond (truth t + 2 * 0 == 1) a b
ite-values true a b = refl
ite-values false a b = refl

ite-at : (v : ℕ → Truth) (n : ℕ) (c a b : List Lit) (s : Sort) → length c ≡ 1 → length a ≡ length b → At v n Ite (c ∷ a ∷ b ∷ []) (Bool ∷ s ∷ s ∷ [])
unfolding op_circuit
ite-at v n [] a b s hc same = absurd (omega (arith, hc))
ite-at v n (l ∷ []) a b s hc same = weaker (sel-computes l a b same) (λ r hr. hr ∙ ite-values (lit_value v l) (number_of v a) (number_of v b))
ite-at v n (l ∷ m ∷ ms) a b s hc same = absurd (omega (arith, hc))

-- bits without gates
copies-number : (v : ℕ → Truth) (w k : ℕ) (a : List Lit) → length a ≡ w → number_of v (copies k a) ≡ number_copies k w (number_of v a)
unfolding copies
copies-number v w zero a h = refl
copies-number v w (suc k) a h =
    number-append v a (copies k a) ∙ ap (λ i. number_of v a + 2 ^ i * number_of v (copies k a)) h ∙ ap (λ i. number_of v a + 2 ^ w * i) (copies-number v w k a h) ∙ turn (number_of v a) (2 ^ w) (number_copies k w (number_of v a))
  where
    turn : (a p c : ℕ) → a + p * c ≡ c * p + a
    turn a p c = omega arith

swapped-number : (v : ℕ → Truth) (w i : ℕ) (a : List Lit) → length a ≡ w → number_of v (drop i a ++ take i a) ≡ turned w (number_of v a) i
swapped-number v w i a h =
    let long : length (drop i a) ≡ w - i = length-drop i a ∙ ap (λ k. k - i) h in
    number-append v (drop i a) (take i a) ∙ ap (λ k. number_of v (drop i a) + 2 ^ k * number_of v (take i a)) long
    ∙ ap (λ k. k + 2 ^ (w - i) * number_of v (take i a)) (number-drop v i a) ∙ ap (λ k. number_of v a / 2 ^ i + 2 ^ (w - i) * k) (number-take v i a)
    ∙ turn (number_of v a / 2 ^ i) (2 ^ (w - i)) (number_of v a % 2 ^ i)
  where
    turn : (q p r : ℕ) → q + p * r ≡ q + r * p
    turn q p r = omega arith

extended-number : (v : ℕ → Truth) → v 1 ≡ true → (w k : ℕ) (a : List Lit) → length a ≡ w → number_of v (a ++ replicate k (top a)) ≡ residue (signed w (number_of v a)) (2 ^ (w + k))
extended-number v one w k a h =
    number-append v a (replicate k (top a)) ∙ ap (λ i. number_of v a + 2 ^ i * number_of v (replicate k (top a))) h ∙ go (is_negative w (number_of v a)) refl
  where
    low : number_of v a < 2 ^ w
    low = subst (λ (i : ℕ). number_of v a < 2 ^ i) h (number-below v a)

    turn : (a p f g : ℕ) → f ≡ g → a + p * f ≡ g * p + a
    turn a p f g e = ap (λ i. a + p * i) e ∙ omega arith

    go : (p : Truth) → is_negative w (number_of v a) ≡ p → number_of v a + 2 ^ w * number_of v (replicate k (top a)) ≡ residue (signed w (number_of v a)) (2 ^ (w + k))
    go true e =
        let ones = number-ones v k (top a) (top-of v one w a h ∙ e) in
        turn (number_of v a) (2 ^ w) (number_of v (replicate k (top a))) (2 ^ k - 1) (omega (arith, ones))
        ∙ sym (extended_ones w k (number_of v a) low) ∙ extended-negative w k (number_of v a) low e
    go false e =
        let none = number-zeros v k (top a) (top-of v one w a h ∙ e) in
        ap (λ i. number_of v a + 2 ^ w * i) none ∙ (let plain : number_of v a + 2 ^ w * 0 ≡ number_of v a = omega arith in plain) ∙ extended-other w k (number_of v a) low e

joined-at : (v : ℕ → Truth) (n : ℕ) (ss : List Sort) (r : Sort) (args : List (List Lit)) → Sized args ss → result_sort Concat ss ≡ Some r → At v n Concat args ss
unfolding op_circuit
joined-at v n ss r args sized e = go (joined_width ss) refl e
  where
    turn : (a b p : ℕ) → b + p * a ≡ a * p + b
    turn a b p = omega arith

    go : (p : Option ℕ) → joined_width ss ≡ p → option_and_then bits_of p ≡ Some r → At v n Concat args ss
    go None is e = cc
    go (Some k) is e =
        let parts = joined_width-parts ss k is in
        let found = two_lists args (Bits parts.0) (Bits parts.1) (subst (Sized args) parts.2 sized) in
        rw (parts.2, found.2) (done-computes (found.1 ++ found.0) (number-append v found.1 found.0 ∙ ap (λ i. number_of v found.1 + 2 ^ i * number_of v found.0) found.4 ∙ turn (number_of v found.0) (number_of v found.1) (2 ^ parts.1)))

equal-at : (v : ℕ → Truth) (n : ℕ) → v 1 ≡ true → (ss : List Sort) (r : Sort) (args : List (List Lit)) → Sized args ss → result_sort Equal ss ≡ Some r → At v n Equal args ss
unfolding op_circuit
equal-at v n first ss r args sized e = go (two_alike ss) refl e
  where
    go : (p : Option Sort) → two_alike ss ≡ p → option_map (λ _. Bool) p ≡ Some r → At v n Equal args ss
    go None is e = cc
    go (Some s) is e =
        let shape = two_alike-parts ss s is in
        let k = two_lists args s s (subst (Sized args) shape sized) in
        at-shape v n Equal args (k.0 ∷ k.1 ∷ []) ss (s ∷ s ∷ []) shape k.2 (one-computes (number_of v k.0 == number_of v k.1) (equal-computes k.0 k.1 first (k.3 ∙ sym k.4)))

ite-circuit : (v : ℕ → Truth) (n : ℕ) (ss : List Sort) (r : Sort) (args : List (List Lit)) → Sized args ss → result_sort Ite ss ≡ Some r → At v n Ite args ss
ite-circuit v n ss r args sized e =
    let shape = choice-parts ss r e in
    let k = three_lists args Bool r r (subst (Sized args) shape sized) in
    at-shape v n Ite args (k.0 ∷ k.1 ∷ k.2 ∷ []) ss (Bool ∷ r ∷ r ∷ []) shape k.3 (ite-at v n k.0 k.1 k.2 r k.4 (k.5 ∙ sym k.6))

-- the laws on shifts
pub record Shifts : Type 0 where
  pub left : LeftShiftsShift
  pub right : RightShiftsShift
  pub keeps : SignedShiftsShift

computes : Shifts → (v : ℕ → Truth) → v 1 ≡ true → (n : ℕ) (o : Op) (ss : List Sort) (r : Sort) (args : List (List Lit)) → AllByRecursion IsLawful ss → result_sort o ss ≡ Some r → Sized args ss → At v n o args ss
unfolding op_circuit
computes law v one n Not ss r args l e h = at_one_bool v n Not (λ a s. done-computes (negs a) (negs-is v 1 a s)) ss r args h e
computes law v one n And ss r args l e h = at_two_bools v n And (λ a b s t. weaker (each-computes and bit_and (and-bits v) a b (s ∙ sym t)) (λ x hx. hx.1 ∙ on-bits v a b bit_and (λ i j. truth ((i == 1) && (j == 1))) s t and-values)) ss r args h e
computes law v one n Or ss r args l e h = at_two_bools v n Or (λ a b s t. weaker (each-computes or bit_or (or-bits v) a b (s ∙ sym t)) (λ x hx. hx.1 ∙ on-bits v a b bit_or (λ i j. truth ((i == 1) || (j == 1))) s t or-values)) ss r args h e
computes law v one n Xor ss r args l e h = at_two_bools v n Xor (λ a b s t. weaker (each-computes xor bit_xor (xor-bits v) a b (s ∙ sym t)) (λ x hx. hx.1 ∙ on-bits v a b bit_xor (λ i j. truth (not (i == j))) s t xor-values)) ss r args h e
computes law v one n Implies ss r args l e h = at_two_bools v n Implies (λ a b s t. weaker (each-computes or bit_or (or-bits v) (negs a) b (length-map a neg ∙ s ∙ sym t)) (λ x hx. hx.1 ∙ ap (λ i. bit_or i (number_of v b)) (negs-is v 1 a s) ∙ on-bits v a b (λ i j. bit_or (2 ^ 1 - 1 - i) j) (λ i j. truth ((i == 0) || (j == 1))) s t implies-values)) ss r args h e
computes law v one n Equal ss r args l e h = equal-at v n one ss r args h e
computes law v one n Ite ss r args l e h = ite-circuit v n ss r args h e
computes law v one n BvNot ss r args l e h = at_one_width v n BvNot (λ w. Some (Bits w)) (λ w a lo s. done-computes (negs a) (negs-is v w a s)) ss r args l h (map_then Bits (one_width ss) r e)
computes law v one n BvNeg ss r args l e h = at_one_width v n BvNeg (λ w. Some (Bits w)) (λ w a lo s. weaker (neg-computes a one) (λ x hx. hx.1 ∙ ap (λ k. (2 ^ k - number_of v a) % 2 ^ k) s)) ss r args l h (map_then Bits (one_width ss) r e)
computes law v one n BvAnd ss r args l e h = at_two_widths v n BvAnd Bits (λ w a b lo s t. weaker (each-computes and bit_and (and-bits v) a b (s ∙ sym t)) (λ x hx. hx.1)) ss r args l h e
computes law v one n BvOr ss r args l e h = at_two_widths v n BvOr Bits (λ w a b lo s t. weaker (each-computes or bit_or (or-bits v) a b (s ∙ sym t)) (λ x hx. hx.1)) ss r args l h e
computes law v one n BvXor ss r args l e h = at_two_widths v n BvXor Bits (λ w a b lo s t. weaker (each-computes xor bit_xor (xor-bits v) a b (s ∙ sym t)) (λ x hx. hx.1)) ss r args l h e
computes law v one n BvNand ss r args l e h = at_two_widths v n BvNand Bits (λ w a b lo s t. negated-computes w (length a) (bit_and (number_of v a) (number_of v b)) s (each-computes and bit_and (and-bits v) a b (s ∙ sym t))) ss r args l h e
computes law v one n BvNor ss r args l e h = at_two_widths v n BvNor Bits (λ w a b lo s t. negated-computes w (length a) (bit_or (number_of v a) (number_of v b)) s (each-computes or bit_or (or-bits v) a b (s ∙ sym t))) ss r args l h e
computes law v one n BvXnor ss r args l e h = at_two_widths v n BvXnor Bits (λ w a b lo s t. negated-computes w (length a) (bit_xor (number_of v a) (number_of v b)) s (each-computes xor bit_xor (xor-bits v) a b (s ∙ sym t))) ss r args l h e
computes law v one n BvAdd ss r args l e h = at_two_widths v n BvAdd Bits (λ w a b lo s t. weaker (sum-computes a b one (s ∙ sym t)) (λ x hx. hx.1 ∙ ap (λ k. (number_of v a + number_of v b) % 2 ^ k) s)) ss r args l h e
computes law v one n BvSub ss r args l e h = at_two_widths v n BvSub Bits (λ w a b lo s t. then-computes (sub-computes a b one (s ∙ sym t)) (λ i d hd. done-computes d.0 (hd ∙ ap (λ k. (number_of v a + 2 ^ k - number_of v b) % 2 ^ k) s))) ss r args l h e
computes law v one n BvMul ss r args l e h = at_two_widths v n BvMul Bits (λ w a b lo s t. weaker (mul-computes a b one) (λ x hx. hx ∙ ap (λ k. number_of v a * number_of v b % 2 ^ k) s)) ss r args l h e
computes law v one n BvUdiv ss r args l e h = at_two_widths v n BvUdiv Bits (λ w a b lo s t. then-computes (div-computes a b one (s ∙ sym t)) (λ i d hd. done-computes d.0 (hd.0 ∙ ap (λ k. op_value BvUdiv (Bits k ∷ Bits k ∷ []) (number_of v a ∷ number_of v b ∷ [])) s))) ss r args l h e
computes law v one n BvUrem ss r args l e h = at_two_widths v n BvUrem Bits (λ w a b lo s t. then-computes (div-computes a b one (s ∙ sym t)) (λ i d hd. done-computes d.1 hd.1)) ss r args l h e
computes law v one n BvSdiv ss r args l e h = at_two_widths v n BvSdiv Bits (λ w a b lo s t. weaker (quotient-computes a b one (s ∙ sym t)) (λ x hx. hx ∙ ap (λ k. op_value BvSdiv (Bits k ∷ Bits k ∷ []) (number_of v a ∷ number_of v b ∷ [])) s)) ss r args l h e
computes law v one n BvSrem ss r args l e h = at_two_widths v n BvSrem Bits (λ w a b lo s t. weaker (remainder-computes a b one (s ∙ sym t)) (λ x hx. hx ∙ ap (λ k. op_value BvSrem (Bits k ∷ Bits k ∷ []) (number_of v a ∷ number_of v b ∷ [])) s)) ss r args l h e
computes law v one n BvSmod ss r args l e h = at_two_widths v n BvSmod Bits (λ w a b lo s t. weaker (modulus-computes a b one (s ∙ sym t)) (λ x hx. hx ∙ ap (λ k. op_value BvSmod (Bits k ∷ Bits k ∷ []) (number_of v a ∷ number_of v b ∷ [])) s)) ss r args l h e
computes law v one n BvShl ss r args l e h = at_two_widths v n BvShl Bits (λ w a b lo s t. record { holds = λ ev. law.left v n a b one ev ∙ ap (λ k. op_value BvShl (Bits k ∷ Bits k ∷ []) (number_of v a ∷ number_of v b ∷ [])) s }) ss r args l h e
computes law v one n BvLshr ss r args l e h = at_two_widths v n BvLshr Bits (λ w a b lo s t. record { holds = λ ev. law.right v n a b one ev ∙ ap (λ k. op_value BvLshr (Bits k ∷ Bits k ∷ []) (number_of v a ∷ number_of v b ∷ [])) s }) ss r args l h e
computes law v one n BvAshr ss r args l e h = at_two_widths v n BvAshr Bits (λ w a b lo s t. record { holds = λ ev. law.keeps v n a b one ev ∙ ap (λ k. op_value BvAshr (Bits k ∷ Bits k ∷ []) (number_of v a ∷ number_of v b ∷ [])) s }) ss r args l h e
computes law v one n BvUlt ss r args l e h = at_two_widths v n BvUlt (λ _. Bool) (λ w a b lo s t. one-computes (nat_lt (number_of v a) (number_of v b)) (ult-computes a b one (s ∙ sym t))) ss r args l h e
computes law v one n BvUle ss r args l e h = at_two_widths v n BvUle (λ _. Bool) (λ w a b lo s t. not_one-computes (nat_lt (number_of v b) (number_of v a)) (nat_le (number_of v a) (number_of v b)) (ult-computes b a one (t ∙ sym s)) (le-not (number_of v a) (number_of v b))) ss r args l h e
computes law v one n BvUgt ss r args l e h = at_two_widths v n BvUgt (λ _. Bool) (λ w a b lo s t. one-computes (nat_lt (number_of v b) (number_of v a)) (ult-computes b a one (t ∙ sym s))) ss r args l h e
computes law v one n BvUge ss r args l e h = at_two_widths v n BvUge (λ _. Bool) (λ w a b lo s t. not_one-computes (nat_lt (number_of v a) (number_of v b)) (nat_le (number_of v b) (number_of v a)) (ult-computes a b one (s ∙ sym t)) (le-not (number_of v b) (number_of v a))) ss r args l h e
computes law v one n BvSlt ss r args l e h = at_two_widths v n BvSlt (λ _. Bool) (λ w a b lo s t. one-computes (int_lt (signed w (number_of v a)) (signed w (number_of v b))) (slt-computes w a b one lo s t)) ss r args l h e
computes law v one n BvSle ss r args l e h = at_two_widths v n BvSle (λ _. Bool) (λ w a b lo s t. not_one-computes (int_lt (signed w (number_of v b)) (signed w (number_of v a))) (int_le (signed w (number_of v a)) (signed w (number_of v b))) (slt-computes w b a one lo t s) (int-le-not (signed w (number_of v a)) (signed w (number_of v b)))) ss r args l h e
computes law v one n BvSgt ss r args l e h = at_two_widths v n BvSgt (λ _. Bool) (λ w a b lo s t. one-computes (int_lt (signed w (number_of v b)) (signed w (number_of v a))) (slt-computes w b a one lo t s)) ss r args l h e
computes law v one n BvSge ss r args l e h = at_two_widths v n BvSge (λ _. Bool) (λ w a b lo s t. not_one-computes (int_lt (signed w (number_of v a)) (signed w (number_of v b))) (int_le (signed w (number_of v b)) (signed w (number_of v a))) (slt-computes w a b one lo s t) (int-le-not (signed w (number_of v b)) (signed w (number_of v a)))) ss r args l h e
computes law v one n BvComp ss r args l e h = at_two_widths v n BvComp (λ _. Bits 1) (λ w a b lo s t. one-computes (number_of v a == number_of v b) (equal-computes a b one (s ∙ sym t))) ss r args l h e
computes law v one n Concat ss r args l e h = joined-at v n ss r args h e
computes law v one n (Extract i j) ss r args l e h = at_one_width v n (Extract i j) (bits_between i j) (λ w a lo s. done-computes (take (i - j + 1) (drop j a)) (number-take v (i - j + 1) (drop j a) ∙ ap (λ k. k % 2 ^ (i - j + 1)) (number-drop v j a))) ss r args l h e
computes law v one n (Repeat k) ss r args l e h = at_one_width v n (Repeat k) (bits_repeated k) (λ w a lo s. done-computes (copies k a) (copies-number v w k a s)) ss r args l h e
computes law v one n (ZeroExtend k) ss r args l e h = at_one_width v n (ZeroExtend k) (λ w. bits_of (w + k)) (λ w a lo s. done-computes (a ++ replicate k no) (number-append v a (replicate k no) ∙ ap (λ i. number_of v a + 2 ^ length a * i) (number-zeros v k no (ap not one)) ∙ omega arith)) ss r args l h e
computes law v one n (SignExtend k) ss r args l e h = at_one_width v n (SignExtend k) (λ w. bits_of (w + k)) (λ w a lo s. done-computes (a ++ replicate k (top a)) (extended-number v one w k a s)) ss r args l h e
computes law v one n (RotateLeft k) ss r args l e h = at_one_width v n (RotateLeft k) (λ w. Some (Bits w)) (λ w a lo s. done-computes (turned_left k a) (swapped-number v w (length a - k % length a) a s ∙ ap (λ i. turned w (number_of v a) (i - k % i)) s)) ss r args l h (map_then Bits (one_width ss) r e)
computes law v one n (RotateRight k) ss r args l e h = at_one_width v n (RotateRight k) (λ w. Some (Bits w)) (λ w a lo s. done-computes (turned_right k a) (swapped-number v w (k % length a) a s ∙ ap (λ i. turned w (number_of v a) (k % i)) s)) ss r args l h (map_then Bits (one_width ss) r e)
computes law v one n BvNego ss r args l e h = at_one_width v n BvNego (λ _. Some Bool) (λ w a lo s. one-computes (number_of v a == 2 ^ (w - 1)) (least-computes w a one lo s)) ss r args l h (map_then (λ _. Bool) (one_width ss) r e)
computes law v one n BvUaddo ss r args l e h = at_two_widths v n BvUaddo (λ _. Bool) (λ w a b lo s t. one-computes (nat_le (2 ^ w) (number_of v a + number_of v b)) (weaker (sum_overflow-computes a b one (s ∙ sym t)) (λ x hx. hx ∙ ap (λ k. nat_le (2 ^ k) (number_of v a + number_of v b)) s))) ss r args l h e
computes law v one n BvSaddo ss r args l e h = at_two_widths v n BvSaddo (λ _. Bool) (λ w a b lo s t. one-computes _ (signed_sum-computes w a b one lo s t)) ss r args l h e
computes law v one n BvUmulo ss r args l e h = at_two_widths v n BvUmulo (λ _. Bool) (λ w a b lo s t. one-computes _ (product-computes w a b one s t)) ss r args l h e
computes law v one n BvSmulo ss r args l e h = at_two_widths v n BvSmulo (λ _. Bool) (λ w a b lo s t. one-computes _ (signed_product-computes w a b one lo s t)) ss r args l h e
computes law v one n BvUsubo ss r args l e h = at_two_widths v n BvUsubo (λ _. Bool) (λ w a b lo s t. one-computes _ (ult-computes a b one (s ∙ sym t))) ss r args l h e
computes law v one n BvSsubo ss r args l e h = at_two_widths v n BvSsubo (λ _. Bool) (λ w a b lo s t. one-computes _ (signed_difference-computes w a b one lo s t)) ss r args l h e
computes law v one n BvSdivo ss r args l e h = at_two_widths v n BvSdivo (λ _. Bool) (λ w a b lo s t. one-computes _ (signed_quotient-computes w a b one lo s t)) ss r args l h e

pub circuit-theorem : Shifts → CircuitTheorem
circuit-theorem law o ss r args next v one lawful rank sized ev =
    (computes law v one next o ss r args (recursion_from_All IsLawful ss lawful) rank sized).holds ev
