-- What the routines that have no law yet compute.
use Rattle.std.proofs.Common.{◌≡◌, ℕ, zero, suc, ◌+◌, ◌-◌, ◌*◌, ◌/◌, ◌%◌, ◌^◌, ◌==◌, ◌&&◌, ◌||◌, Bool, true, false, not, cond, min, List, [], ◌∷◌, length, replicate, refl, sym, ap, ◌∙◌, arith, bit_and, bit_or, bit_xor, inl, inr, ◌++◌, take}
use Rattle.std.specs.Prelude.{max, reverse}
use Rattle.std.proofs.lemmas.Bool.{cases_eq, eq-eqb, ne_eqb}
use Rattle.std.specs.Int.Bits.{xor_self, xor_zero_l, xor_zero_r, xor_assoc}
use Rattle.std.specs.Int.{bit_at}
use Rattle.std.proofs.lemmas.Nat.Bits.{bit_at_and, bit_at_or, bit_at_xor, bit_at_lowest, bit_at-suc, same_from_bits}
use Rattle.std.proofs.lemmas.List.{length-map, length-replicate, length-append, length-take, length-reverse}
use Rattle.qv_words.specs.Op.{truth, quotient, remainder, magnitude_quotient, magnitude_remainder, signed_quotient, signed_remainder}
use Rattle.qv_words.specs.Signed.{negated, magnitude, is_negative}
use Rattle.qv_words.specs.Gate.{Lit, Circuit, ◌>>=◌, AndGate, XorGate, neg, yes, no, lit_value, and, xor, or}
use Rattle.qv_words.specs.Routine.{negs, top, neg_bits, each, and_all, conjunction_of, equal, abs, divided, div}
use Rattle.qv_words.specs.OpCircuit.{remainder_of, signed_quotient as quotient_circuit}
use Rattle.qv_circuits_laws.specs.CircuitLaws.{number_of}
use Rattle.qv_circuits_laws.proofs.Dividing.{div-computes}
use Rattle.qv_circuits_laws.proofs.Gates.{neg-value}
use Rattle.qv_circuits_laws.proofs.Evaluations.{Computes, done-computes, then-computes, gate-computes, weaker, together}
use Rattle.qv_circuits_laws.proofs.Adding.{add-computes, sum-parts}
use Rattle.qv_circuits_laws.proofs.Choosing.{sel-computes, sel-length, negs-number}
use Rattle.qv_circuits_laws.proofs.Places.{number-zeros}
use Rattle.qv_circuits_laws.proofs.Moving.{top-value}
use Rattle.qv_circuits_laws.proofs.Shifting.{or-computes}

-- a list of so many bits with this number
abbrev pub IsNumber : (ℕ → Bool) → ℕ → ℕ → List Lit → Type 0
IsNumber v w n r = (length r ≡ w) × (number_of v r ≡ n)

-- an operation of two bits, and one of two numbers that does it bit by bit
pub record BitByBit (v : ℕ → Bool) (op : Lit → Lit → Circuit Lit) (g : ℕ → ℕ → ℕ) : Type 0 where
  pub f : Bool → Bool → Bool
  pub gate : (n : ℕ) (a b : Lit) → Computes v n (op a b) (λ r. lit_value v r ≡ f (lit_value v a) (lit_value v b))
  pub none : g 0 0 ≡ 0
  pub more : (x y : Bool) (a b : ℕ) → truth (f x y) + 2 * g a b ≡ g (truth x + 2 * a) (truth y + 2 * b)

pub each-computes : {v : ℕ → Bool} {n : ℕ} (op : Lit → Lit → Circuit Lit) (g : ℕ → ℕ → ℕ) → BitByBit v op g → (a b : List Lit) → length a ≡ length b → Computes v n (each op a b) (IsNumber v (length a) (g (number_of v a) (number_of v b)))
unfolding each
each-computes {v} {n} op g o [] [] h = done-computes [] (refl, sym o.none)
each-computes {v} {n} op g o [] (b ∷ bs) h = absurd (omega (arith, h))
each-computes {v} {n} op g o (a ∷ as') [] h = absurd (omega (arith, h))
each-computes {v} {n} op g o (a ∷ as') (b ∷ bs) h =
    let same : length as' ≡ length bs = omega (arith, h) in
    then-computes (o.gate n a b) (λ i x hx.
    then-computes (each-computes op g o as' bs same) (λ j r hr.
    done-computes (x ∷ r) (
      ap suc hr.0,
      ap (λ k. truth k + 2 * number_of v r) hx ∙ ap (λ k. truth (o.f (lit_value v a) (lit_value v b)) + 2 * k) hr.1
          ∙ o.more (lit_value v a) (lit_value v b) (number_of v as') (number_of v bs),
    )))

-- the two's complement and the magnitude
pub neg-computes : {v : ℕ → Bool} {n : ℕ} (a : List Lit) → v 1 ≡ true → Computes v n (neg_bits a) (IsNumber v (length a) (negated (length a) (number_of v a)))
neg-computes {v} {n} a one =
    let w = length a in
    let zeros = replicate w no in
    let size : length (negs a) ≡ w = length-map a neg in
    let same : length (negs a) ≡ length zeros = size ∙ sym (length-replicate w no) in
    let total : number_of v (negs a) + number_of v zeros + truth (lit_value v yes) ≡ 2 ^ w - number_of v a =
    let z = number-zeros v w no (ap not one) in
    let y : truth (lit_value v yes) ≡ 1 = ap truth one in
    omega (arith, z, y, negs-number v a) in
    then-computes (add-computes (negs a) zeros yes same) (λ i s hs.
    let parts = sum-parts v (length (negs a)) (number_of v (negs a) + number_of v zeros + truth (lit_value v yes)) s hs in
    done-computes s.0 (hs.0 ∙ size, parts.0 ∙ ap (λ k. k % 2 ^ length (negs a)) total ∙ ap (λ k. (2 ^ w - number_of v a) % 2 ^ k) size))

pub abs-computes : {v : ℕ → Bool} {n : ℕ} (a : List Lit) → v 1 ≡ true → Computes v n (abs a) (IsNumber v (length a) (magnitude (length a) (number_of v a)))
abs-computes {v} {n} a one =
    then-computes (neg-computes a one) (λ i m hm.
    weaker (together (sel-length (top a) m a hm.0) (sel-computes (top a) m a hm.0)) (λ r hr. (
      hr.0 ∙ hm.0,
      hr.1 ∙ ap (λ k. cond (lit_value v (top a)) k (number_of v a)) hm.1
          ∙ ap (λ k. cond k (negated (length a) (number_of v a)) (number_of v a)) (top-value v one a),
    )))

-- bit by bit, on numbers
low-bit : (x : Bool) (a : ℕ) → bit_at (truth x + 2 * a) 0 ≡ truth x
low-bit true a = bit_at_lowest (1 + 2 * a) ∙ omega arith
low-bit false a = bit_at_lowest (0 + 2 * a) ∙ omega arith

high-bits : (x : Bool) (a i : ℕ) → bit_at (truth x + 2 * a) (suc i) ≡ bit_at a i
high-bits true a i = bit_at-suc (1 + 2 * a) i ∙ ap (λ n. bit_at n i) (let half : (1 + 2 * a) / 2 ≡ a = omega arith in half)
high-bits false a i = bit_at-suc (0 + 2 * a) i ∙ ap (λ n. bit_at n i) (let half : (0 + 2 * a) / 2 ≡ a = omega arith in half)

by-bits : (h m : ℕ → ℕ → ℕ) (f : Bool → Bool → Bool) → ((a b i : ℕ) → bit_at (h a b) i ≡ m (bit_at a i) (bit_at b i)) → ((x y : Bool) → truth (f x y) ≡ m (truth x) (truth y)) → (x y : Bool) (a b : ℕ) → truth (f x y) + 2 * h a b ≡ h (truth x + 2 * a) (truth y + 2 * b)
by-bits h m f law table x y a b = same_from_bits (truth (f x y) + 2 * h a b) (h (truth x + 2 * a) (truth y + 2 * b)) each-bit
  where
    each-bit : (i : ℕ) → bit_at (truth (f x y) + 2 * h a b) i ≡ bit_at (h (truth x + 2 * a) (truth y + 2 * b)) i
    each-bit zero =
        low-bit (f x y) (h a b) ∙ table x y
        ∙ sym (law (truth x + 2 * a) (truth y + 2 * b) 0 ∙ ap (λ k. m k (bit_at (truth y + 2 * b) 0)) (low-bit x a) ∙ ap (m (truth x)) (low-bit y b))
    each-bit (suc i) =
        high-bits (f x y) (h a b) i ∙ law a b i
        ∙ sym (law (truth x + 2 * a) (truth y + 2 * b) (suc i) ∙ ap (λ k. m k (bit_at (truth y + 2 * b) (suc i))) (high-bits x a i) ∙ ap (m (bit_at a i)) (high-bits y b i))

and-table : (x y : Bool) → truth (x && y) ≡ min (truth x) (truth y)
and-table true true = refl
and-table true false = refl
and-table false true = refl
and-table false false = refl

or-table : (x y : Bool) → truth (x || y) ≡ max (truth x) (truth y)
or-table true true = refl
or-table true false = refl
or-table false true = refl
or-table false false = refl

xor-table : (x y : Bool) → truth (cond x (not y) y) ≡ (truth x + truth y) % 2
xor-table true true = refl
xor-table true false = refl
xor-table false true = refl
xor-table false false = refl

pub and-bits : (v : ℕ → Bool) → BitByBit v and bit_and
and-bits v = record { f = λ x y. x && y; gate = λ n a b. gate-computes (AndGate a b); none = refl; more = by-bits bit_and min (λ x y. x && y) bit_at_and and-table }

pub or-bits : (v : ℕ → Bool) → BitByBit v or bit_or
or-bits v = record { f = λ x y. x || y; gate = λ n a b. or-computes a b; none = refl; more = by-bits bit_or max (λ x y. x || y) bit_at_or or-table }

pub xor-bits : (v : ℕ → Bool) → BitByBit v xor bit_xor
xor-bits v = record { f = λ x y. cond x (not y) y; gate = λ n a b. gate-computes (XorGate a b); none = refl; more = by-bits bit_xor (λ x y. (x + y) % 2) (λ x y. cond x (not y) y) bit_at_xor xor-table }

-- a conjunction of negations is whether no bit is set
none-set : (r l : Bool) (n : ℕ) → ((r && not l) && (n == 0)) ≡ (r && (truth l + 2 * n == 0))
none-set false l n = refl
none-set true true n = sym (ne_eqb (1 + 2 * n) 0 (λ h. omega (arith, h)))
none-set true false zero = refl
none-set true false (suc n) = ne_eqb (suc n) 0 (λ h. omega (arith, h)) ∙ sym (ne_eqb (0 + 2 * suc n) 0 (λ h. omega (arith, h)))

and-true : (b : Bool) → b ≡ (b && true)
and-true true = refl
and-true false = refl

all-computes : {v : ℕ → Bool} {n : ℕ} (r : Lit) (ls : List Lit) → Computes v n (and_all r (negs ls)) (λ x. lit_value v x ≡ (lit_value v r && (number_of v ls == 0)))
unfolding and_all
all-computes {v} {n} r [] = done-computes r (and-true (lit_value v r))
all-computes {v} {n} r (l ∷ ls) =
    then-computes (gate-computes (AndGate r (neg l))) (λ i g hg.
    weaker (all-computes g ls) (λ x hx.
    hx ∙ ap (λ b. b && (number_of v ls == 0)) (hg ∙ ap (λ b. lit_value v r && b) (neg-value v l)) ∙ none-set (lit_value v r) (lit_value v l) (number_of v ls)))

none-computes : {v : ℕ → Bool} {n : ℕ} (d : List Lit) → v 1 ≡ true → Computes v n (conjunction_of (negs d)) (λ x. lit_value v x ≡ (number_of v d == 0))
none-computes {v} {n} [] one = done-computes yes one
none-computes {v} {n} (l ∷ ls) one =
    weaker (all-computes (neg l) ls) (λ x hx. hx ∙ ap (λ b. b && (number_of v ls == 0)) (neg-value v l) ∙ none-set true (lit_value v l) (number_of v ls))

pub xor-none : (a b : ℕ) → (bit_xor a b == 0) ≡ (a == b)
xor-none a b = elim (cases_eq a b) [
  | inl same ↦ eq-eqb (bit_xor a b) 0 (ap (bit_xor a) (sym same) ∙ xor_self a) ∙ sym (eq-eqb a b same)
  | inr other ↦ ne_eqb (bit_xor a b) 0 (λ h. other (sym (xor_zero_r a) ∙ ap (bit_xor a) (sym (xor_self b)) ∙ sym (xor_assoc a b b) ∙ ap (λ k. bit_xor k b) h ∙ xor_zero_l b)) ∙ sym (ne_eqb a b other)
]

pub equal-computes : {v : ℕ → Bool} {n : ℕ} (a b : List Lit) → v 1 ≡ true → length a ≡ length b → Computes v n (equal a b) (λ x. lit_value v x ≡ (number_of v a == number_of v b))
equal-computes {v} {n} a b one h =
    then-computes (each-computes xor bit_xor (xor-bits v) a b h) (λ i d hd.
    weaker (none-computes d one) (λ x hx. hx ∙ ap (λ k. k == 0) hd.1 ∙ xor-none (number_of v a) (number_of v b)))

-- the lengths of a quotient and a remainder
abbrev pub AreLong : ℕ → ℕ → List Lit × List Lit → Type 0
AreLong i j s = (length s.0 ≡ i) × (length s.1 ≡ j)

divided-long : {v : ℕ → Bool} {n : ℕ} (b as' q r : List Lit) → length r ≡ length b → Computes v n (divided b as' q r) (AreLong (length as' + length q) (length b))
unfolding divided
divided-long {v} {n} b [] q r h = done-computes (q, r) (omega arith, h)
divided-long {v} {n} b (a ∷ as') q r h =
    let even : length (a ∷ r) ≡ length (negs (b ++ no ∷ [])) = omega (arith, h, length-append b (no ∷ []), length-map (b ++ no ∷ []) neg) in
    then-computes (add-computes (a ∷ r) (negs (b ++ no ∷ [])) yes even) (λ i d hd.
    let first : length (take (length b) d.0) ≡ length b = omega (arith, length-take (length b) d.0, hd.0, h) in
    let second : length (take (length b) (a ∷ r)) ≡ length b = omega (arith, length-take (length b) (a ∷ r), h) in
    then-computes (sel-length d.1 (take (length b) d.0) (take (length b) (a ∷ r)) (first ∙ sym second)) (λ j next hn.
    weaker (divided-long b as' (d.1 ∷ q) next (hn ∙ first)) (λ s hs. (omega (arith, hs.0), hs.1))))

pub div-long : {v : ℕ → Bool} {n : ℕ} (a b : List Lit) → length a ≡ length b → Computes v n (div a b) (AreLong (length a) (length a))
div-long {v} {n} a b h =
    weaker (divided-long b (reverse a) [] (replicate (length a) no) (length-replicate (length a) no ∙ h)) (λ s hs.
    (hs.0 ∙ (let long = length-reverse a in omega (arith, long)), hs.1 ∙ sym h))

-- the signed divisions
by-signs : (p q : Bool) (x y : ℕ) → cond (cond p (not q) q) x y ≡ cond p (cond q y x) (cond q x y)
by-signs true true x y = refl
by-signs true false x y = refl
by-signs false true x y = refl
by-signs false false x y = refl

-- the parts of a signed division
pub record Parts (v : ℕ → Bool) (w a b : ℕ) (d : List Lit × List Lit) : Type 0 where
  pub quotient_size : length d.0 ≡ w
  pub rest_size : length d.1 ≡ w
  pub quotient : number_of v d.0 ≡ magnitude_quotient w a b
  pub rest : number_of v d.1 ≡ magnitude_remainder w a b

pub parts-computes : {A : Type 0} {v : ℕ → Bool} {n : ℕ} {Q : A → Type 0} (a b : List Lit) → v 1 ≡ true → length a ≡ length b → (f : List Lit × List Lit → Circuit A) → ((k : ℕ) (d : List Lit × List Lit) → Parts v (length a) (number_of v a) (number_of v b) d → Computes v k (f d) Q) → Computes v n (abs a >>= (λ m. abs b >>= (λ k. div m k >>= f))) Q
parts-computes {A} {v} {n} {Q} a b one h f then' =
    let w = length a in
    then-computes (abs-computes a one) (λ i m hm.
    then-computes (abs-computes b one) (λ j k hk.
    let same : length m ≡ length k = hm.0 ∙ h ∙ sym hk.0 in
    let second : number_of v k ≡ magnitude w (number_of v b) = hk.1 ∙ ap (λ i. magnitude i (number_of v b)) (sym h) in
    then-computes (together (div-computes m k one same) (div-long m k same)) (λ l d hd.
    then' l d (record {
      quotient_size = hd.1.0 ∙ hm.0;
      rest_size = hd.1.1 ∙ hm.0;
      quotient = hd.0.0 ∙ ap (λ i. quotient i (number_of v m) (number_of v k)) hm.0 ∙ ap (λ i. quotient w i (number_of v k)) hm.1 ∙ ap (quotient w (magnitude w (number_of v a))) second;
      rest = hd.0.1 ∙ ap (λ i. remainder i (number_of v k)) hm.1 ∙ ap (remainder (magnitude w (number_of v a))) second;
    }))))

pub top-of : (v : ℕ → Bool) → v 1 ≡ true → (w : ℕ) (a : List Lit) → length a ≡ w → lit_value v (top a) ≡ is_negative w (number_of v a)
top-of v one w a h = top-value v one a ∙ ap (λ i. is_negative i (number_of v a)) h

pub quotient-computes : {v : ℕ → Bool} {n : ℕ} (a b : List Lit) → v 1 ≡ true → length a ≡ length b → Computes v n (quotient_circuit a b) (λ r. number_of v r ≡ signed_quotient (length a) (number_of v a) (number_of v b))
quotient-computes {v} {n} a b one h =
    let w = length a in
    let na = number_of v a in
    let nb = number_of v b in
    let q = magnitude_quotient w na nb in
    parts-computes a b one h _ (λ l d hd.
    then-computes (gate-computes (XorGate (top a) (top b))) (λ p x hx.
    then-computes (neg-computes d.0 one) (λ i t ht.
    weaker (sel-computes x t d.0 ht.0) (λ r hr.
    let negative : number_of v t ≡ negated w q = ht.1 ∙ ap (λ i. negated i (number_of v d.0)) hd.quotient_size ∙ ap (negated w) hd.quotient in
    let signs : lit_value v x ≡ cond (is_negative w na) (not (is_negative w nb)) (is_negative w nb) =
    hx ∙ ap (λ b'. cond b' (not (lit_value v (top b))) (lit_value v (top b))) (top-of v one w a refl) ∙ ap (λ b'. cond (is_negative w na) (not b') b') (top-of v one w b (sym h)) in
    hr ∙ ap (λ k. cond (lit_value v x) k (number_of v d.0)) negative ∙ ap (λ k. cond (lit_value v x) (negated w q) k) hd.quotient ∙ ap (λ k. cond k (negated w q) q) signs
    ∙ by-signs (is_negative w na) (is_negative w nb) (negated w q) q))))

pub remainder-computes : {v : ℕ → Bool} {n : ℕ} (a b : List Lit) → v 1 ≡ true → length a ≡ length b → Computes v n (remainder_of a b) (λ r. number_of v r ≡ signed_remainder (length a) (number_of v a) (number_of v b))
remainder-computes {v} {n} a b one h =
    let w = length a in
    parts-computes a b one h _ (λ l d hd.
    then-computes (neg-computes d.1 one) (λ i t ht.
    weaker (sel-computes (top a) t d.1 ht.0) (λ r hr. hr ∙ rest-value v one w a b t d.1 refl (ht.1 ∙ ap (λ i. negated i (number_of v d.1)) hd.rest_size ∙ ap (negated w) hd.rest) hd.rest)))
  where
    rest-value : (v : ℕ → Bool) → v 1 ≡ true → (w : ℕ) (a b t d : List Lit) → length a ≡ w → number_of v t ≡ negated w (magnitude_remainder w (number_of v a) (number_of v b)) → number_of v d ≡ magnitude_remainder w (number_of v a) (number_of v b) → cond (lit_value v (top a)) (number_of v t) (number_of v d) ≡ signed_remainder w (number_of v a) (number_of v b)
    rest-value v one w a b t d size e f =
        ap (λ k. cond (lit_value v (top a)) k (number_of v d)) e ∙ ap (λ k. cond (lit_value v (top a)) (negated w (magnitude_remainder w (number_of v a) (number_of v b))) k) f
        ∙ ap (λ k. cond k (negated w (magnitude_remainder w (number_of v a) (number_of v b))) (magnitude_remainder w (number_of v a) (number_of v b))) (top-of v one w a size)
