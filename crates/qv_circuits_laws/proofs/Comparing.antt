-- Signed comparisons, the signed modulus, and sums that go past a width.
use Rattle.std.proofs.Common.{◌≡◌, ℕ, zero, suc, ◌+◌, ◌-◌, ◌*◌, ◌%◌, ◌^◌, ◌≤◌, ◌<◌, ◌==◌, ◌&&◌, Bool, true, false, not, cond, nat_lt, nat_le, List, [], ◌∷◌, length, take, replicate, ℤ, pos, negsuc, inl, inr, refl, sym, ap, ◌∙◌, subst, arith}
use Rattle.std.specs.Prelude.{int_lt, int_le}
use Rattle.std.proofs.lemmas.Bool.{leb-true, leb-false, eqb-true, lt-ltb, le-ltb, lt-leb, le-leb, cases_lt}
use Rattle.std.proofs.lemmas.List.{length-replicate, length-append, length-take}
use Rattle.std.proofs.lemmas.Nat.{pow_pos, mod_below}
use Rattle.std.proofs.Math.Nat.{mod-eq_of_lt, mod-add-mod, mod_self}
use Rattle.qv_words.specs.Op.{truth, magnitude_remainder, signed_modulus, modulus_from}
use Rattle.qv_words.specs.Signed.{signed, negated, is_negative}
use Rattle.qv_words.specs.Gate.{Lit, AndGate, XorGate, neg, yes, no, lit_value, and}
use Rattle.qv_words.specs.Routine.{top, each, ult, slt, turned}
use Rattle.qv_words.specs.OpCircuit.{modulus}
use Rattle.qv_circuits_laws.specs.CircuitLaws.{number_of}
use Rattle.qv_words.proofs.Bounds.{magnitude_remainder-lt}
use Rattle.qv_circuits_laws.proofs.Gates.{neg-value}
use Rattle.qv_circuits_laws.proofs.Evaluations.{Computes, done-computes, then-computes, gate-computes, weaker, together}
use Rattle.qv_words.proofs.TwosComplement.{halves, signed-negative, signed-other, mod_once}
use Rattle.qv_circuits_laws.proofs.Adding.{number-below}
use Rattle.qv_circuits_laws.proofs.Choosing.{sel-computes, sel-length, carry-computes, not-less}
use Rattle.qv_circuits_laws.proofs.Multiplying.{number-take, sum-computes}
use Rattle.qv_circuits_laws.proofs.Places.{number-append, number-zeros}
use Rattle.qv_circuits_laws.proofs.Values.{IsNumber, parts-computes, neg-computes, equal-computes, top-of}
use Rattle.qv_circuits_laws.proofs.Moving.{number-fits}

-- comparisons
pub ult-computes : {v : ℕ → Bool} {n : ℕ} (a b : List Lit) → v 1 ≡ true → length a ≡ length b → Computes v n (ult a b) (λ r. lit_value v r ≡ nat_lt (number_of v a) (number_of v b))
ult-computes {v} {n} a b one same =
    then-computes (carry-computes a b yes same) (λ i c hc.
    done-computes (neg c) (neg-value v c ∙ ap not (hc ∙ ap (λ k. nat_le (number_of v b + (1 - truth k)) (number_of v a)) one) ∙ not-less (number_of v a) (number_of v b)))

pub turned-length : (a : List Lit) → length (turned a) ≡ length a
turned-length [] = refl
turned-length (a ∷ as') =
    let front = length-take (length as') (a ∷ as') in
    length-append (take (length as') (a ∷ as')) (neg (top (a ∷ as')) ∷ []) ∙ omega (arith, front)

-- with the top bit turned
turned-table : (t : Bool) (h x : ℕ) → h + x * (truth (not t) + 2 * 0) ≡ cond t h (h + x)
turned-table true h x = omega arith
turned-table false h x = omega arith

turned-half : (t : Bool) (p a : ℕ) → 0 < p → a < p + p → t ≡ nat_le p a → cond t (a % p) (a % p + p) ≡ cond t (a - p) (a + p)
turned-half true p a some fits e = let high = leb-true p a (sym e) in mod_once a p high fits
turned-half false p a some fits e = let low = leb-false p a (sym e) in ap (λ k. k + p) (mod-eq_of_lt low)

turned-number : (v : ℕ → Bool) → v 1 ≡ true → (w : ℕ) (a : List Lit) → 1 ≤ w → length a ≡ w → number_of v (turned a) ≡ cond (is_negative w (number_of v a)) (number_of v a - 2 ^ (w - 1)) (number_of v a + 2 ^ (w - 1))
turned-number v one w [] some size = absurd (omega (arith, some, size))
turned-number v one w (a ∷ as') some size =
    let k = length as' in
    let all = a ∷ as' in
    let last = top all in
    let na = number_of v all in
    let before : k ≡ w - 1 = omega (arith, size) in
    let front : length (take k all) ≡ k = omega (arith, length-take k all) in
    let bit : lit_value v last ≡ is_negative w na = top-of v one w all size in
    let split : number_of v (turned all) ≡ na % 2 ^ k + 2 ^ k * (truth (not (lit_value v last)) + 2 * 0) =
    number-append v (take k all) (neg last ∷ []) ∙ ap (λ i. i + 2 ^ length (take k all) * (truth (lit_value v (neg last)) + 2 * 0)) (number-take v k all)
    ∙ ap (λ i. na % 2 ^ k + 2 ^ i * (truth (lit_value v (neg last)) + 2 * 0)) front ∙ ap (λ b. na % 2 ^ k + 2 ^ k * (truth b + 2 * 0)) (neg-value v last) in
    let fits : na < 2 ^ (w - 1) + 2 ^ (w - 1) = subst (λ (i : ℕ). na < i) (halves w some) (subst (λ (i : ℕ). na < 2 ^ i) size (number-below v all)) in
    split ∙ turned-table (lit_value v last) (na % 2 ^ k) (2 ^ k) ∙ ap (λ i. cond (lit_value v last) (na % 2 ^ i) (na % 2 ^ i + 2 ^ i)) before
    ∙ ap (λ b. cond b (na % 2 ^ (w - 1)) (na % 2 ^ (w - 1) + 2 ^ (w - 1))) bit
    ∙ turned-half (is_negative w na) (2 ^ (w - 1)) na (pow_pos (w - 1)) fits refl

-- one test in place of another
ltb_same : (a b c d : ℕ) → (a < b → c < d) → (c < d → a < b) → nat_lt a b ≡ nat_lt c d
ltb_same a b c d f g = elim (cases_lt a b) [
  | inl less ↦ lt-ltb a b less ∙ sym (lt-ltb c d (f less))
  | inr more ↦ le-ltb a b more ∙ sym (elim (cases_lt c d) [ inl k ↦ absurd (let low : a < b = g k in omega (arith, low, more)) | inr k ↦ le-ltb c d k ])
]

pub le-not : (m n : ℕ) → not (nat_lt n m) ≡ nat_le m n
le-not m n = elim (cases_lt n m) [
  | inl less ↦ ap not (lt-ltb n m less) ∙ sym (lt-leb m n less)
  | inr more ↦ ap not (le-ltb n m more) ∙ sym (le-leb m n more)
]

pub int-le-not : (x y : ℤ) → not (int_lt y x) ≡ int_le x y
int-le-not (pos m) (pos n) = le-not m n
int-le-not (pos m) (negsuc n) = refl
int-le-not (negsuc m) (pos n) = refl
int-le-not (negsuc m) (negsuc n) = le-not n m

signed-less : (w a b : ℕ) → 1 ≤ w → a < 2 ^ w → b < 2 ^ w → nat_lt (cond (is_negative w a) (a - 2 ^ (w - 1)) (a + 2 ^ (w - 1))) (cond (is_negative w b) (b - 2 ^ (w - 1)) (b + 2 ^ (w - 1))) ≡ int_lt (signed w a) (signed w b)
signed-less w a b lo fa fb = go (is_negative w a) (is_negative w b) refl refl
  where
    both-ways : (x y z u : ℤ) → x ≡ y → z ≡ u → int_lt x z ≡ int_lt y u
    both-ways x y z u e f = ap (λ k. int_lt k z) e ∙ ap (int_lt y) f

    go : (p q : Bool) → is_negative w a ≡ p → is_negative w b ≡ q → nat_lt (cond p (a - 2 ^ (w - 1)) (a + 2 ^ (w - 1))) (cond q (b - 2 ^ (w - 1)) (b + 2 ^ (w - 1))) ≡ int_lt (signed w a) (signed w b)
    go true true e f =
        let h = leb-true (2 ^ (w - 1)) a e in
        let k = leb-true (2 ^ (w - 1)) b f in
        ltb_same (a - 2 ^ (w - 1)) (b - 2 ^ (w - 1)) (2 ^ w - 1 - b) (2 ^ w - 1 - a) (λ i. omega (arith, i, h, k, fa, fb)) (λ i. omega (arith, i, h, k, fa, fb))
        ∙ sym (both-ways (signed w a) (negsuc (2 ^ w - 1 - a)) (signed w b) (negsuc (2 ^ w - 1 - b)) (signed-negative w a e) (signed-negative w b f))
    go true false e f =
        let h = leb-true (2 ^ (w - 1)) a e in
        let twice = halves w lo in
        lt-ltb (a - 2 ^ (w - 1)) (b + 2 ^ (w - 1)) (omega (arith, h, fa, twice))
        ∙ sym (both-ways (signed w a) (negsuc (2 ^ w - 1 - a)) (signed w b) (pos b) (signed-negative w a e) (signed-other w b f))
    go false true e f =
        let twice = halves w lo in
        le-ltb (a + 2 ^ (w - 1)) (b - 2 ^ (w - 1)) (omega (arith, fb, twice))
        ∙ sym (both-ways (signed w a) (pos a) (signed w b) (negsuc (2 ^ w - 1 - b)) (signed-other w a e) (signed-negative w b f))
    go false false e f =
        ltb_same (a + 2 ^ (w - 1)) (b + 2 ^ (w - 1)) a b (λ i. omega (arith, i)) (λ i. omega (arith, i))
        ∙ sym (both-ways (signed w a) (pos a) (signed w b) (pos b) (signed-other w a e) (signed-other w b f))

pub slt-computes : {v : ℕ → Bool} {n : ℕ} (w : ℕ) (a b : List Lit) → v 1 ≡ true → 1 ≤ w → length a ≡ w → length b ≡ w → Computes v n (slt a b) (λ r. lit_value v r ≡ int_lt (signed w (number_of v a)) (signed w (number_of v b)))
slt-computes {v} {n} w a b one lo ha hb =
    weaker (ult-computes (turned a) (turned b) one (turned-length a ∙ ha ∙ sym hb ∙ sym (turned-length b))) (λ r hr.
    hr ∙ ap (λ k. nat_lt k (number_of v (turned b))) (turned-number v one w a lo ha)
    ∙ ap (nat_lt (cond (is_negative w (number_of v a)) (number_of v a - 2 ^ (w - 1)) (number_of v a + 2 ^ (w - 1)))) (turned-number v one w b lo hb)
    ∙ signed-less w (number_of v a) (number_of v b) lo (number-fits v w a ha) (number-fits v w b hb))

-- a list where a literal is set, and nothing where it isn't
and-bit : (a b : Bool) → truth (a && b) ≡ truth a * truth b
and-bit true true = refl
and-bit true false = refl
and-bit false true = refl
and-bit false false = refl

gated-computes : {v : ℕ → Bool} {n : ℕ} (k : ℕ) (t : Lit) (b : List Lit) → length b ≡ k → Computes v n (each and (replicate k t) b) (IsNumber v k (truth (lit_value v t) * number_of v b))
unfolding each
gated-computes {v} {n} zero t [] h = done-computes [] (refl, omega arith)
gated-computes {v} {n} zero t (b ∷ bs) h = absurd (omega (arith, h))
gated-computes {v} {n} (suc k) t [] h = absurd (omega (arith, h))
gated-computes {v} {n} (suc k) t (b ∷ bs) h =
    then-computes (gate-computes (AndGate t b)) (λ i x hx.
    then-computes (gated-computes k t bs (omega (arith, h))) (λ j r hr.
    let tt' = truth (lit_value v t) in
    let bit : truth (lit_value v x) ≡ tt' * truth (lit_value v b) = ap truth hx ∙ and-bit (lit_value v t) (lit_value v b) in
    done-computes (x ∷ r) (ap suc hr.0, ap (λ m. m + 2 * number_of v r) bit ∙ ap (λ m. tt' * truth (lit_value v b) + 2 * m) hr.1 ∙ sides tt' (truth (lit_value v b)) (number_of v bs))))
  where
    sides : (t b r : ℕ) → t * b + 2 * (t * r) ≡ t * (b + 2 * r)
    sides t b r = omega arith

-- the modulus from the remainder of the magnitudes
negated-zero : (w : ℕ) → negated w 0 ≡ 0
negated-zero w = let all : 2 ^ w - 0 ≡ 2 ^ w = omega arith in ap (λ k. k % 2 ^ w) all ∙ mod_self (2 ^ w)

modulus-none : (w b : ℕ) (p q : Bool) → (cond p (negated w 0) 0 + truth (cond p (not q) q && false) * b) % 2 ^ w ≡ 0
modulus-none w b true true = ap (λ k. (k + 0 * b) % 2 ^ w) (negated-zero w) ∙ ap (λ k. k % 2 ^ w) (let z : 0 + 0 * b ≡ 0 = omega arith in z) ∙ mod-eq_of_lt (pow_pos w)
modulus-none w b true false = ap (λ k. (k + 0 * b) % 2 ^ w) (negated-zero w) ∙ ap (λ k. k % 2 ^ w) (let z : 0 + 0 * b ≡ 0 = omega arith in z) ∙ mod-eq_of_lt (pow_pos w)
modulus-none w b false true = ap (λ k. k % 2 ^ w) (let z : 0 + 0 * b ≡ 0 = omega arith in z) ∙ mod-eq_of_lt (pow_pos w)
modulus-none w b false false = ap (λ k. k % 2 ^ w) (let z : 0 + 0 * b ≡ 0 = omega arith in z) ∙ mod-eq_of_lt (pow_pos w)

modulus-some : (w b u : ℕ) (p q : Bool) → u < 2 ^ w → (cond p (negated w u) u + truth (cond p (not q) q && true) * b) % 2 ^ w ≡ cond p (cond q (negated w u) ((b + 2 ^ w - u) % 2 ^ w)) (cond q ((u + b) % 2 ^ w) u)
modulus-some w b u true true low = ap (λ k. k % 2 ^ w) (let z : negated w u + 0 * b ≡ negated w u = omega arith in z) ∙ mod-eq_of_lt (mod_below (2 ^ w - u) (2 ^ w) (pow_pos w))
modulus-some w b u true false low =
    ap (λ k. k % 2 ^ w) (let z : negated w u + 1 * b ≡ negated w u + b = omega arith in z) ∙ mod-add-mod (2 ^ w - u) (2 ^ w) b
    ∙ ap (λ k. k % 2 ^ w) (let z : 2 ^ w - u + b ≡ b + 2 ^ w - u = omega (arith, low) in z)
modulus-some w b u false true low = ap (λ k. k % 2 ^ w) (let z : u + 1 * b ≡ u + b = omega arith in z)
modulus-some w b u false false low = ap (λ k. k % 2 ^ w) (let z : u + 0 * b ≡ u = omega arith in z) ∙ mod-eq_of_lt low

modulus-value : (w a b u : ℕ) → u < 2 ^ w → (cond (is_negative w a) (negated w u) u + truth (cond (is_negative w a) (not (is_negative w b)) (is_negative w b) && not (u == 0)) * b) % 2 ^ w ≡ modulus_from w a b u
modulus-value w a b u low = go (u == 0) refl
  where
    go : (z : Bool) → (u == 0) ≡ z → (cond (is_negative w a) (negated w u) u + truth (cond (is_negative w a) (not (is_negative w b)) (is_negative w b) && not z) * b) % 2 ^ w ≡ cond z 0 (cond (is_negative w a) (cond (is_negative w b) (negated w u) ((b + 2 ^ w - u) % 2 ^ w)) (cond (is_negative w b) ((u + b) % 2 ^ w) u))
    go true e =
        let none : u ≡ 0 = eqb-true u 0 e in
        ap (λ k. (cond (is_negative w a) (negated w k) k + truth (cond (is_negative w a) (not (is_negative w b)) (is_negative w b) && false) * b) % 2 ^ w) none
        ∙ modulus-none w b (is_negative w a) (is_negative w b)
    go false e = modulus-some w b u (is_negative w a) (is_negative w b) low

pub modulus-computes : {v : ℕ → Bool} {n : ℕ} (a b : List Lit) → v 1 ≡ true → length a ≡ length b → Computes v n (modulus a b) (λ r. number_of v r ≡ signed_modulus (length a) (number_of v a) (number_of v b))
modulus-computes {v} {n} a b one h =
    let w = length a in
    let na = number_of v a in
    let nb = number_of v b in
    let rest = magnitude_remainder w na nb in
    let zeros = replicate w no in
    parts-computes a b one h _ (λ l d hd.
    then-computes (neg-computes d.1 one) (λ i t ht.
    then-computes (together (sel-length (top a) t d.1 ht.0) (sel-computes (top a) t d.1 ht.0)) (λ j u hu.
    then-computes (equal-computes d.1 zeros one (hd.rest_size ∙ sym (length-replicate w no))) (λ k z hz.
    then-computes (gate-computes (XorGate (top a) (top b))) (λ m x hx.
    then-computes (gate-computes (AndGate x (neg z))) (λ o y hy.
    then-computes (gated-computes (length b) y b refl) (λ q g hg.
    let size : length u ≡ w = hu.0 ∙ ht.0 ∙ hd.rest_size in
    weaker (sum-computes u g one (size ∙ h ∙ sym hg.0)) (λ r hr.
    let pa = top-of v one w a refl in
    let pb = top-of v one w b (sym h) in
    let first : number_of v u ≡ cond (is_negative w na) (negated w rest) rest =
    hu.1 ∙ ap (λ s. cond (lit_value v (top a)) s (number_of v d.1)) (ht.1 ∙ ap (λ s. negated s (number_of v d.1)) hd.rest_size ∙ ap (negated w) hd.rest)
    ∙ ap (λ s. cond (lit_value v (top a)) (negated w rest) s) hd.rest ∙ ap (λ s. cond s (negated w rest) rest) pa in
    let none : lit_value v z ≡ (rest == 0) = hz ∙ ap (λ s. s == number_of v zeros) hd.rest ∙ ap (λ s. rest == s) (number-zeros v w no (ap not one)) in
    let signs : lit_value v x ≡ cond (is_negative w na) (not (is_negative w nb)) (is_negative w nb) =
    hx ∙ ap (λ s. cond s (not (lit_value v (top b))) (lit_value v (top b))) pa ∙ ap (λ s. cond (is_negative w na) (not s) s) pb in
    let gate : lit_value v y ≡ (cond (is_negative w na) (not (is_negative w nb)) (is_negative w nb) && not (rest == 0)) =
    hy ∙ ap (λ s. s && lit_value v (neg z)) signs ∙ ap (λ s. cond (is_negative w na) (not (is_negative w nb)) (is_negative w nb) && s) (neg-value v z ∙ ap not none) in
    hr.1 ∙ ap (λ s. (number_of v u + number_of v g) % 2 ^ s) size ∙ ap (λ s. (s + number_of v g) % 2 ^ w) first
    ∙ ap (λ s. (cond (is_negative w na) (negated w rest) rest + s) % 2 ^ w) (hg.1 ∙ ap (λ s. truth s * nb) gate)
    ∙ modulus-value w na nb rest (magnitude_remainder-lt w na nb (number-below v a))))))))))
