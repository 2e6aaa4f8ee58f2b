-- The numbers of lists of literals that are cut, joined or filled up.
use Rattle.std.proofs.Common.{◌≡◌, ℕ, zero, suc, ◌+◌, ◌*◌, ◌/◌, ◌^◌, ◌<◌, Bool, true, false, List, [], ◌∷◌, ◌++◌, length, take, drop, replicate, refl, sym, ap, ◌∙◌, subst, arith}
use Rattle.std.proofs.lemmas.Nat.{pow_pos, mod_below}
use Rattle.qv_words.specs.Op.{truth}
use Rattle.qv_words.specs.Gate.{Lit, lit_value}
use Rattle.qv_circuits_laws.specs.CircuitLaws.{number_of}
use Rattle.qv_circuits_laws.proofs.Adding.{double, parts-of}
use Rattle.qv_circuits_laws.proofs.Multiplying.{number-take}

pub number-append : (v : ℕ → Bool) (a b : List Lit) → number_of v (a ++ b) ≡ number_of v a + 2 ^ length a * number_of v b
number-append v [] b = omega arith
number-append v (l ∷ ls) b =
    let t = truth (lit_value v l) in
    behind t (number_of v ls) (2 ^ length ls) (number_of v b) (number_of v (ls ++ b)) (number-append v ls b)
    ∙ sym (ap (λ p. t + 2 * number_of v ls + p * number_of v b) (double (length ls)))
  where
    behind : (t n p m r : ℕ) → r ≡ n + p * m → t + 2 * r ≡ t + 2 * n + 2 * p * m
    behind t n p m r e = omega (arith, e)

-- the low bits, and the others above them
pub number-split : (v : ℕ → Bool) (i : ℕ) (a : List Lit) → number_of v (take i a) + 2 ^ i * number_of v (drop i a) ≡ number_of v a
number-split v zero a = omega arith
number-split v (suc i) [] = omega arith
number-split v (suc i) (l ∷ ls) =
    let t = truth (lit_value v l) in
    ap (λ p. t + 2 * number_of v (take i ls) + p * number_of v (drop i ls)) (double i)
    ∙ behind t (number_of v (take i ls)) (2 ^ i) (number_of v (drop i ls)) (number_of v ls) (number-split v i ls)
  where
    behind : (t n p m r : ℕ) → n + p * m ≡ r → t + 2 * n + 2 * p * m ≡ t + 2 * r
    behind t n p m r e = omega (arith, e)

pub number-drop : (v : ℕ → Bool) (i : ℕ) (a : List Lit) → number_of v (drop i a) ≡ number_of v a / 2 ^ i
number-drop v i a =
    let low : number_of v (take i a) < 2 ^ i = subst (λ (k : ℕ). k < 2 ^ i) (sym (number-take v i a)) (mod_below (number_of v a) (2 ^ i) (pow_pos i)) in
    (parts-of (2 ^ i) (number_of v (take i a)) (number_of v (drop i a)) (number_of v a) low (number-split v i a)).1

-- copies of one literal
pub number-zeros : (v : ℕ → Bool) (n : ℕ) (l : Lit) → lit_value v l ≡ false → number_of v (replicate n l) ≡ 0
number-zeros v zero l h = refl
number-zeros v (suc n) l h = omega (arith, ap truth h, number-zeros v n l h)

pub number-ones : (v : ℕ → Bool) (n : ℕ) (l : Lit) → lit_value v l ≡ true → number_of v (replicate n l) + 1 ≡ 2 ^ n
number-ones v zero l h = refl
number-ones v (suc n) l h = omega (arith, ap truth h, number-ones v n l h, double n)
