-- Sums, products and opposites modulo n.
use Rattle.std.proofs.Common.{◌≡◌, ℕ, zero, suc, ◌+◌, ◌-◌, ◌*◌, ◌%◌, ◌<◌, ◌==◌, sym, ap, ◌∙◌, refl, arith, inl, inr}
use Rattle.std.proofs.lemmas.Bool.{cases_eq, eq-eqb, ne_eqb}
use Rattle.std.proofs.lemmas.Nat.{mul-mod, mod_below}
use Rattle.std.proofs.Math.Nat.{mod-add-mod, add-mod-mod, mod-eq_of_lt, add-mul-mod_self_left, mod-mod, zero-mod}

split-add : (n a c : ℕ) → (a + c) % n ≡ (a % n + c % n) % n
split-add n a c = sym (add-mod-mod (a % n) c n ∙ mod-add-mod a n c)

pub add-like : (n a b c d : ℕ) → a % n ≡ b % n → c % n ≡ d % n → (a + c) % n ≡ (b + d) % n
add-like n a b c d p q = split-add n a c ∙ rw (p, q) (sym (split-add n b d))

pub mul-like : (n a b c d : ℕ) → a % n ≡ b % n → c % n ≡ d % n → (a * c) % n ≡ (b * d) % n
mul-like n a b c d p q = mul-mod a c n ∙ rw (p, q) (sym (mul-mod b d n))

-- a sum with one part known
pub add-like_left : (n a b c : ℕ) → a % n ≡ b % n → (a + c) % n ≡ (b + c) % n
add-like_left n a b c p = add-like n a b c c p refl

pub add-like_right : (n a c d : ℕ) → c % n ≡ d % n → (a + c) % n ≡ (a + d) % n
add-like_right n a c d q = add-like n a a c d refl q

-- what is a multiple of n more
pub more-whole : (n a k : ℕ) → (a + n * k) % n ≡ a % n
more-whole n a k = add-mul-mod_self_left a n k

-- what is less than n is its own remainder
pub rest-below : (n a : ℕ) → a < n → a % n ≡ a
rest-below n a h = mod-eq_of_lt h

-- what is added to both sides goes
pub add-cancel : (n a b c : ℕ) → 0 < n → (a + c) % n ≡ (b + c) % n → a % n ≡ b % n
add-cancel n a b c pos h =
    let low : c % n < n = mod_below c n pos in
    let left : (a + c + (n - c % n)) % n ≡ (b + c + (n - c % n)) % n = add-like_left n (a + c) (b + c) (n - c % n) h in
    whole a ∙ left ∙ sym (whole b)
  where
    whole : (x : ℕ) → x % n ≡ (x + c + (n - c % n)) % n
    whole x = sym (
        add-like_left n (x + c) (x + c % n) (n - c % n) (add-like_right n x c (c % n) (sym (mod-mod c n)))
        ∙ ap (λ y. y % n) (let low : c % n < n = mod_below c n pos in omega arith)
        ∙ more-whole n x 1)

-- what is equal modulo n to a number below n has it as its remainder
pub like : (n x a : ℕ) → x % n ≡ a → x % n ≡ a % n
like n x a h = sym (mod-mod x n) ∙ ap (λ y. y % n) h

-- one less than n times a number, and the number
pub pred-times : (n b : ℕ) → 0 < n → (n - 1) * b + b ≡ n * b
pred-times zero b pos = absurd (omega (arith, pos))
pred-times (suc n) b pos =
    let less : suc n - 1 ≡ n = omega arith in
    ap (λ k. k * b + b) less ∙ omega arith

-- the opposite of a number
pub opposite-of : (n a b : ℕ) → 0 < n → b < n → (a + (n - 1) * b) % n ≡ (a + n - b) % n
opposite-of n a b pos h =
    let times : (n - 1) * b + b ≡ n * b = pred-times n b pos in
    add-cancel n (a + (n - 1) * b) (a + n - b) b pos (
    ap (λ y. y % n) (let turned : a + (n - 1) * b + b ≡ a + n * b = omega (arith, times) in turned)
    ∙ more-whole n a b
    ∙ sym (more-whole n a 1)
    ∙ ap (λ y. y % n) (let turned : a + n * 1 ≡ a + n - b + b = omega (arith, h) in turned))

-- the opposite of a number and one more
pub complement-of : (n a : ℕ) → a < n → ((n - 1) * (a + 1)) % n ≡ n - 1 - a
complement-of n a h =
    let pos : 0 < n = omega (arith, h) in
    let times : (n - 1) * (a + 1) + (a + 1) ≡ n * (a + 1) = pred-times n (a + 1) pos in
    add-cancel n ((n - 1) * (a + 1)) (n - 1 - a) (a + 1) pos (
    ap (λ y. y % n) (let turned : (n - 1) * (a + 1) + (a + 1) ≡ 0 + n * (a + 1) = omega (arith, times) in turned)
    ∙ more-whole n 0 (a + 1)
    ∙ sym (more-whole n 0 1)
    ∙ ap (λ y. y % n) (let turned : 0 + n * 1 ≡ n - 1 - a + (a + 1) = omega (arith, h) in turned))
    ∙ rest-below n (n - 1 - a) (omega (arith, h))

-- where x and b make a, a and b are equal exactly where x is 0
pub zero-test : (n x a b : ℕ) → 0 < n → (x + b) % n ≡ a % n → (a % n == b % n) ≡ (x % n == 0)
zero-test n x a b pos h = elim (cases_eq (x % n) 0) [
  | inl none ↦
      eq-eqb (a % n) (b % n) (sym h ∙ add-like_left n x 0 b (none ∙ sym (zero-mod n)) ∙ ap (λ y. y % n) (let flat : 0 + b ≡ b = omega arith in flat))
      ∙ sym (eq-eqb (x % n) 0 none)
  | inr some ↦
      ne_eqb (a % n) (b % n) (λ same. some (add-cancel n x 0 b pos (h ∙ same ∙ ap (λ y. y % n) (let flat : b ≡ 0 + b = omega arith in flat)) ∙ zero-mod n))
      ∙ sym (ne_eqb (x % n) 0 some)
]

pub zero-test_turned : (n x a b : ℕ) → 0 < n → (x + b) % n ≡ a % n → (b % n == a % n) ≡ (x % n == 0)
zero-test_turned n x a b pos h = turned (b % n) (a % n) ∙ zero-test n x a b pos h
  where
    turned : (k m : ℕ) → (k == m) ≡ (m == k)
    turned k m = elim (cases_eq k m) [
      | inl same ↦ eq-eqb k m same ∙ sym (eq-eqb m k (sym same))
      | inr other ↦ ne_eqb k m other ∙ sym (ne_eqb m k (λ e. other (sym e)))
    ]

-- the complement of a number, where the number and one more make the opposite
pub complement : (n x b : ℕ) → 0 < n → (x + (b + 1)) % n ≡ 0 % n → n - 1 - b % n ≡ x % n
complement n x b pos h =
    let low : b % n < n = mod_below b n pos in
    sym (rest-below n (n - 1 - b % n) (omega (arith, low)))
    ∙ add-cancel n (n - 1 - b % n) x (b % n + 1) pos (
    ap (λ y. y % n) (let whole : n - 1 - b % n + (b % n + 1) ≡ 0 + n * 1 = omega (arith, low) in whole)
    ∙ more-whole n 0 1
    ∙ sym h
    ∙ add-like_right n x (b + 1) (b % n + 1) (add-like_left n b (b % n) 1 (sym (mod-mod b n))))
