-- Products of the counts of bits.
use Rattle.std.proofs.Common.{◌≡◌, ℕ, ◌+◌, ◌*◌, ◌≤◌, arith}
use Rattle.std.proofs.Math.Nat.{mul-le-mul_right}
use Rattle.std.proofs.lemmas.Nat.{mul-le}

-- so many a bit, for each bit
pub scaled : (a b w c d : ℕ) → c ≤ a * w + b → d ≤ c * w → d ≤ a * (w * w) + b * w
scaled a b w c d h k =
    let most : c * w ≤ (a * w + b) * w = mul-le-mul_right w h in
    let same : (a * w + b) * w ≡ a * (w * w) + b * w = grind arith in
    omega (arith, k, most, same)

-- so many a bit, for each row
pub repeated : (a w k rows c d : ℕ) → c ≤ a * w → k ≤ rows → d ≤ c * k → d ≤ a * (w * rows)
repeated a w k rows c d h le l =
    let most : c * k ≤ (a * w) * rows = mul-le c k (a * w) rows h le in
    let same : (a * w) * rows ≡ a * (w * rows) = grind arith in
    omega (arith, l, most, same)

-- the square of twice as many bits
pub doubled : (w m : ℕ) → m ≤ 2 * w → m * m ≤ 4 * (w * w)
doubled w m h =
    let most : m * m ≤ (2 * w) * (2 * w) = mul-le m m (2 * w) (2 * w) h h in
    let same : (2 * w) * (2 * w) ≡ 4 * (w * w) = grind arith in
    omega (arith, most, same)

-- the square of one bit more
pub square : (w : ℕ) → (w + 1) * (w + 1) ≡ w * w + 2 * w + 1
square w = grind arith

-- rows of one bit more
pub wider : (w rows : ℕ) → rows * (w + 1) ≡ w * rows + rows
wider w rows = grind arith
