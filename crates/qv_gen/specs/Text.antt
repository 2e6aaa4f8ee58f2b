-- The generator's scripts.
use Rattle.std.specs.Prelude.{ℕ, zero, suc, ◌+◌, ◌*◌, ◌/◌, ◌%◌, ◌^◌, List, [], ◌∷◌, ◌++◌, codes, slice_index}

-- one step of a linear congruential generator of 64 bits, with the numbers of Knuth's MMIX
abbrev pub state_after : ℕ → ℕ
state_after state = (state * 6364136223846793005 + 1442695040888963407) % 2 ^ 64

-- a byte in two hexadecimal digits
abbrev pub hex_digit : ℕ → ℕ
hex_digit n = slice_index (codes "0123456789abcdef") n

abbrev pub hex_byte : ℕ → List ℕ
hex_byte n = hex_digit (n / 16) ∷ hex_digit (n % 16) ∷ []

-- a block with the bytes c and d: a check that is sat, by (bvxor x d) - c for y, and one that is
-- unsat, by 255 for z
abbrev pub block_of : (c d : List ℕ) → List ℕ
block_of c d =
    codes "(push 1)\n"
    ++ codes "(assert (forall ((x (_ BitVec 8))) (exists ((y (_ BitVec 8))) (= (bvadd y #x" ++ c ++ codes ") (bvxor x #x" ++ d ++ codes ")))))\n"
    ++ codes "(check-sat)\n"
    ++ codes "(assert (forall ((z (_ BitVec 8))) (bvult z #x" ++ c ++ codes ")))\n"
    ++ codes "(check-sat)\n"
    ++ codes "(pop 1)\n"

-- the block of a state: c is its highest byte and d the next
unfoldable pub block_text : ℕ → List ℕ
block_text state = block_of (hex_byte (state / 2 ^ 56)) (hex_byte (state / 2 ^ 48 % 256))

-- so many blocks behind a state, each of the next state
unfoldable pub blocks_text : ℕ → ℕ → List ℕ
blocks_text zero state = []
blocks_text (suc n) state = block_text (state_after state) ++ blocks_text n (state_after state)

-- the script of a number: so many blocks, behind it as the first state
unfoldable pub script_text : ℕ → List ℕ
script_text number = codes "(set-logic BV)\n" ++ blocks_text number number
