use Rattle.std.proofs.Common.{◌≡◌, ℕ, ◌+◌, ◌-◌, ◌^◌, ◌≤◌, sym, ap, subst, arith}
use Rattle.qv_words.specs.Sort.{width_of}
use Rattle.qv_words.proofs.Powers.{ones-shr}
use Rattle.qv_rewrite_simps.proofs.tables.greatest.Goals as goal

one-less : (a b c : ℕ) → a + 1 ≡ b → b ≡ c → a ≡ c - 1
one-less a b c e f = omega (arith, e, f)

pub returns : goal.returns
returns c =
    one-less _ (2 ^ c.width.result) (2 ^ width_of c.args.sort)
    (ones-shr c.width.result 128 (subst (λ (n : ℕ). n ≤ 128) (sym c.width.ensures) c.requires.1))
    (ap (λ (n : ℕ). 2 ^ n) c.width.ensures)
