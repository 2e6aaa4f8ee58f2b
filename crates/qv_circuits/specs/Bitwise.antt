-- Gates bit by bit.
use Rattle.std.specs.Prelude.{List, [], ◌∷◌}
use Rattle.qv_words.specs.Gate.{Lit, Circuit, done, ◌>>=◌, and, or, xor, mux}
use Rattle.qv_circuits.specs.Adding.{lit_of}
use Rattle.qv_circuits.specs.declared.bitwise.Bitwise.{Bitwise}
use Rattle.qv_circuits.specs.declared.bitwise.Bitwise.TheVariants.{And, Or, Xor, Choose}

-- what it makes of two literals
abbrev pub gate_of : Bitwise → Lit → Lit → Circuit Lit
gate_of And = and
gate_of Or = or
gate_of Xor = xor
gate_of (Choose c) = mux (lit_of c)

-- a literal with each of others in turn
unfoldable pub folded : (Lit → Lit → Circuit Lit) → Lit → List Lit → Circuit Lit
folded op r [] = done r
folded op r (l ∷ ls) = do
  g ← op r l
  folded op g ls
