-- Writes to a sink, one after another.
use Rattle.std.proofs.Common.{◌≡◌, ℕ, List, [], ◌++◌, ◌+◌, refl, append_assoc, Option, Some, None, take, drop, length, ◌≤◌, arith}
use Rattle.std.proofs.lemmas.List.{append-nil, length-append, take-append-le}
use Rattle.std.proofs.Math.Seq.{take-add, take-append-add}
use Rattle.qv_io.specs.Sink.{Appends, AppendsPart}

-- a sink that took nothing holds what it held
pub Appends-nothing : (held : Option (List ℕ)) → Appends held held []
Appends-nothing None = refl
Appends-nothing (Some bytes) = simp append-nil

-- what was taken in two calls stands behind one another
pub Appends-append : (old middle new : Option (List ℕ)) (first second : List ℕ) → Appends old middle first → Appends middle new second → Appends old new (first ++ second)
Appends-append None middle new first second h k = rw h at k
Appends-append (Some bytes) middle new first second h k = simp append_assoc at (rw h at k)

-- the first bytes of a piece, and then the first of the rest
pub Appends-take : (old middle new : Option (List ℕ)) (piece rest : List ℕ) (done n : ℕ) → rest ≡ drop done piece → Appends old middle (take done piece) → Appends middle new (take n rest) → Appends old new (take (done + n) piece)
Appends-take old middle new piece rest done n e h k = rw take-add (Appends-append old middle new _ _ h (rw e at k))

-- a piece taken whole, and then a part of the next
pub AppendsPart-append : (old middle new : Option (List ℕ)) (first second : List ℕ) → Appends old middle first → AppendsPart middle new second → AppendsPart old new (first ++ second)
AppendsPart-append old middle new first second h (n, below, k) =
    (length first + n, omega (arith, length-append first second), rw take-append-add (Appends-append old middle new _ _ h k))

-- a part of a piece is a part of a longer one
pub AppendsPart-more : (old new : Option (List ℕ)) (piece more : List ℕ) → AppendsPart old new piece → AppendsPart old new (piece ++ more)
AppendsPart-more old new piece more (n, below, k) =
    let within : n ≤ length piece = omega arith in
    (n, omega (arith, length-append piece more), rw take-append-le k)
