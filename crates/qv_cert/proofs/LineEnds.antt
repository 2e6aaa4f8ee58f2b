-- Where the first LF stands.
use Rattle.std.proofs.Common.{◌≡◌, ◌<◌, ◌≤◌, ℕ, List, Option, Some, None, refl, sym, ◌∙◌, subst, arith}
use Rattle.std.specs.Prelude.{◌∷◌, ◌++◌, ◌+◌, ◌==◌, true, suc, MatchOption, length, take, drop}
use Rattle.std.proofs.Math.ListN.{get_or}
use Rattle.std.proofs.Math.Seq.{split_at}
use Rattle.std.proofs.lemmas.Bool.{eqb-true}
use Rattle.std.proofs.lemmas.List.{get_or-take, get_or_default, length-take-le}
use Rattle.memchr.specs.Find.{IsFirstByte, Nowhere, Passes, is_byte}
use Rattle.qv_cert.specs.TextLaws.{HasNoLf}

-- a byte that is an LF passes the test
passing : (bytes : List ℕ) (k d : ℕ) → k < length bytes → get_or bytes k d ≡ 10 → Passes (is_byte 10) bytes k
passing bytes k d inside is = subst (λ (x : ℕ). (x == 10) ≡ true) (sym (get_or_default bytes k 0 d inside ∙ is)) refl

-- where no byte up to a place is one, none is among those before it
none-before : (bytes : List ℕ) (i : ℕ) → i ≤ length bytes → Nowhere (Passes (is_byte 10) bytes) 0 i → HasNoLf (take i bytes)
none-before bytes i few none k d inside is =
    let long : length (take i bytes) ≡ i = length-take-le i bytes few in
    let early : k < i = omega (arith, long, inside) in
    let within : k < length bytes = omega (arith, early, few) in
    none k (omega arith) early (passing bytes k d within (sym (get_or-take i bytes k d early) ∙ is))

pub first-lf : (bytes : List ℕ) (r : Option ℕ) → IsFirstByte (is_byte 10) bytes r →
    MatchOption r (HasNoLf bytes) (λ i. HasNoLf (take i bytes) × (bytes ≡ take i bytes ++ 10 ∷ drop (i + 1) bytes) × (i < length bytes))
first-lf bytes None none = λ k d inside is. none k (omega arith) inside (passing bytes k d inside is)
first-lf bytes (Some i) (found, passes) =
    let ten : get_or bytes i 0 ≡ 10 = eqb-true (get_or bytes i 0) 10 passes in
    let next : suc i ≡ i + 1 = omega arith in
    let split : bytes ≡ take i bytes ++ get_or bytes i 0 ∷ drop (i + 1) bytes =
    subst (λ (n : ℕ). bytes ≡ take i bytes ++ get_or bytes i 0 ∷ drop n bytes) next (split_at bytes i 0 found.high) in (
      none-before bytes i (omega (arith, found.high)) found.before,
      subst (λ (x : ℕ). bytes ≡ take i bytes ++ x ∷ drop (i + 1) bytes) ten split,
      found.high,
    )
