-- What lines are trimmed to by what was found out, by hand.
use Rattle.std.proofs.Common.{◌≡◌, refl, ℕ, zero, suc, List, [], ◌∷◌, arith}
use Rattle.std.specs.Prelude.{negsuc, pos}
use Rattle.qv_cnf.specs.LratLine.{LratLine, Addition}
use Rattle.qv_trim.specs.Needed.{IsNeeded, empty, named, nothing, keeps, drops, IsTrimmed}
use Rattle.qv_trim.proofs.Kept.{trimmed_are_one}
use Rattle.qv_trim.proofs.Found.{lines_can_be_trimmed}
use Rattle.qv_trim.proofs.NeededExample.{not_one, third, fourth, fifth, four, one-is-kept, all-are-kept}

abbrev trimmed_of : List LratLine → List LratLine
trimmed_of lines = (lines_can_be_trimmed lines).0

found-as : (lines kept : List LratLine) → IsTrimmed lines kept → trimmed_of lines ≡ kept
found-as lines kept is = let found = lines_can_be_trimmed lines in trimmed_are_one lines found.0 kept found.1 is

no-lines : trimmed_of [] ≡ []
no-lines = found-as [] [] nothing

fourth-alone : trimmed_of (third ∷ fourth ∷ fifth ∷ []) ≡ fourth ∷ []
fourth-alone = found-as (third ∷ fourth ∷ fifth ∷ []) (fourth ∷ []) one-is-kept

-- a line comes behind the one that names it
all-four : trimmed_of four ≡ four
all-four = found-as four four all-are-kept

-- ---- `3 -1 0 2 0` alone adds no clause without literals

none-is-needed : (id : ℕ) → IsNeeded (third ∷ []) id → ⊥
none-is-needed id (empty _ hints (zero, below, at)) = absurd cc
none-is-needed id (empty _ hints (suc k, below, at)) = absurd (omega (arith, below))
none-is-needed hinted (named id _ lits hints needed there names) = none-is-needed id needed

third-is_dropped : trimmed_of (third ∷ []) ≡ []
third-is_dropped = found-as (third ∷ []) [] (drops 3 (not_one ∷ []) (pos 2 ∷ []) [] [] (none-is-needed 3) nothing)

-- ---- `3 -1 0 2 0`, `4 0 -3 0`: a hint of the other sign

abbrev other_sign : LratLine
other_sign = Addition 4 [] (negsuc 2 ∷ [])

abbrev two : List LratLine
two = third ∷ other_sign ∷ []

both-are_kept : trimmed_of two ≡ two
both-are_kept =
    let fourth_is : IsNeeded two 4 = empty 4 (negsuc 2 ∷ []) (1, omega arith, refl) in
    let third_is : IsNeeded two 3 = named 4 3 [] (negsuc 2 ∷ []) fourth_is (1, omega arith, refl) (0, omega arith, refl) in
    found-as two two (keeps 3 (not_one ∷ []) (pos 2 ∷ []) (other_sign ∷ []) (other_sign ∷ []) third_is (keeps 4 [] (negsuc 2 ∷ []) [] [] fourth_is nothing))
