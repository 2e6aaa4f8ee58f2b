-- The laws on shifts, together.
use Rattle.qv_circuits_laws.proofs.Adding.{number-below}
use Rattle.qv_circuits_laws.proofs.Computing.{Shifts}
use Rattle.qv_circuits_laws.proofs.Evaluations.{Computes, weaker}
use Rattle.qv_circuits_laws.proofs.Moving.{left-moves, left-value, ones-moves, right-value, signed-ones, signed-zeros, top-value, zeros-moves}
use Rattle.qv_circuits_laws.proofs.Shifting.{shift-computes}
use Rattle.qv_circuits_laws.specs.CircuitLaws.{LeftShiftsShift, RightShiftsShift, SignedShiftsShift, number_of}
use Rattle.qv_words.specs.Gate.{Lit, lit_value, no}
use Rattle.qv_words.specs.Op.{shifted_left, shifted_right, shifted_signed}
use Rattle.qv_words.specs.Routine.{shift, top}
use Rattle.std.proofs.Common.{Bool, List, ap, false, length, not, refl, sym, true, ℕ, ◌%◌, ◌*◌, ◌-◌, ◌/◌, ◌^◌, ◌∙◌, ◌≡◌}

-- by the top bit
by-sign : (v : ℕ → Bool) (n : ℕ) (a b : List Lit) → v 1 ≡ true → (t : Bool) → lit_value v (top a) ≡ t → Computes v n (shift false (top a) a b) (λ r. number_of v r ≡ shifted_signed (length a) (number_of v a) (number_of v b))
by-sign v n a b one true e =
    let w = length a in
    weaker (shift-computes false (top a) w (λ n x. 2 ^ w - 1 - (2 ^ w - 1 - x) / 2 ^ n) (ones-moves v (top a) e w) one a b refl)
    (λ r hr. hr ∙ signed-ones w (number_of v a) (number_of v b) (sym (top-value v one a) ∙ e))
by-sign v n a b one false e =
    let w = length a in
    weaker (shift-computes false (top a) w (λ n x. x / 2 ^ n) (zeros-moves v (top a) e w) one a b refl)
    (λ r hr. hr ∙ signed-zeros w (number_of v a) (number_of v b) (sym (top-value v one a) ∙ e) (number-below v a))

left-shifts : LeftShiftsShift
left-shifts v next a b one h =
    let w = length a in
    let shifted : Computes v next (shift true no a b) (λ r. number_of v r ≡ shifted_left w (number_of v a) (number_of v b)) =
    weaker (shift-computes true no w (λ n x. x * 2 ^ n % 2 ^ w) (left-moves v one w) one a b refl) (λ r hr. hr ∙ left-value w (number_of v a) (number_of v b)) in
    shifted.holds h

right-shifts : RightShiftsShift
right-shifts v next a b one h =
    let w = length a in
    let shifted : Computes v next (shift false no a b) (λ r. number_of v r ≡ shifted_right w (number_of v a) (number_of v b)) =
    weaker (shift-computes false no w (λ n x. x / 2 ^ n) (zeros-moves v no (ap not one) w) one a b refl) (λ r hr. hr ∙ right-value w (number_of v a) (number_of v b) (number-below v a)) in
    shifted.holds h

keeps-shifts : SignedShiftsShift
keeps-shifts v next a b one h = (by-sign v next a b one (lit_value v (top a)) refl).holds h

pub shift-laws : Shifts
shift-laws = record { left = left-shifts; right = right-shifts; keeps = keeps-shifts }
