-- The bits of a value, one by one.
use Rattle.std.proofs.Common.{◌≡◌, ℕ, suc, ◌+◌, ◌-◌, ◌/◌, ◌%◌, ◌<◌, ◌==◌, List, [], ◌∷◌, ◌++◌, refl, sym, ap, ◌∙◌, arith, append_assoc, append-nil}
use Rattle.std.specs.Prelude.{if◌then◌else◌}
use Rattle.std.proofs.lemmas.List.{map-append}
use Rattle.qv_words.specs.Gate.{Lit, no, yes}
use Rattle.qv_words.specs.Routine.{bits_of_number}
use Rattle.qv_cnf.specs.Literal.{Literal}
use Rattle.qv_circuits.specs.Adding.{lit_of, lits_of}

first-bit : (w n : ℕ) → bits_of_number (suc w) n ≡ (if n % 2 == 1 then yes else no) ∷ bits_of_number w (n / 2)
unfolding bits_of_number
first-bit w n = refl

no-bits : (n : ℕ) → bits_of_number 0 n ≡ []
unfolding bits_of_number
no-bits n = refl

pub bits-turn : (whole : List Lit) (w i v : ℕ) (done : List Literal) (l : Literal) → i < w → lit_of l ≡ (if v % 2 == 1 then yes else no) → whole ≡ lits_of done ++ bits_of_number (w - i) v →
    whole ≡ lits_of (done ++ l ∷ []) ++ bits_of_number (w - (i + 1)) (v / 2)
bits-turn whole w i v done l h e g =
    let left : w - i ≡ suc (w - (i + 1)) = omega (arith, h) in
    g ∙ ap (λ (k : ℕ). lits_of done ++ bits_of_number k v) left ∙ ap (λ (r : List Lit). lits_of done ++ r) (first-bit (w - (i + 1)) v ∙ ap (λ (x : Lit). x ∷ bits_of_number (w - (i + 1)) (v / 2)) (sym e))
    ∙ sym (append_assoc (lits_of done) (lit_of l ∷ []) (bits_of_number (w - (i + 1)) (v / 2))) ∙ ap (λ (r : List Lit). r ++ bits_of_number (w - (i + 1)) (v / 2)) (sym (map-append lit_of done (l ∷ [])))

pub bits-end : (whole : List Lit) (w i v : ℕ) (done : List Literal) → w - i ≡ 0 → whole ≡ lits_of done ++ bits_of_number (w - i) v → lits_of done ≡ whole
bits-end whole w i v done e g =
    sym (g ∙ ap (λ (k : ℕ). lits_of done ++ bits_of_number k v) e ∙ ap (λ (r : List Lit). lits_of done ++ r) (no-bits v) ∙ append-nil (lits_of done))
