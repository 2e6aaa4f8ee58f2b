-- Chains of amounts, and arguments that have no row.
use Rattle.std.proofs.Common.{◌≡◌, ℕ, zero, suc, ◌+◌, ◌-◌, ◌≤◌, ◌<◌, Option, None, List, [], ◌∷◌, length, refl, ap, ◌∙◌, arith}
use Rattle.qv_words.specs.declared.sort.Sort.{Sort}
use Rattle.qv_words.specs.declared.sort.Sort.TheVariants.{Bool, Bits}
use Rattle.qv_words.specs.declared.op.Op.{Op}
use Rattle.qv_words.specs.declared.op.Op.TheVariants.{Equal}
use Rattle.qv_words.specs.Tree.{Tree}
use Rattle.qv_words.specs.Prenex.{binary, ite}
use Rattle.qv_words.specs.Inverse.{number, amount_chain, row_at}

-- a chain of amounts, one longer at its front
pub chain-longer : (shift : Op) (w i : ℕ) (s t rest : Tree) → i < w → rest ≡ amount_chain shift w s t (w - i) i → ite (binary Equal (binary shift s (number w (w - 1 - i))) t) (number w (w - 1 - i)) rest ≡ amount_chain shift w s t (w - (i + 1)) (i + 1)
chain-longer shift w i s t rest h e =
    let here : w - 1 - i ≡ w - (i + 1) = omega arith in
    let next : w - i ≡ suc (w - (i + 1)) = omega arith in
    let longer : i + 1 ≡ suc i = omega arith in
    rw (here, longer) (ap (ite (binary Equal (binary shift s (number w (w - suc i))) t) (number w (w - suc i))) (e ∙ ap (λ n. amount_chain shift w s t n i) (next ∙ ap (λ n. suc (w - n)) longer)))

-- three arguments and more have none
pub no_row-long : (o : Op) (p : ℕ) (sorts : List Sort) (r : Sort) (value : Option ℕ) → 3 ≤ length sorts → None ≡ row_at o p sorts r value
no_row-long o p [] r value h = absurd (omega (arith, h))
no_row-long o p (a ∷ []) r value h = absurd (omega (arith, h))
no_row-long o p (a ∷ b ∷ []) r value h = absurd (omega (arith, h))
no_row-long o zero (Bool ∷ b ∷ c ∷ sorts) r value h = refl
no_row-long o zero (Bits w ∷ Bool ∷ c ∷ sorts) r value h = refl
no_row-long o zero (Bits w ∷ Bits v ∷ c ∷ sorts) r value h = refl
no_row-long o (suc zero) (Bool ∷ b ∷ c ∷ sorts) r value h = refl
no_row-long o (suc zero) (Bits w ∷ Bool ∷ c ∷ sorts) r value h = refl
no_row-long o (suc zero) (Bits w ∷ Bits v ∷ c ∷ sorts) r value h = refl
no_row-long o (suc (suc p)) (a ∷ b ∷ c ∷ sorts) r value h = refl
