-- The digits of a value, one more at a time.
use Rattle.std.proofs.Common.{◌≡◌, ℕ, ◌+◌, ◌*◌, ◌/◌, ◌%◌, ◌^◌, [], ◌∷◌, ◌++◌, ap, arith, add-one, ◌∙◌, sym, append_assoc, List}
use Rattle.std.proofs.lemmas.Nat.{shr-shr}
use Rattle.qv_script_values.specs.ValueText.{digit, digits}

-- of the digits before the last `behind`, the last one
pub one_more : (base bits i behind value : ℕ) → base ≡ 2 ^ bits → digits base (i + 1) (value / 2 ^ (bits * behind)) ≡ digits base i (value / 2 ^ (bits * (behind + 1))) ++ digit ((value / 2 ^ (bits * behind)) % base) ∷ []
one_more base bits i behind value is =
    let moved : value / 2 ^ (bits * behind) / 2 ^ bits ≡ value / 2 ^ (bits * behind + bits) = shr-shr value (bits * behind) bits in
    let by : bits * behind + bits ≡ bits * (behind + 1) = omega arith in
    let all : value / 2 ^ (bits * behind) / base ≡ value / 2 ^ (bits * (behind + 1)) = ap (λ b. value / 2 ^ (bits * behind) / b) is ∙ moved ∙ ap (λ k. value / 2 ^ k) by in
    ap (λ n. digits base n (value / 2 ^ (bits * behind))) (add-one i) ∙ ap (λ v. digits base i v ++ digit ((value / 2 ^ (bits * behind)) % base) ∷ []) all

-- with one digit more behind those that were added, these are
pub with_digit : (old some out more new : List ℕ) (d e : ℕ) → out ≡ old ++ some → new ≡ out ++ d ∷ [] → d ≡ e → more ≡ some ++ e ∷ [] → new ≡ old ++ more
with_digit old some out more new d e out-is new-is d-is more-is =
    new-is ∙ ap (λ xs. xs ++ d ∷ []) out-is ∙ append_assoc old some (d ∷ []) ∙ ap (λ x. old ++ (some ++ x ∷ [])) d-is ∙ ap (λ xs. old ++ xs) (sym more-is)
