-- Up to which place a variable stands.
use Rattle.std.proofs.Common.{◌≡◌, ℕ, zero, suc, ◌/◌, ◌≤◌, List, get_or, refl, ◌∙◌, ap, arith, inl, inr}
use Rattle.std.proofs.lemmas.Bool.{cases_eq}
use Rattle.qv_sat_order.specs.Tournament.{Stands, up}

-- further up the numbers are smaller
pub up_le : (a b x : ℕ) → b ≤ a → up a x ≤ up b x
up_le zero b x low = let e : b ≡ zero = omega arith in rw e (omega arith)
up_le (suc a) b x low = elim (cases_eq b (suc a)) [
  | inl same ↦ rw same (omega arith)
  | inr other ↦ let less = up_le a b x (omega arith) in omega arith
]

pub stands_none : (nodes : List ℕ) (leaf v : ℕ) → Stands nodes leaf v leaf
stands_none nodes leaf v = record { steps = 0; is = refl; each = λ k from to. absurd (omega arith) }

-- one place up
pub stands_next : (nodes : List ℕ) (leaf v place : ℕ) → Stands nodes leaf v place → get_or nodes (place / 2) 0 ≡ v → Stands nodes leaf v (place / 2)
stands_next nodes leaf v place s own =
    let is : up (suc s.steps) leaf ≡ place / 2 = ap (λ n. n / 2) s.is in
    record {
      steps = suc s.steps;
      is = is;
      each = λ k from to. elim (cases_eq k (suc s.steps)) [
        | inl same ↦ ap (λ n. get_or nodes (up n leaf) 0) same ∙ ap (λ n. get_or nodes n 0) is ∙ own
        | inr other ↦ s.each k from (omega arith)
      ];
    }
