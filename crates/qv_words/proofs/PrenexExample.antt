-- An equality of two quantified formulas, in prenex form, and which formulas may be asserted together.
use Rattle.std.proofs.Common.{◌≡◌, ℕ, zero, suc, ◌<◌, [], ◌∷◌, refl, ap, arith}
use Rattle.std.specs.Prelude.{slice_index_or}
use Rattle.qv_words.specs.declared.sort.Sort.{Sort}
use Rattle.qv_words.specs.declared.sort.Sort.TheVariants.{Bool, Bits}
use Rattle.qv_words.specs.declared.op.Op.TheVariants.{And, Or, Equal}
use Rattle.qv_words.specs.Tree.{Tree, Constant, Variable, Literal, ForAll, Exists}
use Rattle.qv_words.specs.Sort.{width_of}
use Rattle.qv_words.specs.Truth.{IsAssertion, HaveOneSort, constants_of_each}
use Rattle.qv_words.specs.Prenex.{binary, negation, form_within}
use Rattle.qv_words.specs.Problem.{Problem, Existential, Universal, problem_of}

-- the formula (= (forall ((p Bool)) p) (exists ((q Bool)) (not q)))
formula : Tree
formula = binary Equal (ForAll 0 Bool (Variable 0 Bool)) (Exists 0 Bool (negation (Variable 0 Bool)))

-- two existential places q1 and p2, then two universal ones p1 and q2
form : Problem
form = record {
  prefix = record { quantifier = Existential; sort = Bool } ∷ record { quantifier = Existential; sort = Bool } ∷ record { quantifier = Universal; sort = Bool } ∷ record { quantifier = Universal; sort = Bool } ∷ [];
  matrix = binary Or
      (binary And (Variable 2 Bool) (negation (Variable 0 Bool)))
      (binary And (negation (Variable 1 Bool)) (negation (negation (Variable 3 Bool))));
}

prenex-of-equality : problem_of (formula ∷ []) ≡ form
unfolding problem_of form_within formula form
prenex-of-equality = refl

-- the formula may be asserted, and so may others if their constants of one index have one sort
asserted : IsAssertion formula
unfolding formula
asserted = record {
  sorted = ((((omega arith, omega arith), ((omega arith, omega arith), refl), refl), (((omega arith, omega arith), ((((omega arith, omega arith), refl), tt), refl), refl), tt)), refl);
  bool = refl;
  closed = refl;
}

abbrev equation : ℕ → ℕ → Tree
equation i w = binary Equal (Constant i (Bits w)) (Literal (Bits w) 0)

one-sort : HaveOneSort (equation 0 1 ∷ equation 1 2 ∷ [])
one-sort i j d lt le e = absurd (apart i j d lt le e)
  where
    apart : (i j : ℕ) (d : ℕ × Sort) → i < j → j < 2 → (slice_index_or (constants_of_each (equation 0 1 ∷ equation 1 2 ∷ [])) i d).0 ≡ (slice_index_or (constants_of_each (equation 0 1 ∷ equation 1 2 ∷ [])) j d).0 → ⊥
    apart zero zero d lt le e = omega (arith, lt)
    apart zero (suc zero) d lt le e = omega (arith, e)
    apart zero (suc (suc j)) d lt le e = omega (arith, le)
    apart (suc i) zero d lt le e = omega (arith, lt)
    apart (suc i) (suc zero) d lt le e = omega (arith, lt)
    apart (suc i) (suc (suc j)) d lt le e = omega (arith, le)

two-sorts : HaveOneSort (equation 0 1 ∷ equation 0 2 ∷ []) → ⊥
two-sorts h = let widths : 1 ≡ 2 = ap (λ s. width_of s) (h 0 1 (0, Bits 1) (omega arith) (omega arith) refl) in omega (arith, widths)
