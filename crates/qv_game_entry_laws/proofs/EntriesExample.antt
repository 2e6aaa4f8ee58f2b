-- Two entries by what makes them: one whose winner owns its block, and one that fixes all bits of a place.
use Rattle.std.proofs.Common.{◌≡◌, ℕ, ◌-◌, ◌/◌, ◌%◌, ◌==◌, ◌<◌, Some, Option, List, [], ◌∷◌, ◌++◌, refl, sym, ap, subst, inl, slice_get, arith}
use Rattle.std.specs.Prelude.{All}
use Rattle.std.proofs.lemmas.List.Elements.{recursion_from_All, All-from_recursion}
use Rattle.qv_words.specs.declared.sort.Sort.TheVariants.{Bits, Bool as BoolSort}
use Rattle.qv_words.specs.declared.op.Op.TheVariants.{Equal, Extract, BvNot}
use Rattle.qv_words.specs.Sort.{IsLawful}
use Rattle.qv_words.specs.Op.{truth}
use Rattle.qv_words.specs.Tree.{Tree, Variable, Literal, Apply, Nil, Cons}
use Rattle.qv_words.specs.Meaning.{Means}
use Rattle.qv_words.specs.Prenex.{binary, negation}
use Rattle.qv_words.specs.Inverse.{unary}
use Rattle.qv_words.specs.Choice.{candidates, IsTrueAt, with_term}
use Rattle.qv_words.specs.Passes.{rules_in_order}
use Rattle.qv_words.specs.PassLaws.{IsPlain}
use Rattle.qv_words.specs.Problem.{Problem, Existential, Universal}
use Rattle.qv_words.specs.Linked.{Entry, Run, IsEntry, IsRun, IsPlaceBelow}
use Rattle.qv_words.specs.GameLaws.{IsProblem, IsPointOf}
use Rattle.qv_words.proofs.Equals.{test-refl}
use Rattle.qv_words.proofs.PassRules.{rules-keep}
use Rattle.qv_words.proofs.Passed.{passes-stand}
use Rattle.qv_words.proofs.Unique.{one_meaning}
use Rattle.qv_circuits_laws.proofs.PassNodes.{all-passes_add_no_nodes}
use Rattle.qv_game_entry_laws.specs.BuildingLaws.{AgreeIn}
use Rattle.qv_game_entry_laws.proofs.Taken.{taken-may_come}
use Rattle.qv_game_entry_laws.proofs.Forced.{forced-may-come}

-- for all x there is a y that is (bvnot x)
not_x : Tree
not_x = unary BvNot (Variable 0 (Bits 4))

p : Problem
p = record {
  prefix = record { quantifier = Universal; sort = Bits 4 } ∷ record { quantifier = Existential; sort = Bits 4 } ∷ [];
  matrix = binary Equal (Variable 1 (Bits 4)) not_x;
}

problem : IsProblem p
unfolding p not_x
problem = record {
  sorts = All-from_recursion (λ place. IsLawful place.sort) p.prefix ((omega arith, omega arith), ((omega arith, omega arith), tt));
  matrix = record { sorted = ((((omega arith, omega arith), tt), (((((omega arith, omega arith), tt), tt), refl), tt)), refl); sort = refl; quantifier_free = (tt, ((tt, tt), tt)); constant_free = refl };
  variables = All-from_recursion (IsPlaceBelow p 2) ((1, Bits 4) ∷ (0, Bits 4) ∷ []) ((omega arith, refl), ((omega arith, refl), tt));
}

yes : Tree
yes = Literal BoolSort 1

low : Entry
low = record { level = 2; winner = Existential; region = yes; point = 5 ∷ []; terms = not_x ∷ []; links = [] }

not-means : (e : ℕ → Option ℕ) (n : ℕ) → e 0 ≡ Some n → Means [] e not_x (15 - n)
unfolding not_x
not-means e n h = (Bits 4 ∷ [], n ∷ [], refl, (n, [], h, refl, refl), refl)

equal-means : (e : ℕ → Option ℕ) (n : ℕ) → e 0 ≡ Some n → Means [] e (binary Equal not_x not_x) 1
unfolding not_x
equal-means e n h = (Bits 4 ∷ Bits 4 ∷ [], (15 - n) ∷ (15 - n) ∷ [], refl, (15 - n, (15 - n) ∷ [], not-means e n h, (15 - n, [], not-means e n h, refl, refl), refl), ap (λ b. truth b) (sym (test-refl (15 - n))))

keeps-true : (point : List ℕ) → (n : ℕ) → slice_get point 0 ≡ Some n → IsTrueAt point (with_term 1 not_x (binary Equal (Variable 1 (Bits 4)) not_x))
unfolding not_x
keeps-true point n h = equal-means (slice_get point) n h

t_at_x : Tree
t_at_x = binary Equal not_x not_x

plain : All IsPlain (t_at_x ∷ [])
unfolding t_at_x not_x
plain = All-from_recursion IsPlain (t_at_x ∷ []) (record { sorted = ((((((omega arith, omega arith), tt), tt), refl), (((((omega arith, omega arith), tt), tt), refl), tt)), refl); free = ((tt, tt), ((tt, tt), tt)) }, tt)

-- its region is what the ten passes make of the later one with the term put in
low-built : IsEntry p [] low
unfolding p low yes not_x candidates t_at_x plain
low-built =
    taken-may_come p [] low (record { owner = Existential; sorts = Bits 4 ∷ [] }) (binary Equal (Variable 1 (Bits 4)) not_x) (10 ∷ []) problem tt
    (record {
      at_level = refl;
      owner = refl;
      links = record { low = omega arith; high = omega arith; each = All-from_recursion _ [] tt; last = λ _. refl };
      linked = refl;
      point = (omega arith, tt);
      of_block = (omega arith, tt);
      leads = (Bits 4 ∷ Bits 4 ∷ [], 10 ∷ 10 ∷ [], refl, (10, 10 ∷ [], refl, (10, [], not-means (slice_get (5 ∷ 10 ∷ [])) 5 refl, refl, refl), refl), refl);
      chosen = (inl (record { before = []; behind = []; stands = refl; holds = keeps-true (5 ∷ 10 ∷ []) 5 refl; others = All-from_recursion _ [] tt }), refl);
      region = record {
        stands = (passes-stand (rules-keep (λ a b. refl) (λ a b. refl)) rules_in_order (t_at_x ∷ []) (recursion_from_All IsPlain (t_at_x ∷ []) plain)).0;
        small = all-passes_add_no_nodes (t_at_x ∷ []);
        simple = tt;
      };
    })

-- some x is 0 for all y
x : Tree
x = Variable 0 (Bits 4)

z : Problem
z = record {
  prefix = record { quantifier = Existential; sort = Bits 4 } ∷ record { quantifier = Universal; sort = Bits 4 } ∷ [];
  matrix = binary Equal x (Literal (Bits 4) 0);
}

zero-problem : IsProblem z
unfolding z x
zero-problem = record {
  sorts = All-from_recursion (λ place. IsLawful place.sort) z.prefix ((omega arith, omega arith), ((omega arith, omega arith), tt));
  matrix = record { sorted = ((((omega arith, omega arith), tt), (((omega arith, omega arith), omega arith), tt)), refl); sort = refl; quantifier_free = (tt, (tt, tt)); constant_free = refl };
  variables = All-from_recursion (IsPlaceBelow z 2) ((0, Bits 4) ∷ []) ((omega arith, refl), tt);
}

bits : Run
bits = record { place = 0; high = 3; low = 0 }

fixed : Tree
fixed = binary Equal (Apply (Extract 3 0) (Cons (Variable 0 (Bits 4)) Nil)) (Literal (Bits 4) 0)

nought : Entry
nought = record { level = 2; winner = Existential; region = fixed; point = 0 ∷ []; terms = []; links = [] }

differs : (e : ℕ → Option ℕ) (n : ℕ) → e 0 ≡ Some n → Means [] e (negation (binary Equal (Variable 0 (Bits 4)) (Literal (Bits 4) 0))) (1 - truth (n == 0))
differs e n h = (
  BoolSort ∷ [],
  truth (n == 0) ∷ [],
  refl,
  (truth (n == 0), [], (Bits 4 ∷ Bits 4 ∷ [], n ∷ 0 ∷ [], refl, (n, 0 ∷ [], h, (0, [], refl, refl, refl), refl), refl), refl, refl),
  refl,
)

clash : (n : ℕ) → n < 16 → n / 1 % 16 ≡ 0 → 1 - truth (n == 0) ≡ 1 → ⊥
clash n small h k =
    let none : n ≡ 0 = omega (arith, small, h) in
    let one : 1 - truth (0 == 0) ≡ 1 = subst (λ (m : ℕ). 1 - truth (m == 0) ≡ 1) none k in
    omega (arith, one)

none-left : (point values : List ℕ) → IsPointOf z 2 point → AgreeIn (0 ∷ []) point bits → IsTrueAt (point ++ values) (negation (binary Equal x (Literal (Bits 4) 0))) → ⊥
unfolding z x bits
none-left [] values typed agree true_there = absurd typed
none-left (n ∷ point) values typed agree true_there =
    clash n typed.0 agree
    (one_meaning (negation (binary Equal (Variable 0 (Bits 4)) (Literal (Bits 4) 0))) [] (slice_get (n ∷ (point ++ values))) (1 - truth (n == 0)) 1 (differs (slice_get (n ∷ (point ++ values))) n refl) true_there)

-- its region fixes all bits of x, which leave no values outside the matrix
nought-built : IsEntry z [] nought
unfolding z x nought fixed bits
nought-built =
    forced-may-come z [] nought (record { owner = Universal; sorts = Bits 4 ∷ [] }) (bits ∷ []) (negation (binary Equal x (Literal (Bits 4) 0)) ∷ []) zero-problem tt
    (record {
      at_level = refl;
      owner = λ e. absurd cc;
      links = record { low = omega arith; high = omega arith; each = All-from_recursion _ [] tt; last = λ _. refl };
      denied = (inl refl, tt);
      point = (omega arith, tt);
      no_terms = refl;
      each = All-from_recursion (IsRun z nought (binary Equal x (Literal (Bits 4) 0) ∷ [])) (bits ∷ []) (record { below = omega arith; ordered = omega arith; within = omega arith; occurs = (binary Equal x (Literal (Bits 4) 0), 0, refl, refl) }, tt);
      apart = λ i j d h l. absurd (omega (arith, h, l));
      region = refl;
      none = λ point values typed each agree all.
          none-left point values typed (recursion_from_All (AgreeIn (0 ∷ []) point) (bits ∷ []) agree).0
          (recursion_from_All (IsTrueAt (point ++ values)) (negation (binary Equal x (Literal (Bits 4) 0)) ∷ []) all).0;
    })
