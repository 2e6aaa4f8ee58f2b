-- For all x there is a y such that both are true: the existential player wins where x is, and the universal one in all that lies outside.
use Rattle.std.proofs.Common.{◌≡◌, ℕ, zero, suc, ◌-◌, ◌<◌, Some, Option, List, [], ◌∷◌, ◌++◌, refl, sym, ◌∙◌, subst, inl, inr, slice_get, arith}
use Rattle.std.specs.List.{AllZip}
use Rattle.std.proofs.lemmas.List.Elements.{All-from_recursion}
use Rattle.std.proofs.lemmas.Option.{same_Some}
use Rattle.qv_words.specs.declared.sort.Sort.TheVariants.{Bool as BoolSort}
use Rattle.qv_words.specs.declared.op.Op.TheVariants.{And}
use Rattle.qv_words.specs.Sort.{IsValueOf}
use Rattle.qv_words.specs.Tree.{Tree, Variable, Literal}
use Rattle.qv_words.specs.Meaning.{Means}
use Rattle.qv_words.specs.Prenex.{binary, negation}
use Rattle.qv_words.specs.Problem.{Problem, Place, Existential, Universal}
use Rattle.qv_words.specs.Choice.{candidates, IsTrueAt}
use Rattle.qv_words.specs.Linked.{Entry, HaveOneValue, IsEntry, IsLink, IsLinked, IsPlaceBelow, IsRival, outside_of}
use Rattle.qv_words.proofs.Elements.{some-and}
use Rattle.qv_words.proofs.Unique.{one_meaning}

x : Tree
x = Variable 0 BoolSort

truth : ℕ → Tree
truth n = Literal BoolSort n

pub p : Problem
p = record {
  prefix = record { quantifier = Universal; sort = BoolSort } ∷ record { quantifier = Existential; sort = BoolSort } ∷ [];
  matrix = binary And x (Variable 1 BoolSort);
}

-- y is true, which leaves x
pub inside : Entry
inside = record { level = 2; winner = Existential; region = x; point = 1 ∷ []; terms = truth 1 ∷ []; links = [] }

pub complement : Entry
complement = record { level = 2; winner = Universal; region = negation x; point = 0 ∷ []; terms = []; links = [] }

-- x is false
pub first : Entry
first = record { level = 1; winner = Universal; region = truth 1; point = []; terms = truth 0 ∷ []; links = 1 ∷ [] }

and-means : (e : ℕ → Option ℕ) (n : ℕ) → n < 2 → e 0 ≡ Some n → Means [] e (binary And x (truth 1)) n
unfolding x truth
and-means e zero small h = (BoolSort ∷ BoolSort ∷ [], 0 ∷ 1 ∷ [], refl, (0, 1 ∷ [], h, (1, [], refl, refl, refl), refl), refl)
and-means e (suc zero) small h = (BoolSort ∷ BoolSort ∷ [], 1 ∷ 1 ∷ [], refl, (1, 1 ∷ [], h, (1, [], refl, refl, refl), refl), refl)
and-means e (suc (suc n)) small h = absurd (omega (arith, small))

one-value : HaveOneValue x (binary And x (truth 1))
unfolding x truth
one-value e ha hb v =
    let n = some-and (e 0) (λ v. v < 2) (ha.levels 0 (0, BoolSort) (omega arith)) in
    let both = and-means e n.0 n.2 n.1 in (
      λ m. subst (Means [] e (binary And x (truth 1))) (same_Some n.0 v (sym n.1 ∙ m)) both,
      λ m. subst (λ (k : ℕ). e 0 ≡ Some k) (one_meaning (binary And x (truth 1)) [] e n.0 v both m) n.1,
    )

pub inside-entry : IsEntry p [] inside
unfolding p inside x truth candidates
inside-entry = record {
  links = record { low = omega arith; high = omega arith; each = All-from_recursion _ [] tt; last = λ _. refl };
  region = record {
    formula = record { sorted = ((omega arith, omega arith), tt); sort = refl; quantifier_free = tt; constant_free = refl };
    variables = All-from_recursion (IsPlaceBelow p 1) ((0, BoolSort) ∷ []) ((omega arith, refl), tt);
    point = (omega arith, tt);
    holds = refl;
  };
  block = record {
    values = 1 ∷ [];
    of_block = (omega arith, tt);
    leads = (BoolSort ∷ BoolSort ∷ [], 1 ∷ 1 ∷ [], refl, (1, 1 ∷ [], refl, (1, [], refl, refl, refl), refl), refl);
    chosen = (inl (record { before = []; behind = truth 0 ∷ []; stands = refl; holds = and-means (slice_get (1 ∷ 1 ∷ [])) 1 (omega arith) refl; others = All-from_recursion _ [] tt }), refl);
    same = one-value;
    small = omega arith;
    simple = tt;
  };
}

-- where x is false, so is the matrix for each y
denied : (y : ℕ) → IsTrueAt (0 ∷ y ∷ []) (negation (binary And x (Variable 1 BoolSort)))
unfolding x
denied y = (BoolSort ∷ [], 0 ∷ [], refl, (0, [], (BoolSort ∷ BoolSort ∷ [], 0 ∷ y ∷ [], refl, (0, y ∷ [], refl, (y, [], refl, refl, refl), refl), refl), refl, refl), refl)

not-true : (v : ℕ) → ◌≡◌ {A = ℕ} 0 (1 - suc v)
not-true v = omega arith

closed : (point values : List ℕ) → AllZip (λ (v : ℕ) (place : Place). IsValueOf v place.sort) point (record { quantifier = Universal; sort = BoolSort } ∷ []) → AllZip IsValueOf values (BoolSort ∷ []) → IsTrueAt point (negation x) → IsTrueAt (point ++ values) (negation (binary And x (Variable 1 BoolSort)))
unfolding x
closed [] values typed each holds = absurd typed
closed (v ∷ w ∷ vs) values typed each holds = absurd typed.1
closed (v ∷ []) [] typed each holds = absurd each
closed (v ∷ []) (y ∷ z ∷ zs) typed each holds = absurd each.1
closed (zero ∷ []) (y ∷ []) typed each holds = denied y
closed (suc v ∷ []) (y ∷ []) typed each holds =
    let none : Means [] (slice_get (suc v ∷ [])) (negation x) 0 = (BoolSort ∷ [], suc v ∷ [], refl, (suc v, [], refl, refl, refl), not-true v) in
    let same = one_meaning (negation x) [] (slice_get (suc v ∷ [])) 1 0 holds none in
    absurd (omega (arith, same))

-- the outside of one region, and of two
outside-one : outside_of (inside ∷ []) (0 ∷ []) ≡ negation x
unfolding inside x
outside-one = refl

outside-two : outside_of (inside ∷ complement ∷ first ∷ []) (2 ∷ 0 ∷ []) ≡ binary And (negation (truth 1)) (negation x)
unfolding inside complement first x truth
outside-two = refl

-- the universal player doesn't own y
pub complement-entry : IsEntry p (inside ∷ []) complement
unfolding p inside complement x
complement-entry = record {
  links = record { low = omega arith; high = omega arith; each = All-from_recursion _ [] tt; last = λ _. refl };
  region = record {
    formula = record { sorted = ((((omega arith, omega arith), tt), tt), refl); sort = refl; quantifier_free = (tt, tt); constant_free = refl };
    variables = All-from_recursion (IsPlaceBelow p 1) ((0, BoolSort) ∷ []) ((omega arith, refl), tt);
    point = (omega arith, tt);
    holds = (BoolSort ∷ [], 0 ∷ [], refl, (0, [], refl, refl, refl), refl);
  };
  block = record {
    no_terms = refl;
    form = inr (record { numbers = 0 ∷ []; some = λ h. absurd cc; each = All-from_recursion (IsRival (inside ∷ []) complement) (0 ∷ []) ((refl, refl), tt); region = refl });
    closed = λ point values typed each holds. (0, closed point values typed each holds);
  };
}

-- and owns x
pub first-entry : IsEntry p (inside ∷ complement ∷ []) first
unfolding p inside complement first x truth
first-entry = record {
  links = record { low = omega arith; high = omega arith; each = All-from_recursion (IsLink (inside ∷ complement ∷ []) first) (1 ∷ []) ((refl, refl), tt); last = λ h. absurd (omega (arith, h)) };
  region = record {
    formula = record { sorted = omega arith; sort = refl; quantifier_free = tt; constant_free = refl };
    variables = All-from_recursion _ [] tt;
    point = tt;
    holds = refl;
  };
  block = record {
    values = 0 ∷ [];
    of_block = (omega arith, tt);
    leads = (BoolSort ∷ [], 0 ∷ [], refl, (0, [], refl, refl, refl), refl);
    chosen = (refl, refl);
    same = λ e ha hb v.
        let not-no : Means [] e (negation (truth 0)) 1 = (BoolSort ∷ [], 0 ∷ [], refl, (0, [], refl, refl, refl), refl) in
        (λ m. subst (Means [] e (negation (truth 0))) (sym m) not-no, λ m. one_meaning (negation (truth 0)) [] e v 1 m not-no);
    small = omega arith;
    simple = tt;
  };
}

linked : IsLinked p (inside ∷ complement ∷ first ∷ [])
linked = (inside-entry, (complement-entry, (first-entry, tt)))
