-- For all x there is a y that is (bvnot x): two entries of the existential player, and what is drawn from them.
use Rattle.std.proofs.Common.{◌≡◌, ℕ, ◌-◌, ◌==◌, ◌<◌, Some, None, Option, List, [], ◌∷◌, refl, sym, ap, subst, inl, slice_get, arith}
use Rattle.std.specs.Prelude.{IsSomeAnd}
use Rattle.std.proofs.lemmas.List.Elements.{All-from_recursion}
use Rattle.qv_words.specs.declared.sort.Sort.TheVariants.{Bits, Bool as BoolSort}
use Rattle.qv_words.specs.declared.op.Op.TheVariants.{Equal, BvNot}
use Rattle.qv_words.specs.Tree.{Tree, Variable, Literal, tree_sort}
use Rattle.qv_words.specs.Op.{truth}
use Rattle.qv_words.proofs.Unique.{one_meaning}
use Rattle.qv_words.proofs.Equals.{test-refl}
use Rattle.qv_words.specs.Meaning.{Means}
use Rattle.qv_words.specs.Prenex.{binary, negation}
use Rattle.qv_words.specs.Inverse.{unary}
use Rattle.qv_words.specs.Choice.{candidates, IsTrueAt, with_term}
use Rattle.qv_words.specs.Problem.{Problem, Existential, Universal}
use Rattle.qv_words.specs.Sort.{IsLawful}
use Rattle.qv_words.specs.Expansion.{Instance}
use Rattle.qv_words.specs.Linked.{Entry, IsEntry, IsLinked, IsLink, IsPlaceBelow, chain, chain_of, drawn, tree_of, paths_of}
use Rattle.qv_words.specs.GameLaws.{IsProblem, HasWon}

zero-one : ◌≡◌ {A = ℕ} 0 1 → ⊥
zero-one h = omega (arith, h)

not_x : Tree
not_x = unary BvNot (Variable 0 (Bits 4))

p : Problem
p = record {
  prefix = record { quantifier = Universal; sort = Bits 4 } ∷ record { quantifier = Existential; sort = Bits 4 } ∷ [];
  matrix = binary Equal (Variable 1 (Bits 4)) not_x;
}

yes : Tree
yes = Literal BoolSort 1

low : Entry
low = record { level = 2; winner = Existential; region = yes; point = 5 ∷ []; terms = not_x ∷ []; links = [] }

high : Entry
high = record { level = 1; winner = Existential; region = yes; point = []; terms = []; links = 0 ∷ [] }

first-of : (o : Option ℕ) (P : ℕ → Type 0) → IsSomeAnd o P → (n : ℕ) × (o ≡ Some n)
first-of None P h = absurd h
first-of (Some n) P h = (n, refl)

not-means : (e : ℕ → Option ℕ) (n : ℕ) → e 0 ≡ Some n → Means [] e not_x (15 - n)
unfolding not_x
not-means e n h = (Bits 4 ∷ [], n ∷ [], refl, (n, [], h, refl, refl), refl)

equal-means : (e : ℕ → Option ℕ) (n : ℕ) → e 0 ≡ Some n → Means [] e (binary Equal not_x not_x) 1
unfolding not_x
equal-means e n h = (Bits 4 ∷ Bits 4 ∷ [], (15 - n) ∷ (15 - n) ∷ [], refl, (15 - n, (15 - n) ∷ [], not-means e n h, (15 - n, [], not-means e n h, refl, refl), refl), ap (λ b. truth b) (sym (test-refl (15 - n))))

keeps-true : (point : List ℕ) → (n : ℕ) → slice_get point 0 ≡ Some n → IsTrueAt point (with_term 1 not_x (binary Equal (Variable 1 (Bits 4)) not_x))
unfolding not_x
keeps-true point n h = equal-means (slice_get point) n h

low-entry : IsEntry p [] low
unfolding p low yes not_x candidates
low-entry = record {
  links = record { low = omega arith; high = omega arith; each = All-from_recursion _ [] tt; last = λ _. refl };
  region = record {
    formula = record { sorted = ((omega arith, omega arith), omega arith); sort = refl; quantifier_free = tt; constant_free = refl };
    variables = All-from_recursion _ [] tt;
    point = (omega arith, tt);
    holds = refl;
  };
  block = record {
    values = 10 ∷ [];
    of_block = (omega arith, tt);
    leads = (Bits 4 ∷ Bits 4 ∷ [], 10 ∷ 10 ∷ [], refl, (10, 10 ∷ [], refl, (10, [], not-means (slice_get (5 ∷ 10 ∷ [])) 5 refl, refl, refl), refl), refl);
    chosen = (inl (record { before = []; behind = []; stands = refl; holds = keeps-true (5 ∷ 10 ∷ []) 5 refl; others = All-from_recursion _ [] tt }), refl);
    same = λ e ha hb v. (λ m. let n = first-of (e 0) (λ v. v < 16) (hb.levels 0 (0, Bits 4) (omega arith)) in subst (λ (k : ℕ). Means [] e (binary Equal not_x not_x) k) (sym m) (equal-means e n.0 n.1), λ m. let n = first-of (e 0) (λ v. v < 16) (hb.levels 0 (0, Bits 4) (omega arith)) in one_meaning (binary Equal not_x not_x) [] e v 1 m (equal-means e n.0 n.1));
    small = omega arith;
    simple = tt;
  };
}

high-entry : IsEntry p (low ∷ []) high
unfolding p low high yes not_x
high-entry = record {
  links = record { low = omega arith; high = omega arith; each = All-from_recursion (IsLink (low ∷ []) high) (0 ∷ []) ((refl, refl), tt); last = λ h. absurd (omega (arith, h)) };
  region = record {
    formula = record { sorted = ((omega arith, omega arith), omega arith); sort = refl; quantifier_free = tt; constant_free = refl };
    variables = All-from_recursion _ [] tt;
    point = tt;
    holds = refl;
  };
  block = record {
    no_terms = refl;
    form = inl (record { runs = []; each = All-from_recursion _ [] tt; apart = λ i j d h l. absurd (omega (arith, l)); region = refl });
    closed = λ point values hp hv ht. (0, refl);
  };
}

linked : IsLinked p (low ∷ high ∷ [])
linked = (low-entry, (high-entry, tt))

problem : IsProblem p
unfolding p not_x
problem = record {
  sorts = All-from_recursion (λ place. IsLawful place.sort) p.prefix ((omega arith, omega arith), ((omega arith, omega arith), tt));
  matrix = record { sorted = ((((omega arith, omega arith), tt), (((((omega arith, omega arith), tt), tt), refl), tt)), refl); sort = refl; quantifier_free = (tt, ((tt, tt), tt)); constant_free = refl };
  variables = All-from_recursion (IsPlaceBelow p 2) ((1, Bits 4) ∷ (0, Bits 4) ∷ []) ((omega arith, refl), ((omega arith, refl), tt));
}

won : HasWon p Existential (low ∷ high ∷ [])
unfolding low high
won = inl refl

-- the chain is the term of the second place
the-chain : chain p (low ∷ high ∷ []) ≡ record { place = 1; term = not_x } ∷ []
unfolding p low high not_x chain chain_of
the-chain = refl

-- not every x is 0: one entry of the universal player
x : Tree
x = Variable 0 (Bits 4)

q : Problem
q = record { prefix = record { quantifier = Universal; sort = Bits 4 } ∷ []; matrix = binary Equal x (Literal (Bits 4) 0) }

one : Entry
one = record { level = 1; winner = Universal; region = yes; point = []; terms = Literal (Bits 4) 1 ∷ []; links = [] }

equals : (e : ℕ → Option ℕ) (t : Tree) (n : ℕ) → tree_sort t ≡ Some (Bits 4) → Means [] e t n → Means [] e (binary Equal t (Literal (Bits 4) 0)) (truth (n == 0))
equals e t n sort m = (Bits 4 ∷ Bits 4 ∷ [], n ∷ 0 ∷ [], rw sort refl, (n, 0 ∷ [], m, (0, [], refl, refl, refl), refl), refl)

differs : (e : ℕ → Option ℕ) (t : Tree) (n : ℕ) → tree_sort t ≡ Some (Bits 4) → Means [] e t n → Means [] e (negation (binary Equal t (Literal (Bits 4) 0))) (1 - truth (n == 0))
differs e t n sort m = (BoolSort ∷ [], truth (n == 0) ∷ [], rw sort refl, (truth (n == 0), [], equals e t n sort m, refl, refl), refl)

one-entry : IsEntry q [] one
unfolding q one x yes
one-entry = record {
  links = record { low = omega arith; high = omega arith; each = All-from_recursion _ [] tt; last = λ _. refl };
  region = record {
    formula = record { sorted = ((omega arith, omega arith), omega arith); sort = refl; quantifier_free = tt; constant_free = refl };
    variables = All-from_recursion _ [] tt;
    point = tt;
    holds = refl;
  };
  block = record {
    values = 1 ∷ [];
    of_block = (omega arith, tt);
    leads = differs (slice_get (1 ∷ [])) (Variable 0 (Bits 4)) 1 refl refl;
    chosen = (refl, refl);
    same = λ e ha hb v. (
      λ m. subst (λ (k : ℕ). Means [] e (negation (binary Equal (Literal (Bits 4) 1) (Literal (Bits 4) 0))) k) (sym m) (differs e (Literal (Bits 4) 1) 1 refl refl),
      λ m. one_meaning (negation (binary Equal (Literal (Bits 4) 1) (Literal (Bits 4) 0))) [] e v 1 m (differs e (Literal (Bits 4) 1) 1 refl refl),
    );
    small = omega arith;
    simple = tt;
  };
}

lines : tree_of q (one ∷ []) ≡ Instance 0 (Literal (Bits 4) 1) ∷ []
unfolding q one tree_of drawn
lines = refl

paths : paths_of q (one ∷ []) ≡ (0 ∷ []) ∷ []
unfolding q one paths_of drawn
paths = refl
