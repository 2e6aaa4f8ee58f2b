-- There is an x that no y is above: after two values of x that lose, the existential player wins with 3.
use Rattle.std.proofs.Common.{◌≡◌, ◌≢◌, ℕ, List, [], ◌∷◌, ◌++◌, map, refl, inl, inr, arith}
use Rattle.std.specs.Prelude.{IsSomeAnd, slice_get}
use Rattle.std.proofs.lemmas.Bool.{true≢false}
use Rattle.std.proofs.lemmas.List.Elements.{All-from_recursion}
use Rattle.std.specs.List.{AllZip}
use Rattle.qv_words.specs.declared.sort.Sort.TheVariants.{Bits}
use Rattle.qv_words.specs.declared.sort.Sort.TheVariants.{Bool as BoolSort}
use Rattle.qv_words.specs.declared.op.Op.{Op}
use Rattle.qv_words.specs.declared.op.Op.TheVariants.{Not, BvUge, BvSub, BvAdd}
use Rattle.qv_words.specs.Sort.{IsValueOf}
use Rattle.qv_words.specs.Skolem.{IsTermOf}
use Rattle.qv_words.specs.Tree.{Tree, Nil, Cons}
use Rattle.qv_words.specs.Prenex.{binary, negation}
use Rattle.qv_words.specs.Inverse.{inverse_term}
use Rattle.qv_words.specs.Choice.{candidates, with_term, IsTrueAt}
use Rattle.qv_words.specs.declared.rule.Rule.TheVariants.{Fold, Same, NotNot, Unit as UnitRule, Absorb, IteKnown, IteSame, AddZero, MulOne, MulZero}
use Rattle.qv_words.specs.Passes.{FitsNone, IsSimple, rules_in_order}
use Rattle.qv_words.specs.Problem.{Problem, Place, Existential, Universal}
use Rattle.qv_words.specs.Linked.{Entry, IsEntry, IsLink, IsPlaceBelow, Run, IsRun, chain, chain_of}
use Rattle.qv_rewrite_passes.specs.declared.pass.Pass.TheVariants.{By}
use Rattle.qv_meter.specs.Played.{IsFresh, IsPlayed, IsUndecided}
use Rattle.qv_meter.specs.Queries.{query_list}
use Rattle.qv_meter.specs.Finals.{IsFinalList}
use Rattle.qv_meter.specs.Units.{IsQuery, IsFinal}
use Rattle.qv_meter.proofs.Following.{follows-newest, follows-none}
use Rattle.qv_meter.proofs.Valuing.{holds, fails, like_true, like_itself, below_four}
use Rattle.qv_meter.proofs.Words.{word, number, yes, fixed, word-sorted, number-sorted, yes-formula, fixed-formula}

abbrev p : Problem
p = record {
  prefix = record { quantifier = Existential; sort = Bits 2 } ∷ record { quantifier = Universal; sort = Bits 2 } ∷ [];
  matrix = binary BvUge (word 0) (word 1);
}

-- x is below x + 1, or below x - 1
abbrev below : Op → Tree
below o = negation (binary BvUge (word 0) (binary o (word 0) (number 1)))

-- against 0 the universal player takes x - 1, which is 3
abbrev zero-loses : Entry
zero-loses = record { level = 2; winner = Universal; region = below BvSub; point = 0 ∷ []; terms = binary BvSub (word 0) (number 1) ∷ []; links = [] }

-- against 1 it takes x + 1, since x - 1 is not above
abbrev one-loses : Entry
one-loses = record { level = 2; winner = Universal; region = below BvAdd; point = 1 ∷ []; terms = binary BvAdd (word 0) (number 1) ∷ []; links = [] }

-- against 3 it has nothing
abbrev three-wins : Entry
three-wins = record { level = 2; winner = Existential; region = fixed 0 3; point = 3 ∷ []; terms = []; links = [] }

abbrev at-start : Entry
at-start = record { level = 1; winner = Existential; region = yes; point = []; terms = number 3 ∷ []; links = 2 ∷ [] }

abbrev entries : List Entry
entries = zero-loses ∷ one-loses ∷ three-wins ∷ at-start ∷ []

-- What is asked about x at each stage: the negations of the universal player's regions so far.
first-queries : query_list p [] Universal 2 ≡ []
first-queries = refl

second-queries : query_list p (zero-loses ∷ []) Universal 2 ≡ negation (below BvSub) ∷ []
second-queries = refl

third-queries : query_list p (zero-loses ∷ one-loses ∷ []) Universal 2 ≡ negation (below BvSub) ∷ negation (below BvAdd) ∷ []
third-queries = refl

fourth-queries : query_list p (zero-loses ∷ one-loses ∷ three-wins ∷ []) Universal 2 ∷ query_list p (zero-loses ∷ one-loses ∷ three-wins ∷ []) Existential 2 ∷ []
    ≡ (negation (below BvSub) ∷ negation (below BvAdd) ∷ []) ∷ (negation (fixed 0 3) ∷ []) ∷ []
fourth-queries = refl

-- the Skolem term of x is 3, and the goal goes through the passes
term : chain p entries ≡ record { place = 0; term = number 3 } ∷ []
unfolding chain chain_of
term = refl

goal : IsFinalList p Existential entries (negation (binary BvUge (number 3) (word 1)) ∷ [])
unfolding chain chain_of
goal = (map By rules_in_order, refl)

-- The entries may come where they do.
minus-formula : IsTermOf (below BvSub) BoolSort
minus-formula = record {
  sorted = ((((word-sorted 0, (((word-sorted 0, (number-sorted 1 (omega arith), tt)), refl), tt)), refl), tt), refl);
  sort = refl;
  quantifier_free = ((tt, ((tt, (tt, tt)), tt)), tt);
  constant_free = refl;
}

minus-term-simple : FitsNone BvSub (Cons (word 0) (Cons (number 1) Nil))
minus-term-simple Fold = refl
minus-term-simple Same = refl
minus-term-simple NotNot = refl
minus-term-simple UnitRule = refl
minus-term-simple Absorb = refl
minus-term-simple IteKnown = refl
minus-term-simple IteSame = refl
minus-term-simple AddZero = refl
minus-term-simple MulOne = refl
minus-term-simple MulZero = refl

minus-side-simple : FitsNone BvUge (Cons (word 0) (Cons (binary BvSub (word 0) (number 1)) Nil))
minus-side-simple Fold = refl
minus-side-simple Same = refl
minus-side-simple NotNot = refl
minus-side-simple UnitRule = refl
minus-side-simple Absorb = refl
minus-side-simple IteKnown = refl
minus-side-simple IteSame = refl
minus-side-simple AddZero = refl
minus-side-simple MulOne = refl
minus-side-simple MulZero = refl

minus-whole-simple : FitsNone Not (Cons (binary BvUge (word 0) (binary BvSub (word 0) (number 1))) Nil)
minus-whole-simple Fold = refl
minus-whole-simple Same = refl
minus-whole-simple NotNot = refl
minus-whole-simple UnitRule = refl
minus-whole-simple Absorb = refl
minus-whole-simple IteKnown = refl
minus-whole-simple IteSame = refl
minus-whole-simple AddZero = refl
minus-whole-simple MulOne = refl
minus-whole-simple MulZero = refl

minus-simple : IsSimple (below BvSub)
minus-simple = (minus-whole-simple, ((minus-side-simple, (tt, ((minus-term-simple, (tt, (tt, tt))), tt))), tt))

plus-formula : IsTermOf (below BvAdd) BoolSort
plus-formula = record {
  sorted = ((((word-sorted 0, (((word-sorted 0, (number-sorted 1 (omega arith), tt)), refl), tt)), refl), tt), refl);
  sort = refl;
  quantifier_free = ((tt, ((tt, (tt, tt)), tt)), tt);
  constant_free = refl;
}

plus-term-simple : FitsNone BvAdd (Cons (word 0) (Cons (number 1) Nil))
plus-term-simple Fold = refl
plus-term-simple Same = refl
plus-term-simple NotNot = refl
plus-term-simple UnitRule = refl
plus-term-simple Absorb = refl
plus-term-simple IteKnown = refl
plus-term-simple IteSame = refl
plus-term-simple AddZero = refl
plus-term-simple MulOne = refl
plus-term-simple MulZero = refl

plus-side-simple : FitsNone BvUge (Cons (word 0) (Cons (binary BvAdd (word 0) (number 1)) Nil))
plus-side-simple Fold = refl
plus-side-simple Same = refl
plus-side-simple NotNot = refl
plus-side-simple UnitRule = refl
plus-side-simple Absorb = refl
plus-side-simple IteKnown = refl
plus-side-simple IteSame = refl
plus-side-simple AddZero = refl
plus-side-simple MulOne = refl
plus-side-simple MulZero = refl

plus-whole-simple : FitsNone Not (Cons (binary BvUge (word 0) (binary BvAdd (word 0) (number 1))) Nil)
plus-whole-simple Fold = refl
plus-whole-simple Same = refl
plus-whole-simple NotNot = refl
plus-whole-simple UnitRule = refl
plus-whole-simple Absorb = refl
plus-whole-simple IteKnown = refl
plus-whole-simple IteSame = refl
plus-whole-simple AddZero = refl
plus-whole-simple MulOne = refl
plus-whole-simple MulZero = refl

plus-simple : IsSimple (below BvAdd)
plus-simple = (plus-whole-simple, ((plus-side-simple, (tt, ((plus-term-simple, (tt, (tt, tt))), tt))), tt))

-- the candidates for y, in order
candidates-for-y : candidates 1 2 (negation p.matrix) 1 ≡ binary BvSub (word 0) (number 1) ∷ binary BvAdd (word 0) (number 1) ∷ word 0 ∷ number 0 ∷ number 3 ∷ []
unfolding candidates inverse_term
candidates-for-y = refl

zero-entry : IsEntry p [] zero-loses
unfolding candidates inverse_term
zero-entry = record {
  links = record { low = omega arith; high = omega arith; each = All-from_recursion _ [] tt; last = λ _. refl };
  region = record {
    formula = minus-formula;
    variables = All-from_recursion (IsPlaceBelow p 1) ((0, Bits 2) ∷ (0, Bits 2) ∷ []) ((omega arith, refl), ((omega arith, refl), tt));
    point = (omega arith, tt);
    holds = holds (0 ∷ []) (below BvSub) refl;
  };
  block = record {
    values = 1 ∷ [];
    of_block = (omega arith, tt);
    leads = holds (0 ∷ 1 ∷ []) (negation p.matrix) refl;
    chosen = (inl (record { before = []; behind = binary BvAdd (word 0) (number 1) ∷ word 0 ∷ number 0 ∷ number 3 ∷ []; stands = refl; holds = holds (0 ∷ 1 ∷ []) (below BvSub) refl; others = All-from_recursion _ [] tt }), refl);
    same = like_itself (below BvSub);
    small = omega arith;
    simple = minus-simple;
  };
}

one-entry : IsEntry p (zero-loses ∷ []) one-loses
unfolding candidates inverse_term
one-entry = record {
  links = record { low = omega arith; high = omega arith; each = All-from_recursion _ [] tt; last = λ _. refl };
  region = record {
    formula = plus-formula;
    variables = All-from_recursion (IsPlaceBelow p 1) ((0, Bits 2) ∷ (0, Bits 2) ∷ []) ((omega arith, refl), ((omega arith, refl), tt));
    point = (omega arith, tt);
    holds = holds (1 ∷ []) (below BvAdd) refl;
  };
  block = record {
    values = 2 ∷ [];
    of_block = (omega arith, tt);
    leads = holds (1 ∷ 2 ∷ []) (negation p.matrix) refl;
    chosen = (inl (record { before = binary BvSub (word 0) (number 1) ∷ []; behind = word 0 ∷ number 0 ∷ number 3 ∷ []; stands = refl; holds = holds (1 ∷ 2 ∷ []) (below BvAdd) refl; others = All-from_recursion (λ u. IsTrueAt (1 ∷ 2 ∷ []) (with_term 1 u (negation p.matrix)) → ⊥) (binary BvSub (word 0) (number 1) ∷ []) (fails (1 ∷ 2 ∷ []) (below BvSub) refl, tt) }), refl);
    same = like_itself (below BvAdd);
    small = omega arith;
    simple = plus-simple;
  };
}

no-y-above : (point values : List ℕ) → AllZip (λ (v : ℕ) (place : Place). IsValueOf v place.sort) point (record { quantifier = Existential; sort = Bits 2 } ∷ []) → AllZip IsValueOf values (Bits 2 ∷ []) → IsTrueAt point (fixed 0 3) → (k : ℕ) × IsSomeAnd (slice_get (p.matrix ∷ []) k) (λ t. IsTrueAt (point ++ values) t)
no-y-above [] values hp hv h = absurd hp
no-y-above (x ∷ y ∷ ys) values hp hv h = absurd hp.1
no-y-above (x ∷ []) [] hp hv h = absurd hv
no-y-above (x ∷ []) (y ∷ z ∷ zs) hp hv h = absurd hv.1
no-y-above (x ∷ []) (y ∷ []) hp hv h = (
  0,
  below_four (λ a. IsTrueAt (a ∷ []) (fixed 0 3) → IsTrueAt (a ∷ y ∷ []) p.matrix)
      (λ t. absurd (fails (0 ∷ []) (fixed 0 3) refl t))
      (λ t. absurd (fails (1 ∷ []) (fixed 0 3) refl t))
      (λ t. absurd (fails (2 ∷ []) (fixed 0 3) refl t))
      (λ _. below_four (λ b. IsTrueAt (3 ∷ b ∷ []) p.matrix) (holds (3 ∷ 0 ∷ []) p.matrix refl) (holds (3 ∷ 1 ∷ []) p.matrix refl) (holds (3 ∷ 2 ∷ []) p.matrix refl) (holds (3 ∷ 3 ∷ []) p.matrix refl) y hv.0)
      x hp.0 h,
)

abbrev run : Run
run = record { place = 0; high = 1; low = 0 }

three-entry : IsEntry p (zero-loses ∷ one-loses ∷ []) three-wins
three-entry = record {
  links = record { low = omega arith; high = omega arith; each = All-from_recursion _ [] tt; last = λ _. refl };
  region = record {
    formula = fixed-formula 0 3 (omega arith);
    variables = All-from_recursion (IsPlaceBelow p 1) ((0, Bits 2) ∷ []) ((omega arith, refl), tt);
    point = (omega arith, tt);
    holds = holds (3 ∷ []) (fixed 0 3) refl;
  };
  block = record {
    no_terms = refl;
    form = inl (record {
      runs = run ∷ [];
      each = All-from_recursion (IsRun p three-wins (p.matrix ∷ [])) (run ∷ []) (record { below = omega arith; ordered = omega arith; within = omega arith; occurs = (p.matrix, 0, refl, refl) }, tt);
      apart = λ i j d h l. absurd (omega (arith, h, l));
      region = refl;
    });
    closed = no-y-above;
  };
}

start-entry : IsEntry p (zero-loses ∷ one-loses ∷ three-wins ∷ []) at-start
unfolding candidates inverse_term
start-entry = record {
  links = record {
    low = omega arith;
    high = omega arith;
    each = All-from_recursion (IsLink (zero-loses ∷ one-loses ∷ three-wins ∷ []) at-start) (2 ∷ []) ((refl, refl), tt);
    last = λ h. absurd (omega (arith, h));
  };
  region = record {
    formula = yes-formula;
    variables = All-from_recursion _ [] tt;
    point = tt;
    holds = refl;
  };
  block = record {
    values = 3 ∷ [];
    of_block = (omega arith, tt);
    leads = holds (3 ∷ []) (fixed 0 3) refl;
    chosen = (refl, refl);
    same = like_true (with_term 0 (number 3) (fixed 0 3)) (λ e. refl);
    small = omega arith;
    simple = tt;
  };
}

zero-fresh : IsFresh p [] zero-loses
zero-fresh = record { outside = All-from_recursion _ [] tt; undecided = All-from_recursion _ [] tt; follows = follows-none p [] }

one-fresh : IsFresh p (zero-loses ∷ []) one-loses
one-fresh = record {
  outside = All-from_recursion (λ f. IsTrueAt one-loses.point f.region → ⊥) (zero-loses ∷ []) (fails (1 ∷ []) (below BvSub) refl, tt);
  undecided = All-from_recursion (λ e. e.level ≢ 1) (zero-loses ∷ []) ((λ h. omega (arith, h)), tt);
  follows = follows-newest p [] zero-loses [] (λ h. absurd (true≢false h));
}

three-fresh : IsFresh p (zero-loses ∷ one-loses ∷ []) three-wins
three-fresh = record {
  outside = All-from_recursion _ [] tt;
  undecided = All-from_recursion (λ e. e.level ≢ 1) (zero-loses ∷ one-loses ∷ []) ((λ h. omega (arith, h)), ((λ h. omega (arith, h)), tt));
  follows = follows-newest p (zero-loses ∷ []) one-loses three-wins.links (λ h. absurd (true≢false h));
}

undecided : IsUndecided (zero-loses ∷ one-loses ∷ three-wins ∷ [])
undecided = All-from_recursion (λ e. e.level ≢ 1) (zero-loses ∷ one-loses ∷ three-wins ∷ []) ((λ h. omega (arith, h)), ((λ h. omega (arith, h)), ((λ h. omega (arith, h)), tt)))

start-fresh : IsFresh p (zero-loses ∷ one-loses ∷ three-wins ∷ []) at-start
start-fresh = record { outside = All-from_recursion _ [] tt; undecided = undecided; follows = follows-newest p (zero-loses ∷ one-loses ∷ []) three-wins at-start.links (λ _. refl) }

so-far : IsPlayed p (zero-loses ∷ one-loses ∷ three-wins ∷ [])
so-far = (zero-entry, zero-fresh, (one-entry, one-fresh, (three-entry, three-fresh, tt)))

played : IsPlayed p entries
played = (zero-entry, zero-fresh, (one-entry, one-fresh, (three-entry, three-fresh, (start-entry, start-fresh, tt))))

-- so these lists are lawful at their counts: the last query about x, and the goal
last-query : IsQuery p 3 (zero-loses ∷ one-loses ∷ three-wins ∷ []) Universal 2 (negation (below BvSub) ∷ negation (below BvAdd) ∷ [])
last-query = record { played = so-far; counted = refl; undecided = undecided; asked = record { low = omega arith; high = omega arith }; list = inr ((λ h. omega (arith, h)), inl (negation (below BvAdd) ∷ [], refl, inl ([], refl, refl))) }

last-list : IsFinal p 4 entries (negation (binary BvUge (number 3) (word 1)) ∷ [])
unfolding chain chain_of
last-list = record { winner = Existential; played = played; won = inl refl; counted = refl; list = goal }
