-- There is no bit x that is each bit y: the universal player wins by an entry for each x, and the tree has
-- one line for x and below it two for y.
use Rattle.std.proofs.Common.{◌≡◌, ◌≢◌, ℕ, ◌<◌, List, [], ◌∷◌, ◌++◌, map, refl, ap, inl, inr, arith}
use Rattle.std.specs.Prelude.{IsSomeAnd, slice_get, sum}
use Rattle.std.proofs.lemmas.Bool.{true≢false}
use Rattle.std.proofs.lemmas.List.Elements.{All-from_recursion}
use Rattle.std.proofs.lemmas.Option.{same_Some}
use Rattle.std.specs.List.{AllZip}
use Rattle.qv_words.specs.declared.sort.Sort.TheVariants.{Bits}
use Rattle.qv_words.specs.declared.sort.Sort.TheVariants.{Bool as BoolSort}
use Rattle.qv_words.specs.declared.op.Op.TheVariants.{Equal, Not}
use Rattle.qv_words.specs.Sort.{IsValueOf, IsLawful}
use Rattle.qv_words.specs.Skolem.{IsTermOf}
use Rattle.qv_words.specs.Tree.{Tree, Variable, Literal, Nil, Cons}
use Rattle.qv_words.specs.Prenex.{binary, negation}
use Rattle.qv_words.specs.Inverse.{inverse_term}
use Rattle.qv_words.specs.Choice.{candidates, with_term, IsTrueAt}
use Rattle.qv_words.specs.Expansion.{Instance, Eigen}
use Rattle.qv_words.specs.declared.rule.Rule.TheVariants.{Fold, Same, NotNot, Unit as UnitRule, Absorb, IteKnown, IteSame, AddZero, MulOne, MulZero}
use Rattle.qv_words.specs.Passes.{FitsNone, IsSimple, rules_in_order}
use Rattle.qv_words.specs.Problem.{Problem, Place, Existential, Universal}
use Rattle.qv_words.specs.Linked.{Entry, IsEntry, IsLink, IsPlaceBelow, drawn, tree_of, paths_of}
use Rattle.qv_rewrite_passes.specs.declared.pass.Pass.TheVariants.{By}
use Rattle.qv_meter.specs.Played.{IsFresh, IsPlayed}
use Rattle.qv_meter.specs.Queries.{query_list}
use Rattle.qv_meter.specs.Finals.{IsFinalList, instances_of}
use Rattle.qv_meter.specs.Units.{IsFinal, IsLineUnit}
use Rattle.qv_meter.proofs.Following.{follows-newest, follows-none}
use Rattle.qv_meter.proofs.Valuing.{holds, fails, like_itself, below_two}
use Rattle.qv_meter.proofs.Words.{yes, yes-formula}

abbrev bit : ℕ → Tree
bit i = Variable i (Bits 1)

abbrev number : ℕ → Tree
number n = Literal (Bits 1) n

abbrev p : Problem
p = record {
  prefix = record { quantifier = Existential; sort = Bits 1 } ∷ record { quantifier = Universal; sort = Bits 1 } ∷ [];
  matrix = binary Equal (bit 0) (bit 1);
}

-- x differs from this number
abbrev differs : ℕ → Tree
differs n = negation (binary Equal (bit 0) (number n))

-- against 0 the universal player takes 1, and against 1 it takes 0; so it wins against every x
abbrev at-zero : Entry
at-zero = record { level = 2; winner = Universal; region = differs 1; point = 0 ∷ []; terms = number 1 ∷ []; links = [] }

abbrev at-one : Entry
at-one = record { level = 2; winner = Universal; region = differs 0; point = 1 ∷ []; terms = number 0 ∷ []; links = [] }

abbrev at-start : Entry
at-start = record { level = 1; winner = Universal; region = yes; point = []; terms = []; links = 0 ∷ 1 ∷ [] }

abbrev entries : List Entry
entries = at-zero ∷ at-one ∷ at-start ∷ []

queries : query_list p (at-zero ∷ at-one ∷ []) Universal 2 ∷ query_list p (at-zero ∷ at-one ∷ []) Existential 2 ∷ []
    ≡ (negation (differs 1) ∷ negation (differs 0) ∷ []) ∷ [] ∷ []
queries = refl

-- one line for x under entry 2, and below it one for y under each link
lines : tree_of p entries ≡ Eigen 0 ∷ Instance 1 (number 1) ∷ Instance 1 (number 0) ∷ []
unfolding tree_of drawn
lines = refl

paths : paths_of p entries ≡ (2 ∷ []) ∷ (2 ∷ 0 ∷ []) ∷ (2 ∷ 1 ∷ []) ∷ []
unfolding paths_of drawn
paths = refl

instances : instances_of p Universal entries ≡ 6
unfolding tree_of drawn
instances = refl

leaves : IsFinalList p Universal entries (binary Equal (Variable 1 (Bits 1)) (number 1) ∷ binary Equal (Variable 1 (Bits 1)) (number 0) ∷ [])
unfolding tree_of drawn
leaves = (map By rules_in_order, refl)

-- The entries may come where they do.
lawful : IsLawful (Bits 1)
lawful = (omega arith, omega arith)

differs-formula : (n : ℕ) → n < 2 → IsTermOf (differs n) BoolSort
differs-formula n h = record {
  sorted = (((((lawful, tt), ((lawful, h), tt)), refl), tt), refl);
  sort = refl;
  quantifier_free = ((tt, (tt, tt)), tt);
  constant_free = refl;
}

not-simple : (n : ℕ) → FitsNone Not (Cons (binary Equal (bit 0) (number n)) Nil)
not-simple n Fold = refl
not-simple n Same = refl
not-simple n NotNot = refl
not-simple n UnitRule = refl
not-simple n Absorb = refl
not-simple n IteKnown = refl
not-simple n IteSame = refl
not-simple n AddZero = refl
not-simple n MulOne = refl
not-simple n MulZero = refl

equal-simple : (n : ℕ) → FitsNone Equal (Cons (bit 0) (Cons (number n) Nil))
equal-simple n Fold = refl
equal-simple n Same = refl
equal-simple n NotNot = refl
equal-simple n UnitRule = refl
equal-simple n Absorb = refl
equal-simple n IteKnown = refl
equal-simple n IteSame = refl
equal-simple n AddZero = refl
equal-simple n MulOne = refl
equal-simple n MulZero = refl

differs-simple : (n : ℕ) → IsSimple (differs n)
differs-simple n = (not-simple n, ((equal-simple n, (tt, (tt, tt))), tt))

-- the one candidate for y is x, with which it doesn't differ from x
only-x : candidates 1 2 (negation p.matrix) 1 ≡ bit 0 ∷ []
unfolding candidates inverse_term
only-x = refl

zero-entry : IsEntry p [] at-zero
unfolding candidates inverse_term
zero-entry = record {
  links = record { low = omega arith; high = omega arith; each = All-from_recursion _ [] tt; last = λ _. refl };
  region = record {
    formula = differs-formula 1 (omega arith);
    variables = All-from_recursion (IsPlaceBelow p 1) ((0, Bits 1) ∷ []) ((omega arith, refl), tt);
    point = (omega arith, tt);
    holds = holds (0 ∷ []) (differs 1) refl;
  };
  block = record {
    values = 1 ∷ [];
    of_block = (omega arith, tt);
    leads = holds (0 ∷ 1 ∷ []) (negation p.matrix) refl;
    chosen = (inr (record { none = All-from_recursion (λ u. IsTrueAt (0 ∷ 1 ∷ []) (with_term 1 u (negation p.matrix)) → ⊥) (bit 0 ∷ []) (fails (0 ∷ 1 ∷ []) (with_term 1 (bit 0) (negation p.matrix)) refl, tt); value = refl }), refl);
    same = like_itself (differs 1);
    small = omega arith;
    simple = differs-simple 1;
  };
}

one-entry : IsEntry p (at-zero ∷ []) at-one
unfolding candidates inverse_term
one-entry = record {
  links = record { low = omega arith; high = omega arith; each = All-from_recursion _ [] tt; last = λ _. refl };
  region = record {
    formula = differs-formula 0 (omega arith);
    variables = All-from_recursion (IsPlaceBelow p 1) ((0, Bits 1) ∷ []) ((omega arith, refl), tt);
    point = (omega arith, tt);
    holds = holds (1 ∷ []) (differs 0) refl;
  };
  block = record {
    values = 0 ∷ [];
    of_block = (omega arith, tt);
    leads = holds (1 ∷ 0 ∷ []) (negation p.matrix) refl;
    chosen = (inr (record { none = All-from_recursion (λ u. IsTrueAt (1 ∷ 0 ∷ []) (with_term 1 u (negation p.matrix)) → ⊥) (bit 0 ∷ []) (fails (1 ∷ 0 ∷ []) (with_term 1 (bit 0) (negation p.matrix)) refl, tt); value = refl }), refl);
    same = like_itself (differs 0);
    small = omega arith;
    simple = differs-simple 0;
  };
}

closed : (point values : List ℕ) → AllZip (λ (v : ℕ) (place : Place). IsValueOf v place.sort) point [] → AllZip IsValueOf values (Bits 1 ∷ []) → IsTrueAt point yes → (k : ℕ) × IsSomeAnd (slice_get (differs 1 ∷ differs 0 ∷ []) k) (λ t. IsTrueAt (point ++ values) t)
closed (x ∷ xs) values hp hv h = absurd hp
closed [] [] hp hv h = absurd hv
closed [] (x ∷ y ∷ ys) hp hv h = absurd hv.1
closed [] (x ∷ []) hp hv h =
    below_two (λ a. (k : ℕ) × IsSomeAnd (slice_get (differs 1 ∷ differs 0 ∷ []) k) (λ t. IsTrueAt (a ∷ []) t))
    (0, holds (0 ∷ []) (differs 1) refl) (1, holds (1 ∷ []) (differs 0) refl) x hv.0

start-entry : IsEntry p (at-zero ∷ at-one ∷ []) at-start
start-entry = record {
  links = record {
    low = omega arith;
    high = omega arith;
    each = All-from_recursion (IsLink (at-zero ∷ at-one ∷ []) at-start) (0 ∷ 1 ∷ []) ((refl, refl), ((refl, refl), tt));
    last = λ h. absurd (omega (arith, h));
  };
  region = record {
    formula = yes-formula;
    variables = All-from_recursion _ [] tt;
    point = tt;
    holds = refl;
  };
  block = record {
    no_terms = refl;
    form = inl (record {
      runs = [];
      each = All-from_recursion _ [] tt;
      apart = λ i j d h l. absurd (omega (arith, l));
      region = refl;
    });
    closed = closed;
  };
}

zero-fresh : IsFresh p [] at-zero
zero-fresh = record { outside = All-from_recursion _ [] tt; undecided = All-from_recursion _ [] tt; follows = follows-none p [] }

one-fresh : IsFresh p (at-zero ∷ []) at-one
one-fresh = record {
  outside = All-from_recursion (λ f. IsTrueAt at-one.point f.region → ⊥) (at-zero ∷ []) (fails (1 ∷ []) (differs 1) refl, tt);
  undecided = All-from_recursion (λ e. e.level ≢ 1) (at-zero ∷ []) ((λ h. omega (arith, h)), tt);
  follows = follows-newest p [] at-zero [] (λ h. absurd (true≢false h));
}

start-fresh : IsFresh p (at-zero ∷ at-one ∷ []) at-start
start-fresh = record {
  outside = All-from_recursion _ [] tt;
  undecided = All-from_recursion (λ e. e.level ≢ 1) (at-zero ∷ at-one ∷ []) ((λ h. omega (arith, h)), ((λ h. omega (arith, h)), tt));
  follows = follows-newest p (at-zero ∷ []) at-one (0 ∷ 1 ∷ []) (λ h. absurd (true≢false h));
}

played : IsPlayed p entries
played = (zero-entry, zero-fresh, (one-entry, one-fresh, (start-entry, start-fresh, tt)))

-- so these are units: each line by its path, and then the final list
third-line : IsLineUnit p 5 entries (2 ∷ 1 ∷ [])
unfolding paths_of drawn
third-line = record { played = played; won = refl; charged = omega arith; next = refl }

-- not a path before its turn
no-line-early : IsLineUnit p 4 entries (2 ∷ 1 ∷ []) → ⊥
unfolding paths_of drawn
no-line-early unit =
    let same : 2 ∷ 0 ∷ [] ≡ 2 ∷ 1 ∷ [] = same_Some (2 ∷ 0 ∷ []) (2 ∷ 1 ∷ []) unit.next in
    let sums : 2 ≡ 3 = ap (λ (ns : List ℕ). sum ns) same in
    omega (arith, sums)

-- the final list comes behind all lines
last-list : IsFinal p 6 entries (binary Equal (Variable 1 (Bits 1)) (number 1) ∷ binary Equal (Variable 1 (Bits 1)) (number 0) ∷ [])
unfolding tree_of drawn
last-list = record { winner = Universal; played = played; won = inl refl; counted = refl; list = leaves }
