-- For all x there is a y below x: the universal player wins with 0, by two entries and two lines.
use Rattle.std.proofs.Common.{◌≡◌, ◌≢◌, ℕ, List, [], ◌∷◌, ◌++◌, map, refl, inl, arith}
use Rattle.std.specs.Prelude.{IsSomeAnd, slice_get}
use Rattle.std.proofs.lemmas.List.Elements.{All-from_recursion}
use Rattle.std.specs.List.{AllZip}
use Rattle.qv_words.specs.declared.sort.Sort.TheVariants.{Bits}
use Rattle.qv_words.specs.declared.op.Op.TheVariants.{BvUlt}
use Rattle.qv_words.specs.Sort.{IsValueOf}
use Rattle.qv_words.specs.Tree.{Variable}
use Rattle.qv_words.specs.Prenex.{binary, negation}
use Rattle.qv_words.specs.Inverse.{inverse_term}
use Rattle.qv_words.specs.Choice.{candidates, IsTrueAt}
use Rattle.qv_words.specs.Expansion.{Instance, Eigen}
use Rattle.qv_words.specs.Passes.{rules_in_order}
use Rattle.qv_words.specs.Problem.{Problem, Place, Existential, Universal}
use Rattle.qv_words.specs.Linked.{Entry, IsEntry, IsLink, IsPlaceBelow, Run, IsRun, drawn, tree_of, paths_of}
use Rattle.qv_rewrite_passes.specs.declared.pass.Pass.TheVariants.{By}
use Rattle.qv_meter.specs.Played.{IsFresh, IsPlayed}
use Rattle.qv_meter.specs.Queries.{query_list}
use Rattle.qv_meter.specs.Finals.{IsFinalList, instances_of}
use Rattle.qv_meter.proofs.Following.{follows-newest, follows-none}
use Rattle.qv_meter.proofs.Valuing.{holds, fails, like_true, below_four}
use Rattle.qv_meter.proofs.Words.{word, number, yes, fixed, yes-formula, fixed-formula}

abbrev pub p : Problem
p = record {
  prefix = record { quantifier = Universal; sort = Bits 2 } ∷ record { quantifier = Existential; sort = Bits 2 } ∷ [];
  matrix = binary BvUlt (word 1) (word 0);
}

-- from 0 no value of y is below x
abbrev pub low : Entry
low = record { level = 2; winner = Universal; region = fixed 0 0; point = 0 ∷ []; terms = []; links = [] }

-- so the universal player takes 0
abbrev pub high : Entry
high = record { level = 1; winner = Universal; region = yes; point = []; terms = number 0 ∷ []; links = 0 ∷ [] }

-- What is asked: nothing of the regions at level 2 at first, and then the negation of the one that is there;
-- behind the last block the matrix, or its negation.
first_queries : query_list p [] Existential 2 ∷ query_list p [] Universal 2 ∷ query_list p [] Existential 3 ∷ query_list p [] Universal 3 ∷ []
    ≡ [] ∷ [] ∷ (negation p.matrix ∷ []) ∷ (p.matrix ∷ []) ∷ []
first_queries = refl

second_queries : query_list p (low ∷ []) Existential 2 ∷ query_list p (low ∷ []) Universal 2 ∷ query_list p (low ∷ []) Existential 3 ∷ query_list p (low ∷ []) Universal 3 ∷ []
    ≡ [] ∷ (negation (fixed 0 0) ∷ []) ∷ (negation p.matrix ∷ []) ∷ (p.matrix ∷ []) ∷ []
second_queries = refl

-- the tree: 0 for x under entry 1, and below it an eigenvariable for y under entry 0
lines : tree_of p (low ∷ high ∷ []) ≡ Instance 0 (number 0) ∷ Eigen 1 ∷ []
unfolding tree_of drawn
lines = refl

paths : paths_of p (low ∷ high ∷ []) ≡ (1 ∷ []) ∷ (1 ∷ 0 ∷ []) ∷ []
unfolding paths_of drawn
paths = refl

-- two entries and two lines are charged before the final list, which has the one leaf
instances : instances_of p Universal (low ∷ high ∷ []) ≡ 4
unfolding tree_of drawn
instances = refl

pub final : IsFinalList p Universal (low ∷ high ∷ []) (binary BvUlt (Variable 2 (Bits 2)) (number 0) ∷ [])
unfolding tree_of drawn
final = (map By rules_in_order, refl)

-- Both entries may come where they do.
closed : (point values : List ℕ) → AllZip (λ (v : ℕ) (place : Place). IsValueOf v place.sort) point (record { quantifier = Universal; sort = Bits 2 } ∷ []) → AllZip IsValueOf values (Bits 2 ∷ []) → IsTrueAt point (fixed 0 0) → (k : ℕ) × IsSomeAnd (slice_get (negation p.matrix ∷ []) k) (λ t. IsTrueAt (point ++ values) t)
closed [] values hp hv h = absurd hp
closed (x ∷ y ∷ ys) values hp hv h = absurd hp.1
closed (x ∷ []) [] hp hv h = absurd hv
closed (x ∷ []) (y ∷ z ∷ zs) hp hv h = absurd hv.1
closed (x ∷ []) (y ∷ []) hp hv h = (
  0,
  below_four (λ a. IsTrueAt (a ∷ []) (fixed 0 0) → IsTrueAt (a ∷ y ∷ []) (negation p.matrix))
      (λ _. below_four (λ b. IsTrueAt (0 ∷ b ∷ []) (negation p.matrix)) (holds (0 ∷ 0 ∷ []) (negation p.matrix) refl) (holds (0 ∷ 1 ∷ []) (negation p.matrix) refl) (holds (0 ∷ 2 ∷ []) (negation p.matrix) refl) (holds (0 ∷ 3 ∷ []) (negation p.matrix) refl) y hv.0)
      (λ t. absurd (fails (1 ∷ []) (fixed 0 0) refl t))
      (λ t. absurd (fails (2 ∷ []) (fixed 0 0) refl t))
      (λ t. absurd (fails (3 ∷ []) (fixed 0 0) refl t))
      x hp.0 h,
)

abbrev run : Run
run = record { place = 0; high = 1; low = 0 }

pub low-entry : IsEntry p [] low
low-entry = record {
  links = record { low = omega arith; high = omega arith; each = All-from_recursion _ [] tt; last = λ _. refl };
  region = record {
    formula = fixed-formula 0 0 (omega arith);
    variables = All-from_recursion (IsPlaceBelow p 1) ((0, Bits 2) ∷ []) ((omega arith, refl), tt);
    point = (omega arith, tt);
    holds = holds (0 ∷ []) (fixed 0 0) refl;
  };
  block = record {
    no_terms = refl;
    form = inl (record {
      runs = run ∷ [];
      each = All-from_recursion (IsRun p low (negation p.matrix ∷ [])) (run ∷ []) (record { below = omega arith; ordered = omega arith; within = omega arith; occurs = (negation p.matrix, 0, refl, refl) }, tt);
      apart = λ i j d h l. absurd (omega (arith, h, l));
      region = refl;
    });
    closed = closed;
  };
}

high-entry : IsEntry p (low ∷ []) high
unfolding candidates inverse_term
high-entry = record {
  links = record { low = omega arith; high = omega arith; each = All-from_recursion (IsLink (low ∷ []) high) (0 ∷ []) ((refl, refl), tt); last = λ h. absurd (omega (arith, h)) };
  region = record {
    formula = yes-formula;
    variables = All-from_recursion _ [] tt;
    point = tt;
    holds = refl;
  };
  block = record {
    values = 0 ∷ [];
    of_block = (omega arith, tt);
    leads = holds (0 ∷ []) (fixed 0 0) refl;
    chosen = (refl, refl);
    same = like_true _ (λ e. refl);
    small = omega arith;
    simple = tt;
  };
}

pub low-fresh : IsFresh p [] low
low-fresh = record { outside = All-from_recursion _ [] tt; undecided = All-from_recursion _ [] tt; follows = follows-none p [] }

high-fresh : IsFresh p (low ∷ []) high
high-fresh = record {
  outside = All-from_recursion _ [] tt;
  undecided = All-from_recursion (λ e. e.level ≢ 1) (low ∷ []) ((λ h. omega (arith, h)), tt);
  follows = follows-newest p [] low (0 ∷ []) (λ _. refl);
}

pub played : IsPlayed p (low ∷ high ∷ [])
played = (low-entry, low-fresh, (high-entry, high-fresh, tt))
