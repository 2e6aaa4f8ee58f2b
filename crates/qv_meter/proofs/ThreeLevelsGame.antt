-- For all x there is a y with (bvule (bvand y z) x) for all z: the existential player takes 0 for y.
use Rattle.std.proofs.Common.{◌≡◌, ◌≢◌, ℕ, List, [], ◌∷◌, ◌++◌, map, refl, inl, arith}
use Rattle.std.specs.Prelude.{IsSomeAnd, slice_get}
use Rattle.std.proofs.lemmas.Bool.{true≢false}
use Rattle.std.proofs.lemmas.List.Elements.{All-from_recursion}
use Rattle.std.specs.List.{AllZip}
use Rattle.qv_words.specs.declared.sort.Sort.TheVariants.{Bits}
use Rattle.qv_words.specs.declared.op.Op.TheVariants.{BvUle, BvAnd}
use Rattle.qv_words.specs.Sort.{IsValueOf}
use Rattle.qv_words.specs.Prenex.{binary, negation}
use Rattle.qv_words.specs.Inverse.{inverse_term}
use Rattle.qv_words.specs.Choice.{candidates, with_term, IsTrueAt}
use Rattle.qv_words.specs.Passes.{rules_in_order}
use Rattle.qv_words.specs.Problem.{Problem, Place, Existential, Universal}
use Rattle.qv_words.specs.Linked.{Entry, IsEntry, IsLink, IsPlaceBelow, Run, IsRun, chain, chain_of}
use Rattle.qv_rewrite_passes.specs.declared.pass.Pass.TheVariants.{By}
use Rattle.qv_meter.specs.Played.{IsFresh, IsPlayed}
use Rattle.qv_meter.specs.Queries.{query_list}
use Rattle.qv_meter.specs.Finals.{IsFinalList}
use Rattle.qv_meter.specs.Units.{IsFinal, Query, Final}
use Rattle.qv_meter.specs.Records.{lane_count, position_of}
use Rattle.qv_meter.proofs.Following.{follows-newest, follows-none}
use Rattle.qv_meter.proofs.Valuing.{holds, fails, like_true, below_four}
use Rattle.qv_meter.proofs.Words.{word, number, yes, fixed, yes-formula, fixed-formula}

abbrev p : Problem
p = record {
  prefix = record { quantifier = Universal; sort = Bits 2 } ∷ record { quantifier = Existential; sort = Bits 2 } ∷ record { quantifier = Universal; sort = Bits 2 } ∷ [];
  matrix = binary BvUle (binary BvAnd (word 1) (word 2)) (word 0);
}

-- where y is 0 no z helps, so y is 0 for each x
abbrev inner : Entry
inner = record { level = 3; winner = Existential; region = fixed 1 0; point = 0 ∷ 0 ∷ []; terms = []; links = [] }

abbrev middle : Entry
middle = record { level = 2; winner = Existential; region = yes; point = 0 ∷ []; terms = number 0 ∷ []; links = 0 ∷ [] }

abbrev outer : Entry
outer = record { level = 1; winner = Existential; region = yes; point = []; terms = []; links = 1 ∷ [] }

-- what is asked at levels 2, 3 and 4, of each player, before the last entry
queries : map (λ level. query_list p (inner ∷ middle ∷ []) Existential level) (2 ∷ 3 ∷ 4 ∷ []) ++ map (λ level. query_list p (inner ∷ middle ∷ []) Universal level) (2 ∷ 3 ∷ 4 ∷ [])
    ≡ (negation yes ∷ []) ∷ (negation (fixed 1 0) ∷ []) ∷ (negation p.matrix ∷ []) ∷ [] ∷ [] ∷ (p.matrix ∷ []) ∷ []
queries = refl

-- seven lanes, with the positions 0 to 6
lanes : lane_count p ∷ map position_of (Final ∷ Query Existential 2 ∷ Query Universal 2 ∷ Query Existential 3 ∷ Query Universal 3 ∷ Query Existential 4 ∷ Query Universal 4 ∷ [])
    ≡ 7 ∷ 0 ∷ 1 ∷ 2 ∷ 3 ∷ 4 ∷ 5 ∷ 6 ∷ []
lanes = refl

term : chain p (inner ∷ middle ∷ outer ∷ []) ≡ record { place = 1; term = number 0 } ∷ []
unfolding chain chain_of
term = refl

goal : IsFinalList p Existential (inner ∷ middle ∷ outer ∷ []) (negation (binary BvUle (binary BvAnd (number 0) (word 2)) (word 0)) ∷ [])
unfolding chain chain_of
goal = (map By rules_in_order, refl)

-- The entries may come where they do.
no-z-helps : (point values : List ℕ) → AllZip (λ (v : ℕ) (place : Place). IsValueOf v place.sort) point (record { quantifier = Universal; sort = Bits 2 } ∷ record { quantifier = Existential; sort = Bits 2 } ∷ []) → AllZip IsValueOf values (Bits 2 ∷ []) → IsTrueAt point (fixed 1 0) → (k : ℕ) × IsSomeAnd (slice_get (p.matrix ∷ []) k) (λ t. IsTrueAt (point ++ values) t)
no-z-helps [] values hp hv h = absurd hp
no-z-helps (x ∷ []) values hp hv h = absurd hp.1
no-z-helps (x ∷ y ∷ u ∷ us) values hp hv h = absurd hp.1.1
no-z-helps (x ∷ y ∷ []) [] hp hv h = absurd hv
no-z-helps (x ∷ y ∷ []) (z ∷ u ∷ us) hp hv h = absurd hv.1
no-z-helps (x ∷ y ∷ []) (z ∷ []) hp hv h = (
  0,
  below_four (λ b. IsTrueAt (x ∷ b ∷ []) (fixed 1 0) → IsTrueAt (x ∷ b ∷ z ∷ []) p.matrix)
      (λ _. below_four (λ a. IsTrueAt (a ∷ 0 ∷ z ∷ []) p.matrix)
      (below_four (λ c. IsTrueAt (0 ∷ 0 ∷ c ∷ []) p.matrix) (holds (0 ∷ 0 ∷ 0 ∷ []) p.matrix refl) (holds (0 ∷ 0 ∷ 1 ∷ []) p.matrix refl) (holds (0 ∷ 0 ∷ 2 ∷ []) p.matrix refl) (holds (0 ∷ 0 ∷ 3 ∷ []) p.matrix refl) z hv.0)
      (below_four (λ c. IsTrueAt (1 ∷ 0 ∷ c ∷ []) p.matrix) (holds (1 ∷ 0 ∷ 0 ∷ []) p.matrix refl) (holds (1 ∷ 0 ∷ 1 ∷ []) p.matrix refl) (holds (1 ∷ 0 ∷ 2 ∷ []) p.matrix refl) (holds (1 ∷ 0 ∷ 3 ∷ []) p.matrix refl) z hv.0)
      (below_four (λ c. IsTrueAt (2 ∷ 0 ∷ c ∷ []) p.matrix) (holds (2 ∷ 0 ∷ 0 ∷ []) p.matrix refl) (holds (2 ∷ 0 ∷ 1 ∷ []) p.matrix refl) (holds (2 ∷ 0 ∷ 2 ∷ []) p.matrix refl) (holds (2 ∷ 0 ∷ 3 ∷ []) p.matrix refl) z hv.0)
      (below_four (λ c. IsTrueAt (3 ∷ 0 ∷ c ∷ []) p.matrix) (holds (3 ∷ 0 ∷ 0 ∷ []) p.matrix refl) (holds (3 ∷ 0 ∷ 1 ∷ []) p.matrix refl) (holds (3 ∷ 0 ∷ 2 ∷ []) p.matrix refl) (holds (3 ∷ 0 ∷ 3 ∷ []) p.matrix refl) z hv.0)
      x hp.0)
      (λ t. absurd (fails (x ∷ 1 ∷ []) (fixed 1 0) refl t))
      (λ t. absurd (fails (x ∷ 2 ∷ []) (fixed 1 0) refl t))
      (λ t. absurd (fails (x ∷ 3 ∷ []) (fixed 1 0) refl t))
      y hp.1.0 h,
)

abbrev run : Run
run = record { place = 1; high = 1; low = 0 }

inner-entry : IsEntry p [] inner
inner-entry = record {
  links = record { low = omega arith; high = omega arith; each = All-from_recursion _ [] tt; last = λ _. refl };
  region = record {
    formula = fixed-formula 1 0 (omega arith);
    variables = All-from_recursion (IsPlaceBelow p 2) ((1, Bits 2) ∷ []) ((omega arith, refl), tt);
    point = (omega arith, (omega arith, tt));
    holds = holds (0 ∷ 0 ∷ []) (fixed 1 0) refl;
  };
  block = record {
    no_terms = refl;
    form = inl (record {
      runs = run ∷ [];
      each = All-from_recursion (IsRun p inner (p.matrix ∷ [])) (run ∷ []) (record { below = omega arith; ordered = omega arith; within = omega arith; occurs = (p.matrix, 0, refl, refl) }, tt);
      apart = λ i j d h l. absurd (omega (arith, h, l));
      region = refl;
    });
    closed = no-z-helps;
  };
}

middle-entry : IsEntry p (inner ∷ []) middle
unfolding candidates inverse_term
middle-entry = record {
  links = record { low = omega arith; high = omega arith; each = All-from_recursion (IsLink (inner ∷ []) middle) (0 ∷ []) ((refl, refl), tt); last = λ h. absurd (omega (arith, h)) };
  region = record {
    formula = yes-formula;
    variables = All-from_recursion _ [] tt;
    point = (omega arith, tt);
    holds = refl;
  };
  block = record {
    values = 0 ∷ [];
    of_block = (omega arith, tt);
    leads = holds (0 ∷ 0 ∷ []) (fixed 1 0) refl;
    chosen = (inl (record { before = []; behind = []; stands = refl; holds = holds (0 ∷ 0 ∷ []) (with_term 1 (number 0) (fixed 1 0)) refl; others = All-from_recursion _ [] tt }), refl);
    same = like_true (with_term 1 (number 0) (fixed 1 0)) (λ e. refl);
    small = omega arith;
    simple = tt;
  };
}

outer-entry : IsEntry p (inner ∷ middle ∷ []) outer
outer-entry = record {
  links = record { low = omega arith; high = omega arith; each = All-from_recursion (IsLink (inner ∷ middle ∷ []) outer) (1 ∷ []) ((refl, refl), tt); last = λ h. absurd (omega (arith, h)) };
  region = record {
    formula = yes-formula;
    variables = All-from_recursion _ [] tt;
    point = tt;
    holds = refl;
  };
  block = record {
    no_terms = refl;
    form = inl (record {
      runs = [];
      each = All-from_recursion _ [] tt;
      apart = λ i j d h l. absurd (omega (arith, l));
      region = refl;
    });
    closed = λ point values hp hv h. (0, refl);
  };
}

inner-fresh : IsFresh p [] inner
inner-fresh = record { outside = All-from_recursion _ [] tt; undecided = All-from_recursion _ [] tt; follows = follows-none p [] }

middle-fresh : IsFresh p (inner ∷ []) middle
middle-fresh = record {
  outside = All-from_recursion _ [] tt;
  undecided = All-from_recursion (λ e. e.level ≢ 1) (inner ∷ []) ((λ h. omega (arith, h)), tt);
  follows = follows-newest p [] inner (0 ∷ []) (λ _. refl);
}

outer-fresh : IsFresh p (inner ∷ middle ∷ []) outer
outer-fresh = record {
  outside = All-from_recursion _ [] tt;
  undecided = All-from_recursion (λ e. e.level ≢ 1) (inner ∷ middle ∷ []) ((λ h. omega (arith, h)), ((λ h. omega (arith, h)), tt));
  follows = follows-newest p (inner ∷ []) middle (1 ∷ []) (λ h. absurd (true≢false h));
}

played : IsPlayed p (inner ∷ middle ∷ outer ∷ [])
played = (inner-entry, inner-fresh, (middle-entry, middle-fresh, (outer-entry, outer-fresh, tt)))

-- the list may end behind the forced entry, and nothing else may come there than what follows it
only-inner : IsPlayed p (inner ∷ [])
only-inner = (inner-entry, inner-fresh, tt)

nothing-else : (e : Entry) → (e.links ≡ 0 ∷ [] → ⊥) → IsPlayed p (inner ∷ e ∷ []) → ⊥
nothing-else e other h = other (h.2.1.follows 0 inner refl refl refl)

last-list : IsFinal p 3 (inner ∷ middle ∷ outer ∷ []) (negation (binary BvUle (binary BvAnd (number 0) (word 2)) (word 0)) ∷ [])
unfolding chain chain_of
last-list = record { winner = Existential; played = played; won = inl refl; counted = refl; list = goal }
