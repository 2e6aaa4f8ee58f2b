-- The units of that game, and what is none.
use Rattle.std.proofs.Common.{◌≡◌, ◌≢◌, ℕ, zero, suc, ◌+◌, ◌≤◌, List, [], ◌∷◌, Some, None, false, length, map, refl, inl, inr, sym, ap, subst, arith}
use Rattle.std.specs.Prelude.{IsSomeAnd, slice_get}
use Rattle.std.proofs.lemmas.List.Elements.{All-from_recursion, recursion_from_All}
use Rattle.std.proofs.lemmas.Option.{none-some, same_Some}
use Rattle.std.proofs.lemmas.Bool.{false≢true}
use Rattle.qv_words.specs.declared.sort.Sort.TheVariants.{Bits}
use Rattle.qv_words.specs.declared.op.Op.TheVariants.{BvUlt}
use Rattle.qv_words.specs.Tree.{Tree, Variable}
use Rattle.qv_words.specs.Prenex.{binary, negation}
use Rattle.qv_words.specs.Clauses.{cnf_variables, variables_from}
use Rattle.qv_words.specs.Problem.{Existential, Universal}
use Rattle.qv_words.specs.Linked.{Entry, drawn, tree_of, paths_of}
use Rattle.qv_words.specs.Choice.{IsTrueAt}
use Rattle.qv_words.specs.Gate.{◌>>=◌}
use Rattle.qv_words.specs.Routine.{carry}
use Rattle.qv_words.specs.OpCircuit.{op_circuit}
use Rattle.qv_meter.specs.Queries.{AreAsked}
use Rattle.qv_cnf.specs.Listing.{Numbered}
use Rattle.qv_meter.specs.Played.{IsPlayed, IsUndecided}
use Rattle.qv_meter.specs.Units.{AreInstances, IsQuery, IsFinal, IsEntryUnit, IsLineUnit, IsOverLarge, MayGoOn, Query, Final}
use Rattle.qv_meter.specs.Records.{Limits, Metering, Conflicts, Instances, Variables, IsSpent, no_records, started, in_lane, after_conflict, after_instance, settled, position_of}
use Rattle.qv_meter.proofs.Valuing.{fails, holds}
use Rattle.qv_meter.proofs.Fresh.{shorter, last-entry}
use Rattle.qv_meter.proofs.Words.{number, fixed, yes}
use Rattle.qv_meter.proofs.BelowGame.{p, low, high, final, played}

only-low : IsPlayed p (low ∷ [])
only-low = shorter p [] (low ∷ []) high played

-- the entries, one behind the other
first-entry : IsEntryUnit p 0 [] low
first-entry = record { played = only-low; counted = refl }

second-entry : IsEntryUnit p 1 (low ∷ []) high
second-entry = record { played = played; counted = refl }

-- not the same entry again: its point lies in its own region
not-twice : (n : ℕ) → IsEntryUnit p n (low ∷ []) low → ⊥
not-twice n unit =
    let outside = (last-entry p [] (low ∷ []) low unit.played).1.outside in
    (recursion_from_All (λ f. IsTrueAt low.point f.region → ⊥) (low ∷ []) outside).0 (holds (0 ∷ []) (fixed 0 0) refl)

-- and none where level 1 is won
not-behind : (n : ℕ) (e : Entry) → IsEntryUnit p n (low ∷ high ∷ []) e → ⊥
not-behind n e unit =
    let undecided : IsUndecided (low ∷ high ∷ []) = (last-entry p [] (low ∷ high ∷ []) e unit.played).1.undecided in
    (recursion_from_All (λ f. f.level ≢ 1) (low ∷ high ∷ []) undecided).1.0 refl

-- the lines of the tree, one behind the other, and no more
first-line : IsLineUnit p 2 (low ∷ high ∷ []) (1 ∷ [])
unfolding paths_of drawn
first-line = record { played = played; won = refl; charged = omega arith; next = refl }

second-line : IsLineUnit p 3 (low ∷ high ∷ []) (1 ∷ 0 ∷ [])
unfolding paths_of drawn
second-line = record { played = played; won = refl; charged = omega arith; next = refl }

no-third-line : (path : List ℕ) → IsLineUnit p 4 (low ∷ high ∷ []) path → ⊥
unfolding paths_of drawn
no-third-line path unit = none-some path unit.next

no-line-again : IsLineUnit p 3 (low ∷ high ∷ []) (1 ∷ []) → ⊥
unfolding paths_of drawn
no-line-again unit =
    let same : 1 ∷ 0 ∷ [] ≡ 1 ∷ [] = same_Some (1 ∷ 0 ∷ []) (1 ∷ []) unit.next in
    let longer : 2 ≡ 1 = ap (λ (ns : List ℕ). length ns) same in
    omega (arith, longer)

-- what may be asked without entries, and with one
first-query : IsQuery p 0 [] Universal 3 (p.matrix ∷ [])
first-query = record { played = tt; counted = refl; undecided = All-from_recursion _ [] tt; asked = record { low = omega arith; high = omega arith }; list = inl (refl, ([], refl)) }

second-query : IsQuery p 1 (low ∷ []) Universal 2 (negation (fixed 0 0) ∷ [])
second-query = record {
  played = only-low;
  counted = refl;
  undecided = All-from_recursion (λ e. e.level ≢ 1) (low ∷ []) ((λ h. omega (arith, h)), tt);
  asked = record { low = omega arith; high = omega arith };
  list = inr ((λ h. omega (arith, h)), inl ([], refl, refl));
}

-- not the other player's regions
not-the-other's : IsQuery p 1 (low ∷ []) Existential 2 (negation (fixed 0 0) ∷ []) → ⊥
not-the-other's q = elim q.list [
  | inl behind ↦ omega (arith, behind.0)
  | inr part ↦ let longer : 1 ≡ 0 = ap (λ (ts : List Tree). length ts) part.1 in omega (arith, longer)
]

-- a region that a later one covers may be left out, and no other
abbrev wide : Entry
wide = record { level = 2; winner = Universal; region = yes; point = 1 ∷ []; terms = []; links = [] }

covered : AreAsked p (low ∷ wide ∷ []) Universal 2 (negation yes ∷ [])
covered = inr (λ h. omega (arith, h), inr ((0, λ point h. refl), inl ([], refl, refl)))

not-left_out : AreAsked p (wide ∷ low ∷ []) Universal 2 (negation (fixed 0 0) ∷ []) → ⊥
not-left_out h = elim h [
  | inl behind ↦ omega (arith, behind.0)
  | inr part ↦ elim part.1 [
    | inl first ↦ absurd (fails (1 ∷ []) (fixed 0 0) refl (subst (IsTrueAt (1 ∷ [])) (sym (same-negated (fixed 0 0) yes (first-is (negation (fixed 0 0)) (negation yes) [] first.0 first.1))) refl))
    | inr over ↦ uncovered over.0.0 over.0.1
  ]
]
  where
    first-is : (a b : Tree) (cs ds : List Tree) → a ∷ cs ≡ b ∷ ds → a ≡ b
    first-is a b cs ds h = same_Some a b (ap (λ (ts : List Tree). slice_get ts 0) h)

    same-negated : (a b : Tree) → negation a ≡ negation b → a ≡ b
    same-negated a b h = cc

    uncovered : (k : ℕ) → IsSomeAnd (slice_get (low ∷ []) k) (λ f. (point : List ℕ) → IsTrueAt point yes → IsTrueAt point f.region) → ⊥
    uncovered zero h = fails (1 ∷ []) (fixed 0 0) refl (h (1 ∷ []) refl)
    uncovered (suc k) h = h

-- not behind the end of the game
not-behind-the-end : (formulas : List Tree) → IsQuery p 2 (low ∷ high ∷ []) Universal 2 formulas → ⊥
not-behind-the-end formulas q = (recursion_from_All (λ e. e.level ≢ 1) (low ∷ high ∷ []) q.undecided).1.0 refl

-- no query stands at level 1, and none behind the last level
not-at-1 : (formulas : List Tree) → IsQuery p 0 [] Universal 1 formulas → ⊥
not-at-1 formulas q = omega (arith, q.asked.low)

not-at-4 : (formulas : List Tree) → IsQuery p 0 [] Universal 4 formulas → ⊥
not-at-4 formulas q = let high : 4 ≤ 3 = q.asked.high in omega (arith, high)

-- the final list, with the entries and the lines counted
last-list : IsFinal p 4 (low ∷ high ∷ []) (binary BvUlt (Variable 2 (Bits 2)) (number 0) ∷ [])
unfolding tree_of drawn
last-list = record { winner = Universal; played = played; won = inl refl; counted = refl; list = final }

-- the clauses of the matrix have 7 variables, one that is true, two for each place and two of gates: they
-- are too many for a limit of 6, and not for one of 7
variables : cnf_variables (p.matrix ∷ []) ≡ 7
unfolding cnf_variables op_circuit ◌>>=◌ carry variables_from
variables = refl

too-many : IsOverLarge p 0 [] 6 (p.matrix ∷ [])
too-many = record { lane = Query Universal 3; list = first-query; over = omega (arith, variables) }

not-too-many : IsOverLarge p 0 [] 7 (p.matrix ∷ []) → ⊥
not-too-many h = omega (arith, variables, h.over)

-- a conflict of a lane with a tally goes on from as many additions
nothing-charged : (base : List Numbered) (n : ℕ) → MayGoOn p 0 (Query Universal 3) (n + 1) base [] → ⊥
nothing-charged base n may = let none : 0 ≡ n + 1 = may.charged in omega (arith, none)

-- what four instances stand for: both entries and both lines
four : AreInstances p 4
unfolding paths_of drawn
four = record { entries = low ∷ high ∷ []; lines = 2; played = played; counted = refl; of_tree = (λ _. refl, omega arith) }

-- the lanes have the positions 0 to 4
positions : map position_of (Final ∷ Query Existential 2 ∷ Query Universal 2 ∷ Query Existential 3 ∷ Query Universal 3 ∷ []) ≡ 0 ∷ 1 ∷ 2 ∷ 3 ∷ 4 ∷ []
positions = refl

-- a meter that is started, charged for two conflicts behind the last block and one of the final list, and
-- for two instances
abbrev limits : Limits
limits = record { conflicts = 10; instances = 4; variables = 7 }

abbrev charged : Metering
charged = after_conflict (in_lane Final (after_instance (after_instance (after_conflict (after_conflict (in_lane (Query Universal 3) (started p limits no_records)))))))

tallies : charged ≡ record {
  older = [];
  newest = Some (record { kept = Some (record { problem = p; tallies = 1 ∷ 0 ∷ 0 ∷ 0 ∷ 2 ∷ [] }); limits = limits; conflicts = 3; instances = 2; over = false });
  lane = Final;
}
tallies = refl

-- it isn't spent, and is with two more instances, or where a list is too large
not-spent : IsSpent (record { kept = None; limits = limits; conflicts = 3; instances = 2; over = false }) → ⊥
not-spent (Conflicts, h) = let same : 3 ≡ 10 = h in omega (arith, same)
not-spent (Instances, h) = let same : 2 ≡ 4 = h in omega (arith, same)
not-spent (Variables, h) = false≢true h

spent : IsSpent (record { kept = None; limits = limits; conflicts = 3; instances = 4; over = false })
spent = (Instances, refl)

-- a settled record has its counts, and no problem
gives-up : settled charged ≡ record {
  older = [];
  newest = Some (record { kept = None; limits = limits; conflicts = 3; instances = 2; over = false });
  lane = Final;
}
gives-up = refl
