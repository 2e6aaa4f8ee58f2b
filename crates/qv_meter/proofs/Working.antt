-- What the counts of a record stand for, after each charge.
use Rattle.std.proofs.Common.{◌≡◌, ℕ, zero, suc, ◌+◌, ◌-◌, ◌<◌, ◌≤◌, List, [], ◌∷◌, ◌++◌, Option, Some, None, length, refl, sym, ap, subst, ◌∙◌, inl, inr, arith}
use Rattle.std.specs.List.{slice_get}
use Rattle.std.specs.Prelude.{◌==◌, IfSome, IsSomeAnd, replicate, slice_index}
use Rattle.std.proofs.lemmas.Bool.{cases_Bool, eq-eqb, eqb-true, false≢true}
use Rattle.std.proofs.lemmas.List.{length-append}
use Rattle.std.proofs.lemmas.Option.{none-some, same_Some, slice_get_within}
use Rattle.qv_words.specs.Tree.{Tree}
use Rattle.qv_words.specs.Problem.{Problem}
use Rattle.qv_words.specs.Linked.{Entry, paths_of}
use Rattle.qv_cnf.specs.Listing.{Numbered}
use Rattle.qv_cnf.specs.LratLine.{LratLine}
use Rattle.qv_cnf.specs.Derivation.{IsDerivation}
use Rattle.qv_meter.specs.Units.{AreConflicts, AreInstances, AreTooMany, EntryUnit, InstanceUnit, IsInstance, IsOverLarge, Lane, LineUnit, MayGoOn}
use Rattle.qv_meter.specs.Records.{IsLaneOf, IsWorked, Kept, Limits, Record, first_kept, first_record, lane_count, one_more_instance, over_large, position_of, with_conflicts, with_tally}
use Rattle.qv_meter.proofs.Differing.{set-other}
use Rattle.qv_meter.proofs.Positions.{apart}

wider-conflicts : (p : Problem) (n m : ℕ) (lane : Lane) (tally : ℕ) → n ≤ m → AreConflicts p n lane tally → AreConflicts p m lane tally
wider-conflicts p n m lane tally low h = record {
  count = h.count;
  base = h.base;
  steps = h.steps;
  within = let w = h.within in omega (arith, w, low);
  charged = h.charged;
  derivation = h.derivation;
}

wider-many : (p : Problem) (n m limit : ℕ) → n ≤ m → AreTooMany p n limit → AreTooMany p m limit
wider-many p n m limit low h = record {
  count = h.count;
  entries = h.entries;
  formulas = h.formulas;
  within = let w = h.within in omega (arith, w, low);
  list = h.list;
}

one-more : (p : Problem) (n : ℕ) (unit : InstanceUnit) → IsInstance p n unit → AreInstances p (n + 1)
one-more p n (EntryUnit entries e) h =
    let many : length (entries ++ e ∷ []) ≡ length entries + 1 = length-append entries (e ∷ []) in
    let count = h.counted in
    record {
      entries = entries ++ e ∷ [];
      lines = 0;
      played = h.played;
      counted = omega (arith, many, count);
      of_tree = (λ low. absurd (omega (arith, low)), omega arith);
    }
one-more p n (LineUnit entries path) h =
    let low = h.charged in
    let within : n - length entries < length (paths_of p entries) = slice_get_within (paths_of p entries) (n - length entries) path h.next in
    record {
      entries = entries;
      lines = n + 1 - length entries;
      played = h.played;
      counted = omega (arith, low);
      of_tree = (λ _. h.won, omega (arith, low, within));
    }

pub instance-worked : (kept : Option Kept) (r : Record) (unit : InstanceUnit) → IfSome kept (IsWorked r) → IsSomeAnd kept (λ k. IsInstance k.problem r.instances unit) → IfSome kept (IsWorked (one_more_instance r))
instance-worked None r unit h may = tt
instance-worked (Some k) r unit h may = record {
  conflicts = λ lane tally of at some. wider-conflicts k.problem r.instances (r.instances + 1) lane tally (omega arith) (h.conflicts lane tally of at some);
  instances = one-more k.problem r.instances unit may;
  variables = λ over. wider-many k.problem r.instances (r.instances + 1) r.limits.variables (omega arith) (h.variables over);
}

pub over-worked : (kept : Option Kept) (r : Record) (entries : List Entry) (formulas : List Tree) → IfSome kept (IsWorked r) → IsSomeAnd kept (λ k. IsOverLarge k.problem r.instances entries r.limits.variables formulas) → IfSome kept (IsWorked (over_large r))
over-worked None r entries formulas h may = tt
over-worked (Some k) r entries formulas h may = record {
  conflicts = h.conflicts;
  instances = h.instances;
  variables = λ _. record { count = r.instances; entries = entries; formulas = formulas; within = omega arith; list = may };
}

no-tally : (n i t : ℕ) → slice_get (replicate n 0) i ≡ Some t → t ≡ 0
no-tally zero i t h = absurd (none-some t h)
no-tally (suc n) zero t h = sym (same_Some 0 t h)
no-tally (suc n) (suc i) t h = no-tally n i t h

pub first-worked : (p : Problem) (limits : Limits) → IsWorked (first_record p limits) (first_kept p)
first-worked p limits = record {
  conflicts = λ lane tally of at some. let none : tally ≡ 0 = no-tally (lane_count p) (position_of lane) tally at in absurd (omega (arith, none, some));
  instances = record { entries = []; lines = 0; played = tt; counted = refl; of_tree = (λ low. absurd (omega (arith, low)), omega arith) };
  variables = λ over. absurd (false≢true over);
}

-- one more conflict of a lane, to which the steps were charged
pub conflict-worked : (r : Record) (k : Kept) (lane : Lane) (n : ℕ) (base : List Numbered) (steps : List LratLine) → IsWorked r k → IsLaneOf k.problem lane → slice_get (with_tally lane (λ m. m + 1) k).tallies (position_of lane) ≡ Some n → MayGoOn k.problem r.instances lane n base steps → IsDerivation base steps → IsWorked (with_conflicts lane (λ m. m + 1) r) (with_tally lane (λ m. m + 1) k)
conflict-worked r k lane n base steps h mine here charged derivation = record {
  conflicts = λ other tally of at some. elim (cases_Bool (position_of other == position_of lane)) [
    | inl y ↦
        let there : position_of other ≡ position_of lane = eqb-true (position_of other) (position_of lane) y in
        let same : lane ≡ other = sym (apart k.problem other lane of mine there) in
        let count : n ≡ tally = same_Some n tally (sym here ∙ ap (slice_get (with_tally lane (λ m. m + 1) k).tallies) (sym there) ∙ at) in
        record {
          count = r.instances;
          base = base;
          steps = steps;
          within = omega arith;
          charged = subst (λ (l : Lane). MayGoOn k.problem r.instances l tally base steps) same (subst (λ (t : ℕ). MayGoOn k.problem r.instances lane t base steps) count charged);
          derivation = derivation;
        }
    | inr apart-is ↦
        let away : position_of other ≡ position_of lane → ⊥ = λ e. false≢true (sym apart-is ∙ eq-eqb (position_of other) (position_of lane) e) in
        h.conflicts other tally of (sym (set-other k.tallies (position_of lane) (slice_index k.tallies (position_of lane) + 1) (position_of other) away) ∙ at) some
  ];
  instances = h.instances;
  variables = h.variables;
}
