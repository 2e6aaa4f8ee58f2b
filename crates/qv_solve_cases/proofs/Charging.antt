-- What the lost problem may be charged for, and the other.
use Rattle.std.proofs.Common.{◌≡◌, ◌++◌, ℕ, pos, List, [], ◌∷◌, refl, sym, subst, inl, arith}
use Rattle.std.specs.Prelude.{slice_get}
use Rattle.std.proofs.lemmas.List.Elements.{All-from_recursion}
use Rattle.qv_words.specs.declared.sort.Sort.TheVariants.{Bool as BoolSort}
use Rattle.qv_words.specs.Tree.{Tree, Variable, Literal}
use Rattle.qv_words.specs.Prenex.{negation}
use Rattle.qv_words.specs.Problem.{Problem, Universal}
use Rattle.qv_words.specs.Routine.{bits_of_number}
use Rattle.qv_words.specs.Clauses.{cnf, cnf_variables}
use Rattle.qv_words.specs.Choice.{IsTrueAt}
use Rattle.qv_words.specs.Linked.{Entry, IsEntry, IsLinked, drawn, paths_of}
use Rattle.qv_cnf.specs.Derivation.{IsDerivation, MayAdd, MayDelete, after_step, no_steps}
use Rattle.qv_cnf.specs.LratLine.{Deletion}
use Rattle.qv_meter.specs.Bases.{IsBaseOf}
use Rattle.qv_meter.specs.Played.{IsPlayed}
use Rattle.qv_meter.specs.Charging.{ExceedsVariables, MayCharge, MayChargeInstance}
use Rattle.qv_meter.specs.Records.{Limits, Metering, after_instance, in_lane, started}
use Rattle.qv_meter.specs.Units.{EntryUnit, IsEntryUnit, IsLineUnit, IsOverLarge, LineUnit, MayGoOn, Query}
use Rattle.qv_meter.proofs.Bases.{base-plain}
use Rattle.qv_meter.proofs.Following.{follows-none}
use Rattle.qv_meter.proofs.Valuing.{holds, value-means}
use Rattle.qv_meter.proofs.Words.{yes-formula}
use Rattle.qv_solve_cases.specs.Lost.{clauses_of_false, first, learnt, lost, wide, undone}

-- the clauses are those of false
false-base : IsBaseOf clauses_of_false (Literal BoolSort 0 ∷ [])
unfolding cnf bits_of_number
false-base = base-plain clauses_of_false (Literal BoolSort 0 ∷ []) refl

pub may-begin : MayGoOn lost 0 (Query Universal 2) 0 clauses_of_false []
may-begin = record {
  entries = [];
  formulas = Literal BoolSort 0 ∷ [];
  list = record {
    played = tt;
    counted = refl;
    undecided = All-from_recursion _ [] tt;
    asked = record { low = omega arith; high = omega arith };
    list = inl (refl, ([], refl));
  };
  clauses = false-base;
  charged = refl;
}

-- each step may come
adds-first : MayAdd clauses_of_false no_steps 3 [] (pos 1 ∷ pos 2 ∷ [])
adds-first = record { rises = omega arith; fresh = refl; follows = refl; literals_needed = refl; hints_needed = refl; not_opposite = refl; not_contained = refl }

deletes-it : MayDelete (after_step no_steps (learnt 3)) (3 ∷ [])
deletes-it = record { live = refl; some = λ none. absurd cc }

adds-again : MayAdd clauses_of_false (after_step (after_step no_steps (learnt 3)) (Deletion 3 (3 ∷ []))) 4 [] (pos 1 ∷ pos 2 ∷ [])
adds-again = record { rises = omega arith; fresh = refl; follows = refl; literals_needed = refl; hints_needed = refl; not_opposite = refl; not_contained = refl }

pub derives : IsDerivation clauses_of_false (learnt 3 ∷ [])
derives = (adds-first, tt)

pub derives-undone : IsDerivation clauses_of_false undone
derives-undone = (adds-first, (deletes-it, tt))

pub derives-again : IsDerivation clauses_of_false (undone ++ learnt 4 ∷ [])
derives-again = (adds-first, (deletes-it, (adds-again, tt)))

negated : (point : List ℕ) → IsTrueAt point (negation (Literal BoolSort 0))
negated point = value-means (slice_get point) (negation (Literal BoolSort 0)) 1 refl

entry : IsEntry lost [] first
entry = record {
  links = record { low = omega arith; high = omega arith; each = All-from_recursion _ [] tt; last = λ _. refl };
  region = record {
    formula = yes-formula;
    variables = All-from_recursion _ [] tt;
    point = tt;
    holds = holds [] (Literal BoolSort 1) refl;
  };
  block = record {
    no_terms = refl;
    form = inl (record {
      runs = [];
      each = All-from_recursion _ [] tt;
      apart = λ i j d h l. absurd (omega (arith, h, l));
      region = refl;
    });
    closed = λ point values h v t. (0, negated (point ++ values));
  };
}

played : IsPlayed lost (first ∷ [])
played = (entry, record { outside = All-from_recursion _ [] tt; undecided = All-from_recursion _ [] tt; follows = follows-none lost [] }, tt)

pub entry-unit : IsEntryUnit lost 0 [] first
entry-unit = record { played = played; counted = refl }

pub line-unit : IsLineUnit lost 1 (first ∷ []) (0 ∷ [])
unfolding paths_of drawn
line-unit = record { played = played; won = refl; charged = omega arith; next = refl }

pub over-large : IsOverLarge wide 0 [] 1 (Variable 0 BoolSort ∷ [])
unfolding cnf_variables
over-large = record {
  lane = Query Universal 2;
  list = record {
    played = tt;
    counted = refl;
    undecided = All-from_recursion _ [] tt;
    asked = record { low = omega arith; high = omega arith };
    list = inl (refl, ([], refl));
  };
  over = omega arith;
}

-- What a meter may charge in a new record, whatever is in its store.

-- the first conflict of the query's lane
pub may-charge : (limits : Limits) (old m : Metering) → m ≡ in_lane (Query Universal 2) (started lost limits old) → MayCharge m clauses_of_false []
may-charge limits old m is = subst (λ k. MayCharge k clauses_of_false []) (sym is) (0, refl, may-begin)

pub may-enter : (limits : Limits) (old m : Metering) (p : Problem) (es : List Entry) (e : Entry) → m ≡ started p limits old → p ≡ lost → es ≡ [] → e ≡ first → MayChargeInstance m (EntryUnit es e)
may-enter limits old m p es e is problem none one =
    subst (λ k. MayChargeInstance k (EntryUnit es e)) (sym is)
    (subst (λ q. IsEntryUnit q 0 es e) (sym problem) (subst (λ xs. IsEntryUnit lost 0 xs e) (sym none) (subst (IsEntryUnit lost 0 []) (sym one) entry-unit)))

pub may-draw : (limits : Limits) (old m : Metering) (p : Problem) (es : List Entry) → m ≡ after_instance (started p limits old) → p ≡ lost → es ≡ first ∷ [] → MayChargeInstance m (LineUnit es (0 ∷ []))
may-draw limits old m p es is problem one =
    subst (λ k. MayChargeInstance k (LineUnit es (0 ∷ []))) (sym is) (subst (λ q. IsLineUnit q 1 es (0 ∷ [])) (sym problem) (subst (λ xs. IsLineUnit lost 1 xs (0 ∷ [])) (sym one) line-unit))

pub may-exceed : (limits : Limits) (old m : Metering) (p : Problem) (formulas : List Tree) → m ≡ started p limits old → p ≡ wide → limits.variables ≡ 1 → formulas ≡ Variable 0 BoolSort ∷ [] → ExceedsVariables m [] formulas
may-exceed limits old m p formulas is problem one list =
    subst (λ k. ExceedsVariables k [] formulas) (sym is)
    (subst (λ q. IsOverLarge q 0 [] limits.variables formulas) (sym problem)
    (subst (λ n. IsOverLarge wide 0 [] n formulas) (sym one) (subst (IsOverLarge wide 0 [] 1) (sym list) over-large)))

pub linked-first : (p : Problem) (es : List Entry) → p ≡ lost → es ≡ first ∷ [] → IsLinked p es
linked-first p es problem one = subst (λ q. IsLinked q es) (sym problem) (subst (IsLinked lost) (sym one) (entry, tt))
