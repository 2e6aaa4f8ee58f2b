-- What a meter keeps of a check, and of the search for a core.
use Rattle.std.specs.Prelude.{◌≡◌, ℕ, zero, suc, min, None, IsSomeAnd, List, [], ◌∷◌}
use Rattle.qv_words.specs.Tree.{Tree}
use Rattle.qv_words.specs.Problem.{Problem, problem_of}
use Rattle.qv_meter.specs.Records.{AreTallies, IsWorked, Limits, Record, Quantity, Conflicts, Instances, Variables, IsSpentIn}
use Rattle.qv_script_defs.specs.declared.faults.SpentWord.{SpentWord}
use Rattle.qv_script_defs.specs.declared.faults.SpentWord.TheVariants as word
use Rattle.qv_script_defs.specs.declared.counts.Counts.{Counts}
use Rattle.qv_elab_defs.specs.Scopes.{Named}
use Rattle.qv_script_defs.specs.State.{Last, Sat, Unsat, Unknown, places_of}
use Rattle.qv_solve_cores.specs.Cores.{IsCore}
use Rattle.qv_script_transcript.specs.Following.{CheckSat}

-- the quantity that a reason names
abbrev pub quantity_named : SpentWord → Quantity
quantity_named word.Conflicts = Conflicts
quantity_named word.Instances = Instances
quantity_named word.Variables = Variables

-- Behind an answer of unknown the record keeps the problem, its counts stand for work on it, and what
-- the reason names is spent; behind the others it keeps no problem.
abbrev pub IsLeft : Problem → Last → Record → Type 0
IsLeft p (Sat values) r = r.kept ≡ None
IsLeft p Unsat r = r.kept ≡ None
IsLeft p (Unknown spent) r = IsSomeAnd r.kept (λ k. (k.problem ≡ p) × AreTallies r.conflicts k × IsWorked r k) × IsSpentIn (quantity_named spent) r

-- what a record counted, beside so many variables
abbrev pub counts_of : Record → (variables : ℕ) → Counts
counts_of r variables = record { conflicts = r.conflicts; instances = r.instances; variables = variables }

-- the record of a check, with these limits
pub record IsRecordOf (limits : Limits) (check : CheckSat) (r : Record) : Type 0 where
  pub limited : r.limits ≡ limits
  pub counted : check.counts ≡ counts_of r check.counts.variables
  pub left : IsLeft (problem_of check.formulas) check.answer r

-- limits with at most so many conflicts; 0 leaves them as they are
abbrev pub lesser : Limits → ℕ → Limits
lesser limits zero = limits
lesser limits (suc n) = record limits { conflicts = min (suc n) limits.conflicts }

-- a record for each of some checks, in their order, each with no more conflicts than the script leaves
-- it
abbrev pub AreRecordsOf : Limits → List CheckSat → List Record → Type 0
AreRecordsOf limits [] [] = Unit {0}
AreRecordsOf limits (check ∷ checks) (r ∷ rs) = IsRecordOf (lesser limits check.limit) check r × AreRecordsOf limits checks rs
AreRecordsOf limits _ _ = ⊥

-- a record has the limits of the words, or lesser ones by the script
abbrev pub HasLimits : Limits → Record → Type 0
HasLimits limits r = (n : ℕ) × (r.limits ≡ lesser limits n)

-- the records of the search for a core of which these places are kept: one where something was left
-- out together, and one for each trial
abbrev pub AreRecordsOfCore : Limits → List Tree → Named ℕ → (kept : List ℕ) → List Record → Type 0
AreRecordsOfCore limits formulas texts kept records = IsCore limits formulas (places_of texts) kept records
