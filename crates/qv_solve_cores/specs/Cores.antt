-- A core of formulas that have no model, and the records of the search for it.
use Rattle.std.specs.Prelude.{◌≡◌, ◌≢◌, ◌≤◌, ◌⊎◌, ◌↔◌, ℕ, IsTrue, IfSome, IsSomeAnd, Option, None, List, [], ◌∷◌, ◌++◌, All, length}
use Rattle.qv_words.specs.declared.op.Answer.TheVariants.{Unsat}
use Rattle.qv_words.specs.Tree.{Tree}
use Rattle.qv_words.specs.Truth.{AreTrue}
use Rattle.qv_words.specs.Problem.{Problem, problem_of}
use Rattle.qv_cnf.specs.Listing.{Rises}
use Rattle.qv_cert.specs.declared.line.Section.{Section}
use Rattle.qv_cert.specs.Line.{IsCertLine}
use Rattle.qv_meter.specs.Records.{AreTallies, IsWorked, IsSpent, Limits, Metering, Record, records_of}
use Rattle.qv_core.specs.Without.{is_among, without, dropped, trial_list, tried}
use Rattle.qv_solve_write.specs.Said.{lines_said}
use Rattle.qv_solve_section.specs.Sections.{task_of, IsSectionOf}

-- a record that was spent on a problem, which it keeps; its counts stand for work on it
abbrev pub IsSpentOn : Problem → Record → Type 0
IsSpentOn p r = IsSomeAnd r.kept (λ k. (k.problem ≡ p) × AreTallies r.conflicts k × IsWorked r k) × IsSpent r

-- a formula isn't spared: without it what is left is true, or the record of its trial is spent on that
abbrev pub IsUnspared : List Tree → Record → Type 0
IsUnspared left r = AreTrue left ⊎ IsSpentOn (problem_of left) r

-- the record of the trial of the formula at a place, which isn't spared where it is kept
pub record IsRecordOfTrial (limits : Limits) (formulas : List Tree) (together named kept : List ℕ) (place : ℕ) (r : Record) : Type 0 where
  pub limited : r.limits ≡ limits
  pub unspared : IsTrue (is_among kept place) → IsUnspared (trial_list together named kept place formulas) r

-- a record for each of some trials, in their order
abbrev pub AreRecordsOfTrials : Limits → List Tree → (together named kept places : List ℕ) → List Record → Type 0
AreRecordsOfTrials limits formulas together named kept [] [] = Unit {0}
AreRecordsOfTrials limits formulas together named kept (place ∷ places) (r ∷ rs) =
    IsRecordOfTrial limits formulas together named kept place r × AreRecordsOfTrials limits formulas together named kept places rs
AreRecordsOfTrials limits formulas together named kept _ _ = ⊥

-- some of the places that have names, in their order
pub record AreSomeOf (named places : List ℕ) : Type 0 where
  pub rises : Rises 0 places
  pub among : All (λ n. IsTrue (is_among named n)) places

-- what is left out together before all trials, by an answer that has a record, with these limits
pub record IsLeftOut (limits : Limits) (named together : List ℕ) (records : List Record) : Type 0 where
  pub some : AreSomeOf named together
  pub few : length records ≤ 1
  pub limited : All (λ (r : Record). r.limits ≡ limits) records
  pub one : together ≢ [] → length records ≡ 1

-- Of the formulas at the places that have names these are kept: with those that have none they have no
-- model, and each was tried. First some may be left out together.
pub record IsCore (limits : Limits) (formulas : List Tree) (named kept : List ℕ) (records : List Record) : Type 0 where
  pub some : AreSomeOf named kept
  pub rest : AreTrue (without (dropped named kept) formulas) → ⊥
  pub together : List ℕ
  pub first : List Record
  pub left_out : IsLeftOut limits named together first
  pub apart : All (λ n. IsTrue (is_among together n) → ⊥) kept
  pub trials : List Record
  pub tried_each : AreRecordsOfTrials limits formulas together named kept (tried together named) trials
  pub records_are : records ≡ first ++ trials

-- a section for what is left, as that of check 1; there is none exactly where all are kept
pub record IsSectionLeft (formulas : List Tree) (named kept : List ℕ) (section : Option Section) : Type 0 where
  pub none : (section ≡ None) ↔ (kept ≡ named)
  pub form : IfSome section (λ s. All IsCertLine (lines_said s.lines.items))
  pub accepted : IfSome section (λ s. IsSectionOf (task_of (problem_of (without (dropped named kept) formulas)) 1) Unsat (lines_said s.lines.items))

-- further records were started, with these limits; those before are as they were
pub record StartsSome (limits : Limits) (before after : Metering) : Type 0 where
  pub more : List Record
  pub started : records_of after ≡ records_of before ++ more
  pub limited : All (λ (r : Record). r.limits ≡ limits) more
