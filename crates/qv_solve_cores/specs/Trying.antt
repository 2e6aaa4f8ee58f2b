-- A search for a core while it goes on. No public contract cites this.
use Rattle.std.specs.Prelude.{◌≡◌, ◌↔◌, ◌<◌, ◌^◌, ℕ, Bool, false, IfSome, Option, Some, None, List, [], ◌∷◌, ◌++◌, All, drop, length, map}
use Rattle.qv_words.specs.declared.op.Answer.TheVariants.{Unsat}
use Rattle.qv_words.specs.Tree.{Tree}
use Rattle.qv_words.specs.Truth.{AreTrue, HaveOneSort, IsAssertion}
use Rattle.qv_words.specs.Problem.{problem_of}
use Rattle.qv_store.specs.Nodes.{tree_at}
use Rattle.qv_cnf.specs.Listing.{Rises}
use Rattle.qv_cert.specs.declared.line.Section.{Section}
use Rattle.qv_cert.specs.Line.{IsCertLine}
use Rattle.qv_meter.specs.Records.{Limits, Metering, Record, records_of}
use Rattle.qv_core.specs.Searching.{Search, answered, begun, trial_of}
use Rattle.qv_core.specs.Without.{without}
use Rattle.qv_solve_write.specs.Said.{lines_said}
use Rattle.qv_solve_section.specs.Sections.{task_of, IsSectionOf}
use Rattle.qv_solve_cores.specs.declared.cores.Course.{Course}
use Rattle.qv_solve_cores.specs.Cores.{AreRecordsOfTrials, IsLeftOut, IsUnspared}
use Rattle.qv_solve_cores.specs.Marks.{AreFewer, gone, kept_but, kept_of}

-- ---- what may be asked

-- formulas that may be answered about, with fewer than 2^32 places
pub record MaySolve (formulas : List Tree) : Type 0 where
  pub assertions : All IsAssertion formulas
  pub sorts : HaveOneSort formulas
  pub few : length (problem_of formulas).prefix < 2 ^ 32

-- and have no model, and some of them have names
pub record MaySearch (trees : List Tree) (assertions named : List ℕ) : Type 0 where
  pub ids : All (λ id. id < length trees) assertions
  pub solvable : MaySolve (map (tree_at trees) assertions)
  pub no_model : AreTrue (map (tree_at trees) assertions) → ⊥
  pub rises : Rises 0 named
  pub below : All (λ n. n < length assertions) named

-- ---- trials

-- a section shows that the formulas have no model
pub record Shows (formulas : List Tree) (s : Section) : Type 0 where
  pub accepted : IsSectionOf (task_of (problem_of formulas) 1) Unsat (lines_said s.lines.items)
  pub form : All IsCertLine (lines_said s.lines.items)
  pub no_model : AreTrue formulas → ⊥

-- so a section does, or there is none and they aren't shown to have none
abbrev pub IsTried : List Tree → Option Section → Record → Type 0
IsTried formulas (Some s) r = Shows formulas s
IsTried formulas None r = IsUnspared formulas r

-- one more record was started, with these limits
pub record StartsOne (limits : Limits) (before after : Metering) (r : Record) : Type 0 where
  pub started : records_of after ≡ records_of before ++ r ∷ []
  pub limited : r.limits ≡ limits

-- with what a list came to
pub record ListIsTried (limits : Limits) (before after : Metering) (formulas : List Tree) (found : Option Section) : Type 0 where
  pub r : Record
  pub starts : StartsOne limits before after r
  pub tried : IsTried formulas found r

-- ---- where a search stands

-- what is left has no model, and a section shows it, where anything is gone
pub record Stands (formulas : List Tree) (named : List ℕ) (search : Search) (section : Option Section) : Type 0 where
  pub each : length search.kept ≡ length named
  pub no_model : AreTrue (without (gone named search.kept) formulas) → ⊥
  pub shown : IfSome section (Shows (without (gone named search.kept) formulas))
  pub none : (section ≡ None) ↔ (gone named search.kept ≡ [])

-- nothing was tried
pub record IsFresh (count : ℕ) (c : Course) : Type 0 where
  pub search : c.search ≡ begun count
  pub section : c.section ≡ None

-- of what was offered all is gone that has a name, or nothing is
pub record HasLeftOut (limits : Limits) (formulas : List Tree) (named : List ℕ) (before after : Metering) (c : Course) : Type 0 where
  pub records : List Record
  pub left_out : IsLeftOut limits named (gone named c.search.kept) records
  pub started : records_of after ≡ records_of before ++ records
  pub begun : c.search.next ≡ 0
  pub stands : Stands formulas named c.search c.section

-- an item was tried
pub record HasTried (limits : Limits) (formulas : List Tree) (named : List ℕ) (item : ℕ) (before after : Metering) (c c' : Course) : Type 0 where
  pub r : Record
  pub starts : StartsOne limits before after r
  pub unsat : Bool
  pub answered_so : c'.search ≡ answered unsat c.search
  pub unspared : unsat ≡ false → IsUnspared (without (gone named (kept_but (Some item) c.search.kept)) formulas) r
  pub stands : Stands formulas named c'.search c'.section

-- So far the items of some places were tried, from where a search stood that had tried none. Each has
-- a record; the other items are as they were.
pub record IsAsFar (limits : Limits) (formulas : List Tree) (named : List ℕ) (before after : Metering) (c c' : Course) : Type 0 where
  pub records : List Record
  pub started : records_of after ≡ records_of before ++ records
  pub fewer : AreFewer c'.search.kept c.search.kept
  pub others : drop c'.search.next c'.search.kept ≡ drop c'.search.next c.search.kept
  pub places : List ℕ
  pub parts : kept_of named c.search.kept ≡ places ++ kept_of (drop c'.search.next named) (drop c'.search.next c.search.kept)
  pub tried_each : AreRecordsOfTrials limits formulas (gone named c.search.kept) named (kept_of named c'.search.kept) places records
  pub stands : Stands formulas named c'.search c'.section

-- all were
pub record HasTriedAll (limits : Limits) (formulas : List Tree) (named : List ℕ) (before after : Metering) (c c' : Course) : Type 0 where
  pub far : IsAsFar limits formulas named before after c c'
  pub over : trial_of c'.search ≡ None
