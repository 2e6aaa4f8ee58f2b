-- The groups of a RAT line, as a checker goes along them.
use Rattle.std.specs.Prelude.{◌≡◌, ℕ, ◌+◌, ◌-◌, ◌≤◌, ◌==◌, nat_eq, ℤ, pos, negsuc, Bool, true, not, ◌||◌, if◌then◌else◌, List, ◌∷◌, ◌++◌, length, drop, Option, Some, None, Result, Ok, Err}
use Rattle.std.specs.HashSet.{HashSet, contains}
use Rattle.std.specs.List.{list_any}
use Rattle.std.specs.declared.hash.FoldHasher.{FoldHasher}
use Rattle.std.specs.declared.hash.BuildHasherDefault.{BuildHasherDefault}
use Rattle.qv_cnf.specs.Listing.{Numbered}
use Rattle.qv_cnf.specs.Literal.{Literal}
use Rattle.qv_cnf.specs.Rat.{needs_group, grouped, judged_groups}
use Rattle.qv_cnf.specs.Refutation.{among, Judgement}
use Rattle.qv_rup.specs.Judged.{IsJudged}
use Rattle.qv_rup.specs.declared.faults.StepFault.{StepFault}

-- numbers in memory
abbrev pub Ids : Type 0
Ids = HashSet ℕ (BuildHasherDefault FoldHasher)

-- the ids of the groups so far
abbrev pub AreGroups : Ids → List ℕ → Type 0
AreGroups kept groups = (id : ℕ) → contains nat_eq kept id ≡ list_any (λ g. g == id) groups

-- the open group's set, if one is open
abbrev pub group_of : Bool → List Literal → Option (List Literal)
group_of is_open set = if is_open then Some set else None

-- the ids with that of the group that a hint opens
abbrev pub with_group : ℤ → List ℕ → List ℕ
with_group (pos id) groups = groups
with_group (negsuc n) groups = (n + 1) ∷ groups

-- the literals that came first, of which so many are kept for each group
abbrev pub kept_of : ℕ → List Literal → List Literal
kept_of size set = drop (length set - size) set

-- the set has come to one behind that which is kept
abbrev pub IsBehind : List Literal → List Literal → Type 0
IsBehind kept set = (more : List Literal) × (set ≡ more ++ kept)

-- the clause, if there is one that holds the literal
abbrev pub holding : Literal → Option (List Literal) → Option (List Literal)
holding wanted None = None
holding wanted (Some lits) = if among lits wanted then Some lits else None

-- whether the clause of this id, if it is live, needs no group or has one
abbrev pub has_group : Literal → List ℕ → ℕ → Option (List Literal) → Bool
has_group pivot groups id None = true
has_group pivot groups id (Some lits) = not (needs_group pivot lits) || list_any (λ g. g == id) groups

-- One hint of a line with groups: the judgement by this hint and those behind it leads to that by
-- those behind it alone, with what the open group and the ids have come to.
abbrev pub JudgesHint : (live : List Numbered) (pivot : Literal) (size : ℕ) (hint : ℤ) (position : ℕ) (was is_open : Bool) (old new : List Literal) → (Judgement → Judgement → Type 0) → Type 0
JudgesHint live pivot size hint position was is_open old new leads =
    (groups : List ℕ) (hints : List ℤ) →
    leads (judged_groups live pivot (kept_of size old) (group_of was old) groups (hint ∷ hints) position)
    (judged_groups live pivot (kept_of size old) (group_of is_open new) (with_group hint groups) hints (position + 1))

-- what is kept stays, and the ids are those of the groups
pub record KeepsGroups (hint : ℤ) (size : ℕ) (old new : List Literal) (ids ids' : Ids) : Type 0 where
  pub kept : kept_of size new ≡ kept_of size old
  pub enough : size ≤ length new
  pub are : (groups : List ℕ) → AreGroups ids groups → AreGroups ids' (with_group hint groups)

-- behind the last hint: whether a group is open, and which there were
pub record IsGrouped (live : List Numbered) (pivot : Literal) (set : List Literal) (ids : Ids) (is_open : Bool) (judgement : Judgement) : Type 0 where
  pub groups : List ℕ
  pub are : AreGroups ids groups
  pub judged : judgement ≡ grouped pivot (group_of is_open set) groups live

-- so it is, or a hint fails
abbrev pub EndsGrouped : List Numbered → Literal → List Literal → Ids → Bool → Result (Unit {0}) StepFault → Judgement → Type 0
EndsGrouped live pivot set ids is_open (Ok done) judgement = IsGrouped live pivot set ids is_open judgement
EndsGrouped live pivot set ids is_open (Err fault) judgement = IsJudged (Err fault) judgement
