-- A walk along the list of a literal that became false.
use Rattle.std.specs.Prelude.{◌≡◌, ◌≢◌, ℕ, ◌+◌, ◌<◌, ◌≤◌, ◌⊎◌, Bool, true, false, List, [], length, Option, Some, None, slice_get}
use Rattle.qv_cnf.specs.Literal.{Literal, index_of, negated}
use Rattle.qv_cnf.specs.Refutation.{among}
use Rattle.qv_cnf.specs.declared.readings.Reading.TheVariants.{Falsified}
use Rattle.qv_watch.specs.Attaching.{Stored, attached_in, lits_in}
use Rattle.qv_watch.specs.Entries.{Entry, last_level, says, value_of}
use Rattle.qv_watch.specs.Watching.{HasTrue, IsListed, IsMinded, IsWatching, IsWatchingAt, lists_in as lists_in_all}
use Rattle.qv_watch.specs.declared.propagation.Beside.{Beside}
use Rattle.qv_watch.specs.declared.propagation.Beside.TheVariants.{Open, Rest, Detached}
use Rattle.qv_watch.specs.declared.propagation.Propagated.{Propagated}
use Rattle.qv_watch.specs.declared.propagation.Propagated.TheVariants.{Quiet, Conflict as ConflictOf}
use Rattle.qv_watch.specs.declared.propagation.Stop.{Stop}
use Rattle.qv_watch.specs.declared.propagation.Stop.TheVariants.{Conflict, Lost}
use Rattle.qv_watch.specs.declared.propagation.Visited.{Visited}
use Rattle.qv_watch.specs.declared.propagation.Visited.TheVariants.{Kept, Gone, Stopped}
use Rattle.qv_watch.specs.declared.watches.Pair.{Pair}
use Rattle.qv_watch.specs.declared.watches.Watch.{Watch}
use Rattle.qv_watch.specs.declared.watches.Watches.{Watches}

-- the clause at a place is found from the list that is out; where that was visited, one of its
-- literals is true
pub record IsHere (entries : List Entry) (list : List Watch) (i : ℕ) (k : ℕ) (lits : List Literal) : Type 0 where
  pub j : ℕ
  pub watch : Watch
  pub stands : slice_get list j ≡ Some watch
  pub place : watch.place ≡ k
  pub other : among lits watch.other ≡ true
  pub visited : j < i → HasTrue (last_level entries) entries lits

-- a literal's list is the one that is out, or stands at its place
pub record IsListedOr (lists : List (List Watch)) (entries : List Entry) (list : List Watch) (i : ℕ) (out : Literal) (k : ℕ) (lits : List Literal) (w : Literal) : Type 0 where
  pub apart : w ≢ out → IsListed lists k lits w
  pub here : w ≡ out → IsHere entries list i k lits

-- the first `i` of the list of the literal that became false by the entry at the head were visited
pub record IsVisitingAt (clauses : List Stored) (entries : List Entry) (queue : List ℕ) (head : ℕ) (pairs : List Pair) (lists : List (List Watch)) (list : List Watch) (i : ℕ) (out : Literal) : Type 0 where
  pub each : (k : ℕ) (lits : List Literal) → lits_in (slice_get clauses k) ≡ Some lits → IsMinded queue head entries pairs k lits (IsListedOr lists entries list i out k lits)
  pub entry : Entry
  pub follows : slice_get entries head ≡ Some entry
  pub denies : entry.lit ≡ negated out
  pub late : (j : ℕ) (e : Entry) → head ≤ j → slice_get entries j ≡ Some e → e.level ≡ last_level entries
  pub place : index_of out < length lists

abbrev pub IsVisiting : List Stored → List Entry → Watches → List Watch → ℕ → Literal → Type 0
IsVisiting clauses entries w list i out = IsVisitingAt clauses entries w.queue.items w.head w.pairs.items (lists_in_all w.lists.items) list i out

-- the literals that are looked at first are true, of the watches from one place on up to another
abbrev pub AreTrue : List Entry → List Watch → ℕ → ℕ → Type 0
AreTrue entries list i n = (j : ℕ) (x : Watch) → i ≤ j → j < n → slice_get list j ≡ Some x → value_of entries x.other ≡ Some true

-- what became of one watch
abbrev pub IsVisited : List Stored → List Entry → Watches → List Watch → ℕ → ℕ → Literal → Visited → Type 0
IsVisited clauses entries w list n i out Kept = IsVisiting clauses entries w list (i + 1) out × (length list ≡ n)
IsVisited clauses entries w list n i out Gone = IsVisiting clauses entries w list i out × (length list + 1 ≡ n)
IsVisited clauses entries w list n i out (Stopped (Conflict id)) = IsVisiting clauses entries w list i out × (says (attached_in clauses) entries id ≡ Falsified)
IsVisited clauses entries w list n i out (Stopped Lost) = Unit {0}

-- a walk went on to the end, or a clause was false
abbrev pub OnStop : Option Stop → Type 0 → (ℕ → Type 0) → Type 0
OnStop None done conflict = done
OnStop (Some (Conflict id)) done conflict = conflict id
OnStop (Some Lost) done conflict = Unit {0}

-- each clause is minded, and the literal at the head was followed too
abbrev pub IsFollowed : List Stored → List Entry → Watches → Type 0
IsFollowed clauses entries w = IsWatchingAt clauses entries w.queue.items (w.head + 1) w.pairs.items (lists_in_all w.lists.items)

-- each clause is minded, and the one of the id is false
abbrev pub IsStopped : List Stored → List Entry → Watches → ℕ → Type 0
IsStopped clauses entries w id = IsWatching clauses entries w × (says (attached_in clauses) entries id ≡ Falsified)

-- nothing is left to do
pub record IsDone (clauses : List Stored) (entries : List Entry) (w : Watches) : Type 0 where
  pub watching : IsWatching clauses entries w
  pub none : w.queue.items ≡ []
  pub all : w.head ≡ length entries

-- a walk along the list came to its end, or a clause was false
abbrev pub OnWalk : Option Stop → List Stored → List Entry → Watches → List Watch → Literal → Type 0
OnWalk None clauses entries w list out = IsVisiting clauses entries w list (length list) out
OnWalk (Some (Conflict id)) clauses entries w list out = (i : ℕ) × IsVisiting clauses entries w list i out × (says (attached_in clauses) entries id ≡ Falsified)
OnWalk (Some Lost) clauses entries w list out = Unit {0}

-- each clause is minded, and where no clause is unit or false all literals were followed
abbrev pub IsSound : List Stored → List Entry → Watches → Propagated → Type 0
IsSound clauses entries w Quiet = IsWatching clauses entries w × (w.head ≡ length entries)
IsSound clauses entries w (ConflictOf id) = IsWatching clauses entries w

-- the literals that stand with the watches at a place are of the clause
abbrev pub AreKnown : List Pair → ℕ → List Literal → Type 0
AreKnown pairs k lits = (p : Pair) → slice_get pairs k ≡ Some p → (among lits p.third ≡ true) × (among lits p.fourth ≡ true)

-- a literal beside this one that isn't false; or each that isn't this one is false, and it may
-- have this one
abbrev pub IsBesideOf : List Entry → List Literal → Literal → Beside → Type 0
IsBesideOf entries lits other (Open l) = (among lits l ≡ true) × (l ≢ other) × (value_of entries l ≢ Some false)
IsBesideOf entries lits other (Rest has) = ((l : Literal) → among lits l ≡ true → (l ≡ other) ⊎ (value_of entries l ≡ Some false)) × (has ≡ true → among lits other ≡ true) × (has ≡ false → (l : Literal) → among lits l ≡ true → value_of entries l ≡ Some false)
IsBesideOf entries lits other Detached = ⊥

-- one of the literals that stand with the watches of the clause at a place, other than this one,
-- that isn't false
pub record IsKnownBeside (pairs : List Pair) (entries : List Entry) (k : ℕ) (other l : Literal) : Type 0 where
  pub pair : Pair
  pub at : slice_get pairs k ≡ Some pair
  pub stands : (l ≡ pair.third) ⊎ (l ≡ pair.fourth)
  pub apart : l ≢ other
  pub unset : value_of entries l ≢ Some false

-- a literal that isn't this one and isn't false; a clause with those that stand with the watches at
-- the place has it
pub record IsOpenAt (clauses : List Stored) (pairs : List Pair) (entries : List Entry) (k : ℕ) (other l : Literal) : Type 0 where
  pub own : (lits : List Literal) → lits_in (slice_get clauses k) ≡ Some lits → AreKnown pairs k lits → among lits l ≡ true
  pub apart : l ≢ other
  pub unset : value_of entries l ≢ Some false

-- the clause at a place has no literal but this one that isn't false
pub record IsRestAt (clauses : List Stored) (entries : List Entry) (k : ℕ) (other : Literal) (has : Bool) : Type 0 where
  pub lits : List Literal
  pub at : lits_in (slice_get clauses k) ≡ Some lits
  pub rest : IsBesideOf entries lits other (Rest has)

-- what the clause at a place has beside a literal, if one is attached there
abbrev pub IsBesideAt : List Stored → List Pair → List Entry → ℕ → Literal → Beside → Type 0
IsBesideAt clauses pairs entries k other (Open l) = IsOpenAt clauses pairs entries k other l
IsBesideAt clauses pairs entries k other (Rest has) = IsRestAt clauses entries k other has
IsBesideAt clauses pairs entries k other Detached = lits_in (slice_get clauses k) ≡ None
