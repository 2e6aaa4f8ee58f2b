-- Where the search for the first unique implication point stands.
use Rattle.std.specs.Prelude.{◌≡◌, ◌≢◌, ℕ, ◌+◌, ◌<◌, ◌≤◌, ◌⊎◌, true, not, List, [], ◌∷◌, ◌++◌, length, filter, Some, All, Contains, IsSome}
use Rattle.qv_cnf.specs.Listing.{clause_named}
use Rattle.qv_cnf.specs.Literal.{Literal, negated}
use Rattle.qv_cnf.specs.Refutation.{among}
use Rattle.qv_learn.specs.Learning.{level_at, position_of, IsClosedBut, IsFirstPoint, IsPoint, StandsIn}
use Rattle.qv_learn.specs.Marking.{marked, MarksOne}
use Rattle.qv_learn.specs.declared.point.Frontier.{Frontier}
use Rattle.qv_watch.specs.Entries.{Entry, reason_of, value_of}
use Rattle.qv_watch.specs.TrailState.{TrailState}

-- how many entries' variables aren't marked
abbrev pub unmarked : List ℕ → List Entry → ℕ
unmarked marks entries = length (filter (λ e. not (marked marks e.lit.variable)) entries)

-- how many literals may still be popped
abbrev pub left_in : TrailState → Frontier → ℕ
left_in t f = unmarked f.marks t.entries + length f.pending.items

-- the literal got its value above level 0 and below the present level
pub record IsBetween (t : TrailState) (l : Literal) : Type 0 where
  pub above : 1 ≤ level_at t.entries l
  pub below : level_at t.entries l < t.level

-- a true literal of the present level
pub record IsPresent (t : TrailState) (l : Literal) : Type 0 where
  pub is_true : value_of t.entries l ≡ Some true
  pub level : level_at t.entries l ≡ t.level

-- a marked one that came after the lowest
pub record IsPending (t : TrailState) (marks : List ℕ) (lowest : Literal) (l : Literal) : Type 0 where
  pub present : IsPresent t l
  pub marked : marked marks l.variable ≡ true
  pub behind : position_of t.entries lowest.variable < position_of t.entries l.variable

-- the lowest is marked, and each pending one came after it
pub record IsFrontier (t : TrailState) (f : Frontier) : Type 0 where
  pub present : IsPresent t f.lowest
  pub marked : marked f.marks f.lowest.variable ≡ true
  pub pending : All (IsPending t f.marks f.lowest) f.pending.items

-- only this literal was reached
pub record IsAlone (l : Literal) (f : Frontier) : Type 0 where
  pub marks : MarksOne [] l.variable f.marks
  pub between : f.between ≡ []
  pub pending : f.pending.items ≡ []
  pub lowest : f.lowest ≡ l

-- the literal isn't resolved yet
abbrev pub Waits : Frontier → Literal → Type 0
Waits f l = (l ≡ f.lowest) ⊎ Contains f.pending.items l

-- the literal is the lowest where it came before that, and pending where it didn't
pub record Places (t : TrailState) (l : Literal) (old new : Frontier) : Type 0 where
  pub marks : new.marks ≡ old.marks
  pub between : new.between ≡ old.between
  pub below : position_of t.entries l.variable < position_of t.entries old.lowest.variable → (new.lowest ≡ l) × (new.pending.items ≡ old.pending.items ++ old.lowest ∷ [])
  pub behind : position_of t.entries old.lowest.variable ≤ position_of t.entries l.variable → (new.lowest ≡ old.lowest) × (new.pending.items ≡ old.pending.items ++ l ∷ [])

-- the literal has a value, and at the present level its variable is marked or it is false
pub record MayReach (t : TrailState) (marks : List ℕ) (l : Literal) : Type 0 where
  pub has_value : IsSome (value_of t.entries l)
  pub reached : level_at t.entries l ≡ t.level → (marked marks l.variable ≡ true) ⊎ (value_of t.entries (negated l) ≡ Some true)

-- the variables of a clause's literals of levels between were noted, and no other
pub record Notes (t : TrailState) (lits : List Literal) (old new : List ℕ) : Type 0 where
  pub kept : (v : ℕ) → marked old v ≡ true → marked new v ≡ true
  pub whole : (l : Literal) → among lits l ≡ true → IsBetween t l → marked new l.variable ≡ true
  pub only : (v : ℕ) → marked new v ≡ true → (marked old v ≡ true) ⊎ ((l : Literal) × (among lits l ≡ true) × IsBetween t l × (l.variable ≡ v))

-- the variables of a clause's literals of the present level were marked, and no other; the new ones
-- wait
pub record Reaches (t : TrailState) (lits : List Literal) (old new : Frontier) : Type 0 where
  pub frontier : IsFrontier t new
  pub kept : (v : ℕ) → marked old.marks v ≡ true → marked new.marks v ≡ true
  pub whole : (l : Literal) → among lits l ≡ true → level_at t.entries l ≡ t.level → marked new.marks l.variable ≡ true
  pub only : (v : ℕ) → marked new.marks v ≡ true → (marked old.marks v ≡ true) ⊎ ((l : Literal) × (among lits l ≡ true) × (level_at t.entries l ≡ t.level) × (l.variable ≡ v))
  pub still : (l : Literal) → Waits old l → Waits new l
  pub fresh : (l : Literal) → value_of t.entries l ≡ Some true → marked new.marks l.variable ≡ true → (marked old.marks l.variable ≡ true) ⊎ Waits new l
  pub less : left_in t new ≤ left_in t old
  pub lower : position_of t.entries new.lowest.variable ≤ position_of t.entries old.lowest.variable
  pub notes : Notes t lits old.between new.between

-- the literal's reason was resolved with
pub record Resolves (t : TrailState) (l : Literal) (old new : Frontier) : Type 0 where
  pub reason : ℕ
  pub lits : List Literal
  pub came : reason_of t.entries l ≡ Some reason
  pub named : clause_named reason t.clauses ≡ Some lits
  pub reaches : Reaches t lits old new

-- the literal has a reason, whose variables of the present level are marked, and those of levels
-- between noted
pub record IsResolved (t : TrailState) (marks between : List ℕ) (l : Literal) : Type 0 where
  pub reason : ℕ
  pub came : reason_of t.entries l ≡ Some reason
  pub others : (m : Literal) → StandsIn t.clauses reason m → level_at t.entries m ≡ t.level → marked marks m.variable ≡ true
  pub noted : (m : Literal) → StandsIn t.clauses reason m → IsBetween t m → marked between m.variable ≡ true

-- the variable is in the set of each unique implication point
abbrev pub IsNeeded : TrailState → ℕ → ℕ → Type 0
IsNeeded t conflict v = (w : Literal) (p : IsPoint t conflict w) → Contains p.set v

-- a literal that the conflict's clause has, or the reason of a marked literal of the present level
-- that came behind the lowest
abbrev pub IsFrom : TrailState → ℕ → List ℕ → Literal → Literal → Type 0
IsFrom t conflict marks lowest l = StandsIn t.clauses conflict l ⊎ ((x : Literal) × (id : ℕ) × IsPending t marks lowest x × (reason_of t.entries x ≡ Some id) × StandsIn t.clauses id l)

-- the variable of such a literal of a level between
pub record IsNoted (t : TrailState) (conflict : ℕ) (marks : List ℕ) (lowest : Literal) (v : ℕ) : Type 0 where
  pub literal : Literal
  pub is : literal.variable ≡ v
  pub between : IsBetween t literal
  pub from : IsFrom t conflict marks lowest literal

-- the conflict's variables of the present level are marked, and those of levels between noted; each
-- marked literal waits or was resolved, and is needed
pub record IsPointing (t : TrailState) (conflict : ℕ) (f : Frontier) : Type 0 where
  pub frontier : IsFrontier t f
  pub of_conflict : (l : Literal) → StandsIn t.clauses conflict l → level_at t.entries l ≡ t.level → marked f.marks l.variable ≡ true
  pub resolved : (l : Literal) → value_of t.entries l ≡ Some true → marked f.marks l.variable ≡ true → Waits f l ⊎ IsResolved t f.marks f.between l
  pub needed : (v : ℕ) → marked f.marks v ≡ true → IsNeeded t conflict v
  pub of_conflict_between : (l : Literal) → StandsIn t.clauses conflict l → IsBetween t l → marked f.between l.variable ≡ true
  pub noted : (v : ℕ) → marked f.between v ≡ true → IsNoted t conflict f.marks f.lowest v

-- what the search for the first unique implication point found: a set that has it, is closed but
-- for it and is needed by each point, and just the variables of levels between that the conflict's
-- clause and the reasons of the set have
pub record IsScouted (t : TrailState) (conflict : ℕ) (u : Literal) (set between : List ℕ) : Type 0 where
  pub point : IsFirstPoint t conflict u
  pub own : Contains set u.variable
  pub closed : IsClosedBut t conflict u.variable set
  pub needed : (v : ℕ) → Contains set v → IsNeeded t conflict v
  pub of_conflict : (l : Literal) → StandsIn t.clauses conflict l → IsBetween t l → marked between l.variable ≡ true
  pub of_reason : (l m : Literal) (id : ℕ) → value_of t.entries l ≡ Some true → Contains set l.variable → l.variable ≢ u.variable → reason_of t.entries l ≡ Some id → StandsIn t.clauses id m → IsBetween t m → marked between m.variable ≡ true
  pub noted : (v : ℕ) → marked between v ≡ true → IsNoted t conflict set u v

-- the point, alone in the list
pub record HasPoint (t : TrailState) (conflict : ℕ) (points : List Literal) (set between : List ℕ) : Type 0 where
  pub point : Literal
  pub is : points ≡ point ∷ []
  pub scouted : IsScouted t conflict point set between
