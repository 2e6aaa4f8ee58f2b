-- What is learnt from a conflict.
use Rattle.std.specs.Prelude.{◌≡◌, ◌≢◌, ℕ, ◌+◌, ◌==◌, ◌<◌, ◌≤◌, ◌⊎◌, true, false, if◌then◌else◌, List, [], ◌∷◌, max, Option, Some, None, All, Contains, IsSome}
use Rattle.qv_cnf.specs.Listing.{Numbered, clause_named}
use Rattle.qv_cnf.specs.Literal.{Literal, negated}
use Rattle.qv_cnf.specs.Refutation.{among}
use Rattle.qv_watch.specs.Entries.{Entry, entry_at, reason_of, value_of}
use Rattle.qv_watch.specs.TrailState.{TrailState}

abbrev pub level_in : Option Entry → ℕ
level_in None = 0
level_in (Some e) = e.level

-- the level at which a literal's variable got its value, or 0 where it has none
abbrev pub level_at : List Entry → Literal → ℕ
level_at entries l = level_in (entry_at l.variable entries)

-- the greatest level of the literals, or 0 where there are none
abbrev pub greatest_level : List Entry → List Literal → ℕ
greatest_level entries [] = 0
greatest_level entries (l ∷ ls) = max (level_at entries l) (greatest_level entries ls)

-- the first literal alone is of the present level, and the greatest level of the others is this one
pub record Asserts (t : TrailState) (lits : List Literal) (level : ℕ) : Type 0 where
  pub first : Literal
  pub others : List Literal
  pub is : lits ≡ first ∷ others
  pub present : level_at t.entries first ≡ t.level
  pub below : All (λ l. level_at t.entries l < t.level) others
  pub greatest : level ≡ greatest_level t.entries others

-- the literal stands in the attached clause of that id
abbrev pub StandsIn : List Numbered → ℕ → Literal → Type 0
StandsIn clauses id l = (lits : List Literal) × (clause_named id clauses ≡ Some lits) × (among lits l ≡ true)

-- the clause of that id is the reason of a literal of the present level
abbrev pub IsPresentReason : TrailState → ℕ → Type 0
IsPresentReason t id = (l : Literal) × (reason_of t.entries l ≡ Some id) × (level_at t.entries l ≡ t.level)

-- a literal that may stand in a learnt clause beside the one of the present level: its variable got
-- its value below that level and above level 0, and it stands in the conflict's clause, or in a
-- hinted one that is the reason of a literal of the present level
pub record MayStand (t : TrailState) (conflict : ℕ) (hints : List ℕ) (l : Literal) : Type 0 where
  pub above : 1 ≤ level_at t.entries l
  pub below : level_at t.entries l < t.level
  pub stands : StandsIn t.clauses conflict l ⊎ ((id : ℕ) × Contains hints id × IsPresentReason t id × StandsIn t.clauses id l)

-- the literal is false since level 0
abbrev pub IsFalseAtZero : List Entry → Literal → Type 0
IsFalseAtZero entries l = (value_of entries l ≡ Some false) × (level_at entries l ≡ 0)

-- one of these literals that may be left out: its negation has a reason, each other literal of
-- which is one of these literals or is false since level 0
pub record MayBeLeftOut (t : TrailState) (conflict : ℕ) (hints : List ℕ) (l : Literal) : Type 0 where
  pub reason : ℕ
  pub lits : List Literal
  pub came : reason_of t.entries (negated l) ≡ Some reason
  pub is : clause_named reason t.clauses ≡ Some lits
  pub others : All (λ m. m ≢ negated l → MayStand t conflict hints m ⊎ IsFalseAtZero t.entries m) lits

-- how many literals came before the variable got its value
abbrev pub position_of : List Entry → ℕ → ℕ
position_of [] v = 0
position_of (e ∷ es) v = if e.lit.variable == v then 0 else position_of es v + 1

-- a set of variables that the conflict comes of at the present level: it has those of the
-- conflict's clause, and with each but this one's those of its reason; each but this one has a
-- reason
pub record IsClosedBut (t : TrailState) (conflict : ℕ) (u : ℕ) (set : List ℕ) : Type 0 where
  pub of_conflict : (l : Literal) → StandsIn t.clauses conflict l → level_at t.entries l ≡ t.level → Contains set l.variable
  pub has_reason : (l : Literal) → value_of t.entries l ≡ Some true → Contains set l.variable → l.variable ≢ u → IsSome (reason_of t.entries l)
  pub of_reason : (l m : Literal) (id : ℕ) → value_of t.entries l ≡ Some true → Contains set l.variable → l.variable ≢ u → reason_of t.entries l ≡ Some id → StandsIn t.clauses id m → level_at t.entries m ≡ t.level → Contains set m.variable

-- a unique implication point: a true literal of the present level, without which the conflict
-- doesn't come of the level's assumption
pub record IsPoint (t : TrailState) (conflict : ℕ) (u : Literal) : Type 0 where
  pub is_true : value_of t.entries u ≡ Some true
  pub present : level_at t.entries u ≡ t.level
  pub set : List ℕ
  pub closed : IsClosedBut t conflict u.variable set

-- the first one, seen from the conflict: each other one came before it
pub record IsFirstPoint (t : TrailState) (conflict : ℕ) (u : Literal) : Type 0 where
  pub point : IsPoint t conflict u
  pub last : (w : Literal) → IsPoint t conflict w → position_of t.entries w.variable ≤ position_of t.entries u.variable

-- the clause begins with the negation of the first unique implication point
pub record LearnsPoint (t : TrailState) (conflict : ℕ) (lits : List Literal) : Type 0 where
  pub point : Literal
  pub others : List Literal
  pub is : lits ≡ negated point ∷ others
  pub first : IsFirstPoint t conflict point

-- the variables that were met have values, and are all those of the hinted clauses
pub record AreMet (t : TrailState) (hints : List ℕ) (met : List ℕ) : Type 0 where
  pub valued : All (λ v. IsSome (entry_at v t.entries)) met
  pub whole : (id : ℕ) (l : Literal) → Contains hints id → StandsIn t.clauses id l → Contains met l.variable
