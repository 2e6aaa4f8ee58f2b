-- The entries of a trail, and what clauses say on it.
use Rattle.std.specs.Prelude.{◌≡◌, ℕ, ◌==◌, nat_le, Bool, true, false, if◌then◌else◌, List, [], ◌∷◌, map, filter, fold, Option, Some, None}
use Rattle.qv_cnf.specs.Listing.{Numbered, clause_named}
use Rattle.qv_cnf.specs.Literal.{Literal, negated}
use Rattle.qv_cnf.specs.Refutation.{among, same_literal, open_literals, reading_of, hint_reading}
use Rattle.qv_cnf.specs.declared.readings.Reading.{Reading}
use Rattle.qv_cnf.specs.declared.readings.Reading.TheVariants.{Useless}

-- a literal that is true, the level at which it came, and the id of the clause that it came from,
-- or none where it was assumed
pub record Entry : Type 0 where
  pub lit : Literal
  pub level : ℕ
  pub reason : Option ℕ

-- the literals that are true, in the order in which they came
abbrev pub trues : List Entry → List Literal
trues entries = map (λ e. e.lit) entries

-- a literal's value, if its variable has one
abbrev pub value_of : List Entry → Literal → Option Bool
value_of entries l = if among (trues entries) l then Some true else (if among (trues entries) (negated l) then Some false else None)

-- the entry of a variable, if it has a value
abbrev pub entry_at : ℕ → List Entry → Option Entry
entry_at v [] = None
entry_at v (e ∷ es) = if e.lit.variable == v then Some e else entry_at v es

-- the clause that a true literal came from: none where it isn't true or was assumed
abbrev pub reason_of : List Entry → Literal → Option ℕ
reason_of [] l = None
reason_of (e ∷ es) l = if same_literal l e.lit then e.reason else reason_of es l

-- the level at which the last literal came, or 0
abbrev pub last_level : List Entry → ℕ
last_level entries = fold (λ _ e. e.level) 0 entries

-- the entries of levels up to this one
abbrev pub up_to : ℕ → List Entry → List Entry
up_to level entries = filter (λ e. nat_le e.level level) entries

-- what a clause says on the trail: it is false, as each of its literals is; or it is unit, as one
-- of them alone, however often it stands there, isn't false, and that isn't true; or neither
abbrev pub reading_on : List Entry → List Literal → Reading
reading_on entries lits = reading_of (trues entries) (open_literals (trues entries) lits)

-- one of its literals is true, or two that differ aren't false
abbrev pub IsAtRest : List Entry → List Literal → Type 0
IsAtRest entries lits = reading_on entries lits ≡ Useless

-- what the attached clause of an id says on the trail; where none has the id, neither
abbrev pub says : List Numbered → List Entry → ℕ → Reading
says clauses entries id = hint_reading (trues entries) (clause_named id clauses)

-- no attached clause is unit or false
abbrev pub IsSettled : List Numbered → List Entry → Type 0
IsSettled clauses entries = (id : ℕ) → says clauses entries id ≡ Useless
