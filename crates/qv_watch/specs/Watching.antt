-- The watches of clauses.
use Rattle.std.specs.Prelude.{◌≡◌, ◌≢◌, ℕ, ◌+◌, ◌<◌, ◌≤◌, true, List, [], ◌∷◌, ◌++◌, map, length, Some, slice_get, slice_index_or, slice_set, vec_capacity, ◌⊎◌}
use Rattle.qv_cnf.specs.Literal.{Literal, index_of, negated}
use Rattle.qv_cnf.specs.Refutation.{among}
use Rattle.qv_watch.specs.Attaching.{Stored, lits_in}
use Rattle.qv_watch.specs.Entries.{Entry, last_level}
use Rattle.qv_watch.specs.declared.watches.Pair.{Pair}
use Rattle.qv_watch.specs.declared.watches.Watch.{Watch}
use Rattle.qv_watch.specs.declared.watches.WatchList.{WatchList}
use Rattle.qv_watch.specs.declared.watches.Watches.{Watches}

-- the lists of the literals, at their places
abbrev pub lists_in : List WatchList → List (List Watch)
lists_in lists = map (λ l. l.watches.items) lists

-- a literal of the clause is true, and came at this level or before it
pub record HasTrue (level : ℕ) (entries : List Entry) (lits : List Literal) : Type 0 where
  pub entry : Entry
  pub place : ℕ
  pub at : slice_get entries place ≡ Some entry
  pub low : entry.level ≤ level
  pub own : among lits entry.lit ≡ true

-- where the literal is false since one of the first entries, the clause has a true literal that
-- came no later, by level
abbrev pub IsCovered : ℕ → List Entry → List Literal → Literal → Type 0
IsCovered head entries lits w = (i : ℕ) (e : Entry) → i < head → slice_get entries i ≡ Some e → e.lit ≡ negated w → HasTrue e.level entries lits

-- the clause at a place is found from the literal's list
pub record IsListed (lists : List (List Watch)) (k : ℕ) (lits : List Literal) (w : Literal) : Type 0 where
  pub list : List Watch
  pub j : ℕ
  pub watch : Watch
  pub of_literal : slice_get lists (index_of w) ≡ Some list
  pub stands : slice_get list j ≡ Some watch
  pub place : watch.place ≡ k
  pub other : among lits watch.other ≡ true

-- a literal that a clause watches
pub record IsWatch (head : ℕ) (entries : List Entry) (lits : List Literal) (Listed : Literal → Type 0) (w : Literal) : Type 0 where
  pub own : among lits w ≡ true
  pub covered : IsCovered head entries lits w
  pub listed : Listed w

-- the clause at a place watches two literals, and the others that stand with them are of it too
pub record IsWatched (head : ℕ) (entries : List Entry) (pairs : List Pair) (k : ℕ) (lits : List Literal) (Listed : Literal → Type 0) : Type 0 where
  pub pair : Pair
  pub at : slice_get pairs k ≡ Some pair
  pub apart : pair.first ≢ pair.second
  pub first : IsWatch head entries lits Listed pair.first
  pub second : IsWatch head entries lits Listed pair.second
  pub third : among lits pair.third ≡ true
  pub fourth : among lits pair.fourth ≡ true

-- the clause at a place is new, or one of its literals is true since level 0, or it watches two
abbrev pub IsMinded : List ℕ → ℕ → List Entry → List Pair → ℕ → List Literal → (Literal → Type 0) → Type 0
IsMinded queue head entries pairs k lits Listed = ((j : ℕ) × (slice_get queue j ≡ Some k)) ⊎ (HasTrue 0 entries lits ⊎ IsWatched head entries pairs k lits Listed)

-- each clause is minded, and the literals that weren't followed came at the present level
pub record IsWatchingAt (clauses : List Stored) (entries : List Entry) (queue : List ℕ) (head : ℕ) (pairs : List Pair) (lists : List (List Watch)) : Type 0 where
  pub each : (k : ℕ) (lits : List Literal) → lits_in (slice_get clauses k) ≡ Some lits → IsMinded queue head entries pairs k lits (IsListed lists k lits)
  pub within : head ≤ length entries
  pub late : (i : ℕ) (e : Entry) → head ≤ i → slice_get entries i ≡ Some e → e.level ≡ last_level entries

abbrev pub IsWatching : List Stored → List Entry → Watches → Type 0
IsWatching clauses entries w = IsWatchingAt clauses entries w.queue.items w.head w.pairs.items (lists_in w.lists.items)

-- the lists keep what they have, and there may be more of them
abbrev pub StaysIn : List (List Watch) → List (List Watch) → Type 0
StaysIn old new = (n : ℕ) (list : List Watch) → slice_get old n ≡ Some list → slice_get new n ≡ Some list

-- no list changes but in its memory
abbrev pub StaysBut : List WatchList → List WatchList → Type 0
StaysBut old new = lists_in new ≡ lists_in old

-- no place counts more than so many clauses beyond those that it counted
abbrev pub CountAtMost : ℕ → List ℕ → List ℕ → Type 0
CountAtMost more old new = (k : ℕ) → slice_index_or new k 0 ≤ slice_index_or old k 0 + more

-- the list at a place has no room for a watch of each clause that was counted there
pub record IsShort (lists : List WatchList) (counts : List ℕ) (at : ℕ) : Type 0 where
  pub list : WatchList
  pub stands : slice_get lists at ≡ Some list
  pub short : vec_capacity list.watches < slice_index_or counts at 0

-- there may be more lists, and more memory
pub record Grows (old new : Watches) : Type 0 where
  pub lists : StaysIn (lists_in old.lists.items) (lists_in new.lists.items)
  pub pairs : new.pairs.items ≡ old.pairs.items
  pub queue : new.queue.items ≡ old.queue.items
  pub head : new.head ≡ old.head
  pub lost : new.lost ≡ old.lost

-- a place is new
pub record IsPutIn (place : ℕ) (old new : Watches) : Type 0 where
  pub lists : new.lists ≡ old.lists
  pub pairs : (p : Pair) × (new.pairs.items ≡ old.pairs.items ++ p ∷ [])
  pub queue : new.queue.items ≡ old.queue.items ++ place ∷ []
  pub head : new.head ≡ old.head
  pub lost : new.lost ≡ old.lost

-- what propagation along a list leaves
pub record Frames (old new : Watches) : Type 0 where
  pub places : length new.lists.items ≡ length old.lists.items
  pub queue : new.queue.items ≡ old.queue.items
  pub head : new.head ≡ old.head
  pub lost : new.lost ≡ old.lost

-- the list at a place is out, and none is left behind
pub record IsTakenOut (at : ℕ) (list : List Watch) (old new : Watches) : Type 0 where
  pub frames : Frames old new
  pub pairs : new.pairs.items ≡ old.pairs.items
  pub out : slice_get (lists_in old.lists.items) at ≡ Some list
  pub none : lists_in new.lists.items ≡ slice_set (lists_in old.lists.items) at []

-- the clause at a place watches these two, in one order or the other
pub record HasBeside (pairs : List Pair) (place : ℕ) (lit other : Literal) : Type 0 where
  pub pair : Pair
  pub at : slice_get pairs place ≡ Some pair
  pub are : ((pair.first ≡ lit) × (pair.second ≡ other)) ⊎ ((pair.second ≡ lit) × (pair.first ≡ other))

-- it doesn't watch this one
abbrev pub HasNoneBeside : List Pair → ℕ → Literal → Type 0
HasNoneBeside pairs place lit = (p : Pair) → slice_get pairs place ≡ Some p → (p.first ≢ lit) × (p.second ≢ lit)

-- a watch came to the end of a literal's list
pub record IsListedNow (old new : List (List Watch)) (w : Literal) (x : Watch) : Type 0 where
  pub list : List Watch
  pub at : slice_get old (index_of w) ≡ Some list
  pub is : new ≡ slice_set old (index_of w) (list ++ x ∷ [])

-- the clause at a place watches two literals from now on
pub record IsWatchedNow (place : ℕ) (pair : Pair) (old new : Watches) : Type 0 where
  pub frames : Frames old new
  pub middle : List (List Watch)
  pub first : IsListedNow (lists_in old.lists.items) middle pair.first record { place = place; other = pair.second }
  pub second : IsListedNow middle (lists_in new.lists.items) pair.second record { place = place; other = pair.first }
  pub within : place < length old.pairs.items
  pub pairs : new.pairs.items ≡ slice_set old.pairs.items place pair

-- a pair has these two from now on, and with them one that goes, and one of those that stood with
-- the two before
pub record IsExchanged (place : ℕ) (out first second : Literal) (old new : List Pair) : Type 0 where
  pub pair : Pair
  pub at : slice_get old place ≡ Some pair
  pub fourth : Literal
  pub stood : (fourth ≡ pair.third) ⊎ (fourth ≡ pair.fourth)
  pub is : new ≡ slice_set old place record { first = first; second = second; third = out; fourth = fourth }

-- the clause at a place watches two literals from now on, of which it watched the first
pub record IsShifted (place : ℕ) (out first second : Literal) (old new : Watches) : Type 0 where
  pub listed : IsListedNow (lists_in old.lists.items) (lists_in new.lists.items) second record { place = place; other = first }
  pub pairs : IsExchanged place out first second old.pairs.items new.pairs.items

-- the two that stand with the watches at a place gave way to these, or nothing changed there
abbrev pub AreReleased : List Pair → List Pair → Type 0
AreReleased old new = (k : ℕ) (p : Pair) → slice_get old k ≡ Some p → (slice_get new k ≡ Some p) ⊎ (slice_get new k ≡ Some record { first = p.first; second = p.second; third = p.first; fourth = p.second })

-- a clause is to go
pub record Releases (old new : Watches) : Type 0 where
  pub lists : new.lists ≡ old.lists
  pub pairs : AreReleased old.pairs.items new.pairs.items
  pub queue : new.queue.items ≡ old.queue.items
  pub head : new.head ≡ old.head
  pub lost : new.lost ≡ old.lost
