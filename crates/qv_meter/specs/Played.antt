-- What play may leave: linked lists of fresh entries.
use Rattle.std.specs.Prelude.{◌≡◌, ◌≢◌, ℕ, ◌+◌, false, Some, IsSomeAnd, List, [], ◌∷◌, ◌++◌, length, slice_get, All}
use Rattle.qv_words.specs.Problem.{Problem}
use Rattle.qv_words.specs.Choice.{IsTrueAt}
use Rattle.qv_words.specs.Linked.{Entry, IsEntry, block_numbered, blocks_of, entries_of, same_quantifier}

-- no entry is at level 1
abbrev pub IsUndecided : List Entry → Type 0
IsUndecided entries = All (λ e. e.level ≢ 1) entries

-- an entry of a player who doesn't own its block
abbrev pub WasForced : Problem → Entry → Type 0
WasForced p e = IsSomeAnd (block_numbered (blocks_of p.prefix) e.level) (λ b. same_quantifier e.winner b.owner ≡ false)

-- no such entry is the newest
abbrev pub IsSettled : Problem → List Entry → Type 0
IsSettled p earlier = (n : ℕ) (f : Entry) → length earlier ≡ n + 1 → slice_get earlier n ≡ Some f → WasForced p f → ⊥

-- where such an entry is the newest, the next one is linked to it alone: by it that player wins the
-- block before, which it owns
abbrev pub FollowsForced : Problem → List Entry → List ℕ → Type 0
FollowsForced p earlier links = (n : ℕ) (f : Entry) → length earlier ≡ n + 1 → slice_get earlier n ≡ Some f → WasForced p f → links ≡ n ∷ []

-- a fresh entry: its point lies in no earlier region of its level and winner, and it comes before
-- level 1 is decided, and where it must at once behind a forced one
pub record IsFresh (p : Problem) (earlier : List Entry) (e : Entry) : Type 0 where
  pub outside : All (λ f. IsTrueAt e.point f.region → ⊥) (entries_of e.level e.winner earlier)
  pub undecided : IsUndecided earlier
  pub follows : FollowsForced p earlier e.links

-- each entry may come where it does, and is fresh there
abbrev pub AreFreshEntries : Problem → List Entry → List Entry → Type 0
AreFreshEntries p earlier [] = Unit {0}
AreFreshEntries p earlier (e ∷ es) = IsEntry p earlier e × IsFresh p earlier e × AreFreshEntries p (earlier ++ e ∷ []) es

-- the list is linked and fresh
abbrev pub IsPlayed : Problem → List Entry → Type 0
IsPlayed p entries = AreFreshEntries p [] entries
