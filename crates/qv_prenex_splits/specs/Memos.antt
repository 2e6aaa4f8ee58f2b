-- What was made of terms, and for how long it stays right.
use Rattle.std.specs.Prelude.{◌≡◌, ℕ, ◌<◌, ◌≤◌, nat_eq, nat_lt, false, if◌then◌else◌, Option, Some, None, List, length, slice_index_or}
use Rattle.std.specs.HashMap.{get}
use Rattle.qv_words.specs.Tree.{Tree, Trees, Constant, Variable, Literal, Apply, ForAll, Exists, Nil, Cons}
use Rattle.qv_store.specs.Nodes.{tree_at}
use Rattle.qv_prenex_splits.specs.declared.memo.Changes.{Changes}
use Rattle.qv_prenex_splits.specs.declared.memo.Entry.{Entry}
use Rattle.qv_prenex_splits.specs.declared.memo.Memo.{Memo}

-- levels from 4,096 on count as one
abbrev pub rank_of : ℕ → ℕ
rank_of l = if nat_lt l 4096 then l else 4096

-- the variables of a tree, outside of its quantifiers, have smaller ranks
abbrev mutual
  pub IsWithin : ℕ → Tree → Type 0
  IsWithin reach (Constant i s) = Unit {0}
  IsWithin reach (Variable l s) = rank_of l < reach
  IsWithin reach (Literal s n) = Unit {0}
  IsWithin reach (Apply o args) = AreWithin reach args
  IsWithin reach (ForAll l s body) = Unit {0}
  IsWithin reach (Exists l s body) = Unit {0}

  pub AreWithin : ℕ → Trees → Type 0
  AreWithin reach Nil = Unit {0}
  AreWithin reach (Cons t ts) = IsWithin reach t × AreWithin reach ts

-- when what stands for a variable of a smaller rank changed last
abbrev pub last_change : Changes → ℕ → ℕ
last_change c reach = slice_index_or c.last.items reach c.count

-- what stands for a level changes
pub record IsChanged (old new : Changes) (level : ℕ) : Type 0 where
  pub later : old.count < new.count
  pub last : (reach : ℕ) → last_change new reach ≡ (if nat_lt (rank_of level) reach then new.count else last_change old reach)

-- what was made of a term, where that is still right
abbrev pub made_by : Changes → Option Entry → Option ℕ
made_by c None = None
made_by c (Some e) = if nat_lt e.time (last_change c e.reach) then None else Some e.made

abbrev pub made_in : Memo → ℕ → Option ℕ
made_in memo k = made_by memo.changes (get nat_eq memo.entries k)

abbrev pub reach_by : Option Entry → ℕ
reach_by None = 4097
reach_by (Some e) = e.reach

-- above the ranks of a term's variables, where something was made of it
abbrev pub reach_in : Memo → ℕ → ℕ
reach_in memo k = reach_by (get nat_eq memo.entries k)

-- what is kept is of terms of the store, and was made in the past
pub record AreKept (trees : List Tree) (memo : Memo) : Type 0 where
  pub below : (k : ℕ) (e : Entry) → get nat_eq memo.entries k ≡ Some e → k < length trees
  pub within : (k : ℕ) (e : Entry) → get nat_eq memo.entries k ≡ Some e → IsWithin e.reach (tree_at trees k)
  pub before : (k : ℕ) (e : Entry) → get nat_eq memo.entries k ≡ Some e → e.time ≤ memo.changes.count
  pub past : (reach : ℕ) → last_change memo.changes reach ≤ memo.changes.count

-- one more entry
pub record IsKeptNext (old new : Memo) (id made reach : ℕ) : Type 0 where
  pub here : get nat_eq new.entries id ≡ Some (record { made = made; reach = reach; time = old.changes.count })
  pub others : (q : ℕ) → nat_eq id q ≡ false → get nat_eq new.entries q ≡ get nat_eq old.entries q
  pub changes : new.changes ≡ old.changes

-- what stands for a level changes, so what depends on it is forgotten
pub record IsForgotten (old new : Memo) (level : ℕ) : Type 0 where
  pub entries : new.entries ≡ old.entries
  pub changed : IsChanged old.changes new.changes level

-- nothing was made
pub record IsNew (memo : Memo) : Type 0 where
  pub nothing : (k : ℕ) → get nat_eq memo.entries k ≡ None
  pub past : (reach : ℕ) → last_change memo.changes reach ≤ memo.changes.count
