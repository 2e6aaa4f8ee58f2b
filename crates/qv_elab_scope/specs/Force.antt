-- What is in force, as it is kept.
use Rattle.std.specs.Prelude.{◌≡◌, ℕ, ◌+◌, ◌-◌, ◌≤◌, ◌||◌, Bool, true, false, is_some, Option, Some, None, List, [], ◌∷◌, ◌++◌, length, replicate, drop, take, map, slice_get, unwrap_or, option_and_then, codes}
use Rattle.std.specs.Str.{bytes_eq}
use Rattle.qv_words.specs.declared.sort.Sort.{Sort}
use Rattle.qv_sorts.specs.Search.{operator_named}
use Rattle.qv_elab_defs.specs.Sorts.{is_sort_name}
use Rattle.qv_elab_defs.specs.Scopes.{sort_key}
use Rattle.qv_elab_scope.specs.declared.scope.Kept.{Kept}
use Rattle.qv_elab_scope.specs.declared.scope.Kept.TheVariants.{Constant, Definition, Synonym}
use Rattle.qv_elab_scope.specs.declared.scope.Level.{Level}
use Rattle.qv_elab_items.specs.Places.{place_in}

-- the names in force, the newest first; what stands at each place, from the oldest on; and how many
-- there were when each open level was opened, the outermost first
pub record Force : Type 0 where
  pub names : List (List ℕ)
  pub kept : List Kept
  pub starts : List ℕ

-- what a name stands for
abbrev pub stands_for : List ℕ → Force → Option Kept
stands_for name f = option_and_then (slice_get f.kept) (place_in name f.names)

-- a definition
abbrev pub is_definition : Option Kept → Bool
is_definition (Some (Definition sorts body)) = true
is_definition _ = false

-- the sort that is kept
abbrev pub kept_sort : Option Kept → Option Sort
kept_sort (Some (Synonym s)) = Some s
kept_sort _ = None

-- the sort that a name stands for
abbrev pub sort_for : List ℕ → Force → Option Sort
sort_for name f = kept_sort (stands_for (sort_key name) f)

-- such a name, or one that is in force as a sort's
abbrev pub is_sort_taken : List ℕ → Force → Bool
is_sort_taken name f = is_some (place_in (sort_key name) f.names) || is_sort_name name

-- an operator's name, or `distinct`, `true` or `false`
abbrev pub is_reserved : List ℕ → Bool
is_reserved name =
    is_some (operator_named name) || bytes_eq name (codes "distinct") || bytes_eq name (codes "true") || bytes_eq name (codes "false")

-- such a name, or one that is in force
abbrev pub is_taken : List ℕ → Force → Bool
is_taken name f = is_reserved name || is_some (place_in name f.names)

abbrev pub count_constant : Kept → ℕ
count_constant (Constant i s) = 1
count_constant (Definition ss body) = 0
count_constant (Synonym s) = 0

-- how many constants are among these
abbrev pub constants_in : List Kept → ℕ
constants_in [] = 0
constants_in (k ∷ ks) = count_constant k + constants_in ks

-- one more name
abbrev pub with_name : List ℕ → Kept → Force → Force
with_name name kept f = record { names = name ∷ f.names; kept = f.kept ++ kept ∷ []; starts = f.starts }

-- so many levels more
abbrev pub opened : ℕ → Force → Force
opened n f = record { names = f.names; kept = f.kept; starts = f.starts ++ replicate n (length f.names) }

-- how many names there were below the n innermost levels
abbrev pub names_below : ℕ → Force → ℕ
names_below n f = unwrap_or (slice_get f.starts (length f.starts - n)) (length f.names)

-- this many names and levels are left
abbrev pub left_of : ℕ → ℕ → Force → Force
left_of names levels f = record { names = drop (length f.names - names) f.names; kept = take names f.kept; starts = take levels f.starts }

-- so many levels fewer: what came in them goes with them
abbrev pub closed : ℕ → Force → Force
closed n f = left_of (names_below n f) (length f.starts - n) f

-- so many levels fewer: what came in them is in the level around them
abbrev pub merged : ℕ → Force → Force
merged n f = record f { starts = take (length f.starts - n) f.starts }

-- this many names are left, and all levels
abbrev pub shortened : ℕ → Force → Force
shortened left f = record f { names = drop (length f.names - left) f.names; kept = take left f.kept }

abbrev pub force_of : List (List ℕ) → List Kept → List Level → Force
force_of names kept levels = record { names = names; kept = kept; starts = map (λ level. level.names) levels }

-- the parts of a scope
pub record IsInForce (names : List (List ℕ)) (kept : List Kept) (constants : ℕ) (levels : List Level) : Type 0 where
  pub count : length names ≡ length kept
  pub counted : constants ≡ constants_in kept
  pub level_names : (i : ℕ) (l : Level) → slice_get levels i ≡ Some l → l.names ≤ length kept
  pub level_constants : (i : ℕ) (l : Level) → slice_get levels i ≡ Some l → l.constants ≡ constants_in (take l.names kept)
  pub rising : (i j : ℕ) (l m : Level) → i ≤ j → slice_get levels i ≡ Some l → slice_get levels j ≡ Some m → l.names ≤ m.names
