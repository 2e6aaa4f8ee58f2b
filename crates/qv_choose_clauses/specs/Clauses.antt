-- What the terms below a region are as clauses.
use Rattle.std.specs.Prelude.{◌≡◌, ℕ, Bool, true, false, not, ◌&&◌, ◌||◌, Some, List, slice_get}
use Rattle.std.specs.List.{list_all}
use Rattle.qv_words.specs.Tree.{Tree}
use Rattle.qv_words.specs.Equality.{tree_eq}
use Rattle.qv_words.specs.Clauses.{is_among}
use Rattle.qv_words.specs.Choice.{is_or, joined, opposite, is_apart}
use Rattle.qv_store.specs.Nodes.{tree_at}
use Rattle.qv_choose_paths.specs.declared.ways.Place.{Place}
use Rattle.qv_choose_paths.specs.declared.ways.Way.{Way}
use Rattle.qv_choose_paths.specs.declared.ways.Way.TheVariants.{Absent, Hidden, Open}
use Rattle.qv_choose_paths.specs.declared.ways.Look.{Look}
use Rattle.qv_choose_clauses.specs.declared.clauses.Clause.{Clause}

-- the place's negation, or a term that is apart from the place and its block
abbrev pub is_disjunct : Place → Tree → Bool
is_disjunct p d = tree_eq d (opposite p.level) || is_apart p.first p.end p.level d

abbrev pub clause_with : (opposite apart : Bool) → Clause
clause_with opposite apart = record { opposite = opposite; apart = apart }

abbrev pub clause_of : Place → Tree → Clause
clause_of p t = clause_with (is_among (joined is_or t) (opposite p.level)) (list_all (is_disjunct p) (joined is_or t))

-- of two, and of a term that is no disjunction
abbrev pub both_of : Clause → Clause → Clause
both_of a b = clause_with (a.opposite || b.opposite) (a.apart && b.apart)

abbrev pub single_of : (opposite apart : Bool) → Clause
single_of opposite apart = clause_with opposite (opposite || apart)

abbrev pub alone_of : Place → Tree → Clause
alone_of p t = single_of (tree_eq t (opposite p.level)) (is_apart p.first p.end p.level t)

-- what shows that a term is apart
abbrev pub is_absent : Way → Bool
is_absent Absent = true
is_absent Hidden = false
is_absent Open = false

abbrev pub looks_apart : Look → Bool
looks_apart look = is_absent look.way && not look.inside

-- what was found for the first terms of a walk
abbrev pub AreClauses : Place → List Tree → List ℕ → List Clause → Type 0
AreClauses p trees ids clauses = (k n : ℕ) (c : Clause) → slice_get ids k ≡ Some n → slice_get clauses k ≡ Some c → c ≡ clause_of p (tree_at trees n)
