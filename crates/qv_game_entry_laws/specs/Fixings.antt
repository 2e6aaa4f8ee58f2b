-- A point as assumptions about the bits of its places, and what of it is named in a core.
use Rattle.std.specs.Prelude.{ℕ, suc, ◌-◌, ◌/◌, ◌%◌, ◌==◌, Bool, true, false, if◌then◌else◌, Option, Some, None, unwrap_or, List, [], ◌∷◌, ◌++◌, map}
use Rattle.qv_words.specs.Tree.{Tree}
use Rattle.qv_words.specs.Gate.{Lit, neg}
use Rattle.qv_words.specs.Clauses.{Blasted, bits_of}
use Rattle.qv_words.specs.Linked.{Run}

-- the bits of a term, none where it has no bits
abbrev pub bits_found : List Blasted → Tree → List Lit
bits_found known t = unwrap_or (bits_of known t) []

-- each of the bits, or its negation, as the number has it
abbrev pub fixed : ℕ → List Lit → List Lit
fixed n [] = []
fixed n (b ∷ bs) = (if n % 2 == 1 then b else neg b) ∷ fixed (n / 2) bs

-- the same of the bits of each of the first terms, one for each value
abbrev pub fixings : List Blasted → List Tree → List ℕ → List Lit
fixings known [] values = []
fixings known (t ∷ ts) [] = []
fixings known (t ∷ ts) (v ∷ vs) = fixed v (bits_found known t) ++ fixings known ts vs

-- the runs of bits that are named, as long as they go, from this index on; one may have begun
abbrev pub runs_from : ℕ → ℕ → Option ℕ → List Bool → List Run
runs_from place index None [] = []
runs_from place index (Some low) [] = record { place = place; high = index - 1; low = low } ∷ []
runs_from place index None (false ∷ named) = runs_from place (suc index) None named
runs_from place index None (true ∷ named) = runs_from place (suc index) (Some index) named
runs_from place index (Some low) (true ∷ named) = runs_from place (suc index) (Some low) named
runs_from place index (Some low) (false ∷ named) = record { place = place; high = index - 1; low = low } ∷ runs_from place (suc index) None named

-- those of a place's bits, and of each of the first terms, where the first one is at this place
abbrev pub named_in : (Lit → Bool) → ℕ → ℕ → List Lit → List Run
named_in named place n bits = runs_from place 0 None (map named (fixed n bits))

abbrev pub named_runs : (Lit → Bool) → List Blasted → ℕ → List Tree → List ℕ → List Run
named_runs named known place [] values = []
named_runs named known place (t ∷ ts) [] = []
named_runs named known place (t ∷ ts) (v ∷ vs) = named_in named place v (bits_found known t) ++ named_runs named known (suc place) ts vs
