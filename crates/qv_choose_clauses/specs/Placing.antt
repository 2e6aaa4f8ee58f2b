-- Lists of terms by the places for which they are put in.
use Rattle.std.specs.Prelude.{◌≡◌, ℕ, Option, None, List}
use Rattle.qv_store.specs.Replacing.{term_of_level}

-- no term is put in for any place
abbrev pub NothingPut : List (Option ℕ) → Type 0
NothingPut put = (l : ℕ) → term_of_level put l ≡ None
