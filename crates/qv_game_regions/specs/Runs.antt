-- Runs of bits as they are kept, and the equations that fix them to the bits of a point.
use Rattle.std.specs.Prelude.{ℕ, ◌+◌, ◌-◌, ◌/◌, ◌%◌, ◌^◌, ◌<◌, ◌≤◌, IsSomeAnd, List, option_map, unwrap_or, slice_get}
use Rattle.qv_words.specs.declared.sort.Sort.{Sort}
use Rattle.qv_words.specs.declared.sort.Sort.TheVariants.{Bits}
use Rattle.qv_words.specs.declared.sort.Sort.TheVariants.{Bool as BoolSort}
use Rattle.qv_words.specs.declared.op.Op.TheVariants.{Extract}
use Rattle.qv_words.specs.declared.word.Word.{Word}
use Rattle.qv_words.specs.Sort.{IsLawful, width_of}
use Rattle.qv_words.specs.Word.{word_sort, word_value}
use Rattle.qv_words.specs.Tree.{Tree, Variable, Apply, Nil, Cons}
use Rattle.qv_words.specs.Linked.{Run, fixing}
use Rattle.qv_game_regions.specs.declared.run.Run.{Run as Kept}

abbrev pub run_of : Kept → Run
run_of r = record { place = r.place; high = r.high; low = r.low }

-- a run lies within a word of this sort
pub record IsRunIn (s : Sort) (r : Run) : Type 0 where
  pub lawful : IsLawful s
  pub ordered : r.low ≤ r.high
  pub within : r.high < width_of s

-- a run lies within the word that a point has at its place
abbrev pub IsRunAt : List Word → Run → Type 0
IsRunAt point r = IsSomeAnd (slice_get point r.place) (λ w. IsRunIn (word_sort w) r)

-- the equation of a run with the bits that the point has there
abbrev pub fixing_at : List Word → Kept → Tree
fixing_at point r =
    fixing (unwrap_or (option_map word_sort (slice_get point r.place)) BoolSort) (unwrap_or (option_map word_value (slice_get point r.place)) 0) (run_of r)

-- the bits of a run as a term, and the literal's sort and value
abbrev pub fixed_part : Sort → Run → Tree
fixed_part BoolSort r = Variable r.place BoolSort
fixed_part (Bits w) r = Apply (Extract r.high r.low) (Cons (Variable r.place (Bits w)) Nil)

abbrev pub fixed_sort : Sort → Run → Sort
fixed_sort BoolSort r = BoolSort
fixed_sort (Bits w) r = Bits (r.high - r.low + 1)

abbrev pub fixed_value : Sort → ℕ → Run → ℕ
fixed_value BoolSort n r = n
fixed_value (Bits w) n r = n / 2 ^ r.low % 2 ^ (r.high - r.low + 1)
