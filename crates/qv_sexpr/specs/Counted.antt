-- What is known of a source that tells nothing, over one of std's readers: how many bytes it gave.
use Rattle.std.specs.Prelude.{◌≡◌, ℕ, ◌+◌, ◌≤◌, Option, List, length}
use Rattle.qv_io.specs.Count.{count_on}
use Rattle.qv_io.specs.StdSource.{ReadGives, given_of, faults_of}
use Rattle.qv_io.specs.declared.std_source.StdSource.{StdSource}
use Rattle.qv_sexpr.specs.Causes.{Gave}

-- it counted as many more, as far as it counts, and none of its calls failed
pub record Counted {R : Type 0} (source : StdSource R) (bytes : List ℕ) (later : StdSource R) : Type 0 where
  pub least : count_on (given_of source) (length bytes) ≤ given_of later
  pub most : given_of later ≤ given_of source + length bytes
  pub faults : faults_of later ≡ faults_of source

-- where calls gave bytes
abbrev pub GivenIsCounted : {R : Type 0} → (R → Option (List ℕ)) → Type 0
GivenIsCounted {R} remaining = (source : StdSource R) (bytes : List ℕ) (later : StdSource R) → Gave (ReadGives remaining) source bytes later → Counted source bytes later
