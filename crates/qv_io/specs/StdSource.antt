-- A source over one of std's readers, as contracts see it.
use Rattle.std.specs.Prelude.{◌≡◌, ℕ, ◌≤◌, List, length, Option, Some, None, IsSome, IfSome, option_and_then}
use Rattle.std.specs.Result.{result_ok}
use Rattle.std.specs.Io.KnownBytes.{Consumes, Keeps}
use Rattle.std.specs.declared.io.Error.{Error}
use Rattle.qv_io.specs.Count.{count_on, next_count}
use Rattle.qv_io.specs.declared.std_source.StdSource.{StdSource}

-- the reader, where one was opened
abbrev pub reader_of : {R : Type 0} → StdSource R → Option R
reader_of source = result_ok source.opened

-- why it failed, if it did: at a call, or where no reader was opened
abbrev pub error_of : {R : Type 0} → StdSource R → Option Error
error_of source = source.error

-- how many bytes its calls gave
abbrev pub given_of : {R : Type 0} → StdSource R → ℕ
given_of source = source.given

-- how many calls failed
abbrev pub faults_of : {R : Type 0} → StdSource R → ℕ
faults_of source = source.faults

-- the bytes that its reader has left, where there is one that tells them
abbrev pub remaining_of : {R : Type 0} → (R → Option (List ℕ)) → StdSource R → Option (List ℕ)
remaining_of remaining source = option_and_then remaining (reader_of source)

-- behind an error the reader isn't called again: it stays, and so does the error
abbrev pub StaysFailed : {R : Type 0} → StdSource R → StdSource R → Type 0
StaysFailed old new = IfSome (error_of old) (λ why. (error_of new ≡ Some why) × (reader_of new ≡ reader_of old))

-- one call of `read` gave the next bytes of the reader, no more than the buffer has room for, and
-- counted them; or failed, for good, and was counted
abbrev pub ReadGives : {R : Type 0} → (R → Option (List ℕ)) → StdSource R → ℕ → Option (List ℕ) → StdSource R → Type 0
ReadGives remaining old room None new =
    IsSome (error_of new) × StaysFailed old new × Keeps (remaining_of remaining old) (remaining_of remaining new) × (given_of new ≡ given_of old) × (faults_of new ≡ next_count (faults_of old))
ReadGives remaining old room (Some bytes) new =
    (error_of old ≡ None) × (error_of new ≡ None) × (length bytes ≤ room) × Consumes (remaining_of remaining old) (remaining_of remaining new) bytes × (given_of new ≡ count_on (given_of old) (length bytes)) × (faults_of new ≡ faults_of old)
