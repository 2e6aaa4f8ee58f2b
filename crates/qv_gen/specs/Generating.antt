-- What is written of a text, and the status that comes of it.
use Rattle.std.specs.Prelude.{◌≡◌, ◌⊎◌, ℕ, Option, List}
use Rattle.qv_io.specs.Sink.{Appends, AppendsPart}
use Rattle.qv_gen.specs.Text.{script_text}

-- the text was written, and the run ends with this status; or a part of it was, and it ends with 4
abbrev pub IsWriting : (out out' : Option (List ℕ)) → (text : List ℕ) → (ends status : ℕ) → Type 0
IsWriting out out' text ends status =
    ((status ≡ ends) × Appends out out' text) ⊎ ((status ≡ 4) × AppendsPart out out' text)

-- or nothing was, where memory ran out
abbrev pub IsWritingUnless : (out out' : Option (List ℕ)) → (text : List ℕ) → (ends status : ℕ) → Type 0
IsWritingUnless out out' text ends status = IsWriting out out' text ends status ⊎ ((status ≡ 5) × (out' ≡ out))

-- the generator's script of a number
abbrev pub IsGenRun : ℕ → (out out' : Option (List ℕ)) → (status : ℕ) → Type 0
IsGenRun n out out' status = IsWritingUnless out out' (script_text n) 0 status
