-- What stood in a text that is as before, or longer, still stands at its front.
use Rattle.std.proofs.Common.{◌≡◌, ℕ, List, [], ◌++◌, refl, sym, ap, ◌∙◌, length, take}
use Rattle.std.specs.Prelude.{Result, Ok, Err, OnOk, OnErr}
use Rattle.std.proofs.lemmas.List.{take_at, append-nil}
use Rattle.qv_lrat_text.specs.Words.{Keeps}

longer : (old text new : List ℕ) → new ≡ old ++ text → Keeps old new
longer old text new e = ap (take (length old)) e ∙ take_at old text (length old) refl

pub keeps_printed : {T E : Type 0} (r : Result T E) (old text new : List ℕ) → OnOk r (new ≡ old ++ text) → OnErr r (new ≡ old) → Keeps old new
keeps_printed (Ok x) old text new ok err = longer old text new ok
keeps_printed (Err e) old text new ok err = longer old [] new (err ∙ sym (append-nil old))
