-- What stood in a text before a few writes still stands at its front.
use Rattle.std.proofs.Common.{◌≡◌, ℕ, ◌+◌, List, ◌++◌, refl, length, take, sym, ap, ◌∙◌, arith}
use Rattle.std.proofs.lemmas.List.{take-take, take_at, length-append}
use Rattle.qv_script_values.specs.Kept.{Keeps}

pub keeps_longer : (old more mid new : List ℕ) → mid ≡ old ++ more → Keeps mid new → Keeps old new
keeps_longer old more mid new mid-is kept =
    let len : length mid ≡ length old + length more = ap length mid-is ∙ length-append old more in
    sym (take-take (length old) (length mid) new (omega arith)) ∙ ap (take (length old)) (kept ∙ mid-is) ∙ take_at old more (length old) refl

-- where more was added, what stood there still does
pub keeps_added : (old more new : List ℕ) → new ≡ old ++ more → Keeps old new
keeps_added old more new is = ap (take (length old)) is ∙ take_at old more (length old) refl
