use Rattle.std.proofs.Common.{◌≡◌, ◌∷◌, take}
use Rattle.qv_script_texts.proofs.Shown.{constants-text}
use Rattle.qv_script_texts.proofs.models.model_text.Given as goal

abbrev pub invariant-constants : goal.invariant-constants
invariant-constants l = l.text.items ≡ 40 ∷ 10 ∷ constants-text (take l.i l.constants) (take l.i l.values)
