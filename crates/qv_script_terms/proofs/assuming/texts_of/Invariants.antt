use Rattle.std.proofs.Common.{◌≡◌, List, map, take}
use Rattle.qv_sexpr.specs.Script.{Tree as Written}
use Rattle.qv_script_defs.specs.Parts.{spaced}
use Rattle.qv_script_parts.specs.Parted.{AreParts}
use Rattle.qv_script_terms.proofs.assuming.texts_of.Given as goal

-- the texts of the first parts
abbrev pub invariant-texts : goal.invariant-texts
invariant-texts l = (es : List Written) → AreParts l.expr l.parts es → map (λ t. t.items) l.texts.items ≡ map spaced (take l.part-index es)
