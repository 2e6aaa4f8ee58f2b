use Rattle.std.proofs.Common.{map, take}
use Rattle.qv_script_defs.specs.State.{placed}
use Rattle.qv_script_texts.proofs.CoreTexts.{AreTold}
use Rattle.qv_script_texts.proofs.cores.assumed_text.Given as goal

abbrev pub invariant-assumed : goal.invariant-assumed
invariant-assumed l = AreTold l.kept (placed l.first (take l.i (map (λ t. t.items) l.terms))) l.text.items l.gap
