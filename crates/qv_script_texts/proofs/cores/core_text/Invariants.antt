use Rattle.std.proofs.Common.{take}
use Rattle.qv_script_defs.specs.Moves.{symbols_of}
use Rattle.qv_script_stack.specs.Held.{named_of}
use Rattle.qv_script_texts.proofs.CoreTexts.{AreTold}
use Rattle.qv_script_texts.proofs.cores.core_text.Given as goal

abbrev pub invariant-named : goal.invariant-named
invariant-named l = AreTold l.kept (symbols_of (named_of (take l.own-index l.named))) l.text.items l.gap
