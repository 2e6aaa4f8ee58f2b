use Rattle.std.proofs.Common.{take}
use Rattle.qv_words.specs.Word.{values_of}
use Rattle.qv_script_texts.proofs.Shown.{AreShown}
use Rattle.qv_script_texts.proofs.models.values_text.Given as goal

abbrev pub invariant-terms : goal.invariant-terms
invariant-terms l = AreShown l.store (values_of l.consts) (take l.i l.terms) l.text.items
