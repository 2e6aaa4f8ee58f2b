use Rattle.std.proofs.Common.{◌∙◌, ℕ, List, length, ap, subst, sym}
use Rattle.std.specs.Prelude.{All, Vec}
use Rattle.std.specs.declared.alloc.Global.{Global}
use Rattle.qv_words.specs.Sort.{IsLawful}
use Rattle.qv_words.specs.Word.{values_of}
use Rattle.qv_words.specs.declared.word.Word.{Word}
use Rattle.qv_meter.specs.Records.{records_of}
use Rattle.qv_meter.specs.Views.{limits_of}
use Rattle.qv_script_stack.specs.declared.held.Declared.{Declared}
use Rattle.qv_script_defs.specs.declared.effects.Effect.{Effect as Told}
use Rattle.qv_script_defs.specs.declared.effects.ValueTerm.{ValueTerm as Asked}
use Rattle.qv_script_stack.specs.Held.{declared_of}
use Rattle.qv_script_texts.specs.Printing.{model_text, ShowsValues}
use Rattle.qv_script_texts.specs.Shown.{CanShow, told}
use Rattle.qv_shell_command.specs.declared.ending.Ending.TheVariants.{Done as AtEnd}
use Rattle.qv_shell_command.specs.Moves.{HasDone}
use Rattle.qv_shell_command.proofs.Moving.{ok-weaker, nothing-checked, speaks-moves, last-moves, quiet-moves, text-moves, exit-moves, plain-check, assuming-check, constants-lawful, values-show, values-moves, whole-many, whole-moves, core-done, assumed-done}
use Rattle.qv_shell_command.proofs.moves.effect_move.Goals as goal

pub check_move-requires-clause-check : goal.check_move-requires-clause-check
check_move-requires-clause-check c =
    let store = c.args.course.now.store in
    let script = c.args.course.now.script in
    let r = c.requires.done in
    let h = subst (λ (d : Told). HasDone store script r.0 r.1 r.2 r.3 d) c.in-Check.is r.4 in
    let p = plain-check c.args.places store script r.0 r.1 r.2 r.3 h in
    (r.0, r.1, r.2, p.0, p.1)

pub check_move-requires-in-CheckAssuming-clause-check : goal.check_move-requires-in-CheckAssuming-clause-check
check_move-requires-in-CheckAssuming-clause-check c =
    let store = c.args.course.now.store in
    let script = c.args.course.now.script in
    let r = c.requires.done in
    let h = subst (λ (d : Told). HasDone store script r.0 r.1 r.2 r.3 d) c.in-CheckAssuming.is r.4 in
    let p = assuming-check c.args.places store script r.0 r.1 r.2 r.3 h in
    (r.0, r.1, r.2, p.0, p.1)

pub values_text-requires : goal.values_text-requires
values_text-requires c =
    let store = c.args.course.now.store in
    let script = c.args.course.now.script in
    let r = c.requires.done in
    let h = subst (λ (d : Told). HasDone store script r.0 r.1 r.2 r.3 d) c.in-Values.is r.4 in
    let words = c.in_ok-values-in-Values.values.items in
    subst (λ (ws : List Word). All (CanShow store ws) c.deref.result.now) (sym c.deref-in-Values.ensures.value)
    (subst (λ (asked : List Asked). All (CanShow store words) asked) (sym c.deref.ensures.value) (values-show c.args.places store script r.0 r.1 r.2 r.3 c.in-Values.terms words c.in_ok-values-in-Values.ensures h))

pub model_text-requires-clause-lawful : goal.model_text-requires-clause-lawful
model_text-requires-clause-lawful c =
    let r = c.requires.done in
    subst (All (λ (own : Declared). IsLawful own.sort)) (sym c.constants.ensures) (constants-lawful c.args.course.now.store c.args.course.now.script r.2 r.4.stepped.script)

pub model_text-requires-clause-many : goal.model_text-requires-clause-many
model_text-requires-clause-many c =
    let store = c.args.course.now.store in
    let script = c.args.course.now.script in
    let r = c.requires.done in
    let h = subst (λ (d : Told). HasDone store script r.0 r.1 r.2 r.3 d) c.in-Whole.is r.4 in
    let words = c.in_ok-values-in-Whole.values.items in
    ap length c.deref-in-Whole.ensures.value ∙ whole-many c.args.places store script r.0 r.1 r.2 r.3 words c.in_ok-values-in-Whole.ensures h ∙ ap length (sym c.constants.ensures)

pub last_values-requires : goal.last_values-requires
last_values-requires c =
    let r = c.requires.done in
    constants-lawful c.args.course.now.store c.args.course.now.script r.2 r.4.stepped.script

pub last_values-requires-in-Whole : goal.last_values-requires-in-Whole
last_values-requires-in-Whole c =
    let r = c.requires.done in
    constants-lawful c.args.course.now.store c.args.course.now.script r.2 r.4.stepped.script

pub returns-in_ok-success-in-Quiet-clause-moves : goal.returns-in_ok-success-in-Quiet-clause-moves
returns-in_ok-success-in-Quiet-clause-moves c = λ s e now done h at.
    let course = c.args.course.now in
    let store = course.store in
    let script = course.script in
    let records = records_of c.args.meter.now in
    let m = c.goes_on.result in
    let k = subst (λ (d : Told). HasDone store script s e now done d) c.in-Quiet.is h in
    let text = ap (λ (v : Vec ℕ Global). v.items) c.goes_on.ensures.text in
    speaks-moves c.args.places (limits_of c.args.limits) s e m course.tally course records records (nothing-checked m course records c.goes_on.ensures.section) c.goes_on.ensures.after
    (quiet-moves c.args.places store script s e now done m.text.items k (text ∙ c.in_ok-success-in-Quiet.ensures))

pub returns-in-Text-clause-moves : goal.returns-in-Text-clause-moves
returns-in-Text-clause-moves c = λ s e now done h at.
    let course = c.args.course.now in
    let store = course.store in
    let script = course.script in
    let records = records_of c.args.meter.now in
    let m = c.goes_on-in-Text.result in
    let k = subst (λ (d : Told). HasDone store script s e now done d) c.in-Text.is h in
    let text = ap (λ (v : Vec ℕ Global). v.items) c.goes_on-in-Text.ensures.text in
    speaks-moves c.args.places (limits_of c.args.limits) s e m course.tally course records records (nothing-checked m course records c.goes_on-in-Text.ensures.section) c.goes_on-in-Text.ensures.after
    (text-moves c.args.places store script s e now done m.text.items c.in-Text.text k text)

pub returns-in-Check-clause-moves : goal.returns-in-Check-clause-moves
returns-in-Check-clause-moves c =
    let store = c.args.course.now.store in
    let script = c.args.course.now.script in
    ok-weaker c.check_move.result _ _ c.check_move.ensures.moves
    (λ m go s e now done h at.
    let p = plain-check c.args.places store script s e now done (subst (λ (d : Told). HasDone store script s e now done d) c.in-Check.is h) in
    go s e now p.0 p.1 at)

pub returns-in-CheckAssuming-clause-moves : goal.returns-in-CheckAssuming-clause-moves
returns-in-CheckAssuming-clause-moves c =
    let store = c.args.course.now.store in
    let script = c.args.course.now.script in
    ok-weaker c.check_move-in-CheckAssuming.result _ _ c.check_move-in-CheckAssuming.ensures.moves
    (λ m go s e now done h at.
    let p = assuming-check c.args.places store script s e now done (subst (λ (d : Told). HasDone store script s e now done d) c.in-CheckAssuming.is h) in
    go s e now p.0 p.1 at)

pub returns-in_ok-values_text-in-Values-clause-moves : goal.returns-in_ok-values_text-in-Values-clause-moves
returns-in_ok-values_text-in-Values-clause-moves c = λ s e now done h at.
    let course = c.args.course.now in
    let store = course.store in
    let script = course.script in
    let records = records_of c.args.meter.now in
    let m = c.goes_on-in-Values.result in
    let k = subst (λ (d : Told). HasDone store script s e now done d) c.in-Values.is h in
    let text = ap (λ (v : Vec ℕ Global). v.items) c.goes_on-in-Values.ensures.text in
    let words = c.in_ok-values-in-Values.values.items in
    speaks-moves c.args.places (limits_of c.args.limits) s e m course.tally course records records (nothing-checked m course records c.goes_on-in-Values.ensures.section) c.goes_on-in-Values.ensures.after
    (values-moves c.args.places store script s e now done c.in-Values.terms m.text.items words c.in_ok-values-in-Values.ensures k
    (subst (λ (bytes : List ℕ). ShowsValues (values_of words) (told store c.in-Values.terms.items) bytes) (sym text)
    (subst (λ (ws : List Word). ShowsValues (values_of ws) (told store c.in-Values.terms.items) c.in_ok-values_text-in-Values.field-0.items) c.deref-in-Values.ensures.value
    (subst (λ (asked : List Asked). ShowsValues (values_of c.deref-in-Values.result.now) (told store asked) c.in_ok-values_text-in-Values.field-0.items) c.deref.ensures.value c.in_ok-values_text-in-Values.ensures))))

pub returns-in_ok-model_text-in-Whole-clause-moves : goal.returns-in_ok-model_text-in-Whole-clause-moves
returns-in_ok-model_text-in-Whole-clause-moves c = λ s e now done h at.
    let course = c.args.course.now in
    let store = course.store in
    let script = course.script in
    let records = records_of c.args.meter.now in
    let m = c.goes_on-in-Whole.result in
    let k = subst (λ (d : Told). HasDone store script s e now done d) c.in-Whole.is h in
    let text = ap (λ (v : Vec ℕ Global). v.items) c.goes_on-in-Whole.ensures.text in
    let words = c.in_ok-values-in-Whole.values.items in
    speaks-moves c.args.places (limits_of c.args.limits) s e m course.tally course records records (nothing-checked m course records c.goes_on-in-Whole.ensures.section) c.goes_on-in-Whole.ensures.after
    (whole-moves c.args.places store script s e now done m.text.items words c.in_ok-values-in-Whole.ensures k
    (text ∙ c.in_ok-model_text-in-Whole.ensures
    ∙ ap (λ (owns : List Declared). model_text (declared_of owns) (values_of c.deref-in-Whole.result.now)) c.constants.ensures
    ∙ ap (λ (ws : List Word). model_text (declared_of script.constants) (values_of ws)) c.deref-in-Whole.ensures.value))

pub returns-in_ok-success-in-Exit-clause-moves : goal.returns-in_ok-success-in-Exit-clause-moves
returns-in_ok-success-in-Exit-clause-moves c = λ s e now done h at.
    let course = c.args.course.now in
    let records = records_of c.args.meter.now in
    let m = c.ended.result in
    let k = subst (λ (d : Told). HasDone course.store course.script s e now done d) c.in-Exit.is h in
    let text = ap (λ (v : Vec ℕ Global). v.items) c.ended.ensures.text in
    last-moves c.args.places (limits_of c.args.limits) s e m course.tally course records records (nothing-checked m course records c.ended.ensures.section) AtEnd c.ended.ensures.after
    (exit-moves c.args.places course.store course.script s e now done m.text.items k (text ∙ c.in_ok-success-in-Exit.ensures))

pub core_move-requires-clause-core : goal.core_move-requires-clause-core
core_move-requires-clause-core c =
    let store = c.args.course.now.store in
    let script = c.args.course.now.script in
    let r = c.requires.done in
    let h = subst (λ (d : Told). HasDone store script r.0 r.1 r.2 r.3 d) c.in-Core.is r.4 in
    let p = core-done store script r.0 r.1 r.2 r.3 h in
    (r.0, r.1, r.2, p.0, p.1, p.2)

pub returns-in-Core-clause-moves : goal.returns-in-Core-clause-moves
returns-in-Core-clause-moves c =
    let store = c.args.course.now.store in
    let script = c.args.course.now.script in
    ok-weaker c.core_move.result _ _ c.core_move.ensures.moves
    (λ m go s e now done h at.
    let p = core-done store script s e now done (subst (λ (d : Told). HasDone store script s e now done d) c.in-Core.is h) in
    go c.args.places s e now p.0 p.1 p.2)

pub core_move-requires-in-AssumedCore-clause-core : goal.core_move-requires-in-AssumedCore-clause-core
core_move-requires-in-AssumedCore-clause-core c =
    let store = c.args.course.now.store in
    let script = c.args.course.now.script in
    let r = c.requires.done in
    let h = subst (λ (d : Told). HasDone store script r.0 r.1 r.2 r.3 d) c.in-AssumedCore.is r.4 in
    let p = assumed-done store script r.0 r.1 r.2 r.3 h in
    (r.0, r.1, r.2, p.0, p.1, p.2)

pub returns-in-AssumedCore-clause-moves : goal.returns-in-AssumedCore-clause-moves
returns-in-AssumedCore-clause-moves c =
    let store = c.args.course.now.store in
    let script = c.args.course.now.script in
    ok-weaker c.core_move-in-AssumedCore.result _ _ c.core_move-in-AssumedCore.ensures.moves
    (λ m go s e now done h at.
    let p = assumed-done store script s e now done (subst (λ (d : Told). HasDone store script s e now done d) c.in-AssumedCore.is h) in
    go c.args.places s e now p.0 p.1 p.2)
