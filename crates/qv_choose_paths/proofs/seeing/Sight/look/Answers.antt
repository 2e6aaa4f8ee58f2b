use Rattle.std.proofs.Common.{ap, sym, ◌∙◌, slice_get}
use Rattle.qv_choose_paths.proofs.seeing.Sight.look.Goals as goal

pub look_of-requires-clause-looks : goal.look_of-requires-clause-looks
look_of-requires-clause-looks c = λ k n l at there.
    c.requires.scene.looks k n l at (ap (λ xs. slice_get xs k) (sym c.deref.ensures.value) ∙ there)
