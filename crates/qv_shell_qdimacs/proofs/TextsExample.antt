-- Lines of values, by hand.
use Rattle.std.proofs.Common.{◌≡◌, true, false, refl, [], ◌∷◌, codes}
use Rattle.std.specs.Fmt.{digits}
use Rattle.qv_shell_qdimacs.specs.Texts.{values_line}

of-none : values_line [] ≡ codes "v 0\n"
of-none = refl

of-two : values_line ((1, false) ∷ (2, true) ∷ []) ≡ codes "v -1 2 0\n"
unfolding digits
of-two = refl
