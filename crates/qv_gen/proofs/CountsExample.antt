-- The counts of a run of the generator's script of 12: 24 checks, half of them sat, and one that isn't known.
use Rattle.std.proofs.Common.{◌≡◌, refl}
use Rattle.std.specs.Prelude.{codes}
use Rattle.std.specs.Fmt.{digits}
use Rattle.qv_gen.specs.Counts.{counts_text}

counted : counts_text (record { checks = 24; sat = 12; unsat = 11; unknown = 1 }) ≡ codes "checks 24\nsat 12\nunsat 11\nunknown 1\n"
unfolding digits
counted = refl
