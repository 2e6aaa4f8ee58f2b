-- Which files are one.
use Rattle.std.specs.Prelude.{◌≡◌, ◌⊎◌, Option, IsSomeAnd, IsTrue, IsFalse}
use Rattle.qv_shell_host.specs.declared.identity.Identity.{Identity}

-- A certificate in the other file would be written into this one: one device has both under one
-- number, and it is no device of characters itself, but for a screen on which answers are shown.
abbrev pub IsWrittenBy : Identity → Identity → Type 0
IsWrittenBy own cert = (own.device ≡ cert.device) × (own.number ≡ cert.number) × (IsFalse cert.is_device ⊎ IsTrue own.is_screen)

-- there is such a file, and it would be
abbrev pub IsHeld : Option Identity → Identity → Type 0
IsHeld own cert = IsSomeAnd own (λ o. IsWrittenBy o cert)
