use Rattle.std.proofs.Common.{◌≡◌, ◌^◌, take}
use Rattle.std.specs.Prelude.{min}
use Rattle.qv_elab_defs.specs.Tokens.{number_of}
use Rattle.qv_script_parts.proofs.limits.limit_in.Given as goal

-- the number that the digits so far write, or the greatest limit
abbrev pub invariant-digits : goal.invariant-digits
invariant-digits l = l.number ≡ min (number_of 10 (take l.byte-index l.digits)) (2 ^ 60)
