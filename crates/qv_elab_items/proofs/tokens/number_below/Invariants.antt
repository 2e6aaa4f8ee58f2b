use Rattle.std.proofs.Common.{◌≡◌, ◌<◌, ◌^◌, drop}
use Rattle.qv_elab_defs.specs.Tokens.{number_of}
use Rattle.qv_elab_items.proofs.Numerals.{number_from}
use Rattle.qv_elab_items.proofs.tokens.number_below.Given as goal

-- the digits that are left make the number behind those that were read
abbrev pub invariant-digits : goal.invariant-digits
invariant-digits l = record {
  small : l.value < 2 ^ 128;
  rest : number_from l.base l.value (drop l.b-index l.digits) ≡ number_of l.base l.digits;
}
