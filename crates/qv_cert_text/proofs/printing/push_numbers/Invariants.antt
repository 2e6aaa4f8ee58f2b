use Rattle.std.proofs.Common.{◌≡◌, ◌++◌, map, take}
use Rattle.std.specs.Prelude.{decimal}
use Rattle.qv_cert.specs.Spelling.{behind_spaces}
use Rattle.qv_cert_text.proofs.printing.push_numbers.Given as goal

abbrev pub invariant-numbers : goal.invariant-numbers
invariant-numbers l = l.out.items ≡ l.fn.out.items ++ behind_spaces (map decimal (take l.number-index l.numbers))
