use Rattle.std.proofs.Common.{◌≡◌, ◌++◌, take, All}
use Rattle.std.specs.List.{flat_map}
use Rattle.qv_lrat_text.specs.Words.{spaced}
use Rattle.qv_lrat_text.proofs.printing.push_numbers.Given as goal

abbrev pub invariant-loop-number : goal.invariant-loop-number
invariant-loop-number g l =
    (l.out.items ≡ l.fn.out.items ++ flat_map (λ number. spaced (g.T.Number.text number)) (take l.number-index l.numbers))
    × All g.T.Number.is_number (take l.number-index l.numbers)
