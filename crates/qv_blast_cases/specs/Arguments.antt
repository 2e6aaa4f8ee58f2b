-- What stands for the arguments of an operator.
use Rattle.std.specs.Prelude.{◌≡◌, List, length}
use Rattle.std.specs.List.{AllZip}
use Rattle.qv_words.specs.declared.sort.Sort.{Sort}
use Rattle.qv_words.specs.Sort.{width_of}
use Rattle.qv_words.specs.Gate.{Lit}

-- as many bits as each sort has
abbrev pub HaveWidths : List (List Lit) → List Sort → Type 0
HaveWidths args sorts = AllZip (λ bits sort. length bits ≡ width_of sort) args sorts
