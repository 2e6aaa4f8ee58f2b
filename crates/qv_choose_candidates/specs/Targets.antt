-- What a side of an equation or a comparison is to be.
use Rattle.std.specs.Prelude.{ℕ, ◌-◌, ◌^◌, Bool, true, false, List, [], ◌∷◌}
use Rattle.qv_words.specs.declared.sort.Sort.{Sort}
use Rattle.qv_words.specs.declared.sort.Sort.TheVariants.{Bits}
use Rattle.qv_words.specs.declared.sort.Sort.TheVariants.{Bool as BoolSort}
use Rattle.qv_words.specs.declared.op.Op.{Op}
use Rattle.qv_words.specs.declared.op.Op.TheVariants.{BvAdd, BvSub}
use Rattle.qv_words.specs.Tree.{Tree, Literal}
use Rattle.qv_words.specs.Prenex.{binary}
use Rattle.qv_words.specs.Choice.{is_equation, is_comparison}
use Rattle.qv_choose_candidates.specs.declared.offers.Target.{Target}
use Rattle.qv_choose_candidates.specs.declared.offers.Target.TheVariants.{Less, More, Same, Least, Greatest}

-- the greatest value of a sort
abbrev pub greatest : Sort → ℕ
greatest BoolSort = 1
greatest (Bits w) = 2 ^ w - 1

-- a target beside the other side, which has this sort
abbrev pub target_tree : Target → Sort → Tree → Tree
target_tree Less s b = binary BvSub b (Literal s 1)
target_tree More s b = binary BvAdd b (Literal s 1)
target_tree Same s b = b
target_tree Least s b = Literal s 0
target_tree Greatest s b = Literal s (greatest s)

-- whether the other side stands in it
abbrev pub has_other : Target → Bool
has_other Less = true
has_other More = true
has_other Same = true
has_other Least = false
has_other Greatest = false

-- the targets of an operator, in order
abbrev pub of_comparison : List Target
of_comparison = Less ∷ More ∷ Same ∷ Least ∷ Greatest ∷ []

abbrev pub targets_by : (equation comparison : Bool) → List Target
targets_by true b = Same ∷ []
targets_by false true = of_comparison
targets_by false false = []

abbrev pub targets_of : Op → List Target
targets_of o = targets_by (is_equation o) (is_comparison o)
