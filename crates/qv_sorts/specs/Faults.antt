-- Why an application has no rank: what the standard's theories Core and FixedSizeBitVectors ask of
-- an operator's arguments and indices, and that a width is at most 128. A fault is the first in
-- this order: the number of arguments, their sorts, the indices, the result's width.
use Rattle.std.specs.Prelude.{ℕ, ◌+◌, ◌*◌, ◌==◌, ◌&&◌, nat_le, nat_lt, not, Option, Some, None, is_some, List, [], ◌∷◌, length, if◌then◌else◌}
use Rattle.std.specs.Prelude.{Bool as Truth, true}
use Rattle.qv_words.specs.declared.sort.Sort.{Sort}
use Rattle.qv_words.specs.declared.sort.Sort.TheVariants.{Bits}
use Rattle.qv_words.specs.declared.op.Op.{Op}
use Rattle.qv_words.specs.declared.op.Op.TheVariants.{Not, And, Or, Xor, Implies, Equal, Ite, BvNot, BvNeg, Concat, Extract, Repeat, ZeroExtend, SignExtend, RotateLeft, RotateRight, BvNego}
use Rattle.qv_words.specs.Rank.{one_bool, two_bools, two_alike, choice, one_width, two_widths, joined_width}
use Rattle.qv_sorts.specs.declared.ranking.Arguments.{Arguments}
use Rattle.qv_sorts.specs.declared.ranking.Arguments.TheVariants.{OneBool, TwoBools, TwoAlike, Choice, OneWidth, AnyWidths, TwoWidths}
use Rattle.qv_sorts.specs.declared.ranking.RankFault.{RankFault}
use Rattle.qv_sorts.specs.declared.ranking.RankFault.TheVariants.{Arity, Sorts, Index, Width}

-- what an operator takes
abbrev pub arguments_of : Op → Arguments
arguments_of Not = OneBool
arguments_of And = TwoBools
arguments_of Or = TwoBools
arguments_of Xor = TwoBools
arguments_of Implies = TwoBools
arguments_of Equal = TwoAlike
arguments_of Ite = Choice
arguments_of BvNot = OneWidth
arguments_of BvNeg = OneWidth
arguments_of BvNego = OneWidth
arguments_of (Extract i j) = OneWidth
arguments_of (Repeat k) = OneWidth
arguments_of (ZeroExtend k) = OneWidth
arguments_of (SignExtend k) = OneWidth
arguments_of (RotateLeft k) = OneWidth
arguments_of (RotateRight k) = OneWidth
arguments_of Concat = AnyWidths
-- the others take two bit-vectors of one width
arguments_of _ = TwoWidths

-- how many these are
abbrev pub arity_of : Arguments → ℕ
arity_of OneBool = 1
arity_of TwoBools = 2
arity_of TwoAlike = 2
arity_of Choice = 3
arity_of OneWidth = 1
arity_of AnyWidths = 2
arity_of TwoWidths = 2

-- whether arguments of these sorts are such
abbrev pub are_sorts_of : Arguments → List Sort → Truth
are_sorts_of OneBool sorts = is_some (one_bool sorts)
are_sorts_of TwoBools sorts = is_some (two_bools sorts)
are_sorts_of TwoAlike sorts = is_some (two_alike sorts)
are_sorts_of Choice sorts = is_some (choice sorts)
are_sorts_of OneWidth sorts = is_some (one_width sorts)
are_sorts_of AnyWidths sorts = is_some (joined_width sorts)
are_sorts_of TwoWidths sorts = is_some (two_widths sorts)

-- whether the operator may have its indices at arguments of these sorts
abbrev pub may_have_indices : Op → List Sort → Truth
may_have_indices (Extract i j) (Bits w ∷ []) = nat_lt i w && nat_le j i
may_have_indices (Repeat k) _ = nat_le 1 k
may_have_indices _ _ = true

-- the width of a result that may be wider than each argument
abbrev pub joint_width : Op → List Sort → ℕ
joint_width Concat (Bits v ∷ Bits w ∷ []) = v + w
joint_width (Repeat k) (Bits w ∷ []) = k * w
joint_width (ZeroExtend k) (Bits w ∷ []) = w + k
joint_width (SignExtend k) (Bits w ∷ []) = w + k
joint_width _ _ = 0

-- the first fault of an application
abbrev pub fault_of : Op → List Sort → Option RankFault
fault_of o sorts =
    if not (length sorts == arity_of (arguments_of o)) then Some Arity
    else (if not (are_sorts_of (arguments_of o) sorts) then Some Sorts
    else (if not (may_have_indices o sorts) then Some Index
    else (if not (nat_le (joint_width o sorts) 128) then Some Width
    else None)))
