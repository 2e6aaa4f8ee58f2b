-- How operators are applied to other numbers of arguments than their ranks have.
use Rattle.std.specs.Prelude.{Bool, false, true}
use Rattle.qv_words.specs.declared.op.Op.{Op}
use Rattle.qv_words.specs.declared.op.Op.TheVariants.{And, Or, Xor, Implies, Equal, BvAnd, BvOr, BvXor, BvAdd, BvMul, Concat}
use Rattle.qv_elab_apply.specs.declared.applying.Chain.{Chain}
use Rattle.qv_elab_apply.specs.declared.applying.Chain.TheVariants.{Left, Right, Pairs, None}

-- with more arguments
abbrev pub chain_of : Op → Chain
chain_of And = Left
chain_of Or = Left
chain_of Xor = Left
chain_of BvAnd = Left
chain_of BvOr = Left
chain_of BvXor = Left
chain_of BvAdd = Left
chain_of BvMul = Left
chain_of Concat = Left
chain_of Implies = Right
chain_of Equal = Pairs
chain_of _ = None

-- whether one argument is the application
abbrev pub takes_one : Op → Bool
takes_one And = true
takes_one Or = true
takes_one _ = false
