-- What can be written with numbers of the format.
use Rattle.std.specs.Prelude.{All}
use Rattle.qv_words.specs.Tree.{Tree, IsQuantifierFree}
use Rattle.qv_words.specs.Sorted.{free_levels}
use Rattle.qv_words.specs.Skolem.{SkolemTerm}
use Rattle.qv_words.specs.Expansion.{ExpansionLine}
use Rattle.qv_words.specs.Expansion.{Instance as InstanceOf, Eigen as EigenOf}
use Rattle.qv_cert.specs.Line.{IsNumber}

-- a tree without quantifiers, the levels of whose variables are in range
pub record IsInRange (t : Tree) : Type 0 where
  pub free : IsQuantifierFree t
  pub levels : All (λ leaf. IsNumber leaf.0) (free_levels t)

abbrev pub IsTermInRange : SkolemTerm → Type 0
IsTermInRange s = IsNumber s.place × IsInRange s.term

abbrev pub IsLineInRange : ExpansionLine → Type 0
IsLineInRange (InstanceOf parent t) = IsNumber parent × IsInRange t
IsLineInRange (EigenOf parent) = IsNumber parent
