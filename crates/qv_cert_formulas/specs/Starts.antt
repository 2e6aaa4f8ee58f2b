-- When a section may leave its nodes.
use Rattle.std.specs.Prelude.{All}
use Rattle.qv_words.specs.declared.op.Answer.{Answer}
use Rattle.qv_words.specs.declared.op.Answer.TheVariants.{Sat, Unsat, Unknown}
use Rattle.qv_words.specs.Problem.{Problem}
use Rattle.qv_words.specs.Skolem.{IsSkolemTerm}
use Rattle.qv_words.specs.Expansion.{IsExpansion}
use Rattle.qv_cert.specs.Listed.{Listed}

-- what was listed is in order: the terms are Skolem terms, or the lines an expansion list
abbrev pub MayStart : Problem → Answer → Listed → Type 0
MayStart p Sat l = All (IsSkolemTerm p) l.terms
MayStart p Unsat l = IsExpansion p l.lines
MayStart p Unknown l = Unit {0}
