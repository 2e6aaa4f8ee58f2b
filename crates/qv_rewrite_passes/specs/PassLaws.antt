-- What pins passes over lists down.
use Rattle.std.specs.Prelude.{List, All}
use Rattle.std.specs.List.{AllZip}
use Rattle.qv_words.specs.Tree.{Tree}
use Rattle.qv_words.specs.PassLaws.{IsPlain, StandsFor}
use Rattle.qv_rewrite_passes.specs.declared.pass.Pass.{Pass}
use Rattle.qv_rewrite_passes.specs.Passes.{behind_all}
use Rattle.qv_rewrite_passes.specs.Xors.{xor_pass}
use Rattle.qv_rewrite_passes.specs.Simps.{simp_pass}

-- the pass of exclusive or keeps the value of each formula
abbrev pub XorsKeepValues : Type 0
XorsKeepValues = (formulas : List Tree) → All IsPlain formulas → AllZip StandsFor (xor_pass formulas) formulas

-- so does that of small rules
abbrev pub SimpsKeepValues : Type 0
SimpsKeepValues = (formulas : List Tree) → All IsPlain formulas → AllZip StandsFor (simp_pass formulas) formulas

-- passes one after the other keep the value of each formula
abbrev pub PassesStandFor : Type 0
PassesStandFor = (passes : List Pass) (formulas : List Tree) → All IsPlain formulas → AllZip StandsFor (behind_all passes formulas) formulas
