-- The pass of exclusive or over formulas.
use Rattle.std.proofs.Common.{List, [], ◌∷◌}
use Rattle.std.specs.List.{AllByRecursion, AllZip}
use Rattle.qv_words.specs.Tree.{Tree}
use Rattle.qv_words.specs.PassLaws.{IsPlain, StandsFor}
use Rattle.qv_rewrite_passes.specs.Xors.{xored, xor_pass}
use Rattle.qv_rewrite_passes.proofs.Chaining.{xored-same}
use Rattle.qv_rewrite_passes.proofs.SumPass.{stands}

pub pass-stands : (ts : List Tree) → AllByRecursion IsPlain ts → AllZip StandsFor (xor_pass ts) ts
pass-stands [] h = tt
pass-stands (t ∷ ts) h = (stands t (xored t) h.0 (xored-same t h.0.sorted h.0.free), pass-stands ts h.1)
