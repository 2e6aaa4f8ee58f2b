use Rattle.std.proofs.Common.{◌≡◌, ◌∙◌, ◌∷◌, [], ◌++◌, ◌-◌, ap, length, take, arith, ◌<◌}
use Rattle.std.proofs.lemmas.Bool.Decides.{nat_tests}
use Rattle.std.proofs.lemmas.Result.{IfOk-weaker}
use Rattle.qv_words.specs.Routine.{turned}
use Rattle.qv_words.specs.Gate.{neg}
use Rattle.qv_circuits.specs.Adding.{lits_of}
use Rattle.qv_circuits.proofs.MadeLists.{turned-lits}
use Rattle.qv_circuits.proofs.words.turned.Goals as goal

pub returns : goal.returns
returns c =
    let bits = c.args.bits.now in
    let some : 0 < length bits = grind (arith, nat_tests) in
    IfOk-weaker c.joined.result (λ v. lits_of v.items ≡ lits_of (take (length bits - 1) bits) ++ lits_of (c.negated.result ∷ [])) (λ v. lits_of v.items ≡ turned (lits_of bits))
    (λ v h. h ∙ turned-lits bits c.negated.result some (rw (c.negated.ensures) (ap neg c.top.ensures))) c.joined.ensures
