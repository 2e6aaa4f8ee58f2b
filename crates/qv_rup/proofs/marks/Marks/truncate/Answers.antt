use Rattle.std.proofs.Common.{◌≡◌, ◌<◌, ◌-◌, List, sym, ◌∙◌, subst, length, drop, arith}
use Rattle.qv_cnf.specs.Literal.{Literal}
use Rattle.qv_rup.proofs.Marked.{all-left, fewer, same-left}
use Rattle.qv_rup.proofs.marks.Marks.truncate.Goals as goal

pub cutting-smaller : goal.cutting-smaller
cutting-smaller c =
    let more : c.args.left < length c.cutting.self = omega (arith, c.cutting-test.true, c.len.ensures) in
    subst (λ (ls : List Literal). length ls < length c.cutting.self) (sym c.pop.ensures) (fewer c.cutting.self c.args.left more)

pub cutting-preserved : goal.cutting-preserved
cutting-preserved c =
    let more : c.args.left < length c.cutting.self = omega (arith, c.cutting-test.true, c.len.ensures) in
    subst (λ (ls : List Literal). drop (length ls - c.args.left) ls ≡ drop (length c.args.self.now - c.args.left) c.args.self.now) (sym c.pop.ensures) (same-left c.cutting.self c.args.left more ∙ c.cutting.invariant)

pub returns : goal.returns
returns c = sym (all-left c.cutting.self c.args.left (omega (arith, c.cutting-test.false, c.len.ensures))) ∙ c.cutting.invariant
