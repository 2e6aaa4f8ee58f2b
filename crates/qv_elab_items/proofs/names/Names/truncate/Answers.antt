use Rattle.std.proofs.Common.{◌≡◌, ◌<◌, ◌-◌, sym, ◌∙◌, subst, length, drop, arith}
use Rattle.qv_elab_items.proofs.NameTables.{fewer, same-left, all-left}
use Rattle.qv_elab_items.proofs.names.Names.truncate.Goals as goal

pub names-smaller : goal.names-smaller
names-smaller c =
    let more : c.args.left < length c.names.self = omega (arith, c.names-test.true, c.len.ensures) in
    subst (λ ns. length ns < length c.names.self) (sym c.pop.ensures) (fewer c.names.self c.args.left more)

pub names-preserved : goal.names-preserved
names-preserved c =
    let more : c.args.left < length c.names.self = omega (arith, c.names-test.true, c.len.ensures) in
    subst (λ ns. drop (length ns - c.args.left) ns ≡ drop (length c.args.self.now - c.args.left) c.args.self.now) (sym c.pop.ensures) (same-left c.names.self c.args.left more ∙ c.names.invariant)

pub returns : goal.returns
returns c = sym (all-left c.names.self c.args.left (omega (arith, c.names-test.false, c.len.ensures))) ∙ c.names.invariant
