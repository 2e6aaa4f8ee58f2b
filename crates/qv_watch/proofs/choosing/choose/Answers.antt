use Rattle.std.proofs.Common.{Some, refl, sym, ◌∙◌, ap, arith}
use Rattle.std.proofs.lemmas.Bool.{false≢true}
use Rattle.qv_watch.proofs.Picking.{chosen, no_first, no_second, true_at}
use Rattle.qv_watch.proofs.choosing.choose.Goals as goal

pub unreachable-requires : goal.unreachable-requires
unreachable-requires c = no_first c.args.values.now.entries c.args.lits.now c.requires (c.in_default.ensures.none refl)

pub returns-then-is_settled : goal.returns-then-is_settled
returns-then-is_settled c =
    let settled = c.is_settled.ensures.0 c.if-is_settled.true in
    true_at c.args.values.now.entries c.args.lits.now c.in-Some.first 0 c.requires.once c.in-Some.ensures.some.own settled.0 (omega (arith, settled.1))

pub unreachable-requires-in_default-best : goal.unreachable-requires-in_default-best
unreachable-requires-in_default-best c =
    no_second c.args.values.now.entries c.args.lits.now c.requires c.in-Some.first c.in-Some.ensures.some (λ both. false≢true (sym c.if-is_settled.false ∙ c.is_settled.ensures.1 both)) (c.in_default-best.ensures.none refl)

pub returns : goal.returns
returns c =
    let first = c.in-Some.ensures.some in
    let second = c.in-Some-best.ensures.some in
    let both = chosen c.args.values.now.entries c.args.lits.now c.requires c.in-Some.first first (λ both. false≢true (sym c.if-is_settled.false ∙ c.is_settled.ensures.1 both)) c.in-Some-best.second second in
    (λ same. second.apart (ap Some same), both.0, both.1, first.own, second.own)
