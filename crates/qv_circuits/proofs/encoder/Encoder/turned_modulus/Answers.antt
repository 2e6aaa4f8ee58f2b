use Rattle.std.proofs.lemmas.List.{length-map}
use Rattle.qv_circuits.specs.Adding.{lit_of, lits_of}
use Rattle.qv_circuits.proofs.Running.{encodes-then, exits, stopped-first, stopped-then}
use Rattle.qv_circuits.proofs.encoder.Encoder.turned_modulus.Goals as goal

pub returns-in_err-none : goal.returns-in_err-none
returns-in_err-none c =
    let stop = rw (← length-map c.args.a.now lit_of) at c.in_err-none.ensures in
    exits c.from_residual.result (λ v. lits_of v.items) c.from_residual.ensures.1
    (stopped-first _ stop)

pub returns-in_err-differ : goal.returns-in_err-differ
returns-in_err-differ c =
    let ran = rw (← length-map c.args.a.now lit_of) at c.in_ok-none.ensures in
    let stop = rw (c.top.ensures, c.top-2.ensures) at c.in_err-differ.ensures in
    exits c.from_residual-in_err-differ.result (λ v. lits_of v.items) c.from_residual-in_err-differ.ensures.1
    (stopped-then _ ran (stopped-first _ stop))

pub returns-in_err-turn : goal.returns-in_err-turn
returns-in_err-turn c =
    let ran = rw (← length-map c.args.a.now lit_of) at c.in_ok-none.ensures in
    let differ-ran = rw (c.top.ensures, c.top-2.ensures) at c.in_ok-differ.ensures in
    let stop = rw (c.negated.ensures) at c.in_err-turn.ensures in
    exits c.from_residual-in_err-turn.result (λ v. lits_of v.items) c.from_residual-in_err-turn.ensures.1
    (stopped-then _ ran (stopped-then _ differ-ran (stopped-first _ stop)))

pub returns : goal.returns
returns c =
    let ran = rw (← length-map c.args.a.now lit_of) at c.in_ok-none.ensures in
    let differ-ran = rw (c.top.ensures, c.top-2.ensures) at c.in_ok-differ.ensures in
    let turn-ran = rw (c.negated.ensures) at c.in_ok-turn.ensures in
    encodes-then _ (λ v. lits_of v.items) c.plus_where.result _ ran (encodes-then _ (λ v. lits_of v.items) c.plus_where.result _ differ-ran (encodes-then _ (λ v. lits_of v.items) c.plus_where.result _ turn-ran c.plus_where.ensures))
