use Rattle.std.proofs.Common.{true, false, sym, ◌∙◌, arith}
use Rattle.qv_elab_items.proofs.Pairing.{not-list}
use Rattle.qv_elab_items.proofs.Within.{read-at, here, inside-of, inside-within, is-told}
use Rattle.qv_elab_items.proofs.inside.behind_pair.Goals as goal

pub returns-in_default : goal.returns-in_default
returns-in_default c = λ e to h.
    let a = c.args in
    not-list a.items.now a.text.now a.at (read-at a.items.now a.at) (here a.items.now a.at c.requires.within) c.in_default.not-Open e to h

pub is_pair_within-requires-clause-stand : goal.is_pair_within-requires-clause-stand
is_pair_within-requires-clause-stand c =
    let a = c.args in
    let i = inside-of a.items.now a.text.now a.at c.in-Open.close c.requires.within c.in-Open.is c.requires.stands.0 c.requires.stands.1 c.requires.stands.2 in
    (i.1, i.4)

pub is_pair_within-requires-clause-within : goal.is_pair_within-requires-clause-within
is_pair_within-requires-clause-within c =
    let a = c.args in
    inside-within a.items.now a.text.now a.at c.in-Open.close c.requires.within c.in-Open.is c.requires.stands.0 c.requires.stands.1 c.requires.stands.2

pub is_pair_within-requires-clause-closed : goal.is_pair_within-requires-clause-closed
is_pair_within-requires-clause-closed c =
    let a = c.args in
    let i = inside-of a.items.now a.text.now a.at c.in-Open.close c.requires.within c.in-Open.is c.requires.stands.0 c.requires.stands.1 c.requires.stands.2 in
    (i.2, i.5)

pub returns-then-is_pair_within : goal.returns-then-is_pair_within
returns-then-is_pair_within c = λ e to h.
    let a = c.args in
    is-told a.items.now a.text.now a.at c.in-Open.close c.requires.within c.in-Open.is true (λ inside k. sym c.if-is_pair_within.true ∙ c.is_pair_within.ensures inside k) e to h

pub returns-else-is_pair_within : goal.returns-else-is_pair_within
returns-else-is_pair_within c = λ e to h.
    let a = c.args in
    is-told a.items.now a.text.now a.at c.in-Open.close c.requires.within c.in-Open.is false (λ inside k. sym c.if-is_pair_within.false ∙ c.is_pair_within.ensures inside k) e to h

pub overflow_add-result : goal.overflow_add-result
overflow_add-result c =
    let a = c.args in
    let w = inside-within a.items.now a.text.now a.at c.in-Open.close c.requires.within c.in-Open.is c.requires.stands.0 c.requires.stands.1 c.requires.stands.2 in
    omega (arith, w.1)
