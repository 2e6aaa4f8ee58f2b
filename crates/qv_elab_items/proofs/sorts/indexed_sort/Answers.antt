use Rattle.std.proofs.Common.{◌≡◌, true, false, sym, ap, ◌∙◌}
use Rattle.std.specs.Prelude.{codes}
use Rattle.std.specs.Str.{bytes_eq}
use Rattle.qv_elab_defs.specs.Answers.{answered}
use Rattle.qv_elab_items.proofs.Wanting.{is-bits, is-bool}
use Rattle.qv_elab_items.proofs.sorts.indexed_sort.Goals as goal

pub returns-then-eq : goal.returns-then-eq
returns-then-eq c =
    let parts = c.in-Some.ensures in
    let named : bytes_eq c.in-Some.name.name.now (codes "BitVec") ≡ true = sym (ap (λ l. bytes_eq c.in-Some.name.name.now l) c.as_slice.ensures) ∙ sym c.eq.ensures ∙ c.if-eq.true in
    c.bits.ensures _ parts.3
    ∙ sym (ap answered (is-bits c.args.text.now c.args.items.now c.args.place c.in-Some.name.place c.in-Some.name.name.now parts.0 parts.1 parts.2 named))

pub returns-then-eq-2 : goal.returns-then-eq-2
returns-then-eq-2 c =
    let parts = c.in-Some.ensures in
    let other : bytes_eq c.in-Some.name.name.now (codes "BitVec") ≡ false = sym (ap (λ l. bytes_eq c.in-Some.name.name.now l) c.as_slice.ensures) ∙ sym c.eq.ensures ∙ c.if-eq.false in
    let named : bytes_eq c.in-Some.name.name.now (codes "Bool") ≡ true = sym (ap (λ l. bytes_eq c.in-Some.name.name.now l) c.as_slice-2.ensures) ∙ sym c.eq-2.ensures ∙ c.if-eq-2.true in
    c.no_indices.ensures _ parts.3
    ∙ sym (ap answered (is-bool c.args.text.now c.args.items.now c.args.place c.in-Some.name.place c.in-Some.name.name.now parts.0 parts.1 parts.2 other named))
