use Rattle.std.proofs.Common.{◌≡◌, ◌<◌, ◌≤◌, ◌||◌, ℕ, Bool, true, false, sym, ap, ◌∙◌, arith}
use Rattle.std.specs.Prelude.{nat_lt}
use Rattle.std.proofs.lemmas.Bool.Decides.{nat_tests}
use Rattle.qv_elab_items.proofs.Attributed.{next-before, next-at, attributes-onward, no-attribute, attributes-end}
use Rattle.qv_elab_items.proofs.inside.are_attributes.Goals as goal
use Rattle.qv_elab_items.proofs.inside.are_attributes.Goals.{else-not-is_key-via-then-not-is_key+else-not-is_behind_key, else-not-is_key-via-else-not-is_key}

either : (k b : Bool) → k ≡ false → b ≡ true → (k || b) ≡ true
either k b e f = ap (λ x. x || b) e ∙ f

pub returns-then-not-is_behind_key : goal.returns-then-not-is_behind_key
returns-then-not-is_behind_key c = λ es h.
    let a = c.args in
    no-attribute a.items.now a.text.now a.from c.attributes.at a.to c.attributes.is_behind_key c.attributes.invariant.left c.attributes-test.true c.if-not-is_behind_key.true (sym c.if-not-is_key.true ∙ c.is_keyword-is_key.ensures) es h

pub behind-at-requires : goal.behind-at-requires
behind-at-requires c =
    let a = c.args in
    let l = c.attributes.invariant.left c.requires.stand.0 c.requires.stand.1 in
    next-before a.items.now a.text.now c.attributes.at a.to l.0 l.1 c.attributes-test.true

pub attributes-smaller : goal.attributes-smaller
attributes-smaller c =
    let a = c.args in
    let l = c.attributes.invariant.left c.requires.stand.0 c.requires.stand.1 in
    let n = next-at a.items.now a.text.now c.attributes.at a.to l.0 l.1 c.attributes-test.true c.behind-at.result c.behind-at.ensures in
    omega (arith, n.5, n.6)

pub attributes-preserved : goal.attributes-preserved
attributes-preserved c = record {
  left =
      let a = c.args in
      let key : (c.is_keyword-is_key.result || c.attributes.is_behind_key) ≡ true =
      elim c.else-not-is_key.branch [
        | else-not-is_key-via-then-not-is_key+else-not-is_behind_key w ↦ either c.is_keyword-is_key.result c.attributes.is_behind_key w.if-not-is_key.true w.if-not-is_behind_key.false
        | else-not-is_key-via-else-not-is_key w ↦ ap (λ x. x || c.attributes.is_behind_key) w.if-not-is_key.false
      ] in
      attributes-onward a.items.now a.text.now a.from c.attributes.at a.to c.attributes.is_behind_key c.attributes.invariant.left c.attributes-test.true c.is_keyword-is_key.result c.is_keyword-is_key.ensures key c.behind-at.result c.behind-at.ensures;
}

is-less : (a b : ℕ) → a < b → nat_lt a b ≡ true
is-less a b h = grind (arith, nat_tests)

not-less : (a b : ℕ) → b ≤ a → nat_lt a b ≡ false
not-less a b h = grind (arith, nat_tests)

pub returns : goal.returns
returns c = λ es h.
    let a = c.args in
    attributes-end a.items.now a.text.now a.from c.attributes.at a.to c.attributes.is_behind_key c.attributes.invariant.left c.attributes-test.false (nat_lt a.from a.to) (is-less a.from a.to) (not-less a.from a.to) es h
