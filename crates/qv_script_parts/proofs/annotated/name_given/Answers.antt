use Rattle.std.proofs.Common.{ℕ, Option, List, Bor, sym, ap, subst, ◌∙◌, arith}
use Rattle.std.specs.Prelude.{option_map}
use Rattle.qv_elab_items.proofs.Attributed.{next-before, next-at}
use Rattle.qv_script_parts.proofs.Attributes.{NameLeft, name-here, name-stays, name-found, name-twice, name-wrong, name-end, some-of, none-of}
use Rattle.qv_script_parts.proofs.annotated.name_given.Goals as goal

pub attributes-init : goal.attributes-init
attributes-init c = record {
  left = name-here c.args.items.now c.args.text.now c.args.from c.args.to;
}

pub behind-next-requires : goal.behind-next-requires
behind-next-requires c =
    let a = c.args in
    let l = c.attributes.invariant.left c.requires.stand.0 c.requires.stand.1 in
    next-before a.items.now a.text.now c.attributes.at a.to l.0 l.1 c.attributes-test.true

pub returns-then-is_some : goal.returns-then-is_some
returns-then-is_some c = λ es h.
    let a = c.args in
    let n = some-of c.attributes.name (sym c.is_some.ensures ∙ c.if-is_some.true) in
    let left = subst (λ (o : Option (Bor (List ℕ))). NameLeft a.items.now a.text.now a.from c.attributes.at a.to (option_map (λ (m : Bor (List ℕ)). m.now) o)) n.1 c.attributes.invariant.left in
    name-twice a.items.now a.text.now a.from c.attributes.at a.to n.0.now left c.attributes-test.true c.behind-next.result c.behind-next.ensures (sym c.is_named.ensures ∙ c.if-is_named.true) es h

pub symbol_in_front-requires-clause-stand : goal.symbol_in_front-requires-clause-stand
symbol_in_front-requires-clause-stand c =
    let a = c.args in
    let l = c.attributes.invariant.left c.requires.stand.0 c.requires.stand.1 in
    let n = next-at a.items.now a.text.now c.attributes.at a.to l.0 l.1 c.attributes-test.true c.behind-next.result c.behind-next.ensures in
    (n.1, n.4)

pub returns-in_err-symbol_in_front : goal.returns-in_err-symbol_in_front
returns-in_err-symbol_in_front c = λ es h.
    let a = c.args in
    let none = none-of c.attributes.name (sym c.is_some.ensures ∙ c.if-is_some.false) in
    let left = subst (λ (o : Option (Bor (List ℕ))). NameLeft a.items.now a.text.now a.from c.attributes.at a.to (option_map (λ (m : Bor (List ℕ)). m.now) o)) none c.attributes.invariant.left in
    ap (option_map (λ (m : Bor (List ℕ)). m.now)) c.from_residual.ensures
    ∙ name-wrong a.items.now a.text.now a.from c.attributes.at a.to left c.attributes-test.true c.behind-next.result c.behind-next.ensures (sym c.is_named.ensures ∙ c.if-is_named.true)
    (λ fs k. sym (ap (option_map (λ (m : Bor (List ℕ)). m.now)) c.in_err-symbol_in_front.was) ∙ c.symbol_in_front.ensures fs k) es h

pub attributes-smaller : goal.attributes-smaller
attributes-smaller c =
    let a = c.args in
    let l = c.attributes.invariant.left c.requires.stand.0 c.requires.stand.1 in
    let n = next-at a.items.now a.text.now c.attributes.at a.to l.0 l.1 c.attributes-test.true c.behind-next.result c.behind-next.ensures in
    omega (arith, n.5, n.6)

pub attributes-smaller-in_ok-symbol_in_front : goal.attributes-smaller-in_ok-symbol_in_front
attributes-smaller-in_ok-symbol_in_front c =
    let a = c.args in
    let l = c.attributes.invariant.left c.requires.stand.0 c.requires.stand.1 in
    let n = next-at a.items.now a.text.now c.attributes.at a.to l.0 l.1 c.attributes-test.true c.behind-next.result c.behind-next.ensures in
    omega (arith, n.5, n.6)

pub attributes-preserved : goal.attributes-preserved
attributes-preserved c = record {
  left =
      let a = c.args in
      name-stays a.items.now a.text.now a.from c.attributes.at a.to (option_map (λ (m : Bor (List ℕ)). m.now) c.attributes.name) c.attributes.invariant.left c.attributes-test.true c.behind-next.result c.behind-next.ensures (sym c.is_named.ensures ∙ c.if-is_named.false);
}

pub attributes-preserved-in_ok-symbol_in_front : goal.attributes-preserved-in_ok-symbol_in_front
attributes-preserved-in_ok-symbol_in_front c = record {
  left =
      let a = c.args in
      let none = none-of c.attributes.name (sym c.is_some.ensures ∙ c.if-is_some.false) in
      let left = subst (λ (o : Option (Bor (List ℕ))). NameLeft a.items.now a.text.now a.from c.attributes.at a.to (option_map (λ (m : Bor (List ℕ)). m.now) o)) none c.attributes.invariant.left in
      name-found a.items.now a.text.now a.from c.attributes.at a.to c.in_ok-symbol_in_front.field-0.now left c.attributes-test.true c.behind-next.result c.behind-next.ensures (sym c.is_named.ensures ∙ c.if-is_named.true)
      (λ fs k. sym (ap (option_map (λ (m : Bor (List ℕ)). m.now)) c.in_ok-symbol_in_front.was) ∙ c.symbol_in_front.ensures fs k);
}

pub returns : goal.returns
returns c = λ es h. name-end c.args.items.now c.args.text.now c.args.from c.attributes.at c.args.to (option_map (λ (m : Bor (List ℕ)). m.now) c.attributes.name) c.attributes.invariant.left c.attributes-test.false es h
