use Rattle.std.proofs.Common.{◌+◌, ℕ, Option, List, Bor, sym, ap, subst, ◌∙◌, arith}
use Rattle.std.specs.Prelude.{option_map}
use Rattle.qv_sexpr.specs.Script.{list}
use Rattle.qv_sexpr.specs.Items.{Stands}
use Rattle.qv_elab_items.proofs.Attributed.{next-before}
use Rattle.qv_script_defs.specs.Parts.{Asserted, asserted_of}
use Rattle.qv_script_parts.specs.Parted.{IsAsserted}
use Rattle.qv_script_parts.proofs.Attributes.{word-in-front, annotated-at, nothing-annotated, other-annotated, no-attributes, no-name, with-name}
use Rattle.qv_script_parts.proofs.annotated.named_in.Goals as goal

pub returns-then-close-at : goal.returns-then-close-at
returns-then-close-at c = λ p inside q h. nothing-annotated c.args.items.now c.args.text.now c.args.at c.args.close p q inside h (omega arith)

pub returns-then-not-is_annotation : goal.returns-then-not-is_annotation
returns-then-not-is_annotation c = λ p inside q h.
    let a = c.args in
    other-annotated a.items.now a.text.now a.at a.close p q inside h (sym c.is_annotation.ensures ∙ c.if-not-is_annotation.true)

pub behind-attributes-requires : goal.behind-attributes-requires
behind-attributes-requires c =
    let a = c.args in
    let s = c.requires.stand in
    let w = word-in-front a.items.now a.text.now a.at a.close s.0 s.1 (omega arith) (sym c.is_annotation.ensures ∙ c.if-not-is_annotation.false) in
    next-before a.items.now a.text.now (a.at + 1) a.close w.1 w.4 (omega arith)

pub are_attributes-requires-clause-stand : goal.are_attributes-requires-clause-stand
are_attributes-requires-clause-stand c =
    let a = c.args in
    let s = c.requires.stand in
    let d = annotated-at a.items.now a.text.now a.at a.close s.0 s.1 (omega arith) (sym c.is_annotation.ensures ∙ c.if-not-is_annotation.false) c.behind-attributes.result c.behind-attributes.ensures in
    (d.given, d.rest)

pub returns-then-not-are_attributes : goal.returns-then-not-are_attributes
returns-then-not-are_attributes c = λ p inside q h.
    let a = c.args in
    let d = annotated-at a.items.now a.text.now a.at a.close inside h (omega arith) (sym c.is_annotation.ensures ∙ c.if-not-is_annotation.false) c.behind-attributes.result c.behind-attributes.ensures in
    no-attributes a.items.now a.text.now a.at a.close p q c.behind-attributes.result inside d (sym c.if-not-are_attributes.true ∙ c.are_attributes.ensures d.given d.rest)

pub name_given-requires-clause-stand : goal.name_given-requires-clause-stand
name_given-requires-clause-stand c =
    let a = c.args in
    let s = c.requires.stand in
    let d = annotated-at a.items.now a.text.now a.at a.close s.0 s.1 (omega arith) (sym c.is_annotation.ensures ∙ c.if-not-is_annotation.false) c.behind-attributes.result c.behind-attributes.ensures in
    (d.given, d.rest)

pub returns-in_err-name : goal.returns-in_err-name
returns-in_err-name c = λ p inside q h.
    let a = c.args in
    let d = annotated-at a.items.now a.text.now a.at a.close inside h (omega arith) (sym c.is_annotation.ensures ∙ c.if-not-is_annotation.false) c.behind-attributes.result c.behind-attributes.ensures in
    let none = sym (ap (option_map (λ (m : Bor (List ℕ)). m.now)) c.in_err-name.was) ∙ c.name_given.ensures d.given d.rest in
    subst (λ (o : Option (ℕ × Bor (List ℕ))). IsAsserted a.items.now a.text.now (list p inside q) (asserted_of (list p inside q)) (option_map (λ (x : ℕ × Bor (List ℕ)). (x.0, x.1.now)) o)) (sym c.from_residual.ensures)
    (no-name a.items.now a.text.now a.at a.close p q c.behind-attributes.result inside d (sym c.if-not-are_attributes.false ∙ c.are_attributes.ensures d.given d.rest) none)

pub returns : goal.returns
returns c = λ p inside q h.
    let a = c.args in
    let d = annotated-at a.items.now a.text.now a.at a.close inside h (omega arith) (sym c.is_annotation.ensures ∙ c.if-not-is_annotation.false) c.behind-attributes.result c.behind-attributes.ensures in
    let own = sym (ap (option_map (λ (m : Bor (List ℕ)). m.now)) c.in_ok-name.was) ∙ c.name_given.ensures d.given d.rest in
    let so = with-name a.items.now a.text.now a.at a.close p q c.behind-attributes.result inside d c.in_ok-name.name.now (sym c.if-not-are_attributes.false ∙ c.are_attributes.ensures d.given d.rest) own in
    (ap (λ (z : Asserted). z.name) so, subst (λ (z : Asserted). (to : ℕ) × Stands a.items.now a.text.now (a.at + 1) z.term to) (sym so) (c.behind-attributes.result, d.stands))
