use Rattle.std.proofs.Common.{◌≡◌, sym, ap, ◌∙◌, rules, Bor, List, ℕ}
use Rattle.std.specs.Prelude.{option_map, codes}
use Rattle.std.specs.Str.{bytes_eq}
use Rattle.qv_text.specs.declared.kinds.TokenKind.TheVariants.{Reserved}
use Rattle.qv_sexpr.specs.declared.items.ItemKind.TheVariants.{Atom}
use Rattle.qv_elab_items.specs.Flat.{construct_for, construct_by}
use Rattle.qv_script_parts.specs.Parted.{is_annotated}
use Rattle.qv_script_parts.proofs.Attributes.{annotation-word}
use Rattle.qv_script_parts.proofs.annotated.is_annotation.Goals as goal

pub returns-in-Some : goal.returns-in-Some
returns-in-Some c =
    let a = c.args in
    let test : c.eq.result ≡ bytes_eq c.in-Some.word.now (codes "!") = search rules in
    let reserved = rw c.in-Atom-Reserved.is at c.in-Atom-Reserved.field-0-is in
    let kind = c.in-Atom-Reserved.is ∙ ap Atom reserved in
    let word = sym c.text_of.ensures ∙ ap (option_map (λ (m : Bor (List ℕ)). m.now)) c.in-Some.is in
    test ∙ sym (ap (λ k. is_annotated (construct_by a.text.now a.item.now k)) kind ∙ ap (λ o. is_annotated (construct_for Reserved o)) word ∙ annotation-word c.in-Some.word.now)
