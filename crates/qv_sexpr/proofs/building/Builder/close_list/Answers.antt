use Rattle.std.proofs.Common.{◌≡◌, ◌==◌, ℕ, List, [], length, refl, sym, ap, subst, ◌∙◌, inr, arith}
use Rattle.std.proofs.lemmas.List.{nil_from_length}
use Rattle.std.proofs.lemmas.Option.{slice_get_within}
use Rattle.qv_text.specs.declared.kinds.TokenKind.TheVariants.{RightParen}
use Rattle.qv_sexpr.specs.declared.answers.Stop.TheVariants.{Parse}
use Rattle.qv_sexpr.specs.declared.answers.ParseKind.TheVariants.{Close}
use Rattle.qv_sexpr.specs.Building.{Levels, Opened, Refuses}
use Rattle.qv_sexpr.proofs.Levels.{resumes_unmatched}
use Rattle.qv_sexpr.proofs.Gathering.{taken_close, written, innermost, none_open}
use Rattle.qv_sexpr.proofs.building.Builder.close_list.Goals as goal

pub returns-in_default : goal.returns-in_default
returns-in_default c = λ text lists builds.
    let old = c.args.self.now in
    let empty : old.unclosed.items ≡ [] = nil_from_length old.unclosed.items (omega (arith, old.unclosed.ok.0, c.in_default.ensures.cases.0)) in
    subst (λ (ls : Levels). Refuses ls (record { kind = RightParen; place = c.args.place; text = text }) (Parse (record { place = c.args.place; kind = Close })))
    (sym (none_open old.items.items old.text.items old.unclosed.items lists (length old.items.items) builds empty))
    (inr ((refl, refl), λ ts. resumes_unmatched c.args.place text ts))

pub set_kind-requires : goal.set_kind-requires
set_kind-requires c =
    let old = c.args.self.now in
    let at = innermost old.items.items old.text.items c.pop.new.self.items c.in-Some.number c.requires.0 (length old.items.items)
    (subst (λ (u : List ℕ). Opened old.items.items old.text.items u c.requires.0 (length old.items.items)) c.in-Some.ensures.items c.requires.1) in
    let within = slice_get_within old.items.items c.in-Some.number _ at.4.1 in
    omega (arith, within, ap length c.deref_mut.ensures.value)

pub returns : goal.returns
returns c = λ text lists builds.
    let old = c.args.self.now in
    taken_close old c.add_parenthesis.new.self lists c.pop.new.self.items c.in-Some.number c.args.place (length old.text.items) c.len-close.result text c.is_empty.result builds
    (omega (arith, old.items.ok.0)) c.in-Some.ensures.items c.add_parenthesis.ensures.unclosed c.add_parenthesis.ensures.text
    (λ item. c.in_ok-add_parenthesis.ensures.ok ∙ written old.items.items c.deref_mut.result.now c.set_kind.new.items c.in-Some.number old.items.len _ item _ c.deref_mut.ensures.value (omega (arith, old.items.ok.0)) (c.set_kind.ensures item))
    (c.is_empty.ensures ∙ ap (λ n. n == 0) (omega (arith, c.add_parenthesis.new.self.unclosed.ok.0)))
