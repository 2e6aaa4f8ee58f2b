use Rattle.std.proofs.Common.{◌≡◌, ◌<◌, ◌∷◌, length, refl, sym, subst, ◌∙◌, inr, arith, vec_len}
use Rattle.std.proofs.lemmas.Bool.{eqb-true, eqb-false}
use Rattle.std.proofs.lemmas.List.{nil_from_length}
use Rattle.qv_text.specs.Reading.{Lexeme}
use Rattle.qv_sexpr.specs.declared.answers.Stop.TheVariants.{Parse}
use Rattle.qv_sexpr.specs.declared.answers.ParseKind.TheVariants.{Atom}
use Rattle.qv_sexpr.specs.Script.{atom}
use Rattle.qv_sexpr.specs.Building.{Levels, Builds, Refuses, Resumes}
use Rattle.qv_sexpr.proofs.Standing.{snoc}
use Rattle.qv_sexpr.proofs.Levels.{no_parenthesis, resumes_atom, resumes_outside}
use Rattle.qv_sexpr.proofs.Gathering.{taken_atom, none_open, some_open}
use Rattle.qv_sexpr.proofs.building.Builder.add_atom.Goals as goal

pub returns-then-is_outside : goal.returns-then-is_outside
returns-then-is_outside c = λ lists builds.
    let old = c.args.self.now in
    let l : Lexeme = record { kind = c.args.kind; place = c.args.place; text = c.args.text.now } in
    let empty : length old.unclosed.items ≡ 0 = omega (arith, old.unclosed.ok.0, eqb-true (vec_len old.unclosed) 0 (sym c.is_empty-is_outside.ensures ∙ c.if-is_outside.true)) in
    subst (λ (ls : Levels). Refuses ls l (Parse (record { place = l.place; kind = Atom })))
    (sym (none_open old.items.items old.text.items old.unclosed.items lists (length old.items.items) builds (nil_from_length old.unclosed.items empty)))
    (inr ((no_parenthesis l.kind c.requires.atom, refl), λ ts. resumes_outside l ts c.requires.atom))

pub returns : goal.returns
returns c = λ lists builds.
    let old = c.args.self.now in
    let l : Lexeme = record { kind = c.args.kind; place = c.args.place; text = c.args.text.now } in
    let some : 0 < length old.unclosed.items = omega (arith, old.unclosed.ok.0, eqb-false (vec_len old.unclosed) 0 (sym c.is_empty-is_outside.ensures ∙ c.if-is_outside.false)) in
    let is = some_open old.items.items old.text.items old.unclosed.items lists (length old.items.items) builds some in
    subst (λ (ls : Levels). Resumes ls l (record { items = c.push.new.self; text = c.extend_from_slice.new.self; unclosed = old.unclosed })) (sym is.2) (
      (is.0.0, snoc is.0.1 (atom l)) ∷ is.1,
      taken_atom old (record { items = c.push.new.self; text = c.extend_from_slice.new.self; unclosed = old.unclosed }) l is.0.0 _ _ is.0.1 is.1 (subst (Builds old) is.2 builds) c.requires.token
          (omega (arith, old.text.ok.0)) (omega (arith, c.extend_from_slice.new.self.ok.0)) c.in_ok-push.ensures.items c.in_ok-extend_from_slice.ensures.items refl,
      λ ts. resumes_atom is.0.0 is.0.1 is.1 l ts c.requires.atom,
    )
