use Rattle.std.proofs.Common.{rules, ◌≡◌, ◌∙◌, ◌++◌, ◌<◌, List, [], None, ℕ, Ok, option_map, refl, sym, ap, subst, arith}
use Rattle.qv_script_defs.specs.declared.effects.Effect.{Effect as Done}
use Rattle.qv_script_stack.specs.Held.{AreAt}
use Rattle.qv_script_defs.specs.Moves.{Effect, Check, Exit}
use Rattle.qv_script_stack.specs.Steps.{IsEffect}
use Rattle.qv_cert.specs.CertReader.{to_give}
use Rattle.qv_sexpr.specs.Script.{command as stands}
use Rattle.qv_check_script.specs.Reading.{silent}
use Rattle.qv_check_script.specs.Turns.{with_front, to_come}
use Rattle.qv_check_lines.proofs.TakenBy.{nothing-took}
use Rattle.qv_check_script.proofs.Leading.{check-of, stepped-as, ok-weaker, ok-both, end-turns, over-by, end-or, comes-next, command-leaves, leaves-coming, silent-goes, is-silent}
use Rattle.qv_check_script.proofs.commands.effect_turn.Goals as goal

pub section_turn-requires-clause-stepped : goal.section_turn-requires-clause-stepped
section_turn-requires-clause-stepped g c =
    let course = c.args.course.now in
    let r = c.requires.stepped in
    let ids : c.deref.result.now ≡ course.script.assertions ++ course.script.assumed = cc (c.deref.ensures.value, c.in_ok-extend_from_slice-in-Check.ensures.items, c.in_ok-formulas-in-Check.ensures.items, c.assertions.ensures, c.assumptions.ensures) in
    let k = check-of course.store course.script c.args.effect.now r.3 c.in-Check.is r.5 in
    (r.0, r.1, r.2, k.0, stepped-as course r.0 r.1 r.2 r.3 (Check k.0) k.1 r.4, subst (λ (ns : List ℕ). AreAt course.store ns k.0) (sym ids) k.2)

pub returns-in_ok-extend_from_slice-in-Check-clause-turns : goal.returns-in_ok-extend_from_slice-in-Check-clause-turns
returns-in_ok-extend_from_slice-in-Check-clause-turns g c =
    let course = c.args.course.now in
    let ids : c.deref.result.now ≡ course.script.assertions ++ course.script.assumed = cc (c.deref.ensures.value, c.in_ok-extend_from_slice-in-Check.ensures.items, c.in_ok-formulas-in-Check.ensures.items, c.assertions.ensures, c.assumptions.ensures) in
    ok-weaker c.section_turn.result _ _ c.section_turn.ensures.turns
    (λ t go s e now effect rest h is place.
    let k = check-of course.store course.script c.args.effect.now effect c.in-Check.is is in
    go s e now k.0 rest (stepped-as course s e now effect (Check k.0) k.1 h) (subst (λ (ns : List ℕ). AreAt course.store ns k.0) (sym ids) k.2) place)

pub returns-in_ok-extend_from_slice-in-Check-clause-limit : goal.returns-in_ok-extend_from_slice-in-Check-clause-limit
returns-in_ok-extend_from_slice-in-Check-clause-limit g c = λ met s e now effect rest h is.
    let course = c.args.course.now in
    let ids : c.deref.result.now ≡ course.script.assertions ++ course.script.assumed = cc (c.deref.ensures.value, c.in_ok-extend_from_slice-in-Check.ensures.items, c.in_ok-formulas-in-Check.ensures.items, c.assertions.ensures, c.assumptions.ensures) in
    let k = check-of course.store course.script c.args.effect.now effect c.in-Check.is is in
    c.section_turn.ensures.limit met s e now k.0 rest (stepped-as course s e now effect (Check k.0) k.1 h) (subst (λ (ns : List ℕ). AreAt course.store ns k.0) (sym ids) k.2)

pub returns-in-Exit-clause-limit : goal.returns-in-Exit-clause-limit
returns-in-Exit-clause-limit g c = λ met s e now effect rest h is.
    let course = c.args.course.now in
    let reader = c.args.reader.now in
    let leaves : effect ≡ Exit = subst (λ (d : Done). IsEffect course.store course.script d effect) c.in-Exit.is is in
    let gives = h.gives ∙ ap (λ (f : Effect). Ok (now, f)) leaves in
    let m = c.finish.ensures.limit met in
    record {
      took = m.took;
      wanted = leaves-coming c.args.places reader.version course.checks reader.given s e rest (to_give reader.rest (g.C.Source.left c.args.cert.now)) now (λ o. c.finish.new.reader.given < o.last) gives m.wanted;
    }

pub returns-in-Exit-clause-turns : goal.returns-in-Exit-clause-turns
returns-in-Exit-clause-turns g c =
    let course = c.args.course.now in
    let reader = c.args.reader.now in
    ok-both c.finish.result _ _ _ c.finish.ensures.ends c.finish.ensures.no_more
    (λ t ends end s e now effect rest h is place.
    let leaves : effect ≡ Exit = subst (λ (d : Done). IsEffect course.store course.script d effect) c.in-Exit.is is in
    let gives = h.gives ∙ ap (λ (f : Effect). Ok (now, f)) leaves in
    let old = option_map (stands e) rest in
    end-turns c.args.places t _ s old rest None _ _ (over-by c.args.places t s old None end (e, now, gives, comes-next e rest))
    (command-leaves c.args.places reader.version course.checks reader.given s e rest (to_give reader.rest (g.C.Source.left c.args.cert.now)) now t gives ends))

pub returns-in-Exit-clause-goes_on : goal.returns-in-Exit-clause-goes_on
returns-in-Exit-clause-goes_on g c = ok-weaker c.finish.result _ _ c.finish.ensures.no_more (λ t end on. end-or t _ end on)

pub returns-in_default : goal.returns-in_default
returns-in_default g c =
    let course = c.args.course.now in
    let reader = c.args.reader.now in
    let old = to_give reader.rest (g.C.Source.left c.args.cert.now) in
    record {
      turns = λ s e now effect rest h is place. (
        now,
        h.stands,
        (e, [], silent now effect h.gives (is-silent course.store course.script c.args.effect.now effect c.in_default.not-Check c.in_default.not-CheckAssuming c.in_default.not-Exit is), refl, c.new.ensures.items),
        silent-goes c.args.places reader.version course.checks reader.given s e rest old now course.store course.script c.args.effect.now effect c.in_default.not-Check c.in_default.not-CheckAssuming c.in_default.not-Exit h.gives is
            ∙ ap (λ (line : List ℕ). option_map (with_front line) (to_come c.args.places reader.version course.checks now rest reader.given old)) (sym c.new.ensures.items),
      );
      goes_on = λ _. (c.requires.begun, c.requires.reads);
      takes = λ _. nothing-took g.C.Source.read_gives g.C.Source.left reader c.args.cert.now;
      checks = omega arith;
      version = refl;
      read = search rules;
      limit = search rules;
      no_write = search rules;
      telling = refl;
      count = omega arith;
    }

pub returns-in-Exit-clause-takes : goal.returns-in-Exit-clause-takes
returns-in-Exit-clause-takes g c = ok-weaker c.finish.result _ _ c.finish.ensures.no_more (λ t end on. end-or t _ end on)
