use Rattle.std.proofs.Common.{◌<◌, Option, None, inl, inr, refl, sym, ap, subst}
use Rattle.qv_sexpr.specs.declared.answers.Next.{Next}
use Rattle.qv_sexpr.specs.Script.{Script as Commands, all_read, lexical, parsing, nesting}
use Rattle.qv_sexpr.specs.Reader.{GivesNext, stop_of}
use Rattle.qv_cert.specs.CertReader.{to_give}
use Rattle.qv_check_script.specs.declared.turns.Turn.{Turn}
use Rattle.qv_script_defs.specs.State.{State}
use Rattle.qv_check_script.specs.declared.ending.Ending.TheVariants.{Faulty}
use Rattle.qv_check_script.specs.Reading.{ShowsEnd, ShowsEnding}
use Rattle.qv_check_script.specs.Turns.{to_come, Ends, TurnsTo, StopsWanting}
use Rattle.qv_check_script.proofs.Closing.{writes}
use Rattle.qv_check_script.proofs.Leading.{ok-weaker, ok-both, ok-any, end-turns, ends-by, over-by, end-or, text-fails, text-ends, text-coming}
use Rattle.qv_check_script.proofs.commands.next_turn.Goals as goal

pub command_turn-requires-clause-expr : goal.command_turn-requires-clause-expr
command_turn-requires-clause-expr g c =
    let r = c.requires.given in
    let k = subst (λ (n : Next). GivesNext r.0 n r.1) c.in-Command.is r.2 in
    (k.0, k.1)

pub returns-in-Command-clause-turns : goal.returns-in-Command-clause-turns
returns-in-Command-clause-turns g c =
    let reader = c.args.reader.now in
    let reader' = c.command_turn.new.reader in
    let course' = c.command_turn.new.course in
    ok-weaker c.command_turn.result _ _ c.command_turn.ensures.turns
    (λ t go s old new standing gives.
    let k = subst (λ (n : Next). GivesNext old n new) c.in-Command.is gives in
    let before = λ (o : Option Commands). to_come c.args.places reader.version c.args.course.now.checks s o reader.given (to_give reader.rest (g.C.Source.left c.args.cert.now)) in
    let behind = λ (now : State). to_come c.args.places reader.version course'.checks now new reader'.given (to_give reader'.rest (g.C.Source.left c.command_turn.new.cert)) in
    subst (λ (n : Next). TurnsTo c.args.places t course' s old new (stop_of n) (before old) behind) (sym c.in-Command.is)
    (subst (λ (o : Option Commands). TurnsTo c.args.places t course' s o new None (before o) behind) (sym k.2) (go s k.0 new standing k.1)))

pub returns-in-Command-clause-read : goal.returns-in-Command-clause-read
returns-in-Command-clause-read g c = λ e. inr (c.command_turn.ensures.read e)

pub returns-in-Command-clause-limit : goal.returns-in-Command-clause-limit
returns-in-Command-clause-limit g c = λ met. inr (λ s old new standing gives.
    let reader = c.args.reader.now in
    let k = subst (λ (n : Next). GivesNext old n new) c.in-Command.is gives in
    let before = λ (o : Option Commands). to_come c.args.places reader.version c.args.course.now.checks s o reader.given (to_give reader.rest (g.C.Source.left c.args.cert.now)) in
    subst (λ (o : Option Commands). StopsWanting g.C.Source.read_gives g.C.Source.left reader c.args.cert.now c.command_turn.new.reader c.command_turn.new.cert (before o)) (sym k.2) (c.command_turn.ensures.limit met s k.0 new standing k.1))

pub returns-in-Command-clause-commands : goal.returns-in-Command-clause-commands
returns-in-Command-clause-commands g c = ok-any c.command_turn.result _ (ap stop_of c.in-Command.is)

pub returns-in-End-clause-turns : goal.returns-in-End-clause-turns
returns-in-End-clause-turns g c =
    let reader = c.args.reader.now in
    ok-both c.finish.result _ _ _ c.finish.ensures.ends c.finish.ensures.no_more
    (λ t ends end s old new standing gives.
    let k = subst (λ (n : Next). GivesNext old n new) c.in-End.is gives in
    let shows = subst (λ (n : Next). ShowsEnd s old (stop_of n)) (sym c.in-End.is) (refl, k) in
    end-turns c.args.places t _ s old new (stop_of c.args.next) _ _ (over-by c.args.places t s old (stop_of c.args.next) end shows)
    (text-ends c.args.places reader.version c.args.course.now.checks reader.given s all_read old (to_give reader.rest (g.C.Source.left c.args.cert.now)) t refl k ends))

pub returns-in-End-clause-goes_on : goal.returns-in-End-clause-goes_on
returns-in-End-clause-goes_on g c = ok-weaker c.finish.result _ _ c.finish.ensures.no_more (λ t end on. end-or t _ end on)

pub returns-in-End-clause-read : goal.returns-in-End-clause-read
returns-in-End-clause-read g c = λ e. inr (c.finish.ensures.read e)

pub returns-in-End-clause-limit : goal.returns-in-End-clause-limit
returns-in-End-clause-limit g c = λ met. inr (λ s old new standing gives.
    let reader = c.args.reader.now in
    let k = subst (λ (n : Next). GivesNext old n new) c.in-End.is gives in
    let m = c.finish.ensures.limit met in
    record {
      took = m.took;
      wanted = text-coming c.args.places reader.version c.args.course.now.checks reader.given s all_read old (to_give reader.rest (g.C.Source.left c.args.cert.now)) (λ o. c.finish.new.reader.given < o.last) refl k m.wanted;
    })

pub returns-in-End-clause-commands : goal.returns-in-End-clause-commands
returns-in-End-clause-commands g c = ok-weaker c.finish.result _ _ c.finish.ensures.no_more (λ t end on. end-or t _ end on)

pub returns-in_ok-lex_line-in-Lex-clause-turns : goal.returns-in_ok-lex_line-in-Lex-clause-turns
returns-in_ok-lex_line-in-Lex-clause-turns g c s old new standing gives =
    let reader = c.args.reader.now in
    let k = subst (λ (n : Next). GivesNext old n new) c.in-Lex.is gives in
    let line = c.in_ok-lex_line-in-Lex.field-0.items in
    let t = c.faulty.result in
    let ends = subst (λ (u : Turn). Ends (writes line 1) u) (sym c.faulty.ensures) refl in
    let shows = subst (λ (n : Next). ShowsEnding c.args.places s old (stop_of n) Faulty) (sym c.in-Lex.is) (refl, k) in
    end-turns c.args.places t _ s old new (stop_of c.args.next) _ _ (ends-by (ShowsEnding c.args.places s old (stop_of c.args.next)) Faulty line t ends shows)
    (text-fails c.args.places reader.version c.args.course.now.checks reader.given s (lexical c.in-Lex.fault) line old (to_give reader.rest (g.C.Source.left c.args.cert.now)) t c.in_ok-lex_line-in-Lex.ensures k ends)

pub returns-in_ok-parse_line-in-Parse-clause-turns : goal.returns-in_ok-parse_line-in-Parse-clause-turns
returns-in_ok-parse_line-in-Parse-clause-turns g c s old new standing gives =
    let reader = c.args.reader.now in
    let k = subst (λ (n : Next). GivesNext old n new) c.in-Parse.is gives in
    let line = c.in_ok-parse_line-in-Parse.field-0.items in
    let t = c.faulty-in-Parse.result in
    let ends = subst (λ (u : Turn). Ends (writes line 1) u) (sym c.faulty-in-Parse.ensures) refl in
    let shows = subst (λ (n : Next). ShowsEnding c.args.places s old (stop_of n) Faulty) (sym c.in-Parse.is) (refl, k) in
    end-turns c.args.places t _ s old new (stop_of c.args.next) _ _ (ends-by (ShowsEnding c.args.places s old (stop_of c.args.next)) Faulty line t ends shows)
    (text-fails c.args.places reader.version c.args.course.now.checks reader.given s (parsing c.in-Parse.fault) line old (to_give reader.rest (g.C.Source.left c.args.cert.now)) t c.in_ok-parse_line-in-Parse.ensures k ends)

pub returns-in_ok-nesting_line-in-NestingLimit-clause-turns : goal.returns-in_ok-nesting_line-in-NestingLimit-clause-turns
returns-in_ok-nesting_line-in-NestingLimit-clause-turns g c s old new standing gives =
    let reader = c.args.reader.now in
    let k = subst (λ (n : Next). GivesNext old n new) c.in-NestingLimit.is gives in
    let line = c.in_ok-nesting_line-in-NestingLimit.field-0.items in
    let t = c.faulty-in-NestingLimit.result in
    let ends = subst (λ (u : Turn). Ends (writes line 1) u) (sym c.faulty-in-NestingLimit.ensures) refl in
    let shows = subst (λ (n : Next). ShowsEnding c.args.places s old (stop_of n) Faulty) (sym c.in-NestingLimit.is) (refl, k) in
    end-turns c.args.places t _ s old new (stop_of c.args.next) _ _ (ends-by (ShowsEnding c.args.places s old (stop_of c.args.next)) Faulty line t ends shows)
    (text-fails c.args.places reader.version c.args.course.now.checks reader.given s (nesting c.in-NestingLimit.place) line old (to_give reader.rest (g.C.Source.left c.args.cert.now)) t c.in_ok-nesting_line-in-NestingLimit.ensures k ends)

pub returns-in-ReadFault-clause-read : goal.returns-in-ReadFault-clause-read
returns-in-ReadFault-clause-read g c = λ _. inl (ap stop_of c.in-ReadFault.is)

pub returns-in-ReadLimit-clause-limit : goal.returns-in-ReadLimit-clause-limit
returns-in-ReadLimit-clause-limit g c = λ _. inl (ap stop_of c.in-ReadLimit.is)

pub returns-in-End-clause-takes : goal.returns-in-End-clause-takes
returns-in-End-clause-takes g c = ok-weaker c.finish.result _ _ c.finish.ensures.no_more (λ t end on. end-or t _ end on)
