-- What a run does to its script.
use Rattle.std.proofs.Common.{◌≡◌, ℕ, suc, ◌+◌, ◌≤◌, ◌<◌, ◌⊎◌, inl, inr, false, Option, Some, None, option_map, IfSome, List, [], ◌∷◌, ◌++◌, take, length, length-append, ap₂, Result, Ok, Err, refl, sym, ap, ◌∙◌, subst, arith}
use Rattle.std.specs.Prelude.{All, IsErrOf}
use Rattle.std.proofs.lemmas.List.{append-nil}
use Rattle.std.specs.Result.{IsErrAnd}
use Rattle.qv_sexpr.specs.Limits.{read_limit}
use Rattle.qv_text.specs.Progress.{Progress, fed}
use Rattle.qv_words.proofs.Elements.{some-and}
use Rattle.qv_sexpr.specs.declared.answers.Next.{Next}
use Rattle.qv_sexpr.specs.declared.answers.Next.TheVariants as answer
use Rattle.qv_sexpr.specs.declared.answers.Stop.{Stop}
use Rattle.qv_sexpr.specs.declared.answers.Stop.TheVariants.{ReadLimit}
use Rattle.qv_sexpr.specs.Script.{Script, TextEnd, all_read, lexical, parsing, nesting}
use Rattle.qv_sexpr.specs.Script.{Tree as Expr, command as stands, stops as halts}
use Rattle.qv_sexpr.specs.Reader.{FedGiven, GivesNext, stop_of, text_end}
use Rattle.qv_sexpr.specs.Calls.{OnDemand, nothing, asked, called, ReadsOnDemand}
use Rattle.qv_sexpr.specs.Causes.{Gave, no_call, one_more}
use Rattle.qv_script_defs.specs.State.{State}
use Rattle.qv_meter.specs.Records.{Limits, Record}
use Rattle.qv_cert.specs.TextLaws.{bytes_of_lines}
use Rattle.qv_script_transcript.specs.Following.{CheckSat, end_line}
use Rattle.qv_script_transcript.specs.Certificates.{Certified, checks_of, AreCertified, certificate, sections}
use Rattle.qv_shell_command.specs.declared.ending.Ending.{Ending}
use Rattle.qv_shell_command.specs.declared.ending.Halt.{Halt}
use Rattle.qv_shell_command.specs.declared.ending.Halt.TheVariants as halt
use Rattle.qv_shell_command.specs.declared.moves.After.{After}
use Rattle.qv_shell_command.specs.declared.moves.After.TheVariants.{More, Ended}
use Rattle.qv_shell_command.specs.declared.moves.Move.{Move}
use Rattle.qv_shell_command.specs.declared.moves.Course.{Course}
use Rattle.qv_shell_command.specs.declared.tallies.Tally.{Tally}
use Rattle.qv_shell_command.specs.Ending.{status_of, halt_status}
use Rattle.qv_shell_answer.specs.Metered.{HasLimits}
use Rattle.qv_shell_command.specs.Calls.{AreRecordsBehind, IsFollowed, IsLast, refuses, exceeds, leaves}
use Rattle.qv_shell_command.specs.Moves.{IsRead, ending_of, EndsText, MovesBy, NextMoves}
use Rattle.qv_check_defs.specs.Limits.{MetLimit}
use Rattle.qv_shell_follow.specs.declared.following.Followed.{Followed}
use Rattle.qv_shell_follow.specs.Between.{end_after}
use Rattle.qv_shell_follow.specs.Ending.{run_status}
use Rattle.qv_shell_follow.specs.Tallies.{IsTallied}
use Rattle.qv_shell_follow.specs.Calls.{AreRecordsAtEnd, AreRecordsOfShown, HasFollowed, at_start, one_command, ComesNext, ShowsCommand, ShowsEnd, IsUnread, EndsRun, no_memory, in_section, unfed}
use Rattle.qv_shell_follow.specs.Calls as calls
use Rattle.qv_shell_follow.proofs.Leading.{ended-as}
use Rattle.qv_sexpr.proofs.Along.{fed_more}

-- a command that a reader answers is an expression
pub is-read : (old : Option Script) (next : Next) (new : Option Script) → GivesNext old next new → IsRead next
is-read old (answer.Command expr) new gives = (gives.0, gives.1)
is-read old answer.End new gives = tt
is-read old answer.ReadFault new gives = tt
is-read old answer.ReadLimit new gives = tt
is-read old (answer.Lex fault) new gives = tt
is-read old (answer.Parse fault) new gives = tt
is-read old (answer.NestingLimit place) new gives = tt
is-read old answer.NoMemory new gives = tt

-- a command that stands first where the bytes are told
comes-first : (old new : Option Script) (e : Expr) → old ≡ option_map (stands e) new → ComesNext e old
comes-first None new e h = tt
comes-first (Some s) None e h = absurd cc
comes-first (Some s) (Some rest) e h = (rest, cc)

-- what ends a script has a small status
last-small : (places : ℕ) (s : State) (e : Expr) (text : List ℕ) (status : ℕ) → IsLast places s e text status → status ≤ 1
last-small places s e _ _ (refuses fault is) = omega arith
last-small places s e _ _ (exceeds now formulas is far) = omega arith
last-small places s e _ _ (leaves now is) = omega arith

line-small : (end : TextEnd) → (end_line end).1 ≤ 1
line-small all_read = omega arith
line-small (lexical fault) = omega arith
line-small (parsing fault) = omega arith
line-small (nesting place) = omega arith

shows-small : (places : ℕ) (state : State) (script : Option Script) (stop : Option Stop) (text : List ℕ) (status : ℕ) → ShowsEnd places state script stop text status → status ≤ 1
shows-small places state script None text status h = last-small places state h.0 text status h.1
shows-small places state script (Some stop) text status h =
    let end = some-and (text_end stop) (λ (end : TextEnd). (end_line end ≡ (text, status)) × IfSome script (λ s. s ≡ halts end)) h in
    subst (λ n. n ≤ 1) (ap (λ (p : List ℕ × ℕ). p.1) end.2.0) (line-small end.0)

line-status : (end : TextEnd) → (end_line end).1 ≡ status_of (ending_of end)
line-status all_read = refl
line-status (lexical fault) = refl
line-status (parsing fault) = refl
line-status (nesting place) = refl

text-line : (end : TextEnd) (m : Move) (ending : Ending) (tally : Tally) (c : Course) (before after : List Record) → m.after ≡ Ended ending → EndsText end m tally c before after → end_line end ≡ (m.text.items, status_of ending)
text-line end m ending tally c before after at h =
    let how : ending ≡ ending_of end = ended-as ending (ending_of end) (sym at ∙ h.ends) in
    ap₂ (λ (t : List ℕ) (n : ℕ). (t, n)) (sym h.text) (line-status end ∙ ap status_of (sym how))

-- how a script ends
pub shows-end : (places : ℕ) (limits : Limits) (state : State) (next : Next) (m : Move) (ending : Ending) (tally : Tally) (c : Course) (before after : List Record) (old new : Option Script) →
    m.after ≡ Ended ending → NextMoves places limits state next m tally c before after → GivesNext old next new → ShowsEnd places state old (stop_of next) m.text.items (status_of ending)
shows-end places limits state (answer.Command expr) m ending tally c before after old new at moves gives =
    let last = subst (λ (a : After). MovesBy places a limits state gives.0 m tally c before after) at (moves gives.0 gives.1) in
    (gives.0, last.0, comes-first old new gives.0 gives.2)
shows-end places limits state answer.End m ending tally c before after old new at moves gives = (text-line all_read m ending tally c before after at moves, gives)
shows-end places limits state (answer.Lex fault) m ending tally c before after old new at moves gives = (text-line (lexical fault) m ending tally c before after at moves, gives)
shows-end places limits state (answer.Parse fault) m ending tally c before after old new at moves gives = (text-line (parsing fault) m ending tally c before after at moves, gives)
shows-end places limits state (answer.NestingLimit place) m ending tally c before after old new at moves gives = (text-line (nesting place) m ending tally c before after at moves, gives)
shows-end places limits state answer.ReadFault m ending tally c before after old new at moves gives = absurd moves
shows-end places limits state answer.ReadLimit m ending tally c before after old new at moves gives = absurd moves
shows-end places limits state answer.NoMemory m ending tally c before after old new at moves gives = absurd moves

pub ending-small : (places : ℕ) (limits : Limits) (state : State) (next : Next) (m : Move) (ending : Ending) (tally : Tally) (c : Course) (before after : List Record) (old new : Option Script) →
    m.after ≡ Ended ending → NextMoves places limits state next m tally c before after → GivesNext old next new → status_of ending ≤ 1
ending-small places limits state next m ending tally c before after old new at moves gives =
    shows-small places state old (stop_of next) m.text.items (status_of ending) (shows-end places limits state next m ending tally c before after old new at moves gives)

-- a command behind which it goes on
pub shows-command : (places : ℕ) (limits : Limits) (state behind : State) (e : Expr) (checks : List CheckSat) (text : List ℕ) (old new : Option Script) (stop : Option Stop) (records : List Record) → stop ≡ None → old ≡ option_map (stands e) new →
    (followed : IsFollowed places state e checks text behind) → AreRecordsBehind limits followed records → (shows : ShowsCommand places state old stop checks text) × AreRecordsOfShown places limits state old stop checks text shows records
shows-command places limits state behind e checks text old new stop records none is followed recorded =
    subst (λ (o : Option Stop). (shows : ShowsCommand places state old o checks text) × AreRecordsOfShown places limits state old o checks text shows records) (sym none) ((e, behind, followed, comes-first old new e is), recorded)

-- how a run ends that doesn't come to its script's end
pub ends-halt : {places : ℕ} (limits : Limits) (state : State) (script : Option Script) (stop : Option Stop) (answered : List Certified) (h : Halt) (begun : List Record) → (h ≡ halt.Read → IsUnread stop) → (IsUnread stop → h ≡ halt.Read) → (h ≡ halt.Write → ⊥) →
    (IsUnread stop → begun ≡ []) → All (HasLimits limits) begun → (ends : EndsRun places state script stop answered [] [] (certificate answered) (halt_status h)) × AreRecordsAtEnd places limits ends begun
ends-halt limits state script stop answered halt.Read begun read unread write none limited = (calls.unread (read refl), none (read refl))
ends-halt limits state script stop answered halt.Write begun read unread write none limited = absurd (write refl)
ends-halt limits state script stop answered halt.NoMemory begun read unread write none limited = (no_memory (λ u. let same = unread u in absurd cc), limited)

-- within the section of a check
pub ends-section : {places : ℕ} (limits : Limits) (state : State) (script : Option Script) (stop : Option Stop) (answered cs : List Certified) (text section : List ℕ) (n : ℕ) (records : List Record) → length (checks_of cs) ≤ 1 →
    (shows : ShowsCommand places state script stop (checks_of cs) text) × AreRecordsOfShown places limits state script stop (checks_of cs) text shows records →
    AreCertified (suc (length answered)) cs → n < length section → section ≡ bytes_of_lines (sections cs) → (ends : EndsRun places state script stop answered [] [] (certificate answered ++ take n section) 4) × AreRecordsAtEnd places limits ends records
ends-section limits state script stop answered [] text section n records one shows certified few is = let long : length section ≡ 0 = ap length is in absurd (omega (arith, long, few))
ends-section limits state script stop answered (c ∷ []) text section n records one shows certified few is =
    let same : section ≡ bytes_of_lines c.lines = is ∙ ap bytes_of_lines (append-nil c.lines) in
    (in_section c text (take n section) shows.0 certified.0 (n, subst (λ (t : List ℕ). n < length t) same few, ap (λ (t : List ℕ). take n t) same), shows.1)
ends-section limits state script stop answered (c ∷ (d ∷ ds)) text section n records one shows certified few is = absurd (omega (arith, one))

pub halt-status : (h : Halt) → 3 ≤ halt_status h
halt-status halt.Read = omega arith
halt-status halt.Write = omega arith
halt-status halt.NoMemory = omega arith

-- what becomes of an error by a `?` that makes another of it
pub err-not : (r : Result Followed Halt) (h : Halt) → IsErrAnd r (λ e. e ≡ h) → (h ≡ halt.Read → ⊥) → IsErrOf r halt.Read → ⊥
err-not (Ok e) h and not is = absurd and
err-not (Err e) h and not is = not cc

pub err-same : (r : Result Followed Halt) (h : Halt) → IsErrAnd r (λ e. e ≡ h) → IsErrOf r halt.Read → h ≡ halt.Read
err-same (Ok e) h and is = absurd and
err-same (Err e) h and is = cc

-- the status of a run that halts
pub err-run : (r : Result Followed Halt) (h : Halt) → IsErrAnd r (λ e. e ≡ h) → run_status r ≡ halt_status h
err-run (Ok f) h and = absurd and
err-run (Err e) h and = ap halt_status and

-- it has no tally
pub err-tallied : (r : Result Followed Halt) (h : Halt) (checks : List CheckSat) → IsErrAnd r (λ e. e ≡ h) → IsTallied checks r
err-tallied (Ok f) h checks and = absurd and
err-tallied (Err e) h checks and = tt

-- what comes behind a move, by its end
pub end-of : (a : After) (ending : Ending) → Some ending ≡ end_after a → a ≡ Ended ending
end-of More ending h = absurd cc
end-of (Ended e) ending h = let same : ending ≡ e = cc in ap Ended (sym same)

pub more-of : (a : After) → None ≡ end_after a → a ≡ More
more-of More h = refl
more-of (Ended e) h = absurd cc

-- where so many bytes were taken the source gave them
limit-met : (left left' : Option (List ℕ)) (new : Progress) → FedGiven left unfed left' new → read_limit ≤ fed new → IfSome left (λ text. read_limit ≤ length text)
limit-met None left' new given met = tt
limit-met (Some text) None new given met = absurd given
limit-met (Some text) (Some rest) new given met = omega (arith, given, met)

module _ (places : ℕ) (S : Type 0) (call : S → ℕ → Option (List ℕ) → S → Type 0) where
  -- the bytes that a lexer was fed came from calls of a source
  abbrev Took : S → Progress → S → Type 0
  Took source lexer now = (taken : List ℕ) × Gave call source taken now × (length taken ≡ fed lexer)

  took-later : (source : S) {lexer : Progress} {now : S} {new : Progress} {later : S} → Took source lexer now → OnDemand call lexer now new later → Took source new later
  took-later source h nothing = h
  took-later source h (asked lexer now answer new k q) = let t = took-later source h k in (t.0, t.1, t.2 ∙ sym q.fed)
  took-later source h (called lexer now new bytes later k q r) =
      let t = took-later source h k in
      (t.0 ++ bytes, one_more t.0 now bytes later t.1 r, rw (length-append, fed_more) (omega (arith, t.2, q.fed)))

  took : {source : S} {script : Option Script} {checks : List CheckSat} {written : List ℕ} {lexer : Progress} {now : S} {still : Option Script} {state : State} → HasFollowed places call source script checks written lexer now still state → Took source lexer now
  took at_start = ([], no_call, refl)
  took {source = source} (one_command checks written lexer now s e more text new later rest t h f r) = let w = took-later source (took h) r.1.1 in (w.0, w.1, w.2 ∙ sym r.1.2.fed)

  -- the limit was met
  pub met-limit : {source : S} {script : Option Script} {checks : List CheckSat} {written : List ℕ} {lexer : Progress} {now : S} {still : Option Script} {state : State} (new : Progress) {later : S} (left left' : Option (List ℕ)) →
      HasFollowed places call source script checks written lexer now still state → ReadsOnDemand call lexer now (Some ReadLimit) new later → FedGiven left unfed left' new → read_limit ≤ fed new → MetLimit call left source later
  met-limit {source = source} new left left' h r given limit =
      let t = took-later source (took h) r.1 in
      record { taken = t.0; gave = t.1; limit = omega (arith, limit, t.2, r.2.fed); told = limit-met left left' new given limit }
