-- What a script prints, by the commands that were followed of it.
use Rattle.std.proofs.Common.{◌≡◌, ℕ, suc, ◌+◌, ◌-◌, ◌≤◌, ◌<◌, ◌^◌, ◌⊎◌, inl, inr, Bool, true, false, Option, Some, None, option_map, IfSome, List, [], ◌∷◌, ◌++◌, take, drop, length, length-append, refl, sym, ap, subst, ◌∙◌, append_assoc, arith}
use Rattle.std.specs.Prelude.{IsSomeAnd, flat_map, nat_le, if◌then◌else◌}
use Rattle.std.proofs.lemmas.Bool.Decides.{nat_tests}
use Rattle.std.proofs.lemmas.List.{take-append-drop, append-nil, length-take-le, length-map}
use Rattle.qv_text.specs.Progress.{Progress}
use Rattle.qv_sexpr.specs.declared.answers.Next.{Next}
use Rattle.qv_sexpr.specs.declared.answers.Next.TheVariants as next
use Rattle.qv_sexpr.specs.Script.{Script, TextEnd, all_read, lexical, parsing, nesting, reads}
use Rattle.qv_sexpr.specs.Script.{Tree as Expr, command as stands, stops as halt}
use Rattle.qv_sexpr.specs.Reader.{GivesNext, stop_of}
use Rattle.qv_words.proofs.Elements.{some-and}
use Rattle.qv_script_defs.specs.State.{State, Last, Sat, Unsat, Unknown, opening}
use Rattle.qv_meter.specs.Records.{Limits, Record}
use Rattle.qv_script_transcript.specs.Following.{CheckSat, Piece, piece, end_line, Follows, IsTranscriptOf}
use Rattle.qv_script_transcript.specs.Following as transcript
use Rattle.qv_script_transcript.specs.Lawful.{answer_line}
use Rattle.qv_script_transcript.specs.Certificates.{Certified, checks_of, AreCertified, IsAcceptedBeside, certificate}
use Rattle.qv_script_transcript.specs.Current.{IsCurrent}
use Rattle.qv_shell_command.specs.declared.ending.Ending.{Ending}
use Rattle.qv_shell_command.specs.declared.moves.After.{After}
use Rattle.qv_shell_command.specs.declared.moves.After.TheVariants.{More, Ended}
use Rattle.qv_shell_command.specs.declared.moves.Move.{Move}
use Rattle.qv_shell_command.specs.declared.moves.Course.{Course}
use Rattle.qv_shell_command.specs.declared.tallies.Tally.{Tally}
use Rattle.qv_shell_command.specs.Ending.{status_of}
use Rattle.qv_shell_command.specs.Calls.{IsFollowed, says, checks, IsLast, refuses, exceeds, leaves}
use Rattle.qv_shell_command.specs.Moves.{ending_of, EndsText, GoesTo, ChecksNothing, MovesBy, NextMoves}
use Rattle.qv_check_defs.proofs.Tokens.{IsWritten, reads-written}
use Rattle.qv_shell_follow.specs.Answers.{answers_within}
use Rattle.qv_shell_follow.specs.Solved.{IsFrontOf, IsWhole, IsCut}
use Rattle.qv_shell_follow.specs.Calls.{HasFollowed, at_start, one_command}
use Rattle.qv_script_transcript.proofs.Continuing.{current-opening, continues}
use Rattle.qv_script_transcript.proofs.Accepting.{certificates-are-accepted}
use Rattle.qv_shell_follow.proofs.Sections.{checks-append, certified-append, sections-front, header-front, section-front}

-- the text of pieces
abbrev texts : List Piece → List ℕ
texts pieces = flat_map (λ p. p.text) pieces

-- a command that is followed, before what is printed behind it
follows-on : {places : ℕ} (s : State) (e : Expr) (more : List CheckSat) (text : List ℕ) (t : State) → IsFollowed places s e more text t → (rest : Script) (given : List CheckSat) (pieces : List Piece) (last : List ℕ) (status : ℕ) →
    Follows places t rest given pieces last status → Follows places s (stands e rest) (more ++ given) (piece e text ∷ pieces) last status
follows-on s e _ _ _ (says now effect text is said) rest given pieces last status f = transcript.says s now e rest effect text given pieces last status is said f
follows-on s e _ _ _ (checks now formulas answer counts is short lawful) rest given pieces last status f = transcript.checks s now e rest formulas answer counts given pieces last status is short lawful f

-- ---- how many answers stand whole

le-test : (a b : ℕ) → a ≤ b → nat_le a b ≡ true
le-test a b h = by (nat_le a b) refl
  where
    by : (t : Bool) → nat_le a b ≡ t → nat_le a b ≡ true
    by true test = test
    by false test = let over : b < a = grind (arith, nat_tests) in absurd (omega (arith, h, over))

over-test : (a b : ℕ) → b < a → nat_le a b ≡ false
over-test a b h = by (nat_le a b) refl
  where
    by : (t : Bool) → nat_le a b ≡ t → nat_le a b ≡ false
    by true test = let few : a ≤ b = grind (arith, nat_tests) in absurd (omega (arith, h, few))
    by false test = test

answer-long : (answer : Last) → 0 < length (answer_line answer)
answer-long (Sat values) = let long : length (answer_line (Sat values)) ≡ 4 = refl in omega (arith, long)
answer-long Unsat = let long : length (answer_line Unsat) ≡ 6 = refl in omega (arith, long)
answer-long (Unknown spent) = let long : length (answer_line (Unknown spent)) ≡ 8 = refl in omega (arith, long)

either-none : (b : Bool) (n : ℕ) → n ≡ 0 → (if b then n else 0) ≡ 0
either-none true n h = h
either-none false n h = refl

either-few : (b : Bool) (n m : ℕ) → n ≤ m → (if b then n else 0) ≤ m
either-few true n m h = h
either-few false n m h = omega arith

-- none in nothing
count-none : {places : ℕ} {s : State} {script : Script} {given : List CheckSat} {pieces : List Piece} {last : List ℕ} {status : ℕ} (f : Follows places s script given pieces last status) → answers_within f 0 ≡ 0
unfolding answers_within
count-none (transcript.stops s end) = refl
count-none (transcript.refuses s e rest fault is) = refl
count-none (transcript.says s now e rest effect text others pieces last status is said f) =
    let nothing : 0 - length text ≡ 0 = omega arith in
    either-none (nat_le (length text) 0) (answers_within f (0 - length text)) (ap (λ n. answers_within f n) nothing ∙ count-none f)
count-none (transcript.leaves s now e rest is) = refl
count-none (transcript.checks s now e rest formulas answer counts others pieces last status is short lawful f) =
    ap (λ (b : Bool). if b then suc (answers_within f (0 - length (answer_line answer))) else 0) (over-test (length (answer_line answer)) 0 (answer-long answer))
count-none (transcript.exceeds s now e rest formulas is far) = refl

-- no more than checks
count-few : {places : ℕ} {s : State} {script : Script} {given : List CheckSat} {pieces : List Piece} {last : List ℕ} {status : ℕ} (f : Follows places s script given pieces last status) (n : ℕ) → answers_within f n ≤ length given
unfolding answers_within
count-few (transcript.stops s end) n = omega arith
count-few (transcript.refuses s e rest fault is) n = omega arith
count-few (transcript.says s now e rest effect text others pieces last status is said f) n =
    either-few (nat_le (length text) n) (answers_within f (n - length text)) (length others) (count-few f (n - length text))
count-few (transcript.leaves s now e rest is) n = omega arith
count-few (transcript.checks s now e rest formulas answer counts others pieces last status is short lawful f) n =
    let more = count-few f (n - length (answer_line answer)) in
    either-few (nat_le (length (answer_line answer)) n) (suc (answers_within f (n - length (answer_line answer)))) (suc (length others)) (omega (arith, more))
count-few (transcript.exceeds s now e rest formulas is far) n = omega arith

-- behind a command that is followed
count-on : {places : ℕ} (s : State) (e : Expr) (more : List CheckSat) (text : List ℕ) (t : State) (h : IsFollowed places s e more text t) (rest : Script) (given : List CheckSat) (pieces : List Piece) (last : List ℕ) (status : ℕ) (f : Follows places t rest given pieces last status) (room : ℕ) →
    answers_within (follows-on s e more text t h rest given pieces last status f) (length text + room) ≡ length more + answers_within f room
unfolding answers_within follows-on
count-on s e _ _ _ (says now effect text is said) rest given pieces last status f room =
    let left : length text + room - length text ≡ room = omega arith in
    let few : length text ≤ length text + room = omega arith in
    let all : answers_within f room ≡ length {A = CheckSat} [] + answers_within f room = omega arith in
    ap (λ (b : Bool). if b then answers_within f (length text + room - length text) else 0) (le-test (length text) (length text + room) few)
    ∙ ap (λ n. answers_within f n) left
    ∙ all
count-on s e _ _ _ (checks now formulas answer counts is short lawful) rest given pieces last status f room =
    let long = length (answer_line answer) in
    let left : long + room - long ≡ room = omega arith in
    let few : long ≤ long + room = omega arith in
    let same : answers_within f (long + room - long) ≡ answers_within f room = ap (λ n. answers_within f n) left in
    ap (λ (b : Bool). if b then suc (answers_within f (long + room - long)) else 0) (le-test long (long + room) few)
    ∙ omega (arith, same)

-- none within its text
count-cut : {places : ℕ} (s : State) (e : Expr) (more : List CheckSat) (text : List ℕ) (t : State) (h : IsFollowed places s e more text t) (rest : Script) (given : List CheckSat) (pieces : List Piece) (last : List ℕ) (status : ℕ) (f : Follows places t rest given pieces last status) (n : ℕ) →
    n < length text → answers_within (follows-on s e more text t h rest given pieces last status f) n ≡ 0
unfolding answers_within follows-on
count-cut s e _ _ _ (says now effect text is said) rest given pieces last status f n few = ap (λ (b : Bool). if b then answers_within f (n - length text) else 0) (over-test (length text) n few)
count-cut s e _ _ _ (checks now formulas answer counts is short lawful) rest given pieces last status f n few =
    ap (λ (b : Bool). if b then suc (answers_within f (n - length (answer_line answer))) else 0) (over-test (length (answer_line answer)) n few)

-- ---- what is printed from a state on

-- it is printed of the whole script, behind what was printed before, and so are its answers
abbrev Behind : (places : ℕ) → Script → List CheckSat → List ℕ → (more : ℕ → ℕ) → (asked : ℕ) → (all : List Piece) → (last : List ℕ) → (status : ℕ) → Type 0
Behind places script given written more asked all last status =
    (f : Follows places opening script given all last status) × ((room : ℕ) → answers_within f (length written + room) ≡ asked + more room)

abbrev Continues : (places : ℕ) → Script → List CheckSat → List ℕ → State → Script → Type 0
Continues places script given written state still =
    (more : List CheckSat) (pieces : List Piece) (last : List ℕ) (status : ℕ) (f : Follows places state still more pieces last status) →
    (all : List Piece) × Behind places script (given ++ more) written (λ room. answers_within f room) (length given) all last status × (texts all ≡ written ++ texts pieces)

abbrev Leads : (places : ℕ) → Script → List CheckSat → List ℕ → State → Script → Type 0
Leads places script given written state still = IsWritten still × Continues places script given written state still

nothing-behind : (places : ℕ) (script : Script) → Continues places script [] [] opening script
nothing-behind places script more pieces last status f = (
  pieces,
  (f, λ room. let same : length {A = ℕ} [] + room ≡ room = omega arith in let all : length {A = CheckSat} [] + answers_within f room ≡ answers_within f room = omega arith in ap (λ n. answers_within f n) same ∙ sym all),
  refl,
)

module _ (places : ℕ) (S : Type 0) (call : S → ℕ → Option (List ℕ) → S → Type 0) where
  one-more : (script : Script) (given : List CheckSat) (written : List ℕ) (s : State) (e : Expr) (more : List CheckSat) (text : List ℕ) (t : State) → IsFollowed places s e more text t →
      (rest : Option Script) → IsSomeAnd (option_map (stands e) rest) (Leads places script given written s) → IsSomeAnd rest (Leads places script (given ++ more) (written ++ text) t)
  one-more script given written s e more text t f None h = absurd h
  one-more script given written s e more text t f (Some n) h = (
    h.0.1,
    λ more' pieces last status g.
        let on = follows-on s e more text t f n more' pieces last status g in
        let r = h.1 (more ++ more') (piece e text ∷ pieces) last status on in
        let counted : Behind places script (given ++ (more ++ more')) (written ++ text) (λ room. answers_within g room) (length (given ++ more)) r.0 last status = (
          r.1.0,
          λ room.
              let place : length (written ++ text) + room ≡ length written + (length text + room) = let long = length-append written text in omega (arith, long) in
              let first = r.1.1 (length text + room) in
              let next = count-on s e more text t f n more' pieces last status g room in
              let long = length-append given more in
              ap (λ m. answers_within r.1.0 m) place ∙ omega (arith, first, next, long),
        ) in (
          r.0,
          subst (λ (cs : List CheckSat). Behind places script cs (written ++ text) (λ room. answers_within g room) (length (given ++ more)) r.0 last status) (sym (append_assoc given more more')) counted,
          r.2 ∙ sym (append_assoc written text (texts pieces)),
        ),
  )

  lead : (script : Script) {source : S} {given : List CheckSat} {written : List ℕ} {lexer : Progress} {now : S} {still : Option Script} {state : State} → IsWritten script →
      HasFollowed places call source (Some script) given written lexer now still state → IsSomeAnd still (Leads places script given written state)
  lead script w at_start = (w, nothing-behind places script)
  lead script w (one_command given written lexer now s e more text new later rest t h f r) = one-more script given written s e more text t f rest (lead script w h)

-- the script prints this, in whose first bytes, so many, so many answers stand whole
abbrev PrintsSo : (places : ℕ) (text : List ℕ) → List CheckSat → List ℕ → ℕ → (bytes answered : ℕ) → Type 0
PrintsSo places text given out status bytes answered = (t : IsTranscriptOf places text given out status) × (answers_within t.follows bytes ≡ answered)

-- with this the whole script is printed
whole-of : {places : ℕ} (text : List ℕ) (given : List CheckSat) (written : List ℕ) (state : State) (still : Script) → Continues places (reads text) given written state still →
    (more : List CheckSat) (pieces : List Piece) (last : List ℕ) (status : ℕ) (behind : List ℕ) (f : Follows places state still more pieces last status) → behind ≡ texts pieces ++ last →
    (room : ℕ) → PrintsSo places text (given ++ more) (written ++ behind) status (length written + room) (length given + answers_within f room)
whole-of text given written state still on more pieces last status behind f is room =
    let r = on more pieces last status f in (
      record {
        pieces = r.0;
        last = last;
        follows = r.1.0;
        whole = ap (λ b. written ++ b) is ∙ sym (append_assoc written (texts pieces) last) ∙ ap (λ b. b ++ last) (sym r.2);
      },
      r.1.1 room,
    )

-- at the end of a script
last-follows : {places : ℕ} (s : State) (e : Expr) (text : List ℕ) (status : ℕ) (rest : Script) → IsLast places s e text status → Follows places s (stands e rest) [] (piece e text ∷ []) [] status
last-follows s e _ _ rest (refuses fault is) = transcript.refuses s e rest fault is
last-follows s e _ _ rest (exceeds now formulas is far) = transcript.exceeds s now e rest formulas is far
last-follows s e _ _ rest (leaves now is) = transcript.leaves s now e rest is

-- a script that ends so prints this
abbrev EndsWith : (places : ℕ) → State → Script → List ℕ → ℕ → Type 0
EndsWith places state still text status = (pieces : List Piece) × (last : List ℕ) × Follows places state still [] pieces last status × (text ≡ texts pieces ++ last)

last-ends : (places : ℕ) (s : State) (e : Expr) (text : List ℕ) (status : ℕ) (still : Script) (new : Option Script) → Some still ≡ option_map (stands e) new → IsLast places s e text status → EndsWith places s still text status
last-ends places s e text status still None same h = absurd cc
last-ends places s e text status still (Some rest) same h =
    let is : still ≡ stands e rest = cc in (
      piece e text ∷ [],
      [],
      subst (λ (n : Script). Follows places s n [] (piece e text ∷ []) [] status) (sym is) (last-follows s e text status rest h),
      sym (append-nil text) ∙ sym (append-nil (text ++ [])),
    )

pub ended-as : (e f : Ending) → Ended e ≡ Ended f → e ≡ f
ended-as e f same = cc

text-ends : (places : ℕ) (s : State) (end : TextEnd) (m : Move) (ending : Ending) (tally : Tally) (c : Course) (before after : List Record) (still : Script) → still ≡ halt end → m.after ≡ Ended ending → EndsText end m tally c before after → EndsWith places s still m.text.items (status_of ending)
text-ends places s end m ending tally c before after still is at h =
    let how : ending ≡ ending_of end = ended-as ending (ending_of end) (sym at ∙ h.ends) in
    let status : (end_line end).1 ≡ status_of (ending_of end) = line-status end in (
      [],
      (end_line end).0,
      subst (λ (n : Script). Follows places s n [] [] (end_line end).0 (status_of ending)) (sym is)
          (subst (λ (n : ℕ). Follows places s (halt end) [] [] (end_line end).0 n) (status ∙ ap status_of (sym how)) (transcript.stops s end)),
      h.text,
    )
  where
    line-status : (end : TextEnd) → (end_line end).1 ≡ status_of (ending_of end)
    line-status all_read = refl
    line-status (lexical fault) = refl
    line-status (parsing fault) = refl
    line-status (nesting place) = refl

-- a move at which the script ends
next-ends : (places : ℕ) (limits : Limits) (s : State) (next : Next) (m : Move) (ending : Ending) (tally : Tally) (c : Course) (before after : List Record) (still : Script) (new : Option Script) →
    m.after ≡ Ended ending → NextMoves places limits s next m tally c before after → GivesNext (Some still) next new → EndsWith places s still m.text.items (status_of ending)
next-ends places limits s (next.Command expr) m ending tally c before after still new at moves gives =
    let last = subst (λ (a : After). MovesBy places a limits s gives.0 m tally c before after) at (moves gives.0 gives.1) in
    last-ends places s gives.0 m.text.items (status_of ending) still new gives.2 last.0
next-ends places limits s next.End m ending tally c before after still new at moves gives = text-ends places s all_read m ending tally c before after still gives at moves
next-ends places limits s (next.Lex fault) m ending tally c before after still new at moves gives = text-ends places s (lexical fault) m ending tally c before after still gives at moves
next-ends places limits s (next.Parse fault) m ending tally c before after still new at moves gives = text-ends places s (parsing fault) m ending tally c before after still gives at moves
next-ends places limits s (next.NestingLimit place) m ending tally c before after still new at moves gives = text-ends places s (nesting place) m ending tally c before after still gives at moves
next-ends places limits s next.ReadFault m ending tally c before after still new at moves gives = absurd moves
next-ends places limits s next.ReadLimit m ending tally c before after still new at moves gives = absurd moves
next-ends places limits s next.NoMemory m ending tally c before after still new at moves gives = absurd moves

-- a move behind which the script goes on, by a command that was read
pub goes-as : (places : ℕ) (limits : Limits) (s : State) (next : Next) (m : Move) (tally : Tally) (c : Course) (before after : List Record) (still new : Option Script) →
    m.after ≡ More → NextMoves places limits s next m tally c before after → GivesNext still next new →
    (e : Expr) × (still ≡ option_map (stands e) new) × (stop_of next ≡ None) × GoesTo places limits s e m tally c before after
goes-as places limits s (next.Command expr) m tally c before after still new more moves gives =
    (gives.0, gives.2, refl, subst (λ (a : After). MovesBy places a limits s gives.0 m tally c before after) more (moves gives.0 gives.1))
goes-as places limits s next.End m tally c before after still new more moves gives = let ends = moves.ends in absurd cc
goes-as places limits s (next.Lex fault) m tally c before after still new more moves gives = let ends = moves.ends in absurd cc
goes-as places limits s (next.Parse fault) m tally c before after still new more moves gives = let ends = moves.ends in absurd cc
goes-as places limits s (next.NestingLimit place) m tally c before after still new more moves gives = let ends = moves.ends in absurd cc
goes-as places limits s next.ReadFault m tally c before after still new more moves gives = absurd moves
goes-as places limits s next.ReadLimit m tally c before after still new more moves gives = absurd moves
goes-as places limits s next.NoMemory m tally c before after still new more moves gives = absurd moves

-- at one that ends it nothing is checked
pub ends-as : (places : ℕ) (limits : Limits) (s : State) (next : Next) (m : Move) (ending : Ending) (tally : Tally) (c : Course) (before after : List Record) (still new : Option Script) →
    m.after ≡ Ended ending → NextMoves places limits s next m tally c before after → GivesNext still next new → ChecksNothing m tally c before after
ends-as places limits s (next.Command expr) m ending tally c before after still new at moves gives = (subst (λ (a : After). MovesBy places a limits s gives.0 m tally c before after) at (moves gives.0 gives.1)).1
ends-as places limits s next.End m ending tally c before after still new at moves gives = moves.nothing
ends-as places limits s (next.Lex fault) m ending tally c before after still new at moves gives = moves.nothing
ends-as places limits s (next.Parse fault) m ending tally c before after still new at moves gives = moves.nothing
ends-as places limits s (next.NestingLimit place) m ending tally c before after still new at moves gives = moves.nothing
ends-as places limits s next.ReadFault m ending tally c before after still new at moves gives = absurd moves
ends-as places limits s next.ReadLimit m ending tally c before after still new at moves gives = absurd moves
ends-as places limits s next.NoMemory m ending tally c before after still new at moves gives = absurd moves

-- ---- what may still be printed

-- with these checks more, and sections for them from this number on: this text first, in which no
-- answer stands whole before its end
record Prints (places : ℕ) (number : ℕ) (state : State) (still : Script) (more : List Certified) (text : List ℕ) : Type 0 where
  certified : number + length more ≤ 2 ^ 62 → AreCertified number more
  pieces : List Piece
  last : List ℕ
  status : ℕ
  rest : List ℕ
  follows : Follows places state still (checks_of more) pieces last status
  none : (n : ℕ) → n < length text → answers_within follows n ≡ 0
  text_is : text ++ rest ≡ texts pieces ++ last

-- whatever state the script is in
any-prints : (places : ℕ) (number : ℕ) (s : State) (still : Script) → IsWritten still → IsCurrent s → (more : List Certified) × Prints places number s still more []
any-prints places number s still w current =
    let c = continues places still w number s current in
    (c.0, record { certified = c.1; pieces = c.2; last = c.3; status = c.4; rest = texts c.2 ++ c.3; follows = c.5; none = λ n few. absurd (omega (arith, few)); text_is = refl })

-- where it ends
ends-print : {places : ℕ} (number : ℕ) (s : State) (still : Script) (text : List ℕ) (status : ℕ) → EndsWith places s still text status → Prints places number s still [] text
ends-print number s still text status h = record {
  certified = λ few. tt;
  pieces = h.0;
  last = h.1;
  status = status;
  rest = [];
  follows = h.2;
  none = λ n few. let asked = count-few h.2 n in omega (arith, asked);
  text_is = append-nil text ∙ h.3;
}

-- no answer of it stands whole before a text's end
abbrev Shown : (places : ℕ) → State → (text : List ℕ) → List Piece → List ℕ → ℕ → Script → List CheckSat → Type 0
Shown places s text pieces last status still given = (f : Follows places s still given pieces last status) × ((n : ℕ) → n < length text → answers_within f n ≡ 0)

-- behind a command: its check, if it is one, comes first
followed-prints : (places : ℕ) (number : ℕ) (s : State) (e : Expr) (cs : List Certified) (text : List ℕ) (t : State) (still : Script) (new : Option Script) →
    Some still ≡ option_map (stands e) new → IsWritten still → AreCertified number cs → IsFollowed places s e (checks_of cs) text t → IsCurrent t →
    (more : List Certified) × Prints places number s still (cs ++ more) text
followed-prints places number s e cs text t still None same w certified f current = absurd cc
followed-prints places number s e cs text t still (Some rest) same w certified f current =
    let is : still ≡ stands e rest = cc in
    let written : IsWritten (stands e rest) = subst IsWritten is w in
    let c = continues places rest written.1 (number + length cs) t current in
    let pieces = piece e text ∷ c.2 in
    let first : Shown places s text pieces c.3 c.4 (stands e rest) (checks_of cs ++ checks_of c.0) = (
      follows-on s e (checks_of cs) text t f rest (checks_of c.0) c.2 c.3 c.4 c.5,
      λ n few. count-cut s e (checks_of cs) text t f rest (checks_of c.0) c.2 c.3 c.4 c.5 n few,
    ) in
    let shown =
    subst (λ (n : Script). Shown places s text pieces c.3 c.4 n (checks_of (cs ++ c.0))) (sym is)
    (subst (λ (ks : List CheckSat). Shown places s text pieces c.3 c.4 (stands e rest) ks) (sym (checks-append cs c.0)) first) in (
      c.0,
      record {
        certified = λ few. certified-append number cs c.0 certified (c.1 (fits c.0 few));
        pieces = pieces;
        last = c.3;
        status = c.4;
        rest = texts c.2 ++ c.3;
        follows = shown.0;
        none = shown.1;
        text_is = sym (append_assoc text (texts c.2) c.3);
      },
    )
  where
    fits : (more : List Certified) → number + length (cs ++ more) ≤ 2 ^ 62 → number + length cs + length more ≤ 2 ^ 62
    fits more few = let long : length (cs ++ more) ≡ length cs + length more = length-append cs more in omega (arith, few, long)

-- no answer stands whole in a part of the text
cut-none : {places : ℕ} (number : ℕ) (s : State) (still : Script) (more : List Certified) (text : List ℕ) (p : Prints places number s still more text) (k : ℕ) → (k < length text) ⊎ (k ≡ 0) → answers_within p.follows (length (take k text)) ≡ 0
cut-none number s still more text p k (inl few) =
    let long : length (take k text) ≡ k = length-take-le k text (omega (arith, few)) in
    p.none (length (take k text)) (omega (arith, few, long))
cut-none number s still more text p k (inr none) = ap (λ n. answers_within p.follows (length (take n text))) none ∙ count-none p.follows

-- ---- runs

-- with what may still be printed it is whole
cut-of : (places : ℕ) (text : List ℕ) (cs : List Certified) (written : List ℕ) (state : State) (still : Script) (all : List Certified) (behind kept : List ℕ) →
    Continues places (reads text) (checks_of cs) written state still → AreCertified 1 cs → Prints places (suc (length cs)) state still all behind → (k : ℕ) → (k < length behind) ⊎ (k ≡ 0) →
    (front more : List Certified) → front ++ more ≡ cs ++ all → IsFrontOf kept (certificate (cs ++ all)) → IsCut places text front (length cs) (written ++ take k behind) kept
cut-of places text cs written state still all behind kept on certified p k within front more same at-front =
    let out = written ++ (behind ++ p.rest) in
    let part = take k behind in
    let whole = whole-of text (checks_of cs) written state still on (checks_of all) p.pieces p.last p.status (behind ++ p.rest) p.follows p.text_is (length part) in
    let long = length-append written part in
    let many = length-map cs (λ (x : Certified). x.check) in
    let none = cut-none (suc (length cs)) state still all behind p k within in
    let bytes : length written + length part ≡ length (written ++ part) = omega (arith, long) in
    let answered : length (checks_of cs) + answers_within p.follows (length part) ≡ length cs = omega (arith, many, none) in
    let told : PrintsSo places text (checks_of cs ++ checks_of all) out p.status (length (written ++ part)) (length cs) = (whole.0, ap (λ n. answers_within whole.0.follows n) (sym bytes) ∙ whole.1 ∙ answered) in
    let transcript = subst (λ (ks : List CheckSat). PrintsSo places text ks out p.status (length (written ++ part)) (length cs)) (sym (checks-append cs all)) told in
    let here = subst (λ (ks : List Certified). PrintsSo places text (checks_of ks) out p.status (length (written ++ part)) (length cs)) (sym same) transcript in
    record {
      more = more;
      out = out;
      status = p.status;
      transcript = here.0;
      printed = (
        drop k behind ++ p.rest,
        ap (λ (t : List ℕ). written ++ (t ++ p.rest)) (sym (take-append-drop k behind)) ∙ ap (λ (t : List ℕ). written ++ t) (append_assoc part (drop k behind) p.rest)
            ∙ sym (append_assoc written part (drop k behind ++ p.rest)),
      );
      whole_answers = here.1;
      certified = subst (λ (ks : List Certified). IsFrontOf kept (certificate ks)) (sym same) at-front;
      accepted = λ few. subst (λ (ks : List Certified). IsAcceptedBeside places text (certificate ks) ks out p.status) (sym same)
          (certificates-are-accepted places text out (cs ++ all) p.status transcript.0 (certified-append 1 cs all certified (subst (λ n. AreCertified n all) number (p.certified (fits few)))));
    }
  where
    number : suc (length cs) ≡ 1 + length cs
    number = omega arith

    fits : length (front ++ more) < 2 ^ 62 → suc (length cs) + length all ≤ 2 ^ 62
    fits few =
        let long : length (cs ++ all) ≡ length cs + length all = length-append cs all in
        let here : length (front ++ more) ≡ length (cs ++ all) = ap length same in
        omega (arith, few, long, here)

whole-is : (places : ℕ) (text : List ℕ) (cs : List Certified) (out : List ℕ) (status : ℕ) → IsTranscriptOf places text (checks_of cs) out status → AreCertified 1 cs → IsWhole places text cs out (certificate cs) status
whole-is places text cs out status h certified = record { transcript = h; accepted = certificates-are-accepted places text out cs status h certified }

-- a run that did nothing but print a part of the first line
pub nothing-cut : (places : ℕ) (left : Option (List ℕ)) (k : ℕ) → IfSome left (λ script. IsCut places script [] 0 [] (take k (certificate [])))
nothing-cut places None k = tt
nothing-cut places (Some script) k =
    let c = any-prints places 1 opening (reads script) (reads-written script) current-opening in
    cut-of places script [] [] opening (reads script) c.0 [] (take k (certificate [])) (nothing-behind places (reads script)) tt c.1 0 (inr refl) [] c.0 refl (header-front k c.0)

module _ (places : ℕ) (S : Type 0) (call : S → ℕ → Option (List ℕ) → S → Type 0) (source : S) (left : Option (List ℕ)) (cs : List Certified) (certified : AreCertified 1 cs) (written : List ℕ) (lexer : Progress) (now : S) (still : Option Script) (state : State)
    (followed : HasFollowed places call source (option_map reads left) (checks_of cs) written lexer now still state) (current : IsCurrent state) where
  -- a run that was left between two commands
  pub halted-cut : IfSome left (λ script. IsCut places script cs (length cs) written (certificate cs))
  halted-cut = by left followed
    where
      by : (left : Option (List ℕ)) → HasFollowed places call source (option_map reads left) (checks_of cs) written lexer now still state → IfSome left (λ script. IsCut places script cs (length cs) written (certificate cs))
      by None f = tt
      by (Some script) f =
          let l = some-and still (Leads places (reads script) (checks_of cs) written state) (lead places S call (reads script) (reads-written script) f) in
          let c = any-prints places (suc (length cs)) state l.0 l.2.0 current in
          subst (λ (w : List ℕ). IsCut places script cs (length cs) w (certificate cs)) (append-nil written)
          (cut-of places script cs written state l.0 c.0 [] (certificate cs) l.2.1 certified c.1 0 (inr refl) cs c.0 refl (sections-front cs c.0))

  module _ (limits : Limits) (next : Next) (m : Move) (tally : Tally) (c' : Course) (before after : List Record) (new : Option Script) (gives : GivesNext still next new) (counted : tally.checks ≡ length cs) where
    -- one that has ended
    pub whole-run : (ending : Ending) → m.after ≡ Ended ending → NextMoves places limits state next m tally c' before after → IfSome left (λ script. IsWhole places script cs (written ++ m.text.items) (certificate cs) (status_of ending))
    whole-run ending at moves = by left followed
      where
        by : (left : Option (List ℕ)) → HasFollowed places call source (option_map reads left) (checks_of cs) written lexer now still state → IfSome left (λ script. IsWhole places script cs (written ++ m.text.items) (certificate cs) (status_of ending))
        by None f = tt
        by (Some script) f =
            let l = some-and still (Leads places (reads script) (checks_of cs) written state) (lead places S call (reads script) (reads-written script) f) in
            let e = next-ends places limits state next m ending tally c' before after l.0 new at moves (subst (λ (o : Option Script). GivesNext o next new) l.1 gives) in
            whole-is places script cs (written ++ m.text.items) (status_of ending)
            (subst (λ (given : List CheckSat). IsTranscriptOf places script given (written ++ m.text.items) (status_of ending)) (append-nil (checks_of cs))
            (whole-of script (checks_of cs) written state l.0 l.2.1 [] e.0 e.1 (status_of ending) m.text.items e.2 e.3 0).0)
            certified

    -- one that was cut within the last text
    pub last-cut : (ending : Ending) (k : ℕ) → k < length m.text.items → m.after ≡ Ended ending → NextMoves places limits state next m tally c' before after → IfSome left (λ script. IsCut places script cs (length cs) (written ++ take k m.text.items) (certificate cs))
    last-cut ending k few at moves = by left followed
      where
        by : (left : Option (List ℕ)) → HasFollowed places call source (option_map reads left) (checks_of cs) written lexer now still state → IfSome left (λ script. IsCut places script cs (length cs) (written ++ take k m.text.items) (certificate cs))
        by None f = tt
        by (Some script) f =
            let l = some-and still (Leads places (reads script) (checks_of cs) written state) (lead places S call (reads script) (reads-written script) f) in
            let e = next-ends places limits state next m ending tally c' before after l.0 new at moves (subst (λ (o : Option Script). GivesNext o next new) l.1 gives) in
            let p = ends-print (suc (length cs)) state l.0 m.text.items (status_of ending) e in
            cut-of places script cs written state l.0 [] m.text.items (certificate cs) l.2.1 certified p k (inl few) cs [] refl (sections-front cs [])

    module _ (e : Expr) (is : still ≡ option_map (stands e) new) (g : GoesTo places limits state e m tally c' before after) where
      numbered : AreCertified (suc (length cs)) g.checks
      numbered = subst (λ n. AreCertified (suc n) g.checks) counted g.certified

      -- within a section
      pub section-cut : (k : ℕ) → IfSome left (λ script. IsCut places script cs (length cs) written (certificate cs ++ take k m.section.items))
      section-cut k = by left followed
        where
          by : (left : Option (List ℕ)) → HasFollowed places call source (option_map reads left) (checks_of cs) written lexer now still state → IfSome left (λ script. IsCut places script cs (length cs) written (certificate cs ++ take k m.section.items))
          by None f = tt
          by (Some script) f =
              let l = some-and still (Leads places (reads script) (checks_of cs) written state) (lead places S call (reads script) (reads-written script) f) in
              let p = followed-prints places (suc (length cs)) state e g.checks m.text.items g.state l.0 new (sym l.1 ∙ is) l.2.0 numbered g.followed g.stands.current in
              subst (λ (w : List ℕ). IsCut places script cs (length cs) w (certificate cs ++ take k m.section.items)) (append-nil written)
              (cut-of places script cs written state l.0 (g.checks ++ p.0) m.text.items (certificate cs ++ take k m.section.items) l.2.1 certified p.1 0 (inr refl)
              cs (g.checks ++ p.0) refl (section-front cs g.checks p.0 k m.section.items g.section))

      -- within a text: its section is whole
      pub text-cut : (k : ℕ) → k < length m.text.items → IfSome left (λ script. IsCut places script (cs ++ g.checks) (length cs) (written ++ take k m.text.items) (certificate (cs ++ g.checks)))
      text-cut k few = by left followed
        where
          by : (left : Option (List ℕ)) → HasFollowed places call source (option_map reads left) (checks_of cs) written lexer now still state → IfSome left (λ script. IsCut places script (cs ++ g.checks) (length cs) (written ++ take k m.text.items) (certificate (cs ++ g.checks)))
          by None f = tt
          by (Some script) f =
              let l = some-and still (Leads places (reads script) (checks_of cs) written state) (lead places S call (reads script) (reads-written script) f) in
              let p = followed-prints places (suc (length cs)) state e g.checks m.text.items g.state l.0 new (sym l.1 ∙ is) l.2.0 numbered g.followed g.stands.current in
              cut-of places script cs written state l.0 (g.checks ++ p.0) m.text.items (certificate (cs ++ g.checks)) l.2.1 certified p.1 k (inl few)
              (cs ++ g.checks) p.0 (append_assoc cs g.checks p.0) (subst (λ (ks : List Certified). IsFrontOf (certificate (cs ++ g.checks)) (certificate ks)) (append_assoc cs g.checks p.0) (sections-front (cs ++ g.checks) p.0))
