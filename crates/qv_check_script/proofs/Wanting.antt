-- What is still wanted of a certificate.
use Rattle.std.proofs.Common.{◌≡◌, ◌∙◌, ◌+◌, ◌-◌, ◌++◌, ◌<◌, ◌≤◌, ℕ, zero, suc, Option, Some, None, option_map, List, [], ◌∷◌, length, take, refl, sym, ap, subst, append_assoc, length-append, arith}
use Rattle.std.specs.Prelude.{Ok, Err, IfSome, flat_map}
use Rattle.std.specs.List.{AllByRecursion}
use Rattle.std.proofs.lemmas.List.{append-nil, length-take-le}
use Rattle.std.proofs.lemmas.List.Elements.{recursion_from_All}
use Rattle.qv_words.specs.declared.op.Answer.{Answer}
use Rattle.qv_cert.specs.Line.{Header}
use Rattle.qv_cert.specs.Grammar.{Reading}
use Rattle.qv_cert.specs.Text.{Text, text_of, first_line}
use Rattle.qv_cert.specs.TextLaws.{HasNoLf, bytes_of_lines}
use Rattle.qv_cert.specs.CertReader.{Position, with_line, Filled, no_call, one_more}
use Rattle.qv_cert.specs.Took.{Gave, gave_none, gave_more, TookLines}
use Rattle.qv_cert.specs.Section.{Task, State, Outcome, GoesOn, Accepts, Refuses, Judged, AcceptedUpTo, RefusedAt, by_outcome, step, judged_from, section_judged, Opening}
use Rattle.qv_cert.proofs.NextLemmas.{text_line, text_open}
use Rattle.qv_check_lines.specs.Judging.{ComesBehind}
use Rattle.qv_check_lines.specs.declared.verdict.Verdict.TheVariants.{ReadLimit}
use Rattle.qv_check_lines.proofs.Judged.{comes-behind}
use Rattle.qv_check_lines.proofs.TakenBy.{took-on}
use Rattle.qv_check_laws.specs.Verdict.{Script, Asks, Stops, Ends, Verdict, AcceptedSection, at_end, ended, with_section, behind_section, behind_header, verdict_from, verdict_on, verdict}
use Rattle.qv_sexpr.specs.Limits.{read_limit}
use Rattle.qv_sexpr.specs.Script.{reads}
use Rattle.qv_script_defs.specs.State.{opening}
use Rattle.qv_check_defs.specs.Beside.{beside}
use Rattle.qv_check_script.specs.Wanting.{shown_at, last_line, WantsMore}
use Rattle.qv_check_script.specs.Turns.{Coming, coming_of, with_front, told, StopsWanting}
use Rattle.qv_check_script.proofs.Limits.{gave-on, gave-as, had-given, had-limit}

-- ---- the last line that a verdict needs

-- the number of the line behind an accepted section
pub counted : (task : Task) (s : State) (n : ℕ) (lines : List (List ℕ)) (answer : Answer) (m : ℕ) (behind : List (List ℕ)) → judged_from task s n lines ≡ AcceptedUpTo answer m behind → (n + length lines ≡ m + length behind) × (n < m)
unfolding judged_from
counted task s n [] answer m behind e = absurd cc
counted task s n (line ∷ lines) answer m behind e = by (λ t. counted task t (suc n) lines answer m behind) (step task s line) e
  where
    by : ((t : State) → judged_from task t (suc n) lines ≡ AcceptedUpTo answer m behind → (suc n + length lines ≡ m + length behind) × (suc n < m)) → (o : Outcome) → by_outcome n lines (λ next. judged_from task next (suc n) lines) o ≡ AcceptedUpTo answer m behind → (n + length (line ∷ lines) ≡ m + length behind) × (n < m)
    by on (GoesOn t) h = let k = on t h in (omega (arith, k.0), omega (arith, k.1))
    by on (Accepts other) h =
        let next : suc n ≡ m = cc in
        let left : lines ≡ behind = cc in
        (omega (arith, next, ap length left), omega (arith, next))
    by on (Refuses k) h = absurd cc

-- a section in front
pub section-last : (given given' : ℕ) (answer : Answer) (lines behind : List (List ℕ)) (v : Verdict (List ℕ)) → given + length lines ≡ given' + length behind → given ≤ given'
    → last_line given (with_section answer (take (length lines - length behind) lines) v) ≡ last_line given' v
section-last given given' answer lines behind v count low =
    let own = take (length lines - length behind) lines in
    let others : List (List ℕ) = flat_map (λ (s : AcceptedSection). s.lines) v.sections in
    let few : length lines - length behind ≤ length lines = omega (arith, count, low) in
    let many : length own ≡ length lines - length behind = length-take-le (length lines - length behind) lines few in
    let sum : given + length (own ++ others) ≡ given' + length others = omega (arith, count, low, many, length-append own others) in
    ap (λ n. shown_at n v.ending) sum

-- where nothing more of the script comes
abbrev over : ℕ → List (List ℕ) → List ℕ → Verdict (List ℕ)
over n lines rest = ended (at_end n lines rest)

over-needs : (given n : ℕ) (lines : List (List ℕ)) (rest : List ℕ) → given < n → given < last_line given (over n lines rest)
over-needs given n (line ∷ lines) rest h = h
over-needs given n [] (byte ∷ rest) h = h
over-needs given n [] [] h = omega arith

pub end-wants : (given now : ℕ) (old : Option Text) → now ≡ given → IfSome (option_map (λ t. coming_of given (ended (at_end (given + 1) t.lines t.rest))) old) (λ o. now < o.last)
end-wants given now None is = tt
end-wants given now (Some t) is =
    let h = over-needs given (given + 1) t.lines t.rest (omega arith) in
    omega (arith, is, h)

-- no verdict needs less than what stands before
abbrev NeedsOn : (Answer → ℕ → List (List ℕ) → Verdict (List ℕ)) → Type 0
NeedsOn on = (answer : Answer) (m : ℕ) (behind : List (List ℕ)) → m ≤ last_line m (on answer (suc m) behind)

asked : (task : Task) (given : ℕ) (lines : List (List ℕ)) (on : Answer → ℕ → List (List ℕ) → Verdict (List ℕ)) → NeedsOn on → (j : Judged) → section_judged task (suc given) lines ≡ j → given ≤ last_line given (behind_section lines on j)
asked task given lines on needs (AcceptedUpTo answer zero behind) is = let k = counted task Opening (suc given) lines answer zero behind is in absurd (omega (arith, k.1))
asked task given lines on needs (AcceptedUpTo answer (suc m) behind) is =
    let k = counted task Opening (suc given) lines answer (suc m) behind is in
    let low = needs answer m behind in
    let same = section-last given m answer lines behind (on answer (suc m) behind) (omega (arith, k.0)) (omega (arith, k.1)) in
    omega (arith, k.1, low, same)
asked task given lines on needs (RefusedAt line k) is =
    let far : given < line = subst (ComesBehind given) is (comes-behind task Opening given (suc given) lines (omega arith)) in
    omega (arith, far)

pub at-least : (version number : ℕ) (q : Script (List ℕ)) (given : ℕ) (lines : List (List ℕ)) (rest : List ℕ) → given ≤ last_line given (verdict_from version number q (suc given) lines rest)
unfolding verdict_from
at-least version number (Asks p next) given lines rest =
    asked (record { problem = p; number = number; version = version }) given lines (λ answer m behind. verdict_from version (suc number) (next answer) m behind rest)
    (λ answer m behind. at-least version (suc number) (next answer) m behind rest)
    (section_judged (record { problem = p; number = number; version = version }) (suc given) lines) refl
at-least version number (Stops fault) given lines rest = omega arith
at-least version number Ends given lines rest = let h = over-needs given (suc given) lines rest (omega arith) in omega (arith, h)

-- of a section whose verdict comes behind so many lines
pub section-needs : (task : Task) (given now : ℕ) (lines : List (List ℕ)) (on : Answer → ℕ → List (List ℕ) → Verdict (List ℕ)) → ((answer : Answer) (m : ℕ) (behind : List (List ℕ)) → m ≤ last_line m (on answer (suc m) behind))
    → (j : Judged) → section_judged task (suc given) lines ≡ j → ComesBehind now j → now < last_line given (behind_section lines on j)
section-needs task given now lines on needs (RefusedAt line k) is h = h
section-needs task given now lines on needs (AcceptedUpTo answer zero behind) is h = absurd (omega (arith, h))
section-needs task given now lines on needs (AcceptedUpTo answer (suc m) behind) is h =
    let k = counted task Opening (suc given) lines answer (suc m) behind is in
    let low = needs answer m behind in
    let same = section-last given m answer lines behind (on answer (suc m) behind) (omega (arith, k.0)) (omega (arith, k.1)) in
    omega (arith, h, low, same)

-- each verdict needs the first line
first-needed : (places : ℕ) (script cert : Option (List ℕ)) → IfSome (told places script cert) (λ o. 0 < o.last)
unfolding verdict
first-needed places None cert = tt
first-needed places (Some text) None = tt
first-needed places (Some text) (Some bytes) = go (beside places opening (reads text)) (text_of bytes).lines (text_of bytes).rest
  where
    go : (q : Script (List ℕ)) (lines : List (List ℕ)) (rest : List ℕ) → 0 < last_line 1 (verdict_on q lines rest)
    go q [] rest = omega arith
    go q (line ∷ lines) rest = by (first_line line)
      where
        by : (r : Reading) → 0 < last_line 1 (behind_header r q lines rest)
        by (Ok (Header version)) = let low = at-least version 1 q 1 lines rest in omega (arith, low)
        by (Ok other) = omega arith
        by (Err k) = omega arith

pub first-wanted : (places : ℕ) (script cert : Option (List ℕ)) (n : ℕ) → n ≡ 0 → IfSome (told places script cert) (λ o. n < o.last)
first-wanted places script cert n is = subst (λ (m : ℕ). IfSome (told places script cert) (λ o. m < o.last)) (sym is) (first-needed places script cert)

-- ---- what was taken

-- whole lines, and bytes in which none ends
lines-text : (lines : List (List ℕ)) (behind : List ℕ) → AllByRecursion HasNoLf lines → HasNoLf behind → text_of (bytes_of_lines lines ++ behind) ≡ record { lines = lines; rest = behind }
lines-text [] behind h none = text_open behind none
lines-text (line ∷ lines) behind h none =
    ap text_of (append_assoc (line ++ 10 ∷ []) (bytes_of_lines lines) behind ∙ append_assoc line (10 ∷ []) (bytes_of_lines lines ++ behind))
    ∙ text_line line (bytes_of_lines lines ++ behind) h.0 ∙ ap (with_line line) (lines-text lines behind h.1 none)

module _ (places : ℕ) {S : Type 0} (call : S → ℕ → Option (List ℕ) → S → Type 0) (left : S → Option (List ℕ)) where
  -- behind whole lines
  pub wants-on : (old mid new : Position) (s t u : S) (whole coming : Option Coming) (text : List ℕ) → TookLines call left old s mid.given mid.rest mid.taken t → whole ≡ option_map (with_front text) coming
      → StopsWanting call left mid t new u coming → StopsWanting call left old s new u whole
  wants-on old mid new s t u whole coming text h leads m = record {
    took = took-on call left old mid new s t u ReadLimit h m.took;
    wanted = subst (λ (w : Option Coming). IfSome w (λ o. new.given < o.last)) (sym leads) (go coming m.wanted);
  }
    where
      go : (b : Option Coming) → IfSome b (λ o. new.given < o.last) → IfSome (option_map (with_front text) b) (λ o. new.given < o.last)
      go None h = tt
      go (Some o) h = h

  -- what filled a buffer
  filled-gave : {rest : List ℕ} {taken : ℕ} {source : S} {buffer : List ℕ} {taken' : ℕ} {later : S} → Filled call rest taken source buffer taken' later
      → (bytes : List ℕ) × Gave call source bytes later × (buffer ≡ rest ++ bytes) × (taken' ≡ taken + length bytes)
  filled-gave {rest} no_call = ([], gave_none, sym (append-nil rest), omega arith)
  filled-gave {rest} (one_more buffer so_far now bytes later h none below called) =
      let g = filled-gave h in (
        g.0 ++ bytes,
        gave_more g.0 now bytes later g.1 called,
        ap (λ (xs : List ℕ). xs ++ bytes) g.2 ∙ append_assoc rest g.0 bytes,
        omega (arith, g.3, length-append g.0 bytes),
      )

  -- from the start of a source
  pub wants-more : (old new : Position) (source later : S) (script : Option (List ℕ)) → old.rest ≡ [] → old.taken ≡ 0 → old.given ≡ 0 → StopsWanting call left old source new later (told places script (left source)) → WantsMore places call script (left source) source later
  wants-more old new source later script rest taken given m =
      let lines = m.took.lines in
      let took = m.took.took.1.took in
      let g = filled-gave m.took.limit.filled in
      let long : new.taken ≡ length took.bytes = omega (arith, took.counted, taken) in
      let enough : new.taken ≡ length (lines.took.bytes ++ g.0) = omega (arith, lines.took.counted, g.3, taken, length-append lines.took.bytes g.0) in
      let own : lines.took.bytes ≡ bytes_of_lines lines.lines ++ m.took.rest = ap (λ (xs : List ℕ). xs ++ lines.took.bytes) (sym rest) ∙ lines.took.whole_is in
      let same : lines.took.bytes ++ g.0 ≡ bytes_of_lines lines.lines ++ m.took.limit.buffer =
      ap (λ (xs : List ℕ). xs ++ g.0) own ∙ append_assoc (bytes_of_lines lines.lines) m.took.rest g.0 ∙ ap (λ (xs : List ℕ). bytes_of_lines lines.lines ++ xs) (sym g.2) in
      let text : text_of (lines.took.bytes ++ g.0) ≡ record { lines = lines.lines; rest = m.took.limit.buffer } =
      ap text_of same ∙ lines-text lines.lines m.took.limit.buffer (recursion_from_All HasNoLf lines.lines lines.each) m.took.limit.no_line in
      let number : length (text_of (lines.took.bytes ++ g.0)).lines ≡ new.given = ap (λ (t : Text). length t.lines) text ∙ omega (arith, lines.number_is, given) in
      record {
        met = record {
          taken = lines.took.bytes ++ g.0;
          gave = gave-on call left (gave-as call left lines.took.gave) (gave-as call left g.1);
          limit = subst (λ (n : ℕ). read_limit ≤ n) enough m.took.limit.limit;
          told = had-limit (left source) (left later) took.bytes (had-given (left source) (left later) took.bytes took.told) (subst (λ (n : ℕ). read_limit ≤ n) long m.took.limit.limit);
        };
        wanted = go script (left source) (length (text_of (lines.took.bytes ++ g.0)).lines) number m.wanted;
      }
    where
      go : (script cert : Option (List ℕ)) (n : ℕ) → n ≡ new.given → IfSome (told places script cert) (λ o. new.given < o.last) → IfSome script (λ text. IfSome cert (λ bytes. n < last_line 1 (verdict (beside places opening (reads text)) bytes)))
      go None cert n is h = tt
      go (Some text) None n is h = tt
      go (Some text) (Some bytes) n is h = omega (arith, is, h)
