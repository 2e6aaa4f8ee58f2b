-- A reader of lines answers what comes next.
use Rattle.std.proofs.Common.{◌≡◌, ℕ, ◌<◌, List, [], ◌∷◌, ◌++◌, length, Option, Some, None, refl, sym, ap, ◌∙◌, inl, inr, arith}
use Rattle.std.specs.Prelude.{option_map, IfSome, IfErr, IsErrOf, OnOk, Result, Ok, Err}
use Rattle.qv_io.specs.Source.{IsAtEnd, TellsAsBefore}
use Rattle.qv_cert.specs.declared.answers.Stop.{Stop}
use Rattle.qv_cert.specs.declared.answers.Stop.TheVariants as stop
use Rattle.qv_cert.specs.Text.{Text, text_of}
use Rattle.qv_cert.specs.TextLaws.{HasNoLf}
use Rattle.qv_cert.specs.Lines.{LinesState, all_lines, last_line, lines_left, GivesLine, ReadsLine, TookLine}
use Rattle.qv_cert.specs.CertReader.{GoesOver}
use Rattle.qv_cert.specs.Took.{Took}
use Rattle.qv_cert.specs.Taking.{AreLast, AreOpen, NoLine, OnEnd, TakesLast, TellsLine, end_stop, has_line}
use Rattle.qv_cert.proofs.NextLemmas.{text_line, text_open}
use Rattle.qv_cert.proofs.Took.{took_as}

-- ---- lines of texts

first_line : (line more : List ℕ) → HasNoLf line → all_lines (line ++ 10 ∷ more) ≡ line ∷ all_lines more
first_line line more h = ap (λ (t : Text). t.lines ++ last_line t.rest) (text_line line more h)

only_line : (bytes : List ℕ) → HasNoLf bytes → 0 < length bytes → all_lines bytes ≡ bytes ∷ []
only_line [] h some = absurd (omega (arith, some))
only_line (byte ∷ bytes) h some = ap (λ (t : Text). t.lines ++ last_line t.rest) (text_open (byte ∷ bytes) h)

-- ---- those that are told

told_line : (rest line rest' : List ℕ) (left left' : Option (List ℕ)) → HasNoLf line → TellsLine left rest line left' rest'
    → lines_left rest left ≡ option_map (λ texts. line ∷ texts) (lines_left rest' left')
told_line rest line rest' None None h e = refl
told_line rest line rest' None (Some b) h e = absurd cc
told_line rest line rest' (Some a) None h e = absurd cc
told_line rest line rest' (Some a) (Some b) h e =
    let same : rest ++ a ≡ line ++ 10 ∷ (rest' ++ b) = cc in
    ap (λ (xs : List ℕ). Some (all_lines xs)) same ∙ ap (λ (texts : List (List ℕ)). Some texts) (first_line line (rest' ++ b) h)

told_last : (rest line rest' : List ℕ) (left left' : Option (List ℕ)) → TellsAsBefore left left' → AreOpen left rest → AreLast left rest line → rest' ≡ [] → IsAtEnd left'
    → lines_left rest left ≡ option_map (λ texts. line ∷ texts) (lines_left rest' left')
unfolding text_of
told_last rest line rest' None None tells inside last empty none = refl
told_last rest line rest' None (Some b) tells inside last empty none = absurd cc
told_last rest line rest' (Some a) None tells inside last empty none = absurd cc
told_last rest line rest' (Some a) (Some b) tells inside last empty none =
    let nothing : rest' ++ b ≡ [] = ap (λ (xs : List ℕ). xs ++ b) empty ∙ none in
    ap (λ (texts : List (List ℕ)). Some texts)
    (only_line (rest ++ a) inside.0 inside.1 ∙ ap (λ (xs : List ℕ). xs ∷ []) last ∙ ap (λ (xs : List ℕ). line ∷ all_lines xs) (sym nothing))

told_end : (rest : List ℕ) (left : Option (List ℕ)) → AreLast left rest [] → IfSome (lines_left rest left) (λ texts. texts ≡ [])
unfolding text_of
told_end rest None last = tt
told_end rest (Some a) last = ap all_lines last

no_byte : (line : List ℕ) → stop.End ≡ end_stop line → line ≡ []
no_byte [] e = refl
no_byte (byte ∷ bytes) e = absurd cc

-- ---- by what became of a whole line

module _ {S : Type 0} (call : S → ℕ → Option (List ℕ) → S → Type 0) (left : S → Option (List ℕ)) (rose : Type 0) (old new : LinesState) (source later : S) where
  abbrev Stops : Result (Unit {0}) Stop → Type 0
  Stops r = IfErr r (λ why. NoLine call left rose old.rest old.taken source why new.taken later)

  abbrev Ends : Result (Unit {0}) Stop → Type 0
  Ends r = IfErr r (λ why. OnEnd why (TakesLast call left old.rest old.taken source why new.line new.rest new.taken later))

  pub gives_line : (r : Result (Unit {0}) Stop) → TellsAsBefore (left source) (left later) → OnOk r (GoesOver call old.rest old.taken source new.line new.rest new.taken later)
      → OnOk r (TellsLine (left source) old.rest new.line (left later) new.rest) → Stops r → Ends r
      → GivesLine (lines_left old.rest (left source)) (has_line r) new.line (lines_left new.rest (left later))
  gives_line (Ok done) tells goes told stops ends = told_line old.rest new.line new.rest (left source) (left later) goes.is_line told
  gives_line (Err stop.End) tells goes told stops ends = told_end old.rest (left source) stops.1
  gives_line (Err (stop.Fault k)) tells goes told stops ends = told_last old.rest new.line new.rest (left source) (left later) tells stops.2 ends.last ends.empty ends.none_left
  gives_line (Err stop.ReadFault) tells goes told stops ends = tt
  gives_line (Err stop.ReadLimit) tells goes told stops ends = tt
  gives_line (Err stop.NoMemory) tells goes told stops ends = tt

  pub reads_line : (r : Result (Unit {0}) Stop) → OnOk r (GoesOver call old.rest old.taken source new.line new.rest new.taken later) → Stops r → ReadsLine call old source (has_line r) new later
  reads_line (Ok done) goes stops = inl goes
  reads_line (Err stop.End) goes stops = stops.0
  reads_line (Err (stop.Fault k)) goes stops = inr stops.1
  reads_line (Err stop.ReadFault) goes stops = stops.1
  reads_line (Err stop.ReadLimit) goes stops = stops.0
  reads_line (Err stop.NoMemory) goes stops = stops

  pub took_line : (r : Result (Unit {0}) Stop) → OnOk r (Took call left old.rest old.taken source (new.line ++ 10 ∷ new.rest) new.taken later) → Stops r → Ends r → TookLine call left old source (has_line r) new later
  took_line (Ok done) took stops ends = inl took
  took_line (Err stop.End) took stops ends = took_as call left old.rest old.taken source new.line [] new.taken later (no_byte new.line ends.why_is) ends.took
  took_line (Err (stop.Fault k)) took stops ends = inr (ends.empty, ends.took)
  took_line (Err stop.ReadFault) took stops ends = stops.2
  took_line (Err stop.ReadLimit) took stops ends = stops.1
  took_line (Err stop.NoMemory) took stops ends = tt

  pub line_fails : (r : Result (Unit {0}) Stop) → Stops r → IsErrOf (has_line r) stop.ReadFault → rose
  line_fails (Ok done) stops e = absurd cc
  line_fails (Err stop.End) stops e = absurd cc
  line_fails (Err (stop.Fault k)) stops e = absurd cc
  line_fails (Err stop.ReadFault) stops e = stops.0
  line_fails (Err stop.ReadLimit) stops e = absurd cc
  line_fails (Err stop.NoMemory) stops e = absurd cc
