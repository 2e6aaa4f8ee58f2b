-- What is written of a section, line after line.
use Rattle.std.proofs.Common.{◌≡◌, ℕ, ◌+◌, ◌<◌, Bool, true, false, Option, Some, None, List, [], ◌∷◌, ◌++◌, length, drop, get_or, refl, sym, ◌∙◌, ap, subst, append_assoc, add-one, drop-cons}
use Rattle.std.specs.Prelude.{Ok}
use Rattle.std.specs.List.{flat_map}
use Rattle.std.proofs.lemmas.List.Concat.{flat_map-append}
use Rattle.qv_io.specs.Sink.{Appends}
use Rattle.qv_io.proofs.SinkLemmas.{Appends-nothing, Appends-append}
use Rattle.qv_cnf.specs.LratLine.{LratLine, Addition, Deletion}
use Rattle.qv_lrat_text.specs.Spelling.{spelling}
use Rattle.qv_cert.specs.Line.{CertLine}
use Rattle.qv_cert.specs.Grammar.{Reading}
use Rattle.qv_cert.specs.Spelling.{cert_text}
use Rattle.qv_trim.specs.Texts.{BeginsWith, Begins, BeginsWithNone, StandsAt, ReadsStep, ReadsOutside}
use Rattle.qv_trim.specs.Sections.{last_of}
use Rattle.qv_trim.specs.Sections.{AppendsFront}
use Rattle.qv_trim.specs.Writing.{steps_text, is_kept, kept_by, kept_now, next_mark, IsFront, Follows, StepsWritten, FrontWritten}
use Rattle.qv_trim.proofs.Lines.{begins-there, begins-none}
use Rattle.qv_trim.proofs.Marked.{one-step}

-- ---- fronts of what is written

pub front-nothing : (held : Option (List ℕ)) (bytes : List ℕ) → AppendsFront held held bytes
front-nothing held bytes = record { front = []; rest = bytes; bytes_are = refl; appends = Appends-nothing held }

pub front-whole : (old new : Option (List ℕ)) (bytes first rest : List ℕ) → Appends old new first → bytes ≡ first ++ rest → AppendsFront old new bytes
front-whole old new bytes first rest a e = record { front = first; rest = rest; bytes_are = e; appends = a }

pub front-then : (old middle new : Option (List ℕ)) (bytes first second rest : List ℕ) → Appends old middle first → AppendsFront middle new second → bytes ≡ first ++ (second ++ rest) → AppendsFront old new bytes
front-then old middle new bytes first second rest a f e = record {
  front = first ++ f.front;
  rest = f.rest ++ rest;
  bytes_are = e ∙ (ap (λ (s : List ℕ). first ++ (s ++ rest)) f.bytes_are ∙ (ap (λ (s : List ℕ). first ++ s) (append_assoc f.front f.rest rest) ∙ sym (append_assoc first f.front (f.rest ++ rest))));
  appends = Appends-append old middle new first f.front a f.appends;
}

pub append_nil : (xs : List ℕ) → xs ++ [] ≡ xs
append_nil [] = refl
append_nil (x ∷ xs) = ap (λ (rest : List ℕ). x ∷ rest) (append_nil xs)

-- ---- the lines of a refutation

kept-first : (mark : Bool) (marks : List Bool) (nth : ℕ) (all : List Bool) (line : LratLine) (left : List LratLine) → drop nth all ≡ mark ∷ marks → drop (nth + 1) all ≡ marks
    → kept_by (mark ∷ marks) (line ∷ left) ≡ kept_now mark line ++ kept_by (drop (next_mark nth line) all) left
kept-first true marks nth all (Addition id lits hints) left e f = ap (λ (ms : List Bool). Addition id lits hints ∷ kept_by ms left) (sym f)
kept-first false marks nth all (Addition id lits hints) left e f = ap (λ (ms : List Bool). kept_by ms left) (sym f)
kept-first mark marks nth all (Deletion id ids) left e f = ap (λ (ms : List Bool). Deletion id ids ∷ kept_by ms left) (sym e)

kept-more : (marks : List Bool) (nth : ℕ) (line : LratLine) (left : List LratLine) → nth < length marks
    → steps_text (kept_by (drop nth marks) (line ∷ left)) ≡ steps_text (kept_now (get_or marks nth false) line) ++ steps_text (kept_by (drop (next_mark nth line) marks) left)
kept-more marks nth line left h =
    let here : drop nth marks ≡ get_or marks nth false ∷ drop (nth + 1) marks = rw (add-one, drop-cons marks nth false) refl in
    ap (λ (ms : List Bool). steps_text (kept_by ms (line ∷ left))) here
    ∙ (ap steps_text (kept-first (get_or marks nth false) (drop (nth + 1) marks) nth marks line left here refl) ∙ flat_map-append spelling (kept_now (get_or marks nth false) line) (kept_by (drop (next_mark nth line) marks) left))

none-kept : (marks : List Bool) → kept_by marks [] ≡ []
none-kept [] = refl
none-kept (m ∷ ms) = refl

module _ (text : List ℕ) (marks : List Bool) (lines : List LratLine) (rest : List ℕ) where
  pub steps-none : (from : ℕ) (old : Option (List ℕ)) → Begins ReadsStep (drop from text) lines rest → StepsWritten text marks from 0 old old lines rest
  steps-none from old b = record { left = lines; begins = b; written = []; appends = Appends-nothing old; whole = refl }

  steps-left : (at behind nth next : ℕ) (old now later : Option (List ℕ)) (step : LratLine) (left : List LratLine) (written : List ℕ) → BeginsWithNone ReadsStep rest → nth < length marks → StandsAt ReadsStep text at step behind → next ≡ next_mark nth step
      → Begins ReadsStep (drop at text) left rest → Appends old now written → steps_text (kept_by marks lines) ≡ written ++ steps_text (kept_by (drop nth marks) left)
      → (Appends now later (steps_text (kept_now (get_or marks nth false) step)) → StepsWritten text marks behind next old later lines rest)
      × (AppendsFront now later (steps_text (kept_now (get_or marks nth false) step)) → AppendsFront old later (steps_text (kept_by marks lines)))
  steps-left at behind nth next old now later step [] written none h s e b a w = absurd (none s.line (drop behind text) step (subst (λ (bytes : List ℕ). BeginsWith bytes s.line (drop behind text)) b s.begins) s.read)
  steps-left at behind nth next old now later step (m ∷ left) written none h s e b a w =
      let there = begins-there ReadsStep one-step text at step m behind left rest s b in
      let said : List ℕ = steps_text (kept_now (get_or marks nth false) step) in
      let more : List ℕ = steps_text (kept_by (drop next marks) left) in
      let split : steps_text (kept_by marks lines) ≡ written ++ (said ++ more) =
      w ∙ ap (λ (t : List ℕ). written ++ t)
      (ap (λ (l : LratLine). steps_text (kept_by (drop nth marks) (l ∷ left))) (sym there.0) ∙ (kept-more marks nth step left h ∙ ap (λ (n : ℕ). said ++ steps_text (kept_by (drop n marks) left)) (sym e)))
      in (
        λ appends. record {
          left = left;
          begins = there.1;
          written = written ++ said;
          appends = Appends-append old now later written said a appends;
          whole = split ∙ sym (append_assoc written said more);
        },
        λ front. front-then old now later (steps_text (kept_by marks lines)) written said more a front split,
      )

  -- one more line
  pub steps-more : (at behind nth next : ℕ) (old now later : Option (List ℕ)) (step : LratLine) → BeginsWithNone ReadsStep rest → nth < length marks → StandsAt ReadsStep text at step behind → next ≡ next_mark nth step
      → StepsWritten text marks at nth old now lines rest → Appends now later (steps_text (kept_now (get_or marks nth false) step)) → StepsWritten text marks behind next old later lines rest
  steps-more at behind nth next old now later step none h s e w appends = (steps-left at behind nth next old now later step w.left w.written none h s e w.begins w.appends w.whole).0 appends

  -- a part of one more
  pub steps-part : (at behind nth : ℕ) (old now later : Option (List ℕ)) (step : LratLine) → BeginsWithNone ReadsStep rest → nth < length marks → StandsAt ReadsStep text at step behind
      → StepsWritten text marks at nth old now lines rest → AppendsFront now later (steps_text (kept_now (get_or marks nth false) step)) → AppendsFront old later (steps_text (kept_by marks lines))
  steps-part at behind nth old now later step none h s w front = (steps-left at behind nth (next_mark nth step) old now later step w.left w.written none h s refl w.begins w.appends w.whole).1 front

  -- nothing more
  pub steps-cut : (at nth : ℕ) (old now : Option (List ℕ)) → StepsWritten text marks at nth old now lines rest → AppendsFront old now (steps_text (kept_by marks lines))
  steps-cut at nth old now w = front-whole old now (steps_text (kept_by marks lines)) w.written (steps_text (kept_by (drop nth marks) w.left)) w.appends w.whole

  steps-over : (nth : ℕ) (old now : Option (List ℕ)) (left : List LratLine) (written : List ℕ) → kept_by (drop nth marks) left ≡ [] → Appends old now written → steps_text (kept_by marks lines) ≡ written ++ steps_text (kept_by (drop nth marks) left) → Appends old now (steps_text (kept_by marks lines))
  steps-over nth old now left written none a w =
      subst (λ (t : List ℕ). Appends old now t) (sym (w ∙ (ap (λ (ls : List LratLine). written ++ steps_text ls) none ∙ append_nil written))) a

  -- no mark is left
  pub steps-all : (at nth : ℕ) (old now : Option (List ℕ)) → drop nth marks ≡ [] → StepsWritten text marks at nth old now lines rest → Appends old now (steps_text (kept_by marks lines))
  steps-all at nth old now none w = steps-over nth old now w.left w.written (ap (λ (ms : List Bool). kept_by ms w.left) none) w.appends w.whole

  steps-ended : (at nth : ℕ) (old now : Option (List ℕ)) (left : List LratLine) (written : List ℕ) → BeginsWithNone ReadsStep (drop at text) → Begins ReadsStep (drop at text) left rest → Appends old now written
      → steps_text (kept_by marks lines) ≡ written ++ steps_text (kept_by (drop nth marks) left) → Appends old now (steps_text (kept_by marks lines))
  steps-ended at nth old now [] written none b a w = steps-over nth old now [] written (none-kept (drop nth marks)) a w
  steps-ended at nth old now (m ∷ left) written none b a w = absurd (begins-none ReadsStep (drop at text) m left rest none b)

  -- no line is left
  pub steps-end : (at nth : ℕ) (old now : Option (List ℕ)) → BeginsWithNone ReadsStep (drop at text) → StepsWritten text marks at nth old now lines rest → Appends old now (steps_text (kept_by marks lines))
  steps-end at nth old now none w = steps-ended at nth old now w.left w.written none w.begins w.appends w.whole

-- ---- the lines of a front

one-outside : (line : List ℕ) (l m : CertLine) → ReadsOutside line l → ReadsOutside line m → l ≡ m
one-outside line l m a b =
    let same : ◌≡◌ {A = Reading} (Ok l) (Ok m) = sym a ∙ b in
    cc

module _ (text : List ℕ) (lines : List CertLine) (rest : List ℕ) (proves : Bool) where
  pub front-none : (old : Option (List ℕ)) → Begins ReadsOutside text lines rest → IsFront lines proves → FrontWritten text 0 old old lines rest proves
  front-none old b f = record { left = lines; begins = b; is_front = f; written = []; appends = Appends-nothing old; whole = refl }

  -- one more line, which may be the last
  abbrev Ends : (behind : ℕ) (old later : Option (List ℕ)) → Option Bool → Type 0
  Ends behind old later None = FrontWritten text behind old later lines rest proves
  Ends behind old later (Some last) = (drop behind text ≡ rest) × (last ≡ proves) × Appends old later (flat_map cert_text lines)

  front-ends : (behind : ℕ) (old later : Option (List ℕ)) (ends : Option Bool) (left : List CertLine) (written : List ℕ) → Begins ReadsOutside (drop behind text) left rest → Follows ends (IsFront left) left proves → Appends old later written
      → flat_map cert_text lines ≡ written ++ flat_map cert_text left → Ends behind old later ends
  front-ends behind old later None left written b f a w = record { left = left; begins = b; is_front = f; written = written; appends = a; whole = w }
  front-ends behind old later (Some last) left written b f a w =
      let over : flat_map cert_text lines ≡ written = w ∙ (ap (λ (ls : List CertLine). written ++ flat_map cert_text ls) f.0 ∙ append_nil written) in
      let ended : Begins ReadsOutside (drop behind text) [] rest = subst (λ (ls : List CertLine). Begins ReadsOutside (drop behind text) ls rest) f.0 b in
      (ended, f.1, subst (λ (t : List ℕ). Appends old later t) (sym over) a)

  front-left : (at behind : ℕ) (old now later : Option (List ℕ)) (line : CertLine) (left : List CertLine) (written : List ℕ) → StandsAt ReadsOutside text at line behind → Begins ReadsOutside (drop at text) left rest → IsFront left proves → Appends old now written
      → flat_map cert_text lines ≡ written ++ flat_map cert_text left
      → (Appends now later (cert_text line) → Ends behind old later (last_of line)) × (AppendsFront now later (cert_text line) → AppendsFront old later (flat_map cert_text lines))
  front-left at behind old now later line [] written s b f a w = absurd f
  front-left at behind old now later line (m ∷ left) written s b f a w =
      let there = begins-there ReadsOutside one-outside text at line m behind left rest s b in
      let split : flat_map cert_text lines ≡ written ++ (cert_text line ++ flat_map cert_text left) = w ∙ ap (λ (l : CertLine). written ++ (cert_text l ++ flat_map cert_text left)) (sym there.0) in (
        λ appends. front-ends behind old later (last_of line) left (written ++ cert_text line) there.1 (subst (λ (l : CertLine). Follows (last_of l) (IsFront left) left proves) (sym there.0) f)
            (Appends-append old now later written (cert_text line) a appends) (split ∙ sym (append_assoc written (cert_text line) (flat_map cert_text left))),
        λ front. front-then old now later (flat_map cert_text lines) written (cert_text line) (flat_map cert_text left) a front split,
      )

  pub front-more : (at behind : ℕ) (old now later : Option (List ℕ)) (line : CertLine) → StandsAt ReadsOutside text at line behind → FrontWritten text at old now lines rest proves → Appends now later (cert_text line) → last_of line ≡ None → FrontWritten text behind old later lines rest proves
  front-more at behind old now later line s w a e = subst (λ (o : Option Bool). Ends behind old later o) e ((front-left at behind old now later line w.left w.written s w.begins w.is_front w.appends w.whole).0 a)

  pub front-last : (at behind : ℕ) (old now later : Option (List ℕ)) (line : CertLine) (last : Bool) → StandsAt ReadsOutside text at line behind → FrontWritten text at old now lines rest proves → Appends now later (cert_text line) → last_of line ≡ Some last
      → (drop behind text ≡ rest) × (last ≡ proves) × Appends old later (flat_map cert_text lines)
  front-last at behind old now later line last s w a e = subst (λ (o : Option Bool). Ends behind old later o) e ((front-left at behind old now later line w.left w.written s w.begins w.is_front w.appends w.whole).0 a)

  pub front-part : (at behind : ℕ) (old now later : Option (List ℕ)) (line : CertLine) → StandsAt ReadsOutside text at line behind → FrontWritten text at old now lines rest proves → AppendsFront now later (cert_text line) → AppendsFront old later (flat_map cert_text lines)
  front-part at behind old now later line s w f = (front-left at behind old now later line w.left w.written s w.begins w.is_front w.appends w.whole).1 f

  pub front-cut : (at : ℕ) (old now : Option (List ℕ)) → FrontWritten text at old now lines rest proves → AppendsFront old now (flat_map cert_text lines)
  front-cut at old now w = front-whole old now (flat_map cert_text lines) w.written (flat_map cert_text w.left) w.appends w.whole

  none-open : (at : ℕ) (left : List CertLine) → BeginsWithNone ReadsOutside (drop at text) → Begins ReadsOutside (drop at text) left rest → IsFront left proves → ⊥
  none-open at [] none b f = f
  none-open at (m ∷ left) none b f = begins-none ReadsOutside (drop at text) m left rest none b

  -- a front doesn't end without such a line
  pub front-open : (at : ℕ) (old now : Option (List ℕ)) → BeginsWithNone ReadsOutside (drop at text) → FrontWritten text at old now lines rest proves → ⊥
  front-open at old now none w = none-open at w.left none w.begins w.is_front

-- ---- one line

pub kept-text : (mark : Bool) (line : LratLine) → is_kept mark line ≡ true → steps_text (kept_now mark line) ≡ spelling line
kept-text mark line e = rw e (append_nil (spelling line))

pub spared-text : (mark : Bool) (line : LratLine) → is_kept mark line ≡ false → steps_text (kept_now mark line) ≡ []
spared-text mark line e = rw e refl
