-- The entries of a refutation's lines.
use Rattle.std.proofs.Common.{◌≡◌, ℕ, Bool, true, false, if◌then◌else◌, List, [], ◌∷◌, ◌++◌, drop, refl, sym, ap, subst, append_assoc}
use Rattle.qv_cnf.specs.LratLine.{LratLine, Addition, Deletion}
use Rattle.qv_trim.specs.Needed.{up_to_empty}
use Rattle.qv_trim.specs.Texts.{BeginsWith, Begins, BeginsWithNone, StandsAt, ReadsStep}
use Rattle.qv_trim.specs.Entries.{AreEntries, Noted, NotesStep}
use Rattle.qv_trim.specs.declared.entries.Entry.{Entry}
use Rattle.qv_trim.proofs.Lines.{begins-there, begins-none}
use Rattle.qv_trim.proofs.Marked.{one-step}

append_none : (es : List Entry) → es ++ [] ≡ es
append_none [] = refl
append_none (e ∷ es) = ap (λ (rest : List Entry). e ∷ rest) (append_none es)

pub noted-none : (text : List ℕ) (from : ℕ) (entries : List Entry) (lines : List LratLine) (rest : List ℕ) → entries ≡ [] → Begins ReadsStep (drop from text) lines rest → Noted text from false entries lines rest
noted-none text from entries lines rest none b = record { left = lines; begins = b; whole = λ es a. subst (λ (front : List Entry). AreEntries text (up_to_empty lines) (front ++ es)) (sym none) a }

-- the entries behind one more, where a list of all is known to go on
one-more : (text : List ℕ) (lines : List LratLine) (old new es : List Entry) (e : Entry) → new ≡ old ++ e ∷ [] → AreEntries text (up_to_empty lines) (old ++ e ∷ es) → AreEntries text (up_to_empty lines) (new ++ es)
one-more text lines old new es e is a = subst (λ (front : List Entry). AreEntries text (up_to_empty lines) (front ++ es)) (sym is) (rw append_assoc a)

more-entries : (text : List ℕ) (at behind : ℕ) (was now : Bool) (old new : List Entry) (lines left : List LratLine) (step : LratLine) → StandsAt ReadsStep text at step behind → NotesStep step at was now old new
    → ((es : List Entry) → AreEntries text (if was then [] else up_to_empty (step ∷ left)) es → AreEntries text (up_to_empty lines) (old ++ es))
    → (es : List Entry) → AreEntries text (if now then [] else up_to_empty left) es → AreEntries text (up_to_empty lines) (new ++ es)
more-entries text at behind true true old new lines left step s (e, is) whole es a = subst (λ (front : List Entry). AreEntries text (up_to_empty lines) (front ++ es)) (sym is) (whole es a)
more-entries text at behind true false old new lines left step s (e, is) whole es a = absurd cc
more-entries text at behind false true old new lines left (Deletion id ids) s (e, is) whole es a = absurd cc
more-entries text at behind false false old new lines left (Deletion id ids) s (e, is) whole es a = subst (λ (front : List Entry). AreEntries text (up_to_empty lines) (front ++ es)) (sym is) (whole es a)
more-entries text at behind false true old new lines left (Addition id [] hints) s (e, is) whole es a =
    one-more text lines old new es (record { id = id; start = at }) is (whole (record { id = id; start = at } ∷ es) ((refl, (behind, s)), a))
more-entries text at behind false false old new lines left (Addition id [] hints) s (e, is) whole es a = absurd cc
more-entries text at behind false true old new lines left (Addition id (l ∷ ls) hints) s (e, is) whole es a = absurd cc
more-entries text at behind false false old new lines left (Addition id (l ∷ ls) hints) s (e, is) whole es a =
    one-more text lines old new es (record { id = id; start = at }) is (whole (record { id = id; start = at } ∷ es) ((refl, (behind, s)), a))

noted-left : (text : List ℕ) (at behind : ℕ) (was now : Bool) (old new : List Entry) (lines left : List LratLine) (rest : List ℕ) (step : LratLine) → BeginsWithNone ReadsStep rest → StandsAt ReadsStep text at step behind → NotesStep step at was now old new
    → Begins ReadsStep (drop at text) left rest
    → ((es : List Entry) → AreEntries text (if was then [] else up_to_empty left) es → AreEntries text (up_to_empty lines) (old ++ es)) → Noted text behind now new lines rest
noted-left text at behind was now old new lines [] rest step none s n b whole = absurd (none s.line (drop behind text) step (subst (λ (bytes : List ℕ). BeginsWith bytes s.line (drop behind text)) b s.begins) s.read)
noted-left text at behind was now old new lines (m ∷ left) rest step none s n b whole =
    let there = begins-there ReadsStep one-step text at step m behind left rest s b in
    record {
      left = left;
      begins = there.1;
      whole = more-entries text at behind was now old new lines left step s n
          (subst (λ (l : LratLine). (es : List Entry) → AreEntries text (if was then [] else up_to_empty (l ∷ left)) es → AreEntries text (up_to_empty lines) (old ++ es)) (sym there.0) whole);
    }

-- one more line
pub noted-more : (text : List ℕ) (at behind : ℕ) (was now : Bool) (old new : List Entry) (lines : List LratLine) (rest : List ℕ) (step : LratLine) → BeginsWithNone ReadsStep rest → StandsAt ReadsStep text at step behind → NotesStep step at was now old new
    → Noted text at was old lines rest → Noted text behind now new lines rest
noted-more text at behind was now old new lines rest step none s n so_far = noted-left text at behind was now old new lines so_far.left rest step none s n so_far.begins so_far.whole

no-more : (text : List ℕ) (refuted : Bool) → AreEntries text (if refuted then [] else []) []
no-more text true = tt
no-more text false = tt

all-noted : (text : List ℕ) (at : ℕ) (refuted : Bool) (entries : List Entry) (lines left : List LratLine) (rest : List ℕ) → BeginsWithNone ReadsStep (drop at text) → Begins ReadsStep (drop at text) left rest
    → ((es : List Entry) → AreEntries text (if refuted then [] else up_to_empty left) es → AreEntries text (up_to_empty lines) (entries ++ es)) → AreEntries text (up_to_empty lines) entries × (drop at text ≡ rest)
all-noted text at refuted entries lines [] rest none b whole = (subst (λ (es : List Entry). AreEntries text (up_to_empty lines) es) (append_none entries) (whole [] (no-more text refuted)), b)
all-noted text at refuted entries lines (m ∷ left) rest none b whole = absurd (begins-none ReadsStep (drop at text) m left rest none b)

-- no line is left
pub noted-all : (text : List ℕ) (at : ℕ) (refuted : Bool) (entries : List Entry) (lines : List LratLine) (rest : List ℕ) → BeginsWithNone ReadsStep (drop at text) → Noted text at refuted entries lines rest → AreEntries text (up_to_empty lines) entries × (drop at text ≡ rest)
noted-all text at refuted entries lines rest none n = all-noted text at refuted entries lines n.left rest none n.begins n.whole
