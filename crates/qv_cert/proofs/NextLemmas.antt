-- What a reader answers is what comes next.
use Rattle.std.proofs.Common.{◌≡◌, ◌≢◌, ℕ, ◌+◌, ◌<◌, ◌≤◌, Bool, false, ◌==◌, List, [], ◌∷◌, ◌++◌, length, Option, Some, None, refl, sym, ap, subst, ◌∙◌, inl, inr, arith}
use Rattle.std.specs.Prelude.{option_map, IfSome, Ok, Err}
use Rattle.std.proofs.lemmas.List.{length-append}
use Rattle.std.proofs.lemmas.List.Elements.{All-head, All-tail}
use Rattle.std.proofs.lemmas.Bool.Decides.{nat_tests}
use Rattle.qv_cert.specs.declared.kind.RefusalKind.{RefusalKind}
use Rattle.qv_cert.specs.declared.kind.RefusalKind.TheVariants as kind
use Rattle.qv_cert.specs.declared.line.Line.{Line}
use Rattle.qv_cert.specs.declared.answers.Stop.{Stop}
use Rattle.qv_cert.specs.declared.answers.Stop.TheVariants as stop
use Rattle.qv_cert.specs.declared.answers.CertNext.TheVariants as next
use Rattle.qv_cert.specs.Line.{CertLine}
use Rattle.qv_cert.specs.LineView.{cert_line_of}
use Rattle.qv_cert.specs.Text.{Text, text_of, with_front, AtEnd, Faulty, line_behind, next_of_reading}
use Rattle.qv_cert.specs.TextLaws.{HasNoLf}
use Rattle.qv_cert.specs.CertReader.{Position, to_give, with_line, next_in, GivesNext, Filled, no_call, one_more, GoesOver, ReadsOnDemand, TookShort}
use Rattle.qv_cert.specs.Taking.{TellsLine, TakenLine, NoNext, AreLast, AreOpen, answer_of}
use Rattle.qv_cert.proofs.LineLengths.{line_is_long}

-- ---- texts

not_lf : (byte : ℕ) → byte ≢ 10 → (byte == 10) ≡ false
not_lf byte h = grind (arith, nat_tests)

-- a line in front
pub text_line : (line more : List ℕ) → HasNoLf line → text_of (line ++ 10 ∷ more) ≡ with_line line (text_of more)
unfolding text_of
text_line [] more h = refl
text_line (byte ∷ line) more h =
    let other = not_lf byte (All-head (λ b. b ≡ 10 → ⊥) byte line h) in
    ap (with_front byte) (text_line line more (All-tail (λ b. b ≡ 10 → ⊥) byte line h)) ∙ rw other refl

-- no line at all
pub text_open : (bytes : List ℕ) → HasNoLf bytes → text_of bytes ≡ record { lines = []; rest = bytes }
unfolding text_of
text_open [] h = refl
text_open (byte ∷ bytes) h =
    let other = not_lf byte (All-head (λ b. b ≡ 10 → ⊥) byte bytes h) in
    ap (with_front byte) (text_open bytes (All-tail (λ b. b ≡ 10 → ⊥) byte bytes h)) ∙ rw other refl

-- the text that was to be given, where a line of it was taken
told_text : (rest line rest' : List ℕ) (left left' : Option (List ℕ)) → HasNoLf line → TellsLine left rest line left' rest'
    → to_give rest left ≡ option_map (with_line line) (to_give rest' left')
told_text rest line rest' None None h e = refl
told_text rest line rest' None (Some b) h e = absurd cc
told_text rest line rest' (Some a) None h e = absurd cc
told_text rest line rest' (Some a) (Some b) h e =
    let same : rest ++ a ≡ line ++ 10 ∷ (rest' ++ b) = cc in
    ap (λ (xs : List ℕ). Some (text_of xs)) same ∙ ap (λ (t : Text). Some t) (text_line line (rest' ++ b) h)

-- ---- counts

pub filled_counts : (S : Type 0) (call : S → ℕ → Option (List ℕ) → S → Type 0) (rest : List ℕ) (taken : ℕ) (source : S) (buffer : List ℕ) (taken' : ℕ) (later : S)
    → Filled call rest taken source buffer taken' later → taken' + length rest ≡ taken + length buffer
filled_counts S call rest taken source _ _ _ no_call = refl
filled_counts S call rest taken source _ _ _ (one_more buffer so_far now bytes later before none below called) =
    omega (arith, filled_counts S call rest taken source buffer so_far now before, length-append buffer bytes)

-- a line of four bytes or more was taken
pub four_bytes : (S : Type 0) (call : S → ℕ → Option (List ℕ) → S → Type 0) (rest : List ℕ) (taken : ℕ) (source : S) (text rest' : List ℕ) (taken' : ℕ) (later : S) (given : ℕ) (inner : Bool) (line : CertLine)
    → GoesOver call rest taken source text rest' taken' later → line_behind given inner text ≡ Ok line → 4 + length rest' + taken ≤ taken' + length rest
four_bytes S call rest taken source text rest' taken' later given inner line goes reads =
    omega (arith, line_is_long given inner text line reads, filled_counts S call rest taken source (text ++ 10 ∷ rest') taken' later goes.filled, length-append text (10 ∷ rest'))

-- ---- answers

pub line_gives : (S : Type 0) (call : S → ℕ → Option (List ℕ) → S → Type 0) (left : S → Option (List ℕ)) (given : ℕ) (inner : Bool) (rest : List ℕ) (taken : ℕ) (source : S) (line : Line) (number : ℕ) (rest' : List ℕ) (taken' : ℕ) (later : S)
    → TakenLine call left given inner rest taken source (Ok (cert_line_of line)) rest' taken' later → GivesNext given inner (to_give rest (left source)) (next.Line number line) (to_give rest' (left later))
line_gives S call left given inner rest taken source line number rest' taken' later h = (h.text, told_text rest h.text rest' (left source) (left later) h.goes.is_line h.told, h.reads)

fault_gives : (given : ℕ) (inner : Bool) (text : List ℕ) (k : RefusalKind) (old new : Option Text) → line_behind given inner text ≡ Err k → old ≡ option_map (with_line text) new
    → IfSome old (λ t. next_in given inner t ≡ Faulty k)
fault_gives given inner text k None new reads e = tt
fault_gives given inner text k (Some t) None reads e = absurd cc
fault_gives given inner text k (Some t) (Some u) reads e =
    let same : t ≡ with_line text u = cc in
    ap (next_in given inner) same ∙ ap next_of_reading reads

ends_give : (given : ℕ) (inner : Bool) (rest : List ℕ) (left : Option (List ℕ)) → AreLast left rest [] → IfSome (to_give rest left) (λ t. next_in given inner t ≡ AtEnd)
unfolding text_of
ends_give given inner rest None h = tt
ends_give given inner rest (Some b) h = ap (λ (xs : List ℕ). next_in given inner (text_of xs)) h

some_open : (given : ℕ) (inner : Bool) (bytes : List ℕ) → HasNoLf bytes → 0 < length bytes → next_in given inner (text_of bytes) ≡ Faulty kind.Truncated
some_open given inner [] h some = absurd (omega arith)
some_open given inner (byte ∷ bytes) h some = ap (next_in given inner) (text_open (byte ∷ bytes) h)

open_gives : (given : ℕ) (inner : Bool) (rest : List ℕ) (left : Option (List ℕ)) → AreOpen left rest → IfSome (to_give rest left) (λ t. next_in given inner t ≡ Faulty kind.Truncated)
open_gives given inner rest None h = tt
open_gives given inner rest (Some b) h = some_open given inner (rest ++ b) h.0 h.1

truncated : (given : ℕ) (inner : Bool) (k : RefusalKind) (t : Option Text) → k ≡ kind.Truncated → IfSome t (λ u. next_in given inner u ≡ Faulty kind.Truncated) → IfSome t (λ u. next_in given inner u ≡ Faulty k)
truncated given inner k t e h = subst (λ (j : RefusalKind). IfSome t (λ u. next_in given inner u ≡ Faulty j)) (sym e) h

pub stop_gives : (S : Type 0) (call : S → ℕ → Option (List ℕ) → S → Type 0) (left : S → Option (List ℕ)) (rose : Type 0) (given : ℕ) (inner : Bool) (rest : List ℕ) (taken : ℕ) (source : S) (why : Stop) (number : ℕ) (rest' : List ℕ) (taken' : ℕ) (later : S)
    → NoNext call left rose given inner rest taken source why rest' taken' later → GivesNext given inner (to_give rest (left source)) (answer_of number why) (to_give rest' (left later))
stop_gives S call left rose given inner rest taken source stop.End number rest' taken' later h = ends_give given inner rest (left source) h.1
stop_gives S call left rose given inner rest taken source (stop.Fault k) number rest' taken' later (inl h) =
    fault_gives given inner h.text k (to_give rest (left source)) (to_give rest' (left later)) h.reads (told_text rest h.text rest' (left source) (left later) h.goes.is_line h.told)
stop_gives S call left rose given inner rest taken source (stop.Fault k) number rest' taken' later (inr h) =
    truncated given inner k (to_give rest (left source)) h.0 (open_gives given inner rest (left source) h.2)
stop_gives S call left rose given inner rest taken source stop.ReadFault number rest' taken' later h = tt
stop_gives S call left rose given inner rest taken source stop.ReadLimit number rest' taken' later h = tt
stop_gives S call left rose given inner rest taken source stop.NoMemory number rest' taken' later h = tt

pub stop_calls : (S : Type 0) (call : S → ℕ → Option (List ℕ) → S → Type 0) (left : S → Option (List ℕ)) (rose : Type 0) (inner : Bool) (old : Position) (source : S) (why : Stop) (number : ℕ) (new : Position) (later : S)
    → NoNext call left rose old.given inner old.rest old.taken source why new.rest new.taken later → ReadsOnDemand call inner old source (answer_of number why) new later
stop_calls S call left rose inner old source stop.End number new later h = h.0
stop_calls S call left rose inner old source (stop.Fault k) number new later (inl h) = inl (h.text, h.goes, h.reads)
stop_calls S call left rose inner old source (stop.Fault k) number new later (inr h) = inr (h.0, h.1)
stop_calls S call left rose inner old source stop.ReadFault number new later h = h.1
stop_calls S call left rose inner old source stop.ReadLimit number new later h = h.0
stop_calls S call left rose inner old source stop.NoMemory number new later h = h

pub stop_short : (S : Type 0) (call : S → ℕ → Option (List ℕ) → S → Type 0) (left : S → Option (List ℕ)) (rose : Type 0) (given : ℕ) (inner : Bool) (rest : List ℕ) (taken : ℕ) (source : S) (why : Stop) (number : ℕ) (rest' : List ℕ) (taken' : ℕ) (later : S)
    → NoNext call left rose given inner rest taken source why rest' taken' later → TookShort (answer_of number why) rest'
stop_short S call left rose given inner rest taken source stop.End number rest' taken' later h = tt
stop_short S call left rose given inner rest taken source (stop.Fault k) number rest' taken' later (inl h) = λ _. h.ahead
stop_short S call left rose given inner rest taken source (stop.Fault k) number rest' taken' later (inr h) = λ other. absurd (other h.0)
stop_short S call left rose given inner rest taken source stop.ReadFault number rest' taken' later h = tt
stop_short S call left rose given inner rest taken source stop.ReadLimit number rest' taken' later h = tt
stop_short S call left rose given inner rest taken source stop.NoMemory number rest' taken' later h = tt

pub stop_rose : (S : Type 0) (call : S → ℕ → Option (List ℕ) → S → Type 0) (left : S → Option (List ℕ)) (rose : Type 0) (given : ℕ) (inner : Bool) (rest : List ℕ) (taken : ℕ) (source : S) (why : Stop) (rest' : List ℕ) (taken' : ℕ) (later : S)
    → NoNext call left rose given inner rest taken source why rest' taken' later → Some why ≡ Some stop.ReadFault → rose
stop_rose S call left rose given inner rest taken source stop.End rest' taken' later h e = absurd cc
stop_rose S call left rose given inner rest taken source (stop.Fault k) rest' taken' later h e = absurd cc
stop_rose S call left rose given inner rest taken source stop.ReadFault rest' taken' later h e = h.0
stop_rose S call left rose given inner rest taken source stop.ReadLimit rest' taken' later h e = absurd cc
stop_rose S call left rose given inner rest taken source stop.NoMemory rest' taken' later h e = absurd cc
