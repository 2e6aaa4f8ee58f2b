-- The lines of a trimmed section, as they are printed, are a section.
use Rattle.std.proofs.Common.{◌≡◌, ◌≢◌, ◌∙◌, ◌++◌, ◌==◌, ◌-◌, ℕ, zero, suc, Bool, true, false, List, [], ◌∷◌, length, map, get_or, refl, sym, ap, subst, arith}
use Rattle.std.specs.Prelude.{flat_map}
use Rattle.std.specs.List.{AllByRecursion}
use Rattle.std.proofs.lemmas.List.Elements.{recursion_from_All}
use Rattle.std.proofs.lemmas.Bool.Decides.{nat_tests}
use Rattle.qv_words.specs.declared.op.Answer.{Answer}
use Rattle.qv_words.specs.declared.op.Answer.TheVariants.{Sat, Unsat, Unknown}
use Rattle.qv_cnf.specs.LratLine.{LratLine, Addition, Deletion}
use Rattle.qv_lrat_text.specs.Grammar.{without_lf}
use Rattle.qv_lrat_text.specs.Words.{words}
use Rattle.qv_cert.specs.Line.{CertLine, Check, Lrat, Step, End, IsCertLine}
use Rattle.qv_cert.specs.Grammar.{Reading, cert_line, inner_line, outer_line}
use Rattle.qv_cert.specs.Section.{Task}
use Rattle.qv_cert.specs.Shown.{AreRead, IsProof, IsSection}
use Rattle.qv_cert.specs.Spelling.{cert_text}
use Rattle.qv_cert.specs.TextLaws.{HasNoLf, bytes_of_lines}
use Rattle.qv_cert.proofs.Ranges.{read-lines-are-cert-lines}
use Rattle.qv_script_transcript.specs.PrintedLines.{line_text}
use Rattle.qv_script_transcript.proofs.PrintedLines.{printed-lines-stand}
use Rattle.qv_trim.specs.Needed.{up_to_empty, IsNeeded, KeepsNeeded, nothing, keeps, drops, deletes}
use Rattle.qv_trim.specs.Sections.{IsTrimmedProof, IsTrimmedSection}
use Rattle.qv_trim.proofs.Sectioned.{read-first, trimmed_sections_stand}
use Rattle.qv_check_trim.proofs.Standing.{parts-of}

-- ---- the lines are in range

abbrev InRange : List CertLine → Type 0
InRange lines = AllByRecursion IsCertLine lines

read-range : (inner : Bool) (texts : List (List ℕ)) (lines : List CertLine) → AreRead inner texts lines → InRange lines
read-range inner texts [] r = tt
read-range inner texts (l ∷ ls) r =
    let a = read-first inner texts l ls r in
    (read-lines-are-cert-lines inner a.0 l a.3, read-range inner a.1 ls a.4)

both-range : (xs ys : List CertLine) → InRange xs → InRange ys → InRange (xs ++ ys)
both-range [] ys h k = k
both-range (x ∷ xs) ys h k = (h.0, both-range xs ys h.1 k)

kept-range : (needed : ℕ → Type 0) (lines kept : List LratLine) → KeepsNeeded needed lines kept → InRange (map Step lines) → InRange (map Step kept)
kept-range needed lines kept nothing h = h
kept-range needed lines kept (keeps id lits hints ls ks is k) h = (h.0, kept-range needed ls ks k h.1)
kept-range needed lines kept (drops id lits hints ls ks is k) h = kept-range needed ls ks k h.1
kept-range needed lines kept (deletes id ids ls ks k) h = (h.0, kept-range needed ls ks k h.1)

up_to-range : (lines : List LratLine) → InRange (map Step lines) → InRange (map Step (up_to_empty lines))
up_to-range [] h = h
up_to-range (Deletion id ids ∷ lines) h = (h.0, up_to-range lines h.1)
up_to-range (Addition id [] hints ∷ lines) h = (h.0, tt)
up_to-range (Addition id (l ∷ ls) hints ∷ lines) h = (h.0, up_to-range lines h.1)

proof-range : (texts : List (List ℕ)) (trimmed : List CertLine) → IsTrimmedProof texts trimmed → InRange trimmed
proof-range texts trimmed t =
    let front = (parts-of IsCertLine t.front (Lrat ∷ []) (read-range false t.outer (t.front ++ Lrat ∷ []) t.outer_are)).0 in
    let steps = (parts-of IsCertLine (map Step t.steps) (End ∷ []) (read-range true t.inner (map Step t.steps ++ End ∷ []) t.inner_are)).0 in
    let kept = kept-range (IsNeeded (up_to_empty t.steps)) (up_to_empty t.steps) t.kept t.keeps (up_to-range t.steps steps) in
    subst InRange (sym t.trimmed_are)
    (both-range t.front (Lrat ∷ (map Step t.kept ++ End ∷ [])) front (tt, both-range (map Step t.kept) (End ∷ []) kept (tt, tt)))

pub section-range : (answer : Answer) (texts : List (List ℕ)) (trimmed : List CertLine) → IsTrimmedSection answer texts trimmed → InRange trimmed
section-range Sat texts trimmed t = proof-range texts trimmed t
section-range Unsat texts trimmed t = proof-range texts trimmed t
section-range Unknown texts trimmed (number, r, e) = subst InRange (sym e) (read-range false texts (Check number Unknown ∷ End ∷ []) r)

-- ---- without its LF a printed line reads the same

abbrev Free : List ℕ → Type 0
Free text = AllByRecursion (λ b. b ≢ 10) text

at-free : (xs : List ℕ) (i : ℕ) → Free xs → (get_or xs i 0 == 10) ≡ false
at-free [] i h = refl
at-free (b ∷ bs) zero h = other b h.0
  where
    other : (b : ℕ) → b ≢ 10 → (b == 10) ≡ false
    other b h = grind (arith, nat_tests)
at-free (b ∷ bs) (suc i) h = at-free bs i h.1

lf-free : (xs : List ℕ) → Free xs → without_lf xs ≡ xs
lf-free xs h = rw (at-free xs (length xs - 1) h) refl

reads-same : (b : Bool) (xs ys : List ℕ) → without_lf xs ≡ without_lf ys → cert_line b xs ≡ cert_line b ys
unfolding cert_line
reads-same true xs ys e = ap (λ zs. inner_line (words zs)) e
reads-same false xs ys e = ap (λ zs. outer_line (words zs)) e

line-reads : (b : Bool) (line : CertLine) → IsCertLine line → cert_line b (line_text line) ≡ cert_line b (cert_text line)
line-reads b line h =
    reads-same b (line_text line) (cert_text line) (lf-free (line_text line) (recursion_from_All (λ b. b ≢ 10) (line_text line) (printed-lines-stand.0 line h).apart))

lines-read : (b : Bool) (lines : List CertLine) → InRange lines → map (λ text. cert_line b text) (map line_text lines) ≡ map (λ text. cert_line b text) (map cert_text lines)
lines-read b [] h = refl
lines-read b (line ∷ lines) h =
    ap (λ (r : Reading). r ∷ map (λ text. cert_line b text) (map line_text lines)) (line-reads b line h.0) ∙ ap (λ (rs : List Reading). cert_line b (cert_text line) ∷ rs) (lines-read b lines h.1)

-- ---- so the section stands

record AreMapped {X Y : Type 0} (f : X → Y) (xs : List X) (one other : List Y) : Type 0 where
  first : List X
  second : List X
  xs_are : xs ≡ first ++ second
  one_is : map f first ≡ one
  other_is : map f second ≡ other

map-parts : {X Y : Type 0} (f : X → Y) (xs : List X) (one other : List Y) → map f xs ≡ one ++ other → AreMapped f xs one other
map-parts f xs [] other e = record { first = []; second = xs; xs_are = refl; one_is = refl; other_is = e }
map-parts f [] (y ∷ ys) other e = absurd cc
map-parts {X} {Y} f (x ∷ xs) (y ∷ ys) other e =
    let head : f x ≡ y = cc in
    let tail : map f xs ≡ ys ++ other = cc in
    let again = map-parts f xs ys other tail in
    record {
      first = x ∷ again.first;
      second = again.second;
      xs_are = ap (λ (rest : List X). x ∷ rest) again.xs_are;
      one_is = ap (λ (z : Y). z ∷ map f again.first) head ∙ ap (λ (zs : List Y). y ∷ zs) again.one_is;
      other_is = again.other_is;
    }

map-both : {X Y : Type 0} (f : X → Y) (xs ys : List X) → map f (xs ++ ys) ≡ map f xs ++ map f ys
map-both f [] ys = refl
map-both {X} {Y} f (x ∷ xs) ys = ap (λ (rest : List Y). f x ∷ rest) (map-both f xs ys)

proof-printed : (task : Task) (answer : Answer) (lines : List CertLine) → InRange lines → IsProof task answer (map cert_text lines) → IsProof task answer (map line_text lines)
proof-printed task answer lines h p =
    let m = map-parts cert_text lines p.outer p.inner p.texts_are in
    let range = parts-of IsCertLine m.first m.second (subst InRange m.xs_are h) in
    record {
      given = p.given;
      passes = p.passes;
      steps = p.steps;
      outer = map line_text m.first;
      inner = map line_text m.second;
      texts_are = ap (map line_text) m.xs_are ∙ map-both line_text m.first m.second;
      outer_are = lines-read false m.first range.0 ∙ (ap (map (λ text. cert_line false text)) m.one_is ∙ p.outer_are);
      inner_are = lines-read true m.second range.1 ∙ (ap (map (λ text. cert_line true text)) m.other_is ∙ p.inner_are);
      belong = p.belong;
      lawful = p.lawful;
      version = p.version;
      listed = p.listed;
      few = p.few;
      refutes = p.refutes;
    }

printed : (task : Task) (answer : Answer) (lines : List CertLine) → InRange lines → IsSection task answer (map cert_text lines) → IsSection task answer (map line_text lines)
printed task Sat lines h s = proof-printed task Sat lines h s
printed task Unsat lines h s = proof-printed task Unsat lines h s
printed task Unknown lines h s = lines-read false lines h ∙ s

pub section-printed : (task : Task) (answer : Answer) (texts : List (List ℕ)) (trimmed : List CertLine) → IsSection task answer texts → IsTrimmedSection answer texts trimmed → IsSection task answer (map line_text trimmed)
section-printed task answer texts trimmed s t =
    printed task answer trimmed (section-range answer texts trimmed t) (trimmed_sections_stand task answer texts trimmed s t)

-- ---- their bytes

pub lines-bytes : (lines : List CertLine) → InRange lines → flat_map cert_text lines ≡ bytes_of_lines (map line_text lines)
lines-bytes [] h = refl
lines-bytes (line ∷ lines) h =
    ap (λ (t : List ℕ). t ++ flat_map cert_text lines) (printed-lines-stand.0 line h.0).ends ∙ ap (λ (t : List ℕ). (line_text line ++ 10 ∷ []) ++ t) (lines-bytes lines h.1)

pub lines-apart : (lines : List CertLine) → InRange lines → AllByRecursion HasNoLf (map line_text lines)
lines-apart [] h = tt
lines-apart (line ∷ lines) h = ((printed-lines-stand.0 line h.0).apart, lines-apart lines h.1)
