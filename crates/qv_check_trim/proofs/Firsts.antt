-- The first sections, their answers and their trimmed text.
use Rattle.std.proofs.Common.{◌≡◌, ◌∙◌, ◌++◌, ℕ, false, List, [], ◌∷◌, drop, get_or, refl, sym, ap, subst, append_assoc, arith}
use Rattle.std.specs.Prelude.{Ok, flat_map, map}
use Rattle.std.proofs.lemmas.List.Concat.{flat_map-append}
use Rattle.qv_words.specs.declared.op.Answer.{Answer}
use Rattle.qv_words.specs.declared.op.Answer.TheVariants.{Sat, Unsat, Unknown}
use Rattle.qv_cert.specs.Line.{CertLine, Check, End}
use Rattle.qv_cert.specs.Grammar.{Reading, cert_line}
use Rattle.qv_cert.specs.Section.{Task}
use Rattle.qv_cert.specs.Shown.{IsSection}
use Rattle.qv_cert.specs.Spelling.{cert_text}
use Rattle.qv_cnf.specs.LratLine.{LratLine}
use Rattle.qv_cert.specs.Line.{Lrat, Step}
use Rattle.qv_check_laws.specs.Verdict.{AcceptedSection}
use Rattle.qv_check_defs.specs.Outcome.{answer_line}
use Rattle.qv_trim.specs.Sections.{IsTrimmedProof, IsTrimmedSection, StaysUnknown}
use Rattle.qv_cert.specs.Shown.{IsProof}
use Rattle.qv_trim.proofs.Kept.{trimmed_are_one}
use Rattle.qv_trim.proofs.Sectioned.{front_of, own-trimmed, read-first}
use Rattle.qv_check_trim.specs.Trimmed.{AreTrimmed}
use Rattle.qv_check_trim.specs.Sections.{BeginsWithAnswer, BeginsWithNoAnswer, StandIn, answers_text}

-- ---- lists

pub behind-same : {X : Type 0} (first one other : List X) → first ++ one ≡ first ++ other → one ≡ other
behind-same [] one other e = e
behind-same (x ∷ xs) one other e = behind-same xs one other (let tails : xs ++ one ≡ xs ++ other = cc in tails)

-- ---- answers

byte-of : (n : ℕ) (one other : List ℕ) → one ≡ other → get_or one n 0 ≡ get_or other n 0
byte-of n one other e = ap (λ (t : List ℕ). get_or t n 0) e

one-answer : (a b : Answer) (x y : List ℕ) → answer_line a ++ x ≡ answer_line b ++ y → a ≡ b
one-answer Sat Sat x y e = refl
one-answer Sat Unsat x y e = let no : 115 ≡ 117 = byte-of 0 (answer_line Sat ++ x) (answer_line Unsat ++ y) e in absurd (omega (arith, no))
one-answer Sat Unknown x y e = let no : 115 ≡ 117 = byte-of 0 (answer_line Sat ++ x) (answer_line Unknown ++ y) e in absurd (omega (arith, no))
one-answer Unsat Sat x y e = let no : 117 ≡ 115 = byte-of 0 (answer_line Unsat ++ x) (answer_line Sat ++ y) e in absurd (omega (arith, no))
one-answer Unsat Unsat x y e = refl
one-answer Unsat Unknown x y e = let no : 115 ≡ 107 = byte-of 2 (answer_line Unsat ++ x) (answer_line Unknown ++ y) e in absurd (omega (arith, no))
one-answer Unknown Sat x y e = let no : 117 ≡ 115 = byte-of 0 (answer_line Unknown ++ x) (answer_line Sat ++ y) e in absurd (omega (arith, no))
one-answer Unknown Unsat x y e = let no : 107 ≡ 115 = byte-of 2 (answer_line Unknown ++ x) (answer_line Unsat ++ y) e in absurd (omega (arith, no))
one-answer Unknown Unknown x y e = refl

answers-both : (one other : List AcceptedSection) → answers_text (one ++ other) ≡ answers_text one ++ answers_text other
answers-both one other = flat_map-append (λ (s : AcceptedSection). answer_line s.answer) one other

-- the next section is the one whose answer was printed next
pub record IsNext (left : List AcceptedSection) (part : List ℕ) (size : ℕ) : Type 0 where
  pub section : AcceptedSection
  pub others : List AcceptedSection
  pub left_are : left ≡ section ∷ others
  pub part_is : part ≡ answer_line section.answer ++ drop size part

pub next-of : (left : List AcceptedSection) (last part rest : List ℕ) (size : ℕ) → BeginsWithNoAnswer last → answers_text left ++ last ≡ part ++ rest → BeginsWithAnswer part size → IsNext left part size
next-of [] last part rest size none e b =
    absurd (none b.answer (drop size part ++ rest) (e ∙ (ap (λ (t : List ℕ). t ++ rest) b.text_is ∙ append_assoc (answer_line b.answer) (drop size part) rest)))
next-of (s ∷ ss) last part rest size none e b =
    let whole : answer_line s.answer ++ (answers_text ss ++ last) ≡ answer_line b.answer ++ (drop size part ++ rest) =
    sym (append_assoc (answer_line s.answer) (answers_text ss) last) ∙ (e ∙ (ap (λ (t : List ℕ). t ++ rest) b.text_is ∙ append_assoc (answer_line b.answer) (drop size part) rest)) in
    let same : s.answer ≡ b.answer = one-answer s.answer b.answer (answers_text ss ++ last) (drop size part ++ rest) whole in
    record { section = s; others = ss; left_are = refl; part_is = subst (λ (a : Answer). part ≡ answer_line a ++ drop size part) (sym same) b.text_is }

-- what comes behind answers that were printed
pub left-of : (sections first left : List AcceptedSection) (printed part last rest : List ℕ) → sections ≡ first ++ left → printed ≡ answers_text first ++ part → answers_text sections ++ last ≡ printed ++ rest → answers_text left ++ last ≡ part ++ rest
left-of sections first left printed part last rest s p e =
    behind-same (answers_text first) (answers_text left ++ last) (part ++ rest)
    (sym (append_assoc (answers_text first) (answers_text left) last)
    ∙ (ap (λ (t : List ℕ). t ++ last) (sym (answers-both first left)) ∙ (ap (λ (ss : List AcceptedSection). answers_text ss ++ last) (sym s) ∙ (e ∙ (ap (λ (t : List ℕ). t ++ rest) p ∙ append_assoc (answers_text first) part rest)))))

-- all of them were printed where nothing more is to come
pub all-printed : (left : List AcceptedSection) (last part : List ℕ) → answers_text left ++ last ≡ part → BeginsWithNoAnswer part → left ≡ []
all-printed [] last part e none = refl
all-printed (s ∷ ss) last part e none = absurd (none s.answer (answers_text ss ++ last) (sym e ∙ append_assoc (answer_line s.answer) (answers_text ss) last))

-- sections whose answers were printed are among those behind which none more was
pub among-first : (first left some others : List AcceptedSection) (part rest : List ℕ) → first ++ left ≡ some ++ others → answers_text first ++ part ≡ answers_text some ++ rest → BeginsWithNoAnswer part
    → (more : List AcceptedSection) × (first ≡ some ++ more)
among-first first left [] others part rest s p none = (first, refl)
among-first [] left (x ∷ xs) others part rest s p none = absurd (none x.answer (answers_text xs ++ rest) (p ∙ append_assoc (answer_line x.answer) (answers_text xs) rest))
among-first (y ∷ ys) left (x ∷ xs) others part rest s p none =
    let heads : y ≡ x = cc in
    let tails : ys ++ left ≡ xs ++ others = cc in
    let whole : answer_line x.answer ++ (answers_text ys ++ part) ≡ answer_line x.answer ++ (answers_text xs ++ rest) =
    ap (λ (z : AcceptedSection). answer_line z.answer ++ (answers_text ys ++ part)) (sym heads)
    ∙ (sym (append_assoc (answer_line y.answer) (answers_text ys) part) ∙ (p ∙ append_assoc (answer_line x.answer) (answers_text xs) rest)) in
    let again = among-first ys left xs others part rest tails (behind-same (answer_line x.answer) (answers_text ys ++ part) (answers_text xs ++ rest) whole) none in
    (again.0, ap (λ (z : AcceptedSection). z ∷ ys) heads ∙ ap (λ (zs : List AcceptedSection). x ∷ zs) again.1)

-- ---- trimmed sections, one behind the other

pub trimmed-both : (one other : List AcceptedSection) (a b : List ℕ) → AreTrimmed one a → AreTrimmed other b → AreTrimmed (one ++ other) (a ++ b)
trimmed-both [] other a b h k = subst (λ (t : List ℕ). AreTrimmed other (t ++ b)) (sym h) k
trimmed-both (s ∷ ss) other a b (trimmed, rest, is, e, h) k =
    (trimmed, rest ++ b, is, ap (λ (t : List ℕ). t ++ b) e ∙ append_assoc (flat_map cert_text trimmed) rest b, trimmed-both ss other rest b h k)

pub record AreParted (one other : List AcceptedSection) (bytes : List ℕ) : Type 0 where
  pub first : List ℕ
  pub second : List ℕ
  pub bytes_are : bytes ≡ first ++ second
  pub one_trimmed : AreTrimmed one first
  pub other_trimmed : AreTrimmed other second

pub trimmed-parts : (one other : List AcceptedSection) (bytes : List ℕ) → AreTrimmed (one ++ other) bytes → AreParted one other bytes
trimmed-parts [] other bytes h = record { first = []; second = bytes; bytes_are = refl; one_trimmed = refl; other_trimmed = h }
trimmed-parts (s ∷ ss) other bytes (trimmed, rest, is, e, h) =
    let again = trimmed-parts ss other rest h in
    record {
      first = flat_map cert_text trimmed ++ again.first;
      second = again.second;
      bytes_are = e ∙ (ap (λ (t : List ℕ). flat_map cert_text trimmed ++ t) again.bytes_are ∙ sym (append_assoc (flat_map cert_text trimmed) again.first again.second));
      one_trimmed = (trimmed, again.first, is, refl, again.one_trimmed);
      other_trimmed = again.other_trimmed;
    }

-- ---- a section is trimmed in one way

proof-once : (task : Task) (answer : Answer) (texts : List (List ℕ)) (one other : List CertLine) → IsProof task answer texts → IsTrimmedProof texts one → IsTrimmedProof texts other → one ≡ other
proof-once task answer texts one other p t u =
    let a = own-trimmed task answer texts p one t in
    let b = own-trimmed task answer texts p other u in
    a.trimmed_are ∙ (ap (λ (kept : List LratLine). front_of task answer texts p ++ (Lrat ∷ (map Step kept ++ End ∷ []))) (trimmed_are_one p.steps a.kept b.kept a.keeps b.keeps) ∙ sym b.trimmed_are)

unknown-once : (texts : List (List ℕ)) (one other : List CertLine) → StaysUnknown texts one → StaysUnknown texts other → one ≡ other
unknown-once texts one other (n, r, e) (m, q, f) =
    let a = read-first false texts (Check n Unknown) (End ∷ []) r in
    let b = read-first false texts (Check m Unknown) (End ∷ []) q in
    let heads : a.0 ≡ b.0 = let whole : a.0 ∷ a.1 ≡ b.0 ∷ b.1 = sym a.2 ∙ b.2 in cc in
    let same : ◌≡◌ {A = Reading} (Ok (Check n Unknown)) (Ok (Check m Unknown)) = sym a.3 ∙ (ap (cert_line false) heads ∙ b.3) in
    let lines : Check n Unknown ≡ Check m Unknown = cc in
    e ∙ (ap (λ (l : CertLine). l ∷ End ∷ []) lines ∙ sym f)

pub section-once : (task : Task) (answer : Answer) (texts : List (List ℕ)) (one other : List CertLine) → IsSection task answer texts → IsTrimmedSection answer texts one → IsTrimmedSection answer texts other → one ≡ other
section-once task Sat texts one other s t u = proof-once task Sat texts one other s t u
section-once task Unsat texts one other s t u = proof-once task Unsat texts one other s t u
section-once task Unknown texts one other s t u = unknown-once texts one other t u

pub first-once : (first left : List AcceptedSection) (text rest one other : List ℕ) → StandIn (first ++ left) text rest → AreTrimmed first one → AreTrimmed first other → one ≡ other
first-once [] left text rest one other st t u = t ∙ sym u
first-once (s ∷ ss) left text rest one other (task, behind, b, st) (t, more, is, e, h) (u, more', is', e', h') =
    let same : t ≡ u = section-once task s.answer s.lines t u b.section is is' in
    let others : more ≡ more' = first-once ss left behind rest more more' st h h' in
    e ∙ (ap (λ (ls : List CertLine). flat_map cert_text ls ++ more) same ∙ (ap (λ (m : List ℕ). flat_map cert_text u ++ m) others ∙ sym e'))
