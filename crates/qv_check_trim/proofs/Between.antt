-- What was written behind some answers, and behind one more.
use Rattle.std.proofs.Common.{◌≡◌, ◌∙◌, ◌++◌, ℕ, Option, List, [], ◌∷◌, drop, refl, sym, ap, subst, append_assoc}
use Rattle.std.specs.Prelude.{flat_map}
use Rattle.std.proofs.lemmas.List.{append-nil}
use Rattle.std.proofs.lemmas.List.Concat.{flat_map-append}
use Rattle.qv_io.specs.Sink.{Appends}
use Rattle.qv_io.proofs.SinkLemmas.{Appends-nothing, Appends-append}
use Rattle.qv_words.specs.declared.op.Answer.{Answer}
use Rattle.qv_cert.specs.Line.{CertLine}
use Rattle.qv_cert.specs.Section.{Task}
use Rattle.qv_cert.specs.Spelling.{cert_text}
use Rattle.qv_check_laws.specs.Verdict.{AcceptedSection}
use Rattle.qv_check_defs.specs.Outcome.{answer_line}
use Rattle.qv_trim.specs.Sections.{AppendsFront, BeginsWithSection, IsTrimmedSection}
use Rattle.qv_trim.proofs.Written.{front-then}
use Rattle.qv_check_trim.specs.Trimmed.{AreTrimmed}
use Rattle.qv_check_trim.specs.Sections.{BeginsWithAnswer, BeginsWithNoAnswer, IsFrontOfAnswers, StandIn, WroteFirst, WrotePrinted, WroteFront, answers_text}
use Rattle.qv_check_trim.proofs.Firsts.{IsNext, next-of, left-of, trimmed-both, trimmed-parts, first-once}

-- the next section in a text, what is written of it, and how many bytes it has
abbrev pub WritesNext : (text : List ℕ) (size : ℕ) (old new : Option (List ℕ)) → Type 0
WritesNext text size old new =
    (task : Task) (answer : Answer) (texts : List (List ℕ)) (rest : List ℕ) → BeginsWithSection task answer text texts rest →
    (drop size text ≡ rest) × ((trimmed : List CertLine) × IsTrimmedSection answer texts trimmed × Appends old new (flat_map cert_text trimmed))

abbrev pub WritesPart : (text : List ℕ) (old new : Option (List ℕ)) → Type 0
WritesPart text old new =
    (task : Task) (answer : Answer) (texts : List (List ℕ)) (rest : List ℕ) (trimmed : List CertLine) → BeginsWithSection task answer text texts rest →
    IsTrimmedSection answer texts trimmed → AppendsFront old new (flat_map cert_text trimmed)

-- behind the first sections the others are left in a text
pub record IsBetween (sections : List AcceptedSection) (behind printed text part : List ℕ) (old now : Option (List ℕ)) : Type 0 where
  pub wrote : WroteFirst sections printed part old now
  pub stand : StandIn wrote.left text behind

module _ (sections : List AcceptedSection) (all behind printed : List ℕ) (stands : StandIn sections all behind) (old : Option (List ℕ)) where
  pub between-start : IsBetween sections behind printed all printed old old
  between-start = record {
    wrote = record { first = []; left = sections; sections_are = refl; bytes = []; trimmed = refl; appends = Appends-nothing old; printed_are = refl };
    stand = stands;
  }

  module _ (text part : List ℕ) (now : Option (List ℕ)) (b : IsBetween sections behind printed text part old now) (front : IsFrontOfAnswers sections printed) (size : ℕ) (prints : BeginsWithAnswer part size) where
    next : IsNext b.wrote.left part size
    next = next-of b.wrote.left front.last part front.rest size front.no_answer (left-of sections b.wrote.first b.wrote.left printed part front.last front.rest b.wrote.sections_are b.wrote.printed_are front.front) prints

    stand-next : StandIn (next.section ∷ next.others) text behind
    stand-next = subst (λ (ss : List AcceptedSection). StandIn ss text behind) next.left_are b.stand

    sections-next : sections ≡ b.wrote.first ++ (next.section ∷ next.others)
    sections-next = b.wrote.sections_are ∙ ap (λ (ss : List AcceptedSection). b.wrote.first ++ ss) next.left_are

    -- one more is written
    pub between-on : (bytes : ℕ) (new : Option (List ℕ)) → WritesNext text bytes now new → IsBetween sections behind printed (drop bytes text) (drop size part) old new
    between-on bytes new w =
        let st = stand-next in
        let wrote = w st.0 next.section.answer next.section.lines st.1 st.2 in
        let own : AreTrimmed (next.section ∷ []) (flat_map cert_text wrote.1.0) = (wrote.1.0, [], wrote.1.1, sym (append-nil (flat_map cert_text wrote.1.0)), refl) in
        record {
          wrote = record {
            first = b.wrote.first ++ next.section ∷ [];
            left = next.others;
            sections_are = sections-next ∙ sym (append_assoc b.wrote.first (next.section ∷ []) next.others);
            bytes = b.wrote.bytes ++ flat_map cert_text wrote.1.0;
            trimmed = trimmed-both b.wrote.first (next.section ∷ []) b.wrote.bytes (flat_map cert_text wrote.1.0) b.wrote.trimmed own;
            appends = Appends-append old now new b.wrote.bytes (flat_map cert_text wrote.1.0) b.wrote.appends wrote.1.2;
            printed_are = b.wrote.printed_are ∙ (ap (λ (t : List ℕ). answers_text b.wrote.first ++ t) (next.part_is ∙ ap (λ (t : List ℕ). t ++ drop size part) (sym (append-nil (answer_line next.section.answer))))
                ∙ (sym (append_assoc (answers_text b.wrote.first) (answers_text (next.section ∷ [])) (drop size part))
                ∙ ap (λ (t : List ℕ). t ++ drop size part) (sym (flat_map-append (λ (s : AcceptedSection). answer_line s.answer) b.wrote.first (next.section ∷ [])))));
          };
          stand = subst (λ (t : List ℕ). StandIn next.others t behind) (sym wrote.0) st.3;
        }

    -- or a part of it
    pub between-cut : (new : Option (List ℕ)) → WritesPart text now new → WroteFront sections old new
    between-cut new w whole are =
        let st = stand-next in
        let parts = trimmed-parts b.wrote.first (next.section ∷ next.others) whole (subst (λ (ss : List AcceptedSection). AreTrimmed ss whole) sections-next are) in
        let t = parts.other_trimmed in
        let same : parts.first ≡ b.wrote.bytes = first-once b.wrote.first (next.section ∷ next.others) all behind parts.first b.wrote.bytes (subst (λ (ss : List AcceptedSection). StandIn ss all behind) sections-next stands) parts.one_trimmed b.wrote.trimmed in
        front-then old now new whole b.wrote.bytes (flat_map cert_text t.0) t.1 b.wrote.appends (w st.0 next.section.answer next.section.lines st.1 t.0 st.2 t.2)
        (parts.bytes_are ∙ (ap (λ (xs : List ℕ). xs ++ parts.second) same ∙ ap (λ (xs : List ℕ). b.wrote.bytes ++ xs) t.3))

  pub between-end : (text part : List ℕ) (now : Option (List ℕ)) → IsBetween sections behind printed text part old now → BeginsWithNoAnswer part → WrotePrinted sections printed old now
  between-end text part now b none = (part, b.wrote, none)
