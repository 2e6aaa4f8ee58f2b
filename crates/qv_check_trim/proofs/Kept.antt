-- What was written of a certificate.
use Rattle.std.proofs.Common.{◌≡◌, ◌∙◌, ◌++◌, ℕ, false, Option, List, [], ◌∷◌, refl, sym, ap, subst, append_assoc}
use Rattle.std.specs.Prelude.{Ok, Err, OnOk, OnErr, Result}
use Rattle.std.proofs.lemmas.List.{append-nil}
use Rattle.std.proofs.lemmas.List.Concat.{flat_map-append}
use Rattle.qv_io.specs.Sink.{Appends}
use Rattle.qv_io.proofs.SinkLemmas.{Appends-nothing, Appends-append}
use Rattle.qv_cert.specs.Grammar.{Reading, cert_line}
use Rattle.qv_cert.specs.Line.{CertLine, Header}
use Rattle.qv_cert.specs.Spelling.{cert_text}
use Rattle.qv_cert.specs.Text.{first_line, only_header}
use Rattle.qv_check_laws.specs.Verdict.{AcceptedSection}
use Rattle.qv_check_defs.specs.Outcome.{answer_line, ending_text, outcome}
use Rattle.qv_script_transcript.specs.Certificates.{verdict_beside}
use Rattle.qv_trim.specs.Sections.{AppendsFront}
use Rattle.qv_trim.specs.Texts.{BeginsWith}
use Rattle.qv_trim.proofs.Written.{front-nothing, front-then, front-whole}
use Rattle.qv_check_trim.specs.Trimmed.{AppendsSections, AppendsTrimmed, AreTrimmed, ArePrinted, IsTrimmedCert, head}
use Rattle.qv_check_trim.specs.Printing.{IsFrontOfOutcome}
use Rattle.qv_check_trim.specs.Sections.{IsFrontOfAnswers, StandIn, WroteCertFront, WroteFirst, WroteFront, WroteKept, WrotePrinted, answers_text}
use Rattle.qv_check_trim.proofs.Apart.{ends-apart}
use Rattle.qv_check_trim.proofs.Firsts.{all-printed, among-first, behind-same, first-once, trimmed-parts}
use Rattle.qv_check_trim.proofs.Standing.{IsHeadless, head-header, stand-behind}

-- a front of the whole text is one of the answers
pub front-of-answers : (places : ℕ) (script cert printed : List ℕ) → IsFrontOfOutcome places script cert printed → IsFrontOfAnswers (verdict_beside places script cert).sections printed
front-of-answers places script cert printed (rest, e) = record {
  last = ending_text (verdict_beside places script cert).ending;
  rest = rest;
  no_answer = ends-apart places script cert;
  front = e;
}

-- ---- where there is no first line

no-sections : {places : ℕ} (script cert : List ℕ) → IsHeadless places script cert → IsTrimmedCert places script cert []
no-sections script cert h = record {
  behind = [];
  trimmed = subst (λ (ss : List AcceptedSection). AreTrimmed ss []) (sym h.sections) refl;
  bytes_are = ap (λ (t : List ℕ). t ++ []) (sym h.head);
}

none-first : (first others : List AcceptedSection) → [] ≡ first ++ others → first ≡ []
none-first [] others e = refl
none-first (s ∷ ss) others e = absurd cc

pub wrote-headless : {places : ℕ} (script cert printed : List ℕ) (held : Option (List ℕ)) → IsHeadless places script cert → WroteKept places script cert printed held held
wrote-headless script cert printed held h = record {
  whole = λ _. ([], no-sections script cert h, Appends-nothing held);
  front = λ whole is. front-nothing held whole;
  stand = λ first some p. absurd (some (none-first first p.others (sym h.sections ∙ p.first_are)));
}

-- ---- behind the first line

module _ (places : ℕ) (script cert line more : List ℕ) (b : BeginsWith cert line more) (version : ℕ) (is : first_line line ≡ Ok (Header version)) (old now : Option (List ℕ)) where
  bytes-are : (whole : List ℕ) → (t : IsTrimmedCert places script cert whole) → whole ≡ cert_text (Header version) ++ t.behind
  bytes-are whole t = t.bytes_are ∙ ap (λ (h : List ℕ). h ++ t.behind) (head-header places script cert line more b version is)

  -- a part of that line was written
  pub cut-header : AppendsFront old now (cert_text (Header version)) → WroteCertFront places script cert old now
  cut-header f whole t = front-then old old now whole [] (cert_text (Header version)) t.behind (Appends-nothing old) f (bytes-are whole t)

  module _ (wrote : Appends old now (cert_text (Header version))) (new : Option (List ℕ)) where
    -- and then a part of the sections
    pub cut-sections : WroteFront (verdict_beside places script cert).sections now new → WroteCertFront places script cert old new
    cut-sections f whole t = front-then old now new whole (cert_text (Header version)) t.behind [] wrote (f t.behind t.trimmed) (bytes-are whole t ∙ ap (λ (s : List ℕ). cert_text (Header version) ++ s) (sym (append-nil t.behind)))

    -- or those whose answers were printed
    module _ (printed : List ℕ) (front : IsFrontOfOutcome places script cert printed) (w : WrotePrinted (verdict_beside places script cert).sections printed now new) where
      first : WroteFirst (verdict_beside places script cert).sections printed w.0 now new
      first = w.1

      appends-all : Appends old new (head cert ++ first.bytes)
      appends-all = subst (λ (h : List ℕ). Appends old new (h ++ first.bytes)) (sym (head-header places script cert line more b version is)) (Appends-append old now new (cert_text (Header version)) first.bytes wrote first.appends)

      -- all of them, where all was printed
      all-whole : (outcome places script cert).text ≡ printed → AppendsTrimmed places script cert old new
      all-whole e =
          let last = ending_text (verdict_beside places script cert).ending in
          let split : answers_text (verdict_beside places script cert).sections ++ last ≡ answers_text first.first ++ w.0 = e ∙ first.printed_are in
          let left : first.left ≡ [] = all-printed first.left last w.0 (left-all last split) w.2 in (
            head cert ++ first.bytes,
            record {
              behind = first.bytes;
              trimmed = subst (λ (ss : List AcceptedSection). AreTrimmed ss first.bytes) (sym (first.sections_are ∙ (ap (λ (ss : List AcceptedSection). first.first ++ ss) left ∙ append-nil first.first))) first.trimmed;
              bytes_are = refl;
            },
            appends-all,
          )
        where
          left-all : (last : List ℕ) → answers_text (verdict_beside places script cert).sections ++ last ≡ answers_text first.first ++ w.0 → answers_text first.left ++ last ≡ w.0
          left-all last e =
              behind-same (answers_text first.first) (answers_text first.left ++ last) w.0
              (sym (append_assoc (answers_text first.first) (answers_text first.left) last)
              ∙ (ap (λ (t : List ℕ). t ++ last) (sym (flat_map-append (λ (s : AcceptedSection). answer_line s.answer) first.first first.left)) ∙ (ap (λ (ss : List AcceptedSection). answers_text ss ++ last) (sym first.sections_are) ∙ e)))

      -- a front of them all
      all-front : WroteCertFront places script cert old new
      all-front whole t =
          let st = stand-behind places script cert line more b version is in
          let parts = trimmed-parts first.first first.left t.behind (subst (λ (ss : List AcceptedSection). AreTrimmed ss t.behind) first.sections_are t.trimmed) in
          let same : parts.first ≡ first.bytes = first-once first.first first.left more st.0 parts.first first.bytes (subst (λ (ss : List AcceptedSection). StandIn ss more st.0) first.sections_are st.1) parts.one_trimmed first.trimmed in
          front-whole old new whole (head cert ++ first.bytes) parts.second appends-all
          (t.bytes_are ∙ (ap (λ (s : List ℕ). head cert ++ s) (parts.bytes_are ∙ ap (λ (s : List ℕ). s ++ parts.second) same) ∙ sym (append_assoc (head cert) first.bytes parts.second)))

      -- each of these whole
      all-stand : (some : List AcceptedSection) → ArePrinted places script cert printed some → AppendsSections cert some old new
      all-stand some p =
          let among = among-first first.first first.left some p.others w.0 p.rest (sym first.sections_are ∙ p.first_are) (sym first.printed_are ∙ p.printed_are) w.2 in
          let parts = trimmed-parts some among.0 first.bytes (subst (λ (ss : List AcceptedSection). AreTrimmed ss first.bytes) among.1 first.trimmed) in
          record {
            behind = parts.first;
            rest = parts.second;
            trimmed = parts.one_trimmed;
            appends = subst (λ (s : List ℕ). Appends old new (head cert ++ s)) parts.bytes_are appends-all;
          }

      pub wrote-all : WroteKept places script cert printed old new
      wrote-all = record { whole = all-whole; front = all-front; stand = λ some _ p. all-stand some p }

-- ---- by the line that was read

abbrev as-read : CertLine → Reading
as-read l = Ok l

first-header : (r : Reading) (said : CertLine) → only_header r ≡ Ok said → (version : ℕ) × (said ≡ Header version)
first-header (Ok (Header version)) said e = (version, let same : said ≡ Header version = cc in same)
first-header _ said e = absurd cc

module _ (places : ℕ) (script cert line more : List ℕ) (b : BeginsWith cert line more) (said : CertLine) (is : first_line line ≡ Ok said) (old now : Option (List ℕ)) where
  own : (version : ℕ) × (said ≡ Header version)
  own = first-header (cert_line false line) said is

  read : first_line line ≡ Ok (Header own.0)
  read = is ∙ ap (λ (l : CertLine). as-read l) own.1

  pub cut-first : AppendsFront old now (cert_text said) → WroteCertFront places script cert old now
  cut-first f = cut-header places script cert line more b own.0 read old now (subst (λ (l : CertLine). AppendsFront old now (cert_text l)) own.1 f)

  module _ (wrote : Appends old now (cert_text said)) (new : Option (List ℕ)) where
    wrote-first : Appends old now (cert_text (Header own.0))
    wrote-first = subst (λ (l : CertLine). Appends old now (cert_text l)) own.1 wrote

    stands : (rest : List ℕ) × StandIn (verdict_beside places script cert).sections more rest
    stands = stand-behind places script cert line more b own.0 read

    pub sections-cut : (printed : List ℕ) → IsFrontOfOutcome places script cert printed
        → ((sections : List AcceptedSection) (behind : List ℕ) → StandIn sections more behind → IsFrontOfAnswers sections printed → WroteFront sections now new) → WroteCertFront places script cert old new
    sections-cut printed front w =
        cut-sections places script cert line more b own.0 read old now wrote-first new (w (verdict_beside places script cert).sections stands.0 stands.1 (front-of-answers places script cert printed front))

    pub sections-all : (printed : List ℕ) → IsFrontOfOutcome places script cert printed
        → ((sections : List AcceptedSection) (behind : List ℕ) → StandIn sections more behind → IsFrontOfAnswers sections printed → WrotePrinted sections printed now new) → WroteKept places script cert printed old new
    sections-all printed front w =
        wrote-all places script cert line more b own.0 read old now wrote-first new printed front (w (verdict_beside places script cert).sections stands.0 stands.1 (front-of-answers places script cert printed front))

-- ---- results

pub ok-so : {A E : Type 0} (r : Result A E) (P Q : Type 0) → OnOk r P → (P → Q) → OnOk r Q
ok-so (Ok a) P Q h go = go h
ok-so (Err e) P Q h go = tt

pub err-so : {A E : Type 0} (r : Result A E) (P Q : Type 0) → OnErr r P → (P → Q) → OnErr r Q
err-so (Ok a) P Q h go = tt
err-so (Err e) P Q h go = go h
