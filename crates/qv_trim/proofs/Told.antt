-- The text of a section, read as it is trimmed.
use Rattle.std.proofs.Common.{◌≡◌, ℕ, Bool, true, false, if◌then◌else◌, Option, Some, None, Ok, Err, List, [], ◌∷◌, ◌++◌, map, codes, append_assoc, refl, sym, ap, subst, ◌∙◌}
use Rattle.std.specs.Prelude.{All}
use Rattle.std.specs.Str.{bytes_eq}
use Rattle.std.specs.List.{AllByRecursion, flat_map}
use Rattle.std.proofs.lemmas.List.Concat.{flat_map-append}
use Rattle.std.proofs.lemmas.List.Elements.{recursion_from_All}
use Rattle.qv_words.specs.declared.op.Answer.{Answer}
use Rattle.qv_cnf.specs.LratLine.{LratLine}
use Rattle.qv_lrat_text.specs.Grammar.{lrat_line, line_of_words, id_of, without_lf}
use Rattle.qv_lrat_text.specs.Spelling.{spelling}
use Rattle.qv_lrat_text.specs.Words.{words}
use Rattle.qv_cert.specs.declared.kind.RefusalKind.TheVariants as kind
use Rattle.qv_cert.specs.Line.{CertLine, Lrat, Step, End}
use Rattle.qv_cert.specs.Grammar.{Reading, cert_line, inner_line, lrat_step}
use Rattle.qv_cert.specs.Section.{Task}
use Rattle.qv_cert.specs.Shown.{AreRead, IsProof}
use Rattle.qv_cert.specs.Spelling.{cert_text}
use Rattle.qv_cert.specs.TextLaws.{HasNoLf, bytes_of_lines}
use Rattle.qv_trim.specs.Sections.{HaveNoLast}
use Rattle.qv_trim.specs.Texts.{BeginsWith, Begins, BeginsWithNone, ReadsStep, ReadsOutside}
use Rattle.qv_trim.specs.Writing.{steps_text, IsFront, Follows}
use Rattle.qv_trim.proofs.Lines.{one-line}
use Rattle.qv_trim.proofs.Sectioned.{front_of, front-read, front-before}
use Rattle.qv_trim.proofs.Written.{append_nil}

-- ---- lines of a refutation

lrat-step : (o : Option LratLine) (step : LratLine) → lrat_step o ≡ Ok (Step step) → o ≡ Some step
lrat-step None step h = absurd cc
lrat-step (Some s) step h = let same : Step s ≡ Step step = cc in let own : s ≡ step = cc in ap (λ (x : LratLine). Some x) own

lrat-no_end : (o : Option LratLine) → lrat_step o ≡ Ok End → ⊥
lrat-no_end None h = absurd cc
lrat-no_end (Some s) h = absurd cc

alone-no_step : (b : Bool) (step : LratLine) → ◌≡◌ {A = Reading} (if b then Ok End else Err kind.Form) (Ok (Step step)) → ⊥
alone-no_step true step h = absurd cc
alone-no_step false step h = absurd cc

inner-step : (ws : List (List ℕ)) (step : LratLine) → inner_line ws ≡ Ok (Step step) → line_of_words ws ≡ Some step
inner-step [] step h = absurd cc
inner-step (w ∷ []) step h = absurd (alone-no_step (bytes_eq w (codes "end")) step h)
inner-step (w ∷ x ∷ others) step h = lrat-step (line_of_words (w ∷ x ∷ others)) step h

pub step-read : (text : List ℕ) (step : LratLine) → cert_line true text ≡ Ok (Step step) → lrat_line text ≡ Some step
unfolding cert_line lrat_line
step-read text step h = inner-step (words (without_lf text)) step h

one-word : (o : Option ℕ) → Rattle.std.specs.Option.option_and_then (λ (id : ℕ). Rattle.qv_lrat_text.specs.Grammar.behind_id id []) o ≡ None
one-word None = refl
one-word (Some id) = refl

inner-end : (ws : List (List ℕ)) → inner_line ws ≡ Ok End → line_of_words ws ≡ None
inner-end [] h = absurd cc
inner-end (w ∷ []) h = one-word (id_of w)
inner-end (w ∷ x ∷ others) h = absurd (lrat-no_end (line_of_words (w ∷ x ∷ others)) h)

end-read : (text : List ℕ) → cert_line true text ≡ Ok End → lrat_line text ≡ None
unfolding cert_line lrat_line
end-read text h = inner-end (words (without_lf text)) h

-- ---- a text of lines that are read

first-line : (t rest : List ℕ) (others : List (List ℕ)) → bytes_of_lines (t ∷ others) ++ rest ≡ t ++ 10 ∷ (bytes_of_lines others ++ rest)
first-line t rest others = append_assoc (t ++ 10 ∷ []) (bytes_of_lines others) rest ∙ append_assoc t (10 ∷ []) (bytes_of_lines others ++ rest)

pub begins-outer : (texts : List (List ℕ)) (lines : List CertLine) (rest : List ℕ) → AreRead false texts lines → AllByRecursion HasNoLf texts → Begins ReadsOutside (bytes_of_lines texts ++ rest) lines rest
begins-outer [] [] rest r h = refl
begins-outer [] (l ∷ ls) rest r h = absurd cc
begins-outer (t ∷ others) [] rest r h = absurd cc
begins-outer (t ∷ others) (l ∷ ls) rest r h =
    let own : cert_line false t ≡ Ok l = cc in
    let more : AreRead false others ls = cc in
    (t, bytes_of_lines others ++ rest, record { is_line = h.0; text_is = first-line t rest others }, own, begins-outer others ls rest more h.1)

-- and its end
record EndsSteps (texts : List (List ℕ)) (steps : List LratLine) (rest : List ℕ) : Type 0 where
  last : List ℕ
  is_line : HasNoLf last
  read : cert_line true last ≡ Ok End
  begins : Begins ReadsStep (bytes_of_lines texts ++ rest) steps (last ++ 10 ∷ rest)

begins-steps : (texts : List (List ℕ)) (steps : List LratLine) (rest : List ℕ) → AreRead true texts (map Step steps ++ End ∷ []) → AllByRecursion HasNoLf texts → EndsSteps texts steps rest
begins-steps [] [] rest r h = absurd cc
begins-steps [] (s ∷ ss) rest r h = absurd cc
begins-steps (t ∷ []) [] rest r h = let own : cert_line true t ≡ Ok End = cc in record { last = t; is_line = h.0; read = own; begins = first-line t rest [] }
begins-steps (t ∷ u ∷ others) [] rest r h = absurd cc
begins-steps (t ∷ others) (s ∷ ss) rest r h =
    let own : cert_line true t ≡ Ok (Step s) = cc in
    let more : AreRead true others (map Step ss ++ End ∷ []) = cc in
    let behind = begins-steps others ss rest more h.1 in
    record {
      last = behind.last;
      is_line = behind.is_line;
      read = behind.read;
      begins = (t, bytes_of_lines others ++ rest, record { is_line = h.0; text_is = first-line t rest others }, step-read t s own, behind.begins);
    }

end-alone : (last rest : List ℕ) → HasNoLf last → cert_line true last ≡ Ok End → BeginsWithNone ReadsStep (last ++ 10 ∷ rest)
end-alone last rest is_line read line behind step b r =
    let same = one-line (last ++ 10 ∷ rest) line last behind rest b (record { is_line = is_line; text_is = refl }) in
    let none : Some step ≡ None = sym r ∙ (ap lrat_line same.0 ∙ end-read last read) in
    absurd cc

is-front : (front : List CertLine) → HaveNoLast front → IsFront (front ++ Lrat ∷ []) true
is-front [] h = (refl, refl)
is-front (l ∷ ls) h = subst (λ (o : Option Bool). Follows o (IsFront (ls ++ Lrat ∷ [])) (ls ++ Lrat ∷ []) true) (sym h.0) (is-front ls h.1)

parts-of : (outer inner : List (List ℕ)) → AllByRecursion HasNoLf (outer ++ inner) → AllByRecursion HasNoLf outer × AllByRecursion HasNoLf inner
parts-of [] inner h = (tt, h)
parts-of (t ∷ ts) inner h = let rest = parts-of ts inner h.1 in ((h.0, rest.0), rest.1)

-- ---- a section with a refutation

-- what its text begins with, part by part
pub record ToldProof (task : Task) (answer : Answer) (text : List ℕ) (texts : List (List ℕ)) (rest : List ℕ) (p : IsProof task answer texts) : Type 0 where
  pub behind : List ℕ
  pub last : List ℕ
  pub front_begins : Begins ReadsOutside text (front_of task answer texts p ++ Lrat ∷ []) behind
  pub front_ends : IsFront (front_of task answer texts p ++ Lrat ∷ []) true
  pub steps_begin : Begins ReadsStep behind p.steps (last ++ 10 ∷ rest)
  pub steps_end : BeginsWithNone ReadsStep (last ++ 10 ∷ rest)
  pub ends : BeginsWith (last ++ 10 ∷ rest) last rest

pub told-proof : (task : Task) (answer : Answer) (text : List ℕ) (texts : List (List ℕ)) (rest : List ℕ) (p : IsProof task answer texts) → text ≡ bytes_of_lines texts ++ rest → All HasNoLf texts → ToldProof task answer text texts rest p
told-proof task answer text texts rest p text_is each =
    let parts = parts-of p.outer p.inner (subst (λ (ts : List (List ℕ)). AllByRecursion HasNoLf ts) p.texts_are (recursion_from_All HasNoLf texts each)) in
    let e = begins-steps p.inner p.steps rest p.inner_are parts.1 in
    let split : text ≡ bytes_of_lines p.outer ++ (bytes_of_lines p.inner ++ rest) =
    text_is ∙ (ap (λ (ts : List (List ℕ)). bytes_of_lines ts ++ rest) p.texts_are
    ∙ (ap (λ (bytes : List ℕ). bytes ++ rest) (flat_map-append (λ line. line ++ 10 ∷ []) p.outer p.inner) ∙ append_assoc (bytes_of_lines p.outer) (bytes_of_lines p.inner) rest))
    in
    record {
      behind = bytes_of_lines p.inner ++ rest;
      last = e.last;
      front_begins = subst (λ (bytes : List ℕ). Begins ReadsOutside bytes (front_of task answer texts p ++ Lrat ∷ []) (bytes_of_lines p.inner ++ rest)) (sym split)
          (begins-outer p.outer (front_of task answer texts p ++ Lrat ∷ []) (bytes_of_lines p.inner ++ rest) (front-read task answer texts p) parts.0);
      front_ends = is-front (front_of task answer texts p) (front-before task answer texts p);
      steps_begin = e.begins;
      steps_end = end-alone e.last rest e.is_line e.read;
      ends = record { is_line = e.is_line; text_is = refl };
    }

-- ---- what is written

kept-text : (kept : List LratLine) → flat_map cert_text (map Step kept) ≡ steps_text kept
unfolding cert_text
kept-text [] = refl
kept-text (k ∷ ks) = ap (λ (more : List ℕ). spelling k ++ more) (kept-text ks)

end-text : cert_text End ≡ codes "end\n"
unfolding cert_text
end-text = refl

pub trimmed-text : (front : List CertLine) (kept : List LratLine) → flat_map cert_text (front ++ (Lrat ∷ (map Step kept ++ End ∷ []))) ≡ flat_map cert_text (front ++ Lrat ∷ []) ++ (steps_text kept ++ codes "end\n")
trimmed-text front kept =
    let tail : List CertLine = map Step kept ++ End ∷ [] in
    let whole : flat_map cert_text (front ++ (Lrat ∷ tail)) ≡ flat_map cert_text (front ++ Lrat ∷ []) ++ flat_map cert_text tail =
    ap (flat_map cert_text) (sym (append_assoc front (Lrat ∷ []) tail)) ∙ flat_map-append cert_text (front ++ Lrat ∷ []) tail
    in
    let last : flat_map cert_text (End ∷ []) ≡ codes "end\n" = append_nil (cert_text End) ∙ end-text in
    let behind : flat_map cert_text tail ≡ steps_text kept ++ codes "end\n" =
    flat_map-append cert_text (map Step kept) (End ∷ []) ∙ (ap (λ (t : List ℕ). t ++ flat_map cert_text (End ∷ [])) (kept-text kept) ∙ ap (λ (t : List ℕ). steps_text kept ++ t) last)
    in
    whole ∙ ap (λ (t : List ℕ). flat_map cert_text (front ++ Lrat ∷ []) ++ t) behind
