-- What was printed by a check, and what stands where a run stops.
use Rattle.std.proofs.Common.{◌≡◌, ◌≢◌, ◌∙◌, ◌++◌, ◌<◌, inl, inr, ℕ, Option, Some, None, List, [], ◌∷◌, length, refl, sym, ap, subst, append_assoc, arith}
use Rattle.std.specs.Prelude.{IfOk, IfSome, OnErr, Result, Ok, Err}
use Rattle.std.proofs.lemmas.List.{append-nil}
use Rattle.qv_io.specs.Count.{Rose}
use Rattle.qv_io.specs.Sink.{Appends}
use Rattle.qv_io.proofs.SinkLemmas.{Appends-nothing}
use Rattle.qv_sexpr.specs.Limits.{read_limit}
use Rattle.qv_check_laws.specs.Verdict.{AcceptedSection}
use Rattle.qv_check_defs.specs.Limits.{MetLimit}
use Rattle.qv_check_defs.specs.Outcome.{answer_line, outcome}
use Rattle.qv_check_script.specs.Ending.{status_of}
use Rattle.qv_check_script.specs.declared.ending.Ending.{Ending}
use Rattle.qv_check_script.specs.declared.ending.Halt.{Halt}
use Rattle.qv_check_script.specs.declared.ending.Halt.TheVariants as halt
use Rattle.qv_words.specs.declared.op.Answer.{Answer}
use Rattle.qv_words.specs.declared.op.Answer.TheVariants.{Sat, Unsat, Unknown}
use Rattle.qv_trim.proofs.Written.{front-nothing}
use Rattle.qv_check_trim.specs.Printing.{IsChecked, IsFrontOfOutcome, IsOutcome, IsShortOfOutcome}
use Rattle.qv_check_trim.specs.Sections.{WroteCertFront, WroteKept, answers_text}
use Rattle.qv_check_trim.specs.Trimmed.{AppendsTrimmed, AppendsTrimmedFront}
use Rattle.qv_check_trim.proofs.Can.{certs-can_be_trimmed}

-- ---- a check of bytes that are held

module _ (places : ℕ) (cert printed : List ℕ) where
  abbrev Whole : Ending → List ℕ → Type 0
  Whole ending text = (status_of ending ≡ (outcome places text cert).status) × Appends (Some []) (Some printed) (outcome places text cert).text

  abbrev Front : List ℕ → Type 0
  Front text = (written rest : List ℕ) × ((outcome places text cert).text ≡ written ++ rest) × Appends (Some []) (Some printed) written

  abbrev Short : List ℕ → Type 0
  Short text = (written rest : List ℕ) × ((outcome places text cert).text ≡ written ++ rest) × (rest ≢ []) × Appends (Some []) (Some printed) written

  whole-is : (ending : Ending) (text : List ℕ) → Whole ending text → IsOutcome places text cert ending printed
  whole-is ending text (status, appends) = (status, let same : printed ≡ (outcome places text cert).text = cc in sym same)

  whole-front : (ending : Ending) (text : List ℕ) → Whole ending text → IsFrontOfOutcome places text cert printed
  whole-front ending text h = ([], (whole-is ending text h).1 ∙ sym (append-nil printed))

  front-is : (text : List ℕ) → Front text → IsFrontOfOutcome places text cert printed
  front-is text (written, rest, e, appends) = let same : printed ≡ written = cc in (rest, e ∙ ap (λ (t : List ℕ). t ++ rest) (sym same))

  short-is : (text : List ℕ) → Short text → IsShortOfOutcome places text cert printed
  short-is text (written, rest, e, some, appends) = let same : printed ≡ written = cc in (rest, e ∙ ap (λ (t : List ℕ). t ++ rest) (sym same), some)

  pub checked-so : (script : Option (List ℕ)) (ended : Result Ending Halt) → IfOk ended (λ ending. IfSome script (Whole ending)) → OnErr ended (IfSome script Front) → (ended ≡ Err halt.NoMemory → IfSome script Short) → IsChecked places script cert ended printed
  checked-so None (Ok ending) done cut short = record { front = tt; done = tt; short = λ _. tt }
  checked-so None (Err h) done cut short = record { front = tt; done = tt; short = λ _. tt }
  checked-so (Some text) (Ok ending) done cut short = record { front = whole-front ending text done; done = whole-is ending text done; short = λ no. absurd cc }
  checked-so (Some text) (Err h) done cut short = record { front = front-is text cut; done = tt; short = λ is. short-is text (short is) }

-- the same, told of other names for these bytes
module _ (places : ℕ) (script : Option (List ℕ)) (ended : Result Ending Halt) (cert bytes printed held old : List ℕ) (is_cert : bytes ≡ cert) (is_printed : printed ≡ held) (none : old ≡ []) where
  abbrev WholeOf : (before now : List ℕ) → Type 0
  WholeOf before now = IfOk ended (λ ending. IfSome script (λ text. (status_of ending ≡ (outcome places text bytes).status) × Appends (Some before) (Some now) (outcome places text bytes).text))

  abbrev FrontOf : (before now : List ℕ) → Type 0
  FrontOf before now = OnErr ended (IfSome script (λ text. (written rest : List ℕ) × ((outcome places text bytes).text ≡ written ++ rest) × Appends (Some before) (Some now) written))

  abbrev ShortOf : (before now : List ℕ) → Type 0
  ShortOf before now = ended ≡ Err halt.NoMemory → IfSome script (λ text. (written rest : List ℕ) × ((outcome places text bytes).text ≡ written ++ rest) × (rest ≢ []) × Appends (Some before) (Some now) written)

  abbrev Both : ((before now : List ℕ) → Type 0) → Type 0
  Both P = P old held → P [] printed

  moves : (P : (before now : List ℕ) → Type 0) → Both P
  moves P h = subst (λ (before : List ℕ). P before printed) none (subst (λ (now : List ℕ). P old now) (sym is_printed) h)

  pub checked-of : WholeOf old held → FrontOf old held → ShortOf old held → IsChecked places script cert ended printed
  checked-of done cut short =
      subst (λ (b : List ℕ). IsChecked places script b ended printed) is_cert
      (checked-so places bytes printed script ended (moves WholeOf done) (moves FrontOf cut) (moves ShortOf short))

-- no call of a source in memory fails
pub none-rose : Rose 0 0 → ⊥
none-rose (inl less) = omega (arith, less)
none-rose (inr last) = omega (arith, last)

-- and few bytes meet no limit
pub none-met : {S : Type 0} (call : S → ℕ → Option (List ℕ) → S → Type 0) (bytes : List ℕ) (source later : S) → length bytes < read_limit → MetLimit call (Some bytes) source later → ⊥
none-met call bytes source later few met = let told = met.told in omega (arith, few, told)

-- ---- where a run stops before it prints

-- nothing was printed
abbrev pub CutTexts : (places : ℕ) (script cert held held' : Option (List ℕ)) → Type 0
CutTexts places script cert held held' =
    IfSome script (λ text. IfSome cert (λ bytes. (written rest : List ℕ) × ((outcome places text bytes).text ≡ written ++ rest) × Appends held held' written))

pub nothing-cut : (places : ℕ) (script cert held : Option (List ℕ)) → CutTexts places script cert held held
nothing-cut places None cert held = tt
nothing-cut places (Some text) None held = tt
nothing-cut places (Some text) (Some bytes) held = ([], (outcome places text bytes).text, refl, Appends-nothing held)

-- so no answer was
none-printed : (first : List AcceptedSection) (rest : List ℕ) → [] ≡ answers_text first ++ rest → first ≡ []
none-printed [] rest e = refl
none-printed (s ∷ ss) rest e = by s.answer (e ∙ append_assoc (answer_line s.answer) (answers_text ss) rest)
  where
    by : (a : Answer) → [] ≡ answer_line a ++ (answers_text ss ++ rest) → s ∷ ss ≡ []
    by Sat e = absurd cc
    by Unsat e = absurd cc
    by Unknown e = absurd cc

-- a front of the certificate was written
abbrev pub FrontTexts : (places : ℕ) (script cert held held' old new : Option (List ℕ)) → Type 0
FrontTexts places script cert held held' old new = IfSome script (λ text. IfSome cert (λ bytes. AppendsTrimmedFront places text bytes held held' old new))

front-unprinted : (places : ℕ) (script cert : List ℕ) (held old new : Option (List ℕ)) → WroteCertFront places script cert old new → AppendsTrimmedFront places script cert held held old new
front-unprinted places script cert held old new f =
    let can = certs-can_be_trimmed places script cert in
    record {
      whole = can.0;
      trimmed = can.1;
      front = f can.0 can.1;
      printed = [];
      prints = Appends-nothing held;
      stand = λ first some p. absurd (some (none-printed first p.rest p.printed_are));
    }

pub nothing-front : (places : ℕ) (script cert held old : Option (List ℕ)) → FrontTexts places script cert held held old old
nothing-front places None cert held old = tt
nothing-front places (Some text) None held old = tt
nothing-front places (Some text) (Some bytes) held old = front-unprinted places text bytes held old old (λ whole _. front-nothing old whole)

-- ---- behind a check

-- the certificate that was taken is the one that is told
module _ (places : ℕ) (bytes : List ℕ) (cert : Option (List ℕ)) (all : IfSome cert (λ told. bytes ≡ told)) where
  of-cert : (P : List ℕ → Type 0) → P bytes → IfSome cert P
  of-cert P h = by cert all
    where
      by : (c : Option (List ℕ)) → IfSome c (λ told. bytes ≡ told) → IfSome c P
      by None e = tt
      by (Some told) e = subst P e h

  of-both : (script : Option (List ℕ)) (P : List ℕ → List ℕ → Type 0) → IfSome script (λ text. P text bytes) → IfSome script (λ text. IfSome cert (P text))
  of-both None P h = tt
  of-both (Some text) P h = of-cert (P text) h

  module _ (script : Option (List ℕ)) (ended : Result Ending Halt) (printed : List ℕ) (c : IsChecked places script bytes ended printed) (held old : Option (List ℕ)) where
    -- not all was written
    pub unwritten-front : (new : Option (List ℕ)) → ((text : List ℕ) → IsFrontOfOutcome places text bytes printed → WroteCertFront places text bytes old new) → FrontTexts places script cert held held old new
    unwritten-front new w = of-both script (λ text told. AppendsTrimmedFront places text told held held old new) (by script c.front)
      where
        by : (s : Option (List ℕ)) → IfSome s (λ text. IsFrontOfOutcome places text bytes printed) → IfSome s (λ text. AppendsTrimmedFront places text bytes held held old new)
        by None f = tt
        by (Some text) f = front-unprinted places text bytes held old new (w text f)

    module _ (new : Option (List ℕ)) (w : (text : List ℕ) → IsFrontOfOutcome places text bytes printed → WroteKept places text bytes printed old new) where
      abbrev Cut : Option (List ℕ) → List ℕ → List ℕ → Type 0
      Cut held' text told = (written rest : List ℕ) × ((outcome places text told).text ≡ written ++ rest) × Appends held held' written

      -- a first part of what is printed was, and then the sections of its answers stand
      front-printed : (held' : Option (List ℕ)) (part rest : List ℕ) → printed ≡ part ++ rest → Appends held held' part → (text : List ℕ) → IsFrontOfOutcome places text bytes printed → AppendsTrimmedFront places text bytes held held' old new
      front-printed held' part rest e prints text f =
          let kept = w text f in
          let can = certs-can_be_trimmed places text bytes in
          record {
            whole = can.0;
            trimmed = can.1;
            front = kept.front can.0 can.1;
            printed = part;
            prints = prints;
            stand = λ first some p. kept.stand first some (record {
              others = p.others;
              first_are = p.first_are;
              rest = p.rest ++ rest;
              printed_are = e ∙ (ap (λ (t : List ℕ). t ++ rest) p.printed_are ∙ append_assoc (answers_text first) p.rest rest);
            });
          }

      pub printed-front : (held' : Option (List ℕ)) (part rest : List ℕ) → printed ≡ part ++ rest → Appends held held' part → FrontTexts places script cert held held' old new
      printed-front held' part rest e prints = of-both script (λ text told. AppendsTrimmedFront places text told held held' old new) (by script c.front)
        where
          by : (s : Option (List ℕ)) → IfSome s (λ text. IsFrontOfOutcome places text bytes printed) → IfSome s (λ text. AppendsTrimmedFront places text bytes held held' old new)
          by None f = tt
          by (Some text) f = front-printed held' part rest e prints text f

      pub printed-cut : (held' : Option (List ℕ)) (part rest : List ℕ) → printed ≡ part ++ rest → Appends held held' part → CutTexts places script cert held held'
      printed-cut held' part rest e prints = of-both script (Cut held') (by script c.front)
        where
          by : (s : Option (List ℕ)) → IfSome s (λ text. IsFrontOfOutcome places text bytes printed) → IfSome s (λ text. Cut held' text bytes)
          by None f = tt
          by (Some text) (more, f) = (part, rest ++ more, f ∙ (ap (λ (t : List ℕ). t ++ more) e ∙ append_assoc part rest more), prints)

      -- all of it was
      pub printed-done : (held' : Option (List ℕ)) → Appends held held' printed → IfOk ended (λ ending. IfSome script (λ text. IfSome cert (λ told. (status_of ending ≡ (outcome places text told).status) × Appends held held' (outcome places text told).text)))
      printed-done held' prints = by ended c.done
        where
          in-script : (ending : Ending) (s : Option (List ℕ)) → IfSome s (λ text. IsOutcome places text bytes ending printed) → IfSome s (λ text. (status_of ending ≡ (outcome places text bytes).status) × Appends held held' (outcome places text bytes).text)
          in-script ending None h = tt
          in-script ending (Some text) h = (h.0, subst (λ (t : List ℕ). Appends held held' t) (sym h.1) prints)

          by : (r : Result Ending Halt) → IfOk r (λ ending. IfSome script (λ text. IsOutcome places text bytes ending printed)) → IfOk r (λ ending. IfSome script (λ text. IfSome cert (λ told. (status_of ending ≡ (outcome places text told).status) × Appends held held' (outcome places text told).text)))
          by (Ok ending) h = of-both script (λ text told. (status_of ending ≡ (outcome places text told).status) × Appends held held' (outcome places text told).text) (in-script ending script h)
          by (Err h) k = tt

      pub written-whole : IfOk ended (λ ending. IfSome script (λ text. IfSome cert (λ told. AppendsTrimmed places text told old new)))
      written-whole = by ended c.done
        where
          in-script : (ending : Ending) (s : Option (List ℕ)) → IfSome s (λ text. IsOutcome places text bytes ending printed) → IfSome s (λ text. AppendsTrimmed places text bytes old new)
          in-script ending None h = tt
          in-script ending (Some text) h = (w text ([], h.1 ∙ sym (append-nil printed))).whole h.1

          by : (r : Result Ending Halt) → IfOk r (λ ending. IfSome script (λ text. IsOutcome places text bytes ending printed)) → IfOk r (λ ending. IfSome script (λ text. IfSome cert (λ told. AppendsTrimmed places text told old new)))
          by (Ok ending) h = of-both script (λ text told. AppendsTrimmed places text told old new) (in-script ending script h)
          by (Err h) k = tt

      -- not all of it, where memory was wanting
      pub printed-short : (held' : Option (List ℕ)) → Appends held held' printed → ended ≡ Err halt.NoMemory → IfSome script (λ text. IfSome cert (λ told. (written rest : List ℕ) × ((outcome places text told).text ≡ written ++ rest) × (rest ≢ []) × Appends held held' written))
      printed-short held' prints is = of-both script (λ text told. (written rest : List ℕ) × ((outcome places text told).text ≡ written ++ rest) × (rest ≢ []) × Appends held held' written) (by script (c.short is))
        where
          by : (s : Option (List ℕ)) → IfSome s (λ text. IsShortOfOutcome places text bytes printed) → IfSome s (λ text. (written rest : List ℕ) × ((outcome places text bytes).text ≡ written ++ rest) × (rest ≢ []) × Appends held held' written)
          by None h = tt
          by (Some text) (rest, e, some) = (printed, rest, e, some, prints)
