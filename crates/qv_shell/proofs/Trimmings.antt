-- How the check of a certificate ends that is written anew.
use Rattle.std.proofs.Common.{◌≡◌, ◌≢◌, ◌≤◌, ◌⊎◌, ◌++◌, ℕ, List, [], ◌∷◌, Option, Some, None, flat_map, inl, inr, refl, sym, subst, arith}
use Rattle.std.specs.Prelude.{IfSome}
use Rattle.qv_io.proofs.SinkLemmas.{Appends-nothing}
use Rattle.qv_words.specs.declared.op.Answer.{Answer}
use Rattle.qv_words.specs.declared.op.Answer.TheVariants as answer
use Rattle.qv_check_laws.specs.Verdict.{AcceptedSection}
use Rattle.qv_check_defs.specs.Outcome.{answer_line, outcome}
use Rattle.qv_check_script.specs.declared.ending.Ending.{Ending}
use Rattle.qv_check_script.specs.declared.ending.Ending.TheVariants.{Accepted, Faulty, Refused}
use Rattle.qv_check_script.specs.declared.ending.Halt.{Halt}
use Rattle.qv_check_script.specs.declared.ending.Halt.TheVariants as halt
use Rattle.qv_check_script.specs.Ending.{status_of, halt_status}
use Rattle.qv_check_script.specs.BesideLaws.{AnswersHold}
use Rattle.qv_check_script.proofs.Truthful.{answers-are_true}
use Rattle.qv_check_script.proofs.Unfinished.{nothing-short}
use Rattle.qv_check_trim.specs.Trimmed.{AppendsTrimmed, AppendsTrimmedFront, ArePrinted}
use Rattle.qv_check_trim.specs.TrimmedLaws.{TrimmedAreAccepted}
use Rattle.qv_check_trim.proofs.Can.{certs-can_be_trimmed}
use Rattle.qv_shell.specs.Checking.{IsEnd, IsFront, IsShort, IsWhole}
use Rattle.qv_shell.specs.Trimming.{AcceptsTrimmed, IsTrimRun}
use Rattle.qv_shell.proofs.Checks.{ends-well}

-- where both texts are told
abbrev Told : (script cert : Option (List ℕ)) → (List ℕ → List ℕ → Type 0) → Type 0
Told script cert P = IfSome script (λ text. IfSome cert (λ bytes. P text bytes))

told : (P : List ℕ → List ℕ → Type 0) (script cert : Option (List ℕ)) → ((text bytes : List ℕ) → P text bytes) → Told script cert P
told P None cert h = tt
told P (Some text) None h = tt
told P (Some text) (Some bytes) h = h text bytes

module _ (places : ℕ) (accepted : TrimmedAreAccepted) (script cert held held' kept kept' : Option (List ℕ)) where
  abbrev Run : ℕ → Type 0
  Run status = IsTrimRun places script cert held held' kept kept' status

  abbrev Whole : ℕ → Type 0
  Whole status = Told script cert (λ text bytes. IsWhole held held' status (outcome places text bytes))

  abbrev Anew : Type 0
  Anew = Told script cert (λ text bytes. AppendsTrimmed places text bytes kept kept')

  abbrev Front : Type 0
  Front = Told script cert (λ text bytes. IsFront held held' (outcome places text bytes))

  abbrev Short : Type 0
  Short = Told script cert (λ text bytes. IsShort held held' (outcome places text bytes))

  abbrev AnewFront : Type 0
  AnewFront = Told script cert (λ text bytes. AppendsTrimmedFront places text bytes held held' kept kept')

  -- at its end
  pub trim-done : (e : Ending) (status : ℕ) → status ≡ status_of e → Whole (status_of e) → Anew → Run status
  trim-done e status is done anew = subst Run (sym is) (go e done)
    where
      ended : (n : ℕ) → IsEnd n → (3 ≤ n → n ≤ 5 → ⊥) → Whole n → Run n
      ended n early late done = record {
        ends = inl early;
        whole = λ _. done;
        front = λ high low. absurd (late high low);
        short = λ five. absurd (late (omega (arith, five)) (omega (arith, five)));
        answers_hold = told (AnswersHold places) script cert (answers-are_true places);
        anew = λ _. anew;
        anew_front = λ high low. absurd (late high low);
        accepts = told (AcceptsTrimmed places) script cert (accepted places);
      }

      go : (x : Ending) → Whole (status_of x) → Run (status_of x)
      go Accepted done = ended 0 (ends-well Accepted) (λ high low. omega (arith, high)) done
      go Faulty done = ended 1 (ends-well Faulty) (λ high low. omega (arith, high)) done
      go Refused done = ended 6 (ends-well Refused) (λ high low. omega (arith, low)) done

  -- or before
  stops : (n : ℕ) → 3 ≤ n → n ≤ 5 → Front → (n ≡ 5 → Short) → AnewFront → Run n
  stops n high low cut short front = record {
    ends = inr (high, low);
    whole = λ early. absurd (late early);
    front = λ _ _. cut;
    short = short;
    answers_hold = told (AnswersHold places) script cert (answers-are_true places);
    anew = λ early. absurd (late early);
    anew_front = λ _ _. front;
    accepts = told (AcceptsTrimmed places) script cert (accepted places);
  }
    where
      late : IsEnd n → ⊥
      late (inl few) = omega (arith, few, high)
      late (inr six) = omega (arith, six, low)

  pub trim-halted : (h : Halt) (status : ℕ) → status ≡ halt_status h → Front → (h ≡ halt.NoMemory → Short) → AnewFront → Run status
  trim-halted h status is cut short front = subst Run (sym is) (go h short)
    where
      go : (x : Halt) → (x ≡ halt.NoMemory → Short) → Run (halt_status x)
      go halt.Read short = stops 3 (omega arith) (omega arith) cut (λ five. absurd (omega (arith, five))) front
      go halt.ReadLimit short = stops 3 (omega arith) (omega arith) cut (λ five. absurd (omega (arith, five))) front
      go halt.Write short = stops 4 (omega arith) (omega arith) cut (λ five. absurd (omega (arith, five))) front
      go halt.NoMemory short = stops 5 (omega arith) (omega arith) cut (λ _. short refl) front

-- no answer stands in nothing
none-printed : (places : ℕ) (text bytes : List ℕ) (first : List AcceptedSection) → first ≢ [] → ArePrinted places text bytes [] first → ⊥
none-printed places text bytes [] some h = some refl
none-printed places text bytes (s ∷ ss) some h = go s.answer h.printed_are
  where
    go : (a : Answer) → [] ≡ (answer_line a ++ flat_map (λ x. answer_line x.answer) ss) ++ h.rest → ⊥
    go answer.Sat e = absurd cc
    go answer.Unsat e = absurd cc
    go answer.Unknown e = absurd cc

nothing-anew : (places : ℕ) (held kept : Option (List ℕ)) (text bytes : List ℕ) → AppendsTrimmedFront places text bytes held held kept kept
nothing-anew places held kept text bytes =
    let can = certs-can_be_trimmed places text bytes in
    record {
      whole = can.0;
      trimmed = can.1;
      front = record { front = []; rest = can.0; bytes_are = refl; appends = Appends-nothing kept };
      printed = [];
      prints = Appends-nothing held;
      stand = λ first some h. absurd (none-printed places text bytes first some h);
    }

-- where it can't be said what was asked for, nothing was written
pub untrimmed : TrimmedAreAccepted → (script cert held kept : Option (List ℕ)) (places : ℕ) → IsTrimRun places script cert held held kept kept 5
untrimmed accepted script cert held kept places =
    stops places accepted script cert held held kept kept 5 (omega arith) (omega arith)
    (told (λ text bytes. IsFront held held (outcome places text bytes)) script cert (λ text bytes. ([], (outcome places text bytes).text, refl, Appends-nothing held)))
    (λ _. nothing-short places script cert held)
    (told (λ text bytes. AppendsTrimmedFront places text bytes held held kept kept) script cert (nothing-anew places held kept))
