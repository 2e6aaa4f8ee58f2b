-- Accepted sections are sections of their answers.
use Rattle.std.proofs.Common.{◌≡◌, ℕ, suc, ◌+◌, false, List, [], ◌∷◌, ◌++◌, length, map, refl, ap, sym, subst, ◌∙◌, arith, append_assoc, length-append}
use Rattle.std.specs.Prelude.{Ok, IsTrue}
use Rattle.std.specs.List.{AllByRecursion}
use Rattle.std.proofs.lemmas.List.Elements.{recursion_from_All}
use Rattle.qv_words.specs.declared.op.Answer.{Answer}
use Rattle.qv_words.specs.declared.op.Answer.TheVariants.{Sat, Unsat, Unknown}
use Rattle.qv_words.specs.GameLaws.{IsProblem}
use Rattle.qv_words.proofs.Leaves.{front}
use Rattle.qv_cert.specs.Line.{Check, Rewrite, Lrat, End}
use Rattle.qv_cert.specs.Grammar.{Reading, cert_line}
use Rattle.qv_cert.specs.Listed.{nothing, listed_by}
use Rattle.qv_cert.specs.Faults.{belongs}
use Rattle.qv_cert.specs.Section.{Task}
use Rattle.qv_cert.specs.Shown.{IsListOf, IsProof, IsSection, AcceptedText, AcceptedAreSections}
use Rattle.qv_cert.proofs.Accepted.{read-more, read-lines, IsListed, IsOpened, OpenedSat, OpenedUnsat, OpenedUnknown}
use Rattle.qv_cert.proofs.Ranges.{HasValue}
use Rattle.qv_cert.proofs.SatSections.{values-read, sat-section}
use Rattle.qv_cert.proofs.UnsatSections.{unsat-section}

-- the facts on the lines that list
listed-values : (task : Task) (answer a : Answer) (n m : ℕ) (lines behind : List (List ℕ)) → (h : IsListed task nothing answer n m a lines behind) → AllByRecursion HasValue h.given
listed-values task answer a n m lines behind h =
    front HasValue h.given (map Rewrite h.passes ++ Lrat ∷ []) (values-read h.outer (h.given ++ (map Rewrite h.passes ++ Lrat ∷ [])) h.outer_are)

-- a section with a proof, behind its `check` line
proof-text : (task : Task) (answer a : Answer) (n m : ℕ) (text : List ℕ) (lines behind : List (List ℕ)) → cert_line false text ≡ Ok (Check task.number answer)
    → (h : IsListed task nothing answer (suc n) m a lines behind) → IsListOf task.problem answer (listed_by task.problem h.given)
    → (IsProof task answer (text ∷ (h.outer ++ h.inner)) → IsSection task answer (text ∷ (h.outer ++ h.inner))) → AcceptedText task a n m (text ∷ lines) behind
proof-text task answer a n m text lines behind e h listed as_section =
    let proof : IsProof task answer (text ∷ (h.outer ++ h.inner)) = record {
      given = h.given;
      passes = h.passes;
      steps = h.steps;
      outer = text ∷ h.outer;
      inner = h.inner;
      texts_are = refl;
      outer_are = read-more false text (Check task.number answer) h.outer (h.given ++ (map Rewrite h.passes ++ Lrat ∷ [])) e h.outer_are;
      inner_are = h.inner_are;
      belong = h.belong;
      lawful = h.lawful;
      version = h.version;
      listed = listed;
      few = h.few;
      refutes = h.refutes;
    } in
    record {
      texts = text ∷ (h.outer ++ h.inner);
      lines_are = ap (λ (xs : List (List ℕ)). text ∷ xs) (h.lines_are ∙ sym (append_assoc h.outer h.inner behind));
      next_is = let both : length (h.outer ++ h.inner) ≡ length h.outer + length h.inner = length-append h.outer h.inner in omega (arith, h.next_is, both);
      section = subst (λ (x : Answer). IsSection task x (text ∷ (h.outer ++ h.inner))) h.answer_is (as_section proof);
    }

opened-text : (task : Task) (answer a : Answer) (n m : ℕ) (text : List ℕ) (lines behind : List (List ℕ)) → IsProblem task.problem → cert_line false text ≡ Ok (Check task.number answer)
    → IsOpened task (suc n) m a behind answer lines → AcceptedText task a n m (text ∷ lines) behind
opened-text task Sat a n m text lines behind problem e (OpenedSat _ h) =
    proof-text task Sat a n m text lines behind e h
    (sat-section task.problem h.given problem (recursion_from_All (λ line. IsTrue (belongs Sat line)) h.given h.belong) (listed-values task Sat a (suc n) m lines behind h) h.lawful h.complete) (λ x. x)
opened-text task Unsat a n m text lines behind problem e (OpenedUnsat _ h) =
    proof-text task Unsat a n m text lines behind e h
    (unsat-section task.problem h.given problem (recursion_from_All (λ line. IsTrue (belongs Unsat line)) h.given h.belong) (listed-values task Unsat a (suc n) m lines behind h) h.lawful) (λ x. x)
opened-text task Unknown a n m text lines behind problem e (OpenedUnknown _ h) = record {
  texts = text ∷ h.text ∷ [];
  lines_are = ap (λ (xs : List (List ℕ)). text ∷ xs) h.lines_are;
  next_is = omega (arith, h.next_is);
  section = subst (λ (x : Answer). IsSection task x (text ∷ h.text ∷ [])) h.answer_is
      (read-more false text (Check task.number Unknown) (h.text ∷ []) (End ∷ []) e (ap (λ (r : Reading). r ∷ []) h.text_is));
}

pub accepted-are-sections : AcceptedAreSections
accepted-are-sections task a n m lines behind problem is =
    let h = read-lines task lines a n m behind is in
    subst (λ (xs : List (List ℕ)). AcceptedText task a n m xs behind) (sym h.lines_are) (opened-text task h.answer a n m h.text h.others behind problem h.text_is h.opened)
