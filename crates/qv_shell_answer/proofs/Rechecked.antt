-- A check whose section the checker looks at.
use Rattle.std.proofs.Common.{◌≡◌, ℕ, [], ◌∷◌, refl, ◌<◌, Some, List, ◌++◌, length, sym, ap, subst, ◌∙◌}
use Rattle.std.specs.List.{AllByRecursion}
use Rattle.std.specs.Prelude.{All, IsSomeAnd, Vec}
use Rattle.std.specs.declared.alloc.Global.{Global}
use Rattle.std.proofs.lemmas.List.Elements.{All-weaker, recursion_from_All}
use Rattle.qv_words.specs.Tree.{Tree}
use Rattle.qv_words.specs.Truth.{IsAssertion, HaveOneSort, constants_of_each}
use Rattle.qv_store.specs.Stores.{Grows}
use Rattle.qv_store.specs.Nodes.{tree_at}
use Rattle.qv_store.specs.Walks.{named}
use Rattle.qv_store.proofs.Replacement.{grown-tree, grown-within}
use Rattle.qv_meter.specs.Records.{Limits, Metering}
use Rattle.qv_script_stack.specs.declared.held.Declared.{Declared}
use Rattle.qv_script_stack.specs.declared.held.Last.{Last}
use Rattle.qv_script_stack.specs.Held.{Held, HaveSorts, answer_of, declared_of}
use Rattle.qv_script_transcript.specs.Lawful.{IsLawfulAnswer}
use Rattle.qv_script_transcript.specs.Following.{with_answer}
use Rattle.qv_script_transcript.specs.Certificates.{IsCertified, word_of}
use Rattle.qv_shell_answer.specs.declared.checking.Checked.{Checked}
use Rattle.qv_shell_answer.specs.Metered.{IsRecordOf}
use Rattle.qv_shell_answer.specs.Refusals.{IsSectionText}
use Rattle.qv_shell_answer.specs.Checks.{CanCheck, IsCheckedFor, IsUnrefused, formulas_in}
use Rattle.qv_shell_answer.proofs.Filled.{IsOver}

-- in a store that grew
module _ (trees later : List Tree) (grows : Grows trees later) (held : Held) (can : CanCheck trees held) where
  named-stay : (ids : List ℕ) → AllByRecursion (λ id. id < length trees) ids → named later ids ≡ named trees ids
  named-stay [] h = refl
  named-stay (id ∷ ids) h =
      let first : tree_at later id ≡ tree_at trees id = grown-tree trees later grows id h.0 in
      let rest : named later ids ≡ named trees ids = named-stay ids h.1 in
      cc

  same-formulas : formulas_in later held ≡ formulas_in trees held
  same-formulas = named-stay (held.assertions ++ held.assumed) (recursion_from_All (λ id. id < length trees) (held.assertions ++ held.assumed) can.below)

  -- what may be checked still may
  pub can-later : CanCheck later held
  can-later = record {
    below = All-weaker (λ id. id < length trees) (λ id. id < length later) (grown-within trees later grows) (held.assertions ++ held.assumed) can.below;
    assertions = subst (All IsAssertion) (sym same-formulas) can.assertions;
    one_sort = subst HaveOneSort (sym same-formulas) can.one_sort;
    lawful = can.lawful;
    over = subst (λ (ts : List Tree). All (IsOver held.constants) (constants_of_each ts)) (sym same-formulas) can.over;
  }

  -- and the text of the section is one
  pub section-later : (number : ℕ) (limits : Limits) (m : Metering) (c : Checked) → IsCheckedFor number limits held.constants (formulas_in trees held) m c → IsSectionText (formulas_in later held) number c.section.items
  section-later number limits m c h =
      subst (λ (ts : List Tree). IsSectionText ts number c.section.items) (sym same-formulas)
      (h.lines, record { answer = word_of (answer_of c.last); section = (h.certified 0).section; apart = (h.certified 0).apart }, h.section)

-- behind what the checker says the answer is as it was
pub still-checked : (number : ℕ) (limits : Limits) (owns : List Declared) (formulas : List Tree) (m : Metering) (c d : Checked) → IsUnrefused c d → IsCheckedFor number limits owns formulas m c →
    IsCheckedFor number limits owns formulas m d
still-checked number limits owns formulas m c d same h = record {
  lawful = subst (λ (l : Last). IsLawfulAnswer (declared_of owns) formulas (answer_of l)) (sym same.last) h.lawful;
  sorts = subst (λ (l : Last). HaveSorts owns (Some l)) (sym same.last) h.sorts;
  lines = h.lines;
  section = ap (λ (v : Vec ℕ Global). v.items) same.section ∙ h.section;
  certified = λ limit. rw same.last (rw same.counts (h.certified limit));
  metered = λ limit. rw same.last (rw same.counts (h.metered limit));
  unrefused = same.unrefused;
}
