-- Terms with names that are defined.
use Rattle.std.proofs.Common.{◌≡◌, ◌<◌, ◌≤◌, ◌+◌, ℕ, zero, suc, Bool, true, false, not, Option, Some, List, [], ◌∷◌, length, drop, slice_get, get_or, refl, sym, ap, subst, ◌∙◌, drop-cons, Ok, Err, arith}
use Rattle.std.specs.Prelude.{Result}
use Rattle.std.proofs.lemmas.Option.{slice_get_within, get_or_from_slice_get}
use Rattle.qv_sexpr.specs.declared.items.Expr.{Expr}
use Rattle.qv_sexpr.specs.Script.{Tree as Written}
use Rattle.qv_words.specs.Tree.{Tree}
use Rattle.qv_store.specs.Stores.{StandsAt}
use Rattle.qv_elab_defs.specs.declared.faults.ElabFault.{ElabFault}
use Rattle.qv_elab_defs.specs.declared.faults.ElabFault.TheVariants as elab
use Rattle.qv_elab_defs.specs.Answers.{Answers}
use Rattle.qv_elab_defs.specs.Applying.{sort_of}
use Rattle.qv_elab_defs.specs.Defining.{elaborate, definition}
use Rattle.qv_elab_defs.specs.Faults.{◌>>=◌}
use Rattle.qv_elab_defs.specs.Faults.{Fault as TermFault}
use Rattle.qv_elab_defs.specs.Written.{HasTokens}
use Rattle.qv_elab_scope.proofs.Defined.{reading-alone}
use Rattle.qv_elab_scope.specs.declared.scope.Kept.{Kept}
use Rattle.qv_elab_scope.specs.declared.scope.Kept.TheVariants as kept
use Rattle.qv_elab_scope.proofs.Defined.{scope-defined, definition-kept}
use Rattle.qv_script_defs.specs.declared.faults.ScriptFault.{ScriptFault}
use Rattle.qv_script_defs.specs.declared.faults.ScriptFault.TheVariants.{At, NoMemory}
use Rattle.qv_script_defs.specs.declared.faults.ScriptKind.TheVariants.{NameInUse}
use Rattle.qv_script_defs.specs.Faults.{Fault, refuse, demand, inside, fault_of}
use Rattle.qv_script_defs.specs.Parts.{Asserted, asserted_of}
use Rattle.qv_script_defs.specs.State.{State, scope_of, is_taken, with_entry}
use Rattle.qv_script_defs.specs.Labels.{Label, label, labelled}
use Rattle.qv_script_parts.specs.Parted.{IsPart, IsAsserted}
use Rattle.qv_script_parts.specs.Walking.{IsLabel, AreLabels}
use Rattle.qv_script_stack.specs.Held.{Held, IsScriptIn}
use Rattle.qv_script_stack.specs.Changes.{IsLabelled}
use Rattle.qv_script_stack.proofs.Asserting.{no-parameters, held-definition}
use Rattle.qv_script_terms.specs.Labelling.{GivesState}

-- the name and the term that are told of a term with a name
pub label-told : (expr : Expr) (at : ℕ) (l : Label) (told : Option (ℕ × List ℕ)) → IsLabel expr at l → ((e : Written) → IsPart expr at e → IsAsserted expr.items.items expr.text.items e (asserted_of e) told) →
    (p : ℕ × List ℕ) → told ≡ Some p → (p.1 ≡ l.name) × IsPart expr p.0 l.term
label-told expr at l told is tells p e = go (subst (λ o. IsAsserted expr.items.items expr.text.items is.0 (asserted_of is.0) o) e (tells is.0 is.1))
  where
    go : IsAsserted expr.items.items expr.text.items is.0 (asserted_of is.0) (Some p) → (p.1 ≡ l.name) × IsPart expr p.0 l.term
    go h =
        let names : Some p.1 ≡ Some l.name = sym h.0 ∙ ap (λ (a : Asserted). a.name) is.2 in
        let same : p.1 ≡ l.name = cc in
        (same, subst (λ (a : Asserted). IsPart expr p.0 a.term) is.2 h.1)

module _ (place : ℕ) (s : State) (l : Label) where
  abbrev with-term : Result Tree TermFault → Result State Fault
  with-term r = inside r >>= λ _. Ok (with_entry l.name (definition (scope_of s) [] l.term) s)

  abbrev if-free : Bool → Result State Fault
  if-free taken = demand place NameInUse (not taken) >>= λ _. with-term (elaborate (scope_of s) l.term)

  pub label-taken : is_taken s l.name ≡ true → label place s l ≡ refuse place NameInUse
  label-taken e = ap if-free e

  label-free : is_taken s l.name ≡ false → label place s l ≡ with-term (elaborate (scope_of s) l.term)
  label-free e = ap if-free e

  pub label-faulty : (trees : List Tree) (held : Held) (f : ElabFault) (r : ScriptFault) → is_taken s l.name ≡ false → Answers trees (elaborate (scope_of s) l.term) (Err f) → r ≡ fault_of f → GivesState trees held (label place s l) (Err r)
  label-faulty trees held f r e h is = subst (λ (x : ScriptFault). GivesState trees held (label place s l) (Err x)) (sym is) (go f h)
    where
      go : (g : ElabFault) → Answers trees (elaborate (scope_of s) l.term) (Err g) → GivesState trees held (label place s l) (Err (fault_of g))
      go elab.NoMemory k = tt
      go (elab.At p kind) k = label-free e ∙ ap with-term k

  pub label-done : (trees : List Tree) (old new : Held) (id : ℕ) → HasTokens l.term → is_taken s l.name ≡ false → IsLabelled id l.name old new → Answers trees (elaborate (scope_of s) l.term) (Ok id) → IsScriptIn trees old s →
      (now : State) × (label place s l ≡ Ok now) × IsScriptIn trees new now
  label-done trees old new id tokens e n h held =
      let there : StandsAt trees n.body.id h.0 = subst (λ i. StandsAt trees i h.0) (sym n.id_is) h.2 in
      let reading = reading-alone trees (scope_of s) (sort_of h.0) l.term h.0 n.body held.scope.is_scope tokens no-parameters h.1 refl there n.no_depths in
      let d = definition (scope_of s) [] l.term in
      let now : State = with_entry l.name d s in
      let what : Kept = kept.Definition n.sorts n.body in
      let defined = scope-defined trees old.force (scope_of s) l.name [] (sort_of h.0) l.term n.body what held.scope no-parameters tokens reading
      (definition-kept trees (scope_of s) [] (sort_of h.0) l.term n.sorts.items n.body no-parameters tokens reading n.no_sorts) in
      (now, label-free e ∙ ap with-term h.1, subst (λ (k : Held). IsScriptIn trees k now) (sym n.held) (held-definition trees old s l.name what d defined refl held))

-- one label after another
pub label-at : (expr : Expr) (ats : List ℕ) (ls : List Label) (i at d : ℕ) → AreLabels expr ats ls → i < length ats → at ≡ get_or ats i d → (l : Label) × (slice_get ls i ≡ Some l) × IsLabel expr at l
label-at expr [] ls i at d h lt k = absurd (omega (arith, lt))
label-at expr (a ∷ ats) [] i at d h lt k = absurd h
label-at expr (a ∷ ats) (l ∷ ls) zero at d h lt k = (l, refl, subst (λ n. IsLabel expr n l) (sym k) h.0)
label-at expr (a ∷ ats) (l ∷ ls) (suc i) at d h lt k = label-at expr ats ls i at d h.1 (omega (arith, lt)) k

pub labels-count : (expr : Expr) (ats : List ℕ) (ls : List Label) → AreLabels expr ats ls → length ats ≡ length ls
labels-count expr [] [] h = refl
labels-count expr [] (l ∷ ls) h = absurd h
labels-count expr (a ∷ ats) [] h = absurd h
labels-count expr (a ∷ ats) (l ∷ ls) h = ap suc (labels-count expr ats ls h.1)

-- behind the first i of them
abbrev pub SoFar : List Tree → Held → ℕ → List Label → State → ℕ → Type 0
SoFar trees held place ls s i = (now : State) × (labelled place ls s ≡ labelled place (drop i ls) now) × IsScriptIn trees held now

module _ (place : ℕ) (ls : List Label) (s : State) where
  next-is : (i : ℕ) (now : State) (l : Label) → labelled place ls s ≡ labelled place (drop i ls) now → slice_get ls i ≡ Some l → labelled place ls s ≡ (label place now l >>= labelled place (drop (i + 1) ls))
  next-is i now l e k =
      let first : drop i ls ≡ l ∷ drop (suc i) ls = drop-cons ls i l (slice_get_within ls i l k) ∙ ap (λ y. y ∷ drop (suc i) ls) (get_or_from_slice_get ls i l l k) in
      let one : suc i ≡ i + 1 = omega arith in
      e ∙ ap (λ (qs : List Label). labelled place qs now) first ∙ ap (λ n. label place now l >>= labelled place (drop n ls)) one

  pub more-so-far : (trees : List Tree) (held : Held) (i : ℕ) (now next : State) (l : Label) → labelled place ls s ≡ labelled place (drop i ls) now → slice_get ls i ≡ Some l → label place now l ≡ Ok next → IsScriptIn trees held next → SoFar trees held place ls s (i + 1)
  more-so-far trees held i now next l e k is h =
      (next, next-is i now l e k ∙ ap (λ (r : Result State Fault). r >>= labelled place (drop (i + 1) ls)) is, h)

  pub fault-so-far : (trees : List Tree) (held : Held) (i : ℕ) (now : State) (l : Label) (r : ScriptFault) → labelled place ls s ≡ labelled place (drop i ls) now → slice_get ls i ≡ Some l → GivesState trees held (label place now l) (Err r) → GivesState trees held (labelled place ls s) (Err r)
  fault-so-far trees held i now l NoMemory e k h = tt
  fault-so-far trees held i now l (At p kind) e k h = next-is i now l e k ∙ ap (λ (r : Result State Fault). r >>= labelled place (drop (i + 1) ls)) h

  pub end-so-far : (trees : List Tree) (held : Held) (i : ℕ) → SoFar trees held place ls s i → length ls ≤ i → (now : State) × (labelled place ls s ≡ Ok now) × IsScriptIn trees held now
  end-so-far trees held i h le = (h.0, h.1 ∙ ap (λ (qs : List Label). labelled place qs h.0) (dropped ls i le), h.2)
    where
      dropped : (qs : List Label) (n : ℕ) → length qs ≤ n → drop n qs ≡ []
      dropped [] zero k = refl
      dropped [] (suc n) k = refl
      dropped (q ∷ qs) zero k = absurd (omega (arith, k))
      dropped (q ∷ qs) (suc n) k = dropped qs n (omega (arith, k))
