-- Clauses that steps add, laid behind those of a list in a core.
use Rattle.std.proofs.Common.{◌≡◌, ℕ, suc, ◌<◌, ◌≤◌, ◌^◌, Some, List, [], ◌∷◌, ◌++◌, length, take, slice_get, get_or, refl, sym, ap, subst, ◌∙◌, append_assoc, append-nil, arith}
use Rattle.std.specs.Prelude.{All}
use Rattle.std.specs.List.{AllByRecursion}
use Rattle.std.proofs.lemmas.List.{length-map, map-append, take_all}
use Rattle.std.proofs.lemmas.List.Elements.{All-from_recursion, recursion_from_All}
use Rattle.std.proofs.lemmas.Option.{slice_get-get_or}
use Rattle.qv_words.proofs.Elements.{get-map, take-one}
use Rattle.qv_words.proofs.Leaves.{both}
use Rattle.qv_cnf.specs.declared.steps.Step.{Step}
use Rattle.qv_cnf.specs.Listing.{Numbered}
use Rattle.qv_cnf.specs.LratLine.{LratLine, Addition, Deletion, line_of, lines_of}
use Rattle.qv_cnf.specs.Refutation.{standing_at}
use Rattle.qv_gates.specs.Closing.{Adds, added}
use Rattle.qv_lrat_text.specs.Grammar.{HasIds, IsId}
use Rattle.qv_sat.specs.CoreState.{CoreState}
use Rattle.qv_closed.specs.Cores.{IsAddedTo, IsFed, IsLaid}

-- the step at a place
pub found-there : {A : Type 0} (xs : List A) (n : ℕ) (x : A) → n < length xs → x ≡ get_or xs n x → slice_get xs n ≡ Some x
found-there xs n x h e = slice_get-get_or xs n x h ∙ ap Some (sym e)

-- ids of steps and of their lines
pub lines-have_ids : (steps : List Step) → All (λ s. HasIds (line_of s)) steps → All HasIds (lines_of steps)
lines-have_ids steps h = All-from_recursion HasIds (lines_of steps) (go steps (recursion_from_All (λ s. HasIds (line_of s)) steps h))
  where
    go : (xs : List Step) → AllByRecursion (λ s. HasIds (line_of s)) xs → AllByRecursion HasIds (lines_of xs)
    go [] k = tt
    go (x ∷ xs) k = (k.0, go xs k.1)

-- the clauses of the first steps stand behind those of the core as it was, and this id is next
pub record IsLaying (old : CoreState) (steps : List Step) (i next : ℕ) (core : CoreState) : Type 0 where
  pub base : core.base ≡ old.base ++ added (take i (lines_of steps))
  pub none : core.steps ≡ []
  pub top : next ≡ suc core.top
  pub few : core.top < 2 ^ 61
  pub ids : AllByRecursion (λ c. IsId c.id) core.base

pub laying-start : (old : CoreState) (steps : List Step) (next : ℕ) → old.steps ≡ [] → next ≡ suc old.top → old.top < 2 ^ 61 → All (λ c. IsId c.id) old.base → IsLaying old steps 0 next old
laying-start old steps next none top few ids = record {
  base = sym (append-nil old.base);
  none = none;
  top = top;
  few = few;
  ids = recursion_from_All (λ c. IsId c.id) old.base ids;
}

added-behind : (xs ys : List LratLine) → added (xs ++ ys) ≡ added xs ++ added ys
added-behind [] ys = refl
added-behind (Addition id lits hints ∷ xs) ys = ap (λ (cs : List Numbered). record { id = id; lits = lits } ∷ cs) (added-behind xs ys)
added-behind (Deletion id ids ∷ xs) ys = added-behind xs ys

pub laying-next : (old core new : CoreState) (steps : List Step) (i m next n : ℕ) (step : Step) → slice_get steps i ≡ Some step → m ≡ suc i → IsLaying old steps i next core → IsAddedTo core (line_of step) n new → IsLaying old steps m n new
laying-next old core new steps i m next n step at count h a =
    by-line (line_of step) (ap (λ k. take k (lines_of steps)) count ∙ take-one (lines_of steps) i (line_of step) (get-map line_of steps i step at)) a
  where
    by-line : (line : LratLine) → take m (lines_of steps) ≡ take i (lines_of steps) ++ line ∷ [] → IsAddedTo core line n new → IsLaying old steps m n new
    by-line (Addition id lits hints) taken b =
        let one : Numbered = record { id = id; lits = lits } in
        let front = take i (lines_of steps) in
        let base : new.base ≡ core.base ++ one ∷ [] = ap (λ (c : CoreState). c.base) b.0 in
        let low = b.3 in
        let number : new.top ≡ id = ap (λ (c : CoreState). c.top) b.0 in
        record {
          base =
              base ∙ ap (λ (xs : List Numbered). xs ++ one ∷ []) h.base ∙ append_assoc old.base (added front) (one ∷ [])
              ∙ ap (λ (xs : List Numbered). old.base ++ xs) (sym (added-behind front (Addition id lits hints ∷ [])) ∙ ap added (sym taken));
          none = ap (λ (c : CoreState). c.steps) b.0 ∙ h.none;
          top = b.1 ∙ ap suc (sym number);
          few = omega (arith, number, low);
          ids = subst (AllByRecursion (λ c. IsId c.id)) (sym base) (both (λ c. IsId c.id) core.base (one ∷ []) h.ids ((b.2, omega (arith, low)), tt));
        }
    by-line (Deletion id ids) taken b = absurd b

pub laying-all : (old core : CoreState) (steps : List Step) (i next : ℕ) → length steps ≤ i → IsLaying old steps i next core → IsFed core (old.base ++ added (lines_of steps))
laying-all old core steps i next end h =
    let count = length-map steps line_of in
    record {
      base_is = h.base ∙ ap (λ (ls : List LratLine). old.base ++ added ls) (take_all i (lines_of steps) (omega (arith, count, end)));
      steps = h.none;
      few = h.few;
      ids = All-from_recursion (λ c. IsId c.id) core.base h.ids;
    }

pub laid-with : (made core : CoreState) (base : List Numbered) (laid : List LratLine) → Adds (standing_at base) laid → IsFed made base → IsFed core (made.base ++ added laid) → All HasIds laid → IsLaid core base laid
laid-with made core base laid adds fed more ids = record {
  adds = adds;
  ids = ids;
  fed = subst (λ (b : List Numbered). IsFed core (b ++ added laid)) fed.base_is more;
}

pub laid-none : (core : CoreState) (base : List Numbered) (laid : List LratLine) → laid ≡ [] → IsFed core base → IsLaid core base laid
laid-none core base laid e fed =
    subst (IsLaid core base) (sym e) (record { adds = tt; ids = All-from_recursion HasIds [] tt; fed = subst (IsFed core) (sym (append-nil base)) fed })

-- ---- copies

pub copied-next : (old : List LratLine) (steps now new : List Step) (i m : ℕ) (step copy : Step) → slice_get steps i ≡ Some step → m ≡ suc i → new ≡ now ++ copy ∷ [] → line_of copy ≡ line_of step → lines_of now ≡ old ++ take i (lines_of steps) → lines_of new ≡ old ++ take m (lines_of steps)
copied-next old steps now new i m step copy at count is same h =
    ap lines_of is ∙ map-append line_of now (copy ∷ []) ∙ ap (λ (ls : List LratLine). ls ++ line_of copy ∷ []) h ∙ append_assoc old (take i (lines_of steps)) (line_of copy ∷ [])
    ∙ ap (λ (l : LratLine). old ++ (take i (lines_of steps) ++ l ∷ [])) same
    ∙ ap (λ (ls : List LratLine). old ++ ls) (sym (ap (λ k. take k (lines_of steps)) count ∙ take-one (lines_of steps) i (line_of step) (get-map line_of steps i step at)))
