-- Terms put in for the places of a block.
use Rattle.std.proofs.Common.{◌≡◌, ℕ, zero, suc, ◌+◌, ◌-◌, ◌<◌, ◌≤◌, Bool, true, false, cond, List, [], ◌∷◌, length, drop, Option, Some, None, inl, inr, refl, sym, ap, subst, ◌∙◌, arith}
use Rattle.std.specs.Prelude.{All, IfSome, IsSomeAnd, nat_lt, option_and_then, option_map}
use Rattle.std.specs.List.{AllByRecursion, AllZip, slice_get}
use Rattle.std.proofs.lemmas.Bool.{cases_lt, ltb-false, ltb-true}
use Rattle.std.proofs.lemmas.List.Elements.{All-from_recursion, recursion_from_All}
use Rattle.std.proofs.lemmas.Option.{slice_get-map}
use Rattle.qv_words.specs.declared.sort.Sort.{Sort}
use Rattle.qv_words.specs.declared.word.Word.{Word}
use Rattle.qv_words.specs.Word.{sorts_of, word_sort}
use Rattle.qv_words.specs.Tree.{Tree, IsQuantifierFree, tree_sort}
use Rattle.qv_words.specs.Sorted.{free_levels}
use Rattle.qv_words.specs.Replacement.{HasTheirSorts, replaced}
use Rattle.qv_words.specs.Values.{HasWords}
use Rattle.qv_words.specs.Skolem.{IsTermOf}
use Rattle.qv_words.specs.Linked.{terms_from, with_terms}
use Rattle.qv_words.proofs.Elements.{all-at, all-of, all-weaker, get-map, some-and, to-if_some, zip-at}
use Rattle.qv_words.proofs.Replaced.{IsPlainPut, stays-plain}
use Rattle.qv_store.specs.Nodes.{tree_at}
use Rattle.qv_store.specs.Stores.{Grows}
use Rattle.qv_store.specs.Walks.{named}
use Rattle.qv_store.proofs.Replacement.{grown-tree}
use Rattle.qv_store.specs.Replacing.{AreTermsOf, put_by_level, term_of_level}
use Rattle.qv_words.proofs.Replaced.{same-put}
use Rattle.qv_game_regions.specs.Slots.{slots_from}

held : (o : Option ℕ) → option_and_then (λ (h : Option ℕ). h) (option_map Some o) ≡ o
held None = refl
held (Some n) = refl

-- the slots, place by place
slot-before : (first : ℕ) (terms : List ℕ) (l : ℕ) → l < first → term_of_level (slots_from first terms) l ≡ None
slot-before zero terms l h = absurd (omega (arith, h))
slot-before (suc f) terms zero h = refl
slot-before (suc f) terms (suc l) h = slot-before f terms l (omega (arith, h))

slot-behind : (first : ℕ) (terms : List ℕ) (l : ℕ) → first ≤ l → term_of_level (slots_from first terms) l ≡ slice_get terms (l - first)
slot-behind zero terms l h =
    let same : l - 0 ≡ l = omega arith in
    ap (λ (o : Option (Option ℕ)). option_and_then (λ (x : Option ℕ). x) o) (slice_get-map Some terms l) ∙ held (slice_get terms l) ∙ ap (slice_get terms) (sym same)
slot-behind (suc f) terms zero h = absurd (omega (arith, h))
slot-behind (suc f) terms (suc l) h =
    let same : l - f ≡ suc l - suc f = omega arith in
    slot-behind f terms l (omega (arith, h)) ∙ ap (slice_get terms) same

-- they are the terms of the definition
pub slots-put : (trees : List Tree) (first : ℕ) (terms : List ℕ) (l : ℕ) → put_by_level trees (slots_from first terms) l ≡ terms_from first (named trees terms) l
slots-put trees first terms l = go (nat_lt l first) refl
  where
    go : (b : Bool) → nat_lt l first ≡ b → put_by_level trees (slots_from first terms) l ≡ cond b None (slice_get (named trees terms) (l - first))
    go true e = ap (option_map (tree_at trees)) (slot-before first terms l (ltb-true l first e))
    go false e = ap (option_map (tree_at trees)) (slot-behind first terms l (ltb-false l first e)) ∙ sym (slice_get-map (tree_at trees) terms (l - first))

pub slots-led : (trees : List Tree) (first : ℕ) (terms : List ℕ) (later : Tree) → replaced (put_by_level trees (slots_from first terms)) later ≡ with_terms first (named trees terms) later
slots-led trees first terms later = same-put (put_by_level trees (slots_from first terms)) (terms_from first (named trees terms)) (slots-put trees first terms) later

pub slots-there : (trees : List Tree) (first : ℕ) (terms : List ℕ) → All (λ n. n < length trees) terms → AreTermsOf trees (slots_from first terms)
slots-there trees first terms low l n at = elim (cases_lt l first) [
  | inl less ↦ let none = slot-before first terms l less in absurd (cc)
  | inr more ↦ all-at (λ k. k < length trees) terms (l - first) n (recursion_from_All (λ k. k < length trees) terms low) (sym (slot-behind first terms l more) ∙ at)
]

-- what the chosen terms are
abbrev pub IsChosenTerm : ℕ → Tree → Sort → Type 0
IsChosenTerm first t s = IsTermOf t s × All (λ leaf. leaf.0 < first) (free_levels t)

get-drop : {X : Type 0} (n : ℕ) (xs : List X) (k : ℕ) → slice_get (drop n xs) k ≡ slice_get xs (n + k)
get-drop zero xs k = let same : k ≡ 0 + k = omega arith in ap (slice_get xs) same
get-drop (suc n) [] k = refl
get-drop (suc n) (x ∷ xs) k = let same : suc (n + k) ≡ suc n + k = omega arith in get-drop n xs k ∙ ap (slice_get (x ∷ xs)) same

module _ (first : ℕ) (ts : List Tree) (point : List Word) (chosen : AllZip (IsChosenTerm first) ts (drop first (sorts_of point))) where
  leaf-sort : (l : ℕ) (s : Sort) → IsSomeAnd (slice_get point l) (λ w. word_sort w ≡ s) → IfSome (terms_from first ts l) (λ t. tree_sort t ≡ Some s)
  leaf-sort l s has = go (nat_lt l first) refl
    where
      at-term : first ≤ l → (t : Tree) → slice_get ts (l - first) ≡ Some t → tree_sort t ≡ Some s
      at-term behind t at =
          let w = some-and (slice_get point l) (λ x. word_sort x ≡ s) has in
          let whole : first + (l - first) ≡ l = omega (arith, behind) in
          let sort : slice_get (drop first (sorts_of point)) (l - first) ≡ Some (word_sort w.0) =
          get-drop first (sorts_of point) (l - first) ∙ ap (slice_get (sorts_of point)) whole ∙ get-map word_sort point l w.0 w.1 in
          let there = zip-at (IsChosenTerm first) ts (drop first (sorts_of point)) (l - first) (word_sort w.0) chosen sort in
          let same : there.0 ≡ t = let both : Some there.0 ≡ Some t = sym there.1 ∙ at in cc in
          subst (λ (u : Tree). tree_sort u ≡ Some s) same (there.2.0.sort ∙ ap Some w.2)

      go : (b : Bool) → nat_lt l first ≡ b → IfSome (cond b None (slice_get ts (l - first))) (λ t. tree_sort t ≡ Some s)
      go true e = tt
      go false e = to-if_some (slice_get ts (l - first)) (λ t. tree_sort t ≡ Some s) (at-term (ltb-false l first e))

  pub chosen-sorts : (later : Tree) → HasWords [] point later → HasTheirSorts (terms_from first ts) later
  chosen-sorts later words =
      All-from_recursion (λ leaf. IfSome (terms_from first ts leaf.0) (λ t. tree_sort t ≡ Some leaf.1)) (free_levels later)
      (all-weaker (λ leaf. IsSomeAnd (slice_get point leaf.0) (λ w. word_sort w ≡ leaf.1)) (λ leaf. IfSome (terms_from first ts leaf.0) (λ t. tree_sort t ≡ Some leaf.1)) (free_levels later)
      (λ leaf has. leaf-sort leaf.0 leaf.1 has) (recursion_from_All (λ leaf. IsSomeAnd (slice_get point leaf.0) (λ w. word_sort w ≡ leaf.1)) (free_levels later) words.levels))

each-plain : (first : ℕ) (ts : List Tree) (sorts : List Sort) → AllZip (IsChosenTerm first) ts sorts → AllByRecursion IsQuantifierFree ts
each-plain first [] sorts h = tt
each-plain first (t ∷ ts) [] h = absurd h
each-plain first (t ∷ ts) (s ∷ sorts) h = (h.0.0.quantifier_free, each-plain first ts sorts h.1)

pub led-plain : (first : ℕ) (ts : List Tree) (sorts : List Sort) (later : Tree) → AllZip (IsChosenTerm first) ts sorts → IsQuantifierFree later → IsQuantifierFree (with_terms first ts later)
led-plain first ts sorts later chosen plain =
    stays-plain later (terms_from first ts) plain (all-of (IsPlainPut (terms_from first ts)) (free_levels later) (λ leaf. plain-at leaf.0))
  where
    plain-at : (l : ℕ) → IfSome (terms_from first ts l) IsQuantifierFree
    plain-at l = go (nat_lt l first)
      where
        go : (b : Bool) → IfSome (cond b None (slice_get ts (l - first))) IsQuantifierFree
        go true = tt
        go false = to-if_some (slice_get ts (l - first)) IsQuantifierFree (λ t at. all-at IsQuantifierFree ts (l - first) t (each-plain first ts sorts chosen) at)

pub slots-are : (trees : List Tree) (first : ℕ) (terms : List ℕ) → put_by_level trees (slots_from first terms) ≡ terms_from first (named trees terms)
slots-are trees first terms = λ i l. slots-put trees first terms l i

-- terms of a store in a greater one
named-each : (old new : List Tree) → Grows old new → (ids : List ℕ) → AllByRecursion (λ n. n < length old) ids → named new ids ≡ named old ids
named-each old new grows [] h = refl
named-each old new grows (n ∷ ns) h =
    let first : tree_at new n ≡ tree_at old n = grown-tree old new grows n h.0 in
    let rest : named new ns ≡ named old ns = named-each old new grows ns h.1 in
    cc

pub named-grows : (old new : List Tree) → Grows old new → (ids : List ℕ) → All (λ n. n < length old) ids → named new ids ≡ named old ids
named-grows old new grows ids low = named-each old new grows ids (recursion_from_All (λ n. n < length old) ids low)
