-- What terms are as clauses.
use Rattle.std.proofs.Common.{◌≡◌, ℕ, zero, suc, ◌<◌, ◌==◌, arith, ◌&&◌, ◌||◌, inl, inr, Bool, true, false, not, Some, None, List, [], ◌∷◌, ◌++◌, length, refl, sym, ap, ◌∙◌, subst, slice_get}
use Rattle.std.specs.List.{list_any, list_all}
use Rattle.std.proofs.lemmas.Bool.{eqb-true}
use Rattle.std.proofs.lemmas.List.Folds.{list_any-append, list_all-append}
use Rattle.qv_words.specs.declared.sort.Sort.TheVariants.{Bool as BoolSort}
use Rattle.qv_words.specs.declared.op.Op.{Op}
use Rattle.qv_words.specs.declared.op.Op.TheVariants.{Not}
use Rattle.qv_words.specs.Tree.{Tree, Variable, Apply, IsQuantifierFree}
use Rattle.qv_words.specs.Sorted.{IsSorted}
use Rattle.qv_words.specs.Equality.{op_eq, tree_eq}
use Rattle.qv_words.specs.Clauses.{is_among}
use Rattle.qv_words.specs.Choice.{occurrences, is_in, is_or, joined, opposite, is_outside, is_apart}
use Rattle.qv_words.proofs.Equals.{tree_eq-is, tree_eq-refl}
use Rattle.qv_words.proofs.Elements.{pushed-cases}
use Rattle.qv_store.specs.Nodes.{tree_at, trees_at}
use Rattle.qv_store.specs.Stores.{AreShared}
use Rattle.qv_store.specs.Walks.{IsWalk, IsEarlier, IsFound}
use Rattle.qv_choose_paths.specs.declared.ways.Place.{Place}
use Rattle.qv_choose_paths.specs.declared.ways.Way.{Way}
use Rattle.qv_choose_paths.specs.declared.ways.Way.TheVariants.{Absent, Hidden, Open}
use Rattle.qv_choose_paths.specs.declared.seeing.Sight.{Sight}
use Rattle.qv_choose_paths.specs.Looks.{has_inside, way_of, look_of}
use Rattle.qv_choose_paths.specs.Sights.{IsScene}
use Rattle.qv_choose_paths.proofs.Insides.{outside-is}
use Rattle.qv_choose_paths.proofs.SceneLaws.{earlier-below}
use Rattle.qv_choose_paths.proofs.WayLaws.{Stands, ways-stand}
use Rattle.qv_choose_clauses.specs.declared.clauses.Clause.{Clause}
use Rattle.qv_choose_clauses.specs.Clauses.{is_disjunct, clause_with, clause_of, both_of, alone_of, is_absent, looks_apart, AreClauses}

-- of a disjunction, and of a term that is none
pub both-clause : (p : Place) (t a b : Tree) → joined is_or t ≡ joined is_or a ++ joined is_or b → both_of (clause_of p a) (clause_of p b) ≡ clause_of p t
both-clause p t a b e =
    ap (λ o. clause_with o ((clause_of p a).apart && (clause_of p b).apart)) (sym (ap (list_any (tree_eq (opposite p.level))) e ∙ list_any-append (tree_eq (opposite p.level)) (joined is_or a) (joined is_or b)))
    ∙ ap (clause_with (is_among (joined is_or t) (opposite p.level))) (sym (ap (list_all (is_disjunct p)) e ∙ list_all-append (is_disjunct p) (joined is_or a) (joined is_or b)))

or-false : (b : Bool) → b ≡ (b || false)
or-false true = refl
or-false false = refl

and-true : (b : Bool) → b ≡ (b && true)
and-true true = refl
and-true false = refl

turned : (t u : Tree) → tree_eq t u ≡ tree_eq u t
turned t u = go (tree_eq t u) refl (tree_eq u t) refl
  where
    go : (b : Bool) → tree_eq t u ≡ b → (c : Bool) → tree_eq u t ≡ c → b ≡ c
    go true is true at = refl
    go false is false at = refl
    go true is false at = let gone : true ≡ false = sym (tree_eq-refl u) ∙ ap (λ k. tree_eq u k) (sym (tree_eq-is t u is)) ∙ at in absurd (cc)
    go false is true at = let gone : true ≡ false = sym (tree_eq-refl t) ∙ ap (λ k. tree_eq t k) (sym (tree_eq-is u t at)) ∙ is in absurd (cc)

pub alone-clause : (p : Place) (t : Tree) → joined is_or t ≡ t ∷ [] → alone_of p t ≡ clause_of p t
alone-clause p t e =
    ap (λ o. clause_with o (is_disjunct p t)) (turned t (opposite p.level) ∙ or-false (tree_eq (opposite p.level) t) ∙ sym (ap (list_any (tree_eq (opposite p.level))) e))
    ∙ ap (clause_with (is_among (joined is_or t) (opposite p.level))) (and-true (is_disjunct p t) ∙ sym (ap (list_all (is_disjunct p)) e))

not-none : (n : ℕ) → (n ≡ 0 → ⊥) → false ≡ not (not (n == 0))
not-none n h = go (n == 0) refl
  where
    go : (b : Bool) → (n == 0) ≡ b → false ≡ not (not b)
    go true is = absurd (h (eqb-true n 0 is))
    go false is = refl

-- what shows that a term is apart
pub way-there : (p : Place) (t : Tree) → IsSorted t → IsQuantifierFree t → is_absent (way_of p t) ≡ not (is_in p.level t)
way-there p t sorted free = go (way_of p t) (ways-stand p t sorted free)
  where
    go : (w : Way) → Stands p t w → is_absent w ≡ not (is_in p.level t)
    go Absent h = sym (ap (λ n. not (not (n == 0))) h)
    go Hidden h = not-none (occurrences p.level t) h.there
    go Open h = not-none (occurrences p.level t) (λ none. let one : 0 ≡ 1 = sym none ∙ h.once in absurd (cc))

pub apart-shown : (trees : List Tree) (s : Sight) (id : ℕ) → IsScene trees s → IsEarlier s.walk (length s.walk) id → looks_apart (look_of s.place (tree_at trees id)) ≡ is_apart s.place.first s.place.end s.place.level (tree_at trees id)
apart-shown trees s id scene e =
    let t = tree_at trees id in
    let free = scene.free e.place id e.at in
    let sorted = scene.shared.sorted id (earlier-below trees s.walk id scene.walk e) in
    ap (λ b. b && not (has_inside s.place t)) (way-there s.place t sorted free)
    ∙ turn (not (is_in s.place.level t)) (not (has_inside s.place t))
    ∙ ap (λ b. b && not (is_in s.place.level t)) (sym (outside-is s.place t free))
  where
    turn : (a b : Bool) → (a && b) ≡ (b && a)
    turn true true = refl
    turn true false = refl
    turn false true = refl
    turn false false = refl

-- one more of a walk
pub clauses-push : (p : Place) (trees : List Tree) (ids : List ℕ) (clauses : List Clause) (n : ℕ) (clause : Clause) → AreClauses p trees ids clauses
    → slice_get ids (length clauses) ≡ Some n → clause ≡ clause_of p (tree_at trees n) → AreClauses p trees ids (clauses ++ clause ∷ [])
clauses-push p trees ids clauses n clause right at own k m v here there = elim (pushed-cases clauses clause k v there) [
  | inl e ↦ right k m v here e
  | inr e ↦
      let same : Some n ≡ Some m = sym at ∙ sym (ap (slice_get ids) e.0) ∙ here in
      let one : n ≡ m = cc in
      sym e.1 ∙ own ∙ ap (λ j. clause_of p (tree_at trees j)) one
]

pub clauses-none : (p : Place) (trees : List Tree) (ids : List ℕ) (clauses : List Clause) → clauses ≡ [] → AreClauses p trees ids clauses
clauses-none p trees ids clauses none k n l at here = let gone : slice_get [] k ≡ Some l = sym (ap (λ xs. slice_get xs k) none) ∙ here in absurd (cc)

pub found-clause : (p : Place) (trees : List Tree) (ids : List ℕ) (clauses : List Clause) (id : ℕ) (clause : Clause) → AreClauses p trees ids clauses → IsFound ids clauses id clause → clause ≡ clause_of p (tree_at trees id)
found-clause p trees ids clauses id clause right h = right h.place id clause h.at h.found

-- a negation has one argument
pub no-negation : (trees : List Tree) (op : Op) (kids : List ℕ) (x : ℕ) → 1 < length kids → false ≡ tree_eq (Apply op (trees_at trees kids)) (opposite x)
no-negation trees op [] x h = absurd (omega (arith, h))
no-negation trees op (a ∷ []) x h = absurd (omega (arith, h))
no-negation trees op (a ∷ b ∷ rest) x h = sym (ap (λ k. op_eq op Not && k) (and-false (tree_eq (tree_at trees a) (Variable x BoolSort))) ∙ and-false (op_eq op Not))
  where
    and-false : (k : Bool) → (k && false) ≡ false
    and-false true = refl
    and-false false = refl
