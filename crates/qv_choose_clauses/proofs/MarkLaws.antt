-- The marks of a region's conjuncts.
use Rattle.std.proofs.Common.{◌≡◌, ℕ, zero, suc, ◌+◌, ◌<◌, ◌≤◌, ◌==◌, ◌||◌, ◌⊎◌, arith, inl, inr, Bool, true, false, Some, None, List, [], ◌∷◌, ◌++◌, length, set, replicate, refl, sym, ap, ◌∙◌, subst, slice_get, get_or}
use Rattle.std.specs.List.{list_any}
use Rattle.std.proofs.lemmas.Bool.{eqb-true, eqb-false}
use Rattle.std.proofs.lemmas.Option.{slice_get_within, slice_get-get_or}
use Rattle.std.proofs.lemmas.List.Folds.{list_any-append}
use Rattle.qv_words.specs.Tree.{Tree}
use Rattle.qv_words.specs.Equality.{tree_eq}
use Rattle.qv_words.specs.Clauses.{is_among}
use Rattle.qv_words.specs.Choice.{is_and, joined}
use Rattle.qv_words.proofs.Equals.{tree_eq-refl}
use Rattle.qv_game_laws.proofs.Definitions.{either-one, alone-in}
use Rattle.qv_words.proofs.Elements.{get-map}
use Rattle.qv_store.specs.Nodes.{tree_at}
use Rattle.qv_store.specs.Stores.{AreShared}
use Rattle.qv_store.specs.Walks.{named, IsWalk, IsEarlier}
use Rattle.qv_store.proofs.Passes.{named-at}
use Rattle.qv_choose_paths.proofs.SceneLaws.{walk-below}
use Rattle.qv_choose_clauses.specs.Sides.{AreJoined}
use Rattle.qv_choose_clauses.specs.Conjuncts.{IsConjunct, JoinsNone, IsLeft, AreMarks, AreMarked, MarksSides, AreConjuncts}
use Rattle.qv_choose_clauses.proofs.SideLaws.{sides-earlier}

-- a list with one member set
pub set-there : {A : Type 0} (xs : List A) (i : ℕ) (v : A) → i < length xs → slice_get (set xs i v) i ≡ Some v
set-there [] i v h = absurd (omega (arith, h))
set-there (x ∷ xs) zero v h = refl
set-there (x ∷ xs) (suc i) v h = set-there xs i v (omega (arith, h))

pub set-others : {A : Type 0} (xs : List A) (i k : ℕ) (v : A) → (k ≡ i → ⊥) → slice_get (set xs i v) k ≡ slice_get xs k
set-others [] i k v h = refl
set-others (x ∷ xs) zero zero v h = absurd (h refl)
set-others (x ∷ xs) zero (suc k) v h = refl
set-others (x ∷ xs) (suc i) zero v h = refl
set-others (x ∷ xs) (suc i) (suc k) v h = set-others xs i k v (λ e. h (ap suc e))

pub get-known : (marks : List Bool) (i : ℕ) (d b : Bool) → i < length marks → get_or marks i d ≡ b → slice_get marks i ≡ Some b
get-known marks i d b low is = slice_get-get_or marks i d low ∙ ap (λ k. Some k) is

-- what is marked with one more mark
pub marked-more : (marks : List Bool) (i k : ℕ) → slice_get (set marks i true) k ≡ Some true → (k ≡ i) ⊎ (slice_get marks k ≡ Some true)
marked-more marks i k h = go (k == i) refl
  where
    go : (b : Bool) → (k == i) ≡ b → (k ≡ i) ⊎ (slice_get marks k ≡ Some true)
    go true is = inl (eqb-true k i is)
    go false is = inr (sym (set-others marks i k true (eqb-false k i is)) ∙ h)

pub stays-marked : (marks : List Bool) (i k : ℕ) → slice_get marks k ≡ Some true → slice_get (set marks i true) k ≡ Some true
stays-marked marks i k h = go (k == i) refl
  where
    go : (b : Bool) → (k == i) ≡ b → slice_get (set marks i true) k ≡ Some true
    go true is =
        let same = eqb-true k i is in
        ap (slice_get (set marks i true)) same ∙ set-there marks i true (omega (arith, slice_get_within marks k true h, same))
    go false is = set-others marks i k true (eqb-false k i is) ∙ h

none-marked : (n k : ℕ) → slice_get (replicate n false) k ≡ Some true → ⊥
none-marked zero k h = absurd (cc)
none-marked (suc n) zero h = absurd (cc)
none-marked (suc n) (suc k) h = none-marked n k h

-- the region is marked alone
pub marks-start : (trees : List Tree) (ids : List ℕ) (region place number : ℕ) (marks : List Bool) → slice_get ids place ≡ Some region → place < number → place < length marks → ((k : ℕ) → slice_get marks k ≡ Some true → ⊥) → AreMarks trees (tree_at trees region) ids (set marks place true) number
marks-start trees ids region place number marks at low within none = record {
  right = λ k n c here marked has. elim (marked-more marks place k marked) [
    | inl e ↦
        let same : Some n ≡ Some region = sym here ∙ ap (slice_get ids) e ∙ at in
        let one : n ≡ region = cc in
        subst (λ (m : ℕ). IsConjunct (tree_at trees m) c) one has
    | inr e ↦ absurd (none k e)
  ];
  all = λ c has. record { place = place; id = region; at = at; marked = set-there marks place true within; has = has; waits = inl low };
}

pub unmarked : (n : ℕ) (marks : List Bool) → marks ≡ replicate n false → (k : ℕ) → slice_get marks k ≡ Some true → ⊥
unmarked n marks is k h = none-marked n k (ap (λ ms. slice_get ms k) (sym is) ∙ h)

-- a term that isn't marked makes no way
pub not-marked : (trees : List Tree) (ids : List ℕ) (number : ℕ) (marks : List Bool) → slice_get marks number ≡ Some false → MarksSides trees ids number marks marks
not-marked trees ids number marks off region h = record {
  right = h.right;
  all = λ c has. next (h.all c has);
}
  where
    next : {c : Tree} → IsLeft trees ids marks (suc number) c → IsLeft trees ids marks number c
    next l = record { place = l.place; id = l.id; at = l.at; marked = l.marked; has = l.has; waits = elim l.waits [ inl low ↦ inl (below low) | inr none ↦ inr none ] }
      where
        other : l.place ≡ number → ⊥
        other e = let gone : Some true ≡ Some false = sym l.marked ∙ ap (slice_get marks) e ∙ off in absurd (cc)

        below : l.place < suc number → l.place < number
        below low = omega (arith, low, other)

-- nor one that joins none
pub joins-none : (trees : List Tree) (ids : List ℕ) (number id : ℕ) (marks : List Bool) → slice_get ids number ≡ Some id → JoinsNone (tree_at trees id) → MarksSides trees ids number marks marks
joins-none trees ids number id marks at alone region h = record {
  right = h.right;
  all = λ c has. next (h.all c has);
}
  where
    next : {c : Tree} → IsLeft trees ids marks (suc number) c → IsLeft trees ids marks number c
    next l = record { place = l.place; id = l.id; at = l.at; marked = l.marked; has = l.has; waits = elim l.waits [ inl low ↦ here (l.place == number) refl low | inr none ↦ inr none ] }
      where
        here : (b : Bool) → (l.place == number) ≡ b → l.place < suc number → (l.place < number) ⊎ JoinsNone (tree_at trees l.id)
        here true is low =
            let same : Some l.id ≡ Some id = sym l.at ∙ ap (slice_get ids) (eqb-true l.place number is) ∙ at in
            let one : l.id ≡ id = cc in
            inr (subst (λ (m : ℕ). JoinsNone (tree_at trees m)) (sym one) alone)
        here false is low = inl (omega (arith, low, eqb-false l.place number is))

-- the sides of one that joins two are marked
module _ (trees : List Tree) (ids : List ℕ) (number id a b first second : ℕ) (marks : List Bool) (at : slice_get ids number ≡ Some id) (marked : slice_get marks number ≡ Some true) (joins : AreJoined true trees id a b)
    (at_first : slice_get ids first ≡ Some a) (at_second : slice_get ids second ≡ Some b) (first_low : first < number) (second_low : second < number) (many : length marks ≡ length ids) (longer : length (set marks first true) ≡ length marks) where
  abbrev next-marks : List Bool
  next-marks = set (set marks first true) second true

  in-front : (c : Tree) → IsConjunct (tree_at trees a) c → IsConjunct (tree_at trees id) c
  in-front c h = ap (λ cs. is_among cs c) joins.parts ∙ list_any-append (tree_eq c) (joined is_and (tree_at trees a)) (joined is_and (tree_at trees b)) ∙ ap (λ k. k || is_among (joined is_and (tree_at trees b)) c) h

  behind : (c : Tree) → IsConjunct (tree_at trees b) c → IsConjunct (tree_at trees id) c
  behind c h = ap (λ cs. is_among cs c) joins.parts ∙ list_any-append (tree_eq c) (joined is_and (tree_at trees a)) (joined is_and (tree_at trees b)) ∙ ap (λ k. is_among (joined is_and (tree_at trees a)) c || k) h ∙ or-true (is_among (joined is_and (tree_at trees a)) c)
    where
      or-true : (k : Bool) → (k || true) ≡ true
      or-true true = refl
      or-true false = refl

  one-side : (c : Tree) → IsConjunct (tree_at trees id) c → IsConjunct (tree_at trees a) c ⊎ IsConjunct (tree_at trees b) c
  one-side c h = either-one (is_among (joined is_and (tree_at trees a)) c) (is_among (joined is_and (tree_at trees b)) c)
      (sym (list_any-append (tree_eq c) (joined is_and (tree_at trees a)) (joined is_and (tree_at trees b))) ∙ sym (ap (λ cs. is_among cs c) joins.parts) ∙ h)

  same-id : (k n m : ℕ) → slice_get ids k ≡ Some n → slice_get ids k ≡ Some m → n ≡ m
  same-id k n m h g = let both : Some n ≡ Some m = sym h ∙ g in cc

  pub sides-marked : MarksSides trees ids number marks next-marks
  sides-marked region h = record {
    right = λ k n c here on has. elim (marked-more (set marks first true) second k on) [
      | inl e ↦ h.right number id c at marked (behind c (subst (λ (m : ℕ). IsConjunct (tree_at trees m) c) (same-id k n b here (ap (slice_get ids) e ∙ at_second)) has))
      | inr was ↦ elim (marked-more marks first k was) [
        | inl e ↦ h.right number id c at marked (in-front c (subst (λ (m : ℕ). IsConjunct (tree_at trees m) c) (same-id k n a here (ap (slice_get ids) e ∙ at_first)) has))
        | inr old ↦ h.right k n c here old has
      ]
    ];
    all = λ c has. next c (h.all c has);
  }
    where
      first-on : slice_get next-marks first ≡ Some true
      first-on = stays-marked (set marks first true) second first (set-there marks first true (omega (arith, first_low, many, slice_get_within ids number id at)))

      second-on : slice_get next-marks second ≡ Some true
      second-on = set-there (set marks first true) second true (omega (arith, second_low, many, longer, slice_get_within ids number id at))

      of-side : (c : Tree) → IsConjunct (tree_at trees id) c → IsLeft trees ids next-marks number c
      of-side c h = elim (one-side c h) [
        | inl k ↦ record { place = first; id = a; at = at_first; marked = first-on; has = k; waits = inl first_low }
        | inr k ↦ record { place = second; id = b; at = at_second; marked = second-on; has = k; waits = inl second_low }
      ]

      kept : (c : Tree) (l : IsLeft trees ids marks (suc number) c) → (l.place < number) ⊎ JoinsNone (tree_at trees l.id) → IsLeft trees ids next-marks number c
      kept c l waits = record { place = l.place; id = l.id; at = l.at; marked = stays-marked (set marks first true) second l.place (stays-marked marks first l.place l.marked); has = l.has; waits = waits }

      next : (c : Tree) → IsLeft trees ids marks (suc number) c → IsLeft trees ids next-marks number c
      next c l = elim l.waits [ inl low ↦ here (l.place == number) refl low | inr none ↦ kept c l (inr none) ]
        where
          here : (k : Bool) → (l.place == number) ≡ k → l.place < suc number → IsLeft trees ids next-marks number c
          here true is low = of-side c (subst (λ (m : ℕ). IsConjunct (tree_at trees m) c) (same-id number l.id id (ap (slice_get ids) (sym (eqb-true l.place number is)) ∙ l.at) at) l.has)
          here false is low = kept c l (inl (omega (arith, low, eqb-false l.place number is)))

length-set : {A : Type 0} (xs : List A) (i : ℕ) (v : A) → length (set xs i v) ≡ length xs
length-set [] i v = refl
length-set (x ∷ xs) zero v = refl
length-set (x ∷ xs) (suc i) v = ap suc (length-set xs i v)

pub both-marked : (trees : List Tree) (ids : List ℕ) (number id a b : ℕ) (old new : List Bool) → AreShared trees → IsWalk trees ids → slice_get ids number ≡ Some id → slice_get old number ≡ Some true → AreJoined true trees id a b → length old ≡ length ids → AreMarked ids a b old new → MarksSides trees ids number old new
both-marked trees ids number id a b old new shared walk at marked joins many h =
    let sides = sides-earlier true trees ids number id a b shared walk at joins in
    let first_low : h.first < number = omega (arith, h.first_lowest sides.0.place sides.0.at, sides.0.before) in
    let second_low : h.second < number = omega (arith, h.second_lowest sides.1.place sides.1.at, sides.1.before) in
    subst (MarksSides trees ids number old) (sym h.is)
    (sides-marked trees ids number id a b h.first h.second old at marked joins h.at_first h.at_second first_low second_low many (length-set old h.first true))

-- at the end the conjuncts are marked
among-itself : (t : Tree) → JoinsNone t → IsConjunct t t
among-itself t alone = ap (λ cs. is_among cs t) alone ∙ ap (λ k. k || false) (tree_eq-refl t)

pub marks-end : (trees : List Tree) (region : Tree) (ids : List ℕ) (marks : List Bool) → AreShared trees → IsWalk trees ids → AreMarks trees region ids marks 0 → AreConjuncts trees region ids marks
marks-end trees region ids marks shared walk h k n true at on alone = sym (h.right k n (tree_at trees n) at on (among-itself (tree_at trees n) alone))
marks-end trees region ids marks shared walk h k n false at off alone = go (is_among (joined is_and region) (tree_at trees n)) refl
  where
    left : IsLeft trees ids marks 0 (tree_at trees n) → ⊥
    left l = elim l.waits [
      | inl low ↦ absurd (omega (arith, low))
      | inr none ↦
          let tree : tree_at trees n ≡ tree_at trees l.id = alone-in (tree_at trees l.id) (tree_at trees n) (sym (ap (λ cs. is_among cs (tree_at trees n)) none) ∙ l.has) in
          let here : tree_at (named trees ids) k ≡ tree_at (named trees ids) l.place = named-at trees ids k n at ∙ tree ∙ sym (named-at trees ids l.place l.id l.at) in
          let same : k ≡ l.place = walk.shared.once k l.place (slice_get_within (named trees ids) k (tree_at trees n) (get-map (tree_at trees) ids k n at)) (slice_get_within (named trees ids) l.place (tree_at trees l.id) (get-map (tree_at trees) ids l.place l.id l.at)) here in
          let gone : Some false ≡ Some true = sym off ∙ ap (slice_get marks) same ∙ l.marked in
          absurd (cc)
    ]

    go : (b : Bool) → is_among (joined is_and region) (tree_at trees n) ≡ b → false ≡ b
    go false is = refl
    go true is = absurd (left (h.all (tree_at trees n) is))
