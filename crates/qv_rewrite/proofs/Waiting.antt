-- The way down to the term at hand, and what grows meanwhile.
use Rattle.std.proofs.Common.{◌≡◌, ◌≢◌, ℕ, zero, suc, ◌+◌, ◌*◌, ◌<◌, ◌≤◌, ◌⊎◌, inl, inr, false, Option, Some, None, List, [], ◌∷◌, ◌++◌, length, get_or, take, nat_eq, cond, refl, sym, ap, ◌∙◌, subst, arith, append-nil, length-append}
use Rattle.std.specs.Prelude.{is_some, map}
use Rattle.std.specs.List.{AllByRecursion}
use Rattle.std.specs.HashMap.{get}
use Rattle.std.proofs.lemmas.Bool.{cases_lt, ne_eqb}
use Rattle.std.proofs.lemmas.List.{take_more, take_all}
use Rattle.qv_words.specs.declared.rule.Rule.{Rule}
use Rattle.qv_words.specs.Tree.{Tree, IsQuantifierFree}
use Rattle.qv_store.specs.Nodes.{tree_at}
use Rattle.qv_store.specs.Stores.{StandsAt, Grows}
use Rattle.qv_store.proofs.Standing.{tree_at-before}
use Rattle.qv_store.proofs.Sharing.{stands-before}
use Rattle.qv_words.specs.Passes.{passed}
use Rattle.qv_rewrite.specs.declared.rewriting.Rewriting.{Rewriting}
use Rattle.qv_rewrite.specs.declared.rewriting.Rewriting.TheVariants.{Pass}
use Rattle.qv_rewrite.specs.Sweep.{swept}
use Rattle.qv_rewrite.proofs.Swept.{swept-one}
use Rattle.qv_rewrite.specs.Steps.{MadeMap, AreSwept, IsMissing}

-- growing
pub grows-itself : (trees : List Tree) → Grows trees trees
grows-itself trees = record { more = []; behind = sym (append-nil trees) }

pub tree-grows : (old new : List Tree) (n : ℕ) → Grows old new → n < length old → tree_at new n ≡ tree_at old n
tree-grows old new n g h = ap (λ xs. tree_at xs n) g.behind ∙ tree_at-before old g.more n h

pub length-grows : (old new : List Tree) → Grows old new → length old ≤ length new
length-grows old new g = omega (arith, ap length g.behind, length-append old g.more)

pub stands-grows : (old new : List Tree) (n : ℕ) (t : Tree) → Grows old new → StandsAt old n t → StandsAt new n t
stands-grows old new n t g at = subst (λ xs. StandsAt xs n t) (sym g.behind) (stands-before old g.more n t at)

pub swept-grows : (rules : Rewriting) (old new : List Tree) (made : MadeMap) → Grows old new → AreSwept rules old made → AreSwept rules new made
swept-grows rules old new made g h = record {
  below = λ k m e. omega (arith, h.below k m e, length-grows old new g);
  stands = λ k m e. subst (λ t. StandsAt new m (swept rules t)) (sym (tree-grows old new k g (h.below k m e))) (stands-grows old new m (swept rules (tree_at old k)) g (h.stands k m e));
}

-- one more term is made
pub record IsUpdated (made next : MadeMap) (id m : ℕ) : Type 0 where
  pub here : get nat_eq next id ≡ Some m
  pub others : (q : ℕ) → nat_eq id q ≡ false → get nat_eq next q ≡ get nat_eq made q

elsewhere : (made next : MadeMap) (id m q : ℕ) → IsUpdated made next id m → q ≢ id → get nat_eq next q ≡ get nat_eq made q
elsewhere made next id m q u h = u.others q (ne_eqb id q (λ e. h (sym e)))

some-alike : (a b : ℕ) → Some a ≡ Some b → a ≡ b
some-alike a b e = cc

pub swept-insert : (rules : Rewriting) (trees : List Tree) (made next : MadeMap) (id m : ℕ) → IsUpdated made next id m → id < length trees → StandsAt trees m (swept rules (tree_at trees id)) → AreSwept rules trees made → AreSwept rules trees next
swept-insert rules trees made next id m u inside at h = record {
  below = λ k n e. elim (same_or_not k) [ inl is ↦ subst (λ (x : ℕ). x < length trees) (sym is) inside | inr other ↦ h.below k n (sym (elsewhere made next id m k u other) ∙ e) ];
  stands = λ k n e. elim (same_or_not k) [ inl is ↦ here k n is e | inr other ↦ h.stands k n (sym (elsewhere made next id m k u other) ∙ e) ];
}
  where
    same_or_not : (k : ℕ) → (k ≡ id) ⊎ (k ≢ id)
    same_or_not k = elim (cases_lt k id) [
      | inl less ↦ inr (λ e. omega (arith, less, e))
      | inr more ↦ elim (cases_lt id k) [ inl above ↦ inr (λ e. omega (arith, above, e)) | inr most ↦ inl (omega (arith, more, most)) ]
    ]

    here : (k n : ℕ) → k ≡ id → get nat_eq next k ≡ Some n → StandsAt trees n (swept rules (tree_at trees k))
    here k n is e =
        let number : m ≡ n = some-alike m n (sym u.here ∙ ap (get nat_eq next) (sym is) ∙ e) in
        subst (λ (x : ℕ). StandsAt trees n (swept rules (tree_at trees x))) (sym is) (subst (λ (x : ℕ). StandsAt trees x (swept rules (tree_at trees id))) number at)

-- the way down: each term waits for a smaller one, and nothing was made of any
pub record IsOpen (first : List Tree) (made : MadeMap) (id : ℕ) : Type 0 where
  pub below : id < length first
  pub free : IsQuantifierFree (tree_at first id)
  pub missing : get nat_eq made id ≡ None

abbrev pub AreOpen : List Tree → MadeMap → List ℕ → Type 0
AreOpen first made [] = Unit {0}
AreOpen first made (x ∷ xs) = IsOpen first made x × AllByRecursion (λ y. y < x) xs × AreOpen first made xs

abbrev pub first_of : List ℕ → ℕ → ℕ
first_of [] id = id
first_of (x ∷ xs) id = x

pub record IsDown (first : List Tree) (made : MadeMap) (waiting : List ℕ) (id root : ℕ) : Type 0 where
  pub from_root : first_of waiting id ≡ root
  pub open_ones : AreOpen first made (waiting ++ id ∷ [])

first-push : (xs : List ℕ) (id kid : ℕ) → first_of (xs ++ id ∷ []) kid ≡ first_of xs id
first-push [] id kid = refl
first-push (x ∷ xs) id kid = refl

last-below : (x : ℕ) (xs : List ℕ) (id : ℕ) → AllByRecursion (λ y. y < x) (xs ++ id ∷ []) → id < x
last-below x [] id h = h.0
last-below x (y ∷ xs) id h = last-below x xs id h.1

all-push : (x : ℕ) (xs : List ℕ) (kid : ℕ) → AllByRecursion (λ y. y < x) xs → kid < x → AllByRecursion (λ y. y < x) (xs ++ kid ∷ [])
all-push x [] kid h k = (k, tt)
all-push x (y ∷ xs) kid h k = (h.0, all-push x xs kid h.1 k)

all-pop : (x : ℕ) (xs : List ℕ) (id : ℕ) → AllByRecursion (λ y. y < x) (xs ++ id ∷ []) → AllByRecursion (λ y. y < x) xs
all-pop x [] id h = tt
all-pop x (y ∷ xs) id h = (h.0, all-pop x xs id h.1)

below-each : (x y kid : ℕ) → kid < y → y < x → kid < x
below-each x y kid h k = omega (arith, h, k)

way-push : (first : List Tree) (made : MadeMap) (xs : List ℕ) (id kid : ℕ) → AreOpen first made (xs ++ id ∷ []) → kid < id → IsOpen first made kid → AreOpen first made ((xs ++ id ∷ []) ++ kid ∷ [])
way-push first made [] id kid h less new = (h.0, (less, tt), (new, tt, tt))
way-push first made (x ∷ xs) id kid h less new =
    (h.0, all-push x (xs ++ id ∷ []) kid h.1 (below-each x id kid less (last-below x xs id h.1)), way-push first made xs id kid h.2 less new)

way-last : (first : List Tree) (made : MadeMap) (xs : List ℕ) (id : ℕ) → AreOpen first made (xs ++ id ∷ []) → IsOpen first made id
way-last first made [] id h = h.0
way-last first made (x ∷ xs) id h = way-last first made xs id h.2

way-pop : (first : List Tree) (made next : MadeMap) (xs : List ℕ) (id m : ℕ) → IsUpdated made next id m → AreOpen first made (xs ++ id ∷ []) → AreOpen first next xs
way-pop first made next [] id m u h = tt
way-pop first made next (x ∷ xs) id m u h =
    let less = last-below x xs id h.1 in
    let other : x ≢ id = λ e. omega (arith, less, e) in
    (record { below = h.0.below; free = h.0.free; missing = elsewhere made next id m x u other ∙ h.0.missing }, all-pop x xs id h.1, way-pop first made next xs id m u h.2)

pub down-at : (first : List Tree) (made : MadeMap) (waiting : List ℕ) (id root : ℕ) → IsDown first made waiting id root → IsOpen first made id
down-at first made waiting id root d = way-last first made waiting id d.open_ones

pub down-start : (first : List Tree) (made : MadeMap) (waiting : List ℕ) (root : ℕ) → waiting ≡ [] → root < length first → IsQuantifierFree (tree_at first root) → get nat_eq made root ≡ None → IsDown first made waiting root root
down-start first made waiting root e below free missing =
    subst (λ (xs : List ℕ). IsDown first made xs root root) (sym e) (record { from_root = refl; open_ones = (record { below = below; free = free; missing = missing }, tt, tt) })

pub down-push : (first trees : List Tree) (made : MadeMap) (waiting : List ℕ) (id kid root : ℕ) → Grows first trees → IsDown first made waiting id root → IsMissing trees made id kid → IsDown first made (waiting ++ id ∷ []) kid root
down-push first trees made waiting id kid root g d h =
    let at = down-at first made waiting id root d in
    let inside : kid < length first = omega (arith, h.below, at.below) in
    record {
      from_root = first-push waiting id kid ∙ d.from_root;
      open_ones = way-push first made waiting id kid d.open_ones h.below (record { below = inside; free = subst IsQuantifierFree (tree-grows first trees kid g inside) h.free; missing = h.missing });
    }

pub down-pop : (first : List Tree) (made next : MadeMap) (waiting rest : List ℕ) (id m parent root : ℕ) → waiting ≡ rest ++ parent ∷ [] → IsUpdated made next id m → IsDown first made waiting id root → IsDown first next rest parent root
down-pop first made next waiting rest id m parent root e u d = record {
  from_root = sym (first-push rest parent id) ∙ ap (λ (xs : List ℕ). first_of xs id) (sym e) ∙ d.from_root;
  open_ones = subst (AreOpen first next) e (way-pop first made next waiting id m u d.open_ones);
}

pub down-end : (first : List Tree) (made : MadeMap) (waiting : List ℕ) (id root : ℕ) → waiting ≡ [] → IsDown first made waiting id root → id ≡ root
down-end first made waiting id root e d = ap (λ (xs : List ℕ). first_of xs id) (sym e) ∙ d.from_root

-- of how many of the first numbers nothing was made
unfoldable pub unmade : MadeMap → ℕ → ℕ
unmade made zero = 0
unmade made (suc n) = unmade made n + cond (is_some (get nat_eq made n)) 0 1

unmade-below : (made next : MadeMap) (id m n : ℕ) → IsUpdated made next id m → n ≤ id → unmade next n ≡ unmade made n
unfolding unmade
unmade-below made next id m zero u h = refl
unmade-below made next id m (suc n) u h =
    let other : n ≢ id = λ e. omega (arith, h, e) in
    let below = unmade-below made next id m n u (omega (arith, h)) in
    ap (λ x. x + cond (is_some (get nat_eq next n)) 0 1) below ∙ ap (λ (q : Option ℕ). unmade made n + cond (is_some q) 0 1) (elsewhere made next id m n u other)

unmade-less : (made next : MadeMap) (id m n : ℕ) → IsUpdated made next id m → get nat_eq made id ≡ None → id < n → unmade made n ≡ suc (unmade next n)
unfolding unmade
unmade-less made next id m zero u none h = absurd (omega (arith, h))
unmade-less made next id m (suc n) u none h = elim (cases_lt id n) [
  | inl less ↦
      let other : n ≢ id = λ e. omega (arith, less, e) in
      let fewer = unmade-less made next id m n u none less in
      let same : ◌≡◌ {A = ℕ} (cond (is_some (get nat_eq next n)) 0 1) (cond (is_some (get nat_eq made n)) 0 1) = ap (λ (q : Option ℕ). cond (is_some q) 0 1) (elsewhere made next id m n u other) in
      omega (arith, fewer, same)
  | inr more ↦
      let last : n ≡ id = omega (arith, more, h) in
      let below = unmade-below made next id m n u (omega (arith, last)) in
      let old : ◌≡◌ {A = ℕ} (cond (is_some (get nat_eq made n)) 0 1) 1 = ap (λ (q : Option ℕ). cond (is_some q) 0 1) (ap (get nat_eq made) last ∙ none) in
      let new : ◌≡◌ {A = ℕ} (cond (is_some (get nat_eq next n)) 0 1) 0 = ap (λ (q : Option ℕ). cond (is_some q) 0 1) (ap (get nat_eq next) last ∙ u.here) in
      omega (arith, below, old, new)
]

-- what was made, with one more term
pub swept-step : (rules : Rewriting) (first old new : List Tree) (made next : MadeMap) (waiting : List ℕ) (id m root : ℕ) → Grows first old → Grows old new → IsDown first made waiting id root → IsUpdated made next id m → StandsAt new m (swept rules (tree_at old id)) → AreSwept rules old made → AreSwept rules new next
swept-step rules first old new made next waiting id m root f g d u at h =
    let before : id < length old = omega (arith, (down-at first made waiting id root d).below, length-grows first old f) in
    let inside : id < length new = omega (arith, before, length-grows old new g) in
    swept-insert rules new made next id m u inside (subst (λ t. StandsAt new m (swept rules t)) (sym (tree-grows old new id g before)) at) (swept-grows rules old new made g h)

-- nothing was made yet
pub none-made : (made : MadeMap) (k : ℕ) → made.entries ≡ [] → get nat_eq made k ≡ None
none-made made k e = rw e refl

pub swept-none : (rules : Rewriting) (trees : List Tree) (made : MadeMap) → made.entries ≡ [] → AreSwept rules trees made
swept-none rules trees made e = record {
  below = λ k m h. absurd (let none = none-made made k e in cc);
  stands = λ k m h. absurd (let none = none-made made k e in cc);
}

-- what was made of the terms of a list
abbrev pub AreDone : Rewriting → (first trees : List Tree) → List ℕ → List ℕ → Type 0
AreDone rules first trees [] [] = Unit {0}
AreDone rules first trees (k ∷ ks) (m ∷ ms) = StandsAt trees m (swept rules (tree_at first k)) × AreDone rules first trees ks ms
AreDone rules first trees _ _ = ⊥

pub done-push : (rules : Rewriting) (first trees : List Tree) (ks ms : List ℕ) (k m : ℕ) → AreDone rules first trees ks ms → StandsAt trees m (swept rules (tree_at first k)) → AreDone rules first trees (ks ++ k ∷ []) (ms ++ m ∷ [])
done-push rules first trees [] [] k m h at = (at, tt)
done-push rules first trees (x ∷ ks) (y ∷ ms) k m h at = (h.0, done-push rules first trees ks ms k m h.1 at)
done-push rules first trees [] (y ∷ ms) k m h at = absurd h
done-push rules first trees (x ∷ ks) [] k m h at = absurd h

pub done-grows : (rules : Rewriting) (first old new : List Tree) (ks ms : List ℕ) → Grows old new → AreDone rules first old ks ms → AreDone rules first new ks ms
done-grows rules first old new [] [] g h = tt
done-grows rules first old new (k ∷ ks) (m ∷ ms) g h = (stands-grows old new m (swept rules (tree_at first k)) g h.0, done-grows rules first old new ks ms g h.1)
done-grows rules first old new [] (m ∷ ms) g h = absurd h
done-grows rules first old new (k ∷ ks) [] g h = absurd h

pub done-more : (rules : Rewriting) (first old new : List Tree) (list ids : List ℕ) (i k m : ℕ) → i < length list → k ≡ get_or list i k → k < length first → Grows first old → Grows old new → AreDone rules first old (take i list) ids → StandsAt new m (swept rules (tree_at old k)) → AreDone rules first new (take (i + 1) list) (ids ++ m ∷ [])
done-more rules first old new list ids i k m h is below f g done at =
    let front : take (i + 1) list ≡ take i list ++ k ∷ [] = take_more list i k h ∙ ap (λ x. take i list ++ x ∷ []) (sym is) in
    let here : StandsAt new m (swept rules (tree_at first k)) = subst (λ t. StandsAt new m (swept rules t)) (tree-grows first old k f below) at in
    subst (λ ks. AreDone rules first new ks (ids ++ m ∷ [])) (sym front) (done-push rules first new (take i list) ids k m (done-grows rules first old new (take i list) ids g done) here)

pub done-whole : (rules : Rewriting) (first trees : List Tree) (list ids : List ℕ) (i : ℕ) → length list ≤ i → AreDone rules first trees (take i list) ids → AreDone rules first trees list ids
done-whole rules first trees list ids i h done = subst (λ ks. AreDone rules first trees ks ids) (take_all i list h) done

pub done-map : (rules : Rewriting) (first trees : List Tree) (ks ms : List ℕ) → AreDone rules first trees ks ms → map (tree_at trees) ms ≡ map (swept rules) (map (tree_at first) ks)
done-map rules first trees [] [] h = refl
done-map rules first trees (k ∷ ks) (m ∷ ms) h = ap (λ t. t ∷ map (tree_at trees) ms) h.0.tree ∙ ap (λ ts. swept rules (tree_at first k) ∷ ts) (done-map rules first trees ks ms h.1)
done-map rules first trees [] (m ∷ ms) h = absurd h
done-map rules first trees (k ∷ ks) [] h = absurd h

pub done-below : (rules : Rewriting) (first trees : List Tree) (ks ms : List ℕ) → AreDone rules first trees ks ms → AllByRecursion (λ m. m < length trees) ms
done-below rules first trees [] [] h = tt
done-below rules first trees (k ∷ ks) (m ∷ ms) h = (h.0.below, done-below rules first trees ks ms h.1)
done-below rules first trees [] (m ∷ ms) h = absurd h
done-below rules first trees (k ∷ ks) [] h = absurd h

-- a sweep by one rule makes what its pass does
pub swept-pass : (r : Rule) (ts : List Tree) → map (swept (Pass r)) ts ≡ map (passed r) ts
swept-pass r [] = refl
swept-pass r (t ∷ ts) = ap (λ u. u ∷ map (swept (Pass r)) ts) (swept-one r t) ∙ ap (λ us. passed r t ∷ us) (swept-pass r ts)

-- the work that is left
abbrev pub work : MadeMap → ℕ → ℕ → ℕ
work made n id = unmade made n * (n + 1) + id

pub work-down : (made : MadeMap) (n id kid : ℕ) → kid < id → work made n kid < work made n id
work-down made n id kid h = omega (arith, h)

pub work-up : (made next : MadeMap) (n id m parent : ℕ) → IsUpdated made next id m → get nat_eq made id ≡ None → id < n → parent < n → work next n parent < work made n id
work-up made next n id m parent u none inside above =
    let fewer : unmade made n ≡ suc (unmade next n) = unmade-less made next id m n u none inside in
    rw fewer (more (unmade next n))
  where
    more : (k : ℕ) → k * (n + 1) + parent < suc k * (n + 1) + id
    more k = omega (arith, above)
