-- The steps of a walk.
use Rattle.std.proofs.Common.{◌≡◌, ℕ, zero, suc, ◌+◌, ◌<◌, ◌≤◌, ◌⊎◌, inl, inr, Bool, true, false, ◌||◌, cond, List, [], ◌∷◌, ◌++◌, length, map, refl, ap, subst, sym, ◌∙◌, arith, append_assoc, take, get_or, slice_get, position, unwrap_or, is_some, None, true≢false, Option, Some, IsSome, Result, Ok, Err, OnOk, IsTrue, ◌↔◌, Contains}
use Rattle.std.specs.Prelude.{nat_eq, ◌==◌}
use Rattle.std.specs.List.{AllByRecursion, list_any}
use Rattle.std.proofs.lemmas.List.{map-append}
use Rattle.std.proofs.lemmas.List.Elements.{recursion_from_All, All-push}
use Rattle.qv_words.specs.Tree.{Tree}
use Rattle.qv_words.specs.Equality.{tree_eq}
use Rattle.qv_words.specs.Clauses.{is_among}
use Rattle.qv_words.proofs.Equals.{tree_eq-refl, tree_eq-is, eq-from_test, test-refl}
use Rattle.std.proofs.Math.Seq.{take-append_seam}
use Rattle.std.proofs.lemmas.List.Quantifiers.{position-Some}
use Rattle.std.proofs.lemmas.Option.{slice_get-get_or, get_or_from_slice_get}
use Rattle.std.proofs.lemmas.Bool.{cases_lt}
use Rattle.indexmap.proofs.CallerLemmas.{Contains-list_any}
use Rattle.qv_words.proofs.Ranks.{found}
use Rattle.qv_store.specs.declared.node.Node.{Node}
use Rattle.qv_store.specs.declared.walk.Visit.{Visit}
use Rattle.qv_store.specs.declared.walk.Visit.TheVariants.{Enter, Leave}
use Rattle.qv_store.specs.Nodes.{tree_at, trees_at, children, node_tree, HasChildrenBelow}
use Rattle.qv_store.specs.Stores.{AreBelow, AreShared, children_of}
use Rattle.qv_store.specs.Walks.{with_subtrees, with_subtrees_of, named, IsWalk, IsBehind}
use Rattle.qv_store.specs.Visits.{seen_after, steps, steps_of, steps_left, AreReady, IsVisiting, IsStep}
use Rattle.qv_store.proofs.Sharing.{node-children, shared-with}
use Rattle.qv_store.proofs.Subtrees.{subtrees-rule, steps-rule, kids-seen, new-behind}

-- a number is met where its tree is seen
same-test : (a b : Bool) → (a ≡ true → b ≡ true) → (b ≡ true → a ≡ true) → a ≡ b
same-test true true f g = refl
same-test true false f g = sym (f refl)
same-test false true f g = g refl
same-test false false f g = refl

pub met-seen : (trees : List Tree) → AreShared trees → (met : List ℕ) → AllByRecursion (λ n. n < length trees) met → (n : ℕ) → n < length trees → list_any (nat_eq n) met ≡ is_among (named trees met) (tree_at trees n)
met-seen trees shared [] h n low = refl
met-seen trees shared (m ∷ met) h n low =
    let first : (n == m) ≡ tree_eq (tree_at trees n) (tree_at trees m) =
    same-test (n == m) (tree_eq (tree_at trees n) (tree_at trees m))
    (λ e. ap (λ k. tree_eq (tree_at trees n) (tree_at trees k)) (sym (eq-from_test n m e)) ∙ tree_eq-refl (tree_at trees n))
    (λ e. ap (λ k. n == k) (sym (shared.once n m low h.0 (tree_eq-is (tree_at trees n) (tree_at trees m) e))) ∙ test-refl n) in
    ap (λ b. b || list_any (nat_eq n) met) first ∙ ap (λ b. tree_eq (tree_at trees n) (tree_at trees m) || b) (met-seen trees shared met h.1 n low)

-- terms that wait to be entered
module _ (trees : List Tree) where
  enters-end : (seen : List Tree) (ks : List ℕ) (todo : List Visit) → seen_after trees seen (map Enter ks ++ todo) ≡ seen_after trees (with_subtrees_of seen (trees_at trees ks)) todo
  unfolding seen_after
  enters-end seen [] todo = refl
  enters-end seen (k ∷ ks) todo = enters-end (with_subtrees seen (tree_at trees k)) ks todo

  enters-steps : (seen : List Tree) (ks : List ℕ) (todo : List Visit) → steps_left trees seen (map Enter ks ++ todo) ≡ steps_of seen (trees_at trees ks) + steps_left trees (with_subtrees_of seen (trees_at trees ks)) todo
  unfolding steps_left
  enters-steps seen [] todo = omega arith
  enters-steps seen (k ∷ ks) todo = omega (arith, enters-steps (with_subtrees seen (tree_at trees k)) ks todo)

  enters-ready : (seen : List Tree) (ks : List ℕ) (todo : List Visit) → AllByRecursion (λ n. n < length trees) ks → AreReady trees (with_subtrees_of seen (trees_at trees ks)) todo → AreReady trees seen (map Enter ks ++ todo)
  unfolding AreReady
  enters-ready seen [] todo h ready = ready
  enters-ready seen (k ∷ ks) todo h ready = (h.0, enters-ready (with_subtrees seen (tree_at trees k)) ks todo h.1 ready)

-- a term that is met is passed over
pub step-over : (trees : List Tree) (met : List ℕ) (n : ℕ) (todo : List Visit) → IsVisiting trees met (Enter n ∷ todo) → list_any (nat_eq n) met ≡ true → IsStep trees met (Enter n ∷ todo) met todo
unfolding seen_after steps_left AreReady
step-over trees met n todo at there =
    let among : is_among (named trees met) (tree_at trees n) ≡ true = sym (met-seen trees at.store met (recursion_from_All _ met at.walk.within) n at.ready.0) ∙ there in
    let same : with_subtrees (named trees met) (tree_at trees n) ≡ named trees met =
    subtrees-rule (named trees met) (tree_at trees n) ∙ ap (λ b. cond b (named trees met) (with_subtrees_of (named trees met) (children_of (tree_at trees n)) ++ tree_at trees n ∷ [])) among in
    let one : steps (named trees met) (tree_at trees n) ≡ 1 =
    steps-rule (named trees met) (tree_at trees n) ∙ ap (λ b. cond b 1 (2 + steps_of (named trees met) (children_of (tree_at trees n)))) among in
    let left = ap (λ s. steps_left trees s todo) same in
    record {
      visiting = record { store = at.store; walk = at.walk; ready = subst (λ s. AreReady trees s todo) same at.ready.1 };
      end = sym (ap (λ s. seen_after trees s todo) same);
      fewer = omega (arith, one, left);
    }

-- a new term is entered
pub step-into : (trees : List Tree) (met : List ℕ) (n : ℕ) (todo todo' : List Visit) (node : Node) → IsVisiting trees met (Enter n ∷ todo) → list_any (nat_eq n) met ≡ false
    → node_tree trees node ≡ tree_at trees n → HasChildrenBelow n node → todo' ≡ map Enter (children node) ++ Leave n ∷ todo → IsStep trees met (Enter n ∷ todo) met todo'
unfolding seen_after steps_left AreReady
step-into trees met n todo todo' node at new tree kids made =
    let t = tree_at trees n in
    let seen = named trees met in
    let ks = children node in
    let among : is_among seen t ≡ false = sym (met-seen trees at.store met (recursion_from_All _ met at.walk.within) n at.ready.0) ∙ new in
    let own : children_of t ≡ trees_at trees ks = ap children_of (sym tree) ∙ node-children trees node in
    let under : List Tree = with_subtrees_of seen (trees_at trees ks) in
    let behind : with_subtrees seen t ≡ under ++ t ∷ [] =
    subtrees-rule seen t ∙ ap (λ b. cond b seen (with_subtrees_of seen (children_of t) ++ t ∷ [])) among ∙ ap (λ ts. with_subtrees_of seen ts ++ t ∷ []) own in
    let cost : steps seen t ≡ 2 + steps_of seen (trees_at trees ks) =
    steps-rule seen t ∙ ap (λ b. cond b 1 (2 + steps_of seen (children_of t))) among ∙ ap (λ ts. 2 + steps_of seen ts) own in
    let low : AllByRecursion (λ k. k < length trees) ks = recursion_from_All _ ks (λ k d h. omega (arith, kids k d h, at.ready.0)) in
    let leave : AreReady trees under (Leave n ∷ todo) = (
      at.ready.0,
      subst (λ ts. AreBelow under (length under) ts) (sym own) (kids-seen seen (trees_at trees ks)),
      ap (λ ts. is_among (with_subtrees_of seen ts) t) (sym own) ∙ new-behind seen t among,
      subst (λ s. AreReady trees s todo) behind at.ready.1,
    ) in
    let all : IsStep trees met (Enter n ∷ todo) met (map Enter ks ++ Leave n ∷ todo) = record {
      visiting = record { store = at.store; walk = at.walk; ready = enters-ready trees seen ks (Leave n ∷ todo) low leave };
      end = enters-end trees seen ks (Leave n ∷ todo) ∙ sym (ap (λ s. seen_after trees s todo) behind);
      fewer = omega (arith, enters-steps trees seen ks (Leave n ∷ todo), cost, ap (λ s. steps_left trees s todo) behind);
    } in
    subst (λ v. IsStep trees met (Enter n ∷ todo) met v) (sym made) all

-- one more tree of a walk
pub walk-push : (trees : List Tree) (met : List ℕ) (n : ℕ) → AreShared trees → IsWalk trees met → n < length trees
    → AreBelow (named trees met) (length (named trees met)) (children_of (tree_at trees n)) → is_among (named trees met) (tree_at trees n) ≡ false → IsWalk trees (met ++ n ∷ [])
walk-push trees met n shared walk low kids new =
    let moved : named trees (met ++ n ∷ []) ≡ named trees met ++ tree_at trees n ∷ [] = map-append (tree_at trees) met (n ∷ []) in
    record {
      within = All-push (λ k. k < length trees) met n walk.within low;
      shared = subst AreShared (sym moved) (shared-with (named trees met) (tree_at trees n) walk.shared kids (shared.sorted n low) new);
    }

-- a term is left, and met
pub step-out : (trees : List Tree) (met met' : List ℕ) (n : ℕ) (todo : List Visit) → IsVisiting trees met (Leave n ∷ todo) → met' ≡ cond (list_any (nat_eq n) met) met (met ++ n ∷ []) → IsStep trees met (Leave n ∷ todo) met' todo
unfolding seen_after steps_left AreReady
step-out trees met met' n todo at made =
    let absent : list_any (nat_eq n) met ≡ false = met-seen trees at.store met (recursion_from_All _ met at.walk.within) n at.ready.0 ∙ at.ready.2 in
    let longer : met' ≡ met ++ n ∷ [] = made ∙ ap (λ b. cond b met (met ++ n ∷ [])) absent in
    let moved : named trees (met ++ n ∷ []) ≡ named trees met ++ tree_at trees n ∷ [] = map-append (tree_at trees) met (n ∷ []) in
    let all : IsStep trees met (Leave n ∷ todo) (met ++ n ∷ []) todo = record {
      visiting = record { store = at.store; walk = walk-push trees met n at.store at.walk at.ready.0 at.ready.1 at.ready.2; ready = subst (λ s. AreReady trees s todo) (sym moved) at.ready.3 };
      end = ap (λ s. seen_after trees s todo) moved;
      fewer = omega (arith, ap (λ s. steps_left trees s todo) moved);
    } in
    subst (λ m. IsStep trees met (Leave n ∷ todo) m todo) (sym longer) all

pub behind-insert : (met met' : List ℕ) (n : ℕ) → met' ≡ cond (list_any (nat_eq n) met) met (met ++ n ∷ []) → IsBehind met met'
behind-insert met met' n made = by (list_any (nat_eq n) met) made
  where
    by : (b : Bool) → met' ≡ cond b met (met ++ n ∷ []) → IsBehind met met'
    by true e = record { more = []; behind = e ∙ sym-nil met }
      where
        sym-nil : (xs : List ℕ) → xs ≡ xs ++ []
        sym-nil [] = refl
        sym-nil (x ∷ xs) = ap (λ ys. x ∷ ys) (sym-nil xs)
    by false e = record { more = n ∷ []; behind = e }

pub behind-itself : (met met' : List ℕ) → met' ≡ met → IsBehind met met'
behind-itself met met' e = record { more = []; behind = e ∙ ends met }
  where
    ends : (xs : List ℕ) → xs ≡ xs ++ []
    ends [] = refl
    ends (x ∷ xs) = ap (λ ys. x ∷ ys) (ends xs)

pub behind-more : (a b c : List ℕ) → IsBehind a b → IsBehind b c → IsBehind a c
behind-more a b c f s = record { more = f.more ++ s.more; behind = s.behind ∙ ap (λ xs. xs ++ s.more) f.behind ∙ append_assoc a f.more s.more }

-- a walk begins
pub visiting-first : (trees : List Tree) (met : List ℕ) (n : ℕ) → AreShared trees → IsWalk trees met → n < length trees → IsVisiting trees met (Enter n ∷ [])
unfolding AreReady
visiting-first trees met n shared walk low = record { store = shared; walk = walk; ready = (low, tt) }

-- what is seen where nothing waits, and where one term waits
pub end-none : (trees seen : List Tree) → seen_after trees seen [] ≡ seen
unfolding seen_after
end-none trees seen = refl

pub end-one : (trees seen : List Tree) (n : ℕ) → seen_after trees seen (Enter n ∷ []) ≡ with_subtrees seen (tree_at trees n)
unfolding seen_after
end-one trees seen n = refl

pub enter-within : (trees : List Tree) (met : List ℕ) (n : ℕ) (todo : List Visit) → IsVisiting trees met (Enter n ∷ todo) → n < length trees
unfolding AreReady
enter-within trees met n todo at = at.ready.0

-- nothing waits where nothing is popped
pub popped-none : {X : Type 0} (xs : List X) (o : Option X) → (0 < length xs → IsSome o) → ((x : X) → o ≡ Some x → ⊥) → xs ≡ []
popped-none [] o some none = refl
popped-none (x ∷ xs) o some none = let there = found o (some (omega arith)) in absurd (none there.0 there.1)

-- the front of a walk that grew
pub behind-front : (old new : List ℕ) → IsBehind old new → take (length old) new ≡ old
behind-front old new b = ap (take (length old)) b.behind ∙ take-append_seam old b.more

-- what follows on success
pub on-ok : {A E : Type 0} (r : Result A E) {P Q : Type 0} → (P → Q) → OnOk r P → OnOk r Q
on-ok (Ok x) go h = go h
on-ok (Err e) go h = h

-- a test of a list of numbers is whether it has a number
pub contains-test : (n : ℕ) (xs : List ℕ) (b : Bool) → b ≡ list_any (nat_eq n) xs → IsTrue b ↔ Contains xs n
contains-test n xs b e = (λ h. there xs (sym e ∙ h), λ h. e ∙ tested xs h.0 h.1 h.2)
  where
    there : (ys : List ℕ) → list_any (nat_eq n) ys ≡ true → Contains ys n
    there ys h = Contains-list_any nat_eq (λ x y k. eq-from_test x y k) ys n h

    tested : (ys : List ℕ) (k : ℕ) → k < length ys → get_or ys k n ≡ n → list_any (nat_eq n) ys ≡ true
    tested [] k h at = absurd (omega (arith, h))
    tested (y ∷ ys) zero h at = ap (λ (t : Bool). t || list_any (nat_eq n) ys) (ap (λ m. n == m) at ∙ test-refl n)
    tested (y ∷ ys) (suc k) h at = either-way (n == y) (tested ys k (omega (arith, h)) at)
      where
        either-way : (t : Bool) → list_any (nat_eq n) ys ≡ true → (t || list_any (nat_eq n) ys) ≡ true
        either-way true p = refl
        either-way false p = p

-- the place of a number that is there
pub position-at : (n : ℕ) (xs : List ℕ) (o : Option ℕ) (k : ℕ) → o ≡ position (nat_eq n) xs → is_some o ≡ list_any (nat_eq n) xs → Contains xs n → k ≡ unwrap_or o 0 → slice_get xs k ≡ Some n
position-at n xs None k at some there e = absurd (true≢false (sym ((contains-test n xs (list_any (nat_eq n) xs) refl).1 there) ∙ sym some))
position-at n xs (Some i) k at some there e =
    let place = position-Some (nat_eq n) xs i 0 (sym at) in
    let same : n ≡ get_or xs i 0 = eq-from_test n (get_or xs i 0) place.1 in
    ap (slice_get xs) e ∙ slice_get-get_or xs i 0 place.0 ∙ ap Some (sym same)

-- and no earlier place has it
pub position-first : (n : ℕ) (xs : List ℕ) (o : Option ℕ) (k : ℕ) → o ≡ position (nat_eq n) xs → is_some o ≡ list_any (nat_eq n) xs → Contains xs n → k ≡ unwrap_or o 0
    → (place : ℕ) → slice_get xs place ≡ Some n → k ≤ place
position-first n xs None k at some there e place here = omega (arith, e)
position-first n xs (Some i) k at some there e place here = by (cases_lt place i)
  where
    by : (place < i) ⊎ (i ≤ place) → k ≤ place
    by (inr h) = omega (arith, h, e)
    by (inl h) =
        let other = (position-Some (nat_eq n) xs i 0 (sym at)).2 place h in
        let same : get_or xs place 0 ≡ n = get_or_from_slice_get xs place n 0 here in
        absurd (true≢false (sym (ap (λ m. n == m) same ∙ test-refl n) ∙ other))
