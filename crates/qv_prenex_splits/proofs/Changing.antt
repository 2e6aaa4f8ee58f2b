-- Steps of a change in the terms of a store.
use Rattle.std.proofs.Common.{◌≡◌, ℕ, ◌<◌, Bool, true, false, Option, Some, None, List, [], ◌∷◌, ◌++◌, length, take, get_or, nat_eq, refl, sym, ap, ◌∙◌, subst, arith, All}
use Rattle.std.specs.Prelude.{◌+◌, is_some, option_map, unwrap_or, if◌then◌else◌}
use Rattle.std.specs.List.{AllByRecursion}
use Rattle.std.specs.HashMap.{get}
use Rattle.std.proofs.lemmas.Bool.{le-ltb}
use Rattle.std.proofs.lemmas.List.{take_more}
use Rattle.std.proofs.lemmas.List.Elements.{All-contains, All-from_recursion}
use Rattle.qv_words.specs.declared.op.Op.{Op}
use Rattle.qv_words.specs.Equality.{tree_eq}
use Rattle.qv_words.specs.Tree.{Tree, Constant, Variable, Literal, Apply, ForAll, Exists, Cons}
use Rattle.qv_words.specs.Sorted.{IsSorted, AreSortedBelow, no_levels}
use Rattle.qv_words.specs.Prenex.{is_quantified}
use Rattle.qv_words.proofs.Equals.{eq-from_test, tree_eq-refl, tree_eq-is, test-refl}
use Rattle.qv_store.specs.Nodes.{tree_at, trees_at}
use Rattle.qv_store.specs.Stores.{StandsAt, AreShared, Grows}
use Rattle.qv_store.proofs.Replacement.{grown-tree, grown-within, grown-stands}
use Rattle.qv_prenex_splits.specs.declared.rebuilding.Change.{Change}
use Rattle.qv_prenex_splits.specs.declared.rebuilding.Change.TheVariants.{Term}
use Rattle.qv_prenex_splits.specs.declared.rebuilding.Change.TheVariants.{Names as ByNames}
use Rattle.qv_prenex_splits.specs.declared.naming.Names.{Names}
use Rattle.qv_prenex_splits.specs.declared.rebuilding.Found.{Found}
use Rattle.qv_prenex_splits.specs.declared.rebuilding.Found.TheVariants.{Leaf, Missing, Ready}
use Rattle.qv_prenex_splits.specs.Rebuilt.{rebuilt, rebuilt_each, IsPutAt}
use Rattle.qv_prenex_splits.specs.declared.memo.Changes.{Changes}
use Rattle.qv_prenex_splits.specs.declared.memo.Memo.{Memo}
use Rattle.qv_prenex_splits.specs.Naming.{TermMap, place_of, outer_of, AreTermsOf, leaf_top}
use Rattle.qv_prenex_splits.specs.Memos.{IsWithin, last_change, made_by, made_in, AreKept, IsKeptNext, IsNew}
use Rattle.qv_prenex_splits.specs.Rebuilding.{term_top, top_in, IsChangeIn, AreRebuilt, AreMadeOf, IsMissing, IsReady, IsLeaf, IsNeeded, IsFoundOver, IsFoundAt}
use Rattle.qv_prenex_splits.proofs.Waiting.{IsDoneNext}
use Rattle.qv_prenex_splits.proofs.Keeping.{kept-grows, kept-more, none-kept}

-- what a change puts stays where the store grows
pub outer-grows : (old new : List Tree) (outer : TermMap) → Grows old new → AreTermsOf old outer → outer_of new outer ≡ outer_of old outer
outer-grows old new outer g there = λ i l. at l i
  where
    by : (o : Option ℕ) → ((n : ℕ) → o ≡ Some n → n < length old) → option_map (tree_at new) o ≡ option_map (tree_at old) o
    by None h = refl
    by (Some n) h = ap Some (grown-tree old new g n (h n refl))

    at : (l : ℕ) → outer_of new outer l ≡ outer_of old outer l
    at l = by (get nat_eq outer l) (λ n e. there l n e)

pub top-grows : (old new : List Tree) (change : Change) (names : Names) → Grows old new → IsChangeIn old change names → top_in new change names ≡ top_in old change names
top-grows old new (Term target put) names g h =
    ap (λ t. term_top t (tree_at new put)) (grown-tree old new g target h.0) ∙ ap (term_top (tree_at old target)) (grown-tree old new g put h.1)
top-grows old new ByNames names g h = ap (leaf_top (place_of names.constants.keys)) (outer-grows old new names.outer g h)

pub change-grows : (old new : List Tree) (change : Change) (names : Names) → Grows old new → IsChangeIn old change names → IsChangeIn new change names
change-grows old new (Term target put) names g h = (grown-within old new g target h.0, grown-within old new g put h.1)
change-grows old new ByNames names g h = λ l n e. grown-within old new g n (h l n e)

-- what is put for a tree as a whole
rebuilt-put : (top : Tree → Option Tree) (t u : Tree) → top t ≡ Some u → rebuilt top t ≡ u
rebuilt-put top (Constant i s) u e = ap (λ o. unwrap_or o (Constant i s)) e
rebuilt-put top (Variable l s) u e = ap (λ o. unwrap_or o (Variable l s)) e
rebuilt-put top (Literal s n) u e = ap (λ o. unwrap_or o (Literal s n)) e
rebuilt-put top (Apply o args) u e = ap (λ x. unwrap_or x (Apply o (rebuilt_each top args))) e
rebuilt-put top (ForAll l s body) u e = ap (λ o. unwrap_or o (ForAll l s body)) e
rebuilt-put top (Exists l s body) u e = ap (λ o. unwrap_or o (Exists l s body)) e

rebuilt-leaf : (top : Tree → Option Tree) (t : Tree) → IsLeaf t → top t ≡ None → rebuilt top t ≡ t
rebuilt-leaf top (Constant i s) h e = ap (λ o. unwrap_or o (Constant i s)) e
rebuilt-leaf top (Variable l s) h e = ap (λ o. unwrap_or o (Variable l s)) e
rebuilt-leaf top (Literal s n) h e = ap (λ o. unwrap_or o (Literal s n)) e
rebuilt-leaf top (Apply o args) h e = absurd h
rebuilt-leaf top (ForAll l s body) h e = ap (λ o. unwrap_or o (ForAll l s body)) e
rebuilt-leaf top (Exists l s body) h e = ap (λ o. unwrap_or o (Exists l s body)) e

-- nothing is put, or a term of the store is
put-none : (trees : List Tree) (o : Option Tree) (put : Option ℕ) → IsPutAt trees o put → put ≡ None → o ≡ None
put-none trees None put h e = refl
put-none trees (Some t) None h e = absurd h
put-none trees (Some t) (Some n) h e = absurd (cc)

put-some : (trees : List Tree) (o : Option Tree) (put : Option ℕ) (n : ℕ) → IsPutAt trees o put → put ≡ Some n → (t : Tree) × (o ≡ Some t) × StandsAt trees n t
put-some trees None put n h e = absurd (cc)
put-some trees (Some t) None n h e = absurd (cc)
put-some trees (Some t) (Some m) n h e = let same : m ≡ n = cc in (t, refl, subst (λ k. StandsAt trees k t) same h)

pub next-put : (top : Tree → Option Tree) (old new : List Tree) (id n : ℕ) (put : Option ℕ) → IsPutAt new (top (tree_at old id)) put → put ≡ Some n → StandsAt new n (rebuilt top (tree_at old id))
next-put top old new id n put h e =
    let at = put-some new (top (tree_at old id)) put n h e in
    subst (StandsAt new n) (sym (rebuilt-put top (tree_at old id) at.0 at.1)) at.2

pub next-leaf : (top : Tree → Option Tree) (old new : List Tree) (id : ℕ) (put : Option ℕ) → Grows old new → id < length old → IsPutAt new (top (tree_at old id)) put → put ≡ None → IsLeaf (tree_at new id) →
    StandsAt new id (rebuilt top (tree_at old id))
next-leaf top old new id put g low h e leaf =
    let none = put-none new (top (tree_at old id)) put h e in
    let same = grown-tree old new g id low in
    record { below = grown-within old new g id low; tree = same ∙ sym (rebuilt-leaf top (tree_at old id) (subst IsLeaf same leaf) none) }

-- what was made of terms, in a greater store
pub rebuilt-grows : (top : Tree → Option Tree) (old new : List Tree) (made : Memo) → Grows old new → AreRebuilt top old made → AreRebuilt top new made
rebuilt-grows top old new made g h = record {
  below = λ k m e. grown-within old new g k (h.below k m e);
  stands = λ k m e. subst (λ t. StandsAt new m (rebuilt top t)) (sym (grown-tree old new g k (h.below k m e))) (grown-stands old new g m (rebuilt top (tree_at old k)) (h.stands k m e));
  kept = kept-grows old new made g h.kept;
}

-- what was made of arguments
made-trees : (top : Tree → Option Tree) (trees : List Tree) (made : Memo) (ks ms : List ℕ) → AreRebuilt top trees made → AreMadeOf made ks ms → trees_at trees ms ≡ rebuilt_each top (trees_at trees ks)
made-trees top trees made [] [] h e = refl
made-trees top trees made (k ∷ ks) (m ∷ ms) h e =
    ap (λ t. Cons t (trees_at trees ms)) ((h.stands k m e.0).tree) ∙ ap (Cons (rebuilt top (tree_at trees k))) (made-trees top trees made ks ms h e.1)
made-trees top trees made [] (m ∷ ms) h e = absurd e
made-trees top trees made (k ∷ ks) [] h e = absurd e

made-below : (top : Tree → Option Tree) (trees : List Tree) (made : Memo) (ks ms : List ℕ) → AreRebuilt top trees made → AreMadeOf made ks ms → AllByRecursion (λ m. m < length trees) ms
made-below top trees made [] [] h e = tt
made-below top trees made (k ∷ ks) (m ∷ ms) h e = ((h.stands k m e.0).below, made-below top trees made ks ms h e.1)
made-below top trees made [] (m ∷ ms) h e = absurd e
made-below top trees made (k ∷ ks) [] h e = absurd e

pub made-push : (made : Memo) (kids new : List ℕ) (i kid n : ℕ) → AreMadeOf made (take i kids) new → i < length kids → kid ≡ get_or kids i kid → made_in made kid ≡ Some n → AreMadeOf made (take (i + 1) kids) (new ++ n ∷ [])
made-push made kids new i kid n so h at own =
    let next : take (i + 1) kids ≡ take i kids ++ kid ∷ [] = take_more kids i kid h ∙ ap (λ k. take i kids ++ k ∷ []) (sym at) in
    subst (λ ks. AreMadeOf made ks (new ++ n ∷ [])) (sym next) (go (take i kids) new so)
  where
    go : (ks ms : List ℕ) → AreMadeOf made ks ms → AreMadeOf made (ks ++ kid ∷ []) (ms ++ n ∷ [])
    go [] [] h = (own, tt)
    go (k ∷ ks) (m ∷ ms) h = (h.0, go ks ms h.1)
    go [] (m ∷ ms) h = absurd h
    go (k ∷ ks) [] h = absurd h

-- the application that is put
pub record IsRightApplication (top : Tree → Option Tree) (old new : List Tree) (id : ℕ) (op : Op) (made_kids : List ℕ) : Type 0 where
  pub children : All (λ m. m < length new) made_kids
  pub tree : Apply op (trees_at new made_kids) ≡ rebuilt top (tree_at old id)

module _ (top : Tree → Option Tree) (old new : List Tree) (made : Memo) (id : ℕ) (put : Option ℕ) (grows : Grows old new) (low : id < length old) (right : AreRebuilt top old made)
    (at : IsPutAt new (top (tree_at old id)) put) (nothing : put ≡ None) (op : Op) (kids : List ℕ) (tree : Apply op (trees_at new kids) ≡ tree_at new id) where
  over : rebuilt top (tree_at old id) ≡ Apply op (rebuilt_each top (trees_at new kids))
  over =
      let none = put-none new (top (tree_at old id)) put at nothing in
      let same : tree_at old id ≡ Apply op (trees_at new kids) = sym (grown-tree old new grows id low) ∙ sym tree in
      ap (rebuilt top) same ∙ ap (λ o. unwrap_or o (Apply op (rebuilt_each top (trees_at new kids)))) (ap top (sym same) ∙ none)

  pub right-application : (op' : Op) (made_kids : List ℕ) → IsReady made op kids op' made_kids → IsRightApplication top old new id op' made_kids
  right-application op' made_kids ready =
      let own = rebuilt-grows top old new made grows right in
      record {
        children = All-from_recursion (λ m. m < length new) made_kids (made-below top new made kids made_kids own ready.made_of);
        tree = ap (λ o. Apply o (trees_at new made_kids)) ready.op_is ∙ ap (Apply op) (made-trees top new made kids made_kids own ready.made_of) ∙ sym over;
      }

  sorted-each : (ks : List ℕ) → AreSortedBelow no_levels (rebuilt_each top (trees_at new ks)) → AllByRecursion (λ k. IsSorted (rebuilt top (tree_at new k))) ks
  sorted-each [] h = tt
  sorted-each (k ∷ ks) h = (h.0, sorted-each ks h.1)

  pub needed-kid : (kid : ℕ) → All (λ k. k < id) kids → IsSorted (rebuilt top (tree_at old id)) → IsMissing made kids kid → IsNeeded top old made id kid
  needed-kid kid below sorted missing =
      let less = All-contains (λ k. k < id) kids kid below missing.among in
      let all : AreSortedBelow no_levels (rebuilt_each top (trees_at new kids)) = (subst IsSorted over sorted).0 in
      let here = All-contains (λ k. IsSorted (rebuilt top (tree_at new k))) kids kid (All-from_recursion (λ k. IsSorted (rebuilt top (tree_at new k))) kids (sorted-each kids all)) missing.among in
      record {
        below = less;
        sorted = subst (λ t. IsSorted (rebuilt top t)) (grown-tree old new grows kid (omega (arith, less, low))) here;
        missing = missing.missing;
      }

-- one more term is made
pub record IsUpdated (made next : Memo) (id m : ℕ) : Type 0 where
  pub here : made_in next id ≡ Some m
  pub others : (q : ℕ) → nat_eq id q ≡ false → made_in next q ≡ made_in made q

abbrev pub is_made : Memo → ℕ → Bool
is_made made k = is_some (made_in made k)

-- the time when it was made is the present
pub kept-updated : (trees : List Tree) (made next : Memo) (id m reach : ℕ) → AreKept trees made → IsKeptNext made next id m reach → IsUpdated made next id m
kept-updated trees made next id m reach h n = record {
  here = ap (made_by next.changes) n.here ∙ ap (λ (c : Changes). made_by c (Some (record { made = m; reach = reach; time = made.changes.count }))) n.changes
      ∙ ap (λ (b : Bool). if b then None else Some m) (le-ltb made.changes.count (last_change made.changes reach) (h.past reach));
  others = λ q e. ap (made_by next.changes) (n.others q e) ∙ ap (λ (c : Changes). made_by c (get nat_eq made.entries q)) n.changes;
}

pub updated-done : (made next : Memo) (id m : ℕ) → IsUpdated made next id m → IsDoneNext (is_made made) (is_made next) id
updated-done made next id m u = record { here = ap is_some u.here; others = λ q h. ap is_some (u.others q h) }

pub rebuilt-step : (top : Tree → Option Tree) (old new : List Tree) (made next : Memo) (id m : ℕ) → Grows old new → id < length old → IsUpdated made next id m → AreKept new next →
    StandsAt new m (rebuilt top (tree_at old id)) → AreRebuilt top old made → AreRebuilt top new next
rebuilt-step top old new made next id m g low u kept at h =
    let own = rebuilt-grows top old new made g h in
    let here : StandsAt new m (rebuilt top (tree_at new id)) = subst (λ t. StandsAt new m (rebuilt top t)) (sym (grown-tree old new g id low)) at in
    record {
      below = λ k n e. below-by own k n e (nat_eq id k) refl;
      stands = λ k n e. stands-by own here k n e (nat_eq id k) refl;
      kept = kept;
    }
  where
    below-by : AreRebuilt top new made → (k n : ℕ) → made_in next k ≡ Some n → (b : Bool) → nat_eq id k ≡ b → k < length new
    below-by own k n e true q = let same : id ≡ k = eq-from_test id k q in subst (λ (x : ℕ). x < length new) same (grown-within old new g id low)
    below-by own k n e false q = own.below k n (sym (u.others k q) ∙ e)

    stands-by : AreRebuilt top new made → StandsAt new m (rebuilt top (tree_at new id)) → (k n : ℕ) → made_in next k ≡ Some n → (b : Bool) → nat_eq id k ≡ b → StandsAt new n (rebuilt top (tree_at new k))
    stands-by own here k n e true q =
        let same : id ≡ k = eq-from_test id k q in
        let both : Some m ≡ Some n = sym u.here ∙ ap (made_in next) same ∙ e in
        let number : m ≡ n = cc in
        subst (λ (x : ℕ). StandsAt new n (rebuilt top (tree_at new x))) same (subst (λ (x : ℕ). StandsAt new x (rebuilt top (tree_at new id))) number here)
    stands-by own here k n e false q = own.stands k n (sym (u.others k q) ∙ e)

pub made-step : (top : Tree → Option Tree) (old new : List Tree) (made next : Memo) (id m reach : ℕ) → Grows old new → id < length old → IsWithin reach (tree_at new id) → IsKeptNext made next id m reach →
    StandsAt new m (rebuilt top (tree_at old id)) → AreRebuilt top old made → AreRebuilt top new next
made-step top old new made next id m reach g low within n at h =
    let own = kept-grows old new made g h.kept in
    rebuilt-step top old new made next id m g low (kept-updated new made next id m reach own n) (kept-more new made next id m reach own (grown-within old new g id low) within n) at h

pub missing-test : (made : Memo) (k : ℕ) → made_in made k ≡ None → is_made made k ≡ false
missing-test made k e = ap is_some e

pub none-rebuilt : (top : Tree → Option Tree) (trees : List Tree) (made : Memo) → IsNew made → AreRebuilt top trees made
none-rebuilt top trees made n = record {
  below = λ k m h. absurd (let none = ap (made_by made.changes) (n.nothing k) in let bad : None ≡ Some m = sym none ∙ h in cc);
  stands = λ k m h. absurd (let none = ap (made_by made.changes) (n.nothing k) in let bad : None ≡ Some m = sym none ∙ h in cc);
  kept = none-kept trees made n;
}

-- what is put for a term, where the target is one of the store
pub top-target : (trees : List Tree) (target put id : ℕ) → id ≡ target → put < length trees → IsPutAt trees (term_top (tree_at trees target) (tree_at trees put) (tree_at trees id)) (Some put)
top-target trees target put id e low = by (tree_eq (tree_at trees id) (tree_at trees target)) (ap (λ n. tree_eq (tree_at trees n) (tree_at trees target)) e ∙ tree_eq-refl (tree_at trees target))
  where
    by : (b : Bool) → b ≡ true → IsPutAt trees (if b then Some (tree_at trees put) else (if (is_quantified (tree_at trees id)) then None else Some (tree_at trees id))) (Some put)
    by true h = record { below = low; tree = refl }
    by false h = absurd (cc)

pub top-other : (trees : List Tree) (target put id : ℕ) (q : Bool) → AreShared trees → (id ≡ target → ⊥) → id < length trees → target < length trees → is_quantified (tree_at trees id) ≡ q →
    IsPutAt trees (term_top (tree_at trees target) (tree_at trees put) (tree_at trees id)) (if q then None else Some id)
top-other trees target put id q shared other low inside quantified = by (tree_eq (tree_at trees id) (tree_at trees target)) refl (is_quantified (tree_at trees id)) q quantified
  where
    by : (b : Bool) → tree_eq (tree_at trees id) (tree_at trees target) ≡ b → (p r : Bool) → p ≡ r →
        IsPutAt trees (if b then Some (tree_at trees put) else (if p then None else Some (tree_at trees id))) (if r then None else Some id)
    by true e p r h = absurd (other (shared.once id target low inside (tree_eq-is (tree_at trees id) (tree_at trees target) e)))
    by false e true true h = refl
    by false e false false h = record { below = low; tree = refl }
    by false e true false h = absurd (cc)
    by false e false true h = absurd (cc)

pub not-same : (a b : ℕ) → nat_eq a b ≡ false → a ≡ b → ⊥
not-same a b h e = absurd (let same : nat_eq a b ≡ true = ap (λ n. nat_eq n b) e ∙ test-refl b in cc)

-- what is found of an application
pub found-at : (trees : List Tree) (made : Memo) (id : ℕ) (o : Op) (kids : List ℕ) → All (λ k. k < id) kids → Apply o (trees_at trees kids) ≡ tree_at trees id → (found : Found) → IsFoundOver made o kids found → IsFoundAt trees made id found
found-at trees made id o kids below tree Leaf h = absurd h
found-at trees made id o kids below tree (Missing kid) h = record { op = o; kids = kids; below = below; tree = tree; over = h }
found-at trees made id o kids below tree (Ready op new) h = record { op = o; kids = kids; below = below; tree = tree; over = h }
