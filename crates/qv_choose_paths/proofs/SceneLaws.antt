-- What is known of a region stays known in longer stores.
use Rattle.std.proofs.Common.{◌≡◌, ℕ, ◌<◌, ◌≤◌, arith, inl, inr, Some, List, [], ◌∷◌, ◌++◌, length, get_or, refl, sym, ap, ◌∙◌, subst, slice_get}
use Rattle.std.specs.List.{AllByRecursion}
use Rattle.std.proofs.lemmas.List.Elements.{recursion_from_All, All-from_recursion}
use Rattle.qv_words.specs.declared.op.Op.{Op}
use Rattle.qv_words.specs.declared.sort.Sort.{Sort}
use Rattle.qv_words.specs.Sort.{IsLawful}
use Rattle.qv_words.specs.Tree.{Tree, Trees, Constant, Variable, Literal, Apply, ForAll, Exists, Nil, Cons, tree_sort, IsQuantifierFree, AreQuantifierFree}
use Rattle.qv_words.specs.Sorted.{IsSorted, no_levels}
use Rattle.qv_words.proofs.Existing.{lawful_sort}
use Rattle.qv_words.proofs.Ranks.{found}
use Rattle.std.proofs.lemmas.Option.{slice_get-get_or}
use Rattle.qv_words.proofs.Elements.{all-at, all-weaker, pushed-cases}
use Rattle.qv_store.specs.declared.node.Node.{Node}
use Rattle.qv_store.specs.Nodes.{tree_at, trees_at, node_tree, children, HasChildrenBelow}
use Rattle.qv_store.proofs.Passes.{EachTree, walk-kids, earlier-in}
use Rattle.qv_store.specs.Stores.{AreShared, Grows, children_of}
use Rattle.qv_store.specs.Walks.{named, IsWalk, IsEarlier}
use Rattle.qv_choose_paths.specs.declared.ways.Place.{Place}
use Rattle.qv_choose_paths.specs.declared.ways.Look.{Look}
use Rattle.qv_choose_paths.specs.declared.seeing.Sight.{Sight}
use Rattle.qv_choose_paths.specs.Looks.{look_of, AreLooks}
use Rattle.qv_choose_paths.specs.Sights.{IsScene}
use Rattle.qv_choose_paths.specs.Steps.{AreKids}
use Rattle.qv_choose_paths.proofs.RowTerms.{stays-at, longer}
use Rattle.qv_choose_paths.proofs.Downs.{not-four}

-- a term of a walk is one of the store
pub walk-below : (trees : List Tree) (ids : List ℕ) (k n : ℕ) → IsWalk trees ids → slice_get ids k ≡ Some n → n < length trees
walk-below trees ids k n walk at = all-at (λ m. m < length trees) ids k n (recursion_from_All (λ m. m < length trees) ids walk.within) at

pub earlier-below : (trees : List Tree) (ids : List ℕ) (n : ℕ) → IsWalk trees ids → IsEarlier ids (length ids) n → n < length trees
earlier-below trees ids n walk e = walk-below trees ids e.place n walk e.at

pub named-grows : (old new : List Tree) (ids : List ℕ) → Grows old new → AllByRecursion (λ n. n < length old) ids → named new ids ≡ named old ids
named-grows old new [] g h = refl
named-grows old new (n ∷ ns) g h = ap (λ u. u ∷ named new ns) (stays-at old new n g h.0) ∙ ap (λ us. tree_at old n ∷ us) (named-grows old new ns g h.1)

pub scene-grows : (old new : List Tree) (s : Sight) → Grows old new → AreShared new → IsScene old s → IsScene new s
scene-grows old new s g shared h =
    let within = recursion_from_All (λ m. m < length old) s.walk h.walk.within in
    let more = longer old new g in
    record {
      shared = shared;
      walk = record {
        within = All-from_recursion (λ m. m < length new) s.walk (all-weaker (λ m. m < length old) (λ m. m < length new) s.walk (λ m low. omega (arith, low, more)) within);
        shared = subst AreShared (sym (named-grows old new s.walk g within)) h.walk.shared;
      };
      free = λ k n at. subst IsQuantifierFree (sym (stays-at old new n g (walk-below old s.walk k n h.walk at))) (h.free k n at);
      many_looks = h.many_looks;
      looks = λ k n l at there. h.looks k n l at there ∙ ap (look_of s.place) (sym (stays-at old new n g (walk-below old s.walk k n h.walk at)));
    }

-- arguments have no quantifiers where the term has none
inherit-each : (ts : Trees) → AreQuantifierFree ts → EachTree IsQuantifierFree ts
inherit-each Nil h = tt
inherit-each (Cons t ts) h = (h.0, inherit-each ts h.1)

pub inherit-free : (t : Tree) → IsQuantifierFree t → EachTree IsQuantifierFree (children_of t)
inherit-free (Constant i s) h = tt
inherit-free (Variable l s) h = tt
inherit-free (Literal s n) h = tt
inherit-free (Apply o args) h = inherit-each args h
inherit-free (ForAll l s body) h = absurd h
inherit-free (Exists l s body) h = absurd h

-- one look more
pub looks-push : (p : Place) (trees : List Tree) (ids : List ℕ) (looks : List Look) (n : ℕ) (look : Look) → AreLooks p trees ids looks
    → slice_get ids (length looks) ≡ Some n → look ≡ look_of p (tree_at trees n) → AreLooks p trees ids (looks ++ look ∷ [])
looks-push p trees ids looks n look right at own k m v here there = elim (pushed-cases looks look k v there) [
  | inl e ↦ right k m v here e
  | inr e ↦
      let same : Some n ≡ Some m = sym at ∙ sym (ap (slice_get ids) e.0) ∙ here in
      let one : n ≡ m = cc in
      sym e.1 ∙ own ∙ ap (λ j. look_of p (tree_at trees j)) one
]

pub looks-none : (p : Place) (trees : List Tree) (ids : List ℕ) (looks : List Look) → looks ≡ [] → AreLooks p trees ids looks
looks-none p trees ids looks none k n l at here = let gone : slice_get [] k ≡ Some l = sym (ap (λ xs. slice_get xs k) none) ∙ here in absurd (cc)

-- the item of a loop over the terms of a walk
pub at-place : {R : Type 0} (ids : List ℕ) (results : List R) (i n : ℕ) → length results ≡ i → i < length ids → n ≡ get_or ids i n → slice_get ids (length results) ≡ Some n
at-place ids results i n many h at = ap (slice_get ids) many ∙ slice_get-get_or ids i n h ∙ ap Some (sym at)

-- no operator has more than three arguments
pub few-kids : (trees : List Tree) (o : Op) (kids : List ℕ) → IsSorted (Apply o (trees_at trees kids)) → length kids ≤ 3
few-kids trees o [] h = omega arith
few-kids trees o (a ∷ []) h = omega arith
few-kids trees o (a ∷ b ∷ []) h = omega arith
few-kids trees o (a ∷ b ∷ c ∷ []) h = omega arith
few-kids trees o (a ∷ b ∷ c ∷ d ∷ rest) h =
    let sort = found (tree_sort (Apply o (trees_at trees (a ∷ b ∷ c ∷ d ∷ rest)))) h.1 in
    absurd (not-four o (tree_at trees a) (tree_at trees b) (tree_at trees c) (tree_at trees d) (trees_at trees rest) sort.0 sort.1)

-- a term's sort is lawful
pub lawful-at : (trees : List Tree) (n : ℕ) (s : Sort) → AreShared trees → n < length trees → tree_sort (tree_at trees n) ≡ Some s → IsLawful s
lawful-at trees n s shared low e = lawful_sort (tree_at trees n) no_levels s (shared.sorted n low) e

-- what is known of the arguments of a term of a walk
pub kids-of : (trees : List Tree) (s : Sight) (id : ℕ) (o : Op) (node : Node) (kids : List ℕ) → IsScene trees s → IsEarlier s.walk (length s.walk) id → node_tree trees node ≡ tree_at trees id → HasChildrenBelow id node → children node ≡ kids
    → Apply o (trees_at trees kids) ≡ tree_at trees id → AreKids trees s.walk id o kids
kids-of trees s id o node kids scene e tree low own is = record {
  below = earlier-below trees s.walk id scene.walk e;
  free = scene.free e.place id e.at;
  tree_is = sym is;
  lower = subst (AllByRecursion (λ kid. kid < id)) own (recursion_from_All (λ kid. kid < id) (children node) low);
  there = subst (AllByRecursion (IsEarlier s.walk (length s.walk))) own
      (all-weaker (IsEarlier s.walk e.place) (IsEarlier s.walk (length s.walk)) (children node) (λ kid h. earlier-in s.walk e.place (length s.walk) kid (omega (arith, e.before)) h)
      (walk-kids trees s.walk scene.shared scene.walk e.place id node e.at tree low));
}

pub kid-below : {n : ℕ} (id kid : ℕ) → kid < id → id < n → kid < n
kid-below id kid h k = omega (arith, h, k)

pub item-earlier : (items ids : List ℕ) (i n : ℕ) → items ≡ ids → i < length items → n ≡ get_or items i n → IsEarlier ids (length ids) n
item-earlier items ids i n same h at = record {
  place = i;
  before = omega (arith, h, ap length same);
  at = ap (λ is. slice_get is i) (sym same) ∙ slice_get-get_or items i n h ∙ ap Some (sym at);
}
