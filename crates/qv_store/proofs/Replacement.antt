-- Replacement term by term.
use Rattle.std.proofs.Common.{◌≡◌, ℕ, ◌+◌, ◌<◌, ◌⊎◌, inl, inr, List, [], ◌∷◌, ◌++◌, length, get_or, slice_get, take, Option, Some, None, refl, ap, subst, sym, ◌∙◌, arith, length-append, append_assoc, Result, Ok, Err, IfOk}
use Rattle.std.specs.Prelude.{IfSome, option_map, unwrap_or}
use Rattle.std.specs.List.{AllByRecursion, AllZip}
use Rattle.std.proofs.lemmas.List.{take_more}
use Rattle.std.proofs.lemmas.List.Elements.{recursion_from_All, All-from_recursion}
use Rattle.qv_words.specs.declared.sort.Sort.{Sort}
use Rattle.qv_words.specs.Tree.{Tree, Trees, Constant, Variable, Literal, Apply, ForAll, Exists, Nil, Cons, AreQuantifierFree, tree_sort}
use Rattle.qv_words.specs.Sorted.{IsSorted, free_levels, free_levels_of_all}
use Rattle.qv_words.specs.Replacement.{replaced, replaced_each, AreSortedPut}
use Rattle.qv_words.proofs.Leaves.{front, back}
use Rattle.qv_words.proofs.Elements.{all-at, pushed-cases, zip-append, all-of}
use Rattle.qv_words.proofs.Replaced.{replacement-keeps_sorted}
use Rattle.qv_store.specs.declared.node.Node.{Node}
use Rattle.qv_store.specs.declared.node.Node.TheVariants.{Const, Var, Lit, App, Ex}
use Rattle.qv_store.specs.declared.node.Node.TheVariants.{All as AllNode}
use Rattle.qv_store.specs.Nodes.{tree_at, trees_at, children, node_tree, HasChildrenBelow}
use Rattle.qv_store.specs.Stores.{StandsAt, Grows, AreShared, children_of}
use Rattle.qv_store.specs.Walks.{IsWalk, IsFound, named, with_subtrees}
use Rattle.qv_store.specs.Replacing.{put_by_level, term_of_level, put_for, first_of, top_over, AreTermsOf, IsRenewed, AreMade, IsReplaceable, IsNextPut}
use Rattle.qv_store.proofs.Standing.{tree_at-before}
use Rattle.qv_store.proofs.Sharing.{stands-before}
use Rattle.qv_store.proofs.Passes.{EachTree, each-of-walk}
use Rattle.qv_store.proofs.Evaluation.{item-at}

-- one more child
pub found-push : (ids made kids new : List ℕ) (i kid n : ℕ) → AllZip (IsFound ids made) (take i kids) new → i < length kids → kid ≡ get_or kids i kid → IsFound ids made kid n → AllZip (IsFound ids made) (take (i + 1) kids) (new ++ n ∷ [])
found-push ids made kids new i kid n so h at own =
    let next : take (i + 1) kids ≡ take i kids ++ kid ∷ [] = take_more kids i kid h ∙ ap (λ k. take i kids ++ k ∷ []) (sym at) in
    subst (λ ks. AllZip (IsFound ids made) ks (new ++ n ∷ [])) (sym next) (zip-append (IsFound ids made) (take i kids) (kid ∷ []) new (n ∷ []) so (own, tt))

-- the tree of a node, by its top
pub top-of : (trees : List Tree) (node : Node) → node_tree trees node ≡ top_over node (trees_at trees (children node))
top-of trees (Const i s) = refl
top-of trees (Var l s) = refl
top-of trees (Lit w) = refl
top-of trees (App o kids) = refl
top-of trees (AllNode l s body) = refl
top-of trees (Ex l s body) = refl

-- where nothing is put in for a node itself, its top stays
put_none : (trees : List Tree) (terms : List (Option ℕ)) (l : ℕ) → term_of_level terms l ≡ None → put_by_level trees terms l ≡ None
put_none trees terms l e = ap (option_map (tree_at trees)) e

top-replaced : (trees : List Tree) (terms : List (Option ℕ)) (node : Node) → put_for terms node ≡ None → (kids : List ℕ)
    → trees_at trees kids ≡ replaced_each (put_by_level trees terms) (trees_at trees (children node)) → top_over node (trees_at trees kids) ≡ replaced (put_by_level trees terms) (node_tree trees node)
top-replaced trees terms (Const i s) none kids e = refl
top-replaced trees terms (Var l s) none kids e = sym (ap (λ o. unwrap_or o (Variable l s)) (put_none trees terms l none))
top-replaced trees terms (Lit w) none kids e = refl
top-replaced trees terms (App o ks) none kids e = ap (Apply o) e
top-replaced trees terms (AllNode l s body) none kids e = ap (λ ts. ForAll l s (first_of ts)) e
top-replaced trees terms (Ex l s body) none kids e = ap (λ ts. Exists l s (first_of ts)) e

-- what was made of children
made-kids : (trees : List Tree) (put : ℕ → Option Tree) (ids made kids new : List ℕ) → AreMade trees put (tree_at trees) ids made → AllZip (IsFound ids made) kids new
    → trees_at trees new ≡ replaced_each put (trees_at trees kids)
made-kids trees put ids made [] [] right h = refl
made-kids trees put ids made [] (n ∷ ns) right h = absurd h
made-kids trees put ids made (k ∷ ks) [] right h = absurd h
made-kids trees put ids made (k ∷ ks) (n ∷ ns) right h =
    let first : tree_at trees n ≡ replaced put (tree_at trees k) = (right h.0.place k n h.0.at h.0.found).tree in
    let rest = made-kids trees put ids made ks ns right h.1 in
    cc

made-below : (trees : List Tree) (put : ℕ → Option Tree) (ids made kids new : List ℕ) → AreMade trees put (tree_at trees) ids made → AllZip (IsFound ids made) kids new → AllByRecursion (λ n. n < length trees) new
made-below trees put ids made [] [] right h = tt
made-below trees put ids made [] (n ∷ ns) right h = absurd h
made-below trees put ids made (k ∷ ks) [] right h = tt
made-below trees put ids made (k ∷ ks) (n ∷ ns) right h = ((right h.0.place k n h.0.at h.0.found).below, made-below trees put ids made ks ns right h.1)

-- terms of a store are sorted
put_sorted : (trees : List Tree) (terms : List (Option ℕ)) → AreShared trees → AreTermsOf trees terms → (t : Tree) → AreSortedPut (put_by_level trees terms) t
put_sorted trees terms shared there t =
    All-from_recursion (λ leaf. IfSome (put_by_level trees terms leaf.0) IsSorted) (free_levels t)
    (all-of (λ leaf. IfSome (put_by_level trees terms leaf.0) IsSorted) (free_levels t) (λ leaf. by (term_of_level terms leaf.0) (λ n e. there leaf.0 n e)))
  where
    by : (o : Option ℕ) → ((n : ℕ) → o ≡ Some n → n < length trees) → IfSome (option_map (tree_at trees) o) IsSorted
    by None h = tt
    by (Some n) h = shared.sorted n (h n refl)

-- the node that is put
pub record IsRightNode (trees : List Tree) (terms : List (Option ℕ)) (n : ℕ) (new : Node) : Type 0 where
  pub children : HasChildrenBelow (length trees) new
  pub tree : node_tree trees new ≡ replaced (put_by_level trees terms) (tree_at trees n)
  pub sorted : IsSorted (node_tree trees new)

pub right-node : (trees : List Tree) (ids made : List ℕ) (terms : List (Option ℕ)) (n : ℕ) (node new : Node) → AreShared trees → n < length trees → IsNextPut trees ids made terms n
    → node_tree trees node ≡ tree_at trees n → put_for terms node ≡ None → IsRenewed ids made node new → IsRightNode trees terms n new
right-node trees ids made terms n node new shared low next tree none renewed =
    let put = put_by_level trees terms in
    let kids = made-kids trees put ids made (Rattle.qv_store.specs.Nodes.children node) (Rattle.qv_store.specs.Nodes.children new) next.made_before renewed.found in
    let below = made-below trees put ids made (Rattle.qv_store.specs.Nodes.children node) (Rattle.qv_store.specs.Nodes.children new) next.made_before renewed.found in
    let same : node_tree trees new ≡ replaced put (tree_at trees n) =
    renewed.tree trees ∙ top-replaced trees terms node none (Rattle.qv_store.specs.Nodes.children new) kids ∙ ap (replaced put) tree in
    record {
      children = All-from_recursion (λ k. k < length trees) (Rattle.qv_store.specs.Nodes.children new) below;
      tree = same;
      sorted = subst IsSorted (sym same)
          (replacement-keeps_sorted (tree_at trees n) put next.replaceable.quantifier_free next.replaceable.sorts (shared.sorted n low) (put_sorted trees terms shared next.terms_there (tree_at trees n)));
    }

-- a variable for which a term is put in
pub right-term : (trees : List Tree) (terms : List (Option ℕ)) (n m : ℕ) (node : Node) → AreTermsOf trees terms → node_tree trees node ≡ tree_at trees n → put_for terms node ≡ Some m → StandsAt trees m (replaced (put_by_level trees terms) (tree_at trees n))
right-term trees terms n m (Const i s) there tree e = absurd (cc)
right-term trees terms n m (Var l s) there tree e =
    let own : replaced (put_by_level trees terms) (Variable l s) ≡ tree_at trees m = ap (λ o. unwrap_or (option_map (tree_at trees) o) (Variable l s)) e in
    record { below = there l m e; tree = sym own ∙ ap (replaced (put_by_level trees terms)) tree }
right-term trees terms n m (Lit w) there tree e = absurd (cc)
right-term trees terms n m (App o ks) there tree e = absurd (cc)
right-term trees terms n m (AllNode l s body) there tree e = absurd (cc)
right-term trees terms n m (Ex l s body) there tree e = absurd (cc)

-- children inherit that terms may be put in
abbrev HasItsSort : (ℕ → Option Tree) → ℕ × Sort → Type 0
HasItsSort put leaf = IfSome (put leaf.0) (λ t. tree_sort t ≡ Some leaf.1)

inherit-each : (put : ℕ → Option Tree) (ts : Trees) → AreQuantifierFree ts → AllByRecursion (HasItsSort put) (free_levels_of_all ts) → EachTree (IsReplaceable put) ts
inherit-each put Nil free l = tt
inherit-each put (Cons t ts) free l = (
  record { quantifier_free = free.0; sorts = All-from_recursion (HasItsSort put) (free_levels t) (front (HasItsSort put) (free_levels t) (free_levels_of_all ts) l) },
  inherit-each put ts free.1 (back (HasItsSort put) (free_levels t) (free_levels_of_all ts) l),
)

pub inherit-replaceable : (put : ℕ → Option Tree) (t : Tree) → IsReplaceable put t → EachTree (IsReplaceable put) (children_of t)
inherit-replaceable put (Constant i s) h = tt
inherit-replaceable put (Variable l s) h = tt
inherit-replaceable put (Literal s n) h = tt
inherit-replaceable put (Apply o args) h = inherit-each put args h.quantifier_free (recursion_from_All _ (free_levels_of_all args) h.sorts)
inherit-replaceable put (ForAll l s body) h = absurd h.quantifier_free
inherit-replaceable put (Exists l s body) h = absurd h.quantifier_free

-- what holds of a store holds of a greater one
module _ (old new : List Tree) (grows : Grows old new) where
  pub grown-tree : (n : ℕ) → n < length old → tree_at new n ≡ tree_at old n
  grown-tree n h = ap (λ ts. tree_at ts n) grows.behind ∙ tree_at-before old grows.more n h

  pub grown-within : (n : ℕ) → n < length old → n < length new
  grown-within n h = omega (arith, h, ap length grows.behind, length-append old grows.more)

  grown-named : (ids : List ℕ) → AllByRecursion (λ n. n < length old) ids → named new ids ≡ named old ids
  grown-named [] h = refl
  grown-named (n ∷ ns) h =
      let first : tree_at new n ≡ tree_at old n = grown-tree n h.0 in
      let rest : named new ns ≡ named old ns = grown-named ns h.1 in
      cc

  pub grown-walk : (ids : List ℕ) → IsWalk old ids → IsWalk new ids
  grown-walk ids walk = record {
    within = λ k d h. grown-within _ (walk.within k d h);
    shared = subst AreShared (sym (grown-named ids (recursion_from_All _ ids walk.within))) walk.shared;
  }

  pub grown-put : (terms : List (Option ℕ)) → AreTermsOf old terms → put_by_level new terms ≡ put_by_level old terms
  grown-put terms there = λ i l. at l i
    where
      by : (o : Option ℕ) → ((n : ℕ) → o ≡ Some n → n < length old) → option_map (tree_at new) o ≡ option_map (tree_at old) o
      by None h = refl
      by (Some n) h = ap Some (grown-tree n (h n refl))

      at : (l : ℕ) → put_by_level new terms l ≡ put_by_level old terms l
      at l = by (term_of_level terms l) (λ n e. there l n e)

  pub grown-stands : (n : ℕ) (t : Tree) → StandsAt old n t → StandsAt new n t
  grown-stands n t at = subst (λ ts. StandsAt ts n t) (sym grows.behind) (stands-before old grows.more n t at)

  -- the next term in the greater store
  pub grown-next : (ids made : List ℕ) (terms : List (Option ℕ)) (n : ℕ) → IsWalk old ids → AreTermsOf old terms → slice_get ids (length made) ≡ Some n
      → AreMade new (put_by_level old terms) (tree_at old) ids made → IsReplaceable (put_by_level old terms) (tree_at old n) → IsNextPut new ids made terms n
  grown-next ids made terms n walk there at right ready =
      let put = grown-put terms there in
      let low = walk-low ids walk (length made) n at in
      record {
        walk = grown-walk ids walk;
        at = at;
        made_before = λ k m p e f.
            let within = walk-low ids walk k m e in
            subst (λ t. StandsAt new p t) (ap (λ q. replaced q (tree_at old m)) (sym put) ∙ ap (replaced (put_by_level new terms)) (sym (grown-tree m within))) (right k m p e f);
        terms_there = λ l m e. grown-within m (there l m e);
        replaceable = subst (IsReplaceable (put_by_level new terms)) (sym (grown-tree n low)) (subst (λ q. IsReplaceable q (tree_at old n)) (sym put) ready);
      }
    where
      walk-low : (ids : List ℕ) → IsWalk old ids → (k m : ℕ) → slice_get ids k ≡ Some m → m < length old
      walk-low ids walk k m e = all-at (λ j. j < length old) ids k m (recursion_from_All _ ids walk.within) e

  pub grown-result : (terms : List (Option ℕ)) (n : ℕ) → AreTermsOf old terms → n < length old → replaced (put_by_level new terms) (tree_at new n) ≡ replaced (put_by_level old terms) (tree_at old n)
  grown-result terms n there low = ap (λ q. replaced q (tree_at new n)) (grown-put terms there) ∙ ap (replaced (put_by_level old terms)) (grown-tree n low)

-- one more term
pub made-push : (old new : List Tree) (put : ℕ → Option Tree) (tree : ℕ → Tree) (ids made : List ℕ) (n m : ℕ) → Grows old new → AreMade old put tree ids made → slice_get ids (length made) ≡ Some n
    → StandsAt new m (replaced put (tree n)) → AreMade new put tree ids (made ++ m ∷ [])
made-push old new put tree ids made n m grows right at own k j p here there = by (pushed-cases made m k p there)
  where
    by : (slice_get made k ≡ Some p) ⊎ ((k ≡ length made) × (m ≡ p)) → StandsAt new p (replaced put (tree j))
    by (inl e) = grown-stands old new grows p (replaced put (tree j)) (right k j p here e)
    by (inr e) =
        let same : Some n ≡ Some j = sym at ∙ sym (ap (slice_get ids) e.0) ∙ here in
        let one : n ≡ j = cc in
        subst (λ q. StandsAt new q (replaced put (tree j))) e.1 (subst (λ i. StandsAt new m (replaced put (tree i))) one own)

pub made-none : (trees : List Tree) (put : ℕ → Option Tree) (tree : ℕ → Tree) (ids made : List ℕ) → made ≡ [] → AreMade trees put tree ids made
made-none trees put tree ids made none k n m at here = let gone : slice_get [] k ≡ Some m = sym (ap (λ ms. slice_get ms k) none) ∙ here in absurd (cc)

pub grows-more : (a b c : List Tree) → Grows a b → Grows b c → Grows a c
grows-more a b c f s = record { more = f.more ++ s.more; behind = s.behind ∙ ap (λ ts. ts ++ s.more) f.behind ∙ append_assoc a f.more s.more }

-- nothing is there where no value is
pub none-there : {A : Type 0} (o : Option A) → ((x : A) → o ≡ Some x → ⊥) → o ≡ None
none-there None h = refl
none-there (Some x) h = absurd (h x refl)

-- what follows of a value that is there
pub if-ok : {A E : Type 0} (r : Result A E) {P Q : A → Type 0} → ((x : A) → P x → Q x) → IfOk r P → IfOk r Q
if-ok (Ok x) go h = go x h
if-ok (Err e) go h = h

-- a term of a walk is one of the store
pub walk-low : (trees : List Tree) (ids : List ℕ) → IsWalk trees ids → (k n : ℕ) → slice_get ids k ≡ Some n → n < length trees
walk-low trees ids walk k n e = all-at (λ j. j < length trees) ids k n (recursion_from_All _ ids walk.within) e

-- the loop over the terms of a walk: what its next step asks, in the store as it is by then
module _ (old new : List Tree) (walk items made : List ℕ) (terms : List (Option ℕ)) (i n : ℕ) (grows : Grows old new) (same : items ≡ walk) (many : length made ≡ i) (h : i < length items)
    (is : n ≡ get_or items i n) (walks : IsWalk old walk) (there : AreTermsOf old terms) (right : AreMade new (put_by_level old terms) (tree_at old) items made) where
  at-next : (lent : List ℕ) → lent ≡ made → slice_get walk (length lent) ≡ Some n
  at-next lent read = item-at items walk lent made i n same read many h is

  low-next : n < length old
  low-next = walk-low old walk walks (length made) n (at-next made refl)

  pub within-next : n < length new
  within-next = grown-within old new grows n low-next

  pub asked-next : (lent : List ℕ) → lent ≡ made → (root : ℕ) → named old walk ≡ with_subtrees [] (tree_at old root) → IsReplaceable (put_by_level old terms) (tree_at old root) → IsNextPut new walk lent terms n
  asked-next lent read root order ready =
      let put = put_by_level old terms in
      let all = each-of-walk (IsReplaceable put) (inherit-replaceable put) old walk root order ready in
      let own : AreMade new put (tree_at old) walk lent = subst (λ ms. AreMade new put (tree_at old) walk ms) (sym read) (subst (λ is. AreMade new put (tree_at old) is made) same right) in
      grown-next old new grows walk lent terms n walks there (at-next lent read) own (all (length lent) n (at-next lent read))

  pub made-next : (newer : List Tree) (m : ℕ) (after : List ℕ) → Grows new newer → StandsAt newer m (replaced (put_by_level new terms) (tree_at new n)) → after ≡ made ++ m ∷ []
      → AreMade newer (put_by_level old terms) (tree_at old) items after
  made-next newer m after grows' at pushed =
      let put = put_by_level old terms in
      let here : slice_get items (length made) ≡ Some n = ap (λ is. slice_get is (length made)) same ∙ at-next made refl in
      let own = subst (StandsAt newer m) (grown-result old new grows terms n there low-next) at in
      subst (λ ms. AreMade newer put (tree_at old) items ms) (sym pushed) (made-push new newer put (tree_at old) items made n m grows' right here own)
