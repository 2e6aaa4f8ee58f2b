-- Chains that are put into a store, one application after the other.
use Rattle.std.proofs.Common.{◌≡◌, ◌≤◌, ◌<◌, ◌+◌, ◌-◌, ℕ, zero, suc, Option, Some, None, List, [], ◌∷◌, length, drop, get_or, refl, sym, ap, subst, ◌∙◌, Ok, Err, arith}
use Rattle.std.specs.Prelude.{Result, IsOk, IsOkAnd, All}
use Rattle.std.specs.List.{AllByRecursion}
use Rattle.std.proofs.lemmas.List.{drop_more, drop_all, append-nil}
use Rattle.std.proofs.lemmas.List.Elements.{All-from_recursion}
use Rattle.qv_words.specs.declared.op.Op.{Op}
use Rattle.qv_words.specs.Tree.{Tree, Apply}
use Rattle.qv_store.specs.Nodes.{tree_at}
use Rattle.qv_store.specs.Walks.{named}
use Rattle.qv_store.specs.Stores.{StandsAt, Grows}
use Rattle.qv_store.proofs.Replacement.{grown-tree, grown-within, grows-more}
use Rattle.qv_sorts.specs.declared.ranking.RankFault.{RankFault}
use Rattle.qv_sorts.specs.Faults.{fault_of}
use Rattle.qv_elab_defs.specs.declared.faults.ElabKind.{ElabKind}
use Rattle.qv_elab_apply.specs.declared.outlines.Outline.{Outline}
use Rattle.qv_elab_defs.specs.Faults.{◌>>=◌}
use Rattle.qv_elab_defs.specs.Applying.{sort_of, in_trees, unless_fault, applied, to_the_left, to_the_right}
use Rattle.qv_elab_apply.specs.Outlines.{joined, all_joined_right}
use Rattle.qv_elab_apply.specs.Chained.{all_to_the_right}
use Rattle.qv_elab_defs.proofs.NamedTrees.{named-drop, below-at}

-- a step of a chain that has its ranks
module _ (o : Op) (t u : Tree) where
  step-ranked : {B : Type 0} (next : Tree → Result B ElabKind) → IsOk (applied o (t ∷ u ∷ []) >>= next) → fault_of o (sort_of t ∷ sort_of u ∷ []) ≡ None
  step-ranked next h = go (fault_of o (sort_of t ∷ sort_of u ∷ [])) h
    where
      go : (f : Option RankFault) → IsOk (unless_fault f (Apply o (in_trees (t ∷ u ∷ []))) >>= next) → f ≡ None
      go None k = refl
      go (Some f) k = absurd (cc)

  step-made : fault_of o (sort_of t ∷ sort_of u ∷ []) ≡ None → applied o (t ∷ u ∷ []) ≡ Ok (Apply o (in_trees (t ∷ u ∷ [])))
  step-made e = ap (λ f. unless_fault f (Apply o (in_trees (t ∷ u ∷ [])))) e

along-ok : {A F : Type 0} (x y : Result A F) → x ≡ y → IsOk x → IsOk y
along-ok x y e h = subst (λ (r : Result _ _). IsOk r) e h

-- the loop to the left
pub record IsLeftOf (old now : List Tree) (o : Op) (first : ℕ) (others : List ℕ) (i chain : ℕ) : Type 0 where
  pub grows : Grows old now
  pub below : chain < length now
  pub left : to_the_left o (tree_at old first) (named old others) ≡ to_the_left o (tree_at now chain) (named old (drop i others))

module _ (old now : List Tree) (o : Op) (first : ℕ) (others : List ℕ) (i chain u : ℕ) (at : IsLeftOf old now o first others i chain)
    (within : All (λ n. n < length old) others) (lt : i < length others) (is : u ≡ get_or others i u) where
  other-low : u < length old
  other-low = below-at (length old) others i u within lt is

  other-kept : tree_at now u ≡ tree_at old u
  other-kept = grown-tree old now at.grows u other-low

  left-next : to_the_left o (tree_at now chain) (named old (drop i others)) ≡ (applied o (tree_at now chain ∷ tree_at now u ∷ []) >>= λ tu. to_the_left o tu (named old (drop (i + 1) others)))
  left-next =
      ap (to_the_left o (tree_at now chain)) (named-drop old others i u lt is)
      ∙ ap (λ v. applied o (tree_at now chain ∷ v ∷ []) >>= λ tu. to_the_left o tu (named old (drop (i + 1) others))) (sym other-kept)

  pub left-kids : All (λ n. n < length now) (chain ∷ u ∷ [])
  left-kids = All-from_recursion (λ n. n < length now) (chain ∷ u ∷ []) (at.below, (grown-within old now at.grows u other-low, tt))

  pub left-rank : IsOk (to_the_left o (tree_at old first) (named old others)) → fault_of o (sort_of (tree_at now chain) ∷ sort_of (tree_at now u) ∷ []) ≡ None
  left-rank ok = step-ranked o (tree_at now chain) (tree_at now u) (λ tu. to_the_left o tu (named old (drop (i + 1) others))) (along-ok _ _ (at.left ∙ left-next) ok)

  pub left-more : (newer : List Tree) (made : ℕ) → IsOk (to_the_left o (tree_at old first) (named old others)) → Grows now newer
      → StandsAt newer made (Apply o (in_trees (tree_at now chain ∷ tree_at now u ∷ []))) → IsLeftOf old newer o first others (i + 1) made
  left-more newer made ok grows stands = record {
    grows = grows-more old now newer at.grows grows;
    below = stands.below;
    left = at.left ∙ left-next ∙ ap (λ r. r >>= λ tu. to_the_left o tu (named old (drop (i + 1) others))) (step-made o (tree_at now chain) (tree_at now u) (left-rank ok))
        ∙ ap (λ tu. to_the_left o tu (named old (drop (i + 1) others))) (sym stands.tree);
  }

pub left-end : (old now : List Tree) (o : Op) (first : ℕ) (others : List ℕ) (i chain : ℕ) → IsLeftOf old now o first others i chain → length others ≤ i
    → IsOkAnd (to_the_left o (tree_at old first) (named old others)) (StandsAt now chain)
left-end old now o first others i chain at le =
    let end : to_the_left o (tree_at old first) (named old others) ≡ Ok (tree_at now chain) = at.left ∙ ap (λ ns. to_the_left o (tree_at now chain) (named old ns)) (drop_all i others le) in
    subst (λ (r : Result Tree ElabKind). IsOkAnd r (StandsAt now chain)) (sym end) (record { below = at.below; tree = refl })

-- the loop to the right
pub record IsRightOf (old now : List Tree) (o : Op) (ns : List ℕ) (i chain : ℕ) : Type 0 where
  pub grows : Grows old now
  pub below : chain < length now
  pub within : i < length ns
  pub right : all_to_the_right o (named old (drop i ns)) ≡ Ok (tree_at now chain)

-- a chain to the right has the ranks of each chain in it
ok-first : {A B F : Type 0} (r : Result A F) (next : A → Result B F) → IsOk (r >>= next) → IsOk r
ok-first (Ok v) next h = refl
ok-first (Err e) next h = absurd (cc)

right-part : (trees : List Tree) (o : Op) (ns : List ℕ) (i : ℕ) → i < length ns → IsOk (all_to_the_right o (named trees ns)) → IsOk (all_to_the_right o (named trees (drop i ns)))
right-part trees o [] i lt h = absurd (omega (arith, lt))
right-part trees o (n ∷ ns) zero lt h = h
right-part trees o (n ∷ []) (suc i) lt h = absurd (omega (arith, lt))
right-part trees o (n ∷ m ∷ ms) (suc i) lt h =
    right-part trees o (m ∷ ms) i (omega (arith, lt)) (ok-first (to_the_right o (tree_at trees m) (named trees ms)) (λ uv. applied o (tree_at trees n ∷ uv ∷ [])) h)

module _ (old now : List Tree) (o : Op) (ns : List ℕ) (i j chain n : ℕ) (at : IsRightOf old now o ns i chain) (within : All (λ k. k < length old) ns) (before : j + 1 ≡ i) (is : n ≡ get_or ns j n) where
  first-low : n < length old
  first-low = below-at (length old) ns j n within (omega (arith, before, at.within)) is

  first-kept : tree_at now n ≡ tree_at old n
  first-kept = grown-tree old now at.grows n first-low

  right-next : all_to_the_right o (named old (drop j ns)) ≡ applied o (tree_at now n ∷ tree_at now chain ∷ [])
  right-next =
      let here : named old (drop j ns) ≡ tree_at old n ∷ named old (drop i ns) = named-drop old ns j n (omega (arith, before, at.within)) is ∙ ap (λ k. tree_at old n ∷ named old (drop k ns)) before in
      let more : drop i ns ≡ get_or ns i 0 ∷ drop (i + 1) ns = drop_more ns i 0 at.within in
      let m = get_or ns i 0 in
      let ms = drop (i + 1) ns in
      let inner : to_the_right o (tree_at old m) (named old ms) ≡ Ok (tree_at now chain) = ap (λ ks. all_to_the_right o (named old ks)) (sym more) ∙ at.right in
      ap (all_to_the_right o) here
      ∙ ap (λ ks. all_to_the_right o (tree_at old n ∷ named old ks)) more
      ∙ ap (λ r. r >>= λ uv. applied o (tree_at old n ∷ uv ∷ [])) inner
      ∙ ap (λ t. applied o (t ∷ tree_at now chain ∷ [])) (sym first-kept)

  pub right-kids : All (λ k. k < length now) (n ∷ chain ∷ [])
  right-kids = All-from_recursion (λ k. k < length now) (n ∷ chain ∷ []) (grown-within old now at.grows n first-low, (at.below, tt))

  pub right-rank : IsOk (all_to_the_right o (named old ns)) → fault_of o (sort_of (tree_at now n) ∷ sort_of (tree_at now chain) ∷ []) ≡ None
  right-rank ok =
      let part = right-part old o ns j (omega (arith, before, at.within)) ok in
      step-ranked o (tree_at now n) (tree_at now chain) (λ t. Ok t) (again (applied o (tree_at now n ∷ tree_at now chain ∷ [])) (along-ok _ _ right-next part))
    where
      again : (r : Result Tree ElabKind) → IsOk r → IsOk (r >>= λ t. Ok t)
      again (Ok t) h = refl
      again (Err e) h = absurd (cc)

  pub right-more : (newer : List Tree) (made : ℕ) → IsOk (all_to_the_right o (named old ns)) → Grows now newer
      → StandsAt newer made (Apply o (in_trees (tree_at now n ∷ tree_at now chain ∷ []))) → IsRightOf old newer o ns j made
  right-more newer made ok grows stands = record {
    grows = grows-more old now newer at.grows grows;
    below = stands.below;
    within = omega (arith, before, at.within);
    right = right-next ∙ step-made o (tree_at now n) (tree_at now chain) (right-rank ok) ∙ ap Ok (sym stands.tree);
  }

pub right-begin : (old : List Tree) (o : Op) (ns : List ℕ) (i n : ℕ) → All (λ k. k < length old) ns → suc i ≡ length ns → n ≡ get_or ns i n → IsRightOf old old o ns i n
right-begin old o ns i n within last is =
    let lt : i < length ns = omega (arith, last) in
    let all : length ns ≤ i + 1 = omega (arith, last) in
    let end : drop (i + 1) ns ≡ [] = drop_all (i + 1) ns all in
    record {
      grows = record { more = []; behind = sym (append-nil old) };
      below = below-at (length old) ns i n within lt is;
      within = lt;
      right = ap (all_to_the_right o) (named-drop old ns i n lt is) ∙ ap (λ ks. all_to_the_right o (tree_at old n ∷ named old ks)) end;
    }

pub right-end : (old now : List Tree) (o : Op) (ns : List ℕ) (i chain : ℕ) → IsRightOf old now o ns i chain → i ≡ 0 → IsOkAnd (all_to_the_right o (named old ns)) (StandsAt now chain)
right-end old now o ns i chain at zero-left =
    let end : all_to_the_right o (named old ns) ≡ Ok (tree_at now chain) = ap (λ k. all_to_the_right o (named old (drop k ns))) (sym zero-left) ∙ at.right in
    subst (λ (r : Result Tree ElabKind). IsOkAnd r (StandsAt now chain)) (sym end) (record { below = at.below; tree = refl })

pub left-begin : (old : List Tree) (o : Op) (first : ℕ) (others : List ℕ) → first < length old → IsLeftOf old old o first others 0 first
left-begin old o first others low = record { grows = record { more = []; behind = sym (append-nil old) }; below = low; left = refl }

-- the same of outlines
pub outline-right : (o : Op) (chain d : Outline) (all : List Outline) (i j : ℕ) → all_joined_right o (drop i all) ≡ Ok chain → i < length all → j + 1 ≡ i → all_joined_right o (drop j all) ≡ joined o (get_or all j d) chain
outline-right o chain d all i j at lt before =
    let here : drop j all ≡ get_or all j d ∷ drop i all = drop_more all j d (omega (arith, before, lt)) ∙ ap (λ k. get_or all j d ∷ drop k all) before in
    ap (all_joined_right o) here ∙ go (get_or all j d) (drop i all) at (ap length (drop_more all i d lt))
  where
    go : (a : Outline) (bs : List Outline) → all_joined_right o bs ≡ Ok chain → length bs ≡ suc (length (drop (i + 1) all)) → all_joined_right o (a ∷ bs) ≡ joined o a chain
    go a [] e long = absurd (omega (arith, long))
    go a (b ∷ bs) e long = ap (λ r. r >>= λ bc. joined o a bc) e

pub outline-begin : (o : Op) (d : Outline) (all : List Outline) → 0 < length all → all_joined_right o (drop (length all - 1) all) ≡ Ok (get_or all (length all - 1) d)
outline-begin o d all lt =
    let within : length all - 1 < length all = omega (arith, lt) in
    let last : length all ≤ length all - 1 + 1 = omega (arith, lt) in
    ap (all_joined_right o) (drop_more all (length all - 1) d within) ∙ ap (λ bs. all_joined_right o (get_or all (length all - 1) d ∷ bs)) (drop_all (length all - 1 + 1) all last)

-- a fault in a chain to the right is the chain's
pub outline-fault : (o : Op) (all : List Outline) (i : ℕ) (kind : ElabKind) → i < length all → all_joined_right o (drop i all) ≡ Err kind → all_joined_right o all ≡ Err kind
outline-fault o [] i kind lt e = absurd (omega (arith, lt))
outline-fault o (a ∷ bs) zero kind lt e = e
outline-fault o (a ∷ []) (suc i) kind lt e = absurd (omega (arith, lt))
outline-fault o (a ∷ b ∷ bs) (suc i) kind lt e = ap (λ r. r >>= λ bc. joined o a bc) (outline-fault o (b ∷ bs) i kind (omega (arith, lt)) e)
