-- One side of a choice in its place: the change is `put_for`, and what is sorted stays sorted.
use Rattle.std.proofs.Common.{◌≡◌, ℕ, ◌⊎◌, inl, inr, Bool as Truth, true, false, ◌||◌, if◌then◌else◌, Option, Some, None, refl, sym, ap, ◌∙◌, subst}
use Rattle.std.specs.Prelude.{unwrap_or, option_and_then, IsSome}
use Rattle.qv_words.specs.declared.sort.Sort.{Sort}
use Rattle.qv_words.specs.declared.sort.Sort.TheVariants.{Bool}
use Rattle.qv_words.specs.declared.op.Op.{Op}
use Rattle.qv_words.specs.declared.op.Op.TheVariants.{Ite}
use Rattle.qv_words.specs.Rank.{result_sort}
use Rattle.qv_words.specs.Equality.{tree_eq}
use Rattle.qv_words.specs.Tree.{Tree, Trees, Constant, Variable, Literal, Apply, ForAll, Exists, Nil, Cons, tree_sort, tree_sorts}
use Rattle.qv_words.specs.Sorted.{IsSortedBelow, AreSortedBelow}
use Rattle.qv_words.specs.Prenex.{Choice, is_quantified, is_some_quantified, own_choice, first_choice, first_choice_of, ite, put_for, put_for_each}
use Rattle.qv_words.proofs.Equals.{tree_eq-is}
use Rattle.qv_words.proofs.Ranks.{found, rank_parts}
use Rattle.qv_words.proofs.InSort.{choice-parts}
use Rattle.qv_prenex_laws.proofs.Fuel.{target_of, own-is, of-two}
use Rattle.qv_prenex_laws.proofs.Splits.{put-sort}
use Rattle.qv_prenex_laws.proofs.Found.{three-sorts}
use Rattle.qv_prenex_splits.specs.Rebuilt.{rebuilt, rebuilt_each}
use Rattle.qv_prenex_splits.specs.Rebuilding.{term_top}
use Rattle.std.proofs.lemmas.Bool.{or_parts}

-- a tree without quantifiers isn't a quantified one
other-tree : (t target : Tree) (b : Truth) → tree_eq t target ≡ b → is_quantified t ≡ false → is_quantified target ≡ true → b ≡ false
other-tree t target false e p q = refl
other-tree t target true e p q = absurd (let same : t ≡ target = tree_eq-is t target e in let r : is_quantified t ≡ true = ap is_quantified same ∙ q in cc)

-- so it stays
mutual
  stays : (target put t : Tree) → is_quantified target ≡ true → is_quantified t ≡ false → put_for target put t ≡ t
  stays target put (Constant i s) q p = refl
  stays target put (Variable l s) q p = refl
  stays target put (Literal s n) q p = refl
  stays target put (Apply o args) q p = rw (other-tree (Apply o args) target (tree_eq (Apply o args) target) refl p q) (ap (Apply o) (stay target put args q p))
  stays target put (ForAll l s body) q p = refl
  stays target put (Exists l s body) q p = refl

  stay : (target put : Tree) (ts : Trees) → is_quantified target ≡ true → is_some_quantified ts ≡ false → put_for_each target put ts ≡ ts
  stay target put Nil q p = refl
  stay target put (Cons t ts) q p =
      let k = or_parts (is_quantified t) (is_some_quantified ts) p in
      ap (λ u. Cons u (put_for_each target put ts)) (stays target put t q k.0) ∙ ap (Cons t) (stay target put ts q k.1)

-- the application at the top
at-top : (b q : Truth) (t put rest rebuilt_rest : Tree) → (b ≡ false → q ≡ false → rest ≡ t) → (b ≡ false → q ≡ true → rebuilt_rest ≡ rest) →
    unwrap_or (if b then Some put else (if q then None else Some t)) rebuilt_rest ≡ (if b then put else rest)
at-top true q t put rest more plain deep = refl
at-top false true t put rest more plain deep = deep refl refl
at-top false false t put rest more plain deep = sym (plain refl refl)

module _ (c a b : Tree) (put : Tree) (quantified : is_quantified c ≡ true) where
  whole-quantified : is_quantified (ite c a b) ≡ true
  whole-quantified = ap (λ q. q || (is_some_quantified (Cons a (Cons b Nil)))) quantified

  mutual
    pub rebuilt-put_for : (t : Tree) → rebuilt (term_top (ite c a b) put) t ≡ put_for (ite c a b) put t
    rebuilt-put_for (Constant i s) = refl
    rebuilt-put_for (Variable l s) = refl
    rebuilt-put_for (Literal s n) = refl
    rebuilt-put_for (Apply o args) =
        at-top (tree_eq (Apply o args) (ite c a b)) (is_some_quantified args) (Apply o args) put
        (Apply o (put_for_each (ite c a b) put args)) (Apply o (rebuilt_each (term_top (ite c a b) put) args))
        (λ e q. ap (Apply o) (stay (ite c a b) put args whole-quantified q)) (λ e q. ap (Apply o) (rebuilt-put_each args))
    rebuilt-put_for (ForAll l s body) = refl
    rebuilt-put_for (Exists l s body) = refl

    rebuilt-put_each : (ts : Trees) → rebuilt_each (term_top (ite c a b) put) ts ≡ put_for_each (ite c a b) put ts
    rebuilt-put_each Nil = refl
    rebuilt-put_each (Cons t ts) =
        ap (λ u. Cons u (rebuilt_each (term_top (ite c a b) put) ts)) (rebuilt-put_for t) ∙ ap (Cons (put_for (ite c a b) put t)) (rebuilt-put_each ts)

-- the sorts of arguments stay, too
put-sorts : (target put : Tree) (ts : Trees) → tree_sort put ≡ tree_sort target → tree_sorts (put_for_each target put ts) ≡ tree_sorts ts
put-sorts target put Nil h = refl
put-sorts target put (Cons t ts) h = rw (put-sort target put t h, put-sorts target put ts h) refl

put-sorted-here : (levels : ℕ → Option Sort) (target put : Tree) (o : Op) (args : Trees) (b : Truth) → tree_eq (Apply o args) target ≡ b → IsSortedBelow levels put →
    tree_sorts (put_for_each target put args) ≡ tree_sorts args → IsSome (tree_sort (Apply o args)) → AreSortedBelow levels (put_for_each target put args) → IsSortedBelow levels (put_for target put (Apply o args))
put-sorted-here levels target put o args true e f same ranked h = rw e f
put-sorted-here levels target put o args false e f same ranked h = rw e (h, rw (ap (option_and_then (result_sort o)) same) ranked)

mutual
  pub put-sorted : (levels : ℕ → Option Sort) (target put t : Tree) → tree_sort put ≡ tree_sort target → IsSortedBelow levels put → IsSortedBelow levels t → IsSortedBelow levels (put_for target put t)
  put-sorted levels target put (Constant i s) same f h = h
  put-sorted levels target put (Variable l s) same f h = h
  put-sorted levels target put (Literal s n) same f h = h
  put-sorted levels target put (Apply o args) same f h = put-sorted-here levels target put o args (tree_eq (Apply o args) target) refl f (put-sorts target put args same) h.1 (puts-sorted levels target put args same f h.0)
  put-sorted levels target put (ForAll l s body) same f h = h
  put-sorted levels target put (Exists l s body) same f h = h

  puts-sorted : (levels : ℕ → Option Sort) (target put : Tree) (ts : Trees) → tree_sort put ≡ tree_sort target → IsSortedBelow levels put → AreSortedBelow levels ts → AreSortedBelow levels (put_for_each target put ts)
  puts-sorted levels target put Nil same f h = h
  puts-sorted levels target put (Cons t ts) same f h = (put-sorted levels target put t same f h.0, puts-sorted levels target put ts same f h.1)

-- a choice that is found is sorted, as the tree is
choice-sorted-here : (levels : ℕ → Option Sort) (o : Op) (args : Trees) (d : Choice) → IsSortedBelow levels (Apply o args) → (first_choice_of args ≡ Some d → IsSortedBelow levels (target_of d)) →
    (own_choice o args ≡ Some d) ⊎ (first_choice_of args ≡ Some d) → IsSortedBelow levels (target_of d)
choice-sorted-here levels o args d h below (inl own) = subst (λ (t : Tree). IsSortedBelow levels t) (own-is o args d own) h
choice-sorted-here levels o args d h below (inr e) = below e

choice-sorted-or : (levels : ℕ → Option Sort) (t : Tree) (ts : Trees) (d : Choice) → (first_choice t ≡ Some d → IsSortedBelow levels (target_of d)) → (first_choice_of ts ≡ Some d → IsSortedBelow levels (target_of d)) →
    (first_choice t ≡ Some d) ⊎ (first_choice_of ts ≡ Some d) → IsSortedBelow levels (target_of d)
choice-sorted-or levels t ts d one rest (inl e) = one e
choice-sorted-or levels t ts d one rest (inr e) = rest e

mutual
  pub choice-sorted : (levels : ℕ → Option Sort) (t : Tree) (d : Choice) → IsSortedBelow levels t → first_choice t ≡ Some d → IsSortedBelow levels (target_of d)
  choice-sorted levels (Apply o args) d h e = choice-sorted-here levels o args d h (λ k. choices-sorted levels args d h.0 k) (of-two (own_choice o args) (first_choice_of args) d e)
  choice-sorted levels _ d h e = cc

  choices-sorted : (levels : ℕ → Option Sort) (ts : Trees) (d : Choice) → AreSortedBelow levels ts → first_choice_of ts ≡ Some d → IsSortedBelow levels (target_of d)
  choices-sorted levels Nil d h e = cc
  choices-sorted levels (Cons t ts) d h e = choice-sorted-or levels t ts d (λ k. choice-sorted levels t d h.0 k) (λ k. choices-sorted levels ts d h.1 k) (of-two (first_choice t) (first_choice_of ts) d e)

-- a sorted choice: the sorts of its condition and of its sides
pub record ChoiceSorts (c a b : Tree) : Type 0 where
  pub condition : tree_sort c ≡ Some Bool
  pub yes : tree_sort a ≡ tree_sort (ite c a b)
  pub no : tree_sort b ≡ tree_sort (ite c a b)

pub choice-sorts : (c a b : Tree) → IsSome (tree_sort (ite c a b)) → ChoiceSorts c a b
choice-sorts c a b some =
    let args = Cons c (Cons a (Cons b Nil)) in
    let rank = found (tree_sort (ite c a b)) some in
    let parts = rank_parts Ite args rank.0 rank.1 in
    let sorts = three-sorts c a b Bool rank.0 rank.0 parts.0 parts.1 (choice-parts parts.0 rank.0 parts.2) in
    record { condition = sorts.0; yes = sorts.1 ∙ sym rank.1; no = sorts.2 ∙ sym rank.1 }
