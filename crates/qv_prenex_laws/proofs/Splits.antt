-- Rule 7: a choice on bit-vectors whose condition is quantified is split.
use Rattle.std.proofs.Common.{◌≡◌, ℕ, ◌+◌, ◌⊎◌, inl, inr, Bool as Truth, true, false, Option, Some, None, List, [], ◌∷◌, refl, sym, ap, ◌∙◌, subst}
use Rattle.std.specs.Prelude.{option_map, option_and_then, IsSome}
use Rattle.std.specs.List.{AllByRecursion}
use Rattle.qv_words.specs.declared.sort.Sort.{Sort}
use Rattle.qv_words.specs.declared.sort.Sort.TheVariants.{Bool, Bits}
use Rattle.qv_words.specs.declared.op.Op.{Op}
use Rattle.qv_words.specs.declared.op.Op.TheVariants.{Not, And, Or, Xor, Implies, Equal, Ite, BvNot, BvNeg, BvAnd, BvOr, BvXor, BvNand, BvNor, BvXnor, BvAdd, BvSub, BvMul, BvUdiv, BvUrem, BvSdiv, BvSrem, BvSmod, BvShl, BvLshr, BvAshr, BvUlt, BvUle, BvUgt, BvUge, BvSlt, BvSle, BvSgt, BvSge, BvComp, Concat, Extract, Repeat, ZeroExtend, SignExtend, RotateLeft, RotateRight, BvNego, BvUaddo, BvSaddo, BvUmulo, BvSmulo, BvUsubo, BvSsubo, BvSdivo}
use Rattle.qv_words.specs.Rank.{one_width, two_widths, joined_width, bits_of, bits_between, bits_repeated, result_sort}
use Rattle.qv_words.specs.Tree.{Tree, Trees, Constant, Variable, Literal, Apply, ForAll, Exists, Nil, Cons, tree_sort, tree_sorts}
use Rattle.qv_words.specs.Sorted.{IsSortedBelow, AreSortedBelow, free_levels, free_levels_of_all, constants_of, constants_of_all}
use Rattle.qv_words.specs.Meaning.{Means, MeanAll}
use Rattle.qv_words.specs.Equality.{tree_eq}
use Rattle.qv_words.specs.Prenex.{Choice, own_choice, first_choice, first_choice_of, put_for, put_for_each}
use Rattle.qv_words.proofs.Equals.{tree_eq-is}
use Rattle.qv_words.proofs.Leaves.{front, back, both}
use Rattle.qv_words.proofs.Existing.{HasConstant}
use Rattle.qv_prenex_laws.proofs.Forms.{IsCovered}
use Rattle.qv_prenex_laws.proofs.Fuel.{target_of, own-is, of-two}

-- a sorted tree whose variables are bound outside, with W of each constant
pub record FitIn (W : ℕ × Sort → Type 0) (levels : ℕ → Option Sort) (t : Tree) : Type 0 where
  pub sorted : IsSortedBelow levels t
  pub covered : AllByRecursion (IsCovered levels) (free_levels t)
  pub constants : AllByRecursion W (constants_of t)

pub record FitAllIn (W : ℕ × Sort → Type 0) (levels : ℕ → Option Sort) (ts : Trees) : Type 0 where
  pub sorted : AreSortedBelow levels ts
  pub covered : AllByRecursion (IsCovered levels) (free_levels_of_all ts)
  pub constants : AllByRecursion W (constants_of_all ts)

-- one whose constants have values
abbrev pub Fit : List ℕ → (ℕ → Option Sort) → Tree → Type 0
Fit c = FitIn (HasConstant c)

abbrev pub FitAll : List ℕ → (ℕ → Option Sort) → Trees → Type 0
FitAll c = FitAllIn (HasConstant c)

pub fit-args : {W : ℕ × Sort → Type 0} {levels : ℕ → Option Sort} (o : Op) (args : Trees) → FitIn W levels (Apply o args) → FitAllIn W levels args
fit-args o args h = record { sorted = h.sorted.0; covered = h.covered; constants = h.constants }

pub fit-first : {W : ℕ × Sort → Type 0} {levels : ℕ → Option Sort} (t : Tree) (ts : Trees) → FitAllIn W levels (Cons t ts) → FitIn W levels t
fit-first {W} {levels} t ts h = record { sorted = h.sorted.0; covered = front (IsCovered levels) (free_levels t) (free_levels_of_all ts) h.covered; constants = front W (constants_of t) (constants_of_all ts) h.constants }

pub fit-rest : {W : ℕ × Sort → Type 0} {levels : ℕ → Option Sort} (t : Tree) (ts : Trees) → FitAllIn W levels (Cons t ts) → FitAllIn W levels ts
fit-rest {W} {levels} t ts h = record { sorted = h.sorted.1; covered = back (IsCovered levels) (free_levels t) (free_levels_of_all ts) h.covered; constants = back W (constants_of t) (constants_of_all ts) h.constants }

fit-cons : {W : ℕ × Sort → Type 0} {levels : ℕ → Option Sort} (t : Tree) (ts : Trees) → FitIn W levels t → FitAllIn W levels ts → FitAllIn W levels (Cons t ts)
fit-cons {W} {levels} t ts h k = record { sorted = (h.sorted, k.sorted); covered = both (IsCovered levels) (free_levels t) (free_levels_of_all ts) h.covered k.covered; constants = both W (constants_of t) (constants_of_all ts) h.constants k.constants }

-- the sort stays
put-sort-here : (target put : Tree) (o : Op) (args : Trees) (b : Truth) → tree_eq (Apply o args) target ≡ b → tree_sort put ≡ tree_sort target →
    tree_sorts (put_for_each target put args) ≡ tree_sorts args → tree_sort (put_for target put (Apply o args)) ≡ tree_sort (Apply o args)
put-sort-here target put o args true e same h = rw e (same ∙ sym (ap tree_sort (tree_eq-is (Apply o args) target e)))
put-sort-here target put o args false e same h = rw e (ap (option_and_then (result_sort o)) h)

mutual
  pub put-sort : (target put t : Tree) → tree_sort put ≡ tree_sort target → tree_sort (put_for target put t) ≡ tree_sort t
  put-sort target put (Constant i s) h = refl
  put-sort target put (Variable l s) h = refl
  put-sort target put (Literal s n) h = refl
  put-sort target put (Apply o args) h = put-sort-here target put o args (tree_eq (Apply o args) target) refl h (put-sorts target put args h)
  put-sort target put (ForAll l s body) h = refl
  put-sort target put (Exists l s body) h = refl

  put-sorts : (target put : Tree) (ts : Trees) → tree_sort put ≡ tree_sort target → tree_sorts (put_for_each target put ts) ≡ tree_sorts ts
  put-sorts target put Nil h = refl
  put-sorts target put (Cons t ts) h = rw (put-sort target put t h, put-sorts target put ts h) refl

-- so it stays fit
put-fit-here : {W : ℕ × Sort → Type 0} {levels : ℕ → Option Sort} (target put : Tree) (o : Op) (args : Trees) (b : Truth) → tree_eq (Apply o args) target ≡ b → FitIn W levels put →
    tree_sorts (put_for_each target put args) ≡ tree_sorts args → IsSome (tree_sort (Apply o args)) → FitAllIn W levels (put_for_each target put args) → FitIn W levels (put_for target put (Apply o args))
put-fit-here target put o args true e f same ranked h = rw e f
put-fit-here target put o args false e f same ranked h =
    rw e (record { sorted = (h.sorted, rw (ap (option_and_then (result_sort o)) same) ranked); covered = h.covered; constants = h.constants })

mutual
  pub put-fit : {W : ℕ × Sort → Type 0} {levels : ℕ → Option Sort} (target put t : Tree) → tree_sort put ≡ tree_sort target → FitIn W levels put → FitIn W levels t → FitIn W levels (put_for target put t)
  put-fit target put (Constant i s) same f h = h
  put-fit target put (Variable l s) same f h = h
  put-fit target put (Literal s n) same f h = h
  put-fit target put (Apply o args) same f h = put-fit-here target put o args (tree_eq (Apply o args) target) refl f (put-sorts target put args same) h.sorted.1 (put-fits target put args same f (fit-args o args h))
  put-fit target put (ForAll l s body) same f h = h
  put-fit target put (Exists l s body) same f h = h

  put-fits : {W : ℕ × Sort → Type 0} {levels : ℕ → Option Sort} (target put : Tree) (ts : Trees) → tree_sort put ≡ tree_sort target → FitIn W levels put → FitAllIn W levels ts → FitAllIn W levels (put_for_each target put ts)
  put-fits target put Nil same f h = h
  put-fits target put (Cons t ts) same f h =
      fit-cons (put_for target put t) (put_for_each target put ts) (put-fit target put t same f (fit-first t ts h)) (put-fits target put ts same f (fit-rest t ts h))

-- and means the same, where the target does
abbrev pub Passes : List ℕ → (ℕ → Option ℕ) → Tree → Tree → Type 0
Passes c g target put = (x : ℕ) → Means c g target x → Means c g put x

put-means-here : (c : List ℕ) (g : ℕ → Option ℕ) (target put : Tree) (o : Op) (args : Trees) (b : Truth) → tree_eq (Apply o args) target ≡ b → Passes c g target put → (x : ℕ) →
    tree_sorts (put_for_each target put args) ≡ tree_sorts args → ((vs : List ℕ) → MeanAll c g args vs → MeanAll c g (put_for_each target put args) vs) → Means c g (Apply o args) x → Means c g (put_for target put (Apply o args)) x
put-means-here c g target put o args true e go x same each m = rw e (go x (subst (λ (t : Tree). Means c g t x) (tree_eq-is (Apply o args) target e) m))
put-means-here c g target put o args false e go x same each m = rw e (m.0, m.1, same ∙ m.2, each m.1 m.3, m.4)

mutual
  pub put-means : (c : List ℕ) (g : ℕ → Option ℕ) (target put t : Tree) → tree_sort put ≡ tree_sort target → Passes c g target put → (x : ℕ) → Means c g t x → Means c g (put_for target put t) x
  put-means c g target put (Constant i s) same go x m = m
  put-means c g target put (Variable l s) same go x m = m
  put-means c g target put (Literal s n) same go x m = m
  put-means c g target put (Apply o args) same go x m = put-means-here c g target put o args (tree_eq (Apply o args) target) refl go x (put-sorts target put args same) (λ vs h. put-mean-all c g target put args same go vs h) m
  put-means c g target put (ForAll l s body) same go x m = m
  put-means c g target put (Exists l s body) same go x m = m

  put-mean-all : (c : List ℕ) (g : ℕ → Option ℕ) (target put : Tree) (ts : Trees) → tree_sort put ≡ tree_sort target → Passes c g target put → (vs : List ℕ) → MeanAll c g ts vs → MeanAll c g (put_for_each target put ts) vs
  put-mean-all c g target put Nil same go vs m = m
  put-mean-all c g target put (Cons t ts) same go vs m = (m.0, m.1, put-means c g target put t same go m.0 m.2, put-mean-all c g target put ts same go m.1 m.3, m.4)

-- the choice is a part of the tree
fit-choice-here : {W : ℕ × Sort → Type 0} {levels : ℕ → Option Sort} (o : Op) (args : Trees) (d : Choice) → FitIn W levels (Apply o args) → (first_choice_of args ≡ Some d → FitIn W levels (target_of d)) →
    (own_choice o args ≡ Some d) ⊎ (first_choice_of args ≡ Some d) → FitIn W levels (target_of d)
fit-choice-here {W} {levels} o args d h below (inl own) = subst (λ (t : Tree). FitIn W levels t) (own-is o args d own) h
fit-choice-here o args d h below (inr e) = below e

fit-choice-or : {W : ℕ × Sort → Type 0} {levels : ℕ → Option Sort} (t : Tree) (ts : Trees) (d : Choice) → (first_choice t ≡ Some d → FitIn W levels (target_of d)) → (first_choice_of ts ≡ Some d → FitIn W levels (target_of d)) →
    (first_choice t ≡ Some d) ⊎ (first_choice_of ts ≡ Some d) → FitIn W levels (target_of d)
fit-choice-or t ts d one rest (inl e) = one e
fit-choice-or t ts d one rest (inr e) = rest e

mutual
  pub fit-choice : {W : ℕ × Sort → Type 0} {levels : ℕ → Option Sort} (t : Tree) (d : Choice) → FitIn W levels t → first_choice t ≡ Some d → FitIn W levels (target_of d)
  fit-choice (Apply o args) d h e = fit-choice-here o args d h (λ k. fit-choices args d (fit-args o args h) k) (of-two (own_choice o args) (first_choice_of args) d e)
  fit-choice _ d h e = cc

  fit-choices : {W : ℕ × Sort → Type 0} {levels : ℕ → Option Sort} (ts : Trees) (d : Choice) → FitAllIn W levels ts → first_choice_of ts ≡ Some d → FitIn W levels (target_of d)
  fit-choices Nil d h e = cc
  fit-choices (Cons t ts) d h e = fit-choice-or t ts d (λ k. fit-choice t d (fit-first t ts h) k) (λ k. fit-choices ts d (fit-rest t ts h) k) (of-two (first_choice t) (first_choice_of ts) d e)

-- there is one in each quantified tree of bit-vectors
abbrev pub AllBits : List Sort → Type 0
AllBits [] = Unit {0}
AllBits (Bool ∷ ss) = ⊥
AllBits (Bits w ∷ ss) = AllBits ss

one-bits : (f : Option ℕ → Option Sort) → f None ≡ None → (ss : List Sort) (r : Sort) → f (one_width ss) ≡ Some r → AllBits ss
one-bits f none [] r h = cc
one-bits f none (Bool ∷ ss) r h = cc
one-bits f none (Bits w ∷ []) r h = tt
one-bits f none (Bits w ∷ s ∷ ss) r h = cc

two-bits : (f : Option ℕ → Option Sort) → f None ≡ None → (ss : List Sort) (r : Sort) → f (two_widths ss) ≡ Some r → AllBits ss
two-bits f none [] r h = cc
two-bits f none (Bool ∷ ss) r h = cc
two-bits f none (Bits w ∷ []) r h = cc
two-bits f none (Bits w ∷ Bool ∷ ss) r h = cc
two-bits f none (Bits w ∷ Bits v ∷ []) r h = tt
two-bits f none (Bits w ∷ Bits v ∷ s ∷ ss) r h = cc

joined-bits : (f : Option ℕ → Option Sort) → f None ≡ None → (ss : List Sort) (r : Sort) → f (joined_width ss) ≡ Some r → AllBits ss
joined-bits f none [] r h = cc
joined-bits f none (Bool ∷ ss) r h = cc
joined-bits f none (Bits w ∷ []) r h = cc
joined-bits f none (Bits w ∷ Bool ∷ ss) r h = cc
joined-bits f none (Bits w ∷ Bits v ∷ []) r h = tt
joined-bits f none (Bits w ∷ Bits v ∷ s ∷ ss) r h = cc

abbrev pub is_core : Op → Truth
is_core Not = true
is_core And = true
is_core Or = true
is_core Xor = true
is_core Implies = true
is_core Equal = true
is_core Ite = true
is_core _ = false

pub others-bits : (o : Op) (ss : List Sort) (r : Sort) → is_core o ≡ false → result_sort o ss ≡ Some r → AllBits ss
others-bits BvNot ss r k h = one-bits (option_map Bits) refl ss r h
others-bits BvNeg ss r k h = one-bits (option_map Bits) refl ss r h
others-bits BvAnd ss r k h = two-bits (option_map Bits) refl ss r h
others-bits BvOr ss r k h = two-bits (option_map Bits) refl ss r h
others-bits BvXor ss r k h = two-bits (option_map Bits) refl ss r h
others-bits BvNand ss r k h = two-bits (option_map Bits) refl ss r h
others-bits BvNor ss r k h = two-bits (option_map Bits) refl ss r h
others-bits BvXnor ss r k h = two-bits (option_map Bits) refl ss r h
others-bits BvAdd ss r k h = two-bits (option_map Bits) refl ss r h
others-bits BvSub ss r k h = two-bits (option_map Bits) refl ss r h
others-bits BvMul ss r k h = two-bits (option_map Bits) refl ss r h
others-bits BvUdiv ss r k h = two-bits (option_map Bits) refl ss r h
others-bits BvUrem ss r k h = two-bits (option_map Bits) refl ss r h
others-bits BvSdiv ss r k h = two-bits (option_map Bits) refl ss r h
others-bits BvSrem ss r k h = two-bits (option_map Bits) refl ss r h
others-bits BvSmod ss r k h = two-bits (option_map Bits) refl ss r h
others-bits BvShl ss r k h = two-bits (option_map Bits) refl ss r h
others-bits BvLshr ss r k h = two-bits (option_map Bits) refl ss r h
others-bits BvAshr ss r k h = two-bits (option_map Bits) refl ss r h
others-bits BvUlt ss r k h = two-bits (option_map (λ _. Bool)) refl ss r h
others-bits BvUle ss r k h = two-bits (option_map (λ _. Bool)) refl ss r h
others-bits BvUgt ss r k h = two-bits (option_map (λ _. Bool)) refl ss r h
others-bits BvUge ss r k h = two-bits (option_map (λ _. Bool)) refl ss r h
others-bits BvSlt ss r k h = two-bits (option_map (λ _. Bool)) refl ss r h
others-bits BvSle ss r k h = two-bits (option_map (λ _. Bool)) refl ss r h
others-bits BvSgt ss r k h = two-bits (option_map (λ _. Bool)) refl ss r h
others-bits BvSge ss r k h = two-bits (option_map (λ _. Bool)) refl ss r h
others-bits BvComp ss r k h = two-bits (option_map (λ _. Bits 1)) refl ss r h
others-bits Concat ss r k h = joined-bits (option_and_then bits_of) refl ss r h
others-bits (Extract i j) ss r k h = one-bits (option_and_then (bits_between i j)) refl ss r h
others-bits (Repeat i) ss r k h = one-bits (option_and_then (bits_repeated i)) refl ss r h
others-bits (ZeroExtend i) ss r k h = one-bits (option_and_then (λ w. bits_of (w + i))) refl ss r h
others-bits (SignExtend i) ss r k h = one-bits (option_and_then (λ w. bits_of (w + i))) refl ss r h
others-bits (RotateLeft i) ss r k h = one-bits (option_map Bits) refl ss r h
others-bits (RotateRight i) ss r k h = one-bits (option_map Bits) refl ss r h
others-bits BvNego ss r k h = one-bits (option_map (λ _. Bool)) refl ss r h
others-bits BvUaddo ss r k h = two-bits (option_map (λ _. Bool)) refl ss r h
others-bits BvSaddo ss r k h = two-bits (option_map (λ _. Bool)) refl ss r h
others-bits BvUmulo ss r k h = two-bits (option_map (λ _. Bool)) refl ss r h
others-bits BvSmulo ss r k h = two-bits (option_map (λ _. Bool)) refl ss r h
others-bits BvUsubo ss r k h = two-bits (option_map (λ _. Bool)) refl ss r h
others-bits BvSsubo ss r k h = two-bits (option_map (λ _. Bool)) refl ss r h
others-bits BvSdivo ss r k h = two-bits (option_map (λ _. Bool)) refl ss r h
others-bits Not ss r k h = cc
others-bits And ss r k h = cc
others-bits Or ss r k h = cc
others-bits Xor ss r k h = cc
others-bits Implies ss r k h = cc
others-bits Equal ss r k h = cc
others-bits Ite ss r k h = cc
