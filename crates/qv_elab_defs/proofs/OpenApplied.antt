-- What applications give of open trees.
use Rattle.std.proofs.Common.{◌≡◌, ◌≤◌, ℕ, Bool, true, false, cond, Option, Some, None, List, [], ◌∷◌, map, refl, sym, ap, ◌∙◌, Ok, Err, arith}
use Rattle.std.specs.Prelude.{Result, IfOk, nat_le}
use Rattle.std.specs.List.{AllByRecursion, list_all}
use Rattle.std.proofs.lemmas.Bool.Decides.{nat_tests}
use Rattle.qv_words.specs.declared.sort.Sort.{Sort}
use Rattle.qv_words.specs.declared.sort.Sort.TheVariants.{Bool as BoolSort}
use Rattle.qv_words.specs.declared.op.Op.{Op}
use Rattle.qv_words.specs.declared.op.Op.TheVariants.{Not, And, Or, Xor, Implies, Equal, BvAnd, BvOr, BvXor, BvAdd, BvMul, Concat}
use Rattle.qv_words.specs.Rank.{sort_eq}
use Rattle.qv_words.specs.Tree.{Tree, Apply, tree_sort}
use Rattle.qv_words.specs.Prenex.{negation, binary}
use Rattle.qv_words.proofs.Equals.{sort_eq-is, sort_eq-refl}
use Rattle.qv_words.proofs.Leaves.{both}
use Rattle.qv_sorts.specs.declared.ranking.RankFault.{RankFault}
use Rattle.qv_sorts.specs.Faults.{fault_of}
use Rattle.qv_elab_defs.specs.declared.faults.ElabKind.{ElabKind}
use Rattle.qv_elab_defs.specs.declared.faults.ElabKind.TheVariants.{Sorts, DepthLimit}
use Rattle.qv_elab_defs.specs.Faults.{Fault, refuse, ◌>>=◌, at, moved}
use Rattle.qv_elab_defs.specs.Applying.{sort_of, is_bool, in_trees, unless_fault, applied, to_the_left, to_the_right, neighbours, all_pairs, have_one_sort, conjunction, chained, distinct, alone, application, depth_of, depth_limit, shallow}
pub use Rattle.qv_elab_defs.specs.OpenTrees.{IsGood}
use Rattle.qv_elab_defs.proofs.Opened.{IsOpen, open-apply, open-sort}
use Rattle.std.proofs.lemmas.Bool.{and_parts}

-- what comes first, and what is made of it
pub ok-bind : {A B F : Type 0} (r : Result A F) (next : A → Result B F) (P : A → Type 0) (Q : B → Type 0) → IfOk r P → ((a : A) → P a → IfOk (next a) Q) → IfOk (r >>= next) Q
ok-bind (Ok a) next P Q h k = k a h
ok-bind (Err e) next P Q h k = tt

-- the same, where nothing needs to be known of the first
pub ok-behind : {A B F : Type 0} (r : Result A F) (next : A → Result B F) (Q : B → Type 0) → ((a : A) → IfOk (next a) Q) → IfOk (r >>= next) Q
ok-behind (Ok a) next Q k = k a
ok-behind (Err e) next Q k = tt

pub ok-at : {A : Type 0} (place : ℕ) (r : Result A ElabKind) (P : A → Type 0) → IfOk r P → IfOk (at place r) P
ok-at place (Ok a) P h = h
ok-at place (Err e) P h = tt

pub ok-moved : {A : Type 0} (place : ℕ) (r : Result A Fault) (P : A → Type 0) → IfOk r P → IfOk (moved place r) P
ok-moved place (Ok a) P h = h
ok-moved place (Err e) P h = tt

module _ (K : List Sort) (low : ℕ) (M : ℕ → Option Sort) where
  ok-applied : (o : Op) (ts : List Tree) → AllByRecursion (IsOpen K low M) ts → IfOk (applied o ts) (IsOpen K low M)
  ok-applied o ts h = go (fault_of o (map (λ t. sort_of t) ts)) refl
    where
      go : (f : Option RankFault) → fault_of o (map (λ t. sort_of t) ts) ≡ f → IfOk (unless_fault f (Apply o (in_trees ts))) (IsOpen K low M)
      go None e = open-apply o ts K low M h e
      go (Some f) e = tt

  ok-left : (o : Op) (t : Tree) (ts : List Tree) → IsOpen K low M t → AllByRecursion (IsOpen K low M) ts → IfOk (to_the_left o t ts) (IsOpen K low M)
  ok-left o t [] h hs = h
  ok-left o t (u ∷ us) h hs =
      ok-bind (applied o (t ∷ u ∷ [])) (λ tu. to_the_left o tu us) (IsOpen K low M) (IsOpen K low M)
      (ok-applied o (t ∷ u ∷ []) (h, (hs.0, tt))) (λ tu k. ok-left o tu us k hs.1)

  ok-right : (o : Op) (t : Tree) (ts : List Tree) → IsOpen K low M t → AllByRecursion (IsOpen K low M) ts → IfOk (to_the_right o t ts) (IsOpen K low M)
  ok-right o t [] h hs = h
  ok-right o t (u ∷ us) h hs =
      ok-bind (to_the_right o u us) (λ uv. applied o (t ∷ uv ∷ [])) (IsOpen K low M) (IsOpen K low M)
      (ok-right o u us hs.0 hs.1) (λ uv k. ok-applied o (t ∷ uv ∷ []) (h, (k, tt)))

  ok-conjunction : (ts : List Tree) → AllByRecursion (IsOpen K low M) ts → IfOk (conjunction ts) (IsOpen K low M)
  ok-conjunction [] h = tt
  ok-conjunction (t ∷ ts) h = ok-left And t ts h.0 h.1

  -- an open tree of this sort
  abbrev Of : Sort → Tree → Type 0
  Of s t = IsOpen K low M t × (sort_of t ≡ s)

  abbrev AreOf : Sort → Tree × Tree → Type 0
  AreOf s p = Of s p.0 × Of s p.1

  of-one-sort : (t : Tree) (ts : List Tree) → AllByRecursion (IsOpen K low M) ts → list_all (λ u. sort_eq (sort_of t) (sort_of u)) ts ≡ true → AllByRecursion (Of (sort_of t)) ts
  of-one-sort t [] h e = tt
  of-one-sort t (u ∷ us) h e =
      let parts = and_parts (sort_eq (sort_of t) (sort_of u)) (list_all (λ u. sort_eq (sort_of t) (sort_of u)) us) e in
      ((h.0, sym (sort_eq-is (sort_of t) (sort_of u) parts.0)), of-one-sort t us h.1 parts.1)

  of-neighbours : (s : Sort) (t : Tree) (ts : List Tree) → Of s t → AllByRecursion (Of s) ts → AllByRecursion (AreOf s) (neighbours t ts)
  of-neighbours s t [] h hs = tt
  of-neighbours s t (u ∷ us) h hs = ((h, hs.0), of-neighbours s u us hs.0 hs.1)

  with-first : (s : Sort) (t : Tree) (ts : List Tree) → Of s t → AllByRecursion (Of s) ts → AllByRecursion (AreOf s) (map (λ u. (t, u)) ts)
  with-first s t [] h hs = tt
  with-first s t (u ∷ us) h hs = ((h, hs.0), with-first s t us h hs.1)

  of-pairs : (s : Sort) (ts : List Tree) → AllByRecursion (Of s) ts → AllByRecursion (AreOf s) (all_pairs ts)
  of-pairs s [] hs = tt
  of-pairs s (t ∷ ts) hs = both (AreOf s) (map (λ u. (t, u)) ts) (all_pairs ts) (with-first s t ts hs.0 hs.1) (of-pairs s ts hs.1)

  open-equal : (s : Sort) (p : Tree × Tree) → AreOf s p → IsOpen K low M (binary Equal p.0 p.1) × (sort_of (binary Equal p.0 p.1) ≡ BoolSort)
  open-equal s p h =
      let none : fault_of Equal (sort_of p.0 ∷ sort_of p.1 ∷ []) ≡ None = rw (h.0.1, h.1.1) (equal-sorts s) in
      let o = open-apply Equal (p.0 ∷ p.1 ∷ []) K low M (h.0.0, (h.1.0, tt)) none in
      (o, equal-bool p.0 p.1 s (open-sort p.0 K low M h.0.0 ∙ ap Some h.0.1) (open-sort p.1 K low M h.1.0 ∙ ap Some h.1.1))
    where
      equal-sorts : (s : Sort) → fault_of Equal (s ∷ s ∷ []) ≡ None
      equal-sorts s = rw (sort_eq-refl s)

      equal-bool : (a b : Tree) (s : Sort) → tree_sort a ≡ Some s → tree_sort b ≡ Some s → sort_of (binary Equal a b) ≡ BoolSort
      equal-bool a b s e f = rw (e, f, sort_eq-refl s)

  open-unequal : (s : Sort) (p : Tree × Tree) → AreOf s p → IsOpen K low M (negation (binary Equal p.0 p.1))
  open-unequal s p h =
      let e = open-equal s p h in
      open-apply Not (binary Equal p.0 p.1 ∷ []) K low M (e.0, tt) (ap (λ u. fault_of Not (u ∷ [])) e.1)

  each-equal : (s : Sort) (ps : List (Tree × Tree)) → AllByRecursion (AreOf s) ps → AllByRecursion (IsOpen K low M) (map (λ p. binary Equal p.0 p.1) ps)
  each-equal s [] h = tt
  each-equal s (p ∷ ps) h = ((open-equal s p h.0).0, each-equal s ps h.1)

  each-unequal : (s : Sort) (ps : List (Tree × Tree)) → AllByRecursion (AreOf s) ps → AllByRecursion (IsOpen K low M) (map (λ p. negation (binary Equal p.0 p.1)) ps)
  each-unequal s [] h = tt
  each-unequal s (p ∷ ps) h = (open-unequal s p h.0, each-unequal s ps h.1)

  ok-chained : (t : Tree) (ts : List Tree) → IsOpen K low M t → AllByRecursion (IsOpen K low M) ts → IfOk (chained t ts) (IsOpen K low M)
  ok-chained t ts h hs = go (have_one_sort (t ∷ ts)) refl
    where
      go : (b : Bool) → have_one_sort (t ∷ ts) ≡ b → IfOk (cond b (conjunction (map (λ p. binary Equal p.0 p.1) (neighbours t ts))) (Err Sorts)) (IsOpen K low M)
      go true e =
          ok-conjunction (map (λ p. binary Equal p.0 p.1) (neighbours t ts))
          (each-equal (sort_of t) (neighbours t ts) (of-neighbours (sort_of t) t ts (h, refl) (of-one-sort t ts hs e)))
      go false e = tt

  pub ok-distinct : (ts : List Tree) → AllByRecursion (IsOpen K low M) ts → IfOk (distinct ts) (IsOpen K low M)
  ok-distinct [] h = tt
  ok-distinct (t ∷ ts) h = go (have_one_sort (t ∷ ts)) refl
    where
      go : (b : Bool) → have_one_sort (t ∷ ts) ≡ b → IfOk (cond b (conjunction (map (λ p. negation (binary Equal p.0 p.1)) (all_pairs (t ∷ ts)))) (Err Sorts)) (IsOpen K low M)
      go true e =
          ok-conjunction (map (λ p. negation (binary Equal p.0 p.1)) (all_pairs (t ∷ ts)))
          (each-unequal (sort_of t) (all_pairs (t ∷ ts)) (of-pairs (sort_of t) (t ∷ ts) ((h.0, refl), of-one-sort t ts h.1 e)))
      go false e = tt

  ok-alone : (t : Tree) → IsOpen K low M t → IfOk (alone t) (IsOpen K low M)
  ok-alone t h = go (is_bool t)
    where
      go : (b : Bool) → IfOk (cond b (Ok t) (Err Sorts)) (IsOpen K low M)
      go true = h
      go false = tt

  pub ok-application : (o : Op) (ts : List Tree) → AllByRecursion (IsOpen K low M) ts → IfOk (application o ts) (IsOpen K low M)
  ok-application And (t ∷ []) h = ok-alone t h.0
  ok-application Or (t ∷ []) h = ok-alone t h.0
  ok-application And (t ∷ u ∷ us) h = ok-left And t (u ∷ us) h.0 h.1
  ok-application Or (t ∷ u ∷ us) h = ok-left Or t (u ∷ us) h.0 h.1
  ok-application Xor (t ∷ u ∷ us) h = ok-left Xor t (u ∷ us) h.0 h.1
  ok-application BvAnd (t ∷ u ∷ us) h = ok-left BvAnd t (u ∷ us) h.0 h.1
  ok-application BvOr (t ∷ u ∷ us) h = ok-left BvOr t (u ∷ us) h.0 h.1
  ok-application BvXor (t ∷ u ∷ us) h = ok-left BvXor t (u ∷ us) h.0 h.1
  ok-application BvAdd (t ∷ u ∷ us) h = ok-left BvAdd t (u ∷ us) h.0 h.1
  ok-application BvMul (t ∷ u ∷ us) h = ok-left BvMul t (u ∷ us) h.0 h.1
  ok-application Concat (t ∷ u ∷ us) h = ok-left Concat t (u ∷ us) h.0 h.1
  ok-application Implies (t ∷ u ∷ us) h = ok-right Implies t (u ∷ us) h.0 h.1
  ok-application Equal (t ∷ u ∷ us) h = ok-chained t (u ∷ us) h.0 h.1
  ok-application o ts h = ok-applied o ts h

  pub ok-shallow : (place : ℕ) (t : Tree) → IsOpen K low M t → IfOk (shallow place t) (IsGood K low M)
  ok-shallow place t h = go (nat_le (depth_of t) depth_limit) refl
    where
      go : (b : Bool) → nat_le (depth_of t) depth_limit ≡ b → IfOk (cond b (Ok t) (refuse place DepthLimit)) (IsGood K low M)
      go true e = let low : depth_of t ≤ depth_limit = grind (arith, nat_tests) in (h, low)
      go false e = tt
