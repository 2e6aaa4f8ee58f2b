-- How deep a tree is with arguments put in.
use Rattle.std.proofs.Common.{◌≡◌, ◌≤◌, ◌<◌, ◌+◌, ◌==◌, ◌⊎◌, inl, inr, ℕ, zero, suc, max, Bool, true, false, cond, Option, Some, None, List, [], ◌∷◌, length, refl, sym, ap, subst, ◌∙◌, slice_get, get_or, Ok, Err, arith}
use Rattle.std.specs.Prelude.{Result, IfErr, IsErr, Any, option_map, unwrap_or, nat_lt, nat_le, zip, ◌↔◌}
use Rattle.std.specs.List.{AllByRecursion}
use Rattle.std.proofs.lemmas.Bool.Decides.{nat_tests}
use Rattle.std.proofs.Math.Nat.{zero-add, le-max_left, le-max_right, max-eq_left, max-eq_right}
use Rattle.qv_words.specs.declared.sort.Sort.{Sort}
use Rattle.qv_words.specs.Tree.{Tree, Trees, Constant, Variable, Literal, Apply, ForAll, Exists, Nil, Cons}
use Rattle.qv_words.proofs.Equals.{test-refl, eq-from_test}
use Rattle.qv_elab_defs.specs.declared.faults.ElabKind.TheVariants.{DepthLimit}
use Rattle.qv_elab_defs.specs.Faults.{Fault}
use Rattle.qv_elab_defs.specs.Scopes.{Named}
use Rattle.qv_elab_defs.specs.Applying.{depth_of, depth_of_all, depth_limit}
use Rattle.qv_elab_defs.specs.Putting.{put_in_each, moved_level}
use Rattle.qv_elab_defs.specs.Standing.{deeper, standing, standing_in}
use Rattle.qv_elab_defs.specs.UseLaws.{IsTooDeep, use_of, UsesFailByDepth}
use Rattle.qv_elab_defs.proofs.ElaboratedTrees.{sorts_of}
use Rattle.qv_elab_defs.proofs.Alike.{Use, put}
use Rattle.qv_elab_defs.proofs.Following.{Shallow, Deep, Outcome}
use Rattle.qv_elab_defs.proofs.Uses.{length-sorts, use-with, all-uses}

-- of several trees
abbrev among : ℕ → List Tree → Option ℕ
among l [] = None
among l (w ∷ ws) = deeper (standing l w) (among l ws)

-- the greater of two is one of them
pub max-is : (n m : ℕ) → (max n m ≡ n) ⊎ (max n m ≡ m)
max-is n m = go (nat_le n m) refl
  where
    go : (b : Bool) → nat_le n m ≡ b → (max n m ≡ n) ⊎ (max n m ≡ m)
    go true e = let le : n ≤ m = grind (arith, nat_tests) in inr (max-eq_right le)
    go false e = let le : m ≤ n = grind (arith, nat_tests) in inl (max-eq_left le)

-- a tree at this depth is deeper than L
abbrev pub IsOver : ℕ → Option ℕ → Tree → Type 0
IsOver L None a = ⊥
IsOver L (Some n) a = L < depth_of a + n

over-left : (L : ℕ) (o p : Option ℕ) (a : Tree) → IsOver L o a → IsOver L (deeper o p) a
over-left L None p a h = absurd h
over-left L (Some n) None a h = h
over-left L (Some n) (Some m) a h = omega (arith, le-max_left n m)

over-right : (L : ℕ) (o p : Option ℕ) (a : Tree) → IsOver L p a → IsOver L (deeper o p) a
over-right L None p a h = h
over-right L (Some n) None a h = absurd h
over-right L (Some n) (Some m) a h = omega (arith, le-max_right n m)

over-either : (L : ℕ) (o p : Option ℕ) (a : Tree) → IsOver L (deeper o p) a → IsOver L o a ⊎ IsOver L p a
over-either L None p a h = inr h
over-either L (Some n) None a h = inl h
over-either L (Some n) (Some m) a h = go (max-is n m)
  where
    go : (max n m ≡ n) ⊎ (max n m ≡ m) → (L < depth_of a + n) ⊎ (L < depth_of a + m)
    go (inl e) = inl (omega arith)
    go (inr e) = inr (omega arith)

over-up : (L : ℕ) (o : Option ℕ) (a : Tree) → IsOver L o a → IsOver (suc L) (option_map (λ n. suc n) o) a
over-up L None a h = h
over-up L (Some n) a h = omega arith

over-down : (L : ℕ) (o : Option ℕ) (a : Tree) → IsOver (suc L) (option_map (λ n. suc n) o) a → IsOver L o a
over-down L None a h = h
over-down L (Some n) a h = omega arith

module _ (sorts : List Sort) (u : Use sorts) where
  -- an argument that is too deep where its parameter stands
  abbrev pub HasOver : ℕ → (ℕ → Option ℕ) → Type 0
  HasOver L at = (l : ℕ) × (a : Tree) × (slice_get u.args l ≡ Some a) × (l < length sorts) × IsOver L (at l) a

  has-along : (L K : ℕ) (f g : ℕ → Option ℕ) → ((l : ℕ) (a : Tree) → IsOver L (f l) a → IsOver K (g l) a) → HasOver L f → HasOver K g
  has-along L K f g go h = (h.0, h.1, h.2, h.3, go h.0 h.1 h.4)

  variable-over : (L k : ℕ) (s : Sort) → 1 ≤ L → L < depth_of (put sorts u (Variable k s)) → HasOver L (λ l. standing l (Variable k s))
  variable-over L k s le = go (nat_lt k (length sorts)) refl
    where
      at : (o : Option Tree) → slice_get u.args k ≡ o → k < length sorts → L < depth_of (unwrap_or o (Variable k s)) → HasOver L (λ l. standing l (Variable k s))
      at None e lt h = absurd (omega (arith, h))
      at (Some a) e lt h =
          let over : L < depth_of a + 0 = omega arith in
          (k, a, e, lt, subst (λ (b : Bool). IsOver L (cond b (Some 0) None) a) (sym (test-refl k)) over)

      go : (b : Bool) → nat_lt k (length sorts) ≡ b → L < depth_of (cond b (unwrap_or (slice_get u.args k) (Variable k s)) (Variable (moved_level (length sorts) u.binders k) s)) → HasOver L (λ l. standing l (Variable k s))
      go true e h = let lt : k < length sorts = grind (arith, nat_tests) in at (slice_get u.args k) refl lt h
      go false e h = absurd (omega (arith, h))

  mutual
    pub tree-over : (t : Tree) (L : ℕ) → depth_of t ≤ L → L < depth_of (put sorts u t) → HasOver L (λ l. standing l t)
    tree-over (Constant i s) L low high = absurd (omega (arith, low, high))
    tree-over (Variable k s) L low high = variable-over L k s low high
    tree-over (Literal s n) L low high = absurd (omega (arith, low, high))
    tree-over (Apply o ts) zero low high = absurd (omega (arith, low))
    tree-over (Apply o ts) (suc L) low high = has-along L (suc L) (λ l. standing_in l ts) (λ l. standing l (Apply o ts)) (λ l a. over-up L (standing_in l ts) a) (trees-over ts L (omega (arith, low)) (omega (arith, high)))
    tree-over (ForAll k s body) zero low high = absurd (omega (arith, low))
    tree-over (ForAll k s body) (suc L) low high = has-along L (suc L) (λ l. standing l body) (λ l. standing l (ForAll k s body)) (λ l a. over-up L (standing l body) a) (tree-over body L (omega (arith, low)) (omega (arith, high)))
    tree-over (Exists k s body) zero low high = absurd (omega (arith, low))
    tree-over (Exists k s body) (suc L) low high = has-along L (suc L) (λ l. standing l body) (λ l. standing l (Exists k s body)) (λ l a. over-up L (standing l body) a) (tree-over body L (omega (arith, low)) (omega (arith, high)))

    trees-over : (ts : Trees) (L : ℕ) → depth_of_all ts ≤ L → L < depth_of_all (put_in_each (length sorts) u.binders u.args ts) → HasOver L (λ l. standing_in l ts)
    trees-over Nil L low high = absurd (omega (arith, high))
    trees-over (Cons t ts) L low high =
        let first : depth_of t ≤ L = omega (arith, low, le-max_left (depth_of t) (depth_of_all ts)) in
        let others : depth_of_all ts ≤ L = omega (arith, low, le-max_right (depth_of t) (depth_of_all ts)) in
        either-over (max-is (depth_of (put sorts u t)) (depth_of_all (put_in_each (length sorts) u.binders u.args ts)))
        (λ h. has-along L L (λ l. standing l t) (λ l. standing_in l (Cons t ts)) (λ l a. over-left L (standing l t) (standing_in l ts) a) (tree-over t L first h))
        (λ h. has-along L L (λ l. standing_in l ts) (λ l. standing_in l (Cons t ts)) (λ l a. over-right L (standing l t) (standing_in l ts) a) (trees-over ts L others h))
      where
        either-over : (max (depth_of (put sorts u t)) (depth_of_all (put_in_each (length sorts) u.binders u.args ts)) ≡ depth_of (put sorts u t)) ⊎ (max (depth_of (put sorts u t)) (depth_of_all (put_in_each (length sorts) u.binders u.args ts)) ≡ depth_of_all (put_in_each (length sorts) u.binders u.args ts)) → (L < depth_of (put sorts u t) → HasOver L (λ l. standing_in l (Cons t ts))) → (L < depth_of_all (put_in_each (length sorts) u.binders u.args ts) → HasOver L (λ l. standing_in l (Cons t ts))) → HasOver L (λ l. standing_in l (Cons t ts))
        either-over (inl e) f g = f (omega (arith, high))
        either-over (inr e) f g = g (omega (arith, high))

  mutual
    pub over-tree : (t : Tree) (L l : ℕ) (a : Tree) → slice_get u.args l ≡ Some a → l < length sorts → IsOver L (standing l t) a → L < depth_of (put sorts u t)
    over-tree (Constant i s) L l a e lt h = absurd h
    over-tree (Variable k s) L l a e lt h = go (k == l) refl h
      where
        go : (b : Bool) → (k == l) ≡ b → IsOver L (cond b (Some 0) None) a → L < depth_of (put sorts u (Variable k s))
        go false f g = absurd g
        go true f g =
            let same : k ≡ l = eq-from_test k l f in
            let inner : nat_lt k (length sorts) ≡ true = grind (arith, nat_tests) in
            let arg : slice_get u.args k ≡ Some a = ap (λ n. slice_get u.args n) same ∙ e in
            let is : put sorts u (Variable k s) ≡ a = rw (inner, arg) in
            let over : L < depth_of a = omega arith in
            subst (λ (t : Tree). L < depth_of t) (sym is) over
    over-tree (Literal s n) L l a e lt h = absurd h
    over-tree (Apply o ts) zero l a e lt h = omega arith
    over-tree (Apply o ts) (suc L) l a e lt h = let k = over-trees ts L l a e lt (over-down L (standing_in l ts) a h) in omega arith
    over-tree (ForAll k s body) zero l a e lt h = omega arith
    over-tree (ForAll k s body) (suc L) l a e lt h = let g = over-tree body L l a e lt (over-down L (standing l body) a h) in omega arith
    over-tree (Exists k s body) zero l a e lt h = omega arith
    over-tree (Exists k s body) (suc L) l a e lt h = let g = over-tree body L l a e lt (over-down L (standing l body) a h) in omega arith

    over-trees : (ts : Trees) (L l : ℕ) (a : Tree) → slice_get u.args l ≡ Some a → l < length sorts → IsOver L (standing_in l ts) a → L < depth_of_all (put_in_each (length sorts) u.binders u.args ts)
    over-trees Nil L l a e lt h = absurd h
    over-trees (Cons t ts) L l a e lt h =
        go (over-either L (standing l t) (standing_in l ts) a h) (over-tree t L l a e lt) (over-trees ts L l a e lt)
      where
        go : IsOver L (standing l t) a ⊎ IsOver L (standing_in l ts) a → (IsOver L (standing l t) a → L < depth_of (put sorts u t)) → (IsOver L (standing_in l ts) a → L < depth_of_all (put_in_each (length sorts) u.binders u.args ts)) → L < max (depth_of (put sorts u t)) (depth_of_all (put_in_each (length sorts) u.binders u.args ts))
        go (inl k) f g = let x = f k in omega (arith, le-max_left (depth_of (put sorts u t)) (depth_of_all (put_in_each (length sorts) u.binders u.args ts)))
        go (inr k) f g = let x = g k in omega (arith, le-max_right (depth_of (put sorts u t)) (depth_of_all (put_in_each (length sorts) u.binders u.args ts)))

  deep-over : (ws : List Tree) → AllByRecursion (λ w. depth_of w ≤ depth_limit) ws → Deep sorts u ws → HasOver depth_limit (λ l. among l ws)
  deep-over [] low h = absurd h
  deep-over (w ∷ ws) low (inl h) = has-along depth_limit depth_limit (λ l. standing l w) (λ l. among l (w ∷ ws)) (λ l a. over-left depth_limit (standing l w) (among l ws) a) (tree-over w depth_limit low.0 h)
  deep-over (w ∷ ws) low (inr h) = has-along depth_limit depth_limit (λ l. among l ws) (λ l. among l (w ∷ ws)) (λ l a. over-right depth_limit (standing l w) (among l ws) a) (deep-over ws low.1 h)

  over-deep : (ws : List Tree) (l : ℕ) (a : Tree) → slice_get u.args l ≡ Some a → l < length sorts → IsOver depth_limit (among l ws) a → Deep sorts u ws
  over-deep [] l a e lt h = absurd h
  over-deep (w ∷ ws) l a e lt h = go (over-either depth_limit (standing l w) (among l ws) a h) (over-deep ws l a e lt)
    where
      go : IsOver depth_limit (standing l w) a ⊎ IsOver depth_limit (among l ws) a → (IsOver depth_limit (among l ws) a → Deep sorts u ws) → (depth_limit < depth_of (put sorts u w)) ⊎ Deep sorts u ws
      go (inl k) f = inl (over-tree w depth_limit l a e lt k)
      go (inr k) f = inr (f k)

  not-both : (ws : List Tree) → Shallow sorts u ws → Deep sorts u ws → ⊥
  not-both [] s d = d
  not-both (w ∷ ws) s (inl d) = let low = s.0 in omega arith
  not-both (w ∷ ws) s (inr d) = not-both ws s.1 d

-- for each parameter from this level on, how deep it stands
abbrev depths_below : List Tree → ℕ → ℕ → List (Option ℕ)
depths_below ws zero l = []
depths_below ws (suc n) l = among l ws ∷ depths_below ws n (suc l)

length-below : (ws : List Tree) (n l : ℕ) → length (depths_below ws n l) ≡ n
length-below ws zero l = refl
length-below ws (suc n) l = ap suc (length-below ws n (suc l))

shifted : (l i : ℕ) → suc l + i ≡ l + suc i
shifted l i = omega arith

abbrev pair_of : Option ℕ → Tree → Option ℕ × Tree
pair_of o a = (o, a)

pairs : (o p : Option ℕ) (b a : Tree) → o ≡ p → b ≡ a → ◌≡◌ {A = Option ℕ × Tree} (o, b) (p, a)
pairs o p b a e f = subst (λ (x : Tree). ◌≡◌ {A = Option ℕ × Tree} (o, b) (p, x)) f (ap (λ (q : Option ℕ). pair_of q b) e)

-- the pair of a place
zip-at : (ws : List Tree) (n l : ℕ) (args : List Tree) (i : ℕ) (a : Tree) → i < n → slice_get args i ≡ Some a → (i < length (zip (depths_below ws n l) args)) × ((d : Option ℕ × Tree) → get_or (zip (depths_below ws n l) args) i d ≡ (among (l + i) ws, a))
zip-at ws zero l args i a lt e = absurd (omega (arith, lt))
zip-at ws (suc n) l [] i a lt e = absurd (cc)
zip-at ws (suc n) l (b ∷ args) zero a lt e =
    let same : b ≡ a = cc in
    let at : l ≡ l + 0 = omega arith in
    (omega arith, λ d. pairs (among l ws) (among (l + 0) ws) b a (ap (λ n. among n ws) at) same)
zip-at ws (suc n) l (b ∷ args) (suc i) a lt e =
    let more = zip-at ws n (suc l) args i a (omega arith) e in
    (omega (arith, more.0), λ d. more.1 d ∙ ap (λ m. (among m ws, a)) (shifted l i))

at-zip : (ws : List Tree) (n l : ℕ) (args : List Tree) (i : ℕ) → i < length (zip (depths_below ws n l) args) → (a : Tree) × (slice_get args i ≡ Some a) × (i < n)
at-zip ws zero l args i lt = absurd (omega (arith, lt))
at-zip ws (suc n) l [] i lt = absurd (omega (arith, lt))
at-zip ws (suc n) l (b ∷ args) zero lt = (b, refl, omega arith)
at-zip ws (suc n) l (b ∷ args) (suc i) lt =
    let more = at-zip ws n (suc l) args i (omega (arith, lt)) in
    (more.0, more.1, omega (arith, more.2))

too-deep : (o : Option ℕ) (a : Tree) → IsOver depth_limit o a → IsTooDeep o a
too-deep None a h = h
too-deep (Some n) a h = h

is-over : (o : Option ℕ) (a : Tree) → IsTooDeep o a → IsOver depth_limit o a
is-over None a h = h
is-over (Some n) a h = h

module _ (parameters : Named Sort) (u : Use (sorts_of parameters)) (ws : List Tree) where
  any-deep : HasOver (sorts_of parameters) u depth_limit (λ l. among l ws) → Any (λ x. IsTooDeep x.0 x.1) (zip (depths_below ws (length parameters) 0) u.args)
  any-deep h =
      let same = length-sorts parameters in
      let pair = zip-at ws (length parameters) 0 u.args h.0 h.1 (omega (arith, h.3)) h.2 in
      let at : among (0 + h.0) ws ≡ among h.0 ws = ap (λ n. among n ws) (zero-add h.0) in
      (h.0, (among (0 + h.0) ws, h.1), pair.0, pair.1 (among (0 + h.0) ws, h.1), too-deep (among (0 + h.0) ws) h.1 (subst (λ (o : Option ℕ). IsOver depth_limit o h.1) (sym at) h.4))

  deep-any : Any (λ x. IsTooDeep x.0 x.1) (zip (depths_below ws (length parameters) 0) u.args) → Deep (sorts_of parameters) u ws
  deep-any h =
      let same = length-sorts parameters in
      let arg = at-zip ws (length parameters) 0 u.args h.0 h.2 in
      let pair = zip-at ws (length parameters) 0 u.args h.0 arg.0 arg.2 arg.1 in
      let is : h.1 ≡ (among (0 + h.0) ws, arg.0) = sym h.3 ∙ pair.1 h.1 in
      let over : IsTooDeep (among (0 + h.0) ws) arg.0 = subst (λ (x : Option ℕ × Tree). IsTooDeep x.0 x.1) is h.4 in
      let at : among (0 + h.0) ws ≡ among h.0 ws = ap (λ n. among n ws) (zero-add h.0) in
      over-deep (sorts_of parameters) u ws h.0 arg.0 arg.1 (omega (arith, arg.2)) (subst (λ (o : Option ℕ). IsOver depth_limit o arg.0) at (is-over (among (0 + h.0) ws) arg.0 over))

  by-depth : (t : Tree) (r : Result Tree Fault) → AllByRecursion (λ w. depth_of w ≤ depth_limit) ws → Outcome (sorts_of parameters) (put (sorts_of parameters)) u ws t r → IfErr r (λ fault. fault.kind ≡ DepthLimit) × (IsErr r ↔ Any (λ x. IsTooDeep x.0 x.1) (zip (depths_below ws (length parameters) 0) u.args))
  by-depth t (Ok v) low h = (tt, ((λ e. absurd (cc)), λ any. absurd (not-both (sorts_of parameters) u ws h.1 (deep-any any))))
  by-depth t (Err f) low h = (h.0, ((λ e. any-deep (deep-over (sorts_of parameters) u ws low h.1)), λ any. refl))

pub uses-fail_by_depth : UsesFailByDepth
uses-fail_by_depth scope parameters s body t h p w e =
    let uses = all-uses scope parameters s body t h p w e in (
      depths_below uses.0 (length parameters) 0,
      length-below uses.0 (length parameters) 0,
      λ binders args a. by-depth parameters (use-with parameters binders args a) uses.0 t (use_of scope parameters body binders args) uses.1 (uses.2 (use-with parameters binders args a)),
    )
