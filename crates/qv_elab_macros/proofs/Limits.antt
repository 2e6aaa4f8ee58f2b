-- The depths of parameters tell where a use is too deep.
use Rattle.std.proofs.Common.{◌≡◌, ◌≤◌, ◌<◌, ◌+◌, ◌-◌, ◌⊎◌, inl, inr, ℕ, zero, suc, max, Option, Some, None, List, [], ◌∷◌, length, get_or, refl, sym, subst, slice_get, arith}
use Rattle.std.specs.Prelude.{Any, option_map, unwrap_or, zip, ◌↔◌}
use Rattle.std.specs.List.{AllByRecursion}
use Rattle.std.proofs.lemmas.Option.{slice_get-get_or, slice_get_within, get_or_from_slice_get}
use Rattle.std.proofs.Math.Nat.{le-max_left, le-max_right}
use Rattle.qv_words.specs.declared.sort.Sort.{Sort}
use Rattle.qv_words.specs.Tree.{Tree}
use Rattle.qv_words.proofs.Elements.{all-at}
use Rattle.qv_store.specs.Nodes.{tree_at}
use Rattle.qv_elab_defs.specs.Applying.{depth_of, depth_limit}
use Rattle.qv_elab_defs.specs.Limit.{saturated}
use Rattle.qv_elab_macros.specs.declared.standing.Watched.{Watched}
use Rattle.qv_elab_defs.specs.Standing.{standing}
use Rattle.qv_elab_macros.specs.DepthUnder.{depth_from, depth_under}
use Rattle.qv_elab_defs.proofs.Alike.{Use, put}
use Rattle.qv_elab_defs.proofs.Depths.{max-is, IsOver, tree-over, over-tree}

-- a pair of lists
pub zip-any : (ds : List ℕ) (args : List Tree) (l d : ℕ) (a : Tree) → slice_get args l ≡ Some a → slice_get ds l ≡ Some d → depth_limit < depth_of a + d → Any (λ x. depth_limit < depth_of x.1 + x.0) (zip ds args)
zip-any [] args l d a e f h = absurd (cc)
zip-any (b ∷ ds) [] l d a e f h = absurd (cc)
zip-any (b ∷ ds) (t ∷ ts) zero d a e f h =
    let tree : t ≡ a = cc in
    let depth : b ≡ d = cc in
    let here : depth_limit < depth_of t + b = subst (λ (v : Tree). depth_limit < depth_of v + b) (sym tree) (omega (arith, h, depth)) in
    (0, (b, t), omega arith, refl, here)
zip-any (b ∷ ds) (t ∷ ts) (suc l) d a e f h = let rest = zip-any ds ts l d a e f h in (suc rest.0, rest.1, omega (arith, rest.2), rest.3, rest.4)

-- what some pair says
record IsOverAt (ds : List ℕ) (args : List Tree) : Type 0 where
  level : ℕ
  depth : ℕ
  arg : Tree
  arg_at : slice_get args level ≡ Some arg
  depth_at : slice_get ds level ≡ Some depth
  over : depth_limit < depth_of arg + depth

any-zip : (ds : List ℕ) (args : List Tree) (k : ℕ) (x : ℕ × Tree) → k < length (zip ds args) → get_or (zip ds args) k x ≡ x → depth_limit < depth_of x.1 + x.0 → IsOverAt ds args
any-zip [] args k x lt e h = absurd (omega (arith, lt))
any-zip (d ∷ ds) [] k x lt e h = absurd (omega (arith, lt))
any-zip (d ∷ ds) (t ∷ ts) zero x lt e h =
    record { level = 0; depth = d; arg = t; arg_at = refl; depth_at = refl; over = subst (λ (y : ℕ × Tree). depth_limit < depth_of y.1 + y.0) (sym e) h }
any-zip (d ∷ ds) (t ∷ ts) (suc k) x lt e h =
    let rest = any-zip ds ts k x (omega (arith, lt)) e h in
    record { level = suc rest.level; depth = rest.depth; arg = rest.arg; arg_at = rest.arg_at; depth_at = rest.depth_at; over = rest.over }

module _ (sorts : List Sort) (u : Use sorts) (shallow : AllByRecursion (λ a. depth_of a ≤ depth_limit) u.args) where
  -- an argument that is too deep at the depth of its level
  record HasOver (f : ℕ → ℕ) : Type 0 where
    level : ℕ
    arg : Tree
    arg_at : slice_get u.args level ≡ Some arg
    within : level < length sorts
    over : depth_limit < depth_of arg + f level

  over-along : (f g : ℕ → ℕ) → ((l : ℕ) → f l ≤ g l) → HasOver f → HasOver g
  over-along f g le h = record { level = h.level; arg = h.arg; arg_at = h.arg_at; within = h.within; over = (let up = le h.level in let low = h.over in omega arith) }

  -- one tree
  from-standing : (o : Option ℕ) (a : Tree) (d : ℕ) → d ≤ depth_limit → IsOver (depth_limit - d) o a → depth_limit < depth_of a + unwrap_or (option_map (λ n. saturated (n + d)) o) 0
  from-standing None a d le h = absurd h
  from-standing (Some n) a d le h = omega (arith, h, le)

  to-standing : (o : Option ℕ) (a : Tree) (d : ℕ) → d ≤ depth_limit → depth_of a ≤ depth_limit → depth_limit < depth_of a + unwrap_or (option_map (λ n. saturated (n + d)) o) 0 → IsOver (depth_limit - d) o a
  to-standing None a d le low h = absurd (omega (arith, h, low))
  to-standing (Some n) a d le low h = omega (arith, h, le)

  tree-has : (t : Tree) (d : ℕ) → depth_of t + d ≤ depth_limit → depth_limit < depth_of (put sorts u t) + d → HasOver (λ l. depth_from l t (Some d))
  tree-has t d low high =
      let le : d ≤ depth_limit = omega (arith, low) in
      let h = tree-over sorts u t (depth_limit - d) (omega (arith, low)) (omega (arith, high, le)) in
      record { level = h.0; arg = h.1; arg_at = h.2; within = h.3; over = from-standing (standing h.0 t) h.1 d le h.4 }

  has-tree : (t : Tree) (d : ℕ) → depth_of t + d ≤ depth_limit → HasOver (λ l. depth_from l t (Some d)) → depth_limit < depth_of (put sorts u t) + d
  has-tree t d low h =
      let le : d ≤ depth_limit = omega (arith, low) in
      let arg-low : depth_of h.arg ≤ depth_limit = all-at (λ a. depth_of a ≤ depth_limit) u.args h.level h.arg shallow h.arg_at in
      let over = over-tree sorts u t (depth_limit - d) h.level h.arg h.arg_at h.within (to-standing (standing h.level t) h.arg d le arg-low h.over) in
      omega (arith, over, le)

  -- some checked tree is too deep with the arguments put in
  abbrev pub Fails : List Tree → List Watched → Type 0
  Fails trees [] = ⊥
  Fails trees (c ∷ cs) = (depth_limit < depth_of (put sorts u (tree_at trees c.id)) + c.depth) ⊎ Fails trees cs

  abbrev pub AreLow : List Tree → List Watched → Type 0
  AreLow trees [] = Unit {0}
  AreLow trees (c ∷ cs) = (depth_of (tree_at trees c.id) + c.depth ≤ depth_limit) × AreLow trees cs

  fails-has : (trees : List Tree) (cs : List Watched) → AreLow trees cs → Fails trees cs → HasOver (λ l. depth_under trees l cs)
  fails-has trees [] low h = absurd h
  fails-has trees (c ∷ cs) low (inl h) =
      over-along (λ l. depth_from l (tree_at trees c.id) (Some c.depth)) (λ l. depth_under trees l (c ∷ cs)) (λ l. le-max_left (depth_from l (tree_at trees c.id) (Some c.depth)) (depth_under trees l cs))
      (tree-has (tree_at trees c.id) c.depth low.0 h)
  fails-has trees (c ∷ cs) low (inr h) =
      over-along (λ l. depth_under trees l cs) (λ l. depth_under trees l (c ∷ cs)) (λ l. le-max_right (depth_from l (tree_at trees c.id) (Some c.depth)) (depth_under trees l cs)) (fails-has trees cs low.1 h)

  has-fails : (trees : List Tree) (cs : List Watched) → AreLow trees cs → HasOver (λ l. depth_under trees l cs) → Fails trees cs
  has-fails trees [] low h =
      let arg-low : depth_of h.arg ≤ depth_limit = all-at (λ a. depth_of a ≤ depth_limit) u.args h.level h.arg shallow h.arg_at in
      let over = h.over in
      absurd (omega arith)
  has-fails trees (c ∷ cs) low h =
      go (max-is (depth_from h.level (tree_at trees c.id) (Some c.depth)) (depth_under trees h.level cs)) (has-fails trees cs low.1)
    where
      over : depth_limit < depth_of h.arg + max (depth_from h.level (tree_at trees c.id) (Some c.depth)) (depth_under trees h.level cs)
      over = h.over

      go : (max (depth_from h.level (tree_at trees c.id) (Some c.depth)) (depth_under trees h.level cs) ≡ depth_from h.level (tree_at trees c.id) (Some c.depth)) ⊎ (max (depth_from h.level (tree_at trees c.id) (Some c.depth)) (depth_under trees h.level cs) ≡ depth_under trees h.level cs)
          → (HasOver (λ l. depth_under trees l cs) → Fails trees cs) → Fails trees (c ∷ cs)
      go (inl e) rest =
          inl (has-tree (tree_at trees c.id) c.depth low.0 (record { level = h.level; arg = h.arg; arg_at = h.arg_at; within = h.within; over = omega (arith, over, e) }))
      go (inr e) rest = inr (rest (record { level = h.level; arg = h.arg; arg_at = h.arg_at; within = h.within; over = omega (arith, over, e) }))

  -- so the depths of the parameters tell it
  pub fails-by_depths : (trees : List Tree) (cs : List Watched) (ds : List ℕ) → AreLow trees cs → length ds ≡ length sorts → ((l : ℕ) → l < length sorts → get_or ds l 0 ≡ depth_under trees l cs)
      → Fails trees cs ↔ Any (λ x. depth_limit < depth_of x.1 + x.0) (zip ds u.args)
  fails-by_depths trees cs ds low many are = (fails-any, any-fails)
    where
      fails-any : Fails trees cs → Any (λ x. depth_limit < depth_of x.1 + x.0) (zip ds u.args)
      fails-any f =
          let h = fails-has trees cs low f in
          let lt : h.level < length ds = omega (arith, h.within, many) in
          let same = are h.level h.within in
          let over = h.over in
          zip-any ds u.args h.level (get_or ds h.level 0) h.arg h.arg_at (slice_get-get_or ds h.level 0 lt) (omega arith)

      any-fails : Any (λ x. depth_limit < depth_of x.1 + x.0) (zip ds u.args) → Fails trees cs
      any-fails a =
          let h = any-zip ds u.args a.0 a.1 a.2 a.3 a.4 in
          let within : h.level < length sorts = omega (arith, slice_get_within ds h.level h.depth h.depth_at, many) in
          let read : get_or ds h.level 0 ≡ h.depth = get_or_from_slice_get ds h.level h.depth 0 h.depth_at in
          let same = are h.level within in
          let over = h.over in
          has-fails trees cs low (record { level = h.level; arg = h.arg; arg_at = h.arg_at; within = within; over = omega arith })
