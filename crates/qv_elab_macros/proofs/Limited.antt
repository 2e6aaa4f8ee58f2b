-- The checks of a body, as depths of its parameters, tell where a use of it fails.
use Rattle.std.proofs.Common.{◌≡◌, ◌≤◌, ◌<◌, ◌+◌, ℕ, zero, suc, ◌⊎◌, inl, inr, Bool, true, false, Some, List, [], ◌∷◌, ◌++◌, map, length, get_or, slice_get, refl, sym, subst, ◌∙◌, Ok, Err, arith}
use Rattle.std.specs.Prelude.{Result, All, Any, IfOk, IsOk, IsErr, nat_le, nat_lt, zip}
use Rattle.std.specs.List.{AllByRecursion}
use Rattle.std.proofs.lemmas.Bool.Decides.{nat_tests}
use Rattle.std.proofs.lemmas.List.{append-nil}
use Rattle.std.proofs.lemmas.List.Elements.{recursion_from_All}
use Rattle.qv_sexpr.specs.Script.{Tree as Expr}
use Rattle.qv_words.specs.declared.sort.Sort.{Sort}
use Rattle.qv_words.specs.Tree.{Tree}
use Rattle.qv_words.proofs.Elements.{all-at}
use Rattle.qv_words.specs.Sorted.{IsSorted, no_levels, free_levels}
use Rattle.qv_store.specs.Nodes.{tree_at}
use Rattle.qv_store.specs.Stores.{StandsAt}
use Rattle.qv_elab_macros.specs.declared.standing.Watched.{Watched}
use Rattle.qv_elab_defs.specs.Faults.{Fault}
use Rattle.qv_elab_defs.specs.Written.{HasTokens}
use Rattle.qv_elab_defs.specs.Scopes.{Named, Scope, constants_of, below_binders, outermost}
use Rattle.qv_elab_defs.specs.Applying.{depth_of, depth_limit}
use Rattle.qv_elab_defs.specs.Putting.{moved_level}
use Rattle.qv_elab_defs.specs.TreeLaws.{AreParameters, IsScope}
use Rattle.qv_elab_defs.specs.UseLaws.{use_of}
use Rattle.qv_elab_macros.specs.Readings.{IsLimitedBy, IsReading}
use Rattle.qv_elab_macros.specs.declared.body.Body.{Body}
use Rattle.qv_elab_macros.specs.DepthUnder.{depth_under}
use Rattle.qv_elab_defs.specs.Looking.{Look, Deep, Used, looks_of}
use Rattle.qv_elab_macros.specs.Checked.{IsRead, AreArgChecks, IsUseChecked, IsCheckedBy, nothing, deep, used}
use Rattle.qv_elab_defs.proofs.Alike.{Use, put}
use Rattle.qv_elab_defs.proofs.Uses.{length-sorts, moves-use, use-with}
use Rattle.qv_elab_defs.proofs.OpenElaborated.{with_levels}
use Rattle.qv_elab_defs.proofs.ElaboratedTrees.{sorts_of, good-scope}
use Rattle.qv_elab_macros.proofs.Limits.{Fails, AreLow, fails-by_depths}
use Rattle.qv_elab_defs.proofs.Watching.{FailsAt, SomeFails, AllPass, Gives, watches}
use Rattle.qv_elab_defs.proofs.Sounding.{Covered, AreSound, IsPlaced, IsSound, covered-variables, sounds}
use Rattle.qv_elab_defs.proofs.PutArguments.{put-arguments}

no-error : {A F : Type 0} (r : Result A F) → IsOk r → IsErr r → ⊥
no-error (Ok a) h k = absurd (cc)
no-error (Err f) h k = absurd (cc)

module _ (sorts : List Sort) (K : List Sort) (trees : List Tree) (u : Use sorts) (small : AllByRecursion (λ a. depth_of a ≤ depth_limit) u.args)
    (sorted : AllByRecursion IsSorted u.args) (below : AllByRecursion (λ t. AllByRecursion (λ leaf. leaf.0 < u.binders) (free_levels t)) u.args) where
  fails-front : (cs ds : List Watched) → Fails sorts u small trees cs → Fails sorts u small trees (cs ++ ds)
  fails-front [] ds h = absurd h
  fails-front (c ∷ cs) ds (inl h) = inl h
  fails-front (c ∷ cs) ds (inr h) = inr (fails-front cs ds h)

  fails-back : (cs ds : List Watched) → Fails sorts u small trees ds → Fails sorts u small trees (cs ++ ds)
  fails-back [] ds h = h
  fails-back (c ∷ cs) ds h = inr (fails-back cs ds h)

  fails-either : (cs ds : List Watched) → Fails sorts u small trees (cs ++ ds) → Fails sorts u small trees cs ⊎ Fails sorts u small trees ds
  fails-either [] ds h = inr h
  fails-either (c ∷ cs) ds (inl h) = inl (inl h)
  fails-either (c ∷ cs) ds (inr h) = go (fails-either cs ds h)
    where
      go : Fails sorts u small trees cs ⊎ Fails sorts u small trees ds → Fails sorts u small trees (c ∷ cs) ⊎ Fails sorts u small trees ds
      go (inl f) = inl (inr f)
      go (inr f) = inr f

  low-both : (cs ds : List Watched) → AreLow sorts u small trees cs → AreLow sorts u small trees ds → AreLow sorts u small trees (cs ++ ds)
  low-both [] ds h k = k
  low-both (c ∷ cs) ds h k = (h.0, low-both cs ds h.1 k)

  -- all of some trees are no deeper than the limit with the arguments put in, or one is deeper
  record IsHigh (ts : List Tree) : Type 0 where
    place : ℕ
    tree : Tree
    at : slice_get ts place ≡ Some tree
    high : depth_limit < depth_of (put sorts u tree)

  shallow-or : (ts : List Tree) → AllByRecursion (λ t. depth_of t ≤ depth_limit) (map (put sorts u) ts) ⊎ IsHigh ts
  shallow-or [] = inl tt
  shallow-or (t ∷ ts) = go (nat_le (depth_of (put sorts u t)) depth_limit) refl (shallow-or ts)
    where
      go : (b : Bool) → nat_le (depth_of (put sorts u t)) depth_limit ≡ b → AllByRecursion (λ t. depth_of t ≤ depth_limit) (map (put sorts u) ts) ⊎ IsHigh ts → AllByRecursion (λ t. depth_of t ≤ depth_limit) (map (put sorts u) (t ∷ ts)) ⊎ IsHigh (t ∷ ts)
      go true e (inl h) = let low : depth_of (put sorts u t) ≤ depth_limit = grind (arith, nat_tests) in inl (low, h)
      go true e (inr h) = inr (record { place = suc h.place; tree = h.tree; at = h.at; high = h.high })
      go false e h = let high : depth_limit < depth_of (put sorts u t) = grind (arith, nat_tests) in inr (record { place = 0; tree = t; at = refl; high = high })

  high-fails : (ts : List Tree) (ds : List ℕ) (cs : List Watched) (i : ℕ) (t : Tree) → AreArgChecks trees ts ds cs → slice_get ts i ≡ Some t → depth_limit < depth_of (put sorts u t) → Fails sorts u small trees cs
  high-fails [] ds cs i t h e lt = absurd (cc)
  high-fails (s ∷ ts) [] cs i t h e lt = absurd h
  high-fails (s ∷ ts) (d ∷ ds) [] i t h e lt = absurd h
  high-fails (s ∷ ts) (d ∷ ds) (c ∷ cs) zero t h e lt =
      let same : s ≡ t = cc in
      let is : tree_at trees c.id ≡ t = h.0.tree ∙ same in
      let high : depth_limit < depth_of (put sorts u (tree_at trees c.id)) = subst (λ (v : Tree). depth_limit < depth_of (put sorts u v)) (sym is) lt in
      inl (omega (arith, high))
  high-fails (s ∷ ts) (d ∷ ds) (c ∷ cs) (suc i) t h e lt = inr (high-fails ts ds cs i t h.2 e lt)

  -- the pairs of depths and arguments
  any-fails : (ts : List Tree) (ds : List ℕ) (cs : List Watched) → AreArgChecks trees ts ds cs → (k : ℕ) (x : ℕ × Tree) → k < length (zip ds (map (put sorts u) ts)) → get_or (zip ds (map (put sorts u) ts)) k x ≡ x → depth_limit < depth_of x.1 + x.0 → Fails sorts u small trees cs
  any-fails [] [] [] h k x lt e over = absurd (omega (arith, lt))
  any-fails [] [] (c ∷ cs) h k x lt e over = absurd h
  any-fails [] (d ∷ ds) cs h k x lt e over = absurd h
  any-fails (t ∷ ts) [] cs h k x lt e over = absurd h
  any-fails (t ∷ ts) (d ∷ ds) [] h k x lt e over = absurd h
  any-fails (t ∷ ts) (d ∷ ds) (c ∷ cs) h zero x lt e over =
      let here : depth_limit < depth_of (put sorts u t) + d = subst (λ (y : ℕ × Tree). depth_limit < depth_of y.1 + y.0) (sym e) over in
      let at : depth_limit < depth_of (put sorts u (tree_at trees c.id)) + d = subst (λ (v : Tree). depth_limit < depth_of (put sorts u v) + d) (sym h.0.tree) here in
      inl (omega (arith, at, h.1))
  any-fails (t ∷ ts) (d ∷ ds) (c ∷ cs) h (suc k) x lt e over = inr (any-fails ts ds cs h.2 k x (omega (arith, lt)) e over)

  fails-any : (ts : List Tree) (ds : List ℕ) (cs : List Watched) → AreArgChecks trees ts ds cs → Fails sorts u small trees cs → Any (λ x. depth_limit < depth_of x.1 + x.0) (zip ds (map (put sorts u) ts))
  fails-any [] [] [] h f = absurd f
  fails-any [] [] (c ∷ cs) h f = absurd h
  fails-any [] (d ∷ ds) cs h f = absurd h
  fails-any (t ∷ ts) [] cs h f = absurd h
  fails-any (t ∷ ts) (d ∷ ds) [] h f = absurd h
  fails-any (t ∷ ts) (d ∷ ds) (c ∷ cs) h (inl f) =
      let at : depth_limit < depth_of (put sorts u t) + c.depth = subst (λ (v : Tree). depth_limit < depth_of (put sorts u v) + c.depth) h.0.tree f in
      (0, (d, put sorts u t), omega arith, refl, omega (arith, at, h.1))
  fails-any (t ∷ ts) (d ∷ ds) (c ∷ cs) h (inr f) = let rest = fails-any ts ds cs h.2 f in (suc rest.0, rest.1, omega (arith, rest.2), rest.3, rest.4)

  -- the arguments are not too deep where the body is read
  low-checks : (ts : List Tree) (ds : List ℕ) (cs : List Watched) → AreArgChecks trees ts ds cs → (Any (λ x. depth_limit < depth_of x.1 + x.0) (zip ds ts) → ⊥) → AreLow sorts u small trees cs
  low-checks [] [] [] h n = tt
  low-checks [] [] (c ∷ cs) h n = absurd h
  low-checks [] (d ∷ ds) cs h n = absurd h
  low-checks (t ∷ ts) [] cs h n = absurd h
  low-checks (t ∷ ts) (d ∷ ds) [] h n = absurd h
  low-checks (t ∷ ts) (d ∷ ds) (c ∷ cs) h n = (go (nat_lt depth_limit (depth_of t + d)) refl, low-checks ts ds cs h.2 (λ a. n (suc a.0, a.1, omega (arith, a.2), a.3, a.4)))
    where
      go : (b : Bool) → nat_lt depth_limit (depth_of t + d) ≡ b → depth_of (tree_at trees c.id) + c.depth ≤ depth_limit
      go true e = let lt : depth_limit < depth_of t + d = grind (arith, nat_tests) in absurd (n (0, (d, t), omega arith, refl, lt))
      go false e =
          let le : depth_of t + d ≤ depth_limit = grind (arith, nat_tests) in
          let at : depth_of (tree_at trees c.id) + d ≤ depth_limit = subst (λ (v : Tree). depth_of v + d ≤ depth_limit) (sym h.0.tree) le in
          omega (arith, at, h.1)

  are-low : (cs : List Watched) (ls : List Look) → IsCheckedBy trees cs ls → AreLow sorts u small trees cs
  are-low _ _ (nothing _) = tt
  are-low _ _ (deep _ cs ls c t h at zero-depth low) =
      let own : depth_of (tree_at trees c.id) ≤ depth_limit = subst (λ (v : Tree). depth_of v ≤ depth_limit) (sym at.tree) low in
      low-both cs (c ∷ []) (are-low cs ls h) (omega (arith, own, zero-depth), tt)
  are-low _ _ (used _ cs more ls body b ts h x) =
      low-both cs more (are-low cs ls h)
      (low-checks ts x.depths more x.arg_checks (λ any. no-error (body b ts) x.ok (let R : Result Tree Fault → Type 0 = λ r. IsErr r in subst R (sym (x.definition b ts)) ((x.limited b ts x.arguments).1 any))))

  -- one use
  use-fails : (cs : List Watched) (ls : List Look) (body : ℕ → List Tree → Result Tree Fault) (b : ℕ) (ts : List Tree) → IsUseChecked trees cs body b ts → IsPlaced sorts K b ts → FailsAt sorts u (Used body b ts) → Fails sorts u small trees cs
  use-fails cs ls body b ts x p f = go (shallow-or ts)
    where
      go : AllByRecursion (λ t. depth_of t ≤ depth_limit) (map (put sorts u) ts) ⊎ IsHigh ts → Fails sorts u small trees cs
      go (inr h) = high-fails ts x.depths cs h.place h.tree x.arg_checks h.at h.high
      go (inl s) =
          let args = put-arguments sorts u below sorted K p.levels b p.begin p.ends p.from x.parameters ts p.good x.arguments s in
          let err : IsErr (use_of x.scope x.parameters x.expr (moved_level (length sorts) u.binders b) (map (put sorts u) ts)) =
          (let R : Result Tree Fault → Type 0 = λ r. IsErr r in subst R (x.definition (moved_level (length sorts) u.binders b) (map (put sorts u) ts)) f) in
          let any = (x.limited (moved_level (length sorts) u.binders b) (map (put sorts u) ts) args).0 err in
          any-fails ts x.depths cs x.arg_checks any.0 any.1 any.2 any.3 any.4

  fails-use : (cs : List Watched) (ls : List Look) (body : ℕ → List Tree → Result Tree Fault) (b : ℕ) (ts : List Tree) → IsUseChecked trees cs body b ts → IsPlaced sorts K b ts → AllByRecursion (Covered sorts K ls) ts → Fails sorts u small trees cs → FailsAt sorts u (Used body b ts) ⊎ SomeFails sorts u ls
  fails-use cs ls body b ts x p covered f = go (shallow-or ts)
    where
      go : AllByRecursion (λ t. depth_of t ≤ depth_limit) (map (put sorts u) ts) ⊎ IsHigh ts → FailsAt sorts u (Used body b ts) ⊎ SomeFails sorts u ls
      go (inr h) = by (all-at (Covered sorts K ls) ts h.place h.tree covered h.at u small)
        where
          by : (depth_of (put sorts u h.tree) ≤ depth_limit) ⊎ SomeFails sorts u ls → FailsAt sorts u (Used body b ts) ⊎ SomeFails sorts u ls
          by (inl le) = let high = h.high in absurd (omega arith)
          by (inr g) = inr g
      go (inl s) =
          let args = put-arguments sorts u below sorted K p.levels b p.begin p.ends p.from x.parameters ts p.good x.arguments s in
          let any = fails-any ts x.depths cs x.arg_checks f in
          let err = (x.limited (moved_level (length sorts) u.binders b) (map (put sorts u) ts) args).1 any in
          inl (let R : Result Tree Fault → Type 0 = λ r. IsErr r in subst R (sym (x.definition (moved_level (length sorts) u.binders b) (map (put sorts u) ts))) err)

  -- all of them
  some-fails : (cs : List Watched) (ls : List Look) → IsCheckedBy trees cs ls → AreSound sorts K ls → SomeFails sorts u ls → Fails sorts u small trees cs
  some-fails _ _ (nothing _) sound f = absurd f
  some-fails _ _ (deep _ cs ls c t h at zero-depth low) sound (inl f) =
      let here : depth_limit < depth_of (put sorts u (tree_at trees c.id)) = subst (λ (v : Tree). depth_limit < depth_of (put sorts u v)) (sym at.tree) f in
      fails-back cs (c ∷ []) (inl (omega (arith, here)))
  some-fails _ _ (deep _ cs ls c t h at zero-depth low) sound (inr f) = fails-front cs (c ∷ []) (some-fails cs ls h sound f)
  some-fails _ _ (used _ cs more ls body b ts h x) sound (inl f) = fails-back cs more (use-fails more ls body b ts x sound.1 f)
  some-fails _ _ (used _ cs more ls body b ts h x) sound (inr f) = fails-front cs more (some-fails cs ls h sound.2 f)

  fails-some : (cs : List Watched) (ls : List Look) → IsCheckedBy trees cs ls → AreSound sorts K ls → Fails sorts u small trees cs → SomeFails sorts u ls
  fails-some _ _ (nothing _) sound f = absurd f
  fails-some _ _ (deep _ cs ls c t h at zero-depth low) sound f = go (fails-either cs (c ∷ []) f) (fails-some cs ls h sound)
    where
      go : Fails sorts u small trees cs ⊎ Fails sorts u small trees (c ∷ []) → (Fails sorts u small trees cs → SomeFails sorts u ls) → SomeFails sorts u (Deep t ∷ ls)
      go (inl g) rest = inr (rest g)
      go (inr (inl g)) rest =
          let at-tree : depth_limit < depth_of (put sorts u t) + c.depth = subst (λ (v : Tree). depth_limit < depth_of (put sorts u v) + c.depth) at.tree g in
          inl (omega (arith, at-tree, zero-depth))
      go (inr (inr g)) rest = absurd g
  fails-some _ _ (used _ cs more ls body b ts h x) sound f = go (fails-either cs more f) (fails-some cs ls h sound.2)
    where
      go : Fails sorts u small trees cs ⊎ Fails sorts u small trees more → (Fails sorts u small trees cs → SomeFails sorts u ls) → SomeFails sorts u (Used body b ts ∷ ls)
      go (inl g) rest = inr (rest g)
      go (inr g) rest = fails-use more ls body b ts x sound.1 sound.0 g

-- a use by what was looked at
error-fails : (sorts : List Sort) (u : Use sorts) (ws : List Look) (t : Tree) (r : Result Tree Fault) → Gives sorts (put sorts) u ws t r → IsErr r → SomeFails sorts u ws
error-fails sorts u ws t (Ok v) g e = absurd (cc)
error-fails sorts u ws t (Err f) g e = g

not-both : (sorts : List Sort) (u : Use sorts) (ws : List Look) → AllPass sorts u ws → SomeFails sorts u ws → ⊥
not-both sorts u [] p f = f
not-both sorts u (Deep w ∷ ws) p (inl f) = let low = p.0 in omega arith
not-both sorts u (Used body b ts ∷ ws) p (inl f) = no-error (body (moved_level (length sorts) u.binders b) (map (put sorts u) ts)) p.0 f
not-both sorts u (Deep w ∷ ws) p (inr f) = not-both sorts u ws p.1 f
not-both sorts u (Used body b ts ∷ ws) p (inr f) = not-both sorts u ws p.1 f

fails-error : (sorts : List Sort) (u : Use sorts) (ws : List Look) (t : Tree) (r : Result Tree Fault) → Gives sorts (put sorts) u ws t r → SomeFails sorts u ws → IsErr r
fails-error sorts u ws t (Ok v) g f = absurd (not-both sorts u ws g.1 f)
fails-error sorts u ws t (Err e) g f = refl

low-leaves : (n : ℕ) (ts : List Tree) → AllByRecursion (λ t. All (λ leaf. leaf.0 < n) (free_levels t)) ts → AllByRecursion (λ t. AllByRecursion (λ leaf. leaf.0 < n) (free_levels t)) ts
low-leaves n [] h = tt
low-leaves n (t ∷ ts) h = (recursion_from_All (λ leaf. leaf.0 < n) (free_levels t) h.0, low-leaves n ts h.1)

-- a use has a fault exactly where an argument is too deep for its parameter
pub limited-by : (trees : List Tree) (scope : Scope) (parameters : Named Sort) (e : Expr) (t : Tree) (looks : List Look) (checks : List Watched) (depths : List ℕ) → IsScope scope → AreParameters parameters → HasTokens e
    → looks_of e (below_binders parameters (outermost scope)) [] ≡ Ok (t, looks) → IsCheckedBy trees checks looks → length depths ≡ length parameters
    → ((l : ℕ) → l < length parameters → get_or depths l 0 ≡ depth_under trees l checks) → IsLimitedBy scope parameters e depths
limited-by trees scope parameters e t looks checks depths h p w made checked many are binders args a =
    let sorts = sorts_of parameters in
    let K = sorts_of (constants_of scope) in
    let M = with_levels 0 parameters no_levels in
    let c = below_binders parameters (outermost scope) in
    let u = use-with parameters binders args a in
    let moves = moves-use scope parameters h p in
    let same = length-sorts parameters in
    let small = recursion_from_All (λ t. depth_of t ≤ depth_limit) args a.shallow in
    let sorted = recursion_from_All IsSorted args a.sorted in
    let below = low-leaves binders args (recursion_from_All (λ t. All (λ leaf. leaf.0 < binders) (free_levels t)) args a.below) in
    let watched = of-made (watches sorts K e c (λ v. record { scope = scope; bound = zip (map (λ x. x.0) parameters) v.args; binders = v.binders }) M w moves []) in
    let sounded = of-sound (sounds sorts K e c (λ v. record { scope = scope; bound = zip (map (λ x. x.0) parameters) v.args; binders = v.binders }) M [] w moves (good-scope scope h K [] 0 (sym (append-nil K))) tt (covered-variables sorts K [] 0 parameters [] tt)) in
    let behind : looks ≡ watched.0 = watched.1 ∙ append-nil watched.0 in
    let gives : Gives sorts (put sorts) u looks t (use_of scope parameters e binders args) = subst (λ (ws : List Look). Gives sorts (put sorts) u ws t (use_of scope parameters e binders args)) (sym behind) (watched.2 u) in
    let told = fails-by_depths sorts u small trees checks depths (are-low sorts K trees u small sorted below checks looks checked) (many ∙ sym same) (λ l lt. are l (omega (arith, lt, same))) in (
      (λ err. told.0 (some-fails sorts K trees u small sorted below checks looks checked sounded (error-fails sorts u looks t (use_of scope parameters e binders args) gives err))),
      (λ any. fails-error sorts u looks t (use_of scope parameters e binders args) gives (fails-some sorts K trees u small sorted below checks looks checked sounded (told.1 any))),
    )
  where
    of-made : IfOk (looks_of e (below_binders parameters (outermost scope)) []) (λ r. (ws : List Look) × (r.1 ≡ ws ++ []) × ((v : Use (sorts_of parameters)) → Gives (sorts_of parameters) (put (sorts_of parameters)) v ws r.0 (use_of scope parameters e v.binders v.args)))
        → (ws : List Look) × (looks ≡ ws ++ []) × ((v : Use (sorts_of parameters)) → Gives (sorts_of parameters) (put (sorts_of parameters)) v ws t (use_of scope parameters e v.binders v.args))
    of-made k =
        subst (λ (x : Result (Tree × List Look) Fault). IfOk x (λ r. (ws : List Look) × (r.1 ≡ ws ++ []) × ((v : Use (sorts_of parameters)) → Gives (sorts_of parameters) (put (sorts_of parameters)) v ws r.0 (use_of scope parameters e v.binders v.args)))) made k

    of-sound : IfOk (looks_of e (below_binders parameters (outermost scope)) []) (IsSound (sorts_of parameters) (sorts_of (constants_of scope)) (Covered (sorts_of parameters) (sorts_of (constants_of scope))) []) → AreSound (sorts_of parameters) (sorts_of (constants_of scope)) looks
    of-sound k = (let own = subst (λ (x : Result (Tree × List Look) Fault). IfOk x (IsSound (sorts_of parameters) (sorts_of (constants_of scope)) (Covered (sorts_of parameters) (sorts_of (constants_of scope))) [])) made k in own.sound)

pub is-reading : (trees : List Tree) (scope : Scope) (parameters : Named Sort) (s : Sort) (e : Expr) (id many : ℕ) (checks : List Watched) (body : Body) → IsScope scope → AreParameters parameters → HasTokens e → length parameters ≡ many
    → IsRead trees scope parameters s e id checks → body.id ≡ id → length body.depths.items ≡ many → ((l : ℕ) → l < many → get_or body.depths.items l 0 ≡ depth_under trees l checks) → IsReading trees scope parameters s e body
is-reading trees scope parameters s e id many checks body h p w count r same long are = record {
  tree = r.tree;
  reading = r.reading;
  stands = subst (λ n. StandsAt trees n r.tree) (sym same) r.stands;
  count = long ∙ sym count;
  limited = limited-by trees scope parameters e r.made r.looks checks body.depths.items h p w r.looked r.checked (long ∙ sym count) (λ l lt. are l (omega (arith, lt, count)));
}
