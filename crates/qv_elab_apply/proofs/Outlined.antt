-- What the outlines of trees tell of chains.
use Rattle.std.proofs.Common.{◌≡◌, ◌≤◌, ◌<◌, ◌+◌, ℕ, max, Bool, true, false, cond, Option, Some, None, List, [], ◌∷◌, map, length, refl, sym, ap, subst, ◌∙◌, Ok, Err, arith}
use Rattle.std.specs.Prelude.{Result, All, IfOk, IsOk, IsOkAnd, is_ok, nat_le, unwrap_or}
use Rattle.std.proofs.lemmas.List.Elements.{recursion_from_All}
use Rattle.qv_store.specs.Nodes.{tree_at}
use Rattle.qv_store.specs.Walks.{named}
use Rattle.qv_store.specs.Stores.{StandsAt, AreShared}
use Rattle.std.specs.List.{AllByRecursion}
use Rattle.std.proofs.lemmas.Bool.Decides.{nat_tests}
use Rattle.qv_words.specs.declared.sort.Sort.{Sort}
use Rattle.qv_words.specs.declared.sort.Sort.TheVariants.{Bool as BoolSort}
use Rattle.qv_words.specs.declared.op.Op.{Op}
use Rattle.qv_words.specs.Rank.{result_sort}
use Rattle.qv_words.specs.Tree.{Tree, Apply}
use Rattle.qv_words.specs.Sorted.{IsSorted}
use Rattle.qv_sorts.specs.declared.ranking.RankFault.{RankFault}
use Rattle.qv_sorts.specs.Faults.{fault_of}
use Rattle.qv_elab_defs.specs.declared.faults.ElabKind.{ElabKind}
use Rattle.qv_elab_defs.specs.declared.faults.ElabKind.TheVariants.{DepthLimit}
use Rattle.qv_elab_defs.specs.declared.faults.ElabFault.{ElabFault}
use Rattle.qv_elab_defs.specs.declared.faults.ElabFault.TheVariants.{At}
use Rattle.qv_elab_apply.specs.declared.outlines.Outline.{Outline}
use Rattle.qv_elab_defs.specs.Faults.{refuse, ◌>>=◌}
use Rattle.qv_elab_defs.specs.Applying.{sort_of, in_trees, unless_fault, applied, to_the_left, to_the_right, depth_of, depth_limit}
use Rattle.qv_elab_defs.specs.Answers.{Answers}
use Rattle.qv_elab_defs.specs.Built.{limited}
use Rattle.qv_elab_defs.specs.Limit.{saturated}
use Rattle.qv_elab_apply.specs.Outlines.{outline_of, unless_rank, joined, joined_left, joined_right, all_joined_right, outlined, fault_at}
use Rattle.qv_elab_apply.specs.Chained.{all_to_the_right}
use Rattle.qv_elab_defs.proofs.OpenApplied.{ok-bind}
use Rattle.qv_elab_defs.proofs.Ranked.{sorted-apply, sort-apply, sorted-each}

pub saturated-pair : (m n : ℕ) → saturated (1 + max m (max n 0)) ≡ saturated (1 + max (saturated m) (saturated n))
saturated-pair m n = omega arith

-- an application of two trees
pub sorted-applied : (o : Op) (t u : Tree) → IsSorted t → IsSorted u → IfOk (applied o (t ∷ u ∷ [])) IsSorted
sorted-applied o t u h k = go (fault_of o (sort_of t ∷ sort_of u ∷ [])) refl
  where
    go : (f : Option RankFault) → fault_of o (sort_of t ∷ sort_of u ∷ []) ≡ f → IfOk (unless_fault f (Apply o (in_trees (t ∷ u ∷ [])))) IsSorted
    go None e = sorted-apply o (t ∷ u ∷ []) (h, (k, tt)) e
    go (Some f) e = tt

pub outlined-applied : (o : Op) (t u : Tree) → IsSorted t → IsSorted u → outlined (applied o (t ∷ u ∷ [])) ≡ joined o (outline_of t) (outline_of u)
outlined-applied o t u h k = go (fault_of o (sort_of t ∷ sort_of u ∷ []))
  where
    made : Outline
    made = record { sort = unwrap_or (result_sort o (sort_of t ∷ sort_of u ∷ [])) BoolSort; depth = saturated (1 + max (saturated (depth_of t)) (saturated (depth_of u))) }

    same : outline_of (Apply o (in_trees (t ∷ u ∷ []))) ≡ made
    same =
        ap (λ (q : Option Sort). record { sort = unwrap_or q BoolSort; depth = saturated (1 + max (depth_of t) (max (depth_of u) 0)) }) (sort-apply o (t ∷ u ∷ []) (h, (k, tt)))
        ∙ ap (λ (d : ℕ). record { sort = unwrap_or (result_sort o (sort_of t ∷ sort_of u ∷ [])) BoolSort; depth = d }) (saturated-pair (depth_of t) (depth_of u))

    go : (f : Option RankFault) → outlined (unless_fault f (Apply o (in_trees (t ∷ u ∷ [])))) ≡ unless_rank f made
    go None = ap Ok same
    go (Some f) = refl

outlined-bind : (r : Result Tree ElabKind) (next : Tree → Result Tree ElabKind) (next' : Outline → Result Outline ElabKind) (x : Result Outline ElabKind) → IfOk r IsSorted → outlined r ≡ x → ((t : Tree) → IsSorted t → outlined (next t) ≡ next' (outline_of t)) → outlined (r >>= next) ≡ (x >>= next')
outlined-bind (Ok t) next next' x s e k = k t s ∙ ap (λ y. y >>= next') e
outlined-bind (Err f) next next' x s e k = ap (λ y. y >>= next') e

-- chains
pub outlined-left : (o : Op) (t : Tree) (us : List Tree) → IsSorted t → AllByRecursion IsSorted us → outlined (to_the_left o t us) ≡ joined_left o (outline_of t) (map outline_of us)
outlined-left o t [] h hs = refl
outlined-left o t (u ∷ us) h hs =
    outlined-bind (applied o (t ∷ u ∷ [])) (λ tu. to_the_left o tu us) (λ ab. joined_left o ab (map outline_of us)) (joined o (outline_of t) (outline_of u))
    (sorted-applied o t u h hs.0) (outlined-applied o t u h hs.0) (λ tu k. outlined-left o tu us k hs.1)

pub sorted-right : (o : Op) (t : Tree) (us : List Tree) → IsSorted t → AllByRecursion IsSorted us → IfOk (to_the_right o t us) IsSorted
sorted-right o t [] h hs = h
sorted-right o t (u ∷ us) h hs =
    ok-bind (to_the_right o u us) (λ uv. applied o (t ∷ uv ∷ [])) IsSorted IsSorted (sorted-right o u us hs.0 hs.1) (λ uv k. sorted-applied o t uv h k)

outlined-right : (o : Op) (t : Tree) (us : List Tree) → IsSorted t → AllByRecursion IsSorted us → outlined (to_the_right o t us) ≡ joined_right o (outline_of t) (map outline_of us)
outlined-right o t [] h hs = refl
outlined-right o t (u ∷ us) h hs =
    outlined-bind (to_the_right o u us) (λ uv. applied o (t ∷ uv ∷ [])) (λ bc. joined o (outline_of t) bc) (joined_right o (outline_of u) (map outline_of us))
    (sorted-right o u us hs.0 hs.1) (outlined-right o u us hs.0 hs.1) (λ uv k. outlined-applied o t uv h k)

pub outlined-all_right : (o : Op) (ts : List Tree) → AllByRecursion IsSorted ts → outlined (all_to_the_right o ts) ≡ all_joined_right o (map outline_of ts)
outlined-all_right o [] h = refl
outlined-all_right o (t ∷ ts) h = outlined-right o t ts h.0 h.1

-- what an outline allows, and what it refuses
pub record IsAllowed (place : ℕ) (r : Result Tree ElabKind) : Type 0 where
  pub tree : Tree
  pub ok : r ≡ Ok tree
  pub limited_ok : limited place r ≡ Ok tree

pub allowed : (place : ℕ) (r : Result Tree ElabKind) (x : Result Outline ElabKind) → outlined r ≡ x → fault_at place x ≡ None → IsAllowed place r
allowed place r x same e = go r (ap (fault_at place) same ∙ e)
  where
    none : (b : Bool) (f : ElabFault) → cond b None (Some f) ≡ None → b ≡ true
    none true f k = refl
    none false f k = absurd (cc)

    go : (r : Result Tree ElabKind) → fault_at place (outlined r) ≡ None → IsAllowed place r
    go (Ok t) k =
        let low : nat_le (saturated (depth_of t)) depth_limit ≡ true = none (nat_le (saturated (depth_of t)) depth_limit) (At place DepthLimit) k in
        let le : saturated (depth_of t) ≤ depth_limit = grind (arith, nat_tests) in
        let small : depth_of t ≤ depth_limit = omega (arith, le) in
        let test : nat_le (depth_of t) depth_limit ≡ true = grind (arith, nat_tests) in
        record { tree = t; ok = refl; limited_ok = ap (λ b. cond b (Ok t) (refuse place DepthLimit)) test }
    go (Err kind) k = absurd (cc)

pub refused : (place : ℕ) (r : Result Tree ElabKind) (x : Result Outline ElabKind) (f : ElabFault) (trees : List Tree) → outlined r ≡ x → fault_at place x ≡ Some f → Answers trees (limited place r) (Err f)
refused place r x f trees same e = go r (ap (fault_at place) same ∙ e)
  where
    some : (b : Bool) (g : ElabFault) → cond b None (Some g) ≡ Some f → (b ≡ false) × (g ≡ f)
    some true g k = absurd (cc)
    some false g k = (refl, cc)

    go : (r : Result Tree ElabKind) → fault_at place (outlined r) ≡ Some f → Answers trees (limited place r) (Err f)
    go (Ok t) k =
        let parts = some (nat_le (saturated (depth_of t)) depth_limit) (At place DepthLimit) k in
        let high : depth_limit < saturated (depth_of t) = grind (arith, nat_tests, parts.0) in
        let large : depth_limit < depth_of t = omega (arith, high) in
        let test : nat_le (depth_of t) depth_limit ≡ false = grind (arith, nat_tests) in
        subst (λ (g : ElabFault). Answers trees (limited place (Ok t)) (Err g)) parts.1 (ap (λ b. cond b (Ok t) (refuse place DepthLimit)) test)
    go (Err kind) k = let same : At place kind ≡ f = cc in subst (λ (g : ElabFault). Answers trees (limited place (Err kind)) (Err g)) same refl

-- an allowed tree is there
pub allowed-ok : (place : ℕ) (r : Result Tree ElabKind) → IsAllowed place r → IsOk r
allowed-ok place r h = ap is_ok h.ok

-- what was built is the answer
pub answer-built : (trees : List Tree) (place id : ℕ) (r : Result Tree ElabKind) → IsAllowed place r → IsOkAnd r (StandsAt trees id) → Answers trees (limited place r) (Ok id)
answer-built trees place id r h built = (h.tree, h.limited_ok, subst (λ (x : Result Tree ElabKind). IsOkAnd x (StandsAt trees id)) h.ok built)

-- the outlines of trees of a store
outlines-named : (trees : List Tree) (ns : List ℕ) → map (λ n. outline_of (tree_at trees n)) ns ≡ map outline_of (named trees ns)
outlines-named trees [] = refl
outlines-named trees (n ∷ ns) = ap (λ os. outline_of (tree_at trees n) ∷ os) (outlines-named trees ns)

module _ (trees : List Tree) (shared : AreShared trees) (o : Op) (ns : List ℕ) (low : All (λ n. n < length trees) ns) (outlines : List Outline)
    (same : outlines ≡ map (λ n. outline_of (tree_at trees n)) ns) (lent : List Outline) (read : lent ≡ outlines) where
  each : AllByRecursion IsSorted (named trees ns)
  each = sorted-each trees shared ns (recursion_from_All (λ n. n < length trees) ns low)

  are : map outline_of (named trees ns) ≡ lent
  are = sym (outlines-named trees ns) ∙ sym same ∙ sym read

  pub left-outline : (first : ℕ) → first < length trees → (a : Outline) → a ≡ outline_of (tree_at trees first) → outlined (to_the_left o (tree_at trees first) (named trees ns)) ≡ joined_left o a lent
  left-outline first lt a is =
      outlined-left o (tree_at trees first) (named trees ns) (shared.sorted first lt) each ∙ ap (λ (b : Outline). joined_left o b (map outline_of (named trees ns))) (sym is) ∙ ap (joined_left o a) are

  pub right-outline : outlined (all_to_the_right o (named trees ns)) ≡ all_joined_right o lent
  right-outline = outlined-all_right o (named trees ns) each ∙ ap (all_joined_right o) are
