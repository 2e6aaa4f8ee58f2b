-- The greatest depths of variables below trees.
use Rattle.std.proofs.Common.{◌≡◌, ◌≤◌, ◌<◌, ◌+◌, ◌^◌, ◌==◌, ℕ, zero, suc, max, Bool, true, false, cond, Option, Some, None, List, [], ◌∷◌, ◌++◌, length, take, drop, get_or, set, slice_get, refl, sym, ap, subst, ◌∙◌, arith}
use Rattle.std.specs.Prelude.{All, option_map, unwrap_or}
use Rattle.std.proofs.lemmas.List.{take_more, drop_all, append-nil, take_all, map-append, length-map}
use Rattle.qv_words.specs.declared.sort.Sort.{Sort}
use Rattle.qv_words.specs.Tree.{Tree, Variable}
use Rattle.std.proofs.lemmas.Bool.Decides.{nat_tests}
use Rattle.qv_words.proofs.Equals.{test-refl, eq-from_test}
use Rattle.std.proofs.lemmas.Option.{slice_get-get_or}
use Rattle.qv_words.proofs.Elements.{get-map}
use Rattle.qv_store.specs.declared.node.Node.{Node}
use Rattle.qv_store.specs.declared.node.Node.TheVariants.{Const, Var, Lit, App, Ex}
use Rattle.qv_store.specs.declared.node.Node.TheVariants.{All as AllNode}
use Rattle.qv_store.specs.Nodes.{tree_at, trees_at, children, node_tree}
use Rattle.qv_store.specs.Walks.{named, IsEarlier}
use Rattle.qv_elab_defs.specs.Applying.{in_trees}
use Rattle.qv_elab_defs.specs.Limit.{saturated}
use Rattle.qv_elab_macros.specs.declared.standing.Watched.{Watched}
use Rattle.qv_elab_defs.specs.Standing.{deeper, standing, standing_in}
use Rattle.qv_elab_macros.specs.DepthUnder.{depth_from, depth_under}
use Rattle.qv_elab_macros.specs.PassDown.{peak, peak_at, raised, raised_at, noted_at, IsPassed}
use Rattle.qv_elab_defs.proofs.Ranked.{trees_at-named}

-- where nothing is left
pub peak-none : (l : ℕ) (ts : List Tree) → peak l ts [] ≡ 0
peak-none l [] = refl
peak-none l (t ∷ ts) = refl

-- one more without a depth
pub peak-push_none : (l : ℕ) (ts : List Tree) (ds : List (Option ℕ)) → peak l ts (ds ++ None ∷ []) ≡ peak l ts ds
peak-push_none l [] ds = refl
peak-push_none l (t ∷ []) [] = omega arith
peak-push_none l (t ∷ u ∷ us) [] = omega arith
peak-push_none l (t ∷ ts) (d ∷ ds) = ap (max (depth_from l t d)) (peak-push_none l ts ds)

-- the last
pub peak-push : (l : ℕ) (ts : List Tree) (ds : List (Option ℕ)) (d : Option ℕ) (t : Tree) → slice_get ts (length ds) ≡ Some t → peak l ts (ds ++ d ∷ []) ≡ max (peak l ts ds) (depth_from l t d)
peak-push l [] ds d t e = absurd (cc)
peak-push l (u ∷ us) [] d t e =
    let same : u ≡ t = cc in
    let none = peak-none l us in
    let moved : depth_from l u d ≡ depth_from l t d = ap (λ v. depth_from l v d) same in
    omega (arith, none, moved)
peak-push l (u ∷ us) (c ∷ ds) d t e =
    let rest = peak-push l us ds d t e in
    omega (arith, rest)

-- more trees behind those that have depths
pub peak-more : (l : ℕ) (ts us : List Tree) (ds : List (Option ℕ)) → length ds ≤ length ts → peak l (ts ++ us) ds ≡ peak l ts ds
peak-more l [] us [] h = peak-none l us
peak-more l [] us (d ∷ ds) h = absurd (omega (arith, h))
peak-more l (t ∷ ts) us [] h = refl
peak-more l (t ∷ ts) us (d ∷ ds) h = ap (max (depth_from l t d)) (peak-more l ts us ds (omega (arith, h)))

-- a greater depth
from-standing : (o : Option ℕ) (d e : ℕ) → unwrap_or (option_map (λ n. saturated (n + max d e)) o) 0 ≡ max (unwrap_or (option_map (λ n. saturated (n + d)) o) 0) (unwrap_or (option_map (λ n. saturated (n + e)) o) 0)
from-standing None d e = omega arith
from-standing (Some n) d e = omega arith

from-raised : (l : ℕ) (t : Tree) (d : Option ℕ) (e : ℕ) → depth_from l t (raised d e) ≡ max (depth_from l t d) (depth_from l t (Some e))
from-raised l t None e = omega arith
from-raised l t (Some d) e = from-standing (standing l t) d e

pub peak-raised : (l : ℕ) (ts : List Tree) (ds : List (Option ℕ)) (place depth : ℕ) (t : Tree) → place < length ds → slice_get ts place ≡ Some t
    → peak l ts (raised_at ds place depth) ≡ max (peak l ts ds) (depth_from l t (Some depth))
peak-raised l [] ds place depth t lt e = absurd (cc)
peak-raised l (u ∷ us) [] place depth t lt e = absurd (omega (arith, lt))
peak-raised l (u ∷ us) (d ∷ ds) zero depth t lt e =
    let same : u ≡ t = cc in
    let own = from-raised l u d depth in
    let moved : depth_from l u (Some depth) ≡ depth_from l t (Some depth) = ap (λ v. depth_from l v (Some depth)) same in
    omega (arith, own, moved)
peak-raised l (u ∷ us) (d ∷ ds) (suc place) depth t lt e =
    let rest = peak-raised l us ds place depth t (omega (arith, lt)) e in
    omega (arith, rest)

pub length-raised : (ds : List (Option ℕ)) (place depth : ℕ) → length (raised_at ds place depth) ≡ length ds
length-raised [] place depth = refl
length-raised (d ∷ ds) zero depth = refl
length-raised (d ∷ ds) (suc place) depth = ap suc (length-raised ds place depth)

pub length-noted : (ds : List ℕ) (place depth : ℕ) → length (noted_at ds place depth) ≡ length ds
length-noted [] place depth = refl
length-noted (d ∷ ds) zero depth = refl
length-noted (d ∷ ds) (suc place) depth = ap suc (length-noted ds place depth)

-- one more tree at a depth
pub peak_at-push : (l : ℕ) (ts : List Tree) (t : Tree) (depth : ℕ) → peak_at l (ts ++ t ∷ []) depth ≡ max (peak_at l ts depth) (depth_from l t (Some depth))
peak_at-push l [] t depth = omega arith
peak_at-push l (u ∷ us) t depth = let rest = peak_at-push l us t depth in omega (arith, rest)

-- writes
pub set-raised : (ds : List (Option ℕ)) (place depth : ℕ) (d : Option ℕ) → place < length ds → set ds place (raised (get_or ds place d) depth) ≡ raised_at ds place depth
set-raised [] place depth d lt = absurd (omega (arith, lt))
set-raised (c ∷ ds) zero depth d lt = refl
set-raised (c ∷ ds) (suc place) depth d lt = ap (λ es. c ∷ es) (set-raised ds place depth d (omega (arith, lt)))

pub set-noted : (ds : List ℕ) (place depth d : ℕ) → place < length ds → set ds place (max (get_or ds place d) depth) ≡ noted_at ds place depth
set-noted [] place depth d lt = absurd (omega (arith, lt))
set-noted (c ∷ ds) zero depth d lt = refl
set-noted (c ∷ ds) (suc place) depth d lt = ap (λ es. c ∷ es) (set-noted ds place depth d (omega (arith, lt)))

pub noted-past : (ds : List ℕ) (place depth : ℕ) → length ds ≤ place → ds ≡ noted_at ds place depth
noted-past [] place depth le = refl
noted-past (c ∷ ds) zero depth le = absurd (omega (arith, le))
noted-past (c ∷ ds) (suc place) depth le = ap (λ es. c ∷ es) (noted-past ds place depth (omega (arith, le)))

-- a list that was written behind a reference
pub written : {A : Type 0} (xs ys : List A) (n : ℕ) → length xs ≡ length ys → n ≡ length ys → take n (xs ++ drop (length xs) ys) ≡ xs
written xs ys n same many =
    let none : drop (length xs) ys ≡ [] = drop_all (length xs) ys (omega (arith, same)) in
    let le : length xs ≤ n = omega (arith, same, many) in
    ap (λ zs. take n (xs ++ zs)) none ∙ ap (take n) (append-nil xs) ∙ take_all n xs le

-- a variable
same-suc : (k l : ℕ) → (suc k == suc l) ≡ (k == l)
same-suc k l = go (k == l) refl
  where
    go : (b : Bool) → (k == l) ≡ b → (suc k == suc l) ≡ b
    go true e = let same : k ≡ l = eq-from_test k l e in ap (λ n. suc n == suc l) same ∙ test-refl (suc l)
    go false e = grind (arith, nat_tests)

noted-at : (ds : List ℕ) (k depth l : ℕ) → l < length ds → get_or (noted_at ds k depth) l 0 ≡ max (get_or ds l 0) (cond (k == l) depth 0)
noted-at [] k depth l lt = absurd (omega (arith, lt))
noted-at (d ∷ ds) zero depth zero lt = refl
noted-at (d ∷ ds) zero depth (suc l) lt =
    let other : (0 == suc l) ≡ false = grind (arith, nat_tests) in
    let none : cond (0 == suc l) depth 0 ≡ 0 = ap (λ b. cond b depth 0) other in
    omega (arith, none)
noted-at (d ∷ ds) (suc k) depth zero lt =
    let other : (suc k == 0) ≡ false = grind (arith, nat_tests) in
    let none : cond (suc k == 0) depth 0 ≡ 0 = ap (λ b. cond b depth 0) other in
    omega (arith, none)
noted-at (d ∷ ds) (suc k) depth (suc l) lt =
    noted-at ds k depth l (omega (arith, lt)) ∙ ap (λ b. max (get_or ds l 0) (cond b depth 0)) (sym (same-suc k l))

from-variable : (k l depth : ℕ) (s : Sort) → depth < 2 ^ 64 → depth_from l (Variable k s) (Some depth) ≡ cond (k == l) depth 0
from-variable k l depth s fits = go (k == l)
  where
    go : (b : Bool) → unwrap_or (option_map (λ n. saturated (n + depth)) (cond b (Some 0) None)) 0 ≡ cond b depth 0
    go true = omega (arith, fits)
    go false = refl

pub passed-variable : (ts : List Tree) (below : List (Option ℕ)) (depths depths' : List ℕ) (k depth : ℕ) (s : Sort) (t : Tree) → depth < 2 ^ 64 → Variable k s ≡ t → depths' ≡ noted_at depths k depth
    → IsPassed ts below depths t depth below depths'
passed-variable ts below depths depths' k depth s t fits is noted = record {
  len = refl;
  count = ap length noted ∙ length-noted depths k depth;
  passed = λ l lt.
      let at : get_or depths' l 0 ≡ max (get_or depths l 0) (cond (k == l) depth 0) = ap (λ ds. get_or ds l 0) noted ∙ noted-at depths k depth l lt in
      let own : depth_from l t (Some depth) ≡ cond (k == l) depth 0 = ap (λ u. depth_from l u (Some depth)) (sym is) ∙ from-variable k l depth s fits in
      omega (arith, at, own);
}

-- another node
one-deeper : (o : Option ℕ) (depth : ℕ) → unwrap_or (option_map (λ n. saturated (n + depth)) (option_map (λ n. suc n) o)) 0 ≡ unwrap_or (option_map (λ n. saturated (n + saturated (1 + depth))) o) 0
one-deeper None depth = refl
one-deeper (Some n) depth = omega arith

of-deeper : (o p : Option ℕ) (d : ℕ) → unwrap_or (option_map (λ n. saturated (n + d)) (deeper o p)) 0 ≡ max (unwrap_or (option_map (λ n. saturated (n + d)) o) 0) (unwrap_or (option_map (λ n. saturated (n + d)) p) 0)
of-deeper None p d = omega arith
of-deeper (Some n) None d = omega arith
of-deeper (Some n) (Some m) d = omega arith

in-standing : (l : ℕ) (ts : List Tree) (d : ℕ) → unwrap_or (option_map (λ n. saturated (n + d)) (standing_in l (in_trees ts))) 0 ≡ peak_at l ts d
in-standing l [] d = refl
in-standing l (t ∷ ts) d =
    of-deeper (standing l t) (standing_in l (in_trees ts)) d ∙ ap (max (depth_from l t (Some d))) (in-standing l ts d)

one-tree : (l : ℕ) (t : Tree) (d : ℕ) → depth_from l t (Some d) ≡ peak_at l (t ∷ []) d
one-tree l t d = omega arith

pub from-children : (trees : List Tree) (node : Node) (l depth : ℕ) → ((k : ℕ) (s : Sort) → node ≡ Var k s → ⊥) → depth_from l (node_tree trees node) (Some depth) ≡ peak_at l (named trees (children node)) (saturated (1 + depth))
from-children trees (Const i s) l depth other = refl
from-children trees (Var k s) l depth other = absurd (other k s refl)
from-children trees (Lit w) l depth other = refl
from-children trees (App o kids) l depth other =
    one-deeper (standing_in l (trees_at trees kids.items)) depth
    ∙ ap (λ ts. unwrap_or (option_map (λ n. saturated (n + saturated (1 + depth))) (standing_in l ts)) 0) (trees_at-named trees kids.items)
    ∙ in-standing l (named trees kids.items) (saturated (1 + depth))
from-children trees (AllNode k s body) l depth other = one-deeper (standing l (tree_at trees body)) depth ∙ one-tree l (tree_at trees body) (saturated (1 + depth))
from-children trees (Ex k s body) l depth other = one-deeper (standing l (tree_at trees body)) depth ∙ one-tree l (tree_at trees body) (saturated (1 + depth))

-- one more of some terms is raised
pub raised-more : (trees : List Tree) (l : ℕ) (walk ids : List ℕ) (i id place depth : ℕ) (first now after : List (Option ℕ))
    → peak l (named trees walk) now ≡ max (peak l (named trees walk) first) (peak_at l (named trees (take i ids)) depth) → after ≡ raised_at now place depth → place < length now → slice_get walk place ≡ Some id
    → i < length ids → id ≡ get_or ids i id → peak l (named trees walk) after ≡ max (peak l (named trees walk) first) (peak_at l (named trees (take (i + 1) ids)) depth)
raised-more trees l walk ids i id place depth first now after before is within at lt item =
    let here : slice_get (named trees walk) place ≡ Some (tree_at trees id) = get-map (tree_at trees) walk place id at in
    let step : peak l (named trees walk) after ≡ max (peak l (named trees walk) now) (depth_from l (tree_at trees id) (Some depth)) =
    ap (peak l (named trees walk)) is ∙ peak-raised l (named trees walk) now place depth (tree_at trees id) within here in
    let next : take (i + 1) ids ≡ take i ids ++ id ∷ [] = take_more ids i id lt ∙ ap (λ k. take i ids ++ k ∷ []) (sym item) in
    let more : peak_at l (named trees (take (i + 1) ids)) depth ≡ max (peak_at l (named trees (take i ids)) depth) (depth_from l (tree_at trees id) (Some depth)) =
    ap (λ ks. peak_at l (named trees ks) depth) next ∙ ap (λ ts. peak_at l ts depth) (map-append (tree_at trees) (take i ids) (id ∷ [])) ∙ peak_at-push l (named trees (take i ids)) (tree_at trees id) depth in
    omega (arith, before, step, more)

-- where an earlier term stands
pub earlier-place : (walk : List ℕ) (n id place : ℕ) → ((at : ℕ) → slice_get walk at ≡ Some id → place ≤ at) → IsEarlier walk n id → place < n
earlier-place walk n id place first e = let le = first e.place e.at in omega (arith, le, e.before)

pub earlier-item : (walk ids : List ℕ) (i id n m : ℕ) → n ≡ m → All (IsEarlier walk m) ids → i < length ids → id ≡ get_or ids i id → IsEarlier walk n id
earlier-item walk ids i id n m same all lt is = subst (λ k. IsEarlier walk k id) (sym same) (subst (IsEarlier walk m) (sym is) (all i id lt))

pub passed-children : (trees : List Tree) (walk ids : List ℕ) (below below' : List (Option ℕ)) (depths : List ℕ) (node : Node) (t : Tree) (depth deeper-by : ℕ)
    → ((k : ℕ) (s : Sort) → node ≡ Var k s → ⊥) → node_tree trees node ≡ t → ids ≡ children node → deeper-by ≡ saturated (1 + depth) → length below' ≡ length below
    → ((l : ℕ) → peak l (named trees walk) below' ≡ max (peak l (named trees walk) below) (peak_at l (named trees ids) deeper-by)) → IsPassed (named trees walk) below depths t depth below' depths
passed-children trees walk ids below below' depths node t depth deeper-by other tree are by same raised = record {
  len = same;
  count = refl;
  passed = λ l lt.
      let up = raised l in
      let own : depth_from l t (Some depth) ≡ peak_at l (named trees ids) deeper-by =
      ap (λ u. depth_from l u (Some depth)) (sym tree) ∙ from-children trees node l depth other ∙ ap (λ ks. peak_at l (named trees ks) (saturated (1 + depth))) (sym are) ∙ ap (peak_at l (named trees ids)) (sym by) in
      omega (arith, up, own);
}

-- one more term to begin with
under-push : (trees : List Tree) (l : ℕ) (cs : List Watched) (c : Watched) → depth_under trees l (cs ++ c ∷ []) ≡ max (depth_under trees l cs) (depth_from l (tree_at trees c.id) (Some c.depth))
under-push trees l [] c = omega arith
under-push trees l (b ∷ cs) c = let rest = under-push trees l cs c in omega (arith, rest)

pub started : (trees : List Tree) (l : ℕ) (walk more : List ℕ) (below filled after : List (Option ℕ)) (cs : List Watched) (i place : ℕ) (c : Watched)
    → length below ≡ length walk → peak l (named trees walk) below ≡ depth_under trees l (take i cs) → ((ts : List Tree) → peak l ts filled ≡ peak l ts below)
    → after ≡ raised_at filled place c.depth → place < length filled → slice_get (walk ++ more) place ≡ Some c.id → i < length cs → c ≡ get_or cs i c
    → peak l (named trees (walk ++ more)) after ≡ depth_under trees l (take (i + 1) cs)
started trees l walk more below filled after cs i place c many before same is within at lt item =
    let here : slice_get (named trees (walk ++ more)) place ≡ Some (tree_at trees c.id) = get-map (tree_at trees) (walk ++ more) place c.id at in
    let step : peak l (named trees (walk ++ more)) after ≡ max (peak l (named trees (walk ++ more)) filled) (depth_from l (tree_at trees c.id) (Some c.depth)) =
    ap (peak l (named trees (walk ++ more))) is ∙ peak-raised l (named trees (walk ++ more)) filled place c.depth (tree_at trees c.id) within here in
    let few : length below ≤ length (named trees walk) = omega (arith, many, length-map walk (tree_at trees)) in
    let kept : peak l (named trees (walk ++ more)) filled ≡ depth_under trees l (take i cs) =
    same (named trees (walk ++ more)) ∙ ap (λ ts. peak l ts below) (map-append (tree_at trees) walk more) ∙ peak-more l (named trees walk) (named trees more) below few ∙ before in
    let next : take (i + 1) cs ≡ take i cs ++ c ∷ [] = take_more cs i c lt ∙ ap (λ (k : Watched). take i cs ++ k ∷ []) (sym item) in
    let up : depth_under trees l (take (i + 1) cs) ≡ max (depth_under trees l (take i cs)) (depth_from l (tree_at trees c.id) (Some c.depth)) =
    ap (depth_under trees l) next ∙ under-push trees l (take i cs) c in
    omega (arith, step, kept, up)

-- the last of the terms that are left
pub passed-last : (ts : List Tree) (l : ℕ) (below rest after : List (Option ℕ)) (depths depths' : List ℕ) (t : Tree) (depth target : ℕ) → below ≡ rest ++ Some depth ∷ [] → slice_get ts (length rest) ≡ Some t
    → IsPassed ts rest depths t depth after depths' → l < length depths → max (get_or depths l 0) (peak l ts below) ≡ target → max (get_or depths' l 0) (peak l ts after) ≡ target
passed-last ts l below rest after depths depths' t depth target is at passed lt before =
    let last : peak l ts below ≡ max (peak l ts rest) (depth_from l t (Some depth)) = ap (peak l ts) is ∙ peak-push l ts rest (Some depth) t at in
    let step = passed.passed l lt in
    omega (arith, last, step, before)

pub none-last : (ts : List Tree) (l : ℕ) (below rest : List (Option ℕ)) (depths : List ℕ) (target : ℕ) → below ≡ rest ++ None ∷ [] → max (get_or depths l 0) (peak l ts below) ≡ target → max (get_or depths l 0) (peak l ts rest) ≡ target
none-last ts l below rest depths target is before =
    let last : peak l ts below ≡ peak l ts rest = ap (peak l ts) is ∙ peak-push_none l ts rest in
    omega (arith, last, before)

pub at-last : (trees : List Tree) (walk ids : List ℕ) (n i id : ℕ) → ids ≡ walk → i ≡ n → n < length walk → id ≡ get_or ids i id → slice_get (named trees walk) n ≡ Some (tree_at trees id)
at-last trees walk ids n i id same at lt is =
    let here : slice_get walk n ≡ Some (get_or walk n id) = slice_get-get_or walk n id lt in
    let own : get_or walk n id ≡ id = sym (is ∙ ap (λ ks. get_or ks i id) same ∙ ap (λ k. get_or walk k id) at) in
    get-map (tree_at trees) walk n id (here ∙ ap Some own)

pub none-left : (ts : List Tree) (l : ℕ) (below : List (Option ℕ)) (depths : List ℕ) (target : ℕ) → length below ≡ 0 → max (get_or depths l 0) (peak l ts below) ≡ target → get_or depths l 0 ≡ target
none-left ts l [] depths target none before = let zero-peak = peak-none l ts in omega (arith, zero-peak, before)
none-left ts l (d ∷ ds) depths target none before = absurd (omega (arith, none))
