-- One more node, term or line, in a store that has grown.
use Rattle.std.proofs.Common.{◌≡◌, ℕ, zero, suc, ◌+◌, ◌<◌, ◌≤◌, ◌==◌, ◌||◌, Bool, true, false, cond, Option, Some, None, List, [], ◌∷◌, ◌++◌, length, map, slice_get, refl, sym, ap, subst, ◌∙◌, inl, inr, arith}
use Rattle.std.specs.List.{AllByRecursion, list_any}
use Rattle.std.proofs.lemmas.List.Folds.{list_any-append}
use Rattle.std.proofs.lemmas.Option.{slice_get_within}
use Rattle.qv_words.specs.Tree.{Tree, Variable, tree_sort}
use Rattle.qv_words.specs.Problem.{Problem}
use Rattle.qv_words.specs.Skolem.{SkolemTerm}
use Rattle.qv_words.specs.Expansion.{ExpansionLine, Grown, line_numbered, path_of, sort_at, grow, grown_behind}
use Rattle.qv_words.specs.Expansion.{Instance as InstanceOf, Eigen as EigenOf}
use Rattle.qv_words.proofs.Elements.{all-weaker, pushed-cases, pushed-last, get-before}
use Rattle.qv_words.proofs.Leaves.{both}
use Rattle.qv_words.proofs.NewNodes.{nil-behind}
use Rattle.qv_store.specs.Nodes.{tree_at}
use Rattle.qv_store.specs.Stores.{Grows, StandsAt}
use Rattle.qv_store.proofs.Standing.{tree_at-before}
use Rattle.qv_cert.specs.Listed.{Listed as PlainListed, grown_of, with_node, with_term, with_line}
use Rattle.qv_cert_nodes.specs.declared.listed.Listed.{Listed}
use Rattle.qv_cert_nodes.specs.declared.listed.Term.{Term}
use Rattle.qv_cert_nodes.specs.declared.listed.Branch.{Branch}
use Rattle.qv_cert_nodes.specs.Lists.{term_in, line_in, listed_in, depth_in, eigen_in, mark_at, reach_of, IsBranch, IsListed, MarksTerms}
use Rattle.qv_cert_nodes.specs.Pushing.{HasNode, HasTerm, HasBranch, Lists}
use Rattle.qv_cert_nodes.proofs.Kept.{depth-kept, length-of}
use Rattle.qv_words.proofs.Shorter.{grown-longer}

-- ---- in a store that has grown

pub longer : (trees more : List Tree) → Grows trees more → length trees ≤ length more
longer trees more g = let e = ap length g.behind in omega (arith, e, length-append trees g.more)
  where
    length-append : (xs ys : List Tree) → length (xs ++ ys) ≡ length xs + length ys
    length-append [] ys = omega arith
    length-append (x ∷ xs) ys = omega (arith, length-append xs ys)

pub stays : (trees more : List Tree) (id : ℕ) → Grows trees more → id < length trees → tree_at more id ≡ tree_at trees id
stays trees more id g h = ap (λ (ts : List Tree). tree_at ts id) g.behind ∙ tree_at-before trees g.more id h

pub same-store : (trees : List Tree) → Grows trees trees
same-store trees = record { more = []; behind = nil-behind trees }

pub same-map : {A B : Type 0} (f g : A → B) (xs : List A) → AllByRecursion (λ x. f x ≡ g x) xs → map f xs ≡ map g xs
same-map f g [] h = refl
same-map f g (x ∷ xs) h = ap (λ y. y ∷ map f xs) h.0 ∙ ap (λ ys. g x ∷ ys) (same-map f g xs h.1)

pub map-pushed : {A B : Type 0} (f : A → B) (xs : List A) (x : A) → map f (xs ++ x ∷ []) ≡ map f xs ++ f x ∷ []
map-pushed f [] x = refl
map-pushed f (y ∷ xs) x = ap (λ ys. f y ∷ ys) (map-pushed f xs x)

-- what holds at each place holds of each element
by-place : {A : Type 0} (P : A → Type 0) (xs : List A) → ((n : ℕ) (x : A) → slice_get xs n ≡ Some x → P x) → AllByRecursion P xs
by-place P [] h = tt
by-place P (x ∷ xs) h = (h 0 x refl, by-place P xs (λ n y e. h (suc n) y e))

same-listed : (n m : List Tree) (t u : List SkolemTerm) (b c : List ExpansionLine) → n ≡ m → t ≡ u → b ≡ c
    → (let x : PlainListed = record { nodes = n; terms = t; lines = b } in let y : PlainListed = record { nodes = m; terms = u; lines = c } in x ≡ y)
same-listed n m t u b c e f g =
    ap (λ (x : List Tree). let l : PlainListed = record { nodes = x; terms = t; lines = b } in l) e
    ∙ ap (λ (x : List SkolemTerm). let l : PlainListed = record { nodes = m; terms = x; lines = b } in l) f
    ∙ ap (λ (x : List ExpansionLine). let l : PlainListed = record { nodes = m; terms = u; lines = x } in l) g

-- what was listed stands for the same
pub listed-stays : (trees more : List Tree) (p : Problem) (a : Listed) → Grows trees more → IsListed trees p a → listed_in more a ≡ listed_in trees a
listed-stays trees more p a g h =
    same-listed (map (tree_at more) a.nodes.items) (map (tree_at trees) a.nodes.items) (map (term_in more) a.terms.items) (map (term_in trees) a.terms.items)
    (map (line_in more) a.branches.items) (map (line_in trees) a.branches.items)
    (same-map (tree_at more) (tree_at trees) a.nodes.items (all-weaker (λ id. id < length trees) (λ id. tree_at more id ≡ tree_at trees id) a.nodes.items (λ id k. stays trees more id g k) h.nodes))
    (same-map (term_in more) (term_in trees) a.terms.items (all-weaker (λ t. t.id < length trees) (λ t. term_in more t ≡ term_in trees t) a.terms.items (λ t k. term-same t (stays trees more t.id g k)) h.terms))
    (same-map (line_in more) (line_in trees) a.branches.items (by-place (λ b. line_in more b ≡ line_in trees b) a.branches.items (λ n b e. line-same b (stays trees more b.id g (h.branches n b e).below))))
  where
    term-same : (t : Term) → tree_at more t.id ≡ tree_at trees t.id → term_in more t ≡ term_in trees t
    term-same t e = ap (λ (x : Tree). let s : SkolemTerm = record { place = t.place; term = x } in s) e

    line-same : (b : Branch) → tree_at more b.id ≡ tree_at trees b.id → line_in more b ≡ line_in trees b
    line-same b e = ap (λ (x : Tree). cond b.is_eigen (EigenOf b.parent) (InstanceOf b.parent x)) e

branch-stays : (trees more : List Tree) (grown : List Grown) (n : ℕ) (b : Branch) → Grows trees more → IsBranch trees grown n b → IsBranch more grown n b
branch-stays trees more grown n b g h =
    let same : tree_at trees b.id ≡ tree_at more b.id = sym (stays trees more b.id g h.below) in
    record {
      below = omega (arith, h.below, longer trees more g);
      parent = h.parent;
      depth = h.depth;
      grown_is = h.grown_is ∙ ap (λ (t : Tree). let x : Grown = record { path = path_of (line_numbered grown b.parent) ++ t ∷ []; eigen = cond b.is_eigen (tree_sort t) None } in Some x) same;
      own = λ e. let o = h.own e in (o.0, sym same ∙ o.1);
    }

pub kept-stays : (trees more : List Tree) (p : Problem) (a : Listed) → Grows trees more → IsListed trees p a → IsListed more p a
kept-stays trees more p a g h = record {
  nodes = all-weaker (λ id. id < length trees) (λ id. id < length more) a.nodes.items (λ id k. omega (arith, k, longer trees more g)) h.nodes;
  reaches = h.reaches ∙ same-map (λ id. reach_of (tree_at trees id)) (λ id. reach_of (tree_at more id)) a.nodes.items
      (all-weaker (λ id. id < length trees) (λ id. reach_of (tree_at trees id) ≡ reach_of (tree_at more id)) a.nodes.items (λ id k. ap reach_of (sym (stays trees more id g k))) h.nodes);
  terms = all-weaker (λ t. t.id < length trees) (λ t. t.id < length more) a.terms.items (λ t k. omega (arith, k, longer trees more g)) h.terms;
  marks = h.marks;
  branches = λ n b e. subst (λ (l : PlainListed). IsBranch more (grown_of p l) n b) (sym (listed-stays trees more p a g h)) (branch-stays trees more (grown_of p (listed_in trees a)) n b g (h.branches n b e));
}

-- ---- one more

-- where the lines are the same, so is what is known of them
same-branches : (trees : List Tree) (p : Problem) (old new : Listed) → new.branches.items ≡ old.branches.items → IsListed trees p old
    → (n : ℕ) (b : Branch) → slice_get new.branches.items n ≡ Some b → IsBranch trees (grown_of p (listed_in trees new)) n b
same-branches trees p old new e h n b at =
    subst (λ (bs : List Branch). IsBranch trees (grown_behind p [] (map (line_in trees) bs)) n b) (sym e)
    (h.branches n b (ap (λ (bs : List Branch). slice_get bs n) (sym e) ∙ at))

-- the marks of the terms
same-marks : (old new : Listed) → new.marks.items ≡ old.marks.items → new.terms.items ≡ old.terms.items → MarksTerms old → MarksTerms new
same-marks old new marks terms h place =
    ap (λ (ms : List Bool). mark_at ms place) marks ∙ h place ∙ ap (list_any (λ (t : Term). t.place == place)) (sym terms)

-- and of one more
one-marked : (old new : Listed) (t : Term) → HasTerm old new t → MarksTerms old → MarksTerms new
one-marked old new t w h place =
    w.marks place
    ∙ ap (λ (b : Bool). b || t.place == place) (h place)
    ∙ sym (ap (list_any is_its) w.terms ∙ list_any-append is_its old.terms.items (t ∷ []) ∙ ap (λ (b : Bool). list_any is_its old.terms.items || b) (or-false (t.place == place)))
  where
    is_its : Term → Bool
    is_its = λ x. x.place == place

    or-false : (b : Bool) → (b || false) ≡ b
    or-false true = refl
    or-false false = refl

node-here : (trees : List Tree) (p : Problem) (old new : Listed) (id reach : ℕ) (t : Tree) → IsListed trees p old → HasNode old new id reach → StandsAt trees id t → reach ≡ reach_of t
    → Lists trees p new (with_node t (listed_in trees old))
node-here trees p old new id reach t h w s e = record {
  listed = same-listed (map (tree_at trees) new.nodes.items) (map (tree_at trees) old.nodes.items ++ t ∷ []) (map (term_in trees) new.terms.items) (map (term_in trees) old.terms.items)
      (map (line_in trees) new.branches.items) (map (line_in trees) old.branches.items)
      (ap (map (tree_at trees)) w.nodes ∙ map-pushed (tree_at trees) old.nodes.items id ∙ ap (λ (x : Tree). map (tree_at trees) old.nodes.items ++ x ∷ []) s.tree)
      (ap (map (term_in trees)) w.terms) (ap (map (line_in trees)) w.branches);
  kept = record {
    nodes = subst (AllByRecursion (λ n. n < length trees)) (sym w.nodes) (both (λ n. n < length trees) old.nodes.items (id ∷ []) h.nodes (s.below, tt));
    reaches = w.reaches ∙ ap (λ (xs : List ℕ). xs ++ reach ∷ []) h.reaches
        ∙ ap (λ r. map (λ n. reach_of (tree_at trees n)) old.nodes.items ++ r ∷ []) (e ∙ ap reach_of (sym s.tree))
        ∙ sym (map-pushed (λ n. reach_of (tree_at trees n)) old.nodes.items id)
        ∙ ap (map (λ n. reach_of (tree_at trees n))) (sym w.nodes);
    terms = subst (AllByRecursion (λ x. x.id < length trees)) (sym w.terms) h.terms;
    marks = same-marks old new w.marks w.terms h.marks;
    branches = same-branches trees p old new w.branches h;
  };
}

-- in the grown store, as it was listed in the old one
moved-listed : (more : List Tree) (p : Problem) (new : Listed) (l m : PlainListed) (f : PlainListed → PlainListed) → l ≡ m → Lists more p new (f l) → Lists more p new (f m)
moved-listed more p new l m f e h = subst (λ (x : PlainListed). Lists more p new (f x)) e h

pub node-listed : (trees more : List Tree) (p : Problem) (old new : Listed) (id reach : ℕ) (t : Tree) → IsListed trees p old → Grows trees more → HasNode old new id reach → StandsAt more id t → reach ≡ reach_of t
    → Lists more p new (with_node t (listed_in trees old))
node-listed trees more p old new id reach t h g w s e =
    moved-listed more p new (listed_in more old) (listed_in trees old) (with_node t) (listed-stays trees more p old g h)
    (node-here more p old new id reach t (kept-stays trees more p old g h) w s e)

pub term-listed : (trees : List Tree) (p : Problem) (old new : Listed) (t : Term) (term : Tree) → IsListed trees p old → HasTerm old new t → t.id < length trees → tree_at trees t.id ≡ term
    → Lists trees p new (with_term (record { place = t.place; term = term }) (listed_in trees old))
term-listed trees p old new t term h w below e = record {
  listed = same-listed (map (tree_at trees) new.nodes.items) (map (tree_at trees) old.nodes.items) (map (term_in trees) new.terms.items) (map (term_in trees) old.terms.items ++ record { place = t.place; term = term } ∷ [])
      (map (line_in trees) new.branches.items) (map (line_in trees) old.branches.items)
      (ap (map (tree_at trees)) w.nodes)
      (ap (map (term_in trees)) w.terms ∙ map-pushed (term_in trees) old.terms.items t
      ∙ ap (λ (x : Tree). map (term_in trees) old.terms.items ++ record { place = t.place; term = x } ∷ []) e)
      (ap (map (line_in trees)) w.branches);
  kept = record {
    nodes = subst (AllByRecursion (λ n. n < length trees)) (sym w.nodes) h.nodes;
    reaches = w.reaches ∙ h.reaches ∙ ap (map (λ n. reach_of (tree_at trees n))) (sym w.nodes);
    terms = subst (AllByRecursion (λ x. x.id < length trees)) (sym w.terms) (both (λ x. x.id < length trees) old.terms.items (t ∷ []) h.terms (below, tt));
    marks = one-marked old new t w h.marks;
    branches = same-branches trees p old new w.branches h;
  };
}

-- a line that may come next
pub record MayStand (trees : List Tree) (p : Problem) (old : Listed) (b : Branch) : Type 0 where
  pub below : b.id < length trees
  pub parent : b.parent ≤ length old.branches.items
  pub depth : b.depth ≡ suc (depth_in old b.parent)
  pub own : b.is_eigen ≡ true → tree_at trees b.id ≡ Variable (suc (length old.branches.items)) (sort_at p (depth_in old b.parent))

grown-last : (trees : List Tree) (p : Problem) (grown : List Grown) (b : Branch)
    → (b.is_eigen ≡ true → tree_at trees b.id ≡ Variable (suc (length grown)) (sort_at p (length (path_of (line_numbered grown b.parent)))))
    → (let x : Grown = record { path = path_of (line_numbered grown b.parent) ++ tree_at trees b.id ∷ []; eigen = eigen_in trees b } in grow p grown (line_in trees b) ≡ x)
grown-last trees p grown b own = go b.is_eigen own
  where
    go : (x : Bool) → (x ≡ true → tree_at trees b.id ≡ Variable (suc (length grown)) (sort_at p (length (path_of (line_numbered grown b.parent)))))
        → (let g : Grown = record { path = path_of (line_numbered grown b.parent) ++ tree_at trees b.id ∷ []; eigen = cond x (tree_sort (tree_at trees b.id)) None } in
        grow p grown (cond x (EigenOf b.parent) (InstanceOf b.parent (tree_at trees b.id))) ≡ g)
    go false own = refl
    go true own = ap (λ (t : Tree). let g : Grown = record { path = path_of (line_numbered grown b.parent) ++ t ∷ []; eigen = tree_sort t } in g) (sym (own refl))

-- an earlier line stays where it was
parent-stays : (grown : List Grown) (g : Grown) (n : ℕ) → n ≤ length grown → line_numbered (grown ++ g ∷ []) n ≡ line_numbered grown n
parent-stays grown g zero h = refl
parent-stays grown g (suc n) h = get-before grown (g ∷ []) n (omega (arith, h))

branch-behind : (trees : List Tree) (grown : List Grown) (g : Grown) (n : ℕ) (b : Branch) → n < length grown → IsBranch trees grown n b → IsBranch trees (grown ++ g ∷ []) n b
branch-behind trees grown g n b within h =
    let same : line_numbered grown b.parent ≡ line_numbered (grown ++ g ∷ []) b.parent = sym (parent-stays grown g b.parent (omega (arith, h.parent, within))) in
    record {
      below = h.below;
      parent = h.parent;
      depth = h.depth ∙ ap (λ (o : Option Grown). suc (length (path_of o))) same;
      grown_is = get-before grown (g ∷ []) n within ∙ h.grown_is
          ∙ ap (λ (o : Option Grown). let x : Grown = record { path = path_of o ++ tree_at trees b.id ∷ []; eigen = eigen_in trees b } in Some x) same;
      own = h.own;
    }

branch-last : (trees : List Tree) (p : Problem) (grown : List Grown) (b : Branch) (g : Grown) → b.id < length trees → b.parent ≤ length grown → b.depth ≡ suc (length (path_of (line_numbered grown b.parent)))
    → (b.is_eigen ≡ true → tree_at trees b.id ≡ Variable (suc (length grown)) (sort_at p (length (path_of (line_numbered grown b.parent)))))
    → grow p grown (line_in trees b) ≡ g → IsBranch trees (grown ++ g ∷ []) (length grown) b
branch-last trees p grown b g below parent depth own is =
    let same : line_numbered grown b.parent ≡ line_numbered (grown ++ g ∷ []) b.parent = sym (parent-stays grown g b.parent parent) in
    record {
      below = below;
      parent = parent;
      depth = depth ∙ ap (λ (o : Option Grown). suc (length (path_of o))) same;
      grown_is = pushed-last grown g ∙ ap Some (sym is ∙ grown-last trees p grown b own)
          ∙ ap (λ (o : Option Grown). let x : Grown = record { path = path_of o ++ tree_at trees b.id ∷ []; eigen = eigen_in trees b } in Some x) same;
      own = λ e. (sort_at p (length (path_of (line_numbered grown b.parent))), own e);
    }

branches-pushed : (trees : List Tree) (p : Problem) (old : Listed) (b : Branch) → IsListed trees p old → MayStand trees p old b
    → (n : ℕ) (x : Branch) → slice_get (old.branches.items ++ b ∷ []) n ≡ Some x → IsBranch trees (grown_behind p [] (map (line_in trees) (old.branches.items ++ b ∷ []))) n x
branches-pushed trees p old b h m n x at =
    let grown = grown_of p (listed_in trees old) in
    let g = grow p grown (line_in trees b) in
    let many : length grown ≡ length old.branches.items = length-of trees p old in
    let deep : depth_in old b.parent ≡ length (path_of (line_numbered grown b.parent)) = depth-kept trees p old b.parent h in
    let whole : grown_behind p [] (map (line_in trees) (old.branches.items ++ b ∷ [])) ≡ grown ++ g ∷ [] =
    ap (grown_behind p []) (map-pushed (line_in trees) old.branches.items b) ∙ grown-longer p [] (map (line_in trees) old.branches.items) (line_in trees b) in
    let own : b.is_eigen ≡ true → tree_at trees b.id ≡ Variable (suc (length grown)) (sort_at p (length (path_of (line_numbered grown b.parent)))) =
    λ e. m.own e ∙ ap (λ k. Variable (suc k) (sort_at p (depth_in old b.parent))) (sym many) ∙ ap (λ k. Variable (suc (length grown)) (sort_at p k)) deep in
    let last = branch-last trees p grown b g m.below (omega (arith, m.parent, many)) (m.depth ∙ ap suc deep) own refl in
    subst (λ (gs : List Grown). IsBranch trees gs n x) (sym whole)
    (elim (pushed-cases old.branches.items b n x at) [
      | inl before ↦ branch-behind trees grown g n x (omega (arith, many, within n x before)) (h.branches n x before)
      | inr here ↦ subst (λ (y : Branch). IsBranch trees (grown ++ g ∷ []) n y) here.1 (subst (λ k. IsBranch trees (grown ++ g ∷ []) k b) (many ∙ sym here.0) last)
    ])
  where
    within : (n : ℕ) (x : Branch) → slice_get old.branches.items n ≡ Some x → n < length old.branches.items
    within n x e = slice_get_within old.branches.items n x e

pub branch-listed : (trees more : List Tree) (p : Problem) (old new : Listed) (b : Branch) → IsListed trees p old → Grows trees more → HasBranch old new b → MayStand more p old b
    → Lists more p new (with_line (line_in more b) (listed_in trees old))
branch-listed trees more p old new b h g w m =
    moved-listed more p new (listed_in more old) (listed_in trees old) (with_line (line_in more b)) (listed-stays trees more p old g h)
    (here (kept-stays trees more p old g h))
  where
    here : IsListed more p old → Lists more p new (with_line (line_in more b) (listed_in more old))
    here k = record {
      listed = same-listed (map (tree_at more) new.nodes.items) (map (tree_at more) old.nodes.items) (map (term_in more) new.terms.items) (map (term_in more) old.terms.items)
          (map (line_in more) new.branches.items) (map (line_in more) old.branches.items ++ line_in more b ∷ [])
          (ap (map (tree_at more)) w.nodes) (ap (map (term_in more)) w.terms)
          (ap (map (line_in more)) w.branches ∙ map-pushed (line_in more) old.branches.items b);
      kept = record {
        nodes = subst (AllByRecursion (λ n. n < length more)) (sym w.nodes) k.nodes;
        reaches = w.reaches ∙ k.reaches ∙ ap (map (λ n. reach_of (tree_at more n))) (sym w.nodes);
        terms = subst (AllByRecursion (λ x. x.id < length more)) (sym w.terms) k.terms;
        marks = same-marks old new w.marks w.terms k.marks;
        branches = λ n x at. subst (λ (bs : List Branch). IsBranch more (grown_behind p [] (map (line_in more) bs)) n x) (sym w.branches)
            (branches-pushed more p old b k m n x (ap (λ (bs : List Branch). slice_get bs n) (sym w.branches) ∙ at));
      };
    }
