-- A line's path has a number for each place down to it.
use Rattle.std.proofs.Common.{◌≡◌, ℕ, zero, suc, ◌≤◌, inl, inr, Some, Option, List, [], ◌∷◌, ◌++◌, refl, sym, ap, ◌∙◌, subst, slice_get, take, length, arith}
use Rattle.std.specs.Prelude.{IsSomeAnd, unwrap_or}
use Rattle.std.proofs.Math.Seq.{take-length}
use Rattle.std.proofs.lemmas.Bool.{cases_lt}
use Rattle.std.proofs.lemmas.List.{length-append}
use Rattle.qv_words.specs.Tree.{Variable}
use Rattle.qv_words.specs.Problem.{Problem}
use Rattle.qv_words.specs.Expansion.{ExpansionLine, Instance, Eigen, Grown, grow, line_numbered, path_of, sort_at}
use Rattle.qv_words.specs.Linked.{Entry, tree_of, paths_of}
use Rattle.qv_game_laws.specs.PathLaws.{PathsReachDown, parent_of, path_numbered}
use Rattle.qv_game_laws.proofs.ExpansionLines.{known, known-length}
use Rattle.qv_words.proofs.Shorter.{grown-longer}
use Rattle.qv_game_laws.proofs.Paths.{last-only, parents-path_is_front}
use Rattle.qv_words.proofs.Elements.{get-before, found-at, take-length as taken-length, take-one}

-- each of these lines has a path of its depth
abbrev AreDeep : List Grown → List (List ℕ) → Type 0
AreDeep G paths = (i : ℕ) (g : Grown) → slice_get G i ≡ Some g → (path : List ℕ) × (slice_get paths i ≡ Some path) × (length path ≡ length g.path)

grow-depth : (p : Problem) (G : List Grown) (line : ExpansionLine) → length (grow p G line).path ≡ suc (length (path_of (line_numbered G (parent_of line))))
grow-depth p G (Instance parent t) = let k = length-append (path_of (line_numbered G parent)) (t ∷ []) in omega (arith, k)
grow-depth p G (Eigen parent) =
    let path = path_of (line_numbered G parent) in
    let k = length-append path (Variable (suc (length G)) (sort_at p (length path)) ∷ []) in
    omega (arith, k)

parent-depth : (G : List Grown) (paths : List (List ℕ)) (n : ℕ) → AreDeep G paths → n ≤ length G → length (path_numbered paths n) ≡ length (path_of (line_numbered G n))
parent-depth G paths zero deep h = refl
parent-depth G paths (suc n) deep h =
    let there = found-at G n (omega (arith, h)) in
    let path = deep n there.0 there.1 in
    ap (λ o. length (unwrap_or o [])) path.1 ∙ path.2 ∙ sym (ap (λ o. length (path_of o)) there.1)

one-deeper : (p : Problem) (G : List Grown) (paths : List (List ℕ)) (line : ExpansionLine) (k : ℕ) → AreDeep G paths → parent_of line ≤ length G → slice_get paths (length G) ≡ Some (path_numbered paths (parent_of line) ++ k ∷ []) → AreDeep (G ++ grow p G line ∷ []) paths
one-deeper p G paths line k deep low at i g here =
    elim (cases_lt i (length G)) [
      | inl less ↦ deep i g (sym (get-before G (grow p G line ∷ []) i less) ∙ here)
      | inr more ↦ (
          let same = last-only G (grow p G line) i g more here in
          let a = parent-depth G paths (parent_of line) deep low in
          let b = grow-depth p G line in
          let c = length-append (path_numbered paths (parent_of line)) (k ∷ []) in
          let depth : length (path_numbered paths (parent_of line) ++ k ∷ []) ≡ length (grow p G line).path = omega (arith, a, b, c) in
          (path_numbered paths (parent_of line) ++ k ∷ [], ap (slice_get paths) same.0 ∙ at, depth ∙ ap (λ (x : Grown). length x.path) same.1)
          )
    ]

-- the first n lines
all-deep : (p : Problem) (entries : List Entry) (n : ℕ) → n ≤ length (tree_of p entries) → AreDeep (known p (take n (tree_of p entries))) (paths_of p entries)
all-deep p entries zero h = λ i g at. absurd cc
all-deep p entries (suc n) h =
    let lines = tree_of p entries in
    let paths = paths_of p entries in
    let line = found-at lines n (omega (arith, h)) in
    let before = take n lines in
    let G = known p before in
    let whole : known p (take (suc n) lines) ≡ G ++ grow p G line.0 ∷ [] = ap (known p) (take-one lines n line.0 line.1) ∙ grown-longer p [] before line.0 in
    let size : length G ≡ n = known-length p before ∙ taken-length lines n (omega (arith, h)) in
    let path = parents-path_is_front p entries n line.0 line.1 in
    let low = path.0 in
    subst (λ (H : List Grown). AreDeep H paths) (sym whole)
    (one-deeper p G paths line.0 path.1.0 (all-deep p entries n (omega (arith, h))) (omega (arith, low, size)) (ap (slice_get paths) size ∙ path.1.2))

pub paths-reach_down : PathsReachDown
paths-reach_down p entries n g at =
    let lines = tree_of p entries in
    let all = subst (λ (ls : List ExpansionLine). AreDeep (known p ls) (paths_of p entries)) (take-length lines) (all-deep p entries (length lines) (omega arith)) in
    let path = all n g at in
    subst (λ (o : Option (List ℕ)). IsSomeAnd o (λ x. length x ≡ length g.path)) (sym path.1) path.2
