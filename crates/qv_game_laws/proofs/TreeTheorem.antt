-- Where the universal player has won, the tree is an expansion list and no values make all its leaves true.
use Rattle.std.proofs.Common.{◌≡◌, ℕ, zero, suc, ◌+◌, ◌==◌, ◌&&◌, inl, inr, Bool, true, false, cond, Some, None, Option, List, [], ◌∷◌, map, filter, refl, sym, ap, ◌∙◌, subst, slice_get, length, arith}
use Rattle.std.specs.Prelude.{IsSome, IsSomeAnd}
use Rattle.std.specs.List.{AllByRecursion}
use Rattle.std.proofs.lemmas.Bool.{eqb-true, eq-eqb}
use Rattle.std.proofs.lemmas.List.Elements.{recursion_from_All}
use Rattle.qv_words.specs.declared.sort.Sort.{Sort}
use Rattle.qv_words.specs.declared.sort.Sort.TheVariants.{Bool as BoolSort}
use Rattle.qv_words.specs.Sort.{IsValueOf}
use Rattle.qv_words.specs.Tree.{Tree}
use Rattle.qv_words.specs.Sorted.{HasValues, free_levels, no_levels}
use Rattle.qv_words.specs.Meaning.{Means}
use Rattle.qv_words.specs.Replacement.{replaced}
use Rattle.qv_words.specs.Problem.{Problem, Universal}
use Rattle.qv_words.specs.Choice.{IsTrueAt}
use Rattle.qv_words.specs.Expansion.{ExpansionLine, Grown, root, line_numbered, IsExpansion, leaves_of}
use Rattle.qv_words.specs.Linked.{Entry, blocks_of, same_quantifier, entries_of, first_universal, no_lines, tree_lines, drawn, tree_of, IsLinked}
use Rattle.qv_words.specs.GameLaws.{IsProblem, MakesAllTrue}
use Rattle.qv_game_laws.specs.WinningLaws.{TreeTheorem}
use Rattle.qv_words.proofs.Unique.{one_meaning}
use Rattle.qv_game_laws.proofs.Terms.{OfVariable, IsOver, EachLeaf, over-from, over-sorted, over-free, over-constants, over-leaves, over-agree, put-of, put-means}
use Rattle.qv_game_laws.proofs.Fitting.{fitting, fitting-of, fitting-same, both-leaves}
use Rattle.qv_game_laws.proofs.Each.{same-quantifier}
use Rattle.qv_game_laws.proofs.Steps.{Before, matrix-of}
use Rattle.qv_game_laws.proofs.ChainTerms.{zero-one}
use Rattle.qv_game_laws.proofs.ChainTheorem.{at-start}
use Rattle.qv_game_laws.proofs.ExpansionLines.{known, Eigens, IsDrawing, AreEigenValues}
use Rattle.qv_game_laws.proofs.TreeRun.{Fails, parts}

-- any map with values in the eigenvariables' sorts where it has none
filled-by : Option Sort → Option ℕ → Option ℕ
filled-by None o = o
filled-by (Some s) o = Some (fitting o s)

filled-at : Option Grown → Option ℕ → Option ℕ
filled-at None o = o
filled-at (Some g) o = filled-by g.eigen o

filled : List Grown → (ℕ → Option ℕ) → ℕ → Option ℕ
filled G e l = filled-at (line_numbered G l) (e l)

filled-sort : (o : Option Sort) (x : Option ℕ) (s : Sort) → o ≡ Some s → filled-by o x ≡ Some (fitting x s)
unfolding filled-by
filled-sort None x s h = absurd cc
filled-sort (Some r) x s h = let same : r ≡ s = cc in ap (λ q. Some (fitting x q)) same

filled-is : (G : List Grown) (e : ℕ → Option ℕ) (l : ℕ) (s : Sort) → Eigens G l s → filled G e l ≡ Some (fitting (e l) s)
unfolding filled filled-at
filled-is G e l s h = go (line_numbered G l) h.1
  where
    go : (o : Option Grown) → IsSomeAnd o (λ g. g.eigen ≡ Some s) → filled-at o (e l) ≡ Some (fitting (e l) s)
    go None k = absurd k
    go (Some g) k = filled-sort g.eigen (e l) s k

filled-values : (G : List Grown) (e : ℕ → Option ℕ) → AreEigenValues G (filled G e)
filled-values G e l s h = subst (λ (o : Option ℕ). IsSomeAnd o (λ v. IsValueOf v s)) (sym (filled-is G e l s h)) (fitting-of (e l) s)

filled-means : (G : List Grown) (t : Tree) (e : ℕ → Option ℕ) (v : ℕ) → IsOver (Eigens G) t → EachLeaf (λ l s. IsSomeAnd (e l) (λ u. IsValueOf u s)) (free_levels t) → Means [] e t v → Means [] (filled G e) t v
filled-means G t e v h values m =
    let P : OfVariable = λ l s. Eigens G l s × IsSomeAnd (e l) (λ u. IsValueOf u s) in
    let over = over-from P t (over-sorted (Eigens G) t h) (over-free (Eigens G) t h) (over-constants (Eigens G) t h) (both-leaves (Eigens G) (λ l s. IsSomeAnd (e l) (λ u. IsValueOf u s)) (free_levels t) (over-leaves (Eigens G) t h) values) in
    over-agree P t e (filled G e) v over (λ l s k. fitting-same (e l) s k.1 ∙ sym (filled-is G e l s k.0)) m

-- a line that fails is not true under the values
kept-line : (P : Tree → Type 0) (f : Grown → Tree) (test : Grown → Bool) (lines : List Grown) (k : ℕ) (g : Grown) → AllByRecursion P (map f (filter test lines)) → slice_get lines k ≡ Some g → test g ≡ true → P (f g)
kept-line P f test [] k g h at passes = absurd cc
kept-line P f test (x ∷ lines) zero g h at passes =
    let same : x ≡ g = cc in
    let own : test x ≡ true = ap test same ∙ passes in
    let all = subst (λ (b : Bool). AllByRecursion P (map f (cond b (x ∷ filter test lines) (filter test lines)))) own h in
    subst (λ (y : Grown). P (f y)) same all.0
kept-line P f test (x ∷ lines) (suc k) g h at passes = go (test x) h (λ r. kept-line P f test lines k g r at passes)
  where
    go : (b : Bool) → AllByRecursion P (map f (cond b (x ∷ filter test lines) (filter test lines))) → (AllByRecursion P (map f (filter test lines)) → P (f g)) → P (f g)
    go true r rest = rest r.1
    go false r rest = rest r

numbered-line : (G : List Grown) (k : ℕ) (g : Grown) → line_numbered G k ≡ Some g → slice_get (root ∷ G) k ≡ Some g
numbered-line G zero g h = h
numbered-line G (suc k) g h = h

lost : (p : Problem) (lines : List ExpansionLine) (e : ℕ → Option ℕ) → MakesAllTrue e (leaves_of p lines) → Fails p (filled (known p lines) e) (known p lines) → ⊥
lost p lines e all fails =
    let each = recursion_from_All (λ t. HasValues [] e t × Means [] e t 1) (leaves_of p lines) all in
    let leaf = kept-line (λ t. HasValues [] e t × Means [] e t 1) (λ g. replaced (slice_get g.path) p.matrix) (λ g. length g.path == length p.prefix) (root ∷ known p lines) fails.number fails.line each
    (numbered-line (known p lines) fails.number fails.line fails.here) (eq-eqb (length fails.line.path) (length p.prefix) fails.whole) in
    let t : Tree = replaced (slice_get fails.line.path) p.matrix in
    let values = recursion_from_All (λ leaf. IsSomeAnd (e leaf.0) (λ v. IsValueOf v leaf.1)) (free_levels t) leaf.0.levels in
    zero-one (one_meaning t [] (filled (known p lines) e) 0 1 fails.means (filled-means (known p lines) t e 1 fails.over values leaf.1))

-- the first entry of the universal player at level 1
pub record IsFirst (entries : List Entry) (number : Option ℕ) (k : ℕ) : Type 0 where
  pub index : ℕ
  pub entry : Entry
  pub is : number ≡ Some (k + index)
  pub here : slice_get entries index ≡ Some entry
  pub level : entry.level ≡ 1
  pub winner : entry.winner ≡ Universal

first-found : (entries : List Entry) (k : ℕ) → IsSome (slice_get (entries_of 1 Universal entries) 0) → IsFirst entries (first_universal k entries) k
first-found [] k h = absurd (never h)
  where
    never : IsSome {T = Entry} None → ⊥
    never e = cc
first-found (e ∷ entries) k h = go (e.level == 1) (same_quantifier e.winner Universal) refl refl h (first-found entries (suc k))
  where
    later : IsFirst entries (first_universal (suc k) entries) (suc k) → IsFirst (e ∷ entries) (first_universal (suc k) entries) k
    later r = record { index = suc r.index; entry = r.entry; is = r.is ∙ ap (λ n. Some n) (let same : suc k + r.index ≡ k + suc r.index = omega arith in same); here = r.here; level = r.level; winner = r.winner }

    go : (a b : Bool) → (e.level == 1) ≡ a → same_quantifier e.winner Universal ≡ b → IsSome (slice_get (cond (a && b) (e ∷ entries_of 1 Universal entries) (entries_of 1 Universal entries)) 0) → (IsSome (slice_get (entries_of 1 Universal entries) 0) → IsFirst entries (first_universal (suc k) entries) (suc k)) → IsFirst (e ∷ entries) (cond (a && b) (Some k) (first_universal (suc k) entries)) k
    go true true at own some rest = record { index = 0; entry = e; is = ap (λ n. Some n) (let same : k ≡ k + 0 = omega arith in same); here = refl; level = eqb-true e.level 1 at; winner = same-quantifier e.winner Universal own }
    go true false at own some rest = later (rest some)
    go false b at own some rest = later (rest some)

-- what is claimed of the lines
abbrev IsWon : Problem → List ExpansionLine → Type 0
IsWon p lines = IsExpansion p lines × ((e : ℕ → Option ℕ) → MakesAllTrue e (leaves_of p lines) → ⊥)

nothing-drawn : (p : Problem) → IsDrawing p no_lines
nothing-drawn p = record { lines = tt; parent = refl; path = tt }

by-entry : (p : Problem) (entries : List Entry) (n : ℕ) (e : Entry) → IsProblem p → IsLinked p entries → slice_get entries n ≡ Some e → e.level ≡ 1 → e.winner ≡ Universal → IsWon p (drawn (length (blocks_of p.prefix)) (blocks_of p.prefix) entries no_lines n).lines
by-entry p entries n e hp linked here level winner =
    let part = parts p entries hp linked (length (blocks_of p.prefix)) no_lines n e 0 (omega arith) here level winner (nothing-drawn p) refl in (
      part.lines,
      λ f all.
          let lines = (drawn (length (blocks_of p.prefix)) (blocks_of p.prefix) entries no_lines n).lines in
          lost p lines f all (part.fails (filled (known p lines) f) [] (filled-values (known p lines) f) tt
          (subst (λ (o : Option Entry). IsSomeAnd o (λ l. IsTrueAt [] l.region)) (sym here) (at-start p entries n e linked here level))),
    )

-- without places the matrix decides
without-places : (p : Problem) → IsProblem p → p.prefix ≡ [] → Means [] no_levels p.matrix 0 → IsWon p []
without-places p hp none means = (
  tt,
  λ e all.
      let empty : length p.prefix ≡ 0 = ap length none in
      let matrix = matrix-of p hp in
      let over = put-of (Before p (length p.prefix)) (Eigens []) (slice_get []) BoolSort p.matrix (λ l s k. let less = k.0 in absurd (omega (arith, less, empty))) matrix in
      let false-there = put-means (Before p (length p.prefix)) (slice_get []) (filled [] e) no_levels p.matrix 0 matrix.0 (λ l s k. let less = k.0 in absurd (omega (arith, less, empty))) means in
      lost p [] e all (record { number = 0; line = root; here = refl; whole = sym empty; over = over.0; means = false-there }),
)

pub tree-theorem : TreeTheorem
unfolding tree_of
tree-theorem p entries hp linked (inl first) =
    let found = first-found entries 0 first in
    let index : first_universal 0 entries ≡ Some found.index = found.is ∙ ap (λ n. Some n) (let same : 0 + found.index ≡ found.index = omega arith in same) in
    subst (λ (o : Option ℕ). IsWon p (tree_lines (blocks_of p.prefix) entries o).lines) (sym index) (by-entry p entries found.index found.entry hp linked found.here found.level found.winner)
tree-theorem p entries hp linked (inr none) =
    subst (λ (es : List Entry). IsWon p (tree_lines (blocks_of p.prefix) es (first_universal 0 es)).lines) (sym none.1) (without-places p hp none.0 none.2)
