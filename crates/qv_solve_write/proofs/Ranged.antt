-- What may be written, term by term.
use Rattle.std.proofs.Common.{◌≡◌, ℕ, zero, suc, ◌+◌, ◌<◌, ◌≤◌, ◌^◌, Some, List, [], ◌∷◌, ◌++◌, length, get_or, slice_get, sym, subst, arith}
use Rattle.std.specs.Prelude.{All}
use Rattle.std.specs.List.{AllByRecursion}
use Rattle.std.proofs.lemmas.List.Elements.{All-from_recursion, recursion_from_All}
use Rattle.std.proofs.lemmas.Option.{slice_get-get_or, slice_get_within}
use Rattle.qv_words.specs.declared.sort.Sort.{Sort}
use Rattle.qv_words.specs.Tree.{Tree, Trees, Constant, Variable, Literal, Apply, ForAll, Exists, Nil, Cons, AreQuantifierFree}
use Rattle.qv_words.specs.Sorted.{free_levels, free_levels_of_all}
use Rattle.qv_words.specs.Problem.{Problem, Existential, Universal}
use Rattle.qv_words.specs.Skolem.{IsEarlierUniversal, IsSkolemTerm, IsTermOf, SkolemOk, SkolemTerm}
use Rattle.qv_words.specs.Expansion.{AreLines, ExpansionLine, Grown, IsEarlierEigen, IsExpansion, StandsAt, grow, line_numbered}
use Rattle.qv_words.specs.Expansion.{Instance as InstanceOf, Eigen as EigenOf}
use Rattle.qv_words.proofs.Elements.{all-at, all-weaker, get-map, length-pushed, some-and}
use Rattle.qv_words.proofs.Leaves.{back, front}
use Rattle.qv_store.specs.Nodes.{tree_at}
use Rattle.qv_store.specs.Stores.{children_of}
use Rattle.qv_store.specs.Walks.{named, with_subtrees}
use Rattle.qv_store.proofs.Passes.{EachTree, each-subtree}
use Rattle.qv_cert.specs.Line.{IsNumber}
use Rattle.qv_solve_write.specs.Ranges.{IsInRange, IsLineInRange, IsTermInRange}

-- ---- the children of a term

abbrev IsLow : ℕ × Sort → Type 0
IsLow leaf = IsNumber leaf.0

each-child : (ts : Trees) → AreQuantifierFree ts → AllByRecursion IsLow (free_levels_of_all ts) → EachTree IsInRange ts
each-child Nil f h = tt
each-child (Cons t ts) f h = (
  record { free = f.0; levels = All-from_recursion IsLow (free_levels t) (front IsLow (free_levels t) (free_levels_of_all ts) h) },
  each-child ts f.1 (back IsLow (free_levels t) (free_levels_of_all ts) h),
)

hands-on : (t : Tree) → IsInRange t → EachTree IsInRange (children_of t)
hands-on (Constant i s) h = tt
hands-on (Variable l s) h = tt
hands-on (Literal s n) h = tt
hands-on (Apply o args) h = each-child args h.free (recursion_from_All IsLow (free_levels (Apply o args)) h.levels)
hands-on (ForAll l s body) h = absurd h.free
hands-on (Exists l s body) h = absurd h.free

-- so may each term of a walk
pub walk-ranged : (trees : List Tree) (old new : List ℕ) (t : Tree) → AllByRecursion IsInRange (named trees old) → IsInRange t → named trees new ≡ with_subtrees (named trees old) t → AllByRecursion IsInRange (named trees new)
walk-ranged trees old new t h own e = subst (AllByRecursion IsInRange) (sym e) (each-subtree IsInRange hands-on (named trees old) t h own)

pub ranged-at : (trees : List Tree) (ids : List ℕ) (place : ℕ) → AllByRecursion IsInRange (named trees ids) → place < length ids → IsInRange (tree_at trees (get_or ids place 0))
ranged-at trees ids place h within =
    all-at IsInRange (named trees ids) place (tree_at trees (get_or ids place 0)) h (get-map (tree_at trees) ids place (get_or ids place 0) (slice_get-get_or ids place 0 within))

-- ---- Skolem terms

module _ (p : Problem) (few : length p.prefix ≤ 2 ^ 62) where
  term-ranged : (s : SkolemTerm) → IsSkolemTerm p s → IsTermInRange s
  term-ranged s h =
      let place = some-and (slice_get p.prefix s.place) (λ q. (q.quantifier ≡ Existential) × IsTermOf s.term q.sort) h.0 in
      let within = slice_get_within p.prefix s.place place.0 place.1 in (
        omega (arith, few, within),
        record {
          free = place.2.1.quantifier_free;
          levels = All-from_recursion IsLow (free_levels s.term) (all-weaker (IsEarlierUniversal p s.place) IsLow (free_levels s.term) (λ leaf k. omega (arith, k.0, few, within)) (recursion_from_All (IsEarlierUniversal p s.place) (free_levels s.term) h.1));
        },
      )

  pub terms-ranged : (terms : List SkolemTerm) → SkolemOk p terms → All IsTermInRange terms
  terms-ranged terms h = All-from_recursion IsTermInRange terms (all-weaker (IsSkolemTerm p) IsTermInRange terms term-ranged (recursion_from_All (IsSkolemTerm p) terms h.each))

-- ---- expansion lists

line-known : (grown : List Grown) (n : ℕ) (g : Grown) → line_numbered grown n ≡ Some g → n ≤ length grown
line-known grown zero g e = omega arith
line-known grown (suc n) g e = let within = slice_get_within grown n g e in omega (arith, within)

lines-low : (p : Problem) (grown : List Grown) (lines : List ExpansionLine) → length grown + length lines < 2 ^ 62 → AreLines p grown lines → AllByRecursion IsLineInRange lines
lines-low p grown [] few h = tt
lines-low p grown (InstanceOf parent t ∷ lines) few h =
    let above = some-and (line_numbered grown parent) (λ g. StandsAt p Universal g.path (IsTermOf t)) h.0.0 in
    let place = some-and (slice_get p.prefix (length above.0.path)) (λ q. (q.quantifier ≡ Universal) × IsTermOf t q.sort) above.2 in
    let below = line-known grown parent above.0 above.1 in
    let leaf-low : (leaf : ℕ × Sort) → IsEarlierEigen grown leaf → IsLow leaf = λ leaf k.
    let own = some-and (line_numbered grown leaf.0) (λ g. g.eigen ≡ Some leaf.1) k.1 in
    let known = line-known grown leaf.0 own.0 own.1 in
    omega (arith, known, few) in (
      (
        omega (arith, below, few),
        record {
          free = place.2.1.quantifier_free;
          levels = All-from_recursion IsLow (free_levels t) (all-weaker (IsEarlierEigen grown) IsLow (free_levels t) leaf-low (recursion_from_All (IsEarlierEigen grown) (free_levels t) h.0.1));
        },
      ),
      lines-low p (grown ++ grow p grown (InstanceOf parent t) ∷ []) lines (omega (arith, few, length-pushed grown (grow p grown (InstanceOf parent t)))) h.1,
    )
lines-low p grown (EigenOf parent ∷ lines) few h =
    let above = some-and (line_numbered grown parent) (λ g. StandsAt p Existential g.path (λ s. Unit {0})) h.0 in
    let below = line-known grown parent above.0 above.1 in
    (omega (arith, below, few), lines-low p (grown ++ grow p grown (EigenOf parent) ∷ []) lines (omega (arith, few, length-pushed grown (grow p grown (EigenOf parent)))) h.1)

pub lines-ranged : (p : Problem) (lines : List ExpansionLine) → length lines < 2 ^ 62 → IsExpansion p lines → All IsLineInRange lines
lines-ranged p lines few h = All-from_recursion IsLineInRange lines (lines-low p [] lines (omega (arith, few)) h)
