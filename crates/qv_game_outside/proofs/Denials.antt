-- The conjunction of formulas of a store that grows.
use Rattle.std.proofs.Common.{◌≡◌, ◌≢◌, ℕ, ◌+◌, ◌≤◌, ◌<◌, ◌==◌, false, Some, List, [], ◌∷◌, ◌++◌, length, map, take, get_or, refl, sym, ap, ◌∙◌, subst, arith}
use Rattle.std.specs.List.{All, AllByRecursion}
use Rattle.std.proofs.lemmas.List.{map-append, take_all, take_more}
use Rattle.std.proofs.lemmas.List.Elements.{All-from_recursion, recursion_from_All}
use Rattle.qv_words.specs.declared.sort.Sort.{Sort}
use Rattle.qv_words.specs.declared.sort.Sort.TheVariants.{Bool as BoolSort}
use Rattle.qv_words.specs.Tree.{Tree, tree_sort, IsQuantifierFree}
use Rattle.qv_words.specs.Sorted.{free_levels}
use Rattle.qv_words.specs.Skolem.{IsTermOf}
use Rattle.qv_words.specs.Clauses.{cnf}
use Rattle.qv_words.specs.Gate.{clauses_value}
use Rattle.qv_words.specs.Prenex.{binary}
use Rattle.qv_words.specs.Problem.{conjunction, conjunction_with}
use Rattle.qv_words.specs.declared.op.Op.TheVariants.{And}
use Rattle.qv_words.proofs.Elements.{all-of, all-weaker}
use Rattle.qv_cnf.specs.Truth.{HasNoModel}
use Rattle.qv_cnf_bridge_laws.specs.Bridge.{clauses_for}
use Rattle.qv_cnf_bridge_laws.proofs.Bridging.{clauses-value}
use Rattle.qv_game_laws.proofs.Terms.{OfVariable, IsOf, over-from_term, term-from_over}
use Rattle.qv_store.specs.Nodes.{tree_at}
use Rattle.qv_store.specs.Stores.{Grows, StandsAt}
use Rattle.qv_store.specs.Walks.{named}
use Rattle.qv_store.proofs.Replacement.{grown-tree, grown-within}
use Rattle.qv_blast.specs.States.{HasFormulas}
use Rattle.qv_blast.specs.declared.blaster.Blaster.{Blaster}
use Rattle.qv_game_outside.specs.Outside.{LeavesNone}

-- of terms by number
terms-each : (trees : List Tree) (ids : List ℕ) → AllByRecursion (λ t. IsTermOf t BoolSort) (named trees ids) → AllByRecursion (λ id. IsTermOf (tree_at trees id) BoolSort) ids
terms-each trees [] h = tt
terms-each trees (n ∷ ns) h = (h.0, terms-each trees ns h.1)

pub terms-at : (trees : List Tree) (ids : List ℕ) → All (λ t. IsTermOf t BoolSort) (named trees ids) → All (λ id. IsTermOf (tree_at trees id) BoolSort) ids
terms-at trees ids h = All-from_recursion (λ id. IsTermOf (tree_at trees id) BoolSort) ids (terms-each trees ids (recursion_from_All (λ t. IsTermOf t BoolSort) (named trees ids) h))

pub sorts-at : (trees : List Tree) (ids : List ℕ) → All (λ t. IsTermOf t BoolSort) (named trees ids) → All (λ id. tree_sort (tree_at trees id) ≡ Some BoolSort) ids
sorts-at trees ids h =
    All-from_recursion (λ id. tree_sort (tree_at trees id) ≡ Some BoolSort) ids
    (all-weaker (λ id. IsTermOf (tree_at trees id) BoolSort) (λ id. tree_sort (tree_at trees id) ≡ Some BoolSort) ids (λ id t. t.sort)
    (terms-each trees ids (recursion_from_All (λ t. IsTermOf t BoolSort) (named trees ids) h)))

-- whatever its variables are
abbrev Any : OfVariable
Any l s = Unit {0}

joined-of : (t : Tree) (ts : List Tree) → IsOf Any BoolSort t → AllByRecursion (IsOf Any BoolSort) ts → IsOf Any BoolSort (conjunction_with t ts)
joined-of t [] h each = h
joined-of t (u ∷ us) h each = joined-of (binary And t u) us (((h.0, (each.0.0, tt)), rw (h.1, each.0.1) refl), rw (h.1, each.0.1) refl) each.1

all-of_them : (ts : List Tree) → AllByRecursion (IsOf Any BoolSort) ts → IsOf Any BoolSort (conjunction ts)
all-of_them [] each = (((omega arith, omega arith), omega arith), refl)
all-of_them (t ∷ ts) each = joined-of t ts each.0 each.1

conjunction-term : (ts : List Tree) → All (λ t. IsTermOf t BoolSort) ts → IsTermOf (conjunction ts) BoolSort
conjunction-term ts h =
    term-from_over Any BoolSort (conjunction ts)
    (all-of_them ts
    (all-weaker (λ t. IsTermOf t BoolSort) (IsOf Any BoolSort) ts (λ t k. over-from_term Any BoolSort t k (all-of (λ (leaf : ℕ × Sort). Any leaf.0 leaf.1) (free_levels t) (λ leaf. tt)))
    (recursion_from_All (λ t. IsTermOf t BoolSort) ts h)))

pub joined-term : (trees : List Tree) (id : ℕ) (ts : List Tree) → StandsAt trees id (conjunction ts) → All (λ t. IsTermOf t BoolSort) ts → IsTermOf (tree_at trees id) BoolSort
joined-term trees id ts stands h = subst (λ (t : Tree). IsTermOf t BoolSort) (sym stands.tree) (conjunction-term ts h)

-- in a store that has grown
named-each : (old new : List Tree) (ids : List ℕ) → Grows old new → AllByRecursion (λ n. n < length old) ids → named new ids ≡ named old ids
named-each old new [] grows h = refl
named-each old new (n ∷ ns) grows h =
    ap (λ (t : Tree). t ∷ named new ns) (grown-tree old new grows n h.0) ∙ ap (λ (ts : List Tree). tree_at old n ∷ ts) (named-each old new ns grows h.1)

pub named-later : (old new : List Tree) (ids : List ℕ) → Grows old new → All (λ n. n < length old) ids → named new ids ≡ named old ids
named-later old new ids grows h = named-each old new ids grows (recursion_from_All (λ n. n < length old) ids h)

pub below-later : (old new : List Tree) (ids : List ℕ) → Grows old new → All (λ n. n < length old) ids → All (λ n. n < length new) ids
below-later old new ids grows h =
    All-from_recursion (λ n. n < length new) ids
    (all-weaker (λ n. n < length old) (λ n. n < length new) ids (λ n low. grown-within old new grows n low) (recursion_from_All (λ n. n < length old) ids h))

pub terms-later : (old new : List Tree) (ids : List ℕ) → Grows old new → All (λ n. n < length old) ids → All (λ t. IsTermOf t BoolSort) (named old ids) → All (λ t. IsTermOf t BoolSort) (named new ids)
terms-later old new ids grows low h = subst (λ (ts : List Tree). All (λ t. IsTermOf t BoolSort) ts) (sym (named-later old new ids grows low)) h

-- some formulas, by number
pub some-of_test : (ids : List ℕ) → (length ids == 0) ≡ false → ids ≢ []
some-of_test [] h e = absurd cc
some-of_test (n ∷ ns) h e = cc

some-named : (trees : List Tree) (ids : List ℕ) → ids ≢ [] → named trees ids ≢ []
some-named trees [] h e = h refl
some-named trees (n ∷ ns) h e = cc

-- a formula, and others that were there before it
pub below-joined : (old new : List Tree) (id : ℕ) (asked ids : List ℕ) → Grows old new → id < length new → All (λ n. n < length old) asked → ids ≡ id ∷ asked → All (λ n. n < length new) ids
below-joined old new id asked ids grows low below is =
    subst (λ (ns : List ℕ). All (λ n. n < length new) ns) (sym is)
    (All-from_recursion (λ n. n < length new) (id ∷ asked) (low, recursion_from_All (λ n. n < length new) asked (below-later old new asked grows below)))

pub terms-joined : (old new : List Tree) (id : ℕ) (denials asked ids : List ℕ) → Grows old new → StandsAt new id (conjunction (named old denials)) → All (λ t. IsTermOf t BoolSort) (named old denials) → All (λ n. n < length old) asked → All (λ t. IsTermOf t BoolSort) (named old asked) → ids ≡ id ∷ asked → All (λ t. IsTermOf t BoolSort) (named new ids)
terms-joined old new id denials asked ids grows stands denied below terms is =
    subst (λ (ns : List ℕ). All (λ t. IsTermOf t BoolSort) (named new ns)) (sym is)
    (All-from_recursion (λ t. IsTermOf t BoolSort) (named new (id ∷ asked))
    (joined-term new id (named old denials) stands denied, recursion_from_All (λ t. IsTermOf t BoolSort) (named new asked) (terms-later old new asked grows below terms)))

pub none-left : (old new : List Tree) (denials asked ids : List ℕ) (id : ℕ) → Grows old new → denials ≢ [] → All (λ n. n < length old) asked → StandsAt new id (conjunction (named old denials)) → ids ≡ id ∷ asked → HasNoModel (clauses_for (cnf (named new ids))) → LeavesNone new (named old denials) (named old asked) id
none-left old new denials asked ids id grows some low stands is none = record {
  some = some-named old denials some;
  stands = stands;
  no_model = λ v e.
      let same : named new ids ≡ conjunction (named old denials) ∷ named old asked =
      ap (named new) is ∙ ap (λ (t : Tree). t ∷ named new asked) stands.tree ∙ ap (λ (ts : List Tree). conjunction (named old denials) ∷ ts) (named-later old new asked grows low) in
      none v (clauses-value v (cnf (named new ids)) ∙ ap (λ (ts : List Tree). clauses_value v (cnf ts)) same ∙ e);
}

-- one more of the formulas
pub term-free : (trees : List Tree) (ids : List ℕ) (k n : ℕ) → k < length ids → n ≡ get_or ids k n → All (λ t. IsTermOf t BoolSort) (named trees ids) → IsQuantifierFree (tree_at trees n)
term-free trees ids k n low is h =
    let here : IsTermOf (tree_at trees (get_or ids k n)) BoolSort = terms-at trees ids h k n low in
    subst (λ (m : ℕ). IsQuantifierFree (tree_at trees m)) (sym is) here.quantifier_free

pub has-next : (trees : List Tree) (ids : List ℕ) (k n : ℕ) (old new : Blaster) → k < length ids → n ≡ get_or ids k n → HasFormulas trees (named trees (take k ids)) old → ((fs : List Tree) → HasFormulas trees fs old → HasFormulas trees (fs ++ tree_at trees n ∷ []) new) → HasFormulas trees (named trees (take (k + 1) ids)) new
has-next trees ids k n old new low is has more =
    let longer : named trees (take k ids) ++ tree_at trees n ∷ [] ≡ named trees (take (k + 1) ids) =
    sym (map-append (tree_at trees) (take k ids) (n ∷ []))
    ∙ ap (λ (ns : List ℕ). map (tree_at trees) ns) (ap (λ (m : ℕ). take k ids ++ m ∷ []) is ∙ sym (take_more ids k n low)) in
    subst (λ (fs : List Tree). HasFormulas trees fs new) longer (more (named trees (take k ids)) has)

pub has-all : (trees : List Tree) (ids : List ℕ) (k : ℕ) (b : Blaster) → length ids ≤ k → HasFormulas trees (named trees (take k ids)) b → HasFormulas trees (named trees ids) b
has-all trees ids k b h has = subst (λ (ns : List ℕ). HasFormulas trees (named trees ns) b) (take_all k ids h) has
