use Rattle.std.proofs.Common.{◌≡◌, ℕ, [], length, map, sym, ap, subst, arith}
use Rattle.std.specs.List.{All, AllByRecursion}
use Rattle.std.specs.Prelude.{IsSomeAnd, slice_get}
use Rattle.std.proofs.lemmas.List.Elements.{All-from_recursion, recursion_from_All}
use Rattle.qv_words.specs.declared.sort.Sort.{Sort}
use Rattle.qv_words.specs.declared.word.Word.{Word}
use Rattle.qv_words.specs.Word.{word_sort}
use Rattle.qv_words.specs.Tree.{Tree}
use Rattle.qv_words.specs.Sorted.{constants_of, free_levels}
use Rattle.qv_words.specs.Problem.{Problem}
use Rattle.qv_words.specs.Linked.{IsPlaceBelow}
use Rattle.qv_words.specs.Values.{HasWords}
use Rattle.qv_words.proofs.Elements.{all-weaker}
use Rattle.qv_store.specs.Problems.{place_of, problem_in}
use Rattle.qv_game.proofs.playing.decide.Goals as goal

-- no variables without places
none-below : (p : Problem) → p.prefix ≡ [] → (leaf : ℕ × Sort) → IsPlaceBelow p (length p.prefix) leaf → IsSomeAnd (slice_get {X = Word} [] leaf.0) (λ w. word_sort w ≡ leaf.1)
none-below p none leaf h =
    let low = h.0 in
    let count = ap length none in
    absurd (omega (arith, low, count))

words : (p : Problem) (t : Tree) → p.prefix ≡ [] → constants_of t ≡ [] → All (IsPlaceBelow p (length p.prefix)) (free_levels t) → HasWords [] [] t
words p t none free variables =
    let Given : ℕ × Sort → Type 0 = λ leaf. IsSomeAnd (slice_get {X = Word} [] leaf.0) (λ w. word_sort w ≡ leaf.1) in
    record {
      constants = All-from_recursion Given (constants_of t) (subst (AllByRecursion Given) (sym free) tt);
      levels = All-from_recursion Given (free_levels t) (all-weaker (IsPlaceBelow p (length p.prefix)) Given (free_levels t) (none-below p none) (recursion_from_All (IsPlaceBelow p (length p.prefix)) (free_levels t) variables));
    }

pub eval_at-requires-clause-words : goal.eval_at-requires-clause-words
eval_at-requires-clause-words c =
    let p = problem_in c.args.store.now c.args.problem.now in
    let is = c.requires.posed.problem in
    words p p.matrix (ap (map place_of) c.requires.none) is.matrix.constant_free is.variables
