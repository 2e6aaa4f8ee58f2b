use Rattle.std.proofs.Common.{◌≡◌, ◌+◌, ◌++◌, ℕ, List, length, get_or, map, take, ap, sym, ◌∙◌, arith}
use Rattle.std.specs.Prelude.{Vec, sum}
use Rattle.std.specs.declared.alloc.Global.{Global}
use Rattle.std.proofs.lemmas.List.{length-map}
use Rattle.std.proofs.lemmas.List.Elements.{recursion_from_All}
use Rattle.qv_words.specs.declared.sort.Sort.{Sort}
use Rattle.qv_words.specs.Tree.{Tree, tree_sort}
use Rattle.qv_words.specs.Truth.{constants_of_each}
use Rattle.qv_words.specs.Prenex.{form_of}
use Rattle.qv_words.specs.Problem.{Existential, conjunction, in_order, places_of, problem_of}
use Rattle.qv_words.specs.Problem.{Place as PlainPlace}
use Rattle.qv_store.specs.Nodes.{tree_at}
use Rattle.qv_store.specs.Problems.{place_of}
use Rattle.qv_prenex_laws.specs.FormLaws.{all_lengths}
use Rattle.qv_prenex.specs.Constants.{pair_of}
use Rattle.qv_prenex.specs.Blocks.{sorts_in}
use Rattle.qv_prenex_matrix.specs.NextLevels.{next_of}
use Rattle.qv_prenex_matrix.proofs.Trees.{tree-grows, trees-grow, length-grows}
use Rattle.qv_prenex.proofs.Problems.{places-pairs, indices-pairs, problem-prefix, problem-matrix-at, problem-same, blocks-count-of, assertion-at}
use Rattle.qv_prenex.proofs.posing.pose.Goals as goal
use Rattle.qv_store.proofs.Replacement.{grows-more}

pub levels_of-requires : goal.levels_of-requires
levels_of-requires c =
    let fs = map (tree_at c.args.store.now) c.args.assertions.now in
    let lengths : map (λ (b : List Sort). length b) (sorts_in c.deref-2.result.now) ≡ all_lengths fs =
    ap (λ (xs : List (Vec Sort Global)). map (λ (b : List Sort). length b) (sorts_in xs)) c.deref-2.ensures.value
    ∙ ap (λ (xs : List (List Sort)). map (λ (b : List Sort). length b) xs) c.in_ok-blocks.ensures.blocks ∙ blocks-count-of fs in
    omega (arith, ap (λ (ns : List ℕ). sum ns) lengths, c.requires.within)

pub conjoin-requires : goal.conjoin-requires
conjoin-requires c =
    let old = c.args.store.now in
    let new = c.blocks_of.new.store in
    let longer = length-grows old new c.blocks_of.ensures.grows in
    record {
      ids = λ k d lt. let low = c.requires.ids k d lt in omega (arith, low, longer);
      bool = λ k d lt.
          ap (λ (t : Tree). tree_sort t) (tree-grows old new (get_or c.args.assertions.now k d) c.blocks_of.ensures.grows (c.requires.ids k d lt))
          ∙ (assertion-at old c.args.assertions.now c.requires.assertions k d lt).bool;
    }

pub matrix_of-requires : goal.matrix_of-requires
matrix_of-requires c = record {
  formula = c.in_ok-formula.ensures.id.below;
  bool = c.in_ok-formula.ensures.bool;
  closed = c.in_ok-names.ensures.outer;
}

pub returns : goal.returns
returns c =
    let old = c.args.store.now in
    let mid = c.blocks_of.new.store in
    let next = c.conjoin.new.store in
    let new = c.matrix_of.new.store in
    let ns = c.args.assertions.now in
    let cs = c.args.constants.now in
    let fs = map (tree_at old) ns in
    let all = constants_of_each fs in
    let same : map (tree_at mid) ns ≡ fs = trees-grow old mid ns c.blocks_of.ensures.grows (recursion_from_All _ ns c.requires.ids) in
    let whole : tree_at next c.in_ok-formula.formula ≡ conjunction fs = c.in_ok-formula.ensures.id.tree ∙ ap conjunction same in
    let keys : c.in_ok-names.names.constants.keys ≡ map (λ p. p.0) (in_order all) =
    c.in_ok-names.ensures.constants all c.requires.constants ∙ indices-pairs cs ∙ ap (map (λ (p : ℕ × Sort). p.0)) c.requires.constants in
    let lengths : map (λ (b : List Sort). length b) (sorts_in c.deref-2.result.now) ≡ all_lengths fs =
    ap (λ (xs : List (Vec Sort Global)). map (λ (b : List Sort). length b) (sorts_in xs)) c.deref-2.ensures.value
    ∙ ap (λ (xs : List (List Sort)). map (λ (b : List Sort). length b) xs) c.in_ok-blocks.ensures.blocks ∙ blocks-count-of fs in
    let number : length cs ≡ length (in_order all) = sym (length-map cs pair_of) ∙ ap length c.requires.constants in
    let levels : (k : ℕ) → next_of c.in_ok-levels.levels.next.items c.in_ok-levels.levels.total k ≡ length (in_order all) + sum (take k (all_lengths fs)) =
    λ k. c.in_ok-levels.ensures k ∙ ap (λ (n : ℕ). n + sum (take k (map (λ (b : List Sort). length b) (sorts_in c.deref-2.result.now)))) number
    ∙ ap (λ (xs : List ℕ). length (in_order all) + sum (take k xs)) lengths in
    let matrix : tree_at new c.in_ok-matrix.matrix ≡ (problem_of fs).matrix =
    c.in_ok-matrix.ensures.id.tree
    ∙ problem-matrix-at fs c.in_ok-names.names.constants.keys (next_of c.in_ok-levels.levels.next.items c.in_ok-levels.levels.total) (tree_at next c.in_ok-formula.formula) keys levels whole in
    let blocks : sorts_in c.deref.result.now ≡ (form_of (conjunction fs)).blocks =
    ap (λ (xs : List (Vec Sort Global)). sorts_in xs) c.deref.ensures.value ∙ c.in_ok-blocks.ensures.blocks in
    let prefix : map place_of c.in_ok-prefix.prefix.items ≡ (problem_of fs).prefix =
    c.in_ok-prefix.ensures
    ∙ ap (λ (xs : List PlainPlace). xs ++ places_of Existential (sorts_in c.deref.result.now))
    (places-pairs cs ∙ ap (map (λ (p : ℕ × Sort). record { quantifier = Existential; sort = p.1 })) c.requires.constants)
    ∙ ap (λ (bs : List (List Sort)). map (λ (p : ℕ × Sort). record { quantifier = Existential; sort = p.1 }) (in_order all) ++ places_of Existential bs) blocks
    ∙ sym (problem-prefix fs) in
    record {
      problem = record {
        problem = problem-same (record { prefix = map place_of c.in_ok-prefix.prefix.items; matrix = tree_at new c.in_ok-matrix.matrix }) (problem_of fs) prefix matrix;
        constants = c.in_ok-indices_of.ensures ∙ indices-pairs cs ∙ ap (map (λ (p : ℕ × Sort). p.0)) c.requires.constants;
        below = c.in_ok-matrix.ensures.id.below;
      };
      grows = grows-more old mid new c.blocks_of.ensures.grows (grows-more mid next new c.conjoin.ensures.grows c.matrix_of.ensures.grows);
    }

pub returns-in_err-formula-clause-grows : goal.returns-in_err-formula-clause-grows
returns-in_err-formula-clause-grows c = grows-more c.args.store.now c.blocks_of.new.store c.conjoin.new.store c.blocks_of.ensures.grows c.conjoin.ensures.grows

pub returns-in_err-matrix-clause-grows : goal.returns-in_err-matrix-clause-grows
returns-in_err-matrix-clause-grows c = grows-more c.args.store.now c.blocks_of.new.store c.matrix_of.new.store c.blocks_of.ensures.grows (grows-more c.blocks_of.new.store c.conjoin.new.store c.matrix_of.new.store c.conjoin.ensures.grows c.matrix_of.ensures.grows)
