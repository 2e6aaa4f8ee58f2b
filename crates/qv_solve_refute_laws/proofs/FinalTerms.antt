-- The formulas of a final list are boolean terms.
use Rattle.std.proofs.Common.{◌≡◌, ℕ, List, [], ◌∷◌, refl, sym, subst, ◌∙◌}
use Rattle.std.specs.Prelude.{All}
use Rattle.std.specs.List.{AllByRecursion, AllZip, Contains}
use Rattle.std.proofs.lemmas.List.Elements.{All-from_recursion, recursion_from_All}
use Rattle.qv_words.specs.declared.sort.Sort.{Sort}
use Rattle.qv_words.specs.declared.sort.Sort.TheVariants.{Bool as BoolSort}
use Rattle.qv_words.specs.Tree.{Tree}
use Rattle.qv_words.specs.Sorted.{constants_of}
use Rattle.qv_words.specs.Skolem.{IsTermOf, goal_of}
use Rattle.qv_words.specs.Expansion.{leaves_of}
use Rattle.qv_words.specs.PassLaws.{IsPlain, StandsFor}
use Rattle.qv_words.specs.Problem.{Existential, Universal}
use Rattle.qv_words.specs.Linked.{chain, tree_of}
use Rattle.qv_words.proofs.Elements.{all-weaker}
use Rattle.qv_rewrite_passes.specs.declared.pass.Pass.{Pass}
use Rattle.qv_rewrite_passes.specs.Passes.{behind_all}
use Rattle.qv_rewrite_passes.proofs.Behind.{all-stand}
use Rattle.qv_cert_section_laws.proofs.LawfulLines.{leaves-are_terms}
use Rattle.qv_cert_section_laws.proofs.SkolemByOneMore.{goals-are_terms}
use Rattle.qv_game_laws.proofs.ChainTheorem.{chain-theorem}
use Rattle.qv_game_laws.proofs.TreeTheorem.{tree-theorem}
use Rattle.qv_solve_refute_laws.specs.FinalLaws.{FinalListsAreTerms}
use Rattle.qv_solve_refute_laws.proofs.NoModels.{none-of_none}

abbrev Formula : Tree → Type 0
Formula t = IsTermOf t BoolSort

-- what stands for a formula is one
stands-formula : (u t : Tree) → StandsFor u t → Formula t → Formula u
stands-formula u t s h = record {
  sorted = s.plain.sorted;
  sort = s.sort ∙ h.sort;
  quantifier_free = s.plain.free;
  constant_free = none-of_none (constants_of u) (subst (λ (cs : List (ℕ × Sort)). All (Contains cs) (constants_of u)) h.constant_free s.constants);
}

stands-each : (us ts : List Tree) → AllZip StandsFor us ts → AllByRecursion Formula ts → AllByRecursion Formula us
stands-each [] ts s h = tt
stands-each (u ∷ us) [] s h = absurd s
stands-each (u ∷ us) (t ∷ ts) s h = (stands-formula u t s.0 h.0, stands-each us ts s.1 h.1)

-- formulas stay formulas behind passes
passed-formulas : (passes : List Pass) (formulas behind : List Tree) → AllByRecursion Formula formulas → behind ≡ behind_all passes formulas → All Formula behind
passed-formulas passes formulas behind h is =
    let plain = all-weaker Formula IsPlain formulas (λ t k. record { sorted = k.sorted; free = k.quantifier_free }) h in
    let stand : AllZip StandsFor behind formulas = subst (λ (us : List Tree). AllZip StandsFor us formulas) (sym is) (all-stand passes formulas plain) in
    All-from_recursion Formula behind (stands-each behind formulas stand h)

pub final-terms : FinalListsAreTerms
final-terms p Existential entries formulas hp linked won (passes, is) =
    let made = chain-theorem p entries hp linked won in
    let goal = goal_of p (chain p entries) in
    passed-formulas passes (goal ∷ []) formulas ((goals-are_terms p (chain p entries) hp made.0).0, tt) is
final-terms p Universal entries formulas hp linked won (passes, is) =
    let made = tree-theorem p entries hp linked won in
    let lines = tree_of p entries in
    let terms = leaves-are_terms p lines hp made.0 in
    let each : All Formula (leaves_of p lines) = λ k d less. (terms k d less).0 in
    passed-formulas passes (leaves_of p lines) formulas (recursion_from_All Formula (leaves_of p lines) each) is
