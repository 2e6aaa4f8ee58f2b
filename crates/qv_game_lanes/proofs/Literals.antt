-- The clauses of formulas have literals, as solvers have them.
use Rattle.std.proofs.Common.{◌≢◌, List, [], ◌∷◌, map, refl}
use Rattle.std.specs.List.{All, AllByRecursion}
use Rattle.std.proofs.lemmas.List.Elements.{All-from_recursion, recursion_from_All}
use Rattle.qv_words.specs.declared.sort.Sort.TheVariants.{Bool as BoolSort}
use Rattle.qv_words.specs.Tree.{Tree}
use Rattle.qv_words.specs.Skolem.{IsTermOf}
use Rattle.qv_words.specs.Gate.{Lit}
use Rattle.qv_words.specs.Clauses.{cnf}
use Rattle.qv_cnf_bridge_laws.specs.Bridge.{clauses_for, literal_for}
use Rattle.qv_game_entry_laws.proofs.Literals.{clauses-have_literals}

one : (ls : List Lit) → ls ≢ [] → map literal_for ls ≢ []
one [] f e = f refl
one (l ∷ ls) f e = cc

filled-for : (cs : List (List Lit)) → AllByRecursion (λ c. c ≢ []) cs → AllByRecursion (λ c. c ≢ []) (clauses_for cs)
filled-for [] h = tt
filled-for (c ∷ cs) h = (one c h.0, filled-for cs h.1)

pub solver-clauses_have_literals : (formulas : List Tree) → All (λ t. IsTermOf t BoolSort) formulas → All (λ c. c ≢ []) (clauses_for (cnf formulas))
solver-clauses_have_literals formulas h =
    All-from_recursion (λ c. c ≢ []) (clauses_for (cnf formulas)) (filled-for (cnf formulas) (recursion_from_All (λ c. c ≢ []) (cnf formulas) (clauses-have_literals formulas h)))
