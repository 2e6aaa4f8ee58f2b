-- The clauses of formulas under ids from 1 on.
use Rattle.std.proofs.Common.{◌≡◌, ◌≢◌, ℕ, List, [], ◌∷◌, map, refl, sym, ap, subst, ◌∙◌}
use Rattle.std.specs.Prelude.{All}
use Rattle.std.specs.List.{AllByRecursion}
use Rattle.std.proofs.lemmas.List.Elements.{All-from_recursion, recursion_from_All}
use Rattle.qv_words.specs.declared.sort.Sort.TheVariants.{Bool as BoolSort}
use Rattle.qv_words.specs.Tree.{Tree, IsQuantifierFree}
use Rattle.qv_words.specs.Skolem.{IsTermOf}
use Rattle.qv_words.specs.Gate.{Lit}
use Rattle.qv_words.specs.Clauses.{cnf}
use Rattle.qv_cnf.specs.Literal.{Literal}
use Rattle.qv_cnf.specs.Listing.{Listing, clauses_of}
use Rattle.qv_cnf.specs.Refutation.{Standing, standing_at}
use Rattle.qv_cnf_bridge_laws.specs.Bridge.{clauses_for, literal_for}
use Rattle.qv_game_entry_laws.proofs.Literals.{clauses-have_literals}
use Rattle.qv_store.specs.Nodes.{tree_at}
use Rattle.qv_store.specs.Walks.{named}
use Rattle.qv_blast.specs.Blasters.{from_one}
use Rattle.qv_blast.proofs.FromOne.{with-clauses-of}
use Rattle.qv_cert.specs.ClauseList.{clause_list}
use Rattle.qv_cert_formulas.proofs.Given.{clauses-given, live-from_one}
use Rattle.qv_solve_refute.specs.Feeding.{listed_in}
use Rattle.qv_cert.proofs.Bridge.{clauses-of}

-- ---- clauses have literals

one : (ls : List Lit) → ls ≢ [] → map literal_for ls ≢ []
one [] f e = f refl
one (l ∷ ls) f e = cc

filled-for : (cs : List (List Lit)) → AllByRecursion (λ c. c ≢ []) cs → AllByRecursion (λ c. c ≢ []) (clauses_for cs)
filled-for [] h = tt
filled-for (c ∷ cs) h = (one c h.0, filled-for cs h.1)

pub clauses-filled : (formulas : List Tree) (cs : List (List Literal)) → cs ≡ clauses_for (cnf formulas) → All (λ t. IsTermOf t BoolSort) formulas → All (λ c. c ≢ []) cs
clauses-filled formulas cs e h =
    subst (λ (xs : List (List Literal)). All (λ c. c ≢ []) xs) (sym e)
    (All-from_recursion (λ c. c ≢ []) (clauses_for (cnf formulas)) (filled-for (cnf formulas) (recursion_from_All (λ c. c ≢ []) (cnf formulas) (clauses-have_literals formulas h))))

-- ---- those of formulas

pub listed-clauses : (formulas : List Tree) (l : Listing) → l ≡ from_one (clauses_for (cnf formulas)) → listed_in l ≡ clause_list formulas
listed-clauses formulas l e = ap (λ (s : Standing). s.live) (clauses-given formulas l (standing_at (listed_in l)) e refl)

pub list-clauses : (formulas : List Tree) → clauses_of (clause_list formulas) ≡ clauses_for (cnf formulas)
list-clauses formulas = clauses-of 1 (cnf formulas)

-- the same of a listing
pub clauses-in : (formulas : List Tree) (l : Listing) → l ≡ from_one (clauses_for (cnf formulas)) → clauses_of l.live ≡ clauses_for (cnf formulas)
clauses-in formulas l e = ap (λ (x : Listing). clauses_of x.live) e ∙ with-clauses-of (record { live = []; given = [] }) 1 (clauses_for (cnf formulas))

-- terms have no quantifiers
pub terms-free : (trees : List Tree) (ids : List ℕ) → All (λ t. IsTermOf t BoolSort) (named trees ids) → All (λ id. IsQuantifierFree (tree_at trees id)) ids
terms-free trees ids h = All-from_recursion (λ id. IsQuantifierFree (tree_at trees id)) ids (go ids (recursion_from_All (λ t. IsTermOf t BoolSort) (named trees ids) h))
  where
    go : (ns : List ℕ) → AllByRecursion (λ t. IsTermOf t BoolSort) (named trees ns) → AllByRecursion (λ id. IsQuantifierFree (tree_at trees id)) ns
    go [] k = tt
    go (n ∷ ns) k = (k.0.quantifier_free, go ns k.1)

-- a list under ids from 1 on is its clauses under these
pub numbered-list : (l : Listing) → l ≡ from_one (clauses_of l.live) → l.live ≡ listed_in l
numbered-list l e = ap (λ (x : Listing). x.live) e ∙ live-from_one (clauses_of l.live)
