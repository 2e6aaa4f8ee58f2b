use Rattle.std.proofs.Common.{◌≡◌, ◌<◌, ℕ, List, Option, length, map, subst, sym, ap, ◌∙◌, rules}
use Rattle.std.specs.Prelude.{All}
use Rattle.std.proofs.lemmas.List.Elements.{All-from_recursion, recursion_from_All}
use Rattle.qv_words.specs.declared.sort.Sort.TheVariants.{Bool as BoolSort}
use Rattle.qv_words.specs.Tree.{Tree}
use Rattle.qv_words.specs.Skolem.{IsTermOf, IsSkolemTerm}
use Rattle.qv_words.specs.Replacement.{replaced, HasTheirSorts}
use Rattle.qv_store.specs.Nodes.{tree_at}
use Rattle.qv_store.specs.Stores.{StandsAt}
use Rattle.qv_store.specs.Problems.{problem_in}
use Rattle.qv_store.specs.Replacing.{put_by_level, term_of_level, AreTermsOf}
use Rattle.qv_cert_nodes.specs.declared.listed.Term.{Term}
use Rattle.qv_cert_nodes.specs.Lists.{term_in, listed_in}
use Rattle.qv_cert_nodes.specs.Putting.{term_given, lacks_in}
use Rattle.qv_cert_nodes.proofs.Puts.{terms-within, lacks-same, put-some, given-terms, goal-term, goal-sorts, goal-stands, goal-free}
use Rattle.qv_cert_nodes.proofs.formulas.goal_of.Goals as goal

pub terms_by_place-requires : goal.terms_by_place-requires
terms_by_place-requires c =
    let many : c.len.result ≡ length c.args.problem.now.prefix.items = search rules in
    let ts = c.args.listed.now.terms.items in
    let within = terms-within c.args.store.now c.args.problem.now ts (recursion_from_All (IsSkolemTerm (problem_in c.args.store.now c.args.problem.now)) (map (term_in c.args.store.now) ts) c.requires.terms) in
    subst (All (λ t. t.place < c.len.result)) (sym c.terms.ensures)
    (subst (λ n. All (λ (t : Term). t.place < n) ts) (sym many) (All-from_recursion (λ t. t.place < length c.args.problem.now.prefix.items) ts within))

pub returns-then-lacks_term-clause-missing : goal.returns-then-lacks_term-clause-missing
returns-then-lacks_term-clause-missing c =
    let ts = c.args.listed.now.terms.items in
    let same : (j : ℕ) → term_of_level c.in_ok-terms.terms.items j ≡ term_given ts j =
    λ j. c.in_ok-terms.ensures j ∙ ap (λ (xs : List Term). term_given xs j) c.terms.ensures in
    c.if-lacks_term.ensures
    ∙ ap (λ (put : List (Option ℕ)). lacks_in put 0 c.args.problem.now.prefix.items) c.deref.ensures.value
    ∙ lacks-same (listed_in c.args.store.now c.args.listed.now) c.in_ok-terms.terms.items 0 c.args.problem.now.prefix.items (put-some c.args.store.now ts c.in_ok-terms.terms.items same)

pub put_in-requires-clause-terms : goal.put_in-requires-clause-terms
put_in-requires-clause-terms c =
    let ts = c.args.listed.now.terms.items in
    let same : (j : ℕ) → term_of_level c.in_ok-terms.terms.items j ≡ term_given ts j =
    λ j. c.in_ok-terms.ensures j ∙ ap (λ (xs : List Term). term_given xs j) c.terms.ensures in
    subst (AreTermsOf c.args.store.now) (sym c.deref-2.ensures.value) (given-terms c.args.store.now ts c.in_ok-terms.terms.items c.requires.kept.terms same)

pub put_in-requires-clause-sorts : goal.put_in-requires-clause-sorts
put_in-requires-clause-sorts c =
    let ts = c.args.listed.now.terms.items in
    let same : (j : ℕ) → term_of_level c.in_ok-terms.terms.items j ≡ term_given ts j =
    λ j. c.in_ok-terms.ensures j ∙ ap (λ (xs : List Term). term_given xs j) c.terms.ensures in
    subst (λ (put : List (Option ℕ)). HasTheirSorts (put_by_level c.args.store.now put) (tree_at c.args.store.now c.args.problem.now.matrix)) (sym c.deref-2.ensures.value)
    (goal-sorts c.args.store.now c.args.problem.now ts c.in_ok-terms.terms.items c.requires.posed.problem c.requires.terms same)

pub put_negation-requires-clause-formula : goal.put_negation-requires-clause-formula
put_negation-requires-clause-formula c =
    let ts = c.args.listed.now.terms.items in
    let same : (j : ℕ) → term_of_level c.in_ok-terms.terms.items j ≡ term_given ts j =
    λ j. c.in_ok-terms.ensures j ∙ ap (λ (xs : List Term). term_given xs j) c.terms.ensures in
    let term = goal-term c.args.store.now c.args.problem.now ts c.in_ok-terms.terms.items c.requires.posed.problem c.requires.terms same in
    subst (λ (t : Tree). IsTermOf t BoolSort) (sym (c.in_ok-matrix.ensures.id.tree ∙ ap (λ (put : List (Option ℕ)). replaced (put_by_level c.args.store.now put) (tree_at c.args.store.now c.args.problem.now.matrix)) c.deref-2.ensures.value)) term

pub returns-clause-missing : goal.returns-clause-missing
returns-clause-missing c =
    let ts = c.args.listed.now.terms.items in
    let same : (j : ℕ) → term_of_level c.in_ok-terms.terms.items j ≡ term_given ts j =
    λ j. c.in_ok-terms.ensures j ∙ ap (λ (xs : List Term). term_given xs j) c.terms.ensures in
    c.if-lacks_term.ensures
    ∙ ap (λ (put : List (Option ℕ)). lacks_in put 0 c.args.problem.now.prefix.items) c.deref.ensures.value
    ∙ lacks-same (listed_in c.args.store.now c.args.listed.now) c.in_ok-terms.terms.items 0 c.args.problem.now.prefix.items (put-some c.args.store.now ts c.in_ok-terms.terms.items same)

pub returns-clause-goal : goal.returns-clause-goal
returns-clause-goal c =
    let ts = c.args.listed.now.terms.items in
    let same : (j : ℕ) → term_of_level c.in_ok-terms.terms.items j ≡ term_given ts j =
    λ j. c.in_ok-terms.ensures j ∙ ap (λ (xs : List Term). term_given xs j) c.terms.ensures in
    goal-stands c.args.store.now c.put_in.new.self c.put_negation.new.store c.args.problem.now ts c.in_ok-terms.terms.items c.in_ok-matrix.matrix c.in_ok-goal.goal same
    (subst (λ (put : List (Option ℕ)). StandsAt c.put_in.new.self c.in_ok-matrix.matrix (replaced (put_by_level c.args.store.now put) (tree_at c.args.store.now c.args.problem.now.matrix))) c.deref-2.ensures.value c.in_ok-matrix.ensures.id)
    c.in_ok-goal.ensures.id

pub returns-clause-free : goal.returns-clause-free
returns-clause-free c =
    let ts = c.args.listed.now.terms.items in
    let same : (j : ℕ) → term_of_level c.in_ok-terms.terms.items j ≡ term_given ts j =
    λ j. c.in_ok-terms.ensures j ∙ ap (λ (xs : List Term). term_given xs j) c.terms.ensures in
    let term = goal-term c.args.store.now c.args.problem.now ts c.in_ok-terms.terms.items c.requires.posed.problem c.requires.terms same in
    goal-free c.put_in.new.self c.put_negation.new.store c.in_ok-matrix.matrix c.in_ok-goal.goal
    (subst (λ (t : Tree). IsTermOf t BoolSort) (sym (c.in_ok-matrix.ensures.id.tree ∙ ap (λ (put : List (Option ℕ)). replaced (put_by_level c.args.store.now put) (tree_at c.args.store.now c.args.problem.now.matrix)) c.deref-2.ensures.value)) term)
    c.in_ok-goal.ensures.id
