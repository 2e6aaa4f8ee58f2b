use Rattle.std.proofs.Common.{◌≡◌, ℕ, true, List, length, vec_len, rules, map, ap, sym, subst, ◌∙◌}
use Rattle.std.specs.Prelude.{All}
use Rattle.std.proofs.lemmas.Bool.{eqb-true, eqb-false}
use Rattle.std.proofs.lemmas.List.Elements.{recursion_from_All}
use Rattle.qv_words.specs.Problem.{conjunction}
use Rattle.qv_words.specs.Passes.{truth_literal}
use Rattle.qv_words.specs.Choice.{implications, with_term}
use Rattle.qv_store.specs.Nodes.{tree_at}
use Rattle.qv_store.specs.Stores.{StandsAt}
use Rattle.qv_store.specs.Walks.{named}
use Rattle.qv_choose_clauses.specs.Implying.{IsSettling}
use Rattle.qv_choose_clauses.proofs.SettleLaws.{no-members, none-defined, is-defined}
use Rattle.qv_choose_clauses.proofs.defining.definition.Goals as goal

pub settled-requires-clause-clauses : goal.settled-requires-clause-clauses
settled-requires-clause-clauses c = subst (λ (ids : List ℕ). All (IsSettling c.args.sight.now.place c.args.store.now) ids) (sym c.deref.ensures.value) c.in_ok-clauses.ensures.settling

pub returns-then-is_empty-clause-defined : goal.returns-then-is_empty-clause-defined
returns-then-is_empty-clause-defined c =
    let p = c.args.sight.now.place in
    let old = c.args.store.now in
    let many : vec_len c.in_ok-clauses.clauses ≡ length c.in_ok-clauses.clauses.items = search rules in
    none-defined p.level old (implications p.first p.end (tree_at old c.args.region) p.level) c.in_ok-clauses.clauses.items c.in_ok-clauses.ensures.clauses
    (no-members c.in_ok-clauses.clauses.items (sym many ∙ eqb-true (vec_len c.in_ok-clauses.clauses) 0 (sym c.is_empty.ensures ∙ c.if-is_empty.true)))

pub returns-clause-defined : goal.returns-clause-defined
returns-clause-defined c =
    let p = c.args.sight.now.place in
    let old = c.args.store.now in
    let many : vec_len c.in_ok-clauses.clauses ≡ length c.in_ok-clauses.clauses.items = search rules in
    let stands = subst (λ (ids : List ℕ). StandsAt c.settled.new.store c.in_ok-id.id (conjunction (map (with_term p.level (truth_literal true)) (named old ids)))) c.deref.ensures.value c.in_ok-id.ensures.id in
    is-defined p old c.settled.new.store (implications p.first p.end (tree_at old c.args.region) p.level) c.in_ok-clauses.clauses.items c.in_ok-id.id c.in_ok-clauses.ensures.clauses
    (λ none. eqb-false (vec_len c.in_ok-clauses.clauses) 0 (sym c.is_empty.ensures ∙ c.if-is_empty.false) (many ∙ none)) (recursion_from_All (IsSettling p old) c.in_ok-clauses.clauses.items c.in_ok-clauses.ensures.settling) stands
