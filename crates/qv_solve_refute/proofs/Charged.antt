-- A core that has clauses which follow, behind those of a list.
use Rattle.std.proofs.Common.{◌≡◌, ℕ, Bool, List, [], ◌++◌, sym, ap, subst, ◌∙◌}
use Rattle.std.specs.Prelude.{All}
use Rattle.std.specs.List.{list_all}
use Rattle.std.proofs.lemmas.Bool.{and_parts}
use Rattle.std.proofs.lemmas.List.{map-append}
use Rattle.std.proofs.lemmas.List.Elements.{All-append}
use Rattle.std.proofs.lemmas.List.Folds.{list_all-append}
use Rattle.qv_words.specs.Tree.{Tree}
use Rattle.qv_cnf.specs.Listing.{Numbered, clauses_of}
use Rattle.qv_cnf.specs.LratLine.{LratLine}
use Rattle.qv_cnf.specs.Refutation.{Refutes}
use Rattle.qv_cnf.specs.Truth.{IsModel, clause_value}
use Rattle.qv_gates.specs.Closing.{added}
use Rattle.qv_gates.specs.Laws.{RefutesBehind}
use Rattle.qv_lrat_text.specs.Grammar.{HasIds}
use Rattle.qv_sat.specs.CoreState.{CoreState}
use Rattle.qv_meter.specs.Bases.{IsBaseOf}
use Rattle.qv_meter.specs.Charging.{MayCharge}
use Rattle.qv_meter.specs.Records.{Metering}
use Rattle.qv_closed.specs.Cores.{IsLaid}
use Rattle.qv_solve_refute.proofs.Owed.{some-weaker}

-- ---- they follow, so they are charged to nothing

pub may-laid : (m : Metering) (base : List Numbered) (core : CoreState) → MayCharge m base [] → ((formulas : List Tree) → IsBaseOf base formulas → IsBaseOf core.base formulas) → core.steps ≡ [] → MayCharge m core.base core.steps
may-laid m base core may more none =
    subst (λ (ss : List LratLine). MayCharge m core.base ss) (sym none)
    (some-weaker m.newest _ _ (λ r held. some-weaker r.kept _ _ (λ k g. (
      g.0,
      g.1,
      record {
        entries = g.2.entries;
        formulas = g.2.formulas;
        list = g.2.list;
        clauses = more g.2.formulas g.2.clauses;
        charged = g.2.charged;
      },
    )) held) may)

-- ---- what is refuted with them

model-front : (v : ℕ → Bool) (xs ys : List Numbered) → IsModel v (clauses_of (xs ++ ys)) → IsModel v (clauses_of xs)
model-front v xs ys m =
    let parts = ap (list_all (clause_value v)) (map-append (λ (c : Numbered). c.lits) xs ys) ∙ list_all-append (clause_value v) (clauses_of xs) (clauses_of ys) in
    (and_parts (list_all (clause_value v) (clauses_of xs)) (list_all (clause_value v) (clauses_of ys)) (sym parts ∙ m)).0

pub no-model-laid : (base : List Numbered) (laid : List LratLine) (core : CoreState) → ((v : ℕ → Bool) → IsModel v (clauses_of base) → ⊥) → IsLaid core base laid → (v : ℕ → Bool) → IsModel v (clauses_of core.base) → ⊥
no-model-laid base laid core none h v m = none v (model-front v base (added laid) (subst (λ (b : List Numbered). IsModel v (clauses_of b)) h.fed.base_is m))

pub refutes-laid : RefutesBehind → (base : List Numbered) (laid steps : List LratLine) (core : CoreState) → IsLaid core base laid → Refutes core.base steps → Refutes base (laid ++ steps)
refutes-laid behind base laid steps core h r = behind base laid steps h.adds (subst (λ (b : List Numbered). Refutes b steps) h.fed.base_is r)

pub ids-laid : (base : List Numbered) (laid steps : List LratLine) (core : CoreState) → IsLaid core base laid → All HasIds steps → All HasIds (laid ++ steps)
ids-laid base laid steps core h ids = All-append HasIds laid steps h.ids ids
