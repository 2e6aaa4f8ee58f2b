-- What a final list is owed: its clauses have no model, and their refutation may be charged.
use Rattle.std.proofs.Common.{◌≡◌, ℕ, ◌+◌, ◌<◌, ◌^◌, Bool, Option, Some, None, List, [], ◌∷◌, ◌++◌, refl, sym, ap, subst, ◌∙◌, arith}
use Rattle.std.specs.Prelude.{All, IfSome, IsSomeAnd, IsTrue}
use Rattle.std.specs.List.{list_all}
use Rattle.qv_words.specs.declared.sort.Sort.TheVariants.{Bool as BoolSort}
use Rattle.qv_words.specs.Tree.{Tree}
use Rattle.qv_words.specs.Skolem.{IsTermOf}
use Rattle.qv_words.specs.Clauses.{cnf_variables}
use Rattle.qv_words.specs.Linked.{Entry}
use Rattle.qv_words.proofs.Elements.{some-and, to-some}
use Rattle.qv_cnf.specs.Derivation.{additions}
use Rattle.qv_cnf.specs.Listing.{Numbered, clauses_of}
use Rattle.qv_cnf.specs.Literal.{Literal}
use Rattle.qv_cnf.specs.LratLine.{LratLine}
use Rattle.qv_cnf.specs.Refutation.{among}
use Rattle.qv_cnf.specs.Truth.{IsModel}
use Rattle.qv_cnf_bridge_laws.specs.Bridge.{HasClausesOf}
use Rattle.qv_lrat_text.specs.Grammar.{HasIds, IsId}
use Rattle.qv_sat.specs.CoreState.{CoreState, GoesOn, IsCore, IsNumbered}
use Rattle.qv_meter.specs.BudgetLaws.{SameButConflicts-limit, conflicts_within}
use Rattle.qv_meter.specs.Charging.{ExceedsVariables, MayCharge, SameButConflicts, conflict_count, conflict_limit}
use Rattle.qv_meter.specs.Records.{Metering, Record, IsMetering, IsRecord, in_lane}
use Rattle.qv_meter.specs.Units.{Final, IsFinal, IsOverLarge}
use Rattle.qv_meter.proofs.Bases.{base-plain}
use Rattle.qv_meter.proofs.Fresh.{linked}
use Rattle.qv_cert.specs.ClauseList.{clause_list}
use Rattle.qv_cert.proofs.Bridge.{clauses-mean-the-same}
use Rattle.qv_solve_refute_laws.specs.FinalLaws.{HaveNoModel}
use Rattle.qv_solve_refute_laws.proofs.FinalTerms.{final-terms}
use Rattle.qv_solve_refute_laws.proofs.NoModels.{final-lists}
use Rattle.qv_solve_refute_laws.proofs.StepIds.{steps-have_ids}
use Rattle.qv_solve_refute.specs.Refuting.{IsForFinal, variable_limit}

pub some-weaker : {A : Type 0} (o : Option A) (P Q : A → Type 0) → ((x : A) → P x → Q x) → IsSomeAnd o P → IsSomeAnd o Q
some-weaker None P Q go h = h
some-weaker (Some x) P Q go h = go x h

pub may-charge : (m lane : Metering) (formulas : List Tree) (base : List Numbered) (steps : List LratLine) → IsForFinal m formulas → lane ≡ in_lane Final m → HasClausesOf base formulas → steps ≡ [] → MayCharge lane base steps
may-charge m lane formulas base steps h e clauses none =
    subst (λ (x : Metering). MayCharge x base steps) (sym e)
    (some-weaker m.newest _ _ (λ r held. some-weaker r.kept _ _ (λ k g. (0, g.2, record { entries = g.1.0; formulas = formulas; list = g.1.1; clauses = base-plain base formulas clauses; charged = ap additions none })) held) h)

pub no-model : (m : Metering) (formulas : List Tree) → IsForFinal m formulas → HaveNoModel formulas
no-model m formulas h =
    let r = some-and m.newest _ h in
    let k = some-and r.0.kept _ r.2 in
    let final : IsFinal k.0.problem r.0.instances k.2.1.0 formulas = k.2.1.1 in
    final-lists k.0.problem final.winner k.2.1.0 formulas k.2.0 (linked k.0.problem [] k.2.1.0 final.played) final.won final.list

pub no-values : (m : Metering) (formulas : List Tree) (base : List Numbered) → IsForFinal m formulas → base ≡ clause_list formulas → (v : ℕ → Bool) → IsModel v (clauses_of base) → ⊥
no-values m formulas base h e v model =
    no-model m formulas h v ((clauses-mean-the-same formulas v).0 (subst (λ (b : List Numbered). IsModel v (clauses_of b)) e model))

pub owed-terms : (m : Metering) (formulas : List Tree) → IsForFinal m formulas → All (λ t. IsTermOf t BoolSort) formulas
owed-terms m formulas h =
    let r = some-and m.newest _ h in
    let k = some-and r.0.kept _ r.2 in
    let final : IsFinal k.0.problem r.0.instances k.2.1.0 formulas = k.2.1.1 in
    final-terms k.0.problem final.winner k.2.1.0 formulas k.2.0 (linked k.0.problem [] k.2.1.0 final.played) final.won final.list

-- what was played has a list that is too large
pub may-exceed : (m lane : Metering) (formulas : List Tree) (limit : ℕ) → IsForFinal m formulas → lane ≡ in_lane Final m → limit ≡ variable_limit lane → limit < cnf_variables formulas → (entries : List Entry) × ExceedsVariables lane entries formulas
may-exceed m lane formulas limit h e at over =
    let r = some-and m.newest _ h in
    let k = some-and r.0.kept _ r.2 in
    let entries : List Entry = k.2.1.0 in
    let same : variable_limit lane ≡ r.0.limits.variables = ap variable_limit e ∙ ap (λ (o : Option Record). variable_limit (record { older = []; newest = o; lane = Final })) r.1 in
    let large : r.0.limits.variables < cnf_variables formulas = omega (arith, at, same, over) in (
      entries,
      subst (λ (x : Metering). ExceedsVariables x entries formulas) (sym e)
          (to-some m.newest (λ (x : Record). IsSomeAnd x.kept (λ y. IsOverLarge y.problem x.instances entries x.limits.variables formulas)) r.0 r.1
          (to-some r.0.kept (λ y. IsOverLarge y.problem r.0.instances entries r.0.limits.variables formulas) k.0 k.1
          (record { lane = Final; list = k.2.1.1; over = large }))),
    )

-- no literals are among none
pub none-failed : (core : List Literal) → IsTrue (list_all (among []) core) → core ≡ []
none-failed [] h = refl
none-failed (l ∷ ls) h = absurd cc

-- ---- the ids of a core's steps

limit-of : (o : Option Record) → IfSome o IsRecord → conflict_limit (record { older = []; newest = o; lane = Final }) < 2 ^ 60
limit-of None h = omega arith
limit-of (Some r) h = h.limits.conflicts.1

pub limit-low : (m : Metering) → IsMetering m → conflict_limit m < 2 ^ 60
limit-low m h = limit-of m.newest h.newest

pub steps-numbered : (old new : CoreState) (before after : Metering) → old.steps ≡ [] → old.top < 2 ^ 61 → All (λ c. IsId c.id) old.base → GoesOn old new → IsCore new → IsMetering before → SameButConflicts before after →
    new.top + conflict_count before ≡ old.top + conflict_count after → All HasIds new.steps
steps-numbered old new before after none few ids on core metering same count =
    let more : new.steps ≡ on.more = on.steps ∙ ap (λ (xs : List LratLine). xs ++ on.more) none in
    let limit = limit-low before metering in
    let stays = SameButConflicts-limit before after same in
    let within = conflicts_within after in
    let last : new.top < 2 ^ 62 = omega (arith, few, limit, stays, within, count) in
    steps-have_ids new.base new.steps old.top new.top
    (subst (λ (b : List Numbered). All (λ c. IsId c.id) b) (sym on.base) ids) core.derivation core.hinted
    (subst (λ (xs : List LratLine). IsNumbered old.top xs new.top) (sym more) on.numbered) last
