-- What each hint of a search forces is used, so no literal and no hint can be left out.
use Rattle.std.proofs.Common.{◌≡◌, ℕ, ◌+◌, true, false, List, [], ◌∷◌, ◌++◌, map, pos, Some, All, refl, sym, ◌∙◌, ap, subst, arith, inl, inr}
use Rattle.std.specs.Prelude.{Contains}
use Rattle.std.proofs.lemmas.Bool.{false_from_ne_true}
use Rattle.std.proofs.lemmas.List.{append-nil}
use Rattle.std.proofs.lemmas.List.Elements.{All-cons, All-head, All-tail, Contains-append_left, Contains-append_right, Contains-push}
use Rattle.std.proofs.lemmas.Option.{same_Some}
use Rattle.qv_cnf.specs.Listing.{clause_named}
use Rattle.qv_cnf.specs.Literal.{Literal, negated}
use Rattle.qv_cnf.specs.Refutation.{Judgement, Accepted, FailsAt, LeftOpen, among, hint_reading, judged_by, judged_from, open_literals, reading_of}
use Rattle.qv_cnf.specs.declared.readings.Reading.{Reading}
use Rattle.qv_cnf.specs.declared.readings.Reading.TheVariants.{Falsified, Forced, Useless}
use Rattle.qv_learn.proofs.Clauses.{all_among, opens_forced}
use Rattle.qv_learn.proofs.Contained.{Contains-cons_cases, Contains-head, Contains-tail}
use Rattle.qv_learn.proofs.Needed.{Chains, not_falsified}
use Rattle.qv_learn.proofs.Reasons.{is_reason}
use Rattle.qv_learn.proofs.Truths.{trail_once, true_negated}
use Rattle.qv_learn.specs.Learning.{StandsIn}
use Rattle.qv_learn.specs.Refuting.{literal_of_task}
use Rattle.qv_learn.specs.Searching.{keeps, leaves, opens, passes, AreVisits, Searched, Starts, Turns}
use Rattle.qv_learn.specs.Using.{AreAsked, AreUsed, IsAsked, IsComing, IsUsing}
use Rattle.qv_learn.specs.declared.search.Task.{Task}
use Rattle.qv_learn.specs.declared.search.Task.TheVariants.{Visit, Leave}
use Rattle.qv_watch.specs.Entries.{reason_of, value_of}
use Rattle.qv_watch.specs.TrailState.{IsTrail, TrailState}
use Rattle.qv_watch.proofs.Resting.{open_among, twice_negated, value-true}

visit_leave : (l m : Literal) → Visit l ≡ Leave m → ⊥
visit_leave l m h = cc

same_leave : (l m : Literal) → Leave l ≡ Leave m → l ≡ m
same_leave l m h = cc

module _ (t : TrailState) (conflict : ℕ) where
  -- where no clause comes earlier, all that was asked for is
  abbrev StillComes : List Task → List Task → Type 0
  StillComes old new = (x : Literal) → Contains old (Leave x) → Contains new (Leave x)

  coming_on : (old new : List Task) (hints : List ℕ) (id : ℕ) → StillComes old new → IsComing t conflict old hints id → IsComing t conflict new hints id
  coming_on old new hints id on h = elim h [
    | inl hint ↦ inl hint
    | inr later ↦ inr (elim later [ inl r ↦ inl (r.0, on r.0 r.1, r.2) | inr last ↦ inr last ])
  ]

  used_on : (old new : List Task) (hints : List ℕ) → StillComes old new → AreUsed t conflict old hints → AreUsed t conflict new hints
  used_on old new [] on h = tt
  used_on old new (id ∷ ids) on h =
      let x = h.0 in
      ((x.0, x.1, x.2, (x.3.0, coming_on old new ids x.3.0 on x.3.1, x.3.2)), used_on old new ids on h.1)

  -- a visit is over
  visit_over : (l : Literal) (rest : List Task) → StillComes (Visit l ∷ rest) rest
  visit_over l rest x there = elim (Contains-cons_cases (Visit l) rest (Leave x) there) [ inl same ↦ absurd (visit_leave l x same) | inr later ↦ later ]

  using_passes : (old : Searched) (l : Literal) (rest : List Task) (new : Searched) → old.tasks ≡ Visit l ∷ rest → new.tasks ≡ rest → new.hints ≡ old.hints → IsUsing t conflict old → IsUsing t conflict new
  using_passes old l rest new first tasks hints u =
      let asked : AreAsked t conflict (Visit l ∷ rest) = subst (AreAsked t conflict) first u.tasks in
      let used : AreUsed t conflict (Visit l ∷ rest) old.hints = subst (λ (ts : List Task). AreUsed t conflict ts old.hints) first u.hints in
      record {
        tasks = subst (AreAsked t conflict) (sym tasks) asked.1;
        hints = subst (λ (ts : List Task). AreUsed t conflict ts new.hints) (sym tasks) (subst (AreUsed t conflict rest) (sym hints) (used_on (Visit l ∷ rest) rest old.hints (visit_over l rest) used));
      }

  -- its reason's literals are to be visited
  abbrev IsOfReason : ℕ → Task → Type 0
  IsOfReason id task = (m : Literal) × (task ≡ Visit (negated m)) × StandsIn t.clauses id m

  asked_by : (id : ℕ) (tasks : List Task) (task : Task) → IsComing t conflict tasks [] id → IsOfReason id task → IsAsked t conflict tasks [] (literal_of_task task)
  asked_by id tasks task coming r =
      let m = r.0 in
      subst (λ (x : Task). IsAsked t conflict tasks [] (literal_of_task x)) (sym r.1) (id, coming, subst (StandsIn t.clauses id) (sym (twice_negated m)) r.2)

  asked_visits : (id : ℕ) (visits tasks : List Task) → All (IsOfReason id) visits → ((more : List Task) → IsComing t conflict (more ++ tasks) [] id) → AreAsked t conflict tasks → AreAsked t conflict (visits ++ tasks)
  asked_visits id [] tasks all coming h = h
  asked_visits id (v ∷ vs) tasks all coming h =
      (asked_by id (vs ++ tasks) v (coming vs) (All-head (IsOfReason id) v vs all), asked_visits id vs tasks (All-tail (IsOfReason id) v vs all) coming h)

  of_reason : (own id : ℕ) (lits : List Literal) (visits : List Task) → clause_named id t.clauses ≡ Some lits → AreVisits own lits visits → All (IsOfReason id) visits
  of_reason own id lits visits named vs = λ k d within. let e = vs.each k d within in (e.0, e.1, (lits, named, e.2))

  using_opens : (old : Searched) (l : Literal) (rest visits : List Task) (id : ℕ) (lits : List Literal) (new : Searched) → old.tasks ≡ Visit l ∷ rest → reason_of t.entries l ≡ Some id → clause_named id t.clauses ≡ Some lits → AreVisits l.variable lits visits → new.tasks ≡ visits ++ Leave l ∷ rest → new.hints ≡ old.hints → IsUsing t conflict old → IsUsing t conflict new
  using_opens old l rest visits id lits new first came named vs tasks hints u =
      let asked : AreAsked t conflict (Visit l ∷ rest) = subst (AreAsked t conflict) first u.tasks in
      let used : AreUsed t conflict (Visit l ∷ rest) old.hints = subst (λ (ts : List Task). AreUsed t conflict ts old.hints) first u.hints in
      let on : StillComes (Visit l ∷ rest) (visits ++ Leave l ∷ rest) = λ x there. Contains-append_right visits (Leave l ∷ rest) (Leave x) (Contains-tail (Leave l) rest (Leave x) (visit_over l rest x there)) in
      let opened : AreAsked t conflict (Leave l ∷ rest) = (asked.0, asked.1) in
      record {
        tasks = subst (AreAsked t conflict) (sym tasks) (asked_visits id visits (Leave l ∷ rest) (of_reason l.variable id lits visits named vs) (λ more. inr (inl (l, Contains-append_right more (Leave l ∷ rest) (Leave l) (Contains-head (Leave l) rest), came))) opened);
        hints = subst (λ (ts : List Task). AreUsed t conflict ts new.hints) (sym tasks) (subst (AreUsed t conflict (visits ++ Leave l ∷ rest)) (sym hints) (used_on (Visit l ∷ rest) (visits ++ Leave l ∷ rest) old.hints on used));
      }

  -- a literal is left: its reason is the next hint
  left_coming : (l : Literal) (rest : List Task) (id : ℕ) (hints : List ℕ) (k : ℕ) → reason_of t.entries l ≡ Some id → IsComing t conflict (Leave l ∷ rest) hints k → IsComing t conflict rest (hints ++ id ∷ []) k
  left_coming l rest id hints k came h = elim h [
    | inl hint ↦ inl (Contains-append_left hints (id ∷ []) k hint)
    | inr later ↦ elim later [
      | inl r ↦ elim (Contains-cons_cases (Leave l) rest (Leave r.0) r.1) [
        | inl same ↦
            let alike : id ≡ k = same_Some id k (sym came ∙ ap (reason_of t.entries) (same_leave l r.0 same) ∙ r.2) in
            inl (subst (Contains (hints ++ id ∷ [])) alike (Contains-push hints id))
        | inr there ↦ inr (inl (r.0, there, r.2))
      ]
      | inr last ↦ inr (inr last)
    ]
  ]

  used_push : (l : Literal) (rest : List Task) (id : ℕ) (hints : List ℕ) → value_of t.entries l ≡ Some true → reason_of t.entries l ≡ Some id → IsAsked t conflict rest [] l → AreUsed t conflict (Leave l ∷ rest) hints → AreUsed t conflict rest (hints ++ id ∷ [])
  used_push l rest id [] is_true came asked h = ((l, is_true, came, asked), tt)
  used_push l rest id (h ∷ hs) is_true came asked u =
      let x = u.0 in
      ((x.0, x.1, x.2, (x.3.0, left_coming l rest id hs x.3.0 came x.3.1, x.3.2)), used_push l rest id hs is_true came asked u.1)

  using_leaves : (old : Searched) (l : Literal) (rest : List Task) (id : ℕ) (new : Searched) → value_of t.entries l ≡ Some true → old.tasks ≡ Leave l ∷ rest → reason_of t.entries l ≡ Some id → new.tasks ≡ rest → new.hints ≡ old.hints ++ id ∷ [] → IsUsing t conflict old → IsUsing t conflict new
  using_leaves old l rest id new is_true first came tasks hints u =
      let asked : AreAsked t conflict (Leave l ∷ rest) = subst (AreAsked t conflict) first u.tasks in
      let used : AreUsed t conflict (Leave l ∷ rest) old.hints = subst (λ (ts : List Task). AreUsed t conflict ts old.hints) first u.hints in
      record {
        tasks = subst (AreAsked t conflict) (sym tasks) asked.1;
        hints = subst (λ (ts : List Task). AreUsed t conflict ts new.hints) (sym tasks) (subst (AreUsed t conflict rest) (sym hints) (used_push l rest id old.hints is_true came asked.0 used));
      }

pub using_starts : (t : TrailState) (conflict : ℕ) (points : List Literal) (b : List ℕ) (s : Searched) → Starts t conflict points b s → IsUsing t conflict s
using_starts t conflict points b s st =
    let all = of_reason t conflict 0 conflict st.clause s.tasks st.named st.visits in
    record {
      tasks = subst (AreAsked t conflict) (append-nil s.tasks) (asked_visits t conflict conflict s.tasks [] all (λ more. inr (inr refl)) tt);
      hints = subst (AreUsed t conflict s.tasks) (sym st.hints) tt;
    }

-- after each turn
pub using_turns : (t : TrailState) (conflict : ℕ) (b : List ℕ) (old new : Searched) → All (λ task. value_of t.entries (literal_of_task task) ≡ Some true) old.tasks → IsUsing t conflict old → Turns t b old new → IsUsing t conflict new
using_turns t conflict b old new is_true u (passes l rest first met same) =
    using_passes t conflict old l rest new first (ap (λ (s : Searched). s.tasks) same) (ap (λ (s : Searched). s.hints) same) u
using_turns t conflict b old new is_true u (keeps l rest first off none one same) =
    using_passes t conflict old l rest new first (ap (λ (s : Searched). s.tasks) same) (ap (λ (s : Searched). s.hints) same) u
using_turns t conflict b old new is_true u (opens l rest visits id lits first off came named vs one same) =
    using_opens t conflict old l rest visits id lits new first came.0 named vs (ap (λ (s : Searched). s.tasks) same) (ap (λ (s : Searched). s.hints) same) u
using_turns t conflict b old new is_true u (leaves l rest id first came same) =
    let own : value_of t.entries l ≡ Some true = All-head (λ task. value_of t.entries (literal_of_task task) ≡ Some true) (Leave l) rest (subst (All (λ task. value_of t.entries (literal_of_task task) ≡ Some true)) first is_true) in
    using_leaves t conflict old l rest id new own first came (ap (λ (s : Searched). s.tasks) same) (ap (λ (s : Searched). s.hints) same) u

-- in the end
false_accepts : (r : Reading) (position : ℕ) → judged_by r (FailsAt position) (λ l. LeftOpen) ≡ Accepted → r ≡ Falsified
false_accepts Falsified position h = refl
false_accepts (Forced x) position h = absurd (let e : LeftOpen ≡ Accepted = h in cc)
false_accepts Useless position h = absurd (let e : FailsAt position ≡ Accepted = h in cc)

-- where the clause isn't false, it forces the literal, and then what is accepted behind it
forces_on : (r : Reading) (position : ℕ) (x : Literal) (goes_on : Literal → Judgement) → (r ≡ Falsified → ⊥) → ((y : Literal) → r ≡ Forced y → y ≡ x) → judged_by r (FailsAt position) goes_on ≡ Accepted → (r ≡ Forced x) × (goes_on x ≡ Accepted)
forces_on Falsified position x goes_on some one h = absurd (some refl)
forces_on (Forced y) position x goes_on some one h = let same = one y refl in (ap Forced same, ap goes_on (sym same) ∙ h)
forces_on Useless position x goes_on some one h = absurd (let e : FailsAt position ≡ Accepted = h in cc)

module _ (t : TrailState) (conflict : ℕ) (trail : IsTrail t) where
  no_task : (x : Literal) → Contains [] (Leave x) → ⊥
  no_task x none = omega (arith, none.1)

  comes : (hints : List ℕ) (id : ℕ) → IsComing t conflict [] hints id → Contains (hints ++ conflict ∷ []) id
  comes hints id h = elim h [
    | inl hint ↦ Contains-append_left hints (conflict ∷ []) id hint
    | inr later ↦ elim later [
      | inl r ↦ absurd (no_task r.0 r.1)
      | inr last ↦ subst (Contains (hints ++ conflict ∷ [])) (sym last) (Contains-push hints conflict)
    ]
  ]

  -- a true literal isn't false in a set of true ones
  unfalse : (set : List Literal) (x : Literal) → All (λ l. value_of t.entries l ≡ Some true) set → value_of t.entries x ≡ Some true → among set (negated x) ≡ false
  unfalse set x all is_true = false_from_ne_true (among set (negated x)) (λ there.
      let on = all_among (λ l. value_of t.entries l ≡ Some true) set (negated x) all there in
      let off = true_negated t.entries x (trail_once t trail) is_true in
      let e : Some true ≡ Some false = sym on ∙ off in
      cc)

  pub chains : (hints : List ℕ) (set : List Literal) (position : ℕ) → All (λ l. value_of t.entries l ≡ Some true) set → AreUsed t conflict [] hints → judged_from t.clauses (map pos (hints ++ conflict ∷ [])) position set ≡ Accepted → Chains t.clauses set hints conflict
  chains [] set position all u h = false_accepts (hint_reading set (clause_named conflict t.clauses)) position h
  chains (id ∷ ids) set position all u h =
      let x = u.0.0 in
      let asked = u.0.3 in
      let reason = is_reason t x id trail (value-true t.entries x u.0.1) u.0.2 in
      let off = unfalse set x all u.0.1 in
      let reads : hint_reading set (clause_named id t.clauses) ≡ reading_of set (open_literals set reason.lits) = ap (hint_reading set) reason.named in
      let own = open_among set reason.lits x reason.own off in
      let on = forces_on (hint_reading set (clause_named id t.clauses)) position x (λ l. judged_from t.clauses (map pos (ids ++ conflict ∷ [])) (position + 1) (l ∷ set))
      (λ is. not_falsified set reason.lits x reason.own off (sym reads ∙ is))
      (λ y is. sym (opens_forced set (open_literals set reason.lits) y x (sym reads ∙ is) own))
      h in
      (x, on.0, (asked.0, comes ids asked.0 asked.1, asked.2), chains ids (x ∷ set) (position + 1) (All-cons (λ l. value_of t.entries l ≡ Some true) x set u.0.1 all) u.1 on.1)
