-- The hints of a search refute.
use Rattle.std.proofs.Common.{◌≡◌, ◌≢◌, ℕ, ◌+◌, ◌<◌, ◌≤◌, Bool, true, false, cond, ◌||◌, List, [], ◌∷◌, ◌++◌, map, max, Some, pos, eqb, refl, sym, ◌∙◌, ap, subst, arith, inl, inr, ◌⊎◌}
use Rattle.std.specs.List.{list_any}
use Rattle.std.specs.Prelude.{All, IsSome, if◌then◌else◌}
use Rattle.std.proofs.lemmas.Bool.{cases_eq}
use Rattle.std.proofs.lemmas.List.{append-nil, append_assoc, map-append}
use Rattle.std.proofs.lemmas.List.Elements.{All-cons, All-head, All-nil, All-push, All-tail, All-weaker}
use Rattle.std.proofs.lemmas.Option.{same_Some}
use Rattle.qv_cnf.specs.Listing.{clause_named}
use Rattle.qv_cnf.specs.Literal.{Literal, negated}
use Rattle.qv_cnf.specs.Refutation.{FailsAt, IsRup, among, hint_reading, judged_by, judged_from}
use Rattle.qv_cnf.specs.declared.readings.Reading.{Reading}
use Rattle.qv_cnf.specs.declared.readings.Reading.TheVariants.{Falsified}
use Rattle.qv_learn.proofs.Clauses.{all_among, all_falsified, among-push_new, among-push_old, falsified_all}
use Rattle.qv_learn.proofs.Reaching.{value_entry}
use Rattle.qv_learn.proofs.Reasons.{conflict_clause, is_reason, true_variable}
use Rattle.qv_learn.proofs.Stacks.{all_visits, are_visited, marks_more, none_opened, opened_visits, stacked_visits, times-append, times-cons, times-own, times_found, times_there}
use Rattle.qv_learn.proofs.Trails.{true_alike}
use Rattle.qv_learn.proofs.Waiting.{among-append_left, among-append_right, in_with_first, in_with_own, leads_hint, leads_more, leads_start, waits_more, waits_visits}
use Rattle.qv_learn.specs.Learning.{StandsIn, level_at, position_of}
use Rattle.qv_learn.specs.Refuting.{IsRefuting, IsStacked, Leads, LeavesWithReason, MayCome, Waits, literal_of_task, opened, times}
use Rattle.qv_learn.specs.Marking.{MarksOne, marked}
use Rattle.qv_learn.specs.Searching.{AreVisits, Searched, Starts, Turns}
use Rattle.qv_learn.specs.Searching.Turns.{passes, keeps, opens, leaves}
use Rattle.qv_learn.specs.declared.search.Task.{Task}
use Rattle.qv_learn.specs.declared.search.Task.TheVariants.{Visit, Leave}
use Rattle.qv_watch.specs.Entries.{entry_at, reason_of, trues, value_of, Entry}
use Rattle.qv_watch.specs.Table.{HasNoTwice}
use Rattle.qv_watch.specs.TrailState.{IsTrail, TrailState}
use Rattle.qv_watch.specs.declared.propagation.Propagated.TheVariants.{Conflict}
use Rattle.qv_watch.proofs.Growing.{once_grown}
use Rattle.qv_watch.proofs.Readings.{value_of-true}
use Rattle.qv_watch.proofs.Resting.{twice_negated as negated-negated, value-true}

one_at_most : (b : Bool) → cond b 1 0 ≤ 1
one_at_most true = omega arith
one_at_most false = omega arith

-- one turn, by the literal of the task
module _ (t : TrailState) (conflict : ℕ) (old : Searched) (l : Literal) (rest : List Task) (trail : IsTrail t) (r : IsRefuting t conflict old) where
  abbrev es : List Entry
  es = t.entries

  abbrev kept : List Literal
  kept = map negated old.lits

  abbrev met : List Literal
  met = r.left ++ map negated old.lits

  abbrev IsTrueTask : Task → Type 0
  IsTrueTask task = value_of es (literal_of_task task) ≡ Some true

  abbrev IsTrueHere : Literal → Type 0
  IsTrueHere x = value_of es x ≡ Some true

  once_here : HasNoTwice es
  once_here = once_grown t.room t.clauses es trail.grown

  all_true : (task : Task) → old.tasks ≡ task ∷ rest → All IsTrueTask (task ∷ rest)
  all_true task is = subst (All IsTrueTask) is r.tasks_true

  own_true : (task : Task) → old.tasks ≡ task ∷ rest → among (trues es) (literal_of_task task) ≡ true
  own_true task is = value-true es (literal_of_task task) (All-head IsTrueTask task rest (all_true task is))

  rest_true : (task : Task) → old.tasks ≡ task ∷ rest → All IsTrueTask rest
  rest_true task is = All-tail IsTrueTask task rest (all_true task is)

  rest_came : (task : Task) → old.tasks ≡ task ∷ rest → All (λ x. LeavesWithReason t x) rest
  rest_came task is = All-tail (λ x. LeavesWithReason t x) task rest (subst (All (λ x. LeavesWithReason t x)) is r.tasks_came)

  all_stacked : (task : Task) → old.tasks ≡ task ∷ rest → IsStacked es (task ∷ rest)
  all_stacked task is = subst (IsStacked es) is r.stacked

  all_wait : (task : Task) → old.tasks ≡ task ∷ rest → Waits t conflict met (task ∷ rest)
  all_wait task is = subst (Waits t conflict met) is r.waits

  all_once : (task : Task) → old.tasks ≡ task ∷ rest → (v : ℕ) → times v (opened (task ∷ rest)) + times v met ≡ cond (marked old.marks v) 1 0
  all_once task is v = subst (λ (tasks : List Task). times v (opened tasks) + times v met ≡ cond (marked old.marks v) 1 0) is (r.once v)

  -- a visited literal whose variable counts as met was met: it is none that is to be left, since those came later
  met_own : old.tasks ≡ Visit l ∷ rest → marked old.marks l.variable ≡ true → among met l ≡ true
  met_own is m =
      let off = none_opened es l.variable (opened rest) (all_stacked (Visit l) is).0 in
      let sum : times l.variable (opened rest) + times l.variable met ≡ 1 = all_once (Visit l) is l.variable ∙ ap (λ (b : Bool). cond b 1 0) m in
      let found = times_found l.variable met (omega arith) in
      let there : among (trues es) found.0 ≡ true = value-true es found.0 (all_among IsTrueHere met found.0 r.met_true found.1) in
      subst (λ (x : Literal). among met x ≡ true) (true_alike es found.0 l once_here there (own_true (Visit l) is) found.2) found.1

  pub refuting_passes : old.tasks ≡ Visit l ∷ rest → marked old.marks l.variable ≡ true → IsRefuting t conflict (record old { tasks = rest })
  refuting_passes is m = record {
    left = r.left;
    tasks_true = rest_true (Visit l) is;
    tasks_came = rest_came (Visit l) is;
    met_true = r.met_true;
    once = all_once (Visit l) is;
    stacked = (all_stacked (Visit l) is).1;
    waits = waits_more t conflict (l ∷ met) met rest (in_with_own l met met (met_own is m) (λ x h. h)) (all_wait (Visit l) is);
    leads = r.leads;
    named = r.named;
  }

  kept_is : map negated (old.lits ++ negated l ∷ []) ≡ kept ++ l ∷ []
  kept_is = map-append negated old.lits (negated l ∷ []) ∙ ap (λ (x : Literal). kept ++ x ∷ []) (negated-negated l)

  met_is : r.left ++ map negated (old.lits ++ negated l ∷ []) ≡ met ++ l ∷ []
  met_is = ap (λ (xs : List Literal). r.left ++ xs) kept_is ∙ sym (append_assoc r.left kept (l ∷ []))

  pub refuting_keeps : (marks : List ℕ) (level : ℕ) → old.tasks ≡ Visit l ∷ rest → marked old.marks l.variable ≡ false → MarksOne old.marks l.variable marks → IsRefuting t conflict (record old { tasks = rest; marks = marks; lits = old.lits ++ negated l ∷ []; level = level })
  refuting_keeps marks level is unmet one = record {
    left = r.left;
    tasks_true = rest_true (Visit l) is;
    tasks_came = rest_came (Visit l) is;
    met_true = subst (All IsTrueHere) (sym met_is) (All-push IsTrueHere met l r.met_true (value_of-true es l (own_true (Visit l) is)));
    once = λ v.
        let sum = all_once (Visit l) is v in
        let more = marks_more old.marks marks l.variable v one unmet in
        let longer : times v (r.left ++ map negated (old.lits ++ negated l ∷ [])) ≡ times v met + times v (l ∷ []) = ap (times v) met_is ∙ times-append v met (l ∷ []) in
        let last = times-cons v l [] in
        omega arith;
    stacked = (all_stacked (Visit l) is).1;
    waits = subst (λ (xs : List Literal). Waits t conflict xs rest) (sym met_is) (waits_more t conflict (l ∷ met) (met ++ l ∷ []) rest (in_with_own l met (met ++ l ∷ []) (among-push_new met l) (λ x h. among-push_old met l x h)) (all_wait (Visit l) is));
    leads = subst (λ (xs : List Literal). Leads t.clauses r.left xs old.hints) (sym kept_is) (leads_more t.clauses r.left kept (kept ++ l ∷ []) old.hints (λ x h. among-push_old kept l x h) r.leads);
    named = r.named;
  }

  -- its reason is opened, each other literal of which is visited
  pub refuting_opens : (id : ℕ) (lits : List Literal) (visits : List Task) (marks : List ℕ) → old.tasks ≡ Visit l ∷ rest → marked old.marks l.variable ≡ false → reason_of es l ≡ Some id → clause_named id t.clauses ≡ Some lits → AreVisits l.variable lits visits → MarksOne old.marks l.variable marks → IsRefuting t conflict (record old { tasks = visits ++ Leave l ∷ rest; marks = marks })
  refuting_opens id lits visits marks is unmet came named a one =
      let reason = is_reason t l id trail (own_true (Visit l) is) came in
      let same : reason.lits ≡ lits = same_Some reason.lits lits (sym reason.named ∙ named) in
      let v = are_visited l.variable lits visits a in
      let older : (m : Literal) → among lits m ≡ true → m ≢ l → (among (trues es) (negated m) ≡ true) × (position_of es m.variable < position_of es l.variable) =
      λ m there. reason.others m (subst (λ (xs : List Literal). among xs m ≡ true) (sym same) there) in
      let visited : (x : Literal) → among v.list x ≡ true → (among (trues es) x ≡ true) × (position_of es x.variable < position_of es l.variable) =
      λ x there. let e = v.each x there in let o = older (negated x) e.0 (λ own. e.1 (ap (λ (y : Literal). y.variable) own)) in (subst (λ (y : Literal). among (trues es) y ≡ true) (negated-negated x) o.0, o.1) in
      let stacked = all_stacked (Visit l) is in
      let others : (k : ℕ) (m : Literal) → reason_of es l ≡ Some k → StandsIn t.clauses k m → m ≢ l → among (v.list ++ met) (negated m) ≡ true =
      λ k m from stands differ.
      let id_same : k ≡ id = same_Some k id (sym from ∙ came) in
      let lits_same : stands.0 ≡ lits = same_Some stands.0 lits (sym stands.1 ∙ ap (λ i. clause_named i t.clauses) id_same ∙ named) in
      let there : among lits m ≡ true = subst (λ (xs : List Literal). among xs m ≡ true) lits_same stands.2 in
      let before = (older m there differ).1 in
      among-append_left v.list met (negated m) (v.whole m there (λ own. let at = ap (position_of es) own in absurd (omega arith))) in
      subst (λ (xs : List Task). IsRefuting t conflict (record old { tasks = xs ++ Leave l ∷ rest; marks = marks })) (sym v.is) record {
        left = r.left;
        tasks_true = all_visits IsTrueTask v.list (Leave l ∷ rest) (All-cons IsTrueTask (Leave l) rest (value_of-true es l (own_true (Visit l) is)) (rest_true (Visit l) is)) (λ x there. value_of-true es x (visited x there).0);
        tasks_came = all_visits (λ x. LeavesWithReason t x) v.list (Leave l ∷ rest) (All-cons (λ x. LeavesWithReason t x) (Leave l) rest (subst IsSome (sym came) refl) (rest_came (Visit l) is)) (λ x there. tt);
        met_true = r.met_true;
        once = λ w.
            let sum = all_once (Visit l) is w in
            let more = marks_more old.marks marks l.variable w one unmet in
            let first : times w (opened (map Visit v.list ++ Leave l ∷ rest)) ≡ times w (l ∷ opened rest) = ap (times w) (opened_visits v.list (Leave l ∷ rest)) in
            let own = times-cons w l (opened rest) in
            omega arith;
        stacked = stacked_visits es v.list (Leave l ∷ rest) stacked (λ x there.
            let before = (visited x there).1 in
            All-cons (λ y. position_of es x.variable < position_of es y.variable) l (opened rest) before (All-weaker (λ y. position_of es l.variable < position_of es y.variable) (λ y. position_of es x.variable < position_of es y.variable) (λ y h. omega arith) (opened rest) stacked.0));
        waits = waits_visits t conflict v.list met (Leave l ∷ rest) (others, waits_more t conflict (l ∷ met) (l ∷ (v.list ++ met)) rest (in_with_first l met (v.list ++ met) (λ x h. among-append_right v.list met x h)) (all_wait (Visit l) is));
        leads = r.leads;
        named = r.named;
      }

  pub refuting_leaves : (id : ℕ) → old.tasks ≡ Leave l ∷ rest → reason_of es l ≡ Some id → IsRefuting t conflict (record old { tasks = rest; hints = old.hints ++ id ∷ [] })
  refuting_leaves id is came =
      let reason = is_reason t l id trail (own_true (Leave l) is) came in
      let waits = all_wait (Leave l) is in
      let apart : times l.variable r.left ≡ 0 =
      (let sum = all_once (Leave l) is l.variable in
      let one = one_at_most (marked old.marks l.variable) in
      let own = times-own l.variable l (opened rest) refl in
      let parts = times-append l.variable r.left kept in
      omega arith) in
      record {
        left = l ∷ r.left;
        tasks_true = rest_true (Leave l) is;
        tasks_came = rest_came (Leave l) is;
        met_true = All-cons IsTrueHere l met (value_of-true es l (own_true (Leave l) is)) r.met_true;
        once = λ v. let sum = all_once (Leave l) is v in omega (arith, times-cons v l (opened rest), times-cons v l met);
        stacked = (all_stacked (Leave l) is).1;
        waits = waits.1;
        leads = leads_hint t.clauses r.left kept old.hints l id reason.lits reason.named reason.own (λ m there differ. waits.0 id m came (reason.lits, reason.named, there) differ) apart r.leads;
        named = All-push (λ k. IsSome (clause_named k t.clauses)) old.hints id r.named (subst IsSome (sym reason.named) refl);
      }

pub refuting_turns : (t : TrailState) (conflict : ℕ) (b : List ℕ) (old new : Searched) → IsTrail t → IsRefuting t conflict old → Turns t b old new → IsRefuting t conflict new
refuting_turns t conflict b old new trail r (passes l rest is m e) = subst (IsRefuting t conflict) (sym e) (refuting_passes t conflict old l rest trail r is m)
refuting_turns t conflict b old new trail r (keeps l rest is unmet none one e) = subst (IsRefuting t conflict) (sym e) (refuting_keeps t conflict old l rest trail r new.marks (max old.level (level_at t.entries l)) is unmet one)
refuting_turns t conflict b old new trail r (opens l rest visits id lits is unmet came named a one e) =
    subst (IsRefuting t conflict) (sym e) (refuting_opens t conflict old l rest trail r id lits visits new.marks is unmet came.0 named a one)
refuting_turns t conflict b old new trail r (leaves l rest id is came e) = subst (IsRefuting t conflict) (sym e) (refuting_leaves t conflict old l rest trail r id is came)

twice_negated : (ls : List Literal) → map negated (map negated ls) ≡ ls
twice_negated [] = refl
twice_negated (x ∷ xs) = ap (λ (y : Literal). y ∷ map negated (map negated xs)) (negated-negated x) ∙ ap (λ (ys : List Literal). x ∷ ys) (twice_negated xs)

-- no point, or one that is true
abbrev IsOnePoint : TrailState → List Literal → Type 0
IsOnePoint t points = (points ≡ []) ⊎ ((u : Literal) × (points ≡ u ∷ []) × (value_of t.entries u ≡ Some true))

-- where a search starts
module _ (t : TrailState) (conflict : ℕ) (points : List Literal) (b : List ℕ) (s : Searched) (trail : IsTrail t) (answer : t.answer ≡ Some (Conflict conflict)) (st : Starts t conflict points b s) where
  one_point : IsOnePoint t points
  one_point = elim (cases_eq t.level 0) [
    | inl none ↦ inl (st.none none)
    | inr some ↦ let p = (st.point (omega arith)).1 in inr (p.point, p.is, p.scouted.point.point.is_true)
  ]

  kept_points : map negated s.lits ≡ points
  kept_points = ap (map negated) st.lits ∙ twice_negated points

  points_true : All (λ l. value_of t.entries l ≡ Some true) points
  points_true = elim one_point [
    | inl none ↦ subst (All (λ l. value_of t.entries l ≡ Some true)) (sym none) (All-nil (λ l. value_of t.entries l ≡ Some true))
    | inr one ↦ subst (All (λ l. value_of t.entries l ≡ Some true)) (sym one.1) (All-cons (λ l. value_of t.entries l ≡ Some true) one.0 [] one.2 (All-nil (λ l. value_of t.entries l ≡ Some true)))
  ]

  points_once : (v : ℕ) → times v points ≡ cond (list_any (λ l. eqb l.variable v) points) 1 0
  points_once v = elim one_point [
    | inl none ↦ subst (λ (ls : List Literal). times v ls ≡ cond (list_any (λ l. eqb l.variable v) ls) 1 0) (sym none) refl
    | inr one ↦ subst (λ (ls : List Literal). times v ls ≡ cond (list_any (λ l. eqb l.variable v) ls) 1 0) (sym one.1) (times-cons v one.0 [] ∙ one_of (eqb one.0.variable v))
  ]
    where
      one_of : (b : Bool) → cond b 1 0 + 0 ≡ cond (b || false) 1 0
      one_of true = refl
      one_of false = refl

  clause_false : (m : Literal) → among st.clause m ≡ true → among (trues t.entries) (negated m) ≡ true
  clause_false m there =
      let c = conflict_clause t conflict trail answer in
      let same : st.clause ≡ c.0 = same_Some st.clause c.0 (sym st.named ∙ c.1) in
      falsified_all (trues t.entries) c.0 c.2 m (subst (λ (ls : List Literal). among ls m ≡ true) same there)

  pub refuting_begins : IsRefuting t conflict s
  refuting_begins =
      let v = are_visited 0 st.clause s.tasks st.visits in
      let is : s.tasks ≡ map Visit v.list ++ [] = v.is ∙ sym (append-nil (map Visit v.list)) in
      let visited : (x : Literal) → among v.list x ≡ true → among (trues t.entries) x ≡ true =
      λ x there. subst (λ (y : Literal). among (trues t.entries) y ≡ true) (negated-negated x) (clause_false (negated x) (v.each x there).0) in
      let waits : Waits t conflict (v.list ++ map negated s.lits) [] =
      λ m stands.
      let same : stands.0 ≡ st.clause = same_Some stands.0 st.clause (sym stands.1 ∙ st.named) in
      let there : among st.clause m ≡ true = subst (λ (ls : List Literal). among ls m ≡ true) same stands.2 in
      let some = true_variable t (negated m) trail (clause_false m there) in
      among-append_left v.list (map negated s.lits) (negated m) (v.whole m there (λ zero. omega arith)) in
      record {
        left = [];
        tasks_true = subst (All (λ x. value_of t.entries (literal_of_task x) ≡ Some true)) (sym is) (all_visits (λ x. value_of t.entries (literal_of_task x) ≡ Some true) v.list [] (All-nil (λ x. value_of t.entries (literal_of_task x) ≡ Some true)) (λ x there. value_of-true t.entries x (visited x there)));
        tasks_came = subst (All (λ x. LeavesWithReason t x)) (sym is) (all_visits (λ x. LeavesWithReason t x) v.list [] (All-nil (λ x. LeavesWithReason t x)) (λ x there. tt));
        met_true = subst (All (λ l. value_of t.entries l ≡ Some true)) (sym kept_points) points_true;
        once = λ w.
            let none : times w (opened s.tasks) ≡ 0 = ap (λ (xs : List Task). times w (opened xs)) is ∙ ap (times w) (opened_visits v.list []) in
            let some : times w (map negated s.lits) ≡ cond (marked s.marks w) 1 0 = ap (times w) kept_points ∙ points_once w ∙ ap (λ (b : Bool). cond b 1 0) (sym (st.marks w)) in
            omega arith;
        stacked = subst (IsStacked t.entries) (sym is) (stacked_visits t.entries v.list [] tt (λ x there. All-nil (λ y. position_of t.entries x.variable < position_of t.entries y.variable)));
        waits = subst (Waits t conflict (map negated s.lits)) (sym is) (waits_visits t conflict v.list (map negated s.lits) [] waits);
        leads = subst (Leads t.clauses [] (map negated s.lits)) (sym st.hints) (leads_start t.clauses (map negated s.lits));
        named = subst (All (λ id. IsSome (clause_named id t.clauses))) (sym st.hints) (All-nil (λ id. IsSome (clause_named id t.clauses)));
      }

pub refuting_starts : (t : TrailState) (conflict : ℕ) (points : List Literal) (b : List ℕ) (s : Searched) → IsTrail t → t.answer ≡ Some (Conflict conflict) → Starts t conflict points b s → IsRefuting t conflict s
refuting_starts t conflict points b s trail answer st = refuting_begins t conflict points b s trail answer st

-- where it ends
module _ (t : TrailState) (conflict : ℕ) (s : Searched) (trail : IsTrail t) (answer : t.answer ≡ Some (Conflict conflict)) (r : IsRefuting t conflict s) (over : s.tasks ≡ []) where
  end_comes : MayCome r.left (map negated s.lits) (map negated s.lits)
  end_comes = record {
    has = λ l there. there;
    apart = λ l there.
        let some = times_there (map negated s.lits) l there in
        let sum = r.once l.variable in
        let parts = times-append l.variable r.left (map negated s.lits) in
        let one = one_at_most (marked s.marks l.variable) in
        omega arith;
  }

  end_rup : IsRup t.clauses s.lits (map pos (s.hints ++ conflict ∷ []))
  end_rup =
      let c = conflict_clause t conflict trail answer in
      let met : List Literal = r.left ++ map negated s.lits in
      let waits : Waits t conflict met [] = subst (Waits t conflict met) over r.waits in
      let fails : hint_reading met (clause_named conflict t.clauses) ≡ Falsified = ap (hint_reading met) c.1 ∙ all_falsified met c.0 (λ m there. waits m (c.0, c.1, there)) in
      r.leads (map negated s.lits) (conflict ∷ []) end_comes (λ p. ap (λ (reads : Reading). judged_by reads (FailsAt p) (λ l. judged_from t.clauses [] (p + 1) (l ∷ met))) fails) 1

  pub refuting_over : IsRup t.clauses s.lits (map pos (s.hints ++ conflict ∷ [])) × All (λ id. IsSome (clause_named id t.clauses)) (s.hints ++ conflict ∷ [])
  refuting_over =
      let c = conflict_clause t conflict trail answer in
      (end_rup, All-push (λ id. IsSome (clause_named id t.clauses)) s.hints conflict r.named (subst IsSome (sym c.1) refl))

pub refuting_ends : (t : TrailState) (conflict : ℕ) (s : Searched) → IsTrail t → t.answer ≡ Some (Conflict conflict) → IsRefuting t conflict s → s.tasks ≡ [] → IsRup t.clauses s.lits (map pos (s.hints ++ conflict ∷ [])) × All (λ id. IsSome (clause_named id t.clauses)) (s.hints ++ conflict ∷ [])
refuting_ends t conflict s trail answer r over = refuting_over t conflict s trail answer r over

-- what was met has a value
pub met_valued : (t : TrailState) (conflict : ℕ) (s : Searched) (v : ℕ) → IsRefuting t conflict s → s.tasks ≡ [] → marked s.marks v ≡ true → IsSome (entry_at v t.entries)
met_valued t conflict s v r over on =
    let met : List Literal = r.left ++ map negated s.lits in
    let none : times v (opened s.tasks) ≡ 0 = ap (λ (ts : List Task). times v (opened ts)) over in
    let one : (if marked s.marks v then 1 else 0) ≡ 1 = ap (λ (b : Bool). if b then 1 else 0) on in
    let sum : times v (opened s.tasks) + times v met ≡ 1 = r.once v ∙ one in
    let found = times_found v met (omega arith) in
    let is_true = all_among (λ x. value_of t.entries x ≡ Some true) met found.0 r.met_true found.1 in
    let e = value_entry t.entries found.0 (subst IsSome (sym is_true) refl) in
    subst IsSome (sym (ap (λ (w : ℕ). entry_at w t.entries) (sym found.2) ∙ e.1)) refl
