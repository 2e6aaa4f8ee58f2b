-- A learnt clause is added.
use Rattle.std.proofs.Common.{◌≡◌, ◌≢◌, ℕ, suc, ◌+◌, ◌<◌, ◌≤◌, ◌^◌, pos, Bool, true, false, ◌||◌, List, [], ◌∷◌, ◌++◌, length, take, map, Option, Some, None, All, eqb, leb, ltb, append_assoc, refl, sym, ◌∙◌, ap, subst, arith, inl, inr}
use Rattle.std.specs.Prelude.{IsSome}
use Rattle.std.specs.List.{list_all, list_any, slice_get, AllByRecursion}
use Rattle.std.proofs.lemmas.Bool.{cases_Bool, cases_lt, eq-eqb, ne_eqb, lt-ltb, lt-leb, le-leb, leb-true, or_from, or_left, or_right, and_from, false_from_ne_true, false≢true}
use Rattle.std.proofs.lemmas.List.{map-append}
use Rattle.std.proofs.lemmas.List.Elements.{recursion_from_All, All-from_recursion, All-weaker, All-push, All-filter, filter_passes}
use Rattle.std.proofs.lemmas.List.Folds.{list_any-append, list_any_none}
use Rattle.std.proofs.lemmas.Option.{none-some}
use Rattle.qv_cnf.specs.Derivation.{Deriving, IsDerivation, MayAdd, after_step, addition_of, has_id, is_within, live_at, no_steps, spares_hint, spares_literal}
use Rattle.qv_cnf.specs.Listing.{Listing, Numbered, clause_named}
use Rattle.qv_cnf.specs.Literal.{Literal, negated}
use Rattle.qv_cnf.specs.LratLine.{LratLine, line_of, lines_of}
use Rattle.qv_cnf.specs.declared.steps.Step.{Step}
use Rattle.qv_cnf.specs.Refutation.{IsRup, adds_none, among, has_none}
use Rattle.qv_learn.proofs.Clauses.{all_among}
use Rattle.qv_learn.proofs.Truths.{false_negated}
use Rattle.qv_watch.specs.Entries.{Entry, up_to, value_of, IsAtRest}
use Rattle.qv_watch.specs.Table.{IsStepped}
use Rattle.qv_watch.specs.TrailState.{Comes, IsGrown, IsTrail, TrailState}
use Rattle.qv_watch.proofs.Keeping.{stepped_grown}
use Rattle.qv_watch.proofs.Valuing.{cut_end}
use Rattle.qv_sat.specs.CoreState.{after_steps, live_after, names_live}
use Rattle.qv_sat.specs.Deciding.{AllWithin, AssumedFirst, IsWithin}
use Rattle.qv_sat.specs.Holding.{IsHeld}
use Rattle.qv_sat.specs.Learnt.{IsLearnt}
use Rattle.qv_sat.specs.Aside.{AreAside, HasNoGuard, is_listed}
use Rattle.qv_sat.specs.Naming.{AllBelow, AreAttached}
use Rattle.qv_sat.proofs.Decisions.{get_all, AssumedFirst-front}
use Rattle.qv_sat.proofs.Depending.{entry_room, forcing_clause}
use Rattle.qv_sat.proofs.Entries.{among_at}
use Rattle.qv_sat.proofs.Holdings.{base_below, fresh_attached, fresh_live, AllWithin-push}
use Rattle.qv_sat.proofs.Jumping.{level_below, none_within_none, not_within, IsAtRestBelow-learnt}
use Rattle.qv_sat.proofs.LeftAside.{attached_live, attached_same, aside_fresh, aside_not_within, live_attached}
use Rattle.qv_sat.proofs.Naming.{append_nil, filter_all, front_none, has_id-fresh, has_named, AreAttached-insert}
use Rattle.qv_sat.proofs.Ordered.{IsOrdered-addition}
use Rattle.qv_sat.proofs.Steps.{after_steps-push, judged_named, NamesSame, spares_hint-named, spares_literal-named, DerivesFrom-push, EachHinted-push}
use Rattle.qv_watch.proofs.Resting.{value-false}
use Rattle.qv_sat.specs.declared.aside.Aside.{Aside}

-- the level isn't above the present one
pub learnt_level : (t : TrailState) (lits : List Literal) (hints : List ℕ) (level : ℕ) → IsLearnt t lits hints level → level ≤ t.level
learnt_level t lits hints level l = elim (cases_lt 0 t.level) [
  | inl above ↦ let b = level_below t lits level (omega arith) (l.asserts (omega arith)) in omega arith
  | inr zero_level ↦ let z = l.at_zero (omega arith) in omega (arith, z.1)
]

-- a false literal's variable has room
false_within : (t : TrailState) (l : Literal) → IsTrail t → value_of t.entries l ≡ Some false → IsWithin t.room l
false_within t l is f =
    let p = among_at t.entries (negated l) (value-false t.entries l f) in
    subst (λ (x : Literal). IsWithin t.room x) p.3 (entry_room t p.0 p.1 is p.2)

pub learnt_within : (t : TrailState) (lits : List Literal) (hints : List ℕ) (level : ℕ) → IsTrail t → IsLearnt t lits hints level → All (IsWithin t.room) lits
learnt_within t lits hints level is l = All-weaker (λ x. value_of t.entries x ≡ Some false) (IsWithin t.room) (λ x f. false_within t x is f) lits l.falsified

pub learnt_rests : (t : TrailState) (lits : List Literal) (hints : List ℕ) (level : ℕ) → IsTrail t → IsLearnt t lits hints level → (k : ℕ) → k < level → IsAtRest (up_to k (up_to level t.entries)) lits
learnt_rests t lits hints level is l k below =
    let low = learnt_level t lits hints level l in
    IsAtRestBelow-learnt t lits level is (omega arith) (l.asserts (omega arith)) k below

-- no live clause is contained in it
none_contained : (lits : List Literal) (clauses : List Numbered) → AllByRecursion (λ c. is_within c.lits lits ≡ false) clauses → list_any (λ c. is_within c.lits lits) clauses ≡ false
none_contained lits [] h = refl
none_contained lits (c ∷ cs) h = or_from (is_within c.lits lits) (list_any (λ x. is_within x.lits lits) cs) h.0 (none_contained lits cs h.1)

weaker : {X : Type 0} (P Q : X → Type 0) (xs : List X) → ((x : X) → P x → Q x) → AllByRecursion P xs → AllByRecursion Q xs
weaker P Q [] f p = tt
weaker P Q (x ∷ xs) f p = (f x p.0, weaker P Q xs f p.1)

pub learnt_not_contained : (t : TrailState) (lits : List Literal) (hints : List ℕ) (level : ℕ) (base added : List Numbered) (aside : Aside) → IsTrail t → IsLearnt t lits hints level → AreAttached aside.ids.items (base ++ added) t.clauses → AreAside base aside → HasNoGuard aside lits → All (λ c. has_none c.lits ≡ false) (base ++ added) → list_any (λ c. is_within c.lits lits) (base ++ added) ≡ false
learnt_not_contained t lits hints level base added aside is l a out apart filled =
    let live = base ++ added in
    let own = recursion_from_All (λ c. clause_named c.id live ≡ Some c.lits) live a.own in
    let some = recursion_from_All (λ c. has_none c.lits ≡ false) live filled in
    none_contained lits live (elim (cases_lt 0 t.level) [
      | inl above ↦ weaker (λ c. clause_named c.id live ≡ Some c.lits) (λ c. is_within c.lits lits ≡ false) live
          (λ c named. elim (cases_Bool (is_listed c.id aside.ids.items)) [
            | inl outside ↦ aside_not_within base added aside c.id c.lits lits out apart outside named
            | inr inside ↦ not_within t lits level is (omega arith) (l.asserts (omega arith)) l.falsified c.id c.lits (live_attached aside.ids.items live t.clauses c.id a inside ∙ named)
          ]) own
      | inr zero_level ↦
          let z = l.at_zero (omega arith) in
          weaker (λ c. has_none c.lits ≡ false) (λ c. is_within c.lits lits ≡ false) live
          (λ c n. ap (λ (ls : List Literal). is_within c.lits ls) z.0 ∙ none_within_none c.lits n) some
    ])

-- no two of its literals are opposite: they are false
none_opposite : (es : List Entry) (lits : List Literal) → All (λ l. value_of es l ≡ Some false) lits → list_any (λ l. among lits (negated l)) lits ≡ false
none_opposite es lits all =
    list_any_none (λ l. among lits (negated l)) lits (All-weaker (λ l. value_of es l ≡ Some false) (λ l. among lits (negated l) ≡ false) (λ l off. false_from_ne_true (among lits (negated l)) (λ there.
    let e : Some true ≡ Some false = sym (false_negated es l off) ∙ all_among (λ m. value_of es m ≡ Some false) lits (negated l) all there in
    cc)) lits all)

-- all clauses of the base are live where the next addition comes
live_at-next : (base : List Numbered) (d : Deriving) (id : ℕ) → AllByRecursion (λ c. c.id < id) base → live_at base d id ≡ base ++ d.added
live_at-next base d id below = ap (λ (xs : List Numbered). xs ++ d.added) (filter_all (λ (c : Numbered). ltb c.id id) base (weaker (λ c. c.id < id) (λ c. ltb c.id id ≡ true) base (λ c h. lt-ltb c.id id h) below))

named_hints : (aside : List ℕ) (live attached : List Numbered) (hints : List ℕ) → AreAttached aside live attached → AllByRecursion (λ id. IsSome (clause_named id attached)) hints → list_all (names_live live) (map pos hints) ≡ true
named_hints aside live attached [] a h = refl
named_hints aside live attached (id ∷ ids) a h =
    let own : has_id live id ≡ true = elim (clause_named id attached) as (λ o. clause_named id attached ≡ o → IsSome o → has_id live id ≡ true) [
      | None ↦ λ _ s. absurd (false≢true s)
      | Some lits ↦ λ named _. has_named id lits live (attached_live aside live attached id lits a named)
    ] refl h.0 in
    and_from (has_id live id) (list_all (names_live live) (map pos ids)) own (named_hints aside live attached ids a h.1)

-- the hints name the same clauses among the live ones
same_hints : (aside : List ℕ) (live attached : List Numbered) (hints : List ℕ) → AreAttached aside live attached → AllByRecursion (λ id. IsSome (clause_named id attached)) hints → AllByRecursion (NamesSame attached live) (map pos hints)
same_hints aside live attached [] a h = tt
same_hints aside live attached (id ∷ ids) a h = (attached_same aside live attached id a h.0, same_hints aside live attached ids a h.1)

-- the addition may come
pub learnt_may_add : (base : Listing) (steps : List LratLine) (t : TrailState) (top variables : ℕ) (refuted : Bool) (aside : Aside) (lits : List Literal) (hints : List ℕ) (level : ℕ) → IsHeld base steps t top variables refuted aside → refuted ≡ false → IsTrail t → IsLearnt t lits hints level → HasNoGuard aside lits → MayAdd base.live (after_steps no_steps steps) (top + 1) lits (map pos hints)
learnt_may_add base steps t top variables refuted aside lits hints level h going is l apart =
    let d : Deriving = after_steps no_steps steps in
    let live : List Numbered = live_after base.live steps in
    let hinted = same_hints aside.ids.items live t.clauses hints h.attached (recursion_from_All (λ id. IsSome (clause_named id t.clauses)) hints l.attached) in
    let below = base_below (top + 1) base.live d.added h.below in
    let same = live_at-next base.live d (top + 1) below in
    record {
      rises = h.next_step;
      fresh = has_id-fresh (top + 1) (top + 1) base.live below (omega arith);
      follows = subst (λ (ls : List Numbered). IsRup ls lits (map pos hints)) (sym same) (sym (judged_named t.clauses live (map pos hints) hinted 1 (map negated lits)) ∙ l.rup);
      literals_needed = ap (λ (ls : List Numbered). spares_literal ls lits (map pos hints)) same ∙ sym (spares_literal-named t.clauses live lits (map pos hints) hinted) ∙ l.literals_needed;
      hints_needed = ap (λ (ls : List Numbered). spares_hint ls lits (map pos hints)) same ∙ sym (spares_hint-named t.clauses live lits (map pos hints) hinted) ∙ l.hints_needed;
      not_opposite = none_opposite t.entries lits l.falsified;
      not_contained = subst (λ (ls : List Numbered). list_any (λ c. is_within c.lits lits) ls ≡ false) (sym same) (learnt_not_contained t lits hints level base.live d.added aside is l h.attached h.are_aside apart (h.filled going));
    }

pub learnt_derivation : (base : Listing) (steps : List LratLine) (t : TrailState) (top variables : ℕ) (refuted : Bool) (aside : Aside) (lits : List Literal) (hints : List ℕ) (level : ℕ) → IsHeld base steps t top variables refuted aside → refuted ≡ false → IsTrail t → IsLearnt t lits hints level → HasNoGuard aside lits → IsDerivation base.live (steps ++ addition_of (top + 1) lits hints ∷ [])
learnt_derivation base steps t top variables refuted aside lits hints level h going is l apart =
    DerivesFrom-push base.live no_steps steps (addition_of (top + 1) lits hints) h.core.derivation (learnt_may_add base steps t top variables refuted aside lits hints level h going is l apart)

-- and then the inside keeps what it kept
pub IsHeld-learn : (base : Listing) (steps : List LratLine) (t t' : TrailState) (top variables : ℕ) (refuted refuted' : Bool) (aside : Aside) (lits : List Literal) (hints : List ℕ) (level : ℕ) → IsHeld base steps t top variables refuted aside → refuted ≡ false → IsTrail t → IsLearnt t lits hints level → HasNoGuard aside lits → top + 1 < 2 ^ 62 → t'.room ≡ t.room → t'.clauses ≡ t.clauses ++ record { id = top + 1; lits = lits } ∷ [] → refuted' ≡ has_none lits → IsHeld base (steps ++ addition_of (top + 1) lits hints ∷ []) t' (top + 1) variables refuted' aside
IsHeld-learn base steps t t' top variables refuted refuted' aside lits hints level h going is l apart few room clauses emptied =
    let d : Deriving = after_steps no_steps steps in
    let c : Numbered = record { id = top + 1; lits = lits } in
    let step : LratLine = addition_of (top + 1) lits hints in
    let old : List Numbered = live_after base.live steps in
    let after : after_steps no_steps (steps ++ step ∷ []) ≡ after_step d step = after_steps-push no_steps steps step in
    let live : live_after base.live (steps ++ step ∷ []) ≡ old ++ c ∷ [] = ap (λ (x : Deriving). base.live ++ x.added) after ∙ sym (append_assoc base.live d.added (c ∷ [])) in
    let below = base_below (top + 1) base.live d.added h.below in
    let fresh = fresh_live base steps t top variables refuted aside (top + 1) h (omega arith) in
    let nil : old ++ [] ≡ old = append_nil old in
    let inside : is_listed (top + 1) aside.ids.items ≡ false = aside_fresh base.live aside (top + 1) h.are_aside (front_none (top + 1) base.live d.added fresh) in
    let attached : AreAttached aside.ids.items (old ++ c ∷ []) (t.clauses ++ c ∷ []) = AreAttached-insert aside.ids.items old [] t.clauses c inside (ap (clause_named (top + 1)) nil ∙ fresh) (subst (λ (ls : List Numbered). AreAttached aside.ids.items ls t.clauses) (sym nil) h.attached) in
    let within : All (IsWithin variables) lits = subst (λ n. All (IsWithin n) lits) h.room (learnt_within t lits hints level is l) in
    record {
      ordered = IsOrdered-addition base.live steps top lits (map pos hints) h.ordered;
      room = room ∙ h.room;
      most = h.most;
      core = record {
        derivation = learnt_derivation base steps t top variables refuted aside lits hints level h going is l apart;
        hinted = EachHinted-push base.live no_steps steps step h.core.hinted
            (subst (λ (ls : List Numbered). list_all (names_live ls) (map pos hints) ≡ true) (sym (live_at-next base.live d (top + 1) below))
            (named_hints aside.ids.items old t.clauses hints h.attached (recursion_from_All (λ id. IsSome (clause_named id t.clauses)) hints l.attached)));
      };
      next_base = let n = h.next_base in omega arith;
      next_step = let e : (after_steps no_steps (steps ++ step ∷ [])).next ≡ top + 1 + 1 = ap (λ (x : Deriving). x.next) after in omega arith;
      few = few;
      below = subst (AllBelow (top + 1 + 1)) (sym live) (All-push (λ x. x.id < top + 1 + 1) old c (All-weaker (λ x. x.id < top + 1) (λ x. x.id < top + 1 + 1) (λ x b. omega arith) old h.below) (omega arith));
      attached = subst (λ (cs : List Numbered). AreAttached aside.ids.items (live_after base.live (steps ++ step ∷ [])) cs) (sym clauses) (subst (λ (ls : List Numbered). AreAttached aside.ids.items ls (t.clauses ++ c ∷ [])) (sym live) attached);
      are_aside = h.are_aside;
      literals = subst (AllWithin variables) (sym live) (AllWithin-push variables old c fresh h.literals within);
      filled = λ still. subst (All (λ (x : Numbered). has_none x.lits ≡ false)) (sym live) (All-push (λ x. has_none x.lits ≡ false) old c (h.filled going) (sym emptied ∙ still));
      refutes = λ now. list_any-append adds_none steps (step ∷ []) ∙ or_right (list_any adds_none steps) (has_none lits || false) (or_left (has_none lits) false (sym emptied ∙ now));
    }

-- the entries of the levels up to one are the first
up_to_none : (level n : ℕ) (es : List Entry) → IsStepped level es → n < level → up_to n es ≡ []
up_to_none level n [] h below = refl
up_to_none level n (x ∷ xs) h below = rw (lt-leb x.level n (omega (arith, h.0))) (up_to_none x.level n xs h.2 (omega (arith, h.0)))

up_to_front : (level n : ℕ) (es : List Entry) → IsStepped level es → (m : ℕ) × (up_to n es ≡ take m es)
up_to_front level n [] h = (0, refl)
up_to_front level n (x ∷ xs) h = elim (cases_lt n x.level) [
  | inl above ↦ (0, rw (lt-leb x.level n above) (up_to_none x.level n xs h.2 above))
  | inr low ↦ let r = up_to_front x.level n xs h.2 in (suc r.0, rw (le-leb x.level n low) (ap (λ (ys : List Entry). x ∷ ys) r.1))
]

pub AssumedFirst-back : (assumptions : List Literal) (t : TrailState) (n : ℕ) → IsTrail t → AssumedFirst assumptions t.entries → AssumedFirst assumptions (up_to n t.entries)
AssumedFirst-back assumptions t n is first =
    let front = up_to_front 0 n t.entries (stepped_grown t.room t.clauses t.entries is.grown) in
    subst (AssumedFirst assumptions) (sym front.1) (AssumedFirst-front assumptions t.entries front.0 first)

-- no literal came from a clause that isn't attached
no_reason_at : (room : ℕ) (clauses : List Numbered) (es : List Entry) (id k : ℕ) (e : Entry) → IsGrown room clauses es → clause_named id clauses ≡ None → slice_get es k ≡ Some e → e.reason ≢ Some id
no_reason_at room clauses es id k e g none there came =
    let comes : Comes clauses (take k es) e.lit e.level (Some id) = subst (Comes clauses (take k es) e.lit e.level) came (g k e there).comes in
    let f = forcing_clause clauses (take k es) id e.lit comes.1 in
    none-some f.0 (sym none ∙ f.1)

each_place : (P : Entry → Type 0) (es : List Entry) → ((k : ℕ) (e : Entry) → slice_get es k ≡ Some e → P e) → AllByRecursion P es
each_place P [] h = tt
each_place P (x ∷ xs) h = (h 0 x refl, each_place P xs (λ k e there. h (suc k) e there))

pub no_reason : (t : TrailState) (id n : ℕ) → IsTrail t → clause_named id t.clauses ≡ None → All (λ e. e.reason ≢ Some id) (up_to n t.entries)
no_reason t id n is none =
    All-filter (λ (e : Entry). leb e.level n) (λ e. e.reason ≢ Some id) t.entries
    (All-from_recursion (λ e. e.reason ≢ Some id) t.entries (each_place (λ e. e.reason ≢ Some id) t.entries (λ k e there. no_reason_at t.room t.clauses t.entries id k e is.grown none there)))

-- an id of a live clause is at most the greatest
pub hints_few : (base : Listing) (steps : List LratLine) (t : TrailState) (top variables : ℕ) (refuted : Bool) (aside : Aside) (hints : List ℕ) → IsHeld base steps t top variables refuted aside → All (λ id. IsSome (clause_named id t.clauses)) hints → All (λ id. id < 2 ^ 62) hints
hints_few base steps t top variables refuted aside hints h =
    All-weaker (λ id. IsSome (clause_named id t.clauses)) (λ id. id < 2 ^ 62) (λ id some. elim (cases_lt top id) [
      | inl above ↦ absurd (false≢true (subst (λ (o : Option (List Literal)). IsSome o) (fresh_attached base steps t top variables refuted aside id h above) some))
      | inr low ↦ let few = h.few in omega arith
    ]) hints

-- a list of steps with one more
pub lines-push : (steps : List Step) (step : Step) → lines_of (steps ++ step ∷ []) ≡ lines_of steps ++ line_of step ∷ []
lines-push steps step = map-append line_of steps (step ∷ [])

pub has_none-length : (lits : List Literal) (n : ℕ) → length lits ≡ n → eqb n 0 ≡ has_none lits
has_none-length [] n h = eq-eqb n 0 (sym h)
has_none-length (l ∷ ls) n h = ne_eqb n 0 (omega arith)

-- at level 0 nothing was assumed
assumed_above : (t : TrailState) → IsTrail t → AllByRecursion (λ e. e.reason ≡ None → 1 ≤ e.level) t.entries
assumed_above t is = each_place (λ e. e.reason ≡ None → 1 ≤ e.level) t.entries (λ k e there none.
    let comes : Comes t.clauses (take k t.entries) e.lit e.level None = subst (Comes t.clauses (take k t.entries) e.lit e.level) none (is.grown k e there).comes in
    omega arith)

pub AssumedFirst-zero : (assumptions : List Literal) (t : TrailState) → IsTrail t → AssumedFirst assumptions (up_to 0 t.entries)
AssumedFirst-zero assumptions t is k e there none =
    let above = get_all (λ (x : Entry). x.reason ≡ None → 1 ≤ x.level) (up_to 0 t.entries) k e (recursion_from_All (λ (x : Entry). x.reason ≡ None → 1 ≤ x.level) (up_to 0 t.entries) (All-filter (λ (x : Entry). leb x.level 0) (λ x. x.reason ≡ None → 1 ≤ x.level) t.entries (All-from_recursion (λ x. x.reason ≡ None → 1 ≤ x.level) t.entries (assumed_above t is)))) there none in
    let low = leb-true e.level 0 (get_all (λ (x : Entry). leb x.level 0 ≡ true) (up_to 0 t.entries) k e (recursion_from_All (λ (x : Entry). leb x.level 0 ≡ true) (up_to 0 t.entries) (filter_passes (λ (x : Entry). leb x.level 0) t.entries)) there) in
    absurd (omega arith)

pub AssumedFirst-level : (assumptions : List Literal) (t : TrailState) → IsTrail t → t.level ≤ 0 → AssumedFirst assumptions t.entries
AssumedFirst-level assumptions t is low =
    subst (AssumedFirst assumptions) (cut_end 0 t.entries (stepped_grown t.room t.clauses t.entries is.grown) (let l = is.level in omega arith)) (AssumedFirst-zero assumptions t is)
