-- A walk along the list of a literal that became false.
use Rattle.std.proofs.Common.{◌≡◌, ◌≢◌, ℕ, zero, suc, ◌+◌, ◌-◌, ◌<◌, ◌≤◌, Bool, true, false, List, [], ◌∷◌, ◌++◌, length, take, set, get_or, Option, Some, None, ◌⊎◌, refl, sym, ◌∙◌, ap, subst, arith, inl, inr, length-set}
use Rattle.std.specs.List.{slice_get, swap_remove}
use Rattle.std.proofs.lemmas.Bool.{cases_eq, cases_lt, false≢true, cases_Bool}
use Rattle.std.proofs.lemmas.Option.{none-some, same_Some, slice_get_within, slice_get_read, get_or_from_slice_get}
use Rattle.std.proofs.lemmas.List.{length_push}
use Rattle.qv_cnf.specs.Literal.{Literal, index_of, negated, literal_at, literal_at-index_of}
use Rattle.qv_cnf.specs.Refutation.{among, same_literal}
use Rattle.std.specs.Prelude.{IsSome}
use Rattle.qv_watch.specs.Attaching.{Stored, attached_in, lits_in}
use Rattle.qv_watch.specs.Scanning.{MayScan, Scans}
use Rattle.qv_watch.specs.Table.{Entered, IsStepped}
use Rattle.qv_watch.specs.TrailState.{Continues, IsGrown, MayFollow}
use Rattle.qv_watch.specs.Entries.{Entry, trues, last_level, says, value_of}
use Rattle.qv_cnf.specs.declared.readings.Reading.TheVariants.{Falsified}
use Rattle.qv_watch.specs.declared.watches.Watches.{Watches}
use Rattle.qv_watch.specs.Watching.{Frames, HasTrue, HasBeside, HasNoneBeside, IsCovered, IsListed, IsExchanged, IsListedNow, IsMinded, IsWatch, IsWatched, IsWatchingAt, lists_in as all_lists}
use Rattle.std.specs.Option.{option_map}
use Rattle.qv_watch.specs.Choosing.{IsChosen}
use Rattle.qv_watch.specs.Visiting.{AreKnown, AreTrue, IsBesideAt, IsBesideOf, IsHere, IsKnownBeside, IsListedOr, IsVisitingAt, OnStop, OnWalk}
use Rattle.qv_watch.specs.declared.choosing.Choice.TheVariants.{Watching}
use Rattle.qv_watch.specs.declared.propagation.Beside.{Beside}
use Rattle.qv_watch.specs.declared.propagation.Beside.TheVariants.{Open, Rest, Detached}
use Rattle.qv_watch.specs.declared.propagation.Stop.{Stop}
use Rattle.qv_watch.specs.declared.propagation.Stop.TheVariants.{Conflict, Lost}
use Rattle.qv_watch.specs.declared.watches.WatchList.{WatchList}
use Rattle.qv_watch.specs.declared.watches.Pair.{Pair}
use Rattle.qv_watch.specs.declared.watches.Watch.{Watch}
use Rattle.qv_watch.proofs.Covering.{HasTrue-append, HasTrue-now, IsCovered-append, IsCovered-open, IsMinded-through, entry_true}
use Rattle.qv_watch.proofs.Entering.{last_level-push, same_literal-true, same_literal-itself}
use Rattle.qv_watch.proofs.Listed.{index_apart, slice_get-set_in, IsListed-now, IsListed-own}
use Rattle.qv_watch.proofs.Lists.{slice_get-append, slice_get-push, slice_get-set_other}
use Rattle.qv_watch.proofs.Placing.{slice_get-within_take, slice_get-set_here}
use Rattle.qv_watch.proofs.Resting.{twice_negated, among_cases, value-true}
use Rattle.qv_watch.proofs.Growing.{Continues-level, Continues-nothing, Continues-push, Continues-twice, IsGrown-push}

-- an element that isn't taken out is still there
swapped : {X : Type 0} (xs : List X) (i j : ℕ) (d x : X) → i < length xs → j ≢ i → slice_get xs j ≡ Some x → (k : ℕ) × (slice_get (swap_remove xs i d) k ≡ Some x) × ((k ≡ j) ⊎ (k ≡ i))
swapped xs i j d x h apart there =
    let n : ℕ = length xs - 1 in
    let low = slice_get_within xs j x there in
    elim (cases_lt j n) [
      | inl front ↦ (j, slice_get-within_take (set xs i (get_or xs n d)) n j x front (slice_get-set_other xs i (get_or xs n d) j apart ∙ there), inl refl)
      | inr last ↦
          let at : j ≡ n = omega arith in
          let is : get_or xs n d ≡ x = get_or_from_slice_get xs n x d (ap (slice_get xs) (sym at) ∙ there) in
          (i, slice_get-within_take (set xs i (get_or xs n d)) n i x (omega arith) (slice_get-set_here xs i (get_or xs n d) h ∙ ap Some is), inr refl)
    ]

-- one of the two that stand with the watches
one_known : (lits : List Literal) (p : Pair) (l : Literal) → (among lits p.third ≡ true) × (among lits p.fourth ≡ true) → (l ≡ p.third) ⊎ (l ≡ p.fourth) → among lits l ≡ true
one_known lits p l known which = elim which [ inl e ↦ ap (among lits) e ∙ known.0 | inr e ↦ ap (among lits) e ∙ known.1 ]

-- they are of the clause that is watched
known_watched : (es : List Entry) (pairs : List Pair) (k head : ℕ) (lits : List Literal) (P : Literal → Type 0) → IsWatched head es pairs k lits P → AreKnown pairs k lits
known_watched es pairs k head lits P w p at =
    let is : w.pair ≡ p = same_Some w.pair p (sym w.at ∙ at) in
    (ap (λ (q : Pair). among lits q.third) (sym is) ∙ w.third, ap (λ (q : Pair). among lits q.fourth) (sym is) ∙ w.fourth)

module _ (clauses : List Stored) (es : List Entry) (queue : List ℕ) (head : ℕ) (pairs : List Pair) (lists : List (List Watch)) (list : List Watch) (i : ℕ) (out : Literal) (x : Watch) (at : slice_get list i ≡ Some x) (v : IsVisitingAt clauses es queue head pairs lists list i out) where
  -- a watch that stays, as a literal of its clause is true
  module _ (held : (k : ℕ) (lits : List Literal) → lits_in (slice_get clauses k) ≡ Some lits → x.place ≡ k → among lits x.other ≡ true → IsWatched head es pairs k lits (IsListedOr lists es list i out k lits) → HasTrue (last_level es) es lits) where
    kept_here : (k : ℕ) (lits : List Literal) → lits_in (slice_get clauses k) ≡ Some lits → IsWatched head es pairs k lits (IsListedOr lists es list i out k lits) → IsHere es list i k lits → IsHere es list (i + 1) k lits
    kept_here k lits here w g = record {
      j = g.j;
      watch = g.watch;
      stands = g.stands;
      place = g.place;
      other = g.other;
      visited = λ below. elim (cases_lt g.j i) [
        | inl earlier ↦ g.visited earlier
        | inr now ↦
            let same : g.j ≡ i = omega arith in
            let is : g.watch ≡ x = same_Some g.watch x (sym g.stands ∙ ap (slice_get list) same ∙ at) in
            held k lits here (ap (λ (y : Watch). y.place) (sym is) ∙ g.place) (ap (λ (y : Watch). among lits y.other) (sym is) ∙ g.other) w
      ];
    }

    kept_watch : (k : ℕ) (lits : List Literal) → lits_in (slice_get clauses k) ≡ Some lits → IsWatched head es pairs k lits (IsListedOr lists es list i out k lits) → (l : Literal) → IsWatch head es lits (IsListedOr lists es list i out k lits) l → IsWatch head es lits (IsListedOr lists es list (i + 1) out k lits) l
    kept_watch k lits here w l f = record {
      own = f.own;
      covered = f.covered;
      listed = record { apart = f.listed.apart; here = λ e. kept_here k lits here w (f.listed.here e) };
    }

    pub visit_kept : IsVisitingAt clauses es queue head pairs lists list (i + 1) out
    visit_kept = record {
      each = λ k lits here. elim (v.each k lits here) [
        | inl new ↦ inl new
        | inr old ↦ inr (elim old [
          | inl settled ↦ inl settled
          | inr w ↦ inr record { pair = w.pair; at = w.at; apart = w.apart; first = kept_watch k lits here w w.pair.first w.first; second = kept_watch k lits here w w.pair.second w.second; third = w.third; fourth = w.fourth }
        ])
      ];
      entry = v.entry;
      follows = v.follows;
      denies = v.denies;
      late = v.late;
      place = v.place;
    }

  -- a watch that looks at another literal of its clause first
  module _ (y : Watch) (place : y.place ≡ x.place) (own : (k : ℕ) (lits : List Literal) → x.place ≡ k → IsWatched head es pairs k lits (IsListedOr lists es list i out k lits) → among lits y.other ≡ true) where
    renewed_here : (k : ℕ) (lits : List Literal) → IsWatched head es pairs k lits (IsListedOr lists es list i out k lits) → IsHere es list i k lits → IsHere es (set list i y) i k lits
    renewed_here k lits w g = elim (cases_eq g.j i) [
      | inl same ↦
          let is : g.watch ≡ x = same_Some g.watch x (sym g.stands ∙ ap (slice_get list) same ∙ at) in
          let there : x.place ≡ k = ap (λ (z : Watch). z.place) (sym is) ∙ g.place in
          record {
            j = i;
            watch = y;
            stands = slice_get-set_here list i y (slice_get_within list i x at);
            place = place ∙ there;
            other = own k lits there w;
            visited = λ below. absurd (omega arith);
          }
      | inr far ↦ record {
        j = g.j;
        watch = g.watch;
        stands = slice_get-set_other list i y g.j far ∙ g.stands;
        place = g.place;
        other = g.other;
        visited = g.visited;
      }
    ]

    renewed_watch : (k : ℕ) (lits : List Literal) → IsWatched head es pairs k lits (IsListedOr lists es list i out k lits) → (l : Literal) → IsWatch head es lits (IsListedOr lists es list i out k lits) l → IsWatch head es lits (IsListedOr lists es (set list i y) i out k lits) l
    renewed_watch k lits w l f = record {
      own = f.own;
      covered = f.covered;
      listed = record { apart = f.listed.apart; here = λ e. renewed_here k lits w (f.listed.here e) };
    }

    pub visit_renewed : IsVisitingAt clauses es queue head pairs lists (set list i y) i out
    visit_renewed = record {
      each = λ k lits here. elim (v.each k lits here) [
        | inl new ↦ inl new
        | inr old ↦ inr (elim old [
          | inl settled ↦ inl settled
          | inr w ↦ inr record { pair = w.pair; at = w.at; apart = w.apart; first = renewed_watch k lits w w.pair.first w.first; second = renewed_watch k lits w w.pair.second w.second; third = w.third; fourth = w.fourth }
        ])
      ];
      entry = v.entry;
      follows = v.follows;
      denies = v.denies;
      late = v.late;
      place = v.place;
    }

  -- a watch that goes, of a clause that isn't listed here, or not any more
  moved_here : (k : ℕ) (lits : List Literal) → x.place ≢ k → IsHere es list i k lits → IsHere es (swap_remove list i x) i k lits
  moved_here k lits apart g =
      let inside = slice_get_within list i x at in
      let other : g.j ≢ i = λ same. apart (let is : g.watch ≡ x = same_Some g.watch x (sym g.stands ∙ ap (slice_get list) same ∙ at) in ap (λ (y : Watch). y.place) (sym is) ∙ g.place) in
      let there = swapped list i g.j x g.watch inside other g.stands in
      record {
        j = there.0;
        watch = g.watch;
        stands = there.1;
        place = g.place;
        other = g.other;
        visited = λ below. elim there.2 [
          | inl same ↦ g.visited (omega arith)
          | inr hole ↦ absurd (omega arith)
        ];
      }

  pub visit_gone : ((k : ℕ) (lits : List Literal) → lits_in (slice_get clauses k) ≡ Some lits → x.place ≡ k → IsWatched head es pairs k lits (IsListedOr lists es list i out k lits) → (l : Literal) → IsWatch head es lits (IsListedOr lists es list i out k lits) l → ((w : IsWatched head es pairs k lits (IsListedOr lists es list i out k lits)) → (w.pair.first ≡ out) ⊎ (w.pair.second ≡ out) → ⊥)) → IsVisitingAt clauses es queue head pairs lists (swap_remove list i x) i out
  visit_gone h = record {
    each = λ k lits here. elim (v.each k lits here) [
      | inl new ↦ inl new
      | inr old ↦ inr (elim old [
        | inl settled ↦ inl settled
        | inr w ↦ inr record {
          pair = w.pair;
          at = w.at;
          apart = w.apart;
          first = record { own = w.first.own; covered = w.first.covered; listed = record { apart = w.first.listed.apart; here = λ e. moved_here k lits (λ same. h k lits here same w w.pair.first w.first w (inl e)) (w.first.listed.here e) } };
          second = record { own = w.second.own; covered = w.second.covered; listed = record { apart = w.second.listed.apart; here = λ e. moved_here k lits (λ same. h k lits here same w w.pair.second w.second w (inr e)) (w.second.listed.here e) } };
          third = w.third;
          fourth = w.fourth;
        }
      ])
    ];
    entry = v.entry;
    follows = v.follows;
    denies = v.denies;
    late = v.late;
    place = v.place;
  }

  out_denied : among (trues es) (negated out) ≡ true
  out_denied = ap (among (trues es)) (sym v.denies) ∙ entry_true es v.entry head v.follows

  -- the clause watches another literal from now on
  module _ (other next : Literal) (lists' : List (List Watch)) (pairs' : List Pair) (beside : HasBeside pairs x.place out other) (ours : (lits : List Literal) → lits_in (slice_get clauses x.place) ≡ Some lits → AreKnown pairs x.place lits → among lits next ≡ true) (apart0 : next ≢ other) (unset : among (trues es) (negated next) ≡ false) (now : IsListedNow lists lists' next record { place = x.place; other = other }) (are : IsExchanged x.place out other next pairs pairs') where
    next_apart : next ≢ out
    next_apart same = false≢true (sym unset ∙ ap (λ (l : Literal). among (trues es) (negated l)) same ∙ out_denied)

    else_watch : (k : ℕ) (lits : List Literal) → x.place ≢ k → (l : Literal) → IsWatch head es lits (IsListedOr lists es list i out k lits) l → IsWatch head es lits (IsListedOr lists' es (swap_remove list i x) i out k lits) l
    else_watch k lits far l f = record {
      own = f.own;
      covered = f.covered;
      listed = record { apart = λ e. IsListed-now lists lists' next record { place = x.place; other = other } k lits l now (f.listed.apart e); here = λ e. moved_here k lits far (f.listed.here e) };
    }

    -- the watch that stays
    stays : (lits : List Literal) (l : Literal) → l ≡ other → l ≢ out → IsWatch head es lits (IsListedOr lists es list i out x.place lits) l → IsWatch head es lits (IsListedOr lists' es (swap_remove list i x) i out x.place lits) other
    stays lits l same far f = subst (λ (o : Literal). IsWatch head es lits (IsListedOr lists' es (swap_remove list i x) i out x.place lits) o) same record {
      own = f.own;
      covered = f.covered;
      listed = record { apart = λ e. IsListed-now lists lists' next record { place = x.place; other = other } x.place lits l now (f.listed.apart far); here = λ e. absurd (far e) };
    }

    comes : (lits : List Literal) → among lits next ≡ true → among lits other ≡ true → IsWatch head es lits (IsListedOr lists' es (swap_remove list i x) i out x.place lits) next
    comes lits own theirs = record {
      own = own;
      covered = IsCovered-open head es lits next unset;
      listed = record { apart = λ e. IsListed-own lists lists' next record { place = x.place; other = other } lits now theirs; here = λ e. absurd (next_apart e) };
    }

    own_watched : (lits : List Literal) → lits_in (slice_get clauses x.place) ≡ Some lits → IsWatched head es pairs x.place lits (IsListedOr lists es list i out x.place lits) → IsWatched head es pairs' x.place lits (IsListedOr lists' es (swap_remove list i x) i out x.place lits)
    own_watched lits here w =
        let is : beside.pair ≡ w.pair = same_Some beside.pair w.pair (sym beside.at ∙ w.at) in
        let known : AreKnown pairs x.place lits = known_watched es pairs x.place head lits (IsListedOr lists es list i out x.place lits) w in
        let own : among lits next ≡ true = ours lits here known in
        let new_at : slice_get pairs' x.place ≡ Some record { first = other; second = next; third = out; fourth = are.fourth } = ap (λ (ps : List Pair). slice_get ps x.place) are.is ∙ slice_get-set_in pairs x.place beside.pair record { first = other; second = next; third = out; fourth = are.fourth } beside.at in
        let rest : among lits are.fourth ≡ true = one_known lits are.pair are.fourth (known are.pair are.at) are.stood in
        let far : other ≢ next = λ e. apart0 (sym e) in
        elim beside.are [
          | inl a ↦
              let one : w.pair.first ≡ out = ap (λ (p : Pair). p.first) (sym is) ∙ a.0 in
              let two : w.pair.second ≡ other = ap (λ (p : Pair). p.second) (sym is) ∙ a.1 in
              let kept : w.pair.second ≢ out = λ e. w.apart (one ∙ sym e) in
              record {
                pair = record { first = other; second = next; third = out; fourth = are.fourth };
                at = new_at;
                apart = far;
                first = stays lits w.pair.second two kept w.second;
                second = comes lits own (ap (among lits) (sym two) ∙ w.second.own);
                third = ap (among lits) (sym one) ∙ w.first.own;
                fourth = rest;
              }
          | inr b ↦
              let one : w.pair.second ≡ out = ap (λ (p : Pair). p.second) (sym is) ∙ b.0 in
              let two : w.pair.first ≡ other = ap (λ (p : Pair). p.first) (sym is) ∙ b.1 in
              let kept : w.pair.first ≢ out = λ e. w.apart (e ∙ sym one) in
              record {
                pair = record { first = other; second = next; third = out; fourth = are.fourth };
                at = new_at;
                apart = far;
                first = stays lits w.pair.first two kept w.first;
                second = comes lits own (ap (among lits) (sym two) ∙ w.first.own);
                third = ap (among lits) (sym one) ∙ w.second.own;
                fourth = rest;
              }
        ]

    pub visit_shifted : IsVisitingAt clauses es queue head pairs' lists' (swap_remove list i x) i out
    visit_shifted = record {
      each = λ k lits here. elim (v.each k lits here) [
        | inl new ↦ inl new
        | inr old ↦ inr (elim old [
          | inl settled ↦ inl settled
          | inr w ↦ inr (elim (cases_eq x.place k) [
            | inl same ↦
                subst (λ n. IsWatched head es pairs' n lits (IsListedOr lists' es (swap_remove list i x) i out n lits)) same (own_watched lits (ap (λ n. lits_in (slice_get clauses n)) same ∙ here) (subst (λ n. IsWatched head es pairs n lits (IsListedOr lists es list i out n lits)) (sym same) w))
            | inr far ↦ record {
              pair = w.pair;
              at = ap (λ (ps : List Pair). slice_get ps k) are.is ∙ slice_get-set_other pairs x.place record { first = other; second = next; third = out; fourth = are.fourth } k (λ e. far (sym e)) ∙ w.at;
              apart = w.apart;
              first = else_watch k lits far w.pair.first w.first;
              second = else_watch k lits far w.pair.second w.second;
              third = w.third;
              fourth = w.fourth;
            }
          ])
        ])
      ];
      entry = v.entry;
      follows = v.follows;
      denies = v.denies;
      late = v.late;
      place = rw (now.is, length-set lists (index_of next) (now.list ++ record { place = x.place; other = other } ∷ [])) v.place;
    }

-- watches that stay, as a literal of each clause is true
module _ (clauses : List Stored) (es : List Entry) (queue : List ℕ) (head : ℕ) (pairs : List Pair) (lists : List (List Watch)) (list : List Watch) (i n : ℕ) (out : Literal) (steps : IsStepped 0 es) (true_on : AreTrue es list i n) where
  skipped_here : (k : ℕ) (lits : List Literal) → IsHere es list i k lits → IsHere es list n k lits
  skipped_here k lits g = record {
    j = g.j;
    watch = g.watch;
    stands = g.stands;
    place = g.place;
    other = g.other;
    visited = λ below. elim (cases_lt g.j i) [
      | inl earlier ↦ g.visited earlier
      | inr now ↦ HasTrue-now es lits g.watch.other steps g.other (value-true es g.watch.other (true_on g.j g.watch (omega arith) below g.stands))
    ];
  }

  skipped_watch : (k : ℕ) (lits : List Literal) (l : Literal) → IsWatch head es lits (IsListedOr lists es list i out k lits) l → IsWatch head es lits (IsListedOr lists es list n out k lits) l
  skipped_watch k lits l f = record {
    own = f.own;
    covered = f.covered;
    listed = record { apart = f.listed.apart; here = λ e. skipped_here k lits (f.listed.here e) };
  }

  pub visit_skipped : IsVisitingAt clauses es queue head pairs lists list i out → IsVisitingAt clauses es queue head pairs lists list n out
  visit_skipped v = record {
    each = λ k lits here. IsMinded-through queue head head es es pairs pairs k lits (IsListedOr lists es list i out k lits) (IsListedOr lists es list n out k lits) (λ p h. h) (λ h. h) (λ l f. skipped_watch k lits l f) (v.each k lits here);
    entry = v.entry;
    follows = v.follows;
    denies = v.denies;
    late = v.late;
    place = v.place;
  }

-- a literal came
pub visit_push : (clauses : List Stored) (es : List Entry) (queue : List ℕ) (head : ℕ) (pairs : List Pair) (lists : List (List Watch)) (list : List Watch) (i : ℕ) (out : Literal) (e : Entry) → e.level ≡ last_level es → IsVisitingAt clauses es queue head pairs lists list i out → IsVisitingAt clauses (es ++ e ∷ []) queue head pairs lists list i out
visit_push clauses es queue head pairs lists list i out e level v =
    let low = slice_get_within es head v.entry v.follows in
    let last : last_level (es ++ e ∷ []) ≡ last_level es = last_level-push es e ∙ level in
    record {
      each = λ k lits here. IsMinded-through queue head head es (es ++ e ∷ []) pairs pairs k lits (IsListedOr lists es list i out k lits) (IsListedOr lists (es ++ e ∷ []) list i out k lits) (λ p h. h) (HasTrue-append 0 es (e ∷ []) lits) (λ w f. record {
        own = f.own;
        covered = IsCovered-append head es (e ∷ []) lits w (omega arith) f.covered;
        listed = record {
          apart = f.listed.apart;
          here = λ same. let g = f.listed.here same in record { j = g.j; watch = g.watch; stands = g.stands; place = g.place; other = g.other; visited = λ below. rw last (HasTrue-append (last_level es) es (e ∷ []) lits (g.visited below)) };
        };
      }) (v.each k lits here);
      entry = v.entry;
      follows = slice_get-append es (e ∷ []) head v.entry v.follows;
      denies = v.denies;
      late = λ j y low h. elim (slice_get-push es e j y h) [
        | inl old ↦ v.late j y low old ∙ sym last
        | inr new ↦ ap (λ (z : Entry). z.level) (sym new.1) ∙ level ∙ sym last
      ];
      place = v.place;
    }

-- one more entry was followed
covered_next : (head : ℕ) (es : List Entry) (lits : List Literal) (w : Literal) (entry : Entry) → slice_get es head ≡ Some entry → (entry.lit ≡ negated w → HasTrue entry.level es lits) → IsCovered head es lits w → IsCovered (head + 1) es lits w
covered_next head es lits w entry at h c i e low here denied = elim (cases_lt i head) [
  | inl earlier ↦ c i e earlier here denied
  | inr now ↦
      let same : i ≡ head = omega arith in
      let is : entry ≡ e = same_Some entry e (sym at ∙ ap (slice_get es) (sym same) ∙ here) in
      subst (λ (y : Entry). HasTrue y.level es lits) is (h (ap (λ (y : Entry). y.lit) is ∙ denied))
]

negated_same : (a b : Literal) → negated a ≡ negated b → a ≡ b
negated_same a b h = sym (twice_negated a) ∙ ap negated h ∙ twice_negated b

back_in : (lists : List (List Watch)) (es : List Entry) (list : List Watch) (i : ℕ) (out : Literal) (k : ℕ) (lits : List Literal) (w : Literal) → index_of out < length lists → IsListedOr lists es list i out k lits w → ((w ≡ out) ⊎ (w ≢ out)) → IsListed (set lists (index_of out) list) k lits w
back_in lists es list i out k lits w place l which = elim which [
  | inl same ↦ let g = l.here same in record {
    list = list;
    j = g.j;
    watch = g.watch;
    of_literal = ap (slice_get (set lists (index_of out) list)) (ap index_of same) ∙ slice_get-set_here lists (index_of out) list place;
    stands = g.stands;
    place = g.place;
    other = g.other;
  }
  | inr far ↦ let g = l.apart far in record {
    list = g.list;
    j = g.j;
    watch = g.watch;
    of_literal = slice_get-set_other lists (index_of out) list (index_of w) (index_apart w out far) ∙ g.of_literal;
    stands = g.stands;
    place = g.place;
    other = g.other;
  }
]

pub same_or_apart : (a b : Literal) → (a ≡ b) ⊎ (a ≢ b)
same_or_apart a b = elim (cases_Bool (same_literal a b)) [
  | inl t ↦ inl (same_literal-true a b t)
  | inr f ↦ inr (λ e. false≢true (sym f ∙ ap (same_literal a) (sym e) ∙ same_literal-itself a))
]

-- the list comes back
pub visit_back : (clauses : List Stored) (es : List Entry) (queue : List ℕ) (head : ℕ) (pairs : List Pair) (lists : List (List Watch)) (list : List Watch) (i : ℕ) (out : Literal) → IsVisitingAt clauses es queue head pairs lists list i out → IsWatchingAt clauses es queue head pairs (set lists (index_of out) list)
visit_back clauses es queue head pairs lists list i out v = record {
  each = λ k lits here. IsMinded-through queue head head es es pairs pairs k lits (IsListedOr lists es list i out k lits) (IsListed (set lists (index_of out) list) k lits) (λ p h. h) (λ h. h) (λ w f. record {
    own = f.own;
    covered = f.covered;
    listed = back_in lists es list i out k lits w v.place f.listed (same_or_apart w out);
  }) (v.each k lits here);
  within = let low = slice_get_within es head v.entry v.follows in omega arith;
  late = v.late;
}

-- and all of it was visited
pub visit_end : (clauses : List Stored) (es : List Entry) (queue : List ℕ) (head : ℕ) (pairs : List Pair) (lists : List (List Watch)) (list : List Watch) (i : ℕ) (out : Literal) → length list ≤ i → IsVisitingAt clauses es queue head pairs lists list i out → IsWatchingAt clauses es queue (head + 1) pairs (set lists (index_of out) list)
visit_end clauses es queue head pairs lists list i out all v =
    let level : v.entry.level ≡ last_level es = v.late head v.entry (omega arith) v.follows in
    record {
      each = λ k lits here. IsMinded-through queue head (head + 1) es es pairs pairs k lits (IsListedOr lists es list i out k lits) (IsListed (set lists (index_of out) list) k lits) (λ p h. h) (λ h. h) (λ w f. record {
        own = f.own;
        covered = covered_next head es lits w v.entry v.follows (λ denied.
            let same : w ≡ out = negated_same w out (sym denied ∙ v.denies) in
            let g = f.listed.here same in
            let low = slice_get_within list g.j g.watch g.stands in
            rw level (g.visited (omega arith))) f.covered;
        listed = back_in lists es list i out k lits w v.place f.listed (same_or_apart w out);
      }) (v.each k lits here);
      within = let low = slice_get_within es head v.entry v.follows in omega arith;
      late = λ j e low h. v.late j e (omega arith) h;
    }

-- the list goes out
pub visit_start : (clauses : List Stored) (es : List Entry) (queue : List ℕ) (head : ℕ) (pairs : List Pair) (lists : List (List Watch)) (list : List Watch) (out : Literal) (entry : Entry) → slice_get lists (index_of out) ≡ Some list → slice_get es head ≡ Some entry → entry.lit ≡ negated out → IsWatchingAt clauses es queue head pairs lists → IsVisitingAt clauses es queue head pairs (set lists (index_of out) []) list 0 out
visit_start clauses es queue head pairs lists list out entry at follows denies w = record {
  each = λ k lits here. IsMinded-through queue head head es es pairs pairs k lits (IsListed lists k lits) (IsListedOr (set lists (index_of out) []) es list 0 out k lits) (λ p h. h) (λ h. h) (λ l f. record {
    own = f.own;
    covered = f.covered;
    listed = record {
      apart = λ far. record {
        list = f.listed.list;
        j = f.listed.j;
        watch = f.listed.watch;
        of_literal = slice_get-set_other lists (index_of out) [] (index_of l) (index_apart l out far) ∙ f.listed.of_literal;
        stands = f.listed.stands;
        place = f.listed.place;
        other = f.listed.other;
      };
      here = λ same.
          let is : list ≡ f.listed.list = same_Some list f.listed.list (sym at ∙ ap (λ (m : Literal). slice_get lists (index_of m)) (sym same) ∙ f.listed.of_literal) in
          record {
            j = f.listed.j;
            watch = f.listed.watch;
            stands = ap (λ (xs : List Watch). slice_get xs f.listed.j) is ∙ f.listed.stands;
            place = f.listed.place;
            other = f.listed.other;
            visited = λ below. absurd (omega arith);
          };
    };
  }) (w.each k lits here);
  entry = entry;
  follows = follows;
  denies = denies;
  late = w.late;
  place = rw (length-set lists (index_of out) []) (slice_get_within lists (index_of out) list at);
}

-- where the literal has no list, no clause watches it
pub visit_none : (clauses : List Stored) (es : List Entry) (queue : List ℕ) (head : ℕ) (pairs : List Pair) (lists : List (List Watch)) (out : Literal) (entry : Entry) → length lists ≤ index_of out → slice_get es head ≡ Some entry → entry.lit ≡ negated out → IsWatchingAt clauses es queue head pairs lists → IsWatchingAt clauses es queue (head + 1) pairs lists
visit_none clauses es queue head pairs lists out entry none follows denies w = record {
  each = λ k lits here. IsMinded-through queue head (head + 1) es es pairs pairs k lits (IsListed lists k lits) (IsListed lists k lits) (λ p h. h) (λ h. h) (λ l f. record {
    own = f.own;
    covered = covered_next head es lits l entry follows (λ denied.
        let same : l ≡ out = negated_same l out (sym denied ∙ denies) in
        let low = slice_get_within lists (index_of l) f.listed.list f.listed.of_literal in
        let n : index_of l ≡ index_of out = ap index_of same in
        absurd (omega arith)) f.covered;
    listed = f.listed;
  }) (w.each k lits here);
  within = let low = slice_get_within es head entry follows in omega arith;
  late = λ j e low h. w.late j e (omega arith) h;
}

-- the literal beside the one that is out is one of the clause
pub beside_own : (es : List Entry) (pairs : List Pair) (p k head : ℕ) (out other : Literal) (lits : List Literal) (P : Literal → Type 0) → p ≡ k → HasBeside pairs p out other → IsWatched head es pairs k lits P → among lits other ≡ true
beside_own es pairs p k head out other lits P same b w =
    let is : b.pair ≡ w.pair = same_Some b.pair w.pair (sym b.at ∙ ap (slice_get pairs) same ∙ w.at) in
    elim b.are [
      | inl a ↦ ap (among lits) (sym a.1 ∙ ap (λ (q : Pair). q.second) is) ∙ w.second.own
      | inr a ↦ ap (among lits) (sym a.1 ∙ ap (λ (q : Pair). q.first) is) ∙ w.first.own
    ]

pub none_beside : (es : List Entry) (pairs : List Pair) (p k head : ℕ) (out : Literal) (lits : List Literal) (P : Literal → Type 0) → p ≡ k → HasNoneBeside pairs p out → (w : IsWatched head es pairs k lits P) → (w.pair.first ≡ out) ⊎ (w.pair.second ≡ out) → ⊥
none_beside es pairs p k head out lits P same none w which =
    let apart = none w.pair (ap (slice_get pairs) same ∙ w.at) in
    elim which [ inl e ↦ apart.0 e | inr e ↦ apart.1 e ]

-- a literal came from a clause
pub Scans-push : (clauses : List Stored) (values : Entered) (e : Entry) → IsGrown values.room (attached_in clauses) values.entries → MayFollow values.room (attached_in clauses) values.entries e → e.level ≡ last_level values.entries → IsSome e.reason → Scans clauses values record { room = values.room; entries = values.entries ++ e ∷ [] }
Scans-push clauses values e g m level some = record {
  room = refl;
  grown = IsGrown-push values.room (attached_in clauses) values.entries e g m;
  goes_on = Continues-push (last_level values.entries) values.entries values.entries e (Continues-nothing (last_level values.entries) values.entries) level some;
}

pub Scans-none : (clauses : List Stored) (values : Entered) → IsGrown values.room (attached_in clauses) values.entries → Scans clauses values values
Scans-none clauses values g = record { room = refl; grown = g; goes_on = Continues-nothing (last_level values.entries) values.entries }

pub Scans-twice : (clauses : List Stored) (old mid new : Entered) → Scans clauses old mid → Scans clauses mid new → Scans clauses old new
Scans-twice clauses old mid new a b =
    let level = Continues-level old.entries mid.entries a.goes_on in
    record {
      room = b.room ∙ a.room;
      grown = b.grown;
      goes_on = Continues-twice (last_level old.entries) old.entries mid.entries new.entries a.goes_on (subst (λ n. Continues n mid.entries new.entries) level b.goes_on);
    }

pub MayScan-on : (clauses : List Stored) (old new : Entered) → MayScan clauses old → Scans clauses old new → MayScan clauses new
MayScan-on clauses old new m s = record { has_room = rw s.room m.has_room; grown = s.grown }

-- what no literal is of a clause that has none open but for one
pub all_false : (es : List Entry) (lits : List Literal) (other : Literal) (has : Bool) → ((l : Literal) → among lits l ≡ true → (l ≡ other) ⊎ (value_of es l ≡ Some false)) → (has ≡ false → (l : Literal) → among lits l ≡ true → value_of es l ≡ Some false) → value_of es other ≢ Some true → (has ≡ false) ⊎ (value_of es other ≢ None) → (l : Literal) → among lits l ≡ true → value_of es l ≡ Some false
all_false es lits other has each lacks untrue why l own = elim why [
  | inl none ↦ lacks none l own
  | inr some ↦ elim (each l own) [
    | inr f ↦ f
    | inl same ↦ ap (value_of es) same ∙ (elim (value_of es other) as (λ o. value_of es other ≡ o → o ≡ Some false) [
      | None ↦ λ e. absurd (some e)
      | Some b ↦ elim b as (λ (b : Bool). value_of es other ≡ Some b → Some b ≡ Some false) [ true ↦ λ e. absurd (untrue e) | false ↦ λ _. refl ]
    ] refl)
  ]
]

pub among_stands : (lits : List Literal) (l : Literal) → among lits l ≡ true → (j : ℕ) × (slice_get lits j ≡ Some l)
among_stands [] l h = absurd (false≢true h)
among_stands (x ∷ xs) l h = elim (among_cases x xs l h) [
  | inl same ↦ (0, ap Some (sym same))
  | inr later ↦ let rest = among_stands xs l later in (suc rest.0, rest.1)
]

-- what holds of each literal so far holds of one more
pub each_more : (P : Literal → Type 0) (lits : List Literal) (i : ℕ) (x : Literal) → i < length lits → x ≡ get_or lits i x → ((j : ℕ) (y : Literal) → j < i → slice_get lits j ≡ Some y → P y) → P x → (j : ℕ) (y : Literal) → j < i + 1 → slice_get lits j ≡ Some y → P y
each_more P lits i x h is each own j y low at = elim (cases_lt j i) [
  | inl earlier ↦ each j y earlier at
  | inr now ↦
      let same : j ≡ i = omega arith in
      let e : x ≡ y = same_Some x y (sym (slice_get_read lits (length lits) i x refl h is) ∙ ap (slice_get lits) (sym same) ∙ at) in
      subst P e own
]

pub same_index : (a b : Literal) → index_of a ≡ index_of b → a ≡ b
same_index a b e = sym (literal_at-index_of a) ∙ ap literal_at e ∙ literal_at-index_of b

pub Frames-twice : (old mid new : Watches) → Frames old mid → Frames mid new → Frames old new
Frames-twice old mid new a b = record { places = b.places ∙ a.places; queue = b.queue ∙ a.queue; head = b.head ∙ a.head; lost = b.lost ∙ a.lost }

pub head_entry : (o : Option Entry) (l : Literal) → option_map (λ (e : Entry). e.lit) o ≡ Some l → (e : Entry) × (o ≡ Some e) × (e.lit ≡ l)
head_entry None l h = absurd (none-some l h)
head_entry (Some e) l h = (e, refl, same_Some e.lit l h)

pub length-lists_in : (ls : List WatchList) → length (all_lists ls) ≡ length ls
length-lists_in [] = refl
length-lists_in (l ∷ ls) = ap suc (length-lists_in ls)

-- the list comes back after a walk
pub walk_back : (r : Option Stop) (clauses : List Stored) (es : List Entry) (w : Watches) (lists' : List (List Watch)) (list : List Watch) (out : Literal) → OnWalk r clauses es w list out → lists' ≡ set (all_lists w.lists.items) (index_of out) list → OnStop r (IsWatchingAt clauses es w.queue.items (w.head + 1) w.pairs.items lists') (λ id. IsWatchingAt clauses es w.queue.items w.head w.pairs.items lists' × (says (attached_in clauses) es id ≡ Falsified))
walk_back None clauses es w lists' list out v lists = rw lists (visit_end clauses es w.queue.items w.head w.pairs.items (all_lists w.lists.items) list (length list) out (omega arith) v)
walk_back (Some (Conflict id)) clauses es w lists' list out v lists = rw lists (visit_back clauses es w.queue.items w.head w.pairs.items (all_lists w.lists.items) list v.0 out v.1, v.2)
walk_back (Some Lost) clauses es w lists' list out v lists = tt

-- a literal came, and it wasn't followed yet
pub watching_push : (clauses : List Stored) (es : List Entry) (queue : List ℕ) (head : ℕ) (pairs : List Pair) (lists : List (List Watch)) (e : Entry) → (e.level ≡ last_level es) ⊎ (head ≡ length es) → IsWatchingAt clauses es queue head pairs lists → IsWatchingAt clauses (es ++ e ∷ []) queue head pairs lists
watching_push clauses es queue head pairs lists e level w =
    let last : last_level (es ++ e ∷ []) ≡ e.level = last_level-push es e in
    record {
      each = λ k lits here. IsMinded-through queue head head es (es ++ e ∷ []) pairs pairs k lits (IsListed lists k lits) (IsListed lists k lits) (λ p h. h) (HasTrue-append 0 es (e ∷ []) lits) (λ l f. record {
        own = f.own;
        covered = IsCovered-append head es (e ∷ []) lits l w.within f.covered;
        listed = f.listed;
      }) (w.each k lits here);
      within = let n : length (es ++ e ∷ []) ≡ length es + 1 = length_push es e in let h = w.within in omega arith;
      late = λ j y low h. elim (slice_get-push es e j y h) [
        | inl old ↦ elim level [
          | inl same ↦ w.late j y low old ∙ sym same ∙ sym last
          | inr end ↦ absurd (let within = slice_get_within es j y old in omega arith)
        ]
        | inr new ↦ ap (λ (z : Entry). z.level) (sym new.1) ∙ sym last
      ];
    }

-- the last of the new clauses isn't new any more
pub watching_pop : (clauses : List Stored) (es : List Entry) (queue queue' : List ℕ) (head place : ℕ) (pairs pairs' : List Pair) (lists lists' : List (List Watch)) → queue' ≡ take (length queue - 1) queue → slice_get queue (length queue - 1) ≡ Some place → IsWatchingAt clauses es queue head pairs lists → ((k : ℕ) (lits : List Literal) → k ≢ place → IsWatched head es pairs k lits (IsListed lists k lits) → IsWatched head es pairs' k lits (IsListed lists' k lits)) → ((lits : List Literal) → lits_in (slice_get clauses place) ≡ Some lits → HasTrue 0 es lits ⊎ IsWatched head es pairs' place lits (IsListed lists' place lits)) → IsWatchingAt clauses es queue' head pairs' lists'
watching_pop clauses es queue queue' head place pairs pairs' lists lists' shorter last w stays own = record {
  each = λ k lits here. elim (cases_eq k place) [
    | inl same ↦ subst (λ n. IsMinded queue' head es pairs' n lits (IsListed lists' n lits)) (sym same) (inr (own lits (ap (λ n. lits_in (slice_get clauses n)) (sym same) ∙ here)))
    | inr apart ↦ elim (w.each k lits here) [
      | inl new ↦
          let low = slice_get_within queue new.0 k new.1 in
          let far : new.0 ≢ length queue - 1 = λ e. apart (same_Some k place (sym new.1 ∙ ap (slice_get queue) e ∙ last)) in
          inl (new.0, ap (λ (q : List ℕ). slice_get q new.0) shorter ∙ slice_get-within_take queue (length queue - 1) new.0 k (omega arith) new.1)
      | inr old ↦ inr (elim old [
        | inl settled ↦ inl settled
        | inr watched ↦ inr (stays k lits apart watched)
      ])
    ]
  ];
  within = w.within;
  late = w.late;
}

-- a new clause watches two literals
module _ (es : List Entry) (head place : ℕ) (pairs pairs' : List Pair) (pair : Pair) (lists middle lists' : List (List Watch)) (first : IsListedNow lists middle pair.first record { place = place; other = pair.second }) (second : IsListedNow middle lists' pair.second record { place = place; other = pair.first }) (are : pairs' ≡ set pairs place pair) where
  pub others_stay : (k : ℕ) (lits : List Literal) → k ≢ place → IsWatched head es pairs k lits (IsListed lists k lits) → IsWatched head es pairs' k lits (IsListed lists' k lits)
  others_stay k lits far w =
      let each : (l : Literal) → IsWatch head es lits (IsListed lists k lits) l → IsWatch head es lits (IsListed lists' k lits) l =
      λ l f. record { own = f.own; covered = f.covered; listed = IsListed-now middle lists' pair.second record { place = place; other = pair.first } k lits l second (IsListed-now lists middle pair.first record { place = place; other = pair.second } k lits l first f.listed) } in
      record {
        pair = w.pair;
        at = ap (λ (ps : List Pair). slice_get ps k) are ∙ slice_get-set_other pairs place pair k far ∙ w.at;
        apart = w.apart;
        first = each w.pair.first w.first;
        second = each w.pair.second w.second;
        third = w.third;
        fourth = w.fourth;
      }

  pub own_comes : (lits : List Literal) → place < length pairs → IsChosen es lits (Watching pair) → IsWatched head es pairs' place lits (IsListed lists' place lits)
  own_comes lits low chosen = record {
    pair = pair;
    at = ap (λ (ps : List Pair). slice_get ps place) are ∙ slice_get-set_here pairs place pair low;
    apart = chosen.0;
    first = record {
      own = chosen.1.0;
      covered = chosen.1.1 head;
      listed = IsListed-now middle lists' pair.second record { place = place; other = pair.first } place lits pair.first second (IsListed-own lists middle pair.first record { place = place; other = pair.second } lits first chosen.2.0);
    };
    second = record {
      own = chosen.2.0;
      covered = chosen.2.1 head;
      listed = IsListed-own middle lists' pair.second record { place = place; other = pair.first } lits second chosen.1.0;
    };
    third = chosen.3;
    fourth = chosen.4;
  }

pub beyond : (es : List Entry) (n : ℕ) → option_map (λ (e : Entry). e.lit) (slice_get es n) ≡ None → length es ≤ n
beyond [] n h = omega arith
beyond (x ∷ xs) zero h = absurd (none-some x.lit (sym h))
beyond (x ∷ xs) (suc n) h = let t = beyond xs n h in omega arith

-- what stands with the watches comes in where it isn't false
pub known_at : (clauses : List Stored) (pairs : List Pair) (es : List Entry) (k : ℕ) (other l : Literal) → IsKnownBeside pairs es k other l → IsBesideAt clauses pairs es k other (Open l)
known_at clauses pairs es k other l h = record {
  own = λ lits here known. one_known lits h.pair l (known h.pair h.at) h.stands;
  apart = h.apart;
  unset = h.unset;
}

-- all of the attached clause was looked at
pub beside_at : (clauses : List Stored) (pairs : List Pair) (es : List Entry) (k : ℕ) (other : Literal) (lits : List Literal) (b : Beside) → lits_in (slice_get clauses k) ≡ Some lits → IsBesideOf es lits other b → IsBesideAt clauses pairs es k other b
beside_at clauses pairs es k other lits (Open l) here h = record {
  own = λ ls there known. ap (λ (xs : List Literal). among xs l) (sym (same_Some lits ls (sym here ∙ there))) ∙ h.0;
  apart = h.1;
  unset = h.2;
}
beside_at clauses pairs es k other lits (Rest has) here h = record { lits = lits; at = here; rest = h }
beside_at clauses pairs es k other lits Detached here h = absurd h
