-- A trail with its watches, through each call.
use Rattle.std.proofs.Common.{◌≡◌, ℕ, zero, suc, min, false, List, [], ◌∷◌, ◌++◌, length, take, Option, Some, None, eqb, refl, sym, ◌∙◌, ap, arith, inl, inr}
use Rattle.std.specs.List.{slice_get}
use Rattle.std.proofs.lemmas.Bool.{cases_Bool}
use Rattle.std.proofs.lemmas.Option.{none-some, same_Some, slice_get_within}
use Rattle.qv_cnf.specs.Literal.{Literal}
use Rattle.qv_watch.specs.Attaching.{Stored, let_go, lits_in}
use Rattle.qv_watch.specs.Entries.{Entry, trues, last_level, up_to}
use Rattle.qv_watch.specs.Table.{Entered, IsStepped}
use Rattle.qv_watch.specs.TrailState.{without_conflict}
use Rattle.qv_watch.specs.declared.propagation.Propagated.{Propagated}
use Rattle.qv_watch.specs.declared.propagation.Propagated.TheVariants.{Quiet, Conflict}
use Rattle.qv_watch.specs.Keeping.{IsKept}
use Rattle.qv_watch.specs.Visiting.{IsSound}
use Rattle.qv_watch.specs.Watching.{lists_in as all_lists, AreReleased, Grows, IsListed, IsPutIn, IsWatched, IsWatching, IsWatchingAt, Releases, StaysIn}
use Rattle.qv_watch.specs.declared.watches.Pair.{Pair}
use Rattle.qv_watch.specs.declared.watches.Watch.{Watch}
use Rattle.qv_watch.specs.declared.watches.Watches.{Watches}
use Rattle.qv_watch.proofs.Covering.{kept_low, HasTrue-cut, IsCovered-cut, IsMinded-through}
use Rattle.qv_watch.proofs.Listed.{IsListed-stays}
use Rattle.qv_watch.proofs.Lists.{slice_get-append, slice_get-last, slice_get-push}
use Rattle.qv_watch.proofs.Placing.{slice_get-take}
use Rattle.qv_watch.proofs.Valuing.{cut_end}

-- there may be more lists and more memory
watching_stays : (clauses : List Stored) (es : List Entry) (queue : List ℕ) (head : ℕ) (pairs : List Pair) (lists lists' : List (List Watch)) → StaysIn lists lists' → IsWatchingAt clauses es queue head pairs lists → IsWatchingAt clauses es queue head pairs lists'
watching_stays clauses es queue head pairs lists lists' s w = record {
  each = λ k lits here. IsMinded-through queue head head es es pairs pairs k lits (IsListed lists k lits) (IsListed lists' k lits) (λ p h. h) (λ h. h) (λ l f. record { own = f.own; covered = f.covered; listed = IsListed-stays lists lists' k lits l s f.listed }) (w.each k lits here);
  within = w.within;
  late = w.late;
}

pub watching_grows : (clauses : List Stored) (es : List Entry) (old new : Watches) → Grows old new → (old.lost ≡ false → IsWatching clauses es old) → new.lost ≡ false → IsWatching clauses es new
watching_grows clauses es old new g w kept =
    rw (g.queue, g.head, g.pairs) (watching_stays clauses es old.queue.items old.head old.pairs.items (all_lists old.lists.items) (all_lists new.lists.items) g.lists (w (sym g.lost ∙ kept)))

stored_some : (o : Option Stored) (lits : List Literal) → lits_in o ≡ Some lits → (t : Stored) × (o ≡ Some t) × (t.lits ≡ Some lits)
stored_some None lits h = absurd (none-some lits h)
stored_some (Some t) lits h = (t, refl, h)

-- one more clause
pub watching_put : (clauses : List Stored) (es : List Entry) (old new : Watches) (place : ℕ) (s : Stored) → place ≡ length clauses → IsPutIn place old new → (old.lost ≡ false → IsWatching clauses es old) → new.lost ≡ false → IsWatching (clauses ++ s ∷ []) es new
watching_put clauses es old new place s at p w kept =
    let before = w (sym p.lost ∙ kept) in
    rw (p.queue, p.head, p.pairs.1, ap (λ v. all_lists v.items) p.lists) record {
      each = λ k lits here.
          let t = stored_some (slice_get (clauses ++ s ∷ []) k) lits here in
          elim (slice_get-push clauses s k t.0 t.1) [
            | inl old_one ↦ elim (before.each k lits (ap lits_in old_one ∙ t.2)) [
              | inl queued ↦ inl (queued.0, slice_get-append old.queue.items (place ∷ []) queued.0 k queued.1)
              | inr rest ↦ inr (elim rest [
                | inl settled ↦ inl settled
                | inr watched ↦ inr record { pair = watched.pair; at = slice_get-append old.pairs.items (p.pairs.0 ∷ []) k watched.pair watched.at; apart = watched.apart; first = watched.first; second = watched.second; third = watched.third; fourth = watched.fourth }
              ])
            ]
            | inr new_one ↦ inl (length old.queue.items, slice_get-last old.queue.items place ∙ ap Some (at ∙ sym new_one.0))
          ];
      within = before.within;
      late = before.late;
    }

-- a clause goes
left_over : (id : ℕ) (clauses : List Stored) (k : ℕ) (lits : List Literal) → lits_in (slice_get (let_go id clauses) k) ≡ Some lits → lits_in (slice_get clauses k) ≡ Some lits
left_over id [] k lits h = h
left_over id (x ∷ xs) zero lits h = elim (cases_Bool (eqb x.id id)) [
  | inl t ↦ absurd (none-some lits (rw t at h))
  | inr f ↦ rw f at h
]
left_over id (x ∷ xs) (suc k) lits h = left_over id xs k lits h

pub watching_let_go : (clauses : List Stored) (es : List Entry) (id : ℕ) (w : Watches) → IsWatching clauses es w → IsWatching (let_go id clauses) es w
watching_let_go clauses es id w h = record {
  each = λ k lits here. h.each k lits (left_over id clauses k lits here);
  within = h.within;
  late = h.late;
}

pub length-trues : (es : List Entry) → length (trues es) ≡ length es
length-trues [] = refl
length-trues (e ∷ es) = ap suc (length-trues es)

-- back to a level
pub watching_cut : (clauses : List Stored) (es : List Entry) (queue : List ℕ) (head : ℕ) (pairs : List Pair) (lists : List (List Watch)) (n m : ℕ) → IsStepped 0 es → up_to n es ≡ take m es → IsWatchingAt clauses es queue head pairs lists → IsWatchingAt clauses (up_to n es) queue (min head (length (up_to n es))) pairs lists
watching_cut clauses es queue head pairs lists n m stepped front w =
    let fewer : ℕ = min head (length (up_to n es)) in
    record {
      each = λ k lits here. IsMinded-through queue head fewer es (up_to n es) pairs pairs k lits (IsListed lists k lits) (IsListed lists k lits) (λ p h. h) (HasTrue-cut 0 n es lits (omega arith)) (λ l f. record { own = f.own; covered = IsCovered-cut head fewer n m es lits l (omega arith) front f.covered; listed = f.listed }) (w.each k lits here);
      within = omega arith;
      late = λ i e low here.
          let inside = slice_get_within (up_to n es) i e here in
          let old : slice_get es i ≡ Some e = slice_get-take es m i e (ap (λ (xs : List Entry). slice_get xs i) (sym front) ∙ here) in
          let level : e.level ≡ last_level es = w.late i e (omega arith) old in
          let most = kept_low n es i e here in
          let same : up_to n es ≡ es = cut_end n es stepped (omega arith) in
          level ∙ ap last_level (sym same);
    }

-- what is still quiet was quiet
pub quiet_before : (answer : Option Propagated) → without_conflict answer ≡ Some Quiet → answer ≡ Some Quiet
quiet_before None h = h
quiet_before (Some Quiet) h = refl
quiet_before (Some (Conflict id)) h = absurd (none-some Quiet h)

pub sound_watching : (clauses : List Stored) (es : List Entry) (w : Watches) (r : Propagated) → IsSound clauses es w r → IsWatching clauses es w
sound_watching clauses es w Quiet h = h.0
sound_watching clauses es w (Conflict id) h = h

pub sound_quiet : (clauses : List Stored) (es : List Entry) (w : Watches) (r : Propagated) → IsSound clauses es w r → Some r ≡ Some Quiet → w.head ≡ length es
sound_quiet clauses es w Quiet h e = h.1
sound_quiet clauses es w (Conflict id) h e = absurd (let f : Conflict id ≡ Quiet = same_Some (Conflict id) Quiet e in cc)

-- there may be more lists and more memory, in a trail
pub kept_grows : (clauses : List Stored) (values : Entered) (old new : Watches) (answer : Option Propagated) → Grows old new → IsKept clauses values old answer → IsKept clauses values new answer
kept_grows clauses values old new answer g k = record {
  trail = k.trail;
  watching = watching_grows clauses values.entries old new g k.watching;
  quiet = λ is kept. g.head ∙ k.quiet is (sym g.lost ∙ kept);
}

-- what stands with the watches gave way to them
released_watched : (head : ℕ) (es : List Entry) (pairs pairs' : List Pair) (k : ℕ) (lits : List Literal) (P : Literal → Type 0) → AreReleased pairs pairs' → IsWatched head es pairs k lits P → IsWatched head es pairs' k lits P
released_watched head es pairs pairs' k lits P r w = elim (r k w.pair w.at) [
  | inl same ↦ record { pair = w.pair; at = same; apart = w.apart; first = w.first; second = w.second; third = w.third; fourth = w.fourth }
  | inr gave ↦ record {
    pair = record { first = w.pair.first; second = w.pair.second; third = w.pair.first; fourth = w.pair.second };
    at = gave;
    apart = w.apart;
    first = w.first;
    second = w.second;
    third = w.first.own;
    fourth = w.second.own;
  }
]

pub watching_released : (clauses : List Stored) (es : List Entry) (old new : Watches) → Releases old new → (old.lost ≡ false → IsWatching clauses es old) → new.lost ≡ false → IsWatching clauses es new
watching_released clauses es old new r w kept =
    let before = w (sym r.lost ∙ kept) in
    rw (r.queue, r.head, ap (λ v. all_lists v.items) r.lists) record {
      each = λ k lits here. elim (before.each k lits here) [
        | inl queued ↦ inl queued
        | inr rest ↦ inr (elim rest [
          | inl settled ↦ inl settled
          | inr watched ↦ inr (released_watched old.head es old.pairs.items new.pairs.items k lits (IsListed (all_lists old.lists.items) k lits) r.pairs watched)
        ])
      ];
      within = before.within;
      late = before.late;
    }

-- a clause is to go, in a trail
pub kept_released : (clauses : List Stored) (values : Entered) (old new : Watches) (answer : Option Propagated) → Releases old new → IsKept clauses values old answer → IsKept clauses values new answer
kept_released clauses values old new answer r k = record {
  trail = k.trail;
  watching = watching_released clauses values.entries old new r k.watching;
  quiet = λ is kept. r.head ∙ k.quiet is (sym r.lost ∙ kept);
}

pub Releases-none : (w : Watches) → Releases w w
Releases-none w = record { lists = refl; pairs = λ k p h. inl h; queue = refl; head = refl; lost = refl }
