-- How a variable goes up that became more active.
use Rattle.std.proofs.Common.{◌≡◌, ℕ, ◌+◌, ◌*◌, ◌/◌, ◌<◌, ◌≤◌, false, true, Bool, List, length, get_or, set, refl, sym, ◌∙◌, ap, arith, inl, inr}
use Rattle.std.proofs.lemmas.Bool.{cases_eq, lt-ltb, ltb-true}
use Rattle.std.proofs.lemmas.List.{get_or-set_other, get_or-set_same, length-set}
use Rattle.std.specs.Prelude.{nat_lt}
use Rattle.qv_sat_order.specs.Tournament.{ArePlayedFrom, IsDrawn, IsRaising, entrant_at, first_of, rank_of}
use Rattle.qv_sat_order.proofs.Firsts.{entrant_le, overtake_left, overtake_right}
use Rattle.qv_sat_order.proofs.Playing.{entrant-set, mend_next, mend_stops}

module _ (nodes : List ℕ) (held : List Bool) (activity : List ℕ) (v place : ℕ) (d : IsDrawn nodes held activity) (h : IsRaising nodes held activity v place) (from : 1 < place) (to : place < 2 * length nodes) where
  abbrev q : ℕ
  q = place / 2

  -- it stays below who comes before it
  pub raise_stops : nat_lt (rank_of activity (get_or nodes q 0)) (rank_of activity v) ≡ false → ArePlayedFrom nodes held activity 0
  raise_stops ahead =
      let keeps : first_of activity (get_or nodes q 0) v ≡ get_or nodes q 0 = rw ahead refl in
      mend_stops nodes held activity q (get_or nodes q 0) (sym (h.meets from ∙ keeps)) refl h.played

  -- and goes up else
  module _ (low : v ≤ length held) (behind : nat_lt (rank_of activity (get_or nodes q 0)) (rank_of activity v) ≡ true) where
    less : rank_of activity (get_or nodes q 0) < rank_of activity v
    less = ltb-true (rank_of activity (get_or nodes q 0)) (rank_of activity v) behind

    wins : first_of activity (get_or nodes q 0) v ≡ v
    wins = rw behind refl

    meets_next : 1 < q → first_of activity (entrant_at (set nodes q v) held (2 * (q / 2))) (entrant_at (set nodes q v) held (2 * (q / 2) + 1)) ≡ first_of activity (get_or (set nodes q v) (q / 2) 0) v
    meets_next high =
        let r = q / 2 in
        let w = get_or nodes q 0 in
        let wide = d.wide in
        let few = d.few in
        let inside : q < length nodes = omega arith in
        let old : get_or nodes r 0 ≡ first_of activity (entrant_at nodes held (2 * r)) (entrant_at nodes held (2 * r + 1)) = h.played r (omega arith) (omega arith) (omega arith) in
        let there : get_or (set nodes q v) r 0 ≡ get_or nodes r 0 = get_or-set_other nodes q r v 0 (omega arith) in
        let long = length-set nodes q v in
        let was : entrant_at nodes held q ≡ w = rw (lt-ltb q (length nodes) inside) refl in
        let now : entrant_at (set nodes q v) held q ≡ v = rw (length-set nodes q v, lt-ltb q (length nodes) inside) (get_or-set_same nodes q v 0 inside) in
        let bound = d.within q in
        elim (cases_eq q (2 * r)) [
          | inl even ↦
              let t = entrant_at nodes held (2 * r + 1) in
              let small = entrant_le nodes held activity d (2 * r + 1) in
              let left : entrant_at (set nodes q v) held (2 * r) ≡ v = ap (entrant_at (set nodes q v) held) (sym even) ∙ now in
              let right : entrant_at (set nodes q v) held (2 * r + 1) ≡ t = entrant-set nodes held q v (2 * r + 1) (omega arith) in
              let before : get_or nodes r 0 ≡ first_of activity w t = old ∙ ap (λ y. first_of activity y t) (ap (entrant_at nodes held) (sym even) ∙ was) in
              ap (λ y. first_of activity y (entrant_at (set nodes q v) held (2 * r + 1))) left
              ∙ ap (λ y. first_of activity v y) right
              ∙ overtake_left activity w v t (omega arith) (omega arith) (omega arith) less
              ∙ ap (λ y. first_of activity y v) (sym (there ∙ before))
          | inr other ↦
              let odd : q ≡ 2 * r + 1 = omega arith in
              let t = entrant_at nodes held (2 * r) in
              let right : entrant_at (set nodes q v) held (2 * r + 1) ≡ v = ap (entrant_at (set nodes q v) held) (sym odd) ∙ now in
              let left : entrant_at (set nodes q v) held (2 * r) ≡ t = entrant-set nodes held q v (2 * r) (omega arith) in
              let before : get_or nodes r 0 ≡ first_of activity t w = old ∙ ap (λ y. first_of activity t y) (ap (entrant_at nodes held) (sym odd) ∙ was) in
              ap (λ y. first_of activity y (entrant_at (set nodes q v) held (2 * r + 1))) left
              ∙ ap (λ y. first_of activity t y) right
              ∙ overtake_right activity w v t less
              ∙ ap (λ y. first_of activity y v) (sym (there ∙ before))
        ]

    pub raise_next : IsRaising (set nodes q v) held activity v q
    raise_next = record {
      played = mend_next nodes held activity q v (omega arith) (omega arith) (sym (h.meets from ∙ wins)) h.played;
      meets = meets_next;
    }
