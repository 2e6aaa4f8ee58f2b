-- Who comes first in a tournament.
use Rattle.std.proofs.Common.{◌≡◌, ◌≢◌, ℕ, zero, suc, ◌+◌, ◌-◌, ◌*◌, ◌/◌, ◌<◌, ◌≤◌, ◌^◌, Bool, true, false, List, length, get_or, set, refl, sym, ◌∙◌, ap, subst, arith, inl, inr, ◌⊎◌}
use Rattle.std.proofs.lemmas.Bool.{cases_Bool, cases_eq, cases_lt, lt-ltb, le-ltb, ne_eqb, false≢true}
use Rattle.std.proofs.lemmas.List.{get_or-set_other, get_or-set_same, get_or_past}
use Rattle.qv_sat_order.specs.Ranking.{activity_of, is_held, IsFirst}
use Rattle.qv_sat_order.specs.Tournament.{ArePlayedBut, ArePlayedFrom, IsDrawn, IsTournament, StandsUpTo, entrant_at, first_of, leaf_at, rank_of, up}
use Rattle.qv_sat_order.proofs.Standing.{up_le}

-- the first of two is one of them, and neither comes before it
first_of-cases : (activity : List ℕ) (x y : ℕ) → (first_of activity x y ≡ x) ⊎ (first_of activity x y ≡ y)
first_of-cases activity x y = elim (cases_lt (rank_of activity x) (rank_of activity y)) [
  | inl less ↦ inr (rw (lt-ltb (rank_of activity x) (rank_of activity y) less) refl)
  | inr more ↦ inl (rw (le-ltb (rank_of activity x) (rank_of activity y) more) refl)
]

first_of-most : (activity : List ℕ) (x y : ℕ) → (rank_of activity x ≤ rank_of activity (first_of activity x y)) × (rank_of activity y ≤ rank_of activity (first_of activity x y))
first_of-most activity x y = elim (cases_lt (rank_of activity x) (rank_of activity y)) [
  | inl less ↦ let is : first_of activity x y ≡ y = rw (lt-ltb (rank_of activity x) (rank_of activity y) less) refl in let same = ap (rank_of activity) is in (omega arith, omega arith)
  | inr more ↦ let is : first_of activity x y ≡ x = rw (le-ltb (rank_of activity x) (rank_of activity y) more) refl in let same = ap (rank_of activity) is in (omega arith, omega arith)
]

-- variables of one rank are one
rank_once : (activity : List ℕ) (x y : ℕ) → x < 2 ^ 32 → y < 2 ^ 32 → rank_of activity x ≡ rank_of activity y → x ≡ y
rank_once activity x y low small same = elim (cases_eq x 0) [
  | inl none ↦
      let rx : rank_of activity x ≡ 0 = rw none refl in
      elim (cases_eq y 0) [
        | inl also ↦ none ∙ sym also
        | inr some ↦ let ry : rank_of activity y ≡ activity_of activity y * 2 ^ 32 + y = rw (ne_eqb y 0 some) refl in absurd (omega arith)
      ]
  | inr some ↦
      let rx : rank_of activity x ≡ activity_of activity x * 2 ^ 32 + x = rw (ne_eqb x 0 some) refl in
      elim (cases_eq y 0) [
        | inl none ↦ let ry : rank_of activity y ≡ 0 = rw none refl in absurd (omega arith)
        | inr also ↦ let ry : rank_of activity y ≡ activity_of activity y * 2 ^ 32 + y = rw (ne_eqb y 0 also) refl in omega arith
      ]
]

-- in either order
pub first_of-swap : (activity : List ℕ) (x y : ℕ) → x < 2 ^ 32 → y < 2 ^ 32 → first_of activity x y ≡ first_of activity y x
first_of-swap activity x y low small = elim (cases_lt (rank_of activity x) (rank_of activity y)) [
  | inl less ↦
      let one : first_of activity x y ≡ y = rw (lt-ltb (rank_of activity x) (rank_of activity y) less) refl in
      let two : first_of activity y x ≡ y = rw (le-ltb (rank_of activity y) (rank_of activity x) (omega arith)) refl in
      one ∙ sym two
  | inr more ↦ elim (cases_lt (rank_of activity y) (rank_of activity x)) [
    | inl less ↦
        let one : first_of activity x y ≡ x = rw (le-ltb (rank_of activity x) (rank_of activity y) more) refl in
        let two : first_of activity y x ≡ x = rw (lt-ltb (rank_of activity y) (rank_of activity x) less) refl in
        one ∙ sym two
    | inr also ↦
        let e : x ≡ y = rank_once activity x y low small (omega arith) in
        subst (λ z. first_of activity x z ≡ first_of activity z x) e refl
  ]
]

-- who came before one of two meets the first of them
pub overtake_right : (activity : List ℕ) (w v t : ℕ) → rank_of activity w < rank_of activity v → first_of activity t v ≡ first_of activity (first_of activity t w) v
overtake_right activity w v t less = elim (cases_lt (rank_of activity t) (rank_of activity v)) [
  | inl behind ↦
      let n = first_of activity t w in
      let low : rank_of activity n < rank_of activity v = elim (first_of-cases activity t w) [
        | inl e ↦ subst (λ y. rank_of activity y < rank_of activity v) (sym e) behind
        | inr e ↦ subst (λ y. rank_of activity y < rank_of activity v) (sym e) less
      ] in
      let one : first_of activity t v ≡ v = rw (lt-ltb (rank_of activity t) (rank_of activity v) behind) refl in
      let two : first_of activity n v ≡ v = rw (lt-ltb (rank_of activity n) (rank_of activity v) low) refl in
      one ∙ sym two
  | inr ahead ↦
      let is : first_of activity t w ≡ t = rw (le-ltb (rank_of activity t) (rank_of activity w) (omega arith)) refl in
      ap (λ y. first_of activity y v) (sym is)
]

pub overtake_left : (activity : List ℕ) (w v t : ℕ) → v < 2 ^ 32 → t < 2 ^ 32 → w < 2 ^ 32 → rank_of activity w < rank_of activity v → first_of activity v t ≡ first_of activity (first_of activity w t) v
overtake_left activity w v t low small few less =
    first_of-swap activity v t low small ∙ overtake_right activity w v t less ∙ ap (λ y. first_of activity y v) (first_of-swap activity t w small few)

-- at a leaf
leaf_held : (held : List Bool) (k : ℕ) → (leaf_at held k ≡ 0) ⊎ ((leaf_at held k ≡ k + 1) × (get_or held k false ≡ true))
leaf_held held k = elim (cases_Bool (get_or held k false)) [
  | inl on ↦ inr (rw on refl, on)
  | inr off ↦ inl (rw off refl)
]

-- who stands at a place is held
abbrev IsOne : List Bool → ℕ → Type 0
IsOne held x = (x ≡ 0) ⊎ ((1 ≤ x) × (is_held held x ≡ true))

leaf_one : (held : List Bool) (k : ℕ) → IsOne held (leaf_at held k)
leaf_one held k = elim (leaf_held held k) [
  | inl none ↦ inl none
  | inr some ↦ inr (omega (arith, some.0), let at : leaf_at held k - 1 ≡ k = omega (arith, some.0) in ap (λ n. get_or held n false) at ∙ some.1)
]

pub entrant_le : (nodes : List ℕ) (held : List Bool) (activity : List ℕ) → IsDrawn nodes held activity → (i : ℕ) → entrant_at nodes held i ≤ length held
entrant_le nodes held activity d i = elim (cases_lt i (length nodes)) [
  | inl inside ↦
      let is : entrant_at nodes held i ≡ get_or nodes i 0 = rw (lt-ltb i (length nodes) inside) refl in
      let w = d.within i in
      omega arith
  | inr behind ↦
      let is : entrant_at nodes held i ≡ leaf_at held (i - length nodes) = rw (le-ltb i (length nodes) behind) refl in
      elim (leaf_held held (i - length nodes)) [
        | inl none ↦ omega arith
        | inr some ↦
            let own = some.0 in
            let low : i - length nodes < length held = elim (cases_lt (i - length nodes) (length held)) [
              | inl under ↦ under
              | inr past ↦ absurd (false≢true (sym (get_or_past held (i - length nodes) false past) ∙ some.1))
            ] in
            omega arith
      ]
]

module _ (nodes : List ℕ) (held : List Bool) (activity : List ℕ) (t : IsTournament nodes held activity) where
  inner : (i : ℕ) → i < length nodes → entrant_at nodes held i ≡ get_or nodes i 0
  inner i inside = rw (lt-ltb i (length nodes) inside) refl

  outer : (i : ℕ) → length nodes ≤ i → entrant_at nodes held i ≡ leaf_at held (i - length nodes)
  outer i behind = rw (le-ltb i (length nodes) behind) refl

  won : (i : ℕ) → 1 ≤ i → i < length nodes → entrant_at nodes held i ≡ first_of activity (entrant_at nodes held (2 * i)) (entrant_at nodes held (2 * i + 1))
  won i from inside = inner i inside ∙ t.played i (omega arith) from inside

  one_by : (n i : ℕ) → 1 ≤ i → length nodes ≤ i + n → IsOne held (entrant_at nodes held i)
  one_by zero i from fuel = subst (IsOne held) (sym (outer i (omega arith))) (leaf_one held (i - length nodes))
  one_by (suc n) i from fuel = elim (cases_lt i (length nodes)) [
    | inl inside ↦ elim (first_of-cases activity (entrant_at nodes held (2 * i)) (entrant_at nodes held (2 * i + 1))) [
      | inl left ↦ subst (IsOne held) (sym (won i from inside ∙ left)) (one_by n (2 * i) (omega arith) (omega arith))
      | inr right ↦ subst (IsOne held) (sym (won i from inside ∙ right)) (one_by n (2 * i + 1) (omega arith) (omega arith))
    ]
    | inr behind ↦ subst (IsOne held) (sym (outer i behind)) (leaf_one held (i - length nodes))
  ]

  pub one_at : (i : ℕ) → 1 ≤ i → IsOne held (entrant_at nodes held i)
  one_at i from = one_by (length nodes) i from (omega arith)

  -- nobody comes before the winner
  most_by : (n i : ℕ) → 1 ≤ i → i ≤ n → i < 2 * length nodes → rank_of activity (entrant_at nodes held i) ≤ rank_of activity (entrant_at nodes held 1)
  most_by zero i from fuel within = absurd (omega arith)
  most_by (suc n) i from fuel within = elim (cases_eq i 1) [
    | inl own ↦ let same = ap (λ k. rank_of activity (entrant_at nodes held k)) own in omega arith
    | inr above ↦
        let p = i / 2 in
        let top = most_by n p (omega arith) (omega arith) (omega arith) in
        let w = ap (rank_of activity) (won p (omega arith) (omega arith)) in
        let m = first_of-most activity (entrant_at nodes held (2 * p)) (entrant_at nodes held (2 * p + 1)) in
        elim (cases_eq i (2 * p)) [
          | inl even ↦ let same = ap (λ k. rank_of activity (entrant_at nodes held k)) even in let m0 = m.0 in omega arith
          | inr odd ↦ let is : i ≡ 2 * p + 1 = omega arith in let same = ap (λ k. rank_of activity (entrant_at nodes held k)) is in let m1 = m.1 in omega arith
        ]
  ]

  -- where a variable that is held stands
  at_leaf : (w : ℕ) → 1 ≤ w → is_held held w ≡ true → (w ≤ length held) × (entrant_at nodes held (length nodes + (w - 1)) ≡ w)
  at_leaf w from on =
      let within : w ≤ length held = elim (cases_lt (w - 1) (length held)) [
        | inl inside ↦ omega arith
        | inr past ↦ absurd (false≢true (sym (get_or_past held (w - 1) false past) ∙ on))
      ] in
      let place : length nodes + (w - 1) - length nodes ≡ w - 1 = omega arith in
      let leaf : leaf_at held (w - 1) ≡ w - 1 + 1 = rw on refl in
      let own : w - 1 + 1 ≡ w = omega arith in
      (within, outer (length nodes + (w - 1)) (omega arith) ∙ ap (leaf_at held) place ∙ leaf ∙ own)

  most_of : (w : ℕ) → 1 ≤ w → is_held held w ≡ true → rank_of activity w ≤ rank_of activity (entrant_at nodes held 1)
  most_of w from on =
      let leaf = at_leaf w from on in
      let wide = t.drawn.wide in
      let low = leaf.0 in
      let m = most_by (length nodes + (w - 1)) (length nodes + (w - 1)) (omega arith) (omega arith) (omega arith) in
      let same = ap (rank_of activity) leaf.1 in
      omega arith

  rank_some : (w : ℕ) → 1 ≤ w → rank_of activity w ≡ activity_of activity w * 2 ^ 32 + w
  rank_some w from = rw (ne_eqb w 0 (omega arith)) refl

  pub none_held : entrant_at nodes held 1 ≡ 0 → (v : ℕ) → 1 ≤ v → is_held held v ≡ false
  none_held none v from = elim (cases_Bool (is_held held v)) [
    | inl on ↦
        let m = most_of v from on in
        let top : rank_of activity (entrant_at nodes held 1) ≡ 0 = ap (rank_of activity) none in
        let own = rank_some v from in
        let low = (at_leaf v from on).0 in
        let few = t.drawn.few in
        absurd (omega arith)
    | inr off ↦ off
  ]

  pub winner_first : (x : ℕ) → x ≡ entrant_at nodes held 1 → x ≢ 0 → (increment : ℕ) → IsFirst record { held = held; activity = activity; increment = increment } x
  winner_first x is some increment = elim (one_at 1 (omega arith)) [
    | inl none ↦ absurd (some (is ∙ none))
    | inr one ↦
        let from : 1 ≤ x = omega (arith, one.0) in
        let on : is_held held x ≡ true = ap (is_held held) is ∙ one.1 in
        let low = (at_leaf x from on).0 in
        record {
          from = from;
          to = low;
          held = on;
          first = λ w above other_on other.
              let m = most_of w above other_on in
              let same = ap (rank_of activity) is in
              let own = rank_some x from in
              let rank = rank_some w above in
              let few = t.drawn.few in
              let bound = (at_leaf w above other_on).0 in
              elim (cases_lt (activity_of activity w) (activity_of activity x)) [
                | inl less ↦ inl less
                | inr more ↦ inr (omega arith, omega arith)
              ];
        }
  ]

  -- the activity of a variable that isn't held
  rank-set : (v x y : ℕ) → 1 ≤ v → y ≢ v → rank_of (set activity (v - 1) x) y ≡ rank_of activity y
  rank-set v x y from other = elim (cases_eq y 0) [
    | inl none ↦ rw none refl
    | inr some ↦ rw (get_or-set_other activity (v - 1) (y - 1) x 0 (λ same. other (omega arith))) refl
  ]

  apart : (v i : ℕ) → 1 ≤ v → is_held held v ≡ false → 1 ≤ i → entrant_at nodes held i ≢ v
  apart v i from off place same = elim (one_at i place) [
    | inl none ↦ omega arith
    | inr one ↦ false≢true (sym off ∙ sym (ap (is_held held) same) ∙ one.1)
  ]

  pub played_raise : (v x : ℕ) → 1 ≤ v → is_held held v ≡ false → ArePlayedFrom nodes held (set activity (v - 1) x) 0
  played_raise v x from off j least low high =
      rw (rank-set v x (entrant_at nodes held (2 * j)) from (apart v (2 * j) from off (omega arith)), rank-set v x (entrant_at nodes held (2 * j + 1)) from (apart v (2 * j + 1) from off (omega arith))) (t.played j least low high)

  -- where a variable stands that is more active now
  module _ (v x : ℕ) (from : 1 ≤ v) (low : v ≤ length held) (more : activity_of activity v ≤ x) where
    abbrev raised : List ℕ
    raised = set activity (v - 1) x

    abbrev leaf : ℕ
    leaf = length nodes + (v - 1)

    rank-other : (y : ℕ) → y ≢ v → rank_of raised y ≡ rank_of activity y
    rank-other y other = rank-set v x y from other

    rank-own : rank_of activity v ≤ rank_of raised v
    rank-own =
        let wide = t.drawn.same in
        let is : activity_of raised v ≡ x = get_or-set_same activity (v - 1) x 0 (omega arith) in
        let old = rank_some v from in
        let new : rank_of raised v ≡ activity_of raised v * 2 ^ 32 + v = rw (ne_eqb v 0 (omega arith)) refl in
        omega arith

    -- it still wins where it did
    wins_left : (y : ℕ) → first_of activity v y ≡ v → first_of raised v y ≡ v
    wins_left y won_there = elim (cases_eq y v) [
      | inl same ↦ elim (first_of-cases raised v y) [ inl own ↦ own | inr other ↦ other ∙ same ]
      | inr other ↦ elim (cases_lt (rank_of activity v) (rank_of activity y)) [
        | inl less ↦ absurd (other (let is : first_of activity v y ≡ y = rw (lt-ltb (rank_of activity v) (rank_of activity y) less) refl in sym is ∙ won_there))
        | inr great ↦ rw (le-ltb (rank_of raised v) (rank_of raised y) (let o = rank-other y other in let r = rank-own in omega arith)) refl
      ]
    ]

    wins_right : (y : ℕ) → first_of activity y v ≡ v → first_of raised y v ≡ v
    wins_right y won_there = elim (cases_eq y v) [
      | inl same ↦ elim (first_of-cases raised y v) [ inl other ↦ other ∙ same | inr own ↦ own ]
      | inr other ↦ elim (cases_lt (rank_of activity y) (rank_of activity v)) [
        | inl less ↦ rw (lt-ltb (rank_of raised y) (rank_of raised v) (let o = rank-other y other in let r = rank-own in omega arith)) refl
        | inr great ↦ absurd (other (let is : first_of activity y v ≡ y = rw (le-ltb (rank_of activity y) (rank_of activity v) great) refl in sym is ∙ won_there))
      ]
    ]

    -- it stands above its leaf alone
    above_outer : (i : ℕ) → length nodes ≤ i → entrant_at nodes held i ≡ v → leaf ≡ i
    above_outer i behind is = elim (leaf_held held (i - length nodes)) [
      | inl none ↦ absurd (let zero_is : v ≡ 0 = sym is ∙ outer i behind ∙ none in omega arith)
      | inr some ↦ let own : v ≡ i - length nodes + 1 = sym is ∙ outer i behind ∙ some.0 in omega arith
    ]

    above_by : (n i : ℕ) → 1 ≤ i → length nodes ≤ i + n → entrant_at nodes held i ≡ v → (k : ℕ) × (up k leaf ≡ i)
    above_by zero i place fuel is = (0, above_outer i (omega arith) is)
    above_by (suc n) i place fuel is = elim (cases_lt i (length nodes)) [
      | inl inside ↦ elim (first_of-cases activity (entrant_at nodes held (2 * i)) (entrant_at nodes held (2 * i + 1))) [
        | inl left ↦ let below = above_by n (2 * i) (omega arith) (omega arith) (sym left ∙ sym (won i place inside) ∙ is) in let same = below.1 in (suc below.0, (let half : up below.0 leaf / 2 ≡ i = omega arith in half))
        | inr right ↦ let below = above_by n (2 * i + 1) (omega arith) (omega arith) (sym right ∙ sym (won i place inside) ∙ is) in let same = below.1 in (suc below.0, (let half : up below.0 leaf / 2 ≡ i = omega arith in half))
      ]
      | inr behind ↦ (0, above_outer i behind is)
    ]

    above : (i : ℕ) → 1 ≤ i → entrant_at nodes held i ≡ v → (k : ℕ) × (up k leaf ≡ i)
    above i place is = above_by (length nodes) i place (omega arith) is

    -- the place below on the way
    child : (b c : ℕ) → 1 ≤ c / 2 → up b leaf / 2 ≡ c / 2 → entrant_at nodes held c ≡ v → entrant_at nodes held (up b leaf) ≡ v
    child b c place same is =
        let there = above c (omega arith) is in
        let at = there.1 in
        elim (cases_eq there.0 b) [
          | inl own ↦ let e : up b leaf ≡ c = ap (λ n. up n leaf) (sym own) ∙ at in ap (entrant_at nodes held) e ∙ is
          | inr other ↦ elim (cases_lt there.0 b) [
            | inl less ↦ let le : up b leaf ≤ up there.0 leaf / 2 = up_le b (suc there.0) leaf (omega arith) in absurd (omega arith)
            | inr great ↦ let le : up there.0 leaf ≤ up b leaf / 2 = up_le there.0 (suc b) leaf (omega arith) in absurd (omega arith)
          ]
        ]

    -- and so it stands at each place between
    between : (b a : ℕ) → a ≤ b → 1 ≤ up b leaf → entrant_at nodes held (up b leaf) ≡ v → entrant_at nodes held (up a leaf) ≡ v
    between zero a below place is = let e : a ≡ zero = omega arith in rw e is
    between (suc b) a below place is = elim (cases_eq a (suc b)) [
      | inl same ↦ rw same is
      | inr other ↦
          let i = up b leaf / 2 in
          let half : i ≤ leaf / 2 = up_le (suc b) 1 leaf (omega arith) in
          let wide = t.drawn.wide in
          let inside : i < length nodes = omega arith in
          let first = won i place inside in
          between b a (omega arith) (omega arith) (elim (first_of-cases activity (entrant_at nodes held (2 * i)) (entrant_at nodes held (2 * i + 1))) [
            | inl left ↦ child b (2 * i) (omega arith) (omega arith) (sym left ∙ sym first ∙ is)
            | inr right ↦ child b (2 * i + 1) (omega arith) (omega arith) (sym right ∙ sym first ∙ is)
          ])
    ]

    -- but for the place above the last one it has what it had
    keeps : (top i : ℕ) → StandsUpTo nodes leaf v top → 1 ≤ i / 2 → i / 2 ≢ top / 2 → entrant_at nodes held i ≡ v → get_or nodes (i / 2) 0 ≡ v
    keeps top i s place other is =
        let there = above i (omega arith) is in
        let at = there.1 in
        let end = s.stands.is in
        elim (cases_lt there.0 s.stands.steps) [
          | inl less ↦ ap (λ n. get_or nodes (n / 2) 0) (sym at) ∙ s.stands.each (suc there.0) (omega arith) (omega arith)
          | inr behind ↦ elim (cases_eq there.0 s.stands.steps) [
            | inl same ↦ absurd (other (let e : i ≡ top = sym at ∙ ap (λ n. up n leaf) same ∙ end in ap (λ n. n / 2) e))
            | inr past ↦
                let le : up there.0 leaf ≤ up s.stands.steps leaf / 2 = up_le there.0 (suc s.stands.steps) leaf (omega arith) in
                elim s.ends [
                  | inl small ↦ absurd (omega arith)
                  | inr apart ↦
                      let least : up s.stands.steps leaf ≤ leaf = up_le s.stands.steps 0 leaf (omega arith) in
                      let wide = t.drawn.wide in
                      let on : entrant_at nodes held (up s.stands.steps leaf / 2) ≡ v = between there.0 (suc s.stands.steps) (omega arith) (omega arith) (ap (entrant_at nodes held) at ∙ is) in
                      let inside : top / 2 < length nodes = omega arith in
                      absurd (apart (sym (inner (top / 2) inside) ∙ ap (λ n. entrant_at nodes held (n / 2)) (sym end) ∙ on))
                ]
          ]
        ]

    pub played_bump : (top : ℕ) → StandsUpTo nodes leaf v top → ArePlayedBut nodes held raised (top / 2)
    played_bump top s j least high other =
        let l = entrant_at nodes held (2 * j) in
        let r = entrant_at nodes held (2 * j + 1) in
        let old : get_or nodes j 0 ≡ first_of activity l r = t.played j (omega arith) least high in
        let left_half : 2 * j / 2 ≡ j = omega arith in
        let right_half : (2 * j + 1) / 2 ≡ j = omega arith in
        elim (cases_eq l v) [
          | inl own ↦
              let on : get_or nodes j 0 ≡ v = ap (λ n. get_or nodes n 0) (sym left_half) ∙ keeps top (2 * j) s (omega arith) (λ e. other (sym left_half ∙ e)) own in
              let still : first_of raised v r ≡ v = wins_left r (ap (λ y. first_of activity y r) (sym own) ∙ sym old ∙ on) in
              on ∙ sym still ∙ ap (λ y. first_of raised y r) (sym own)
          | inr left ↦ elim (cases_eq r v) [
            | inl own ↦
                let on : get_or nodes j 0 ≡ v = ap (λ n. get_or nodes n 0) (sym right_half) ∙ keeps top (2 * j + 1) s (omega arith) (λ e. other (sym right_half ∙ e)) own in
                let still : first_of raised l v ≡ v = wins_right l (ap (λ y. first_of activity l y) (sym own) ∙ sym old ∙ on) in
                on ∙ sym still ∙ ap (λ y. first_of raised l y) (sym own)
            | inr right ↦ old ∙ same_first l r left right
          ]
        ]
      where
        same_first : (l r : ℕ) → l ≢ v → r ≢ v → first_of activity l r ≡ first_of raised l r
        same_first l r left right = rw (rank-other l left, rank-other r right) refl

    -- at its highest place
    standing : (top : ℕ) → StandsUpTo nodes leaf v top → is_held held v ≡ true → entrant_at nodes held top ≡ v
    standing top s on = elim (cases_eq s.stands.steps 0) [
      | inl none ↦
          let at : leaf ≡ top = ap (λ n. up n leaf) (sym none) ∙ s.stands.is in
          ap (entrant_at nodes held) (sym at) ∙ (at_leaf v from on).1
      | inr some ↦
          let own : get_or nodes (up s.stands.steps leaf) 0 ≡ v = s.stands.each s.stands.steps (omega arith) (omega arith) in
          let half : up s.stands.steps leaf ≤ leaf / 2 = up_le s.stands.steps 1 leaf (omega arith) in
          let wide = t.drawn.wide in
          let same = s.stands.is in
          let inside : top < length nodes = omega arith in
          inner top inside ∙ ap (λ n. get_or nodes n 0) (sym same) ∙ own
    ]

    -- above that it meets who stands there
    pub meets_bump : (top : ℕ) → StandsUpTo nodes leaf v top → is_held held v ≡ true → 1 < top → first_of raised (entrant_at nodes held (2 * (top / 2))) (entrant_at nodes held (2 * (top / 2) + 1)) ≡ first_of raised (get_or nodes (top / 2) 0) v
    meets_bump top s on high =
        let q = top / 2 in
        let l = entrant_at nodes held (2 * q) in
        let r = entrant_at nodes held (2 * q + 1) in
        let stands : entrant_at nodes held top ≡ v = standing top s on in
        let least : up s.stands.steps leaf ≤ leaf = up_le s.stands.steps 0 leaf (omega arith) in
        let same = s.stands.is in
        let wide = t.drawn.wide in
        let few = t.drawn.few in
        let inside : q < length nodes = omega arith in
        let old : get_or nodes q 0 ≡ first_of activity l r = t.played q (omega arith) (omega arith) inside in
        let other : get_or nodes q 0 ≢ v = elim s.ends [ inl small ↦ absurd (omega arith) | inr far ↦ far ] in
        elim (cases_eq top (2 * q)) [
          | inl even ↦
              let own : l ≡ v = ap (entrant_at nodes held) (sym even) ∙ stands in
              let won_by : get_or nodes q 0 ≡ r = elim (first_of-cases activity l r) [ inl left ↦ absurd (other (old ∙ left ∙ own)) | inr right ↦ old ∙ right ] in
              let bound = entrant_le nodes held activity t.drawn (2 * q + 1) in
              ap (λ y. first_of raised y r) own ∙ first_of-swap raised v r (omega arith) (omega arith) ∙ ap (λ y. first_of raised y v) (sym won_by)
          | inr odd ↦
              let at : top ≡ 2 * q + 1 = omega arith in
              let own : r ≡ v = ap (entrant_at nodes held) (sym at) ∙ stands in
              let won_by : get_or nodes q 0 ≡ l = elim (first_of-cases activity l r) [ inl left ↦ old ∙ left | inr right ↦ absurd (other (old ∙ right ∙ own)) ] in
              ap (λ y. first_of raised l y) own ∙ ap (λ y. first_of raised y v) (sym won_by)
        ]
