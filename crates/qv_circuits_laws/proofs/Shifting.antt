-- What the routine of shifts computes.
use Rattle.std.proofs.Common.{◌≡◌, ℕ, zero, suc, ◌+◌, ◌*◌, ◌^◌, ◌≤◌, ◌<◌, ◌&&◌, ◌||◌, Bool, true, false, not, cond, nat_le, nat_lt, List, [], ◌∷◌, length, take, drop, replicate, inl, inr, refl, sym, ap, ◌∙◌, subst, arith}
use Rattle.std.proofs.lemmas.Bool.{cases_lt, lt-ltb, leb-true, cond-true, cond-false, le-ltb}
use Rattle.std.proofs.lemmas.List.{length-replicate}
use Rattle.qv_words.specs.Op.{truth}
use Rattle.qv_words.specs.Gate.{Lit, ◌>>=◌, AndGate, neg, no, lit_value, or}
use Rattle.qv_words.specs.Routine.{sel, or_all, disjunction_of, moved, stages, least_log, stage_count}
use Rattle.qv_circuits_laws.specs.CircuitLaws.{number_of}
use Rattle.qv_circuits_laws.proofs.Gates.{neg-value}
use Rattle.qv_circuits_laws.proofs.Evaluations.{Computes, done-computes, then-computes, gate-computes, weaker, together}
use Rattle.qv_circuits_laws.proofs.Choosing.{sel-computes, sel-length}
use Rattle.qv_circuits_laws.proofs.Places.{number-split}
use Rattle.qv_words.proofs.InverseRows.{below_pow}

-- a disjunction is whether some bit is set
or-table : (a b : Bool) → not (not a && not b) ≡ (a || b)
or-table true true = refl
or-table true false = refl
or-table false true = refl
or-table false false = refl

pub or-computes : {v : ℕ → Bool} {n : ℕ} (a b : Lit) → Computes v n (or a b) (λ r. lit_value v r ≡ (lit_value v a || lit_value v b))
or-computes {v} {n} a b =
    then-computes (gate-computes (AndGate (neg a) (neg b))) (λ i g hg.
    done-computes (neg g) (neg-value v g ∙ ap not (hg ∙ ap (λ x. x && lit_value v (neg b)) (neg-value v a) ∙ ap (λ x. not (lit_value v a) && x) (neg-value v b))
    ∙ or-table (lit_value v a) (lit_value v b)))

some-bit : (b : Bool) (n : ℕ) → (b || nat_lt 0 n) ≡ nat_lt 0 (truth b + 2 * n)
some-bit true n = sym (lt-ltb 0 (1 + 2 * n) (omega arith))
some-bit false zero = refl
some-bit false (suc n) = lt-ltb 0 (suc n) (omega arith) ∙ sym (lt-ltb 0 (0 + 2 * suc n) (omega arith))

or-nothing : (b : Bool) → b ≡ (b || nat_lt 0 0)
or-nothing true = refl
or-nothing false = refl

or-assoc : (a b c : Bool) → ((a || b) || c) ≡ (a || (b || c))
or-assoc true b c = refl
or-assoc false b c = refl

or_all-computes : {v : ℕ → Bool} {n : ℕ} (r : Lit) (a : List Lit) → Computes v n (or_all r a) (λ h. lit_value v h ≡ (lit_value v r || nat_lt 0 (number_of v a)))
unfolding or_all
or_all-computes {v} {n} r [] = done-computes r (or-nothing (lit_value v r))
or_all-computes {v} {n} r (l ∷ ls) =
    then-computes (or-computes r l) (λ i g hg.
    weaker (or_all-computes g ls) (λ h hh.
    hh ∙ ap (λ b. b || nat_lt 0 (number_of v ls)) hg ∙ or-assoc (lit_value v r) (lit_value v l) (nat_lt 0 (number_of v ls))
    ∙ ap (λ b. lit_value v r || b) (some-bit (lit_value v l) (number_of v ls))))

pub disjunction-computes : {v : ℕ → Bool} {n : ℕ} (a : List Lit) → v 1 ≡ true → Computes v n (disjunction_of a) (λ h. lit_value v h ≡ nat_lt 0 (number_of v a))
disjunction-computes {v} {n} [] one = done-computes no (ap not one)
disjunction-computes {v} {n} (l ∷ ls) one = weaker (or_all-computes l ls) (λ h hh. hh ∙ some-bit (lit_value v l) (number_of v ls))

-- the stages cover the width
least-covers : (n k w : ℕ) → w ≤ 2 ^ (k + n) → w ≤ 2 ^ least_log n k w
least-covers zero k w h = subst (λ (i : ℕ). w ≤ 2 ^ i) (let same : k + 0 ≡ k = omega arith in same) h
least-covers (suc n) k w h =
    go (nat_le w (2 ^ k)) refl (least-covers n (suc k) w (subst (λ (i : ℕ). w ≤ 2 ^ i) (let same : k + suc n ≡ suc k + n = omega arith in same) h))
  where
    go : (b : Bool) → nat_le w (2 ^ k) ≡ b → w ≤ 2 ^ least_log n (suc k) w → w ≤ 2 ^ cond b k (least_log n (suc k) w)
    go true e later = leb-true w (2 ^ k) e
    go false e later = later

count-covers : (w : ℕ) → w ≤ 2 ^ stage_count w
count-covers w = least-covers w 0 w (let low : w ≤ 2 ^ (0 + w) = subst (λ (i : ℕ). w ≤ 2 ^ i) (let same : w ≡ 0 + w = omega arith in same) (let less = below_pow w in omega (arith, less)) in low)

-- a number of w bits that is moved by n places becomes move n of it
pub record Moves (v : ℕ → Bool) (left : Bool) (fill : Lit) (w : ℕ) (move : ℕ → ℕ → ℕ) : Type 0 where
  pub size : (n : ℕ) (bits : List Lit) → length bits ≡ w → length (moved left n fill bits) ≡ w
  pub number : (n : ℕ) (bits : List Lit) → length bits ≡ w → number_of v (moved left n fill bits) ≡ move n (number_of v bits)
  pub none : (bits : List Lit) → length bits ≡ w → move 0 (number_of v bits) ≡ number_of v bits
  pub twice : (m n a : ℕ) → move m (move n a) ≡ move (n + m) a
  pub past : (n : ℕ) (bits : List Lit) → length bits ≡ w → w ≤ n → move n (number_of v bits) ≡ number_of v (replicate w fill)

abbrev Moved : (ℕ → Bool) → ℕ → ℕ → List Lit → Type 0
Moved v w n r = (length r ≡ w) × (number_of v r ≡ n)

-- the stages move by the number of their amount
stages-computes : {v : ℕ → Bool} {n : ℕ} (left : Bool) (fill : Lit) (w : ℕ) (move : ℕ → ℕ → ℕ) → Moves v left fill w move → (k : ℕ) (amount bits : List Lit) → length bits ≡ w → Computes v n (stages left fill k amount bits) (Moved v w (move (k * number_of v amount) (number_of v bits)))
unfolding stages
stages-computes {v} {n} left fill w move m k [] bits h =
    let nothing : k * 0 ≡ 0 = omega arith in
    done-computes bits (h, sym (ap (λ i. move i (number_of v bits)) nothing ∙ m.none bits h))
stages-computes {v} {n} left fill w move m k (b ∷ bs) bits h =
    let other = moved left k fill bits in
    let same : length other ≡ length bits = m.size k bits h ∙ sym h in
    then-computes (together (sel-length b other bits same) (sel-computes b other bits same)) (λ i next hn.
    weaker (stages-computes left fill w move m (k + k) bs next (hn.0 ∙ m.size k bits h)) (λ r hr.
    (hr.0, hr.1 ∙ ap (move ((k + k) * number_of v bs)) (hn.1 ∙ ap (λ x. cond (lit_value v b) x (number_of v bits)) (m.number k bits h)) ∙ stage (lit_value v b) (number_of v bs) (number_of v bits))))
  where
    stage : (t : Bool) (c a : ℕ) → move ((k + k) * c) (cond t (move k a) a) ≡ move (k * (truth t + 2 * c)) a
    stage true c a = m.twice ((k + k) * c) k a ∙ ap (λ i. move i a) (let whole : k + (k + k) * c ≡ k * (1 + 2 * c) = omega arith in whole)
    stage false c a = ap (λ i. move i a) (let whole : (k + k) * c ≡ k * (0 + 2 * c) = omega arith in whole)

-- an amount with a bit above the stages is past the width
past-width : (w p t d : ℕ) → w ≤ p → 0 < d → w ≤ t + p * d
past-width w p t zero h some = absurd (omega arith)
past-width w p t (suc d) h some = omega (arith, h)

-- the stages, and the fill where the amount has a higher bit
pub shift-computes : {v : ℕ → Bool} {n : ℕ} (left : Bool) (fill : Lit) (w : ℕ) (move : ℕ → ℕ → ℕ) → Moves v left fill w move → v 1 ≡ true → (a b : List Lit) → length a ≡ w → Computes v n (stages left fill 1 (take (stage_count (length a)) b) a >>= (λ bits. disjunction_of (drop (stage_count (length a)) b) >>= (λ h. sel h (replicate (length a) fill) bits))) (λ r. number_of v r ≡ move (number_of v b) (number_of v a))
shift-computes {v} {n} left fill w move m one a b h =
    let count = stage_count (length a) in
    let low = take count b in
    let high = drop count b in
    let filled = replicate (length a) fill in
    let split = number-split v count b in
    then-computes (stages-computes left fill w move m 1 low a h) (λ i bits hb.
    then-computes (disjunction-computes high one) (λ j t ht.
    let same : length filled ≡ length bits = length-replicate (length a) fill ∙ h ∙ sym hb.0 in
    weaker (sel-computes t filled bits same) (λ r hr. hr ∙ elim (cases_lt 0 (number_of v high)) [
      | inl some ↦
          let past : w ≤ number_of v b = subst (λ (k : ℕ). w ≤ k) split (past-width w (2 ^ count) (number_of v low) (number_of v high) (subst (λ (k : ℕ). k ≤ 2 ^ count) h (count-covers (length a))) some) in
          cond-true (lit_value v t) (number_of v filled) (number_of v bits) (ht ∙ lt-ltb 0 (number_of v high) some)
          ∙ ap (λ k. number_of v (replicate k fill)) h ∙ sym (m.past (number_of v b) a h past)
      | inr none ↦
          let nothing : number_of v high ≡ 0 = omega (arith, none) in
          let whole : 1 * number_of v low ≡ number_of v b = amount (number_of v low) (2 ^ count) (number_of v high) nothing ∙ split in
          cond-false (lit_value v t) (number_of v filled) (number_of v bits) (ht ∙ le-ltb 0 (number_of v high) none)
          ∙ hb.1 ∙ ap (λ k. move k (number_of v a)) whole
    ])))
  where
    amount : (t p d : ℕ) → d ≡ 0 → 1 * t ≡ t + p * d
    amount t p d e = let gone : p * d ≡ 0 = ap (λ k. p * k) e ∙ omega arith in omega (arith, gone)
