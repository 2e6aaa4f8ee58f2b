-- The rounds of products, quotients and shifts.
use Rattle.std.proofs.Common.{◌≡◌, ℕ, zero, suc, ◌+◌, ◌^◌, ◌<◌, ◌≤◌, min, Bool, true, false, List, [], ◌∷◌, ◌++◌, length, get_or, take, drop, replicate, refl, sym, ap, ◌∙◌, arith, add-one, append-nil}
use Rattle.std.specs.Prelude.{reverse, nat_le}
use Rattle.std.proofs.Math.Nat.{two-pow-succ}
use Rattle.std.proofs.lemmas.Bool.Decides.{nat_tests}
use Rattle.std.proofs.lemmas.List.{length-map, map-append, reverse-append}
use Rattle.qv_words.specs.Gate.{Lit, Circuit, done, ◌>>=◌, and, no}
use Rattle.qv_words.specs.Routine.{divided, each, least_log, moved, mul, rows, sel, stages, sub, sum_of}
use Rattle.qv_cnf.specs.Literal.{Literal}
use Rattle.qv_circuits.specs.declared.faults.CircuitFault.{CircuitFault}
use Rattle.qv_circuits.specs.Adding.{lit_of, lits_of}
use Rattle.qv_circuits.specs.Encoding.{Encoding, Ran, Stopped}
use Rattle.qv_circuits.specs.Steps.{next_bit, next_row, stage}
use Rattle.qv_circuits.proofs.MadeLists.{lits-reverse, moved-alike}
use Rattle.qv_circuits.proofs.Running.{bind-assoc, Continues, continues-bind, continues-map, continues-of, continues-ran, continues-same, continues-stopped, continues-then, done-bind, ran-done, Same, same-back, same-bind, same-itself, same-stopped, same-then, stopped-first}
use Rattle.qv_circuits.proofs.Turns.{lits-behind, lits-end, lits-from}

-- a product goes on behind its next row
row-first : (a : List Lit) (low : Lit) (high : List Lit) (b : Lit) (bs : List Lit) → Same (next_row a high b >>= λ s. rows a s bs >>= λ r. done (low ∷ r)) (rows a (low ∷ high) (b ∷ bs))
unfolding rows
row-first a low high b bs = bind-assoc (each and (take (length high) a) (replicate (length high) b)) (λ row. sum_of high row no) (λ s. rows a s bs >>= λ r. done (low ∷ r))

pub rows-turn : {A : Type 0} {m : Circuit A} (a : List Lit) (sum bits done next : List Literal) (i : ℕ) (low b : Literal) (k : List Lit → A) {s u t : Encoding} → 0 < length sum → low ≡ get_or sum 0 low → i < length bits → b ≡ get_or bits i b →
    Continues s m u (rows a (lits_of sum) (drop i (lits_of bits))) (λ r. k (lits_of done ++ r)) → Ran u (next_row a (drop 1 (lits_of sum)) (lit_of b)) t (lits_of next) →
    Continues s m t (rows a (lits_of next) (drop (i + 1) (lits_of bits))) (λ r. k (lits_of (done ++ low ∷ []) ++ r))
rows-turn {A} {m} a sum bits done next i low b k {s} {u} {t} hl el hb eb h g =
    let h2 = rw (lits-from sum 0 low hl el, lits-from bits i b hb eb) at h in
    let row = continues-of (row-first a (lit_of low) (drop 1 (lits_of sum)) (lit_of b) (drop (i + 1) (lits_of bits))) (continues-then (continues-bind _ g) continues-map) in
    continues-same (λ r. k (lits_of (done ++ low ∷ []) ++ r)) (continues-then h2 row) (λ r. ap k (lits-behind done low r))

pub rows-stops : {A : Type 0} {m : Circuit A} (a : List Lit) (sum bits : List Literal) (i : ℕ) (b : Literal) (k : List Lit → A) {s u t : Encoding} {e : CircuitFault} → 0 < length sum → i < length bits → b ≡ get_or bits i b →
    Continues s m u (rows a (lits_of sum) (drop i (lits_of bits))) k → Stopped u (next_row a (drop 1 (lits_of sum)) (lit_of b)) t e → Stopped s m t e
rows-stops {A} {m} a [] bits i b k {s} {u} {t} {e} hl hb eb h g = absurd (omega (arith, hl))
rows-stops {A} {m} a (low ∷ sum) bits i b k {s} {u} {t} {e} hl hb eb h g =
    let h2 = rw (lits-from bits i b hb eb) at h in
    continues-stopped h2 (same-stopped (same-back (row-first a (lit_of low) (lits_of sum) (lit_of b) (drop (i + 1) (lits_of bits)))) (stopped-first _ g))

rows-none : (a : List Lit) (sum bits : List Lit) {s : Encoding} → length sum ≡ 0 → 0 < length bits → Ran s (rows a sum bits) s []
unfolding rows
rows-none a sum [] e h = absurd (omega (arith, h))
rows-none a [] (b ∷ bs) e h = ran-done _ []
rows-none a (l ∷ ls) (b ∷ bs) e h = absurd (omega (arith, e))

pub rows-empty : {A : Type 0} {m : Circuit A} (a : List Lit) (sum bits done : List Literal) (i : ℕ) (k : List Lit → A) {s u : Encoding} → length sum ≡ 0 → i < length bits →
    Continues s m u (rows a (lits_of sum) (drop i (lits_of bits))) (λ r. k (lits_of done ++ r)) → Ran s m u (k (lits_of done))
rows-empty {A} {m} a sum bits done i k {s} {u} e hb h =
    let none : length (lits_of sum) ≡ 0 = length-map sum lit_of ∙ e in
    let some : 0 < length (drop i (lits_of bits)) = omega (arith, lits-end bits i, hb) in
    rw (sym (append-nil (lits_of done))) (continues-ran h (rows-none a _ _ none some))

rows-end : (a sum bits : List Lit) {s : Encoding} → length bits ≡ 0 → Ran s (rows a sum bits) s sum
unfolding rows
rows-end a sum [] h = ran-done _ sum
rows-end a sum (b ∷ bs) h = absurd (omega (arith, h))

pub rows-ends : {A : Type 0} {m : Circuit A} (a : List Lit) (sum bits done : List Literal) (i : ℕ) (k : List Lit → A) {s u : Encoding} → length bits ≤ i →
    Continues s m u (rows a (lits_of sum) (drop i (lits_of bits))) (λ r. k (lits_of done ++ r)) → Ran s m u (k (lits_of (done ++ sum)))
rows-ends {A} {m} a sum bits done i k {s} {u} end h =
    let none : length (drop i (lits_of bits)) ≡ 0 = omega (arith, lits-end bits i, end) in
    rw (map-append lit_of done sum) (continues-ran h (rows-end a _ _ none))

-- a division goes on behind its next bit
bit-first : (b : List Lit) (a : Lit) (xs q r : List Lit) → Same (next_bit b a r >>= λ p. divided b xs (p.0 ∷ q) p.1) (divided b (a ∷ xs) q r)
unfolding divided
bit-first b a xs q r =
    let rest : Lit × List Lit → Circuit (List Lit × List Lit) = λ p. divided b xs (p.0 ∷ q) p.1 in
    same-then (bind-assoc (sub (a ∷ r) (b ++ no ∷ [])) _ rest) (same-bind _ _ _ _ (same-itself _) (λ d.
    same-then (bind-assoc (sel d.1 (take (length b) d.0) (take (length b) (a ∷ r))) _ rest) (same-bind _ _ _ _ (same-itself _) (λ n. done-bind (d.1, n) rest))))

quotient-more : (q : List Literal) (x : Literal) → lit_of x ∷ reverse (lits_of q) ≡ reverse (lits_of (q ++ x ∷ []))
quotient-more q x = rw (map-append lit_of q (x ∷ []), reverse-append (lits_of q) (lit_of x ∷ [])) refl

pub divided-turn : {A : Type 0} {m : Circuit A} (b : List Lit) (bits q r next : List Literal) (i : ℕ) (a x : Literal) (k : List Lit × List Lit → A) {s u t : Encoding} → i < length bits → a ≡ get_or bits i a →
    Continues s m u (divided b (drop i (lits_of bits)) (reverse (lits_of q)) (lits_of r)) k → Ran u (next_bit b (lit_of a) (lits_of r)) t (lit_of x, lits_of next) →
    Continues s m t (divided b (drop (i + 1) (lits_of bits)) (reverse (lits_of (q ++ x ∷ []))) (lits_of next)) k
divided-turn {A} {m} b bits q r next i a x k {s} {u} {t} ha ea h g =
    let h2 = rw (lits-from bits i a ha ea) at h in
    let bit = continues-of (bit-first b (lit_of a) (drop (i + 1) (lits_of bits)) (reverse (lits_of q)) (lits_of r)) (continues-bind _ g) in
    rw (← quotient-more q x) (continues-then h2 bit)

pub divided-stops : {A : Type 0} {m : Circuit A} (b : List Lit) (bits r : List Literal) (q : List Lit) (i : ℕ) (a : Literal) (k : List Lit × List Lit → A) {s u t : Encoding} {e : CircuitFault} → i < length bits → a ≡ get_or bits i a →
    Continues s m u (divided b (drop i (lits_of bits)) q (lits_of r)) k → Stopped u (next_bit b (lit_of a) (lits_of r)) t e → Stopped s m t e
divided-stops {A} {m} b bits r q i a k {s} {u} {t} {e} ha ea h g =
    let h2 = rw (lits-from bits i a ha ea) at h in
    continues-stopped h2 (same-stopped (same-back (bit-first b (lit_of a) (drop (i + 1) (lits_of bits)) q (lits_of r))) (stopped-first _ g))

divided-end : (b bits q r : List Lit) {s : Encoding} → length bits ≡ 0 → Ran s (divided b bits q r) s (q, r)
unfolding divided
divided-end b [] q r h = ran-done _ (q, r)
divided-end b (x ∷ xs) q r h = absurd (omega (arith, h))

pub divided-ends : {A : Type 0} {m : Circuit A} (b : List Lit) (bits q r : List Literal) (i : ℕ) (k : List Lit × List Lit → A) {s u : Encoding} → length bits ≤ i →
    Continues s m u (divided b (drop i (lits_of bits)) (reverse (lits_of q)) (lits_of r)) k → Ran s m u (k (lits_of (reverse q), lits_of r))
divided-ends {A} {m} b bits q r i k {s} {u} end h =
    let none : length (drop i (lits_of bits)) ≡ 0 = omega (arith, lits-end bits i, end) in
    rw (lits-reverse q) (continues-ran h (divided-end b _ _ _ none))

-- a shift goes on behind its next stage
pub stages-turn : {A : Type 0} {m : Circuit A} (left : Bool) (fill : Lit) (amount bits next : List Literal) (i n p : ℕ) (b : Literal) (k : List Lit → A) {s u t : Encoding} → i < length amount → b ≡ get_or amount i b → min p (length bits) ≡ min n (length bits) →
    Continues s m u (stages left fill n (drop i (lits_of amount)) (lits_of bits)) k → Ran u (stage left fill p (lit_of b) (lits_of bits)) t (lits_of next) →
    Continues s m t (stages left fill (n + n) (drop (i + 1) (lits_of amount)) (lits_of next)) k
unfolding stages
stages-turn {A} {m} left fill amount bits next i n p b k {s} {u} {t} hb eb e h g =
    let h2 = rw (lits-from amount i b hb eb) at h in
    let same : moved left p fill (lits_of bits) ≡ moved left n fill (lits_of bits) = moved-alike left p n fill (lits_of bits) (rw (length-map bits lit_of) e) in
    let g2 = rw same at g in
    continues-then h2 (continues-bind _ g2)

pub stages-stops : {A : Type 0} {m : Circuit A} (left : Bool) (fill : Lit) (amount bits : List Literal) (i n p : ℕ) (b : Literal) (k : List Lit → A) {s u t : Encoding} {f : CircuitFault} → i < length amount → b ≡ get_or amount i b → min p (length bits) ≡ min n (length bits) →
    Continues s m u (stages left fill n (drop i (lits_of amount)) (lits_of bits)) k → Stopped u (stage left fill p (lit_of b) (lits_of bits)) t f → Stopped s m t f
unfolding stages
stages-stops {A} {m} left fill amount bits i n p b k {s} {u} {t} {f} hb eb e h g =
    let h2 = rw (lits-from amount i b hb eb) at h in
    let same : moved left p fill (lits_of bits) ≡ moved left n fill (lits_of bits) = moved-alike left p n fill (lits_of bits) (rw (length-map bits lit_of) e) in
    let g2 = rw same at g in
    continues-stopped h2 (stopped-first _ g2)

stages-end : (left : Bool) (fill : Lit) (n : ℕ) (amount bits : List Lit) {s : Encoding} → length amount ≡ 0 → Ran s (stages left fill n amount bits) s bits
unfolding stages
stages-end left fill n [] bits h = ran-done _ bits
stages-end left fill n (b ∷ bs) bits h = absurd (omega (arith, h))

pub stages-ends : {A : Type 0} {m : Circuit A} (left : Bool) (fill : Lit) (amount bits : List Literal) (i n : ℕ) (k : List Lit → A) {s u : Encoding} → length amount ≤ i →
    Continues s m u (stages left fill n (drop i (lits_of amount)) (lits_of bits)) k → Ran s m u (k (lits_of bits))
stages-ends {A} {m} left fill amount bits i n k {s} {u} end h =
    let none : length (drop i (lits_of amount)) ≡ 0 = omega (arith, lits-end amount i, end) in
    continues-ran h (stages-end left fill n _ _ none)

pub doubled : (i : ℕ) → 2 ^ (i + 1) ≡ 2 ^ i + 2 ^ i
doubled i = rw add-one (two-pow-succ i)

-- the number of stages
pub below-power : (n : ℕ) → n < 2 ^ n
below-power zero = omega arith
below-power (suc n) = omega (arith, below-power n, two-pow-succ n)

pub least-more : (n k w : ℕ) → 2 ^ k < w → least_log (suc n) k w ≡ least_log n (suc k) w
least-more n k w h = let not : nat_le w (2 ^ k) ≡ false = grind (arith, nat_tests) in rw not refl

pub least-end : (n k w : ℕ) → w ≤ 2 ^ k → least_log n k w ≡ k
least-end zero k w h = refl
least-end (suc n) k w h = let is : nat_le w (2 ^ k) ≡ true = grind (arith, nat_tests) in rw is refl

-- a product begins with the row of the first bit
pub mul-first : (a b : List Literal) (l : Literal) → 0 < length b → l ≡ get_or b 0 l → Same (each and (lits_of a) (replicate (length a) (lit_of l)) >>= λ acc. rows (lits_of a) acc (drop 1 (lits_of b))) (mul (lits_of a) (lits_of b))
mul-first a b l h e = rw (lits-from b 0 l h e, length-map a lit_of) (same-itself _)

pub mul-none : (a : List Lit) (b : List Literal) {s : Encoding} → length b ≡ 0 → Ran s (mul a (lits_of b)) s []
mul-none a [] e = ran-done _ []
mul-none a (l ∷ ls) e = absurd (omega (arith, e))
