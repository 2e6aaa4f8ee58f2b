-- The routines' gates read variables before their own, and their results have the widths that they should.
use Rattle.std.proofs.Common.{◌≡◌, ℕ, zero, suc, ◌+◌, ◌-◌, ◌*◌, ◌/◌, ◌%◌, ◌≤◌, ◌<◌, ◌==◌, Bool, true, false, cond, min, List, [], ◌∷◌, ◌++◌, length, take, drop, replicate, sym, ◌∙◌, subst, arith, le_trans, le_refl}
use Rattle.std.specs.Prelude.{reverse}
use Rattle.std.proofs.lemmas.Nat.{mod_below}
use Rattle.qv_words.specs.Gate.{Lit, AndGate, XorGate, MuxGate, MajGate, Circuit, neg, yes, no, and, or, xor}
use Rattle.qv_words.specs.Routine.{negs, top, add, sum_of, neg_bits, sub, sel, each, and_all, or_all, conjunction_of, disjunction_of, equal, carry, ult, turned, slt, moved, stages, stage_count, shift, rows, mul, divided, div, abs, bits_of_number, least_signed, copies, turned_left, turned_right}
use Rattle.qv_circuits_laws.specs.CircuitLaws.{IsBefore, IsWord}
use Rattle.qv_circuits_laws.proofs.Building.{Gives, two, three, done-gives, then-gives, gate-gives, later, word-later, first-before, yes-before, no-before, neg-before, top-before, append-word, replicate-word, negs-word, take-word, take-any, drop-word, reverse-word, cons-word, others-word, empty-word, word-of}

-- lists of one length, of which one is empty and the other isn't
uneven : {n w : ℕ} {a : Lit} {as' : List Lit} → IsWord w n (a ∷ as') → IsWord w n [] → ⊥
uneven {n} {w} {a} {as'} h g = let same : suc (length as') ≡ 0 = h.bit_count ∙ sym g.bit_count in omega (arith, same)

-- the others behind two first bits
behind : {n w : ℕ} {a b : Lit} {as' bs : List Lit} → IsWord w n (a ∷ as') → IsWord w n (b ∷ bs) → IsWord (length as') n bs
behind {n} {w} {a} {b} {as'} {bs} h g =
    let same : suc (length bs) ≡ suc (length as') = g.bit_count ∙ sym h.bit_count in
    record { bit_count = omega (arith, same); earlier = g.earlier.1 }

-- a sum's bits and its carry
abbrev pub SumAt : ℕ → ℕ → List Lit × Lit → Type 0
SumAt w k r = IsWord w k r.0 × IsBefore k r.1

pub add-gives : {n w : ℕ} (a b : List Lit) (c : Lit) → 2 ≤ n → IsWord w n a → IsWord w n b → IsBefore n c → Gives n (add a b c) (SumAt w)
unfolding add
add-gives [] b c lo f g h = done-gives ([], c) (f, h)
add-gives (a ∷ as') [] c lo f g h = absurd (uneven f g)
add-gives {n} {w} (a ∷ as') (b ∷ bs) c lo f g h =
    then-gives (gate-gives (XorGate a b) lo (two f.earlier.0 g.earlier.0)) (λ i x up hx.
    then-gives (gate-gives (XorGate x c) (le_trans lo up) (two hx (later h up))) (λ j s up2 hs.
    then-gives (gate-gives (MajGate a b c) (omega arith) (three (later f.earlier.0 (omega arith)) (later g.earlier.0 (omega arith)) (later h (omega arith)))) (λ k m up3 hm.
    then-gives (add-gives as' bs m (omega arith) (word-later (others-word f) (omega arith)) (word-later (behind f g) (omega arith)) hm) (λ l r up4 hr.
    done-gives (s ∷ r.0, r.1) (word-of f.bit_count (cons-word (later hs (omega arith)) hr.0), hr.1)))))

pub sum-gives : {n w : ℕ} (a b : List Lit) (c : Lit) → 2 ≤ n → IsWord w n a → IsWord w n b → IsBefore n c → Gives n (sum_of a b c) (IsWord w)
sum-gives a b c lo f g h = then-gives (add-gives a b c lo f g h) (λ k s up hs. done-gives s.0 hs.0)

pub neg-gives : {n w : ℕ} (a : List Lit) → 2 ≤ n → IsWord w n a → Gives n (neg_bits a) (IsWord w)
neg-gives a lo f = sum-gives (negs a) (replicate (length a) no) yes lo (negs-word f) (word-of f.bit_count (replicate-word (length a) no (no-before lo))) (yes-before lo)

pub sub-gives : {n w : ℕ} (a b : List Lit) → 2 ≤ n → IsWord w n a → IsWord w n b → Gives n (sub a b) (SumAt w)
sub-gives a b lo f g = add-gives a (negs b) yes lo f (negs-word g) (yes-before lo)

pub sel-gives : {n w : ℕ} (c : Lit) (a b : List Lit) → 2 ≤ n → IsBefore n c → IsWord w n a → IsWord w n b → Gives n (sel c a b) (IsWord w)
unfolding sel
sel-gives c [] b lo h f g = done-gives [] f
sel-gives c (a ∷ as') [] lo h f g = absurd (uneven f g)
sel-gives {n} {w} c (a ∷ as') (b ∷ bs) lo h f g =
    then-gives (gate-gives (MuxGate c a b) lo (three h f.earlier.0 g.earlier.0)) (λ i x up hx.
    then-gives (sel-gives c as' bs (omega arith) (later h up) (word-later (others-word f) up) (word-later (behind f g) up)) (λ j r up2 hr.
    done-gives (x ∷ r) (word-of f.bit_count (cons-word (later hx up2) hr))))

-- an operation of two bits
abbrev pub GivesBit : (Lit → Lit → Circuit Lit) → Type 0
GivesBit op = (n : ℕ) (a b : Lit) → 2 ≤ n → IsBefore n a → IsBefore n b → Gives n (op a b) IsBefore

pub and-gives : GivesBit and
and-gives n a b lo f g = gate-gives (AndGate a b) lo (two f g)

pub xor-gives : GivesBit xor
xor-gives n a b lo f g = gate-gives (XorGate a b) lo (two f g)

pub or-gives : GivesBit or
or-gives n a b lo f g = then-gives (gate-gives (AndGate (neg a) (neg b)) lo (two (neg-before f) (neg-before g))) (λ k x up hx. done-gives (neg x) (neg-before hx))

pub each-gives : {n w : ℕ} (op : Lit → Lit → Circuit Lit) → GivesBit op → (a b : List Lit) → 2 ≤ n → IsWord w n a → IsWord w n b → Gives n (each op a b) (IsWord w)
unfolding each
each-gives op o [] b lo f g = done-gives [] f
each-gives op o (a ∷ as') [] lo f g = absurd (uneven f g)
each-gives {n} {w} op o (a ∷ as') (b ∷ bs) lo f g =
    then-gives (o n a b lo f.earlier.0 g.earlier.0) (λ i x up hx.
    then-gives (each-gives op o as' bs (omega arith) (word-later (others-word f) up) (word-later (behind f g) up)) (λ j r up2 hr.
    done-gives (x ∷ r) (word-of f.bit_count (cons-word (later hx up2) hr))))

pub and_all-gives : {n w : ℕ} (r : Lit) (a : List Lit) → 2 ≤ n → IsBefore n r → IsWord w n a → Gives n (and_all r a) IsBefore
unfolding and_all
and_all-gives r [] lo h f = done-gives r h
and_all-gives {n} {w} r (a ∷ as') lo h f =
    then-gives (and-gives n r a lo h f.earlier.0) (λ i x up hx. and_all-gives x as' (omega arith) hx (word-later (others-word f) up))

pub or_all-gives : {n w : ℕ} (r : Lit) (a : List Lit) → 2 ≤ n → IsBefore n r → IsWord w n a → Gives n (or_all r a) IsBefore
unfolding or_all
or_all-gives r [] lo h f = done-gives r h
or_all-gives {n} {w} r (a ∷ as') lo h f =
    then-gives (or-gives n r a lo h f.earlier.0) (λ i x up hx. or_all-gives x as' (omega arith) hx (word-later (others-word f) up))

pub conjunction-gives : {n w : ℕ} (a : List Lit) → 2 ≤ n → IsWord w n a → Gives n (conjunction_of a) IsBefore
conjunction-gives [] lo f = done-gives yes (yes-before lo)
conjunction-gives (a ∷ as') lo f = and_all-gives a as' lo f.earlier.0 (others-word f)

pub disjunction-gives : {n w : ℕ} (a : List Lit) → 2 ≤ n → IsWord w n a → Gives n (disjunction_of a) IsBefore
disjunction-gives [] lo f = done-gives no (no-before lo)
disjunction-gives (a ∷ as') lo f = or_all-gives a as' lo f.earlier.0 (others-word f)

pub equal-gives : {n w : ℕ} (a b : List Lit) → 2 ≤ n → IsWord w n a → IsWord w n b → Gives n (equal a b) IsBefore
equal-gives a b lo f g = then-gives (each-gives xor xor-gives a b lo f g) (λ k d up hd. conjunction-gives (negs d) (le_trans lo up) (negs-word hd))

pub carry-gives : {n w : ℕ} (a b : List Lit) (c : Lit) → 2 ≤ n → IsWord w n a → IsWord w n b → IsBefore n c → Gives n (carry a b c) IsBefore
unfolding carry
carry-gives [] b c lo f g h = done-gives c h
carry-gives (a ∷ as') [] c lo f g h = absurd (uneven f g)
carry-gives {n} {w} (a ∷ as') (b ∷ bs) c lo f g h =
    then-gives (gate-gives (MajGate a (neg b) c) lo (three f.earlier.0 (neg-before g.earlier.0) h)) (λ i x up hx.
    carry-gives as' bs x (omega arith) (word-later (others-word f) up) (word-later (behind f g) up) hx)

pub ult-gives : {n w : ℕ} (a b : List Lit) → 2 ≤ n → IsWord w n a → IsWord w n b → Gives n (ult a b) IsBefore
ult-gives a b lo f g = then-gives (carry-gives a b _ lo f g (first-before lo)) (λ k c up hc. done-gives (neg c) (neg-before hc))

turned-word : {n w : ℕ} (a : List Lit) → 2 ≤ n → IsWord w n a → IsWord w n (turned a)
turned-word [] lo f = f
turned-word {n} {w} (a ∷ as') lo f =
    let short : length as' ≤ w = omega (arith, f.bit_count) in
    let whole : length as' + 1 ≡ w = omega (arith, f.bit_count) in
    word-of whole (append-word (take-word (length as') short f) (cons-word (neg-before (top-before lo f)) empty-word))

pub slt-gives : {n w : ℕ} (a b : List Lit) → 2 ≤ n → IsWord w n a → IsWord w n b → Gives n (slt a b) IsBefore
slt-gives a b lo f g = ult-gives (turned a) (turned b) lo (turned-word a lo f) (turned-word b lo g)

moved-word : {n w : ℕ} (left : Bool) (k : ℕ) (fill : Lit) (a : List Lit) → IsBefore n fill → IsWord w n a → IsWord w n (moved left k fill a)
moved-word {n} {w} true k fill a h f =
    word-of f.bit_count (take-word (length a) (let le : length a ≤ k + w = omega (arith, f.bit_count) in le) (append-word (replicate-word k fill h) f))
moved-word {n} {w} false k fill a h f =
    let whole : w - k + min (length a) k ≡ w = omega (arith, f.bit_count) in
    word-of whole (append-word (drop-word k f) (take-any (length a) (replicate-word k fill h)))

pub stages-gives : {n w v : ℕ} (left : Bool) (fill : Lit) (k : ℕ) (amount a : List Lit) → 2 ≤ n → IsBefore n fill → IsWord v n amount → IsWord w n a → Gives n (stages left fill k amount a) (IsWord w)
unfolding stages
stages-gives left fill k [] a lo h g f = done-gives a f
stages-gives {n} {w} {v} left fill k (b ∷ bs) a lo h g f =
    then-gives (sel-gives b (moved left k fill a) a lo g.earlier.0 (moved-word left k fill a h f) f) (λ i x up hx.
    stages-gives left fill (k + k) bs x (omega arith) (later h up) (word-later (others-word g) up) hx)

pub shift-gives : {n w : ℕ} (left : Bool) (fill : Lit) (a b : List Lit) → 2 ≤ n → IsBefore n fill → IsWord w n a → IsWord w n b → Gives n (shift left fill a b) (IsWord w)
shift-gives left fill a b lo h f g =
    let count = stage_count (length a) in
    then-gives (stages-gives left fill _ (take count b) a lo h (take-any count g) f) (λ i x up hx.
    then-gives (disjunction-gives (drop count b) (le_trans lo up) (drop-word count (word-later g up))) (λ j t up2 ht.
    sel-gives t (replicate (length a) fill) x (le_trans lo (le_trans up up2)) ht (word-of f.bit_count (replicate-word (length a) fill (later h (le_trans up up2)))) (word-later hx up2)))

pub rows-gives : {n w v u : ℕ} (a acc b : List Lit) → 2 ≤ n → IsWord w n a → IsWord v n acc → v ≤ w → IsWord u n b → Gives n (rows a acc b) (IsWord v)
unfolding rows
rows-gives a acc [] lo f g le h = done-gives acc g
rows-gives a [] (b ∷ bs) lo f g le h = done-gives [] g
rows-gives {n} {w} {v} {u} a (low ∷ high) (b ∷ bs) lo f g le h =
    let short : length high ≤ w = omega (arith, g.bit_count, le) in
    then-gives (each-gives and and-gives (take (length high) a) (replicate (length high) b) lo (take-word (length high) short f) (replicate-word (length high) b h.earlier.0)) (λ i row up hrow.
    then-gives (sum-gives high row no (le_trans lo up) (word-later (others-word g) up) hrow (no-before (le_trans lo up))) (λ j s up2 hs.
    then-gives (rows-gives a s bs (omega arith) (word-later f (omega arith)) hs short (word-later (others-word h) (omega arith))) (λ k r up3 hr.
    done-gives (low ∷ r) (word-of g.bit_count (cons-word (later g.earlier.0 (omega arith)) hr)))))

pub mul-gives : {n w : ℕ} (a b : List Lit) → 2 ≤ n → IsWord w n a → IsWord w n b → Gives n (mul a b) (IsWord w)
mul-gives a [] lo f g = done-gives [] g
mul-gives {n} {w} a (b ∷ bs) lo f g =
    then-gives (each-gives and and-gives a (replicate (length a) b) lo f (word-of f.bit_count (replicate-word (length a) b g.earlier.0))) (λ i acc up hacc.
    rows-gives a acc bs (le_trans lo up) (word-later f up) hacc (le_refl w) (word-later (others-word g) up))

-- a quotient and a remainder
abbrev pub QuotientAt : ℕ → ℕ → ℕ → List Lit × List Lit → Type 0
QuotientAt v w k r = IsWord v k r.0 × IsWord w k r.1

pub divided-gives : {n w u v : ℕ} (b a q r : List Lit) → 2 ≤ n → IsWord w n b → IsWord u n a → IsWord v n q → IsWord w n r → Gives n (divided b a q r) (QuotientAt (u + v) w)
unfolding divided
divided-gives {n} {w} {u} {v} b [] q r lo hb ha hq hr =
    let whole : v ≡ u + v = omega (arith, ha.bit_count) in
    done-gives (q, r) (word-of whole hq, hr)
divided-gives {n} {w} {u} {v} b (a ∷ as') q r lo hb ha hq hr =
    let wide : w + 1 ≡ suc w = omega arith in
    let inside : length b ≤ suc w = omega (arith, hb.bit_count) in
    let whole : length as' + suc v ≡ u + v = omega (arith, ha.bit_count) in
    then-gives (sub-gives (a ∷ r) (b ++ no ∷ []) lo (cons-word ha.earlier.0 hr) (word-of wide (append-word hb (cons-word (no-before lo) empty-word)))) (λ i d up hd.
    then-gives (sel-gives d.1 (take (length b) d.0) (take (length b) (a ∷ r)) (le_trans lo up) hd.1 (word-of hb.bit_count (take-word (length b) inside hd.0)) (word-of hb.bit_count (take-word (length b) inside (word-later (cons-word ha.earlier.0 hr) up)))) (λ j next up2 hnext.
    subst (λ (k : ℕ). Gives j (divided b as' (d.1 ∷ q) next) (QuotientAt k w)) whole
    (divided-gives b as' (d.1 ∷ q) next (omega arith) (word-later hb (omega arith)) (word-later (others-word ha) (omega arith)) (cons-word (later hd.1 up2) (word-later hq (omega arith))) hnext)))

pub div-gives : {n w : ℕ} (a b : List Lit) → 2 ≤ n → IsWord w n a → IsWord w n b → Gives n (div a b) (QuotientAt w w)
div-gives {n} {w} a b lo f g =
    let whole : w + 0 ≡ w = omega arith in
    subst (λ (k : ℕ). Gives n (div a b) (QuotientAt k w)) whole
    (divided-gives b (reverse a) [] (replicate (length a) _) lo g (reverse-word f) empty-word (word-of f.bit_count (replicate-word (length a) _ (first-before lo))))

pub abs-gives : {n w : ℕ} (a : List Lit) → 2 ≤ n → IsWord w n a → Gives n (abs a) (IsWord w)
abs-gives a lo f =
    then-gives (neg-gives a lo f) (λ k m up hm.
    sel-gives (top a) m a (le_trans lo up) (later (top-before lo f) up) hm (word-later f up))

-- bits without gates
pub number-word : {n : ℕ} (w x : ℕ) → 2 ≤ n → IsWord w n (bits_of_number w x)
unfolding bits_of_number
number-word zero x lo = empty-word
number-word {n} (suc w) x lo = cons-word (bit (x % 2 == 1)) (number-word w (x / 2) lo)
  where
    bit : (b : Bool) → IsBefore n (cond b yes no)
    bit true = yes-before lo
    bit false = no-before lo

pub least-word : {n w : ℕ} → 2 ≤ n → 1 ≤ w → IsWord w n (least_signed w)
least-word {n} {w} lo some =
    let whole : w - 1 + 1 ≡ w = omega (arith, some) in
    word-of whole (append-word (replicate-word (w - 1) no (no-before lo)) (cons-word (yes-before lo) empty-word))

pub copies-word : {n w : ℕ} (k : ℕ) (a : List Lit) → IsWord w n a → IsWord (k * w) n (copies k a)
unfolding copies
copies-word {n} {w} zero a f = word-of (let none : 0 ≡ 0 * w = omega arith in none) empty-word
copies-word {n} {w} (suc k) a f = word-of (let whole : w + k * w ≡ suc k * w = omega arith in whole) (append-word f (copies-word k a f))

pub left-word : {n w : ℕ} (k : ℕ) (a : List Lit) → IsWord w n a → IsWord w n (turned_left k a)
left-word {n} {w} k a f =
    let i = length a - k % length a in
    let inside : i ≤ w = omega (arith, f.bit_count) in
    let whole : w - i + i ≡ w = omega (arith, inside) in
    word-of whole (append-word (drop-word i f) (take-word i inside f))

pub right-word : {n w : ℕ} (k : ℕ) (a : List Lit) → 1 ≤ w → IsWord w n a → IsWord w n (turned_right k a)
right-word {n} {w} k a some f =
    let i = k % length a in
    let below : k % length a < length a = mod_below k (length a) (omega (arith, f.bit_count, some)) in
    let inside : i ≤ w = omega (arith, below, f.bit_count) in
    let whole : w - i + i ≡ w = omega (arith, inside) in
    word-of whole (append-word (drop-word i f) (take-word i inside f))
