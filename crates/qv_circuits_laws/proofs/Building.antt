-- Circuits whose gates read variables before their own.
use Rattle.std.proofs.Common.{◌≡◌, ℕ, zero, suc, ◌+◌, ◌-◌, ◌≤◌, ◌<◌, Bool, List, [], ◌∷◌, ◌++◌, length, take, drop, replicate, refl, sym, ap, ◌∙◌, subst, arith, min, lit≤}
use Rattle.std.specs.Prelude.{reverse, slice_index_or}
use Rattle.std.specs.List.{AllByRecursion}
use Rattle.std.proofs.lemmas.List.{length-append, length-map, length-replicate, length-take, length-drop, length-reverse}
use Rattle.std.proofs.lemmas.Grind.{reverse_onto}
use Rattle.qv_words.specs.Gate.{Lit, Gate, Circuit, done, ◌>>=◌, gate, neg, yes, no}
use Rattle.qv_words.specs.Routine.{negs, top}
use Rattle.qv_circuits_laws.specs.CircuitLaws.{IsBefore, inputs, ReadEarlier, IsWord}

-- built at a variable, the gates read earlier ones, and Q holds of the result and the variable behind them
pub record Gives {A : Type 0} (n : ℕ) (m : Circuit A) (Q : ℕ → A → Type 0) : Type 0 where
  pub gates : ReadEarlier n (m n).gates
  pub result : Q (n + length (m n).gates) (m n).result

-- gates behind one another
read-both : (n : ℕ) (gs hs : List Gate) → ReadEarlier n gs → ReadEarlier (n + length gs) hs → ReadEarlier n (gs ++ hs)
read-both n [] hs f g = subst (λ (k : ℕ). ReadEarlier k hs) (let same : n + 0 ≡ n = omega arith in same) g
read-both n (x ∷ gs) hs f g =
    let same : n + length (x ∷ gs) ≡ suc n + length gs = omega arith in
    (f.0, read-both (suc n) gs hs f.1 (subst (λ (k : ℕ). ReadEarlier k hs) same g))

pub done-gives : {A : Type 0} {n : ℕ} {Q : ℕ → A → Type 0} (x : A) → Q n x → Gives n (done x) Q
done-gives {A} {n} {Q} x h = record { gates = tt; result = subst (λ (k : ℕ). Q k x) (let same : n ≡ n + 0 = omega arith in same) h }

pub then-gives : {A B : Type 0} {n : ℕ} {m : Circuit A} {f : A → Circuit B} {Q : ℕ → A → Type 0} {R : ℕ → B → Type 0} → Gives n m Q → ((k : ℕ) (x : A) → n ≤ k → Q k x → Gives k (f x) R) → Gives n (m >>= f) R
unfolding ◌>>=◌
then-gives {A} {B} {n} {m} {f} {Q} {R} g h =
    let k = n + length (m n).gates in
    let x = (m n).result in
    let second = h k x (let up : n ≤ n + length (m n).gates = omega arith in up) g.result in
    let same : k + length (f x k).gates ≡ n + length ((m n).gates ++ (f x k).gates) = omega (arith, length-append (m n).gates (f x k).gates) in
    record {
      gates = read-both n (m n).gates (f x k).gates g.gates second.gates;
      result = subst (λ (j : ℕ). R j (f x k).result) same second.result;
    }

pub gate-gives : {n : ℕ} (g : Gate) → 2 ≤ n → AllByRecursion (IsBefore n) (inputs g) → Gives n (gate g) IsBefore
gate-gives {n} g lo h = record { gates = (h, tt); result = record { some = omega (arith, lo); earlier = (let up : n < n + 1 = omega arith in up) } }

-- the inputs of a gate of two literals, and of three
pub two : {n : ℕ} {a b : Lit} → IsBefore n a → IsBefore n b → AllByRecursion (IsBefore n) (a ∷ b ∷ [])
two f g = (f, (g, tt))

pub three : {n : ℕ} {a b c : Lit} → IsBefore n a → IsBefore n b → IsBefore n c → AllByRecursion (IsBefore n) (a ∷ b ∷ c ∷ [])
three f g h = (f, (g, (h, tt)))

-- what is before a variable is before later ones
pub later : {n k : ℕ} {l : Lit} → IsBefore n l → n ≤ k → IsBefore k l
later h up = record { some = h.some; earlier = omega (arith, h.earlier, up) }

all-later : (n k : ℕ) (bits : List Lit) → AllByRecursion (IsBefore n) bits → n ≤ k → AllByRecursion (IsBefore k) bits
all-later n k [] h up = tt
all-later n k (l ∷ ls) h up = (later h.0 up, all-later n k ls h.1 up)

pub word-later : {w n k : ℕ} {bits : List Lit} → IsWord w n bits → n ≤ k → IsWord w k bits
word-later {w} {n} {k} {bits} h up = record { bit_count = h.bit_count; earlier = all-later n k bits h.earlier up }

pub first-before : {n : ℕ} {positive : Bool} → 2 ≤ n → IsBefore n (record { variable = 1; positive = positive })
first-before lo = record { some = lit≤ tt; earlier = lo }

pub yes-before : {n : ℕ} → 2 ≤ n → IsBefore n yes
yes-before lo = record { some = lit≤ tt; earlier = lo }

pub no-before : {n : ℕ} → 2 ≤ n → IsBefore n no
no-before lo = record { some = lit≤ tt; earlier = lo }

pub neg-before : {n : ℕ} {l : Lit} → IsBefore n l → IsBefore n (neg l)
neg-before h = record { some = h.some; earlier = h.earlier }

-- bits in other places
all-append : (n : ℕ) (a b : List Lit) → AllByRecursion (IsBefore n) a → AllByRecursion (IsBefore n) b → AllByRecursion (IsBefore n) (a ++ b)
all-append n [] b f g = g
all-append n (x ∷ a) b f g = (f.0, all-append n a b f.1 g)

all-take : (n i : ℕ) (a : List Lit) → AllByRecursion (IsBefore n) a → AllByRecursion (IsBefore n) (take i a)
all-take n zero a h = tt
all-take n (suc i) [] h = tt
all-take n (suc i) (x ∷ a) h = (h.0, all-take n i a h.1)

all-drop : (n i : ℕ) (a : List Lit) → AllByRecursion (IsBefore n) a → AllByRecursion (IsBefore n) (drop i a)
all-drop n zero a h = h
all-drop n (suc i) [] h = tt
all-drop n (suc i) (x ∷ a) h = all-drop n i a h.1

all-replicate : (n i : ℕ) (l : Lit) → IsBefore n l → AllByRecursion (IsBefore n) (replicate i l)
all-replicate n zero l h = tt
all-replicate n (suc i) l h = (h, all-replicate n i l h)

all-negs : (n : ℕ) (a : List Lit) → AllByRecursion (IsBefore n) a → AllByRecursion (IsBefore n) (negs a)
all-negs n [] h = tt
all-negs n (x ∷ a) h = (neg-before h.0, all-negs n a h.1)

all-reverse : (n : ℕ) (a : List Lit) → AllByRecursion (IsBefore n) a → AllByRecursion (IsBefore n) (reverse a)
all-reverse n [] h = tt
all-reverse n (x ∷ a) h =
    subst (AllByRecursion (IsBefore n)) (sym (reverse_onto a x [])) (all-append n (reverse a) (x ∷ []) (all-reverse n a h.1) (h.0, tt))

at-before : (n : ℕ) (a : List Lit) (i : ℕ) → 2 ≤ n → AllByRecursion (IsBefore n) a → IsBefore n (slice_index_or a i no)
at-before n [] i lo h = no-before lo
at-before n (x ∷ a) zero lo h = h.0
at-before n (x ∷ a) (suc i) lo h = at-before n a i lo h.1

pub top-before : {w n : ℕ} {a : List Lit} → 2 ≤ n → IsWord w n a → IsBefore n (top a)
top-before {w} {n} {a} lo h = at-before n a (length a - 1) lo h.earlier

pub append-word : {n v w : ℕ} {a b : List Lit} → IsWord v n a → IsWord w n b → IsWord (v + w) n (a ++ b)
append-word {n} {v} {w} {a} {b} f g = record { bit_count = omega (arith, length-append a b, f.bit_count, g.bit_count); earlier = all-append n a b f.earlier g.earlier }

pub replicate-word : {n : ℕ} (w : ℕ) (l : Lit) → IsBefore n l → IsWord w n (replicate w l)
replicate-word {n} w l h = record { bit_count = length-replicate w l; earlier = all-replicate n w l h }

pub negs-word : {n w : ℕ} {a : List Lit} → IsWord w n a → IsWord w n (negs a)
negs-word {n} {w} {a} h = record { bit_count = length-map a neg ∙ h.bit_count; earlier = all-negs n a h.earlier }

pub take-word : {n w : ℕ} {a : List Lit} (i : ℕ) → i ≤ w → IsWord w n a → IsWord i n (take i a)
take-word {n} {w} {a} i fits h = record { bit_count = omega (arith, length-take i a, h.bit_count, fits); earlier = all-take n i a h.earlier }

pub take-any : {n w : ℕ} {a : List Lit} (i : ℕ) → IsWord w n a → IsWord (min i w) n (take i a)
take-any {n} {w} {a} i h = record { bit_count = length-take i a ∙ ap (min i) h.bit_count; earlier = all-take n i a h.earlier }

pub drop-word : {n w : ℕ} {a : List Lit} (i : ℕ) → IsWord w n a → IsWord (w - i) n (drop i a)
drop-word {n} {w} {a} i h = record { bit_count = length-drop i a ∙ ap (λ k. k - i) h.bit_count; earlier = all-drop n i a h.earlier }

pub reverse-word : {n w : ℕ} {a : List Lit} → IsWord w n a → IsWord w n (reverse a)
reverse-word {n} {w} {a} h = record { bit_count = length-reverse a ∙ h.bit_count; earlier = all-reverse n a h.earlier }

-- so many bits behind a first one
pub cons-word : {n w : ℕ} {l : Lit} {a : List Lit} → IsBefore n l → IsWord w n a → IsWord (suc w) n (l ∷ a)
cons-word h g = record { bit_count = ap suc g.bit_count; earlier = (h, g.earlier) }

-- the bits behind the first
pub others-word : {n w : ℕ} {l : Lit} {a : List Lit} → IsWord w n (l ∷ a) → IsWord (length a) n a
others-word h = record { bit_count = refl; earlier = h.earlier.1 }

pub empty-word : {n : ℕ} → IsWord 0 n []
empty-word = record { bit_count = refl; earlier = tt }

pub word-of : {n w v : ℕ} {a : List Lit} → w ≡ v → IsWord w n a → IsWord v n a
word-of e h = record { bit_count = h.bit_count ∙ e; earlier = h.earlier }
