-- The turns of the loops over lists of literals.
use Rattle.std.proofs.Common.{◌≡◌, ℕ, suc, ◌+◌, ◌-◌, ◌<◌, ◌≤◌, min, List, [], ◌∷◌, ◌++◌, length, get_or, take, drop, refl, sym, ap, ◌∙◌, arith, add-one, append_assoc, append-nil}
use Rattle.std.proofs.Math.Seq.{drop-cons}
use Rattle.std.proofs.lemmas.List.{length-map, length-drop, drop-map, map-append, take_all}
use Rattle.qv_words.specs.Gate.{Lit, Circuit, done, ◌>>=◌, and, maj, mux, neg, no, or, xor, yes}
use Rattle.qv_words.specs.Routine.{add, carry, each, sel, and_all, conjunction_of, disjunction_of, or_all}
use Rattle.qv_cnf.specs.Literal.{Literal}
use Rattle.qv_circuits.specs.declared.faults.CircuitFault.{CircuitFault}
use Rattle.qv_circuits.specs.Adding.{lit_of, lits_of}
use Rattle.qv_circuits.specs.Bitwise.{folded}
use Rattle.qv_circuits.specs.Encoding.{Encodes, Encoding, full_adder, Ran, Stopped}
use Rattle.std.specs.Prelude.{Result}
use Rattle.qv_circuits.proofs.Running.{bind-assoc, done-bind, encodes-same, same-back, same-itself, same-then, Continues, continues-bind, continues-map, continues-of, continues-ran, continues-same, continues-stopped, continues-then, stopped-first, Same, same-bind, same-stopped, ran-done}

-- the literals from a place on
pub lits-from : (ls : List Literal) (i : ℕ) (l : Literal) → i < length ls → l ≡ get_or ls i l → drop i (lits_of ls) ≡ lit_of l ∷ drop (i + 1) (lits_of ls)
lits-from ls i l h e =
    let here : drop i ls ≡ get_or ls i l ∷ drop (suc i) ls = drop-cons ls i l h in
    let first : drop i ls ≡ l ∷ drop (suc i) ls = here ∙ ap (λ (x : Literal). x ∷ drop (suc i) ls) (sym e) in
    rw (add-one, drop-map lit_of i ls, drop-map lit_of (suc i) ls) (ap lits_of first)

pub lits-behind : (done : List Literal) (l : Literal) (r : List Lit) → lits_of done ++ lit_of l ∷ r ≡ lits_of (done ++ l ∷ []) ++ r
lits-behind done l r = rw (map-append lit_of done (l ∷ []), append_assoc) refl

pub lits-end : (ls : List Literal) (n : ℕ) → length (drop n (lits_of ls)) ≡ length ls - n
lits-end ls n = rw (length-drop n (lits_of ls), length-map ls lit_of) refl

-- one more place of two lists
pub each-turn : (op : Lit → Lit → Circuit Lit) {A : Type 0} {m : Circuit A} (xs ys done : List Literal) (i : ℕ) (a b x : Literal) (k : List Lit → A) {s u t : Encoding} → i < length xs → i < length ys → a ≡ get_or xs i a → b ≡ get_or ys i b →
    Continues s m u (each op (drop i (lits_of xs)) (drop i (lits_of ys))) (λ r. k (lits_of done ++ r)) → Ran u (op (lit_of a) (lit_of b)) t (lit_of x) →
    Continues s m t (each op (drop (i + 1) (lits_of xs)) (drop (i + 1) (lits_of ys))) (λ r. k (lits_of (done ++ x ∷ []) ++ r))
unfolding each
each-turn op {A} {m} xs ys done i a b x k {s} {u} {t} ha hb ea eb h g =
    let h2 = rw (lits-from xs i a ha ea, lits-from ys i b hb eb) at h in
    continues-same (λ r. k (lits_of (done ++ x ∷ []) ++ r)) (continues-then h2 (continues-then (continues-bind _ g) continues-map)) (λ r. ap k (lits-behind done x r))

pub each-end : (op : Lit → Lit → Circuit Lit) (xs ys : List Lit) {s : Encoding} → min (length xs) (length ys) ≡ 0 → Ran s (each op xs ys) s []
unfolding each
each-end op [] ys h = ran-done _ []
each-end op (a ∷ xs) [] h = ran-done _ []
each-end op (a ∷ xs) (b ∷ ys) h = absurd (omega (arith, h))

-- a choice is one bit by bit
pub sel-each : (c : Lit) (xs ys : List Lit) → Same (sel c xs ys) (each (mux c) xs ys)
unfolding sel each
sel-each c [] ys = same-itself _
sel-each c (a ∷ xs) [] = same-itself _
sel-each c (a ∷ xs) (b ∷ ys) = same-bind _ _ _ _ (same-itself _) (λ x. same-bind _ _ _ _ (sel-each c xs ys) (λ r. same-itself _))

pub each-stops : (op : Lit → Lit → Circuit Lit) {A : Type 0} {m : Circuit A} (xs ys : List Literal) (i : ℕ) (a b : Literal) (k : List Lit → A) {s u t : Encoding} {e : CircuitFault} → i < length xs → i < length ys → a ≡ get_or xs i a → b ≡ get_or ys i b →
    Continues s m u (each op (drop i (lits_of xs)) (drop i (lits_of ys))) k → Stopped u (op (lit_of a) (lit_of b)) t e → Stopped s m t e
unfolding each
each-stops op {A} {m} xs ys i a b k {s} {u} {t} ha hb ea eb h g =
    let h2 = rw (lits-from xs i a ha ea, lits-from ys i b hb eb) at h in
    continues-stopped h2 (stopped-first _ g)

pub each-ends : (op : Lit → Lit → Circuit Lit) {A : Type 0} {m : Circuit A} (xs ys done : List Literal) (i : ℕ) (k : List Lit → A) {s u : Encoding} → min (length xs) (length ys) ≤ i →
    Continues s m u (each op (drop i (lits_of xs)) (drop i (lits_of ys))) (λ r. k (lits_of done ++ r)) → Ran s m u (k (lits_of done))
each-ends op {A} {m} xs ys done i k {s} {u} end h =
    let e : min (length (drop i (lits_of xs))) (length (drop i (lits_of ys))) ≡ 0 = rw (lits-end xs i, lits-end ys i) (omega (arith, end)) in
    rw (sym (append-nil (lits_of done))) (continues-ran h (each-end op _ _ e))

-- one more literal of a list
pub fold-turn : (op : Lit → Lit → Circuit Lit) {A : Type 0} {m : Circuit A} (ls : List Literal) (r : Lit) (i : ℕ) (l x : Literal) (k : Lit → A) {s u t : Encoding} → i < length ls → l ≡ get_or ls i l →
    Continues s m u (folded op r (drop i (lits_of ls))) k → Ran u (op r (lit_of l)) t (lit_of x) → Continues s m t (folded op (lit_of x) (drop (i + 1) (lits_of ls))) k
unfolding folded
fold-turn op {A} {m} ls r i l x k {s} {u} {t} hl el h g =
    let h2 = rw (lits-from ls i l hl el) at h in
    continues-then h2 (continues-bind _ g)

pub fold-stops : (op : Lit → Lit → Circuit Lit) {A : Type 0} {m : Circuit A} (ls : List Literal) (r : Lit) (i : ℕ) (l : Literal) (k : Lit → A) {s u t : Encoding} {e : CircuitFault} → i < length ls → l ≡ get_or ls i l →
    Continues s m u (folded op r (drop i (lits_of ls))) k → Stopped u (op r (lit_of l)) t e → Stopped s m t e
unfolding folded
fold-stops op {A} {m} ls r i l k {s} {u} {t} hl el h g =
    let h2 = rw (lits-from ls i l hl el) at h in
    continues-stopped h2 (stopped-first _ g)

fold-end : (op : Lit → Lit → Circuit Lit) (r : Lit) (ls : List Lit) {s : Encoding} → length ls ≡ 0 → Ran s (folded op r ls) s r
unfolding folded
fold-end op r [] h = ran-done _ r
fold-end op r (l ∷ ls) h = absurd (omega (arith, h))

pub fold-ends : (op : Lit → Lit → Circuit Lit) {A : Type 0} {m : Circuit A} (ls : List Literal) (r : Lit) (i : ℕ) (k : Lit → A) {s u : Encoding} → length ls ≤ i →
    Continues s m u (folded op r (drop i (lits_of ls))) k → Ran s m u (k r)
fold-ends op {A} {m} ls r i k {s} {u} end h =
    let e : length (drop i (lits_of ls)) ≡ 0 = rw (lits-end ls i) (omega (arith, end)) in
    continues-ran h (fold-end op r _ e)

-- conjunctions and disjunctions are such
pub and_all-folded : (r : Lit) (ls : List Lit) → Same (and_all r ls) (folded and r ls)
unfolding and_all folded
and_all-folded r [] = same-itself _
and_all-folded r (l ∷ ls) = same-bind _ _ _ _ (same-itself _) (λ x. and_all-folded x ls)

pub or_all-folded : (r : Lit) (ls : List Lit) → Same (or_all r ls) (folded or r ls)
unfolding or_all folded
or_all-folded r [] = same-itself _
or_all-folded r (l ∷ ls) = same-bind _ _ _ _ (same-itself _) (λ x. or_all-folded x ls)

-- of the first literal with the others
pub lits-first : (ls : List Literal) (l : Literal) → 0 < length ls → l ≡ get_or ls 0 l → lits_of ls ≡ lit_of l ∷ lits_of (take (length ls - 1) (drop 1 ls))
lits-first ls l h e =
    let all : take (length ls - 1) (drop 1 ls) ≡ drop 1 ls = take_all (length ls - 1) (drop 1 ls) (rw (length-drop 1 ls) (omega arith)) in
    lits-from ls 0 l h e ∙ ap (λ (r : List Lit). lit_of l ∷ r) (drop-map lit_of 1 ls ∙ ap lits_of (sym all))

pub conjunction-folds : {R : Type 0} (view : R → Lit) (r : Result R CircuitFault) (s t : Encoding) (ls : List Literal) (l : Literal) → 0 < length ls → l ≡ get_or ls 0 l →
    Encodes view s (folded and (lit_of l) (lits_of (take (length ls - 1) (drop 1 ls)))) r t → Encodes view s (conjunction_of (lits_of ls)) r t
conjunction-folds view r s t ls l h e g = rw (lits-first ls l h e) (encodes-same view r s t (and_all-folded (lit_of l) (lits_of (take (length ls - 1) (drop 1 ls)))) g)

pub conjunction-of-none : (ls : List Literal) {s : Encoding} → length ls < 1 → Ran s (conjunction_of (lits_of ls)) s yes
conjunction-of-none [] h = ran-done _ _
conjunction-of-none (l ∷ ls) h = absurd (omega (arith, h))

pub disjunction-folds : {R : Type 0} (view : R → Lit) (r : Result R CircuitFault) (s t : Encoding) (ls : List Literal) (l : Literal) → 0 < length ls → l ≡ get_or ls 0 l →
    Encodes view s (folded or (lit_of l) (lits_of (take (length ls - 1) (drop 1 ls)))) r t → Encodes view s (disjunction_of (lits_of ls)) r t
disjunction-folds view r s t ls l h e g = rw (lits-first ls l h e) (encodes-same view r s t (or_all-folded (lit_of l) (lits_of (take (length ls - 1) (drop 1 ls)))) g)

pub disjunction-of-none : (ls : List Literal) {s : Encoding} → length ls < 1 → Ran s (disjunction_of (lits_of ls)) s no
disjunction-of-none [] h = ran-done _ _
disjunction-of-none (l ∷ ls) h = absurd (omega (arith, h))

-- a sum goes on behind a full adder
adder-first : (a b c : Lit) (xs ys : List Lit) → Same (full_adder a b c >>= λ p. add xs ys p.1 >>= λ r. done (p.0 ∷ r.0, r.1)) (add (a ∷ xs) (b ∷ ys) c)
unfolding add
adder-first a b c xs ys =
    let rest : Lit × Lit → Circuit (List Lit × Lit) = λ p. add xs ys p.1 >>= λ r. done (p.0 ∷ r.0, r.1) in
    same-then (bind-assoc (xor a b) _ rest) (same-bind _ _ _ _ (same-itself _) (λ x.
    same-then (bind-assoc (xor x c) _ rest) (same-bind _ _ _ _ (same-itself _) (λ s.
    same-then (bind-assoc (maj a b c) _ rest) (same-bind _ _ _ _ (same-itself _) (λ k. done-bind (s, k) rest))))))

pub adder-continues : (a b c : Lit) (xs ys : List Lit) {s t : Encoding} {x k : Lit} → Ran s (full_adder a b c) t (x, k) → Continues s (add (a ∷ xs) (b ∷ ys) c) t (add xs ys k) (λ r. (x ∷ r.0, r.1))
adder-continues a b c xs ys {s} {t} {x} {k} h =
    continues-of (adder-first a b c xs ys) (continues-then (continues-bind _ h) continues-map)

pub adder-stops : (a b c : Lit) (xs ys : List Lit) {s t : Encoding} {e : CircuitFault} → Stopped s (full_adder a b c) t e → Stopped s (add (a ∷ xs) (b ∷ ys) c) t e
adder-stops a b c xs ys h = same-stopped (same-back (adder-first a b c xs ys)) (stopped-first _ h)

pub add-turn : {A : Type 0} {m : Circuit A} (xs ys done : List Literal) (i : ℕ) (a b x n : Literal) (c : Lit) (k : List Lit × Lit → A) {s u t : Encoding} → i < length xs → i < length ys → a ≡ get_or xs i a → b ≡ get_or ys i b →
    Continues s m u (add (drop i (lits_of xs)) (drop i (lits_of ys)) c) (λ r. k (lits_of done ++ r.0, r.1)) → Ran u (full_adder (lit_of a) (lit_of b) c) t (lit_of x, lit_of n) →
    Continues s m t (add (drop (i + 1) (lits_of xs)) (drop (i + 1) (lits_of ys)) (lit_of n)) (λ r. k (lits_of (done ++ x ∷ []) ++ r.0, r.1))
add-turn {A} {m} xs ys done i a b x n c k {s} {u} {t} ha hb ea eb h g =
    let h2 = rw (lits-from xs i a ha ea, lits-from ys i b hb eb) at h in
    continues-same (λ r. k (lits_of (done ++ x ∷ []) ++ r.0, r.1)) (continues-then h2 (adder-continues _ _ c _ _ g)) (λ r. ap (λ (q : List Lit). k (q, r.1)) (lits-behind done x r.0))

pub add-stops : {A : Type 0} {m : Circuit A} (xs ys : List Literal) (i : ℕ) (a b : Literal) (c : Lit) (k : List Lit × Lit → A) {s u t : Encoding} {e : CircuitFault} → i < length xs → i < length ys → a ≡ get_or xs i a → b ≡ get_or ys i b →
    Continues s m u (add (drop i (lits_of xs)) (drop i (lits_of ys)) c) k → Stopped u (full_adder (lit_of a) (lit_of b) c) t e → Stopped s m t e
add-stops {A} {m} xs ys i a b c k {s} {u} {t} ha hb ea eb h g =
    let h2 = rw (lits-from xs i a ha ea, lits-from ys i b hb eb) at h in
    continues-stopped h2 (adder-stops _ _ c _ _ g)

add-end : (xs ys : List Lit) (c : Lit) {s : Encoding} → min (length xs) (length ys) ≡ 0 → Ran s (add xs ys c) s ([], c)
unfolding add
add-end [] ys c h = ran-done _ ([], c)
add-end (a ∷ xs) [] c h = ran-done _ ([], c)
add-end (a ∷ xs) (b ∷ ys) c h = absurd (omega (arith, h))

pub add-ends : {A : Type 0} {m : Circuit A} (xs ys done : List Literal) (i : ℕ) (c : Lit) (k : List Lit × Lit → A) {s u : Encoding} → min (length xs) (length ys) ≤ i →
    Continues s m u (add (drop i (lits_of xs)) (drop i (lits_of ys)) c) (λ r. k (lits_of done ++ r.0, r.1)) → Ran s m u (k (lits_of done, c))
add-ends {A} {m} xs ys done i c k {s} {u} end h =
    let e : min (length (drop i (lits_of xs))) (length (drop i (lits_of ys))) ≡ 0 = rw (lits-end xs i, lits-end ys i) (omega (arith, end)) in
    rw (sym (append-nil (lits_of done))) (continues-ran h (add-end _ _ c e))

-- so does a comparison
pub carry-turn : {A : Type 0} {m : Circuit A} (xs ys : List Literal) (i : ℕ) (a b x : Literal) (c : Lit) (k : Lit → A) {s u t : Encoding} → i < length xs → i < length ys → a ≡ get_or xs i a → b ≡ get_or ys i b →
    Continues s m u (carry (drop i (lits_of xs)) (drop i (lits_of ys)) c) k → Ran u (maj (lit_of a) (neg (lit_of b)) c) t (lit_of x) →
    Continues s m t (carry (drop (i + 1) (lits_of xs)) (drop (i + 1) (lits_of ys)) (lit_of x)) k
unfolding carry
carry-turn {A} {m} xs ys i a b x c k {s} {u} {t} ha hb ea eb h g =
    let h2 = rw (lits-from xs i a ha ea, lits-from ys i b hb eb) at h in
    continues-then h2 (continues-bind _ g)

pub carry-stops : {A : Type 0} {m : Circuit A} (xs ys : List Literal) (i : ℕ) (a b : Literal) (c : Lit) (k : Lit → A) {s u t : Encoding} {e : CircuitFault} → i < length xs → i < length ys → a ≡ get_or xs i a → b ≡ get_or ys i b →
    Continues s m u (carry (drop i (lits_of xs)) (drop i (lits_of ys)) c) k → Stopped u (maj (lit_of a) (neg (lit_of b)) c) t e → Stopped s m t e
unfolding carry
carry-stops {A} {m} xs ys i a b c k {s} {u} {t} ha hb ea eb h g =
    let h2 = rw (lits-from xs i a ha ea, lits-from ys i b hb eb) at h in
    continues-stopped h2 (stopped-first _ g)

carry-end : (xs ys : List Lit) (c : Lit) {s : Encoding} → min (length xs) (length ys) ≡ 0 → Ran s (carry xs ys c) s c
unfolding carry
carry-end [] ys c h = ran-done _ c
carry-end (a ∷ xs) [] c h = ran-done _ c
carry-end (a ∷ xs) (b ∷ ys) c h = absurd (omega (arith, h))

pub carry-ends : {A : Type 0} {m : Circuit A} (xs ys : List Literal) (i : ℕ) (c : Lit) (k : Lit → A) {s u : Encoding} → min (length xs) (length ys) ≤ i →
    Continues s m u (carry (drop i (lits_of xs)) (drop i (lits_of ys)) c) k → Ran s m u (k c)
carry-ends {A} {m} xs ys i c k {s} {u} end h =
    let e : min (length (drop i (lits_of xs))) (length (drop i (lits_of ys))) ≡ 0 = rw (lits-end xs i, lits-end ys i) (omega (arith, end)) in
    continues-ran h (carry-end _ _ c e)
