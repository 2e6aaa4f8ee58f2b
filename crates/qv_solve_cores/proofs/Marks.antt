-- Marks of places, and lists without the places whose items are gone.
use Rattle.std.proofs.Common.{◌≡◌, ℕ, zero, suc, ◌+◌, ◌<◌, ◌≤◌, ◌==◌, nat_lt, Bool, true, false, cond, not, ◌&&◌, ◌||◌, List, [], ◌∷◌, ◌++◌, length, map, drop, set, filter, replicate, Some, None, slice_get, get_or, refl, sym, ◌∙◌, ap, subst, arith, add-one, append_assoc}
use Rattle.std.specs.Prelude.{All}
use Rattle.std.specs.List.{AllByRecursion}
use Rattle.std.proofs.lemmas.Bool.{ne_eqb, eq-eqb, eqb-true, ltb-true, ltb-false}
use Rattle.std.proofs.lemmas.List.{at_drop_more}
use Rattle.std.proofs.lemmas.List.Folds.{list_any-append}
use Rattle.std.proofs.lemmas.List.Elements.{All-from_recursion}
use Rattle.qv_cnf.specs.Listing.{Rises}
use Rattle.qv_cnf.proofs.Living.{Rises-lower}
use Rattle.qv_core.specs.Searching.{first_from}
use Rattle.qv_core.specs.Without.{is_among, without_from, without, dropped, trial_list, tried}
use Rattle.qv_solve_cores.specs.Marks.{gone, kept_of, AreFewer}

-- ---- tests

or-carry : (k a b : Bool) → (a ≡ true → b ≡ true) → (k || a) ≡ true → (k || b) ≡ true
or-carry true a b h e = refl
or-carry false a b h e = h e

or-later : (k a : Bool) → a ≡ true → (k || a) ≡ true
or-later true a e = refl
or-later false a e = e

and-false : (c : Bool) → (c && false) ≡ false
and-false true = refl
and-false false = refl

-- ---- rising places

-- what is below rising places isn't among them
pub among-above : (low : ℕ) (ns : List ℕ) (p : ℕ) → Rises low ns → p < low → is_among ns p ≡ false
among-above low [] p r lt = refl
among-above low (n ∷ ns) p r lt =
    let le : low ≤ n = r.0 in
    let e : (n == p) ≡ false = ne_eqb n p (λ same. omega (arith, same)) in
    rw e (among-above (n + 1) ns p r.1 (omega arith))

pub gone-rises : (low : ℕ) (named : List ℕ) (kept : List Bool) → Rises low named → Rises low (gone named kept)
gone-rises low [] kept r = tt
gone-rises low (n ∷ ns) [] r = tt
gone-rises low (n ∷ ns) (true ∷ ks) r = let le : low ≤ n = r.0 in Rises-lower (n + 1) low (gone ns ks) (gone-rises (n + 1) ns ks r.1) (omega arith)
gone-rises low (n ∷ ns) (false ∷ ks) r = (r.0, gone-rises (n + 1) ns ks r.1)

pub kept-rises : (low : ℕ) (named : List ℕ) (kept : List Bool) → Rises low named → Rises low (kept_of named kept)
kept-rises low [] kept r = tt
kept-rises low (n ∷ ns) [] r = tt
kept-rises low (n ∷ ns) (false ∷ ks) r = let le : low ≤ n = r.0 in Rises-lower (n + 1) low (kept_of ns ks) (kept-rises (n + 1) ns ks r.1) (omega arith)
kept-rises low (n ∷ ns) (true ∷ ks) r = (r.0, kept-rises (n + 1) ns ks r.1)

-- a smaller number before all others doesn't count
among-skips : (n m : ℕ) (others : List ℕ) → n < m → is_among (n ∷ others) m ≡ is_among others m
among-skips n m others lt = let e : (n == m) ≡ false = ne_eqb n m (λ same. omega (arith, same)) in rw e refl

dropped-skips : (n low : ℕ) (others ms : List ℕ) → n < low → Rises low ms → dropped ms (n ∷ others) ≡ dropped ms others
dropped-skips n low others [] lt r = refl
dropped-skips n low others (m ∷ ms) lt r =
    let le : low ≤ m = r.0 in
    let first : is_among (n ∷ others) m ≡ is_among others m = among-skips n m others (omega arith) in
    let rest : dropped ms (n ∷ others) ≡ dropped ms others = dropped-skips n (m + 1) others ms (omega arith) r.1 in
    ap (λ b. cond (not b) (m ∷ dropped ms (n ∷ others)) (dropped ms (n ∷ others))) first
    ∙ ap (λ l. cond (not (is_among others m)) (m ∷ l) l) rest

-- those that aren't kept are gone, and those that aren't gone are kept
pub dropped-gone : (low : ℕ) (named : List ℕ) (kept : List Bool) → Rises low named → length kept ≡ length named →
    dropped named (kept_of named kept) ≡ gone named kept
dropped-gone low [] kept r e = refl
dropped-gone low (n ∷ ns) [] r e = absurd (omega (arith, e))
dropped-gone low (n ∷ ns) (true ∷ ks) r e =
    rw (eq-eqb n n refl) (dropped-skips n (n + 1) (kept_of ns ks) ns (omega arith) r.1 ∙ dropped-gone (n + 1) ns ks r.1 (omega (arith, e)))
dropped-gone low (n ∷ ns) (false ∷ ks) r e =
    rw (among-above (n + 1) (kept_of ns ks) n (kept-rises (n + 1) ns ks r.1) (omega arith))
    (ap (λ (l : List ℕ). n ∷ l) (dropped-gone (n + 1) ns ks r.1 (omega (arith, e))))

pub tried-kept : (low : ℕ) (named : List ℕ) (kept : List Bool) → Rises low named → length kept ≡ length named →
    tried (gone named kept) named ≡ kept_of named kept
tried-kept low [] kept r e = refl
tried-kept low (n ∷ ns) [] r e = absurd (omega (arith, e))
tried-kept low (n ∷ ns) (false ∷ ks) r e =
    rw (eq-eqb n n refl) (dropped-skips n (n + 1) (gone ns ks) ns (omega arith) r.1 ∙ tried-kept (n + 1) ns ks r.1 (omega (arith, e)))
tried-kept low (n ∷ ns) (true ∷ ks) r e =
    rw (among-above (n + 1) (gone ns ks) n (gone-rises (n + 1) ns ks r.1) (omega arith))
    (ap (λ (l : List ℕ). n ∷ l) (tried-kept (n + 1) ns ks r.1 (omega (arith, e))))

-- ---- all and none

pub gone-all : (named : List ℕ) → gone named (replicate (length named) true) ≡ []
gone-all [] = refl
gone-all (n ∷ ns) = gone-all ns

pub gone-set : (named : List ℕ) (kept : List Bool) (i : ℕ) → i < length named → length kept ≡ length named → gone named (set kept i false) ≡ [] → ⊥
gone-set [] kept i lt e h = omega arith
gone-set (n ∷ ns) [] i lt e h = omega (arith, e)
gone-set (n ∷ ns) (k ∷ ks) zero lt e h = cc
gone-set (n ∷ ns) (true ∷ ks) (suc i) lt e h = gone-set ns ks i (omega (arith, lt)) (omega (arith, e)) h
gone-set (n ∷ ns) (false ∷ ks) (suc i) lt e h = cc

pub all-kept : (named : List ℕ) (kept : List Bool) → length kept ≡ length named → gone named kept ≡ [] → kept_of named kept ≡ named
all-kept [] kept e h = refl
all-kept (n ∷ ns) [] e h = absurd (omega (arith, e))
all-kept (n ∷ ns) (true ∷ ks) e h = ap (λ (l : List ℕ). n ∷ l) (all-kept ns ks (omega (arith, e)) h)
all-kept (n ∷ ns) (false ∷ ks) e h = absurd cc

both-lengths : (named : List ℕ) (kept : List Bool) → length kept ≡ length named → length (kept_of named kept) + length (gone named kept) ≡ length named
both-lengths [] kept e = refl
both-lengths (n ∷ ns) [] e = absurd (omega (arith, e))
both-lengths (n ∷ ns) (true ∷ ks) e = let h = both-lengths ns ks (omega (arith, e)) in omega (arith, h)
both-lengths (n ∷ ns) (false ∷ ks) e = let h = both-lengths ns ks (omega (arith, e)) in omega (arith, h)

no-length : (ns : List ℕ) → length ns ≡ 0 → ns ≡ []
no-length [] e = refl
no-length (n ∷ ns) e = absurd (omega (arith, e))

pub none-gone : (named : List ℕ) (kept : List Bool) → length kept ≡ length named → kept_of named kept ≡ named → gone named kept ≡ []
none-gone named kept e h =
    let both = both-lengths named kept e in
    let same : length (kept_of named kept) ≡ length named = ap length h in
    no-length (gone named kept) (omega (arith, both, same))

-- ---- membership

-- those below a bound
among-below : (x : ℕ) (ns : List ℕ) (p : ℕ) → is_among (filter (λ n. nat_lt n x) ns) p ≡ (is_among ns p && nat_lt p x)
among-below x [] p = refl
among-below x (n ∷ ns) p = one-below x n ns p (nat_lt n x) (n == p) refl refl (among-below x ns p)
  where
    one-below : (x n : ℕ) (ns : List ℕ) (p : ℕ) (b k : Bool) → nat_lt n x ≡ b → (n == p) ≡ k → is_among (filter (λ m. nat_lt m x) ns) p ≡ (is_among ns p && nat_lt p x) →
        is_among (cond b (n ∷ filter (λ m. nat_lt m x) ns) (filter (λ m. nat_lt m x) ns)) p ≡ ((k || is_among ns p) && nat_lt p x)
    one-below x n ns p true true e f rest = let same : n ≡ p = eqb-true n p f in let h : nat_lt p x ≡ true = subst (λ m. nat_lt m x ≡ true) same e in rw (f, h) refl
    one-below x n ns p true false e f rest = rw f rest
    one-below x n ns p false true e f rest = let same : n ≡ p = eqb-true n p f in let h : nat_lt p x ≡ false = subst (λ m. nat_lt m x ≡ false) same e in
        rw (rest, h) (and-false (is_among ns p))
    one-below x n ns p false false e f rest = rest

-- one more is gone
pub among-set : (named : List ℕ) (kept : List Bool) (i x p : ℕ) → length kept ≡ length named → slice_get named i ≡ Some x →
    is_among (gone named (set kept i false)) p ≡ ((x == p) || is_among (gone named kept) p)
among-set [] kept i x p e at = absurd cc
among-set (n ∷ ns) [] i x p e at = absurd (omega (arith, e))
among-set (n ∷ ns) (true ∷ ks) zero x p e at = let same : n ≡ x = cc in ap (λ m. (m == p) || is_among (gone ns ks) p) same
among-set (n ∷ ns) (false ∷ ks) zero x p e at = let same : n ≡ x = cc in
    rw same (twice (x == p) (is_among (gone ns ks) p))
  where
    twice : (a b : Bool) → (a || b) ≡ (a || (a || b))
    twice true b = refl
    twice false b = refl
among-set (n ∷ ns) (true ∷ ks) (suc i) x p e at = among-set ns ks i x p (omega (arith, e)) at
among-set (n ∷ ns) (false ∷ ks) (suc i) x p e at = rw (among-set ns ks i x p (omega (arith, e)) at) (swapped (n == p) (x == p) (is_among (gone ns ks) p))
  where
    swapped : (a b c : Bool) → (a || (b || c)) ≡ (b || (a || c))
    swapped true true c = refl
    swapped true false c = refl
    swapped false true c = refl
    swapped false false c = refl

-- what was gone is gone still
pub fewer-gone : (named : List ℕ) (now before : List Bool) (p : ℕ) → AreFewer now before → is_among (gone named before) p ≡ true → is_among (gone named now) p ≡ true
fewer-gone [] now before p f h = h
fewer-gone (n ∷ ns) [] [] p f h = h
fewer-gone (n ∷ ns) (false ∷ a) (true ∷ b) p f h = or-later (n == p) (is_among (gone ns a) p) (fewer-gone ns a b p f h)
fewer-gone (n ∷ ns) (false ∷ a) (false ∷ b) p f h = or-carry (n == p) (is_among (gone ns b) p) (is_among (gone ns a) p) (fewer-gone ns a b p f) h
fewer-gone (n ∷ ns) (true ∷ a) (true ∷ b) p f h = fewer-gone ns a b p f h
fewer-gone (n ∷ ns) (true ∷ a) (false ∷ b) p f h = absurd f
fewer-gone (n ∷ ns) [] (b ∷ bs) p f h = absurd f
fewer-gone (n ∷ ns) (false ∷ a) [] p f h = absurd f
fewer-gone (n ∷ ns) (true ∷ a) [] p f h = absurd f

-- an item stands at or above the least
at-least : (low : ℕ) (ns : List ℕ) (i x : ℕ) → Rises low ns → slice_get ns i ≡ Some x → low ≤ x
at-least low [] i x r at = absurd cc
at-least low (n ∷ ns) zero x r at = let le : low ≤ n = r.0 in let same : n ≡ x = cc in omega arith
at-least low (n ∷ ns) (suc i) x r at = let le : low ≤ n = r.0 in let more : n + 1 ≤ x = at-least (n + 1) ns i x r.1 at in omega arith

-- where the marks agree from an item on, what is gone from there on does
gone-behind : (low : ℕ) (named : List ℕ) (now before : List Bool) (i x p : ℕ) → Rises low named → length now ≡ length named → length before ≡ length named →
    drop i now ≡ drop i before → slice_get named i ≡ Some x → x ≤ p → is_among (gone named now) p ≡ is_among (gone named before) p
gone-behind low [] now before i x p r e f same at le = refl
gone-behind low (n ∷ ns) now before zero x p r e f same at le = ap (λ ks. is_among (gone (n ∷ ns) ks) p) same
gone-behind low (n ∷ ns) [] before (suc i) x p r e f same at le = absurd (omega (arith, e))
gone-behind low (n ∷ ns) (a ∷ now) [] (suc i) x p r e f same at le = absurd (omega (arith, f))
gone-behind low (n ∷ ns) (a ∷ now) (b ∷ before) (suc i) x p r e f same at le =
    let more : n + 1 ≤ x = at-least (n + 1) ns i x r.1 at in
    let rest = gone-behind (n + 1) ns now before i x p r.1 (omega (arith, e)) (omega (arith, f)) same at le in
    passes n ns a now p (omega arith) ∙ rest ∙ sym (passes n ns b before p (omega arith))
  where
    passes : (n : ℕ) (ns : List ℕ) (a : Bool) (ks : List Bool) (p : ℕ) → n < p → is_among (gone (n ∷ ns) (a ∷ ks)) p ≡ is_among (gone ns ks) p
    passes n ns true ks p lt = refl
    passes n ns false ks p lt = among-skips n p (gone ns ks) lt

-- what is left out in the trial of an item
pub trial-among : (low : ℕ) (named : List ℕ) (now before : List Bool) (i x p : ℕ) → Rises low named → AreFewer now before → length now ≡ length named → length before ≡ length named →
    drop i now ≡ drop i before → slice_get named i ≡ Some x →
    is_among (gone named (set now i false)) p ≡ is_among (x ∷ gone named before ++ filter (λ n. nat_lt n x) (gone named now)) p
trial-among low named now before i x p r fewer e f same at =
    among-set named now i x p e at ∙ ap (λ b. (x == p) || b) (cases (nat_lt p x) refl
    ∙ ap (λ b. is_among (gone named before) p || b) (sym (among-below x (gone named now) p))
    ∙ sym (list_any-append (λ m. m == p) (gone named before) (filter (λ n. nat_lt n x) (gone named now))))
  where
    one-in : (a b : Bool) → (b ≡ true → a ≡ true) → a ≡ (b || (a && true))
    one-in true true h = refl
    one-in true false h = refl
    one-in false true h = h refl
    one-in false false h = refl

    same-in : (a b : Bool) → a ≡ b → a ≡ (b || (a && false))
    same-in true true h = refl
    same-in true false h = h
    same-in false true h = h
    same-in false false h = refl

    cases : (k : Bool) → nat_lt p x ≡ k → is_among (gone named now) p ≡ (is_among (gone named before) p || (is_among (gone named now) p && nat_lt p x))
    cases true h = rw h (one-in (is_among (gone named now) p) (is_among (gone named before) p) (fewer-gone named now before p fewer))
    cases false h = rw h (same-in (is_among (gone named now) p) (is_among (gone named before) p) (gone-behind low named now before i x p r e f same at (ltb-false p x h)))

-- ---- fewer and fewer

pub fewer-self : (ks : List Bool) → AreFewer ks ks
fewer-self [] = tt
fewer-self (true ∷ ks) = fewer-self ks
fewer-self (false ∷ ks) = fewer-self ks

pub fewer-set : (now before : List Bool) (i : ℕ) → AreFewer now before → AreFewer (set now i false) before
fewer-set [] [] i f = tt
fewer-set [] (b ∷ bs) i f = f
fewer-set (true ∷ a) [] i f = absurd f
fewer-set (false ∷ a) [] i f = absurd f
fewer-set (true ∷ a) (true ∷ bs) zero f = f
fewer-set (true ∷ a) (false ∷ bs) zero f = absurd f
fewer-set (false ∷ a) (b ∷ bs) zero f = f
fewer-set (true ∷ a) (true ∷ bs) (suc i) f = fewer-set a bs i f
fewer-set (true ∷ a) (false ∷ bs) (suc i) f = absurd f
fewer-set (false ∷ a) (b ∷ bs) (suc i) f = fewer-set a bs i f

pub fewer-length : (now before : List Bool) → AreFewer now before → length now ≡ length before
fewer-length [] [] f = refl
fewer-length [] (b ∷ bs) f = absurd f
fewer-length (true ∷ a) [] f = absurd f
fewer-length (false ∷ a) [] f = absurd f
fewer-length (true ∷ a) (true ∷ bs) f = let h = fewer-length a bs f in omega (arith, h)
fewer-length (true ∷ a) (false ∷ bs) f = absurd f
fewer-length (false ∷ a) (b ∷ bs) f = let h = fewer-length a bs f in omega (arith, h)

-- what is kept wasn't gone
pub kept-apart : (low : ℕ) (named : List ℕ) (now before : List Bool) (p : ℕ) → Rises low named → AreFewer now before → is_among (kept_of named now) p ≡ true → is_among (gone named before) p ≡ false
kept-apart low [] now before p r f h = absurd cc
kept-apart low (n ∷ ns) [] before p r f h = absurd cc
kept-apart low (n ∷ ns) (true ∷ a) [] p r f h = absurd f
kept-apart low (n ∷ ns) (false ∷ a) [] p r f h = absurd f
kept-apart low (n ∷ ns) (true ∷ a) (false ∷ b) p r f h = absurd f
kept-apart low (n ∷ ns) (true ∷ a) (true ∷ b) p r f h = first n ns a b p r.1 (n == p) refl h (kept-apart (n + 1) ns a b p r.1 f)
  where
    first : (n : ℕ) (ns : List ℕ) (a b : List Bool) (p : ℕ) → Rises (n + 1) ns → (k : Bool) → (n == p) ≡ k → (k || is_among (kept_of ns a) p) ≡ true → (is_among (kept_of ns a) p ≡ true → is_among (gone ns b) p ≡ false) → is_among (gone ns b) p ≡ false
    first n ns a b p r true e hh rest = let same : n ≡ p = eqb-true n p e in among-above (n + 1) (gone ns b) p (gone-rises (n + 1) ns b r) (omega (arith, same))
    first n ns a b p r false e hh rest = rest hh
kept-apart low (n ∷ ns) (false ∷ a) (true ∷ b) p r f h = kept-apart (n + 1) ns a b p r.1 f h
kept-apart low (n ∷ ns) (false ∷ a) (false ∷ b) p r f h = second n ns a b p r.1 (n == p) refl h (kept-apart (n + 1) ns a b p r.1 f h)
  where
    second : (n : ℕ) (ns : List ℕ) (a b : List Bool) (p : ℕ) → Rises (n + 1) ns → (k : Bool) → (n == p) ≡ k → is_among (kept_of ns a) p ≡ true → is_among (gone ns b) p ≡ false → (k || is_among (gone ns b) p) ≡ false
    second n ns a b p r true e h rest = let same : n ≡ p = eqb-true n p e in
        let none : is_among (kept_of ns a) p ≡ false = among-above (n + 1) (kept_of ns a) p (kept-rises (n + 1) ns a r) (omega (arith, same)) in absurd cc
    second n ns a b p r false e h rest = rest

pub kept-named : (named : List ℕ) (kept : List Bool) (p : ℕ) → is_among (kept_of named kept) p ≡ true → is_among named p ≡ true
kept-named [] kept p h = h
kept-named (n ∷ ns) [] p h = absurd cc
kept-named (n ∷ ns) (true ∷ ks) p h = or-carry (n == p) (is_among (kept_of ns ks) p) (is_among ns p) (kept-named ns ks p) h
kept-named (n ∷ ns) (false ∷ ks) p h = or-later (n == p) (is_among ns p) (kept-named ns ks p h)

pub gone-named : (named : List ℕ) (kept : List Bool) (p : ℕ) → is_among (gone named kept) p ≡ true → is_among named p ≡ true
gone-named [] kept p h = h
gone-named (n ∷ ns) [] p h = absurd cc
gone-named (n ∷ ns) (false ∷ ks) p h = or-carry (n == p) (is_among (gone ns ks) p) (is_among ns p) (gone-named ns ks p) h
gone-named (n ∷ ns) (true ∷ ks) p h = or-later (n == p) (is_among ns p) (gone-named ns ks p h)

-- what is kept with one item less was kept
pub kept-set : (named : List ℕ) (kept : List Bool) (i p : ℕ) → is_among (kept_of named (set kept i false)) p ≡ true → is_among (kept_of named kept) p ≡ true
kept-set [] kept i p h = h
kept-set (n ∷ ns) [] i p h = h
kept-set (n ∷ ns) (true ∷ ks) zero p h = or-later (n == p) (is_among (kept_of ns ks) p) h
kept-set (n ∷ ns) (false ∷ ks) zero p h = h
kept-set (n ∷ ns) (true ∷ ks) (suc i) p h = or-carry (n == p) (is_among (kept_of ns (set ks i false)) p) (is_among (kept_of ns ks) p) (kept-set ns ks i p) h
kept-set (n ∷ ns) (false ∷ ks) (suc i) p h = kept-set ns ks i p h

-- and that item isn't kept
pub set-unkept : (low : ℕ) (named : List ℕ) (kept : List Bool) (i x : ℕ) → Rises low named → slice_get named i ≡ Some x → is_among (kept_of named (set kept i false)) x ≡ false
set-unkept low [] kept i x r at = refl
set-unkept low (n ∷ ns) [] i x r at = refl
set-unkept low (n ∷ ns) (k ∷ ks) zero x r at = let same : n ≡ x = cc in among-above (n + 1) (kept_of ns ks) x (kept-rises (n + 1) ns ks r.1) (omega (arith, same))
set-unkept low (n ∷ ns) (true ∷ ks) (suc i) x r at =
    let more : n + 1 ≤ x = at-least (n + 1) ns i x r.1 at in
    among-skips n x (kept_of ns (set ks i false)) (omega arith) ∙ set-unkept (n + 1) ns ks i x r.1 at
set-unkept low (n ∷ ns) (false ∷ ks) (suc i) x r at = set-unkept (n + 1) ns ks i x r.1 at

-- all of these are among some
pub each-among : (P : ℕ → Type 0) (ns : List ℕ) → ((p : ℕ) → is_among ns p ≡ true → P p) → All P ns
each-among P ns h = All-from_recursion P ns (go ns h)
  where
    go : (ms : List ℕ) → ((p : ℕ) → is_among ms p ≡ true → P p) → AllByRecursion P ms
    go [] k = tt
    go (m ∷ ms) k = (k m (rw (eq-eqb m m refl) refl), go ms (λ p e. k p (later (m == p) (is_among ms p) e)))
      where
        later : (a b : Bool) → b ≡ true → (a || b) ≡ true
        later true b e = refl
        later false b e = e

-- ---- lists without places

without_from-same : {A : Type 0} (a b : List ℕ) (n : ℕ) (xs : List A) → ((p : ℕ) → is_among a p ≡ is_among b p) → without_from a n xs ≡ without_from b n xs
without_from-same a b n [] h = refl
without_from-same {A} a b n (x ∷ xs) h =
    let rest : without_from a (suc n) xs ≡ without_from b (suc n) xs = without_from-same a b (suc n) xs h in
    ap (λ c. cond c (without_from a (suc n) xs) (x ∷ without_from a (suc n) xs)) (h n)
    ∙ ap (λ (l : List A). cond (is_among b n) l (x ∷ l)) rest

pub without-same : {A : Type 0} (a b : List ℕ) (xs : List A) → ((p : ℕ) → is_among a p ≡ is_among b p) → without a xs ≡ without b xs
without-same a b xs h = without_from-same a b 0 xs h

without_from-none : {A : Type 0} (n : ℕ) (xs : List A) → without_from [] n xs ≡ xs
without_from-none n [] = refl
without_from-none {A} n (x ∷ xs) = ap (λ (l : List A). x ∷ l) (without_from-none (suc n) xs)

pub without-none : {A : Type 0} (xs : List A) → without [] xs ≡ xs
without-none xs = without_from-none 0 xs

map-without_from : {A B : Type 0} (f : A → B) (out : List ℕ) (n : ℕ) (xs : List A) → map f (without_from out n xs) ≡ without_from out n (map f xs)
map-without_from f out n [] = refl
map-without_from {A} {B} f out n (x ∷ xs) = both (is_among out n) (map-without_from f out (suc n) xs)
  where
    both : (b : Bool) → map f (without_from out (suc n) xs) ≡ without_from out (suc n) (map f xs) →
        map f (cond b (without_from out (suc n) xs) (x ∷ without_from out (suc n) xs)) ≡ cond b (without_from out (suc n) (map f xs)) (f x ∷ without_from out (suc n) (map f xs))
    both true rest = rest
    both false rest = ap (λ (l : List B). f x ∷ l) rest

pub map-without : {A B : Type 0} (f : A → B) (out : List ℕ) (xs : List A) → map f (without out xs) ≡ without out (map f xs)
map-without f out xs = map-without_from f out 0 xs

-- the list of an earlier trial doesn't change where a later item goes
pub earlier-stays : {A : Type 0} (named together : List ℕ) (kept : List Bool) (i x y : ℕ) (xs : List A) → Rises 0 named → length kept ≡ length named → slice_get named i ≡ Some x → y < x →
    trial_list together named (kept_of named kept) y xs ≡ trial_list together named (kept_of named (set kept i false)) y xs
earlier-stays {A} named together kept i x y xs r e at lt =
    let before : dropped named (kept_of named kept) ≡ gone named kept = dropped-gone 0 named kept r e in
    let after : dropped named (kept_of named (set kept i false)) ≡ gone named (set kept i false) = dropped-gone 0 named (set kept i false) r (set-length kept i ∙ e) in
    rw (before, after) (without-same (y ∷ together ++ below (gone named kept)) (y ∷ together ++ below (gone named (set kept i false))) xs each)
  where
    set-length : (ks : List Bool) (i : ℕ) → length (set ks i false) ≡ length ks
    set-length [] i = refl
    set-length (k ∷ ks) zero = refl
    set-length (k ∷ ks) (suc i) = let h = set-length ks i in omega (arith, h)

    below : List ℕ → List ℕ
    below ns = filter (λ n. nat_lt n y) ns

    one : (p : ℕ) (k : Bool) → nat_lt p y ≡ k → (is_among (gone named kept) p && k) ≡ (((x == p) || is_among (gone named kept) p) && k)
    one p true h = let differs : (x == p) ≡ false = ne_eqb x p (λ same. let below = ltb-true p y h in omega (arith, same, below)) in rw differs refl
    one p false h = both (is_among (gone named kept) p) (x == p)
      where
        both : (a b : Bool) → (a && false) ≡ ((b || a) && false)
        both true true = refl
        both true false = refl
        both false true = refl
        both false false = refl

    each : (p : ℕ) → is_among (y ∷ together ++ filter (λ n. nat_lt n y) (gone named kept)) p ≡ is_among (y ∷ together ++ filter (λ n. nat_lt n y) (gone named (set kept i false))) p
    each p = ap (λ b. (y == p) || b) (list_any-append (λ m. m == p) together (filter (λ n. nat_lt n y) (gone named kept))
        ∙ ap (λ b. is_among together p || b) (among-below y (gone named kept) p ∙ one p (nat_lt p y) refl
        ∙ ap (λ b. b && nat_lt p y) (sym (among-set named kept i x p e at)) ∙ sym (among-below y (gone named (set kept i false)) p))
        ∙ sym (list_any-append (λ m. m == p) together (filter (λ n. nat_lt n y) (gone named (set kept i false)))))

-- ---- one item after another

-- the first that is kept, and what is kept behind it
pub record IsFirst (n : ℕ) (ns : List ℕ) (ks : List Bool) (item : ℕ) : Type 0 where
  pub behind : ℕ
  pub place : ℕ
  pub item_is : item ≡ n + behind
  pub at : slice_get ns behind ≡ Some place
  pub kept_are : kept_of ns ks ≡ place ∷ kept_of (drop (suc behind) ns) (drop (suc behind) ks)

pub first-is : (n : ℕ) (ns : List ℕ) (ks : List Bool) (item : ℕ) → length ks ≡ length ns → first_from n ks ≡ Some item → IsFirst n ns ks item
first-is n ns [] item e h = absurd cc
first-is n [] (k ∷ ks) item e h = absurd (omega (arith, e))
first-is n (m ∷ ns) (true ∷ ks) item e h =
    let same : n ≡ item = cc in
    record { behind = 0; place = m; item_is = omega (arith, same); at = refl; kept_are = refl }
first-is n (m ∷ ns) (false ∷ ks) item e h =
    let rest = first-is (n + 1) ns ks item (omega (arith, e)) h in
    let is : item ≡ (n + 1) + rest.behind = rest.item_is in
    record { behind = suc rest.behind; place = rest.place; item_is = omega (arith, is); at = rest.at; kept_are = rest.kept_are }

pub none-first : (n : ℕ) (ns : List ℕ) (ks : List Bool) → first_from n ks ≡ None → kept_of ns ks ≡ []
none-first n [] ks h = refl
none-first n (m ∷ ns) [] h = refl
none-first n (m ∷ ns) (true ∷ ks) h = absurd cc
none-first n (m ∷ ns) (false ∷ ks) h = none-first (n + 1) ns ks h

-- of rising places those before one are below it
pub before-below : (low : ℕ) (a : List ℕ) (x : ℕ) (b : List ℕ) → Rises low (a ++ x ∷ b) → AllByRecursion (λ y. y < x) a
before-below low [] x b r = tt
before-below low (y ∷ a) x b r = (let h : y + 1 ≤ x = first (y + 1) a x b r.1 in omega arith, before-below (y + 1) a x b r.1)
  where
    first : (low : ℕ) (a : List ℕ) (x : ℕ) (b : List ℕ) → Rises low (a ++ x ∷ b) → low ≤ x
    first low [] x b r = r.0
    first low (z ∷ a) x b r = let le : low ≤ z = r.0 in let more : z + 1 ≤ x = first (z + 1) a x b r.1 in omega arith

-- ---- one place after another

kept-more : (named : List ℕ) (kept : List Bool) (n : ℕ) → n < length named → n < length kept →
    kept_of (drop n named) (drop n kept) ≡ cond (get_or kept n false) (get_or named n 0 ∷ kept_of (drop (n + 1) named) (drop (n + 1) kept)) (kept_of (drop (n + 1) named) (drop (n + 1) kept))
kept-more named kept n lt within =
    at_drop_more (λ ns. kept_of ns (drop n kept)) named n 0 lt
    ∙ at_drop_more (kept_of (get_or named n 0 ∷ drop (n + 1) named)) kept n false within
    ∙ by-mark (get_or kept n false) (get_or named n 0) (drop (n + 1) named) (drop (n + 1) kept)
  where
    by-mark : (b : Bool) (m : ℕ) (ns : List ℕ) (ks : List Bool) → kept_of (m ∷ ns) (b ∷ ks) ≡ cond b (m ∷ kept_of ns ks) (kept_of ns ks)
    by-mark true m ns ks = refl
    by-mark false m ns ks = refl

-- an item that is kept comes next, and one that isn't is passed
pub kept-takes : (named : List ℕ) (kept : List Bool) (n : ℕ) → n < length named → length kept ≡ length named → get_or kept n false ≡ true →
    kept_of (drop n named) (drop n kept) ≡ get_or named n 0 ∷ kept_of (drop (n + 1) named) (drop (n + 1) kept)
kept-takes named kept n lt e h = kept-more named kept n lt (omega (arith, lt, e)) ∙ rw h refl

pub kept-passes : (named : List ℕ) (kept : List Bool) (n : ℕ) → n < length named → length kept ≡ length named → get_or kept n false ≡ false →
    kept_of (drop n named) (drop n kept) ≡ kept_of (drop (n + 1) named) (drop (n + 1) kept)
kept-passes named kept n lt e h = kept-more named kept n lt (omega (arith, lt, e)) ∙ rw h refl

-- where a walk over all places stands: the next of the places that have names is an item
pub record IsNext (place : ℕ) (named : List ℕ) (kept : List Bool) (item : ℕ) : Type 0 where
  pub rises : Rises place (drop item named)
  pub same : (p : ℕ) → place ≤ p → is_among (gone named kept) p ≡ is_among (gone (drop item named) (drop item kept)) p

pub next-begins : (named : List ℕ) (kept : List Bool) → Rises 0 named → IsNext 0 named kept 0
next-begins named kept r = record { rises = r; same = λ p le. refl }

rises-on : (place : ℕ) (ns : List ℕ) → Rises place ns → (slice_get ns 0 ≡ Some place → ⊥) → Rises (place + 1) ns
rises-on place [] r h = tt
rises-on place (n ∷ ns) r h = let le : place ≤ n = r.0 in (let differs : n ≡ place → ⊥ = λ e. h (ap Some e) in omega (arith, le, differs), r.1)

get-first : {X : Type 0} (xs : List X) (i : ℕ) → slice_get (drop i xs) 0 ≡ slice_get xs i
get-first [] zero = refl
get-first [] (suc i) = refl
get-first (x ∷ xs) zero = refl
get-first (x ∷ xs) (suc i) = get-first xs i

-- a place without a name
pub next-passes : (place : ℕ) (named : List ℕ) (kept : List Bool) (item : ℕ) → IsNext place named kept item → (slice_get named item ≡ Some place → ⊥) →
    IsNext (place + 1) named kept item × (is_among (gone named kept) place ≡ false)
next-passes place named kept item h not =
    let r : Rises (place + 1) (drop item named) = rises-on place (drop item named) h.rises (λ e. not (sym (get-first named item) ∙ e)) in (
      record { rises = r; same = λ p le. h.same p (omega (arith, le)) },
      h.same place (omega arith) ∙ among-above (place + 1) (gone (drop item named) (drop item kept)) place (gone-rises (place + 1) (drop item named) (drop item kept) r) (omega arith),
    )

-- and one with a name
pub next-meets : (place : ℕ) (named : List ℕ) (kept : List Bool) (item : ℕ) → IsNext place named kept item → length kept ≡ length named → slice_get named item ≡ Some place →
    IsNext (place + 1) named kept (item + 1) × (is_among (gone named kept) place ≡ not (get_or kept item false))
next-meets place named kept item h e at =
    let within : item < length named = get-within named item place at in
    let is : get_or named item 0 ≡ place = get-is named item place at in
    let names : drop item named ≡ place ∷ drop (item + 1) named = at_drop_more (λ (l : List ℕ). l) named item 0 within ∙ ap (λ n. n ∷ drop (item + 1) named) is in
    let marks : drop item kept ≡ get_or kept item false ∷ drop (item + 1) kept = at_drop_more (λ (l : List Bool). l) kept item false (omega (arith, within, e)) in
    let r : Rises place (place ∷ drop (item + 1) named) = subst (Rises place) names h.rises in
    let whole : (p : ℕ) → place ≤ p → is_among (gone named kept) p ≡ is_among (gone (place ∷ drop (item + 1) named) (get_or kept item false ∷ drop (item + 1) kept)) p =
    λ p le. h.same p le ∙ ap (λ (ns : List ℕ). is_among (gone ns (drop item kept)) p) names ∙ ap (λ (ks : List Bool). is_among (gone (place ∷ drop (item + 1) named) ks) p) marks in (
      record {
        rises = r.1;
        same = λ p le. whole p (omega (arith, le)) ∙ behind place (drop (item + 1) named) (get_or kept item false) (drop (item + 1) kept) p (omega (arith, le));
      },
      whole place (omega arith) ∙ own place (drop (item + 1) named) (get_or kept item false) (drop (item + 1) kept) r.1,
    )
  where
    get-within : (ns : List ℕ) (i x : ℕ) → slice_get ns i ≡ Some x → i < length ns
    get-within [] i x h = absurd cc
    get-within (n ∷ ns) zero x h = omega arith
    get-within (n ∷ ns) (suc i) x h = let lt = get-within ns i x h in omega (arith, lt)

    get-is : (ns : List ℕ) (i x : ℕ) → slice_get ns i ≡ Some x → get_or ns i 0 ≡ x
    get-is [] i x h = absurd cc
    get-is (n ∷ ns) zero x h = cc
    get-is (n ∷ ns) (suc i) x h = get-is ns i x h

    behind : (n : ℕ) (ns : List ℕ) (b : Bool) (ks : List Bool) (p : ℕ) → n < p → is_among (gone (n ∷ ns) (b ∷ ks)) p ≡ is_among (gone ns ks) p
    behind n ns true ks p lt = refl
    behind n ns false ks p lt = among-skips n p (gone ns ks) lt

    own : (n : ℕ) (ns : List ℕ) (b : Bool) (ks : List Bool) → Rises (n + 1) ns → is_among (gone (n ∷ ns) (b ∷ ks)) n ≡ not b
    own n ns true ks r = among-above (n + 1) (gone ns ks) n (gone-rises (n + 1) ns ks r) (omega arith)
    own n ns false ks r = rw (eq-eqb n n refl) refl

-- a list without places, one place further
without-more : {A : Type 0} (out : List ℕ) (xs : List A) (n : ℕ) (d : A) → n < length xs →
    without_from out n (drop n xs) ≡ cond (is_among out n) (without_from out (n + 1) (drop (n + 1) xs)) (get_or xs n d ∷ without_from out (n + 1) (drop (n + 1) xs))
without-more {A} out xs n d lt = at_drop_more (without_from out n) xs n d lt
    ∙ ap (λ m. cond (is_among out n) (without_from out m (drop (n + 1) xs)) (get_or xs n d ∷ without_from out m (drop (n + 1) xs))) (sym (add-one n))

pub without-passes : {A : Type 0} (out : List ℕ) (xs : List A) (n : ℕ) (d : A) → n < length xs → is_among out n ≡ true →
    without_from out n (drop n xs) ≡ without_from out (n + 1) (drop (n + 1) xs)
without-passes out xs n d lt h = without-more out xs n d lt ∙ rw h refl

-- what is listed takes the next
pub listed-takes : {A : Type 0} (old new next rest whole : List A) (x : A) → new ≡ old ++ x ∷ [] → next ≡ x ∷ rest → old ++ next ≡ whole → new ++ rest ≡ whole
listed-takes {A} old new next rest whole x pushed step h = ap (λ (l : List A). l ++ rest) pushed ∙ append_assoc old (x ∷ []) rest ∙ ap (λ (l : List A). old ++ l) (sym step) ∙ h

-- or passes it
pub listed-passes : {A : Type 0} (old new next rest whole : List A) → new ≡ old → next ≡ rest → old ++ next ≡ whole → new ++ rest ≡ whole
listed-passes {A} old new next rest whole same step h = ap (λ (l : List A). l ++ rest) same ∙ ap (λ (l : List A). old ++ l) (sym step) ∙ h

pub without-step : {A : Type 0} (out : List ℕ) (xs : List A) (n : ℕ) (d : A) → n < length xs → is_among out n ≡ false →
    without_from out n (drop n xs) ≡ get_or xs n d ∷ without_from out (n + 1) (drop (n + 1) xs)
without-step out xs n d lt h = without-more out xs n d lt ∙ rw h refl
