-- The runs of a point's named bits, place by place.
use Rattle.std.proofs.Common.{◌≡◌, ℕ, zero, suc, ◌+◌, ◌/◌, ◌≤◌, ◌<◌, ◌==◌, ◌⊎◌, inl, inr, Bool, true, cond, Some, None, List, [], ◌∷◌, ◌++◌, length, map, slice_get, refl, sym, ap, ◌∙◌, subst, arith}
use Rattle.std.specs.Int.{bit_at}
use Rattle.std.specs.List.{AllByRecursion}
use Rattle.std.proofs.lemmas.List.{length-map}
use Rattle.std.proofs.lemmas.Nat.Bits.{bit_at_lowest, bit_at-suc}
use Rattle.qv_words.specs.Tree.{Tree}
use Rattle.qv_words.specs.Gate.{Lit, neg}
use Rattle.qv_words.specs.Clauses.{Blasted}
use Rattle.qv_words.specs.Linked.{Run, AreApart}
use Rattle.qv_words.proofs.Elements.{all-weaker}
use Rattle.qv_words.proofs.Leaves.{both}
use Rattle.qv_game_entry_laws.specs.Fixings.{bits_found, fixed, fixings, named_in, named_runs}
use Rattle.qv_game_entry_laws.proofs.Runs.{In, Lies, Apart, Covers, closed-lie, closed-apart, apart-append, covers, covers-before, covers-behind}

pub fixed-length : (n : ℕ) (bits : List Lit) → length (fixed n bits) ≡ length bits
fixed-length n [] = refl
fixed-length n (b ∷ bs) = ap suc (fixed-length (n / 2) bs)

-- a run of a place that has a term and a value, within the term's bits
pub record IsNamed (known : List Blasted) (place : ℕ) (ts : List Tree) (vs : List ℕ) (r : Run) : Type 0 where
  pub position : ℕ
  pub at_place : r.place ≡ place + position
  pub term : Tree
  pub term_is : slice_get ts position ≡ Some term
  pub value : ℕ
  pub value_is : slice_get vs position ≡ Some value
  pub ordered : r.low ≤ r.high
  pub within : r.high < length (bits_found known term)

named-in : (named : Lit → Bool) (place n : ℕ) (bits : List Lit) → AllByRecursion (Lies place 0 (length bits)) (named_in named place n bits)
named-in named place n bits =
    let all = closed-lie place 0 (map named (fixed n bits)) in
    let count : length (map named (fixed n bits)) ≡ length bits = length-map (fixed n bits) named ∙ fixed-length n bits in
    all-weaker (Lies place 0 (0 + length (map named (fixed n bits)))) (Lies place 0 (length bits)) (named_in named place n bits)
    (λ r l. record { at_place = l.at_place; from = l.from; ordered = l.ordered; within = (let high = l.within in omega (arith, high, count)) }) all

pub are-named : (named : Lit → Bool) (known : List Blasted) (place : ℕ) (ts : List Tree) (vs : List ℕ) → AllByRecursion (IsNamed known place ts vs) (named_runs named known place ts vs)
are-named named known place [] vs = tt
are-named named known place (t ∷ ts) [] = tt
are-named named known place (t ∷ ts) (v ∷ vs) =
    both (IsNamed known place (t ∷ ts) (v ∷ vs)) (named_in named place v (bits_found known t)) (named_runs named known (suc place) ts vs)
    (all-weaker (Lies place 0 (length (bits_found known t))) (IsNamed known place (t ∷ ts) (v ∷ vs)) (named_in named place v (bits_found known t))
    (λ r l. record { position = 0; at_place = (let e = l.at_place in omega (arith, e)); term = t; term_is = refl; value = v; value_is = refl; ordered = l.ordered; within = l.within })
    (named-in named place v (bits_found known t)))
    (all-weaker (IsNamed known (suc place) ts vs) (IsNamed known place (t ∷ ts) (v ∷ vs)) (named_runs named known (suc place) ts vs)
    (λ r l. record { position = suc l.position; at_place = (let e = l.at_place in omega (arith, e)); term = l.term; term_is = l.term_is; value = l.value; value_is = l.value_is; ordered = l.ordered; within = l.within })
    (are-named named known (suc place) ts vs))

-- they are apart
pub named-apart : (named : Lit → Bool) (known : List Blasted) (place : ℕ) (ts : List Tree) (vs : List ℕ) → Apart (named_runs named known place ts vs)
named-apart named known place [] vs = tt
named-apart named known place (t ∷ ts) [] = tt
named-apart named known place (t ∷ ts) (v ∷ vs) =
    let first = named_in named place v (bits_found known t) in
    let rest = named_runs named known (suc place) ts vs in
    apart-append first rest (closed-apart place 0 (map named (fixed v (bits_found known t)))) (named-apart named known (suc place) ts vs)
    (all-weaker (Lies place 0 (length (bits_found known t))) (λ r. AllByRecursion (AreApart r) rest) first
    (λ r l. all-weaker (IsNamed known (suc place) ts vs) (AreApart r) rest
    (λ s k. λ e. absurd (let a = l.at_place in let b = k.at_place in omega (arith, a, b, e)))
    (are-named named known (suc place) ts vs))
    (named-in named place v (bits_found known t)))

-- a literal that fixes a bit as the number has it
pub record IsFixed (n : ℕ) (bits : List Lit) (l : Lit) : Type 0 where
  pub index : ℕ
  pub bit : Lit
  pub bit_is : slice_get bits index ≡ Some bit
  pub as_is : l ≡ cond (bit_at n index == 1) bit (neg bit)
  pub at_index : slice_get (fixed n bits) index ≡ Some l

pub fixed-at : (l : Lit) (n : ℕ) (bits : List Lit) → In l (fixed n bits) → IsFixed n bits l
fixed-at l n [] h = absurd h
fixed-at l n (b ∷ bs) (inl e) = record {
  index = 0;
  bit = b;
  bit_is = refl;
  as_is = e ∙ ap (λ (k : ℕ). cond (k == 1) b (neg b)) (sym (bit_at_lowest n));
  at_index = ap Some (sym e);
}
fixed-at l n (b ∷ bs) (inr h) =
    let more = fixed-at l (n / 2) bs h in
    record {
      index = suc more.index;
      bit = more.bit;
      bit_is = more.bit_is;
      as_is = more.as_is ∙ ap (λ (k : ℕ). cond (k == 1) more.bit (neg more.bit)) (sym (bit_at-suc n more.index));
      at_index = more.at_index;
    }

flag-at : (named : Lit → Bool) (ls : List Lit) (k : ℕ) (l : Lit) → slice_get ls k ≡ Some l → named l ≡ true → slice_get (map named ls) k ≡ Some true
flag-at named [] k l e h = absurd (cc)
flag-at named (m ∷ ls) zero l e h = let same : m ≡ l = cc in ap (λ (x : Lit). Some (named x)) same ∙ ap Some h
flag-at named (m ∷ ls) (suc k) l e h = flag-at named ls k l e h

-- a fixing that is named is of a bit that one of the runs has
pub record IsCovered (named : Lit → Bool) (known : List Blasted) (place : ℕ) (ts : List Tree) (vs : List ℕ) (l : Lit) : Type 0 where
  pub position : ℕ
  pub term : Tree
  pub term_is : slice_get ts position ≡ Some term
  pub value : ℕ
  pub value_is : slice_get vs position ≡ Some value
  pub index : ℕ
  pub bit : Lit
  pub bit_is : slice_get (bits_found known term) index ≡ Some bit
  pub as_is : l ≡ cond (bit_at value index == 1) bit (neg bit)
  pub covers : Covers (place + position) index (named_runs named known place ts vs)

split-in : (l : Lit) (xs ys : List Lit) → In l (xs ++ ys) → In l xs ⊎ In l ys
split-in l [] ys h = inr h
split-in l (x ∷ xs) ys (inl e) = inl (inl e)
split-in l (x ∷ xs) ys (inr h) = elim (split-in l xs ys h) [ inl a ↦ inl (inr a) | inr b ↦ inr b ]

pub are-covered : (named : Lit → Bool) (known : List Blasted) (place : ℕ) (ts : List Tree) (vs : List ℕ) (l : Lit) → In l (fixings known ts vs) → named l ≡ true → IsCovered named known place ts vs l
are-covered named known place [] vs l h k = absurd h
are-covered named known place (t ∷ ts) [] l h k = absurd h
are-covered named known place (t ∷ ts) (v ∷ vs) l h k =
    elim (split-in l (fixed v (bits_found known t)) (fixings known ts vs) h) [
      | inl a ↦
          let at = fixed-at l v (bits_found known t) a in
          let one = covers place 0 None (map named (fixed v (bits_found known t))) at.index at.index tt (omega arith) (flag-at named (fixed v (bits_found known t)) at.index l at.at_index k) in
          record {
            position = 0;
            term = t;
            term_is = refl;
            value = v;
            value_is = refl;
            index = at.index;
            bit = at.bit;
            bit_is = at.bit_is;
            as_is = at.as_is;
            covers = (let here : place ≡ place + 0 = omega arith in
                subst (λ (n : ℕ). Covers n at.index (named_runs named known place (t ∷ ts) (v ∷ vs))) here
                (covers-before place at.index (named_in named place v (bits_found known t)) (named_runs named known (suc place) ts vs) one));
          }
      | inr b ↦
          let more = are-covered named known (suc place) ts vs l b k in
          record {
            position = suc more.position;
            term = more.term;
            term_is = more.term_is;
            value = more.value;
            value_is = more.value_is;
            index = more.index;
            bit = more.bit;
            bit_is = more.bit_is;
            as_is = more.as_is;
            covers = (let there : suc place + more.position ≡ place + suc more.position = omega arith in
                subst (λ (n : ℕ). Covers n more.index (named_runs named known place (t ∷ ts) (v ∷ vs))) there
                (covers-behind (suc place + more.position) more.index (named_in named place v (bits_found known t)) (named_runs named known (suc place) ts vs) more.covers));
          }
    ]
