-- The runs of named bits assume all literals that are named.
use Rattle.std.proofs.Common.{◌≡◌, ℕ, zero, suc, ◌+◌, ◌≤◌, ◌<◌, ◌==◌, inl, inr, Bool, true, cond, Some, List, [], ◌∷◌, length, slice_get, slice_index_or, sym, ap, ◌∙◌, arith}
use Rattle.std.specs.Int.{bit_at}
use Rattle.std.specs.Prelude.{slice_index}
use Rattle.std.specs.List.{All, AllPairs, Contains}
use Rattle.std.proofs.lemmas.List.Elements.{All-from_recursion}
use Rattle.std.proofs.lemmas.List.Kept.{AllPairs-cons}
use Rattle.std.proofs.lemmas.Option.{get_or_from_slice_get}
use Rattle.qv_words.specs.declared.sort.Sort.{Sort}
use Rattle.qv_words.specs.Sort.{width_of}
use Rattle.qv_words.specs.Tree.{Tree, Variable, IsQuantifierFree}
use Rattle.qv_words.specs.Gate.{Lit, neg}
use Rattle.qv_words.specs.Clauses.{bits_of}
use Rattle.qv_words.specs.Linked.{Run, AreApart}
use Rattle.qv_words.proofs.Elements.{all-weaker, to-some}
use Rattle.qv_circuits_laws.specs.ClauseLaws.{blasted}
use Rattle.qv_game_entry_laws.specs.BuildingLaws.{IsAssumed}
use Rattle.qv_game_entry_laws.specs.QueryLaws.{OccursIn}
use Rattle.qv_game_entry_laws.proofs.Occurring.{places-occur}
use Rattle.qv_game_entry_laws.specs.Fixings.{bits_found, fixings, named_runs}
use Rattle.qv_game_entry_laws.specs.PointLaws.{places_from, IsRunOf, NamedRunsAssumeAll}
use Rattle.qv_game_entry_laws.proofs.Runs.{In, Apart}
use Rattle.qv_game_entry_laws.proofs.Named.{IsNamed, are-covered, are-named, named-apart}
use Rattle.qv_game_entry_laws.proofs.Places.{bit-count, found-bits, place-at}

-- an element that is contained
in-at : {A : Type 0} (xs : List A) (k : ℕ) (x : A) → k < length xs → slice_index_or xs k x ≡ x → In x xs
in-at [] k x h e = absurd (omega (arith, h))
in-at (y ∷ ys) zero x h e = inl (sym e)
in-at (y ∷ ys) (suc k) x h e = inr (in-at ys k x (omega (arith, h)) e)

contained : {A : Type 0} (x : A) (xs : List A) → In x xs → Contains xs x
contained x [] h = absurd h
contained x (y ∷ ys) (inl e) = (0, (omega arith), sym e)
contained x (y ∷ ys) (inr h) = let more = contained x ys h in (suc more.0, (let low = more.1 in omega (arith, low)), more.2)

-- runs that are apart, by place
pairs-of : (rs : List Run) → Apart rs → AllPairs AreApart rs
pairs-of [] h = λ i j d low high. absurd (omega (arith, high))
pairs-of (r ∷ rs) h = AllPairs-cons AreApart r rs (All-from_recursion (AreApart r) rs h.0) (pairs-of rs h.1)

some-below : {A : Type 0} (xs : List A) (k : ℕ) (x : A) → slice_get xs k ≡ Some x → k < length xs
some-below [] k x e = absurd (cc)
some-below (y ∷ ys) zero x e = omega arith
some-below (y ∷ ys) (suc k) x e = let low = some-below ys k x e in omega (arith, low)

-- the bits of a named run's place
pub record IsOfPlace (formulas : List Tree) (sorts : List Sort) (point : List ℕ) (r : Run) : Type 0 where
  pub sort : Sort
  pub sort_is : slice_get sorts r.place ≡ Some sort
  pub bits : List Lit
  pub bits_are : bits_of (blasted formulas) (Variable r.place sort) ≡ Some bits
  pub before : r.place < length point
  pub ordered : r.low ≤ r.high
  pub within : r.high < length bits

of-place : (formulas : List Tree) (sorts : List Sort) (point : List ℕ) (r : Run) → IsNamed (blasted formulas) 0 (places_from 0 sorts) point r → IsOfPlace formulas sorts point r
of-place formulas sorts point r h =
    let known = blasted formulas in
    let at = place-at 0 sorts h.position h.term h.term_is in
    let place : h.position ≡ r.place = let e = h.at_place in omega (arith, e) in
    let term : h.term ≡ Variable r.place at.sort = at.is ∙ ap (λ (n : ℕ). Variable n at.sort) (sym h.at_place) in
    let some : 0 < length (bits_found known h.term) = let w = h.within in omega (arith, w) in
    record {
      sort = at.sort;
      sort_is = ap (slice_get sorts) (sym place) ∙ at.sort_is;
      bits = bits_found known h.term;
      bits_are = ap (bits_of known) (sym term) ∙ found-bits known h.term some;
      before = (let low = some-below point h.position h.value h.value_is in omega (arith, low, place));
      ordered = h.ordered;
      within = h.within;
    }

assumed-one : (formulas : List Tree) (sorts : List Sort) (point : List ℕ) (named : Lit → Bool) (l : Lit) → Contains (fixings (blasted formulas) (places_from 0 sorts) point) l → named l ≡ true → IsAssumed formulas point (named_runs named (blasted formulas) 0 (places_from 0 sorts) point) l
assumed-one formulas sorts point named l c is =
    let known = blasted formulas in
    let h = are-covered named known 0 (places_from 0 sorts) point l (in-at (fixings known (places_from 0 sorts) point) c.0 l c.1 c.2) is in
    let at = place-at 0 sorts h.position h.term h.term_is in
    let run = h.covers.run in
    let place : 0 + h.position ≡ run.place = sym h.covers.at_place in
    let position : h.position ≡ run.place = omega (arith, place) in
    let term : h.term ≡ Variable run.place at.sort = at.is ∙ ap (λ (n : ℕ). Variable n at.sort) place in
    let some : 0 < length (bits_found known h.term) = let low = some-below (bits_found known h.term) h.index h.bit h.bit_is in omega (arith, low) in
    let value : slice_index point run.place ≡ h.value = ap (slice_index point) (sym position) ∙ get_or_from_slice_get point h.position h.value 0 h.value_is in
    record {
      run = run;
      among = contained run (named_runs named known 0 (places_from 0 sorts) point) h.covers.among;
      word = h.term;
      variable = (at.sort, term);
      bits = bits_found known h.term;
      bits_are = found-bits known h.term some;
      index = h.index;
      low = h.covers.low;
      high = h.covers.high;
      bit = h.bit;
      bit_is = h.bit_is;
      as_at_point = h.as_is ∙ ap (λ (n : ℕ). cond (bit_at n h.index == 1) h.bit (neg h.bit)) (sym value);
    }

pub named-runs_assume_all : NamedRunsAssumeAll
named-runs_assume_all formulas sorts point named core terms among is =
    let known = blasted formulas in
    let runs = named_runs named known 0 (places_from 0 sorts) point in
    let each = all-weaker (IsNamed known 0 (places_from 0 sorts) point) (IsOfPlace formulas sorts point) runs (λ r h. of-place formulas sorts point r h) (are-named named known 0 (places_from 0 sorts) point) in
    let free : All IsQuantifierFree formulas = λ k d h. (terms k d h).quantifier_free in
    record {
      each = All-from_recursion (IsRunOf sorts point) runs
          (all-weaker (IsOfPlace formulas sorts point) (IsRunOf sorts point) runs
          (λ r h. record {
            before = h.before;
            ordered = h.ordered;
            within = to-some (slice_get sorts r.place) (λ s. r.high < width_of s) h.sort h.sort_is
                (let wide = bit-count formulas terms r.place h.sort h.bits h.bits_are in let high = h.within in omega (arith, wide, high));
          })
          each);
      occurs = All-from_recursion (λ r. OccursIn formulas r.place) runs
          (all-weaker (IsOfPlace formulas sorts point) (λ r. OccursIn formulas r.place) runs
          (λ r h. places-occur formulas r.place h.sort h.bits free h.bits_are) each);
      apart = pairs-of runs (named-apart named known 0 (places_from 0 sorts) point);
      assumed = λ k d low. assumed-one formulas sorts point named (slice_index_or core k d) (among k d low) (is k d low);
    }
