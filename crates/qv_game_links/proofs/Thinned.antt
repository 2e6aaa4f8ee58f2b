-- Links that others meet.
use Rattle.std.proofs.Common.{◌≡◌, ◌⊎◌, ℕ, zero, suc, ◌+◌, ◌<◌, ◌≤◌, ◌==◌, true, false, List, [], ◌∷◌, ◌++◌, length, drop, take, map, slice_get, slice_index_or, Some, refl, sym, ap, subst, ◌∙◌, inl, inr, arith}
use Rattle.std.specs.Prelude.{All, Contains, IsPermutation}
use Rattle.std.specs.List.{Any}
use Rattle.std.proofs.lemmas.Bool.{cases_Bool, eq-eqb, eqb-true}
use Rattle.std.proofs.lemmas.List.Elements.{All-contains, Contains-append_left, Contains-append_right, Contains-append_cases, Contains-push}
use Rattle.std.proofs.lemmas.List.Sorted.{Contains-permutation, IsPermutation-sym}
use Rattle.std.proofs.lemmas.Option.{same_Some}
use Rattle.qv_words.specs.Tree.{Tree}
use Rattle.qv_words.specs.Meaning.{Means}
use Rattle.qv_words.specs.Choice.{IsTrueAt, is_in}
use Rattle.qv_words.proofs.Unique.{one_meaning}
use Rattle.qv_words.proofs.Elements.{dropped-at, dropped-none}
use Rattle.qv_store.specs.Nodes.{tree_at}
use Rattle.qv_entries.specs.Rows.{Row}
use Rattle.qv_game_links.specs.declared.saying.Statement.{Statement}
use Rattle.qv_game_links.specs.declared.thinning.Kept.{Kept}
use Rattle.qv_game_links.specs.Saying.{AreSaid, AreSo, IsSo}
use Rattle.qv_game_links.specs.Thinning.{AreEnough, AreKept, Denies, Follow, IsConsidered, IsKept, IsMet, IsSame}
use Rattle.qv_game_links.proofs.Said.{of-none, of-one}

-- the element of which something holds
pub the-any : {X : Type 0} (P : X → Type 0) (xs : List X) → Any P xs → (x : X) × Contains xs x × P x
the-any P xs h = (h.1, (h.0, h.2, h.3), h.4)

-- a statement that is the same as one that is so
same-so : (trees : List Tree) (point : List ℕ) (said : List Statement) (s : Statement) → Any (IsSame s) said → AreSo trees point said → IsSo trees point s
same-so trees point said s any so =
    let t = the-any (IsSame s) said any in
    subst (λ (n : ℕ). Means [] (slice_get point) (tree_at trees n) s.value) t.2.0
    (subst (λ (v : ℕ). Means [] (slice_get point) (tree_at trees t.0.id) v) t.2.1 (so t.0 t.1))

-- a region that denies what is known is true nowhere there
pub denied-met : (trees : List Tree) (known said : List Statement) (rows : List Row) (kept : List Kept) (number : ℕ) (row : Row) → slice_get rows number ≡ Some row → AreSaid trees row.region said → Any (λ s. Any (Denies s) known) said → IsMet trees known rows kept number
denied-met trees known said rows kept number row at is any r there point so holds =
    let same : row ≡ r = same_Some row r (sym at ∙ there) in
    let s = the-any (λ (s : Statement). Any (Denies s) known) said any in
    let t = the-any (Denies s.0) known s.2 in
    let here : IsSo trees point s.0 = is.there point (subst (λ (q : Row). IsTrueAt point (tree_at trees q.region)) (sym same) holds) s.0 s.1 in
    let other : Means [] (slice_get point) (tree_at trees s.0.id) t.0.value = subst (λ (n : ℕ). Means [] (slice_get point) (tree_at trees n) t.0.value) t.2.0 (so t.0 t.1) in
    absurd (t.2.1 (one_meaning (tree_at trees s.0.id) [] (slice_get point) t.0.value s.0.value other here))

-- where a kept link says nothing else
pub covered-met : (trees : List Tree) (known said : List Statement) (rows : List Row) (kept : List Kept) (number : ℕ) (row : Row) → slice_get rows number ≡ Some row → AreSaid trees row.region said → Any (λ k. Follow known said k.said.items) kept → IsMet trees known rows kept number
covered-met trees known said rows kept number row at is any r there point so holds =
    let same : row ≡ r = same_Some row r (sym at ∙ there) in
    let k = the-any (λ (k : Kept). Follow known said k.said.items) kept any in
    let here : AreSo trees point said = is.there point (subst (λ (q : Row). IsTrueAt point (tree_at trees q.region)) (sym same) holds) in (
      k.0,
      k.1,
      λ s among. elim (All-contains (λ (s : Statement). Any (IsSame s) known ⊎ Any (IsSame s) said) k.0.said.items s k.2 among) [
        | inl of_known ↦ same-so trees point known s of_known so
        | inr of_said ↦ same-so trees point said s of_said here
      ],
    )

-- a link that the first kept ones meet is met
contains-front : {X : Type 0} (xs : List X) (n : ℕ) (x : X) → Contains (take n xs) x → Contains xs x
contains-front [] zero x h = h
contains-front [] (suc n) x h = h
contains-front (y ∷ ys) zero x h = absurd (of-none x h)
contains-front (y ∷ ys) (suc n) x h = elim (Contains-append_cases (y ∷ []) (take n ys) x h) [
  | inl first ↦ Contains-append_left (y ∷ []) ys x first
  | inr rest ↦ Contains-append_right (y ∷ []) ys x (contains-front ys n x rest)
]

pub any-front : {X : Type 0} (P : X → Type 0) (xs front : List X) (n : ℕ) → front ≡ take n xs → Any P front → Any P xs
any-front P xs front n is h =
    let x = the-any P front h in
    let there = contains-front xs n x.0 (subst (λ ys. Contains ys x.0) is x.1) in
    (there.0, x.0, there.1, there.2, x.2)

pub passed : (trees : List Tree) (known : List Statement) (rows : List Row) (number : ℕ) (kept : List Kept) → IsMet trees known rows kept number → IsConsidered trees known rows number kept kept
passed trees known rows number kept met = record {
  more = [];
  behind = sym (append-none kept);
  each = λ k none. absurd (of-none k none);
  met = met;
}
  where
    append-none : (xs : List Kept) → xs ++ [] ≡ xs
    append-none [] = refl
    append-none (x ∷ xs) = ap (λ (ys : List Kept). x ∷ ys) (append-none xs)

pub met-passed : (trees : List Tree) (known said shown : List Statement) (rows : List Row) (kept there : List Kept) (number : ℕ) (row : Row) → slice_get rows number ≡ Some row → AreSaid trees row.region said → shown ≡ said → there ≡ kept → Any (λ s. Any (Denies s) known) shown ⊎ Any (λ k. Follow known shown k.said.items) there → IsConsidered trees known rows number kept kept
met-passed trees known said shown rows kept there number row at is shown_is there_is h =
    passed trees known rows number kept (elim (subst (λ (xs : List Statement). Any (λ s. Any (Denies s) known) xs ⊎ Any (λ k. Follow known xs k.said.items) kept) shown_is (subst (λ (ks : List Kept). Any (λ s. Any (Denies s) known) shown ⊎ Any (λ k. Follow known shown k.said.items) ks) there_is h)) [
      | inl denied ↦ denied-met trees known said rows kept number row at is denied
      | inr covered ↦ covered-met trees known said rows kept number row at is covered
    ])

-- one more link is kept
pub taken : (trees : List Tree) (known : List Statement) (rows : List Row) (number : ℕ) (old new : List Kept) (k : Kept) (row : Row) → slice_get rows number ≡ Some row → AreSaid trees row.region k.said.items → k.number ≡ number → new ≡ old ++ k ∷ [] → IsConsidered trees known rows number old new
taken trees known rows number old new k row at is number_is new_is = record {
  more = k ∷ [];
  behind = new_is;
  each = λ j one. subst (IsKept trees rows number) (of-one k j one) (record { number_is = number_is; row = row; at = at; said = is });
  met = λ r there point so holds.
      let same : row ≡ r = same_Some row r (sym at ∙ there) in (
        k,
        subst (λ (ks : List Kept). Contains ks k) (sym new_is) (Contains-push old k),
        is.there point (subst (λ (q : Row). IsTrueAt point (tree_at trees q.region)) (sym same) holds),
      );
}

-- before any link, and with one more
pub none-kept : (trees : List Tree) (known : List Statement) (rows : List Row) (links : List ℕ) (from : ℕ) → length links ≤ from → AreKept trees known rows links from []
none-kept trees known rows links from end = record {
  each = λ k none. absurd (of-none k none);
  met = λ n there. absurd (of-none n (subst (λ (ns : List ℕ). Contains ns n) (dropped-none links from end) there));
}

met-longer : (trees : List Tree) (known : List Statement) (rows : List Row) (kept more : List Kept) (n : ℕ) → IsMet trees known rows kept n → IsMet trees known rows (kept ++ more) n
met-longer trees known rows kept more n h r at point so holds = let k = h r at point so holds in (k.0, Contains-append_left kept more k.0 k.1, k.2)

pub more-kept : (trees : List Tree) (known : List Statement) (rows : List Row) (links : List ℕ) (from number : ℕ) (old new : List Kept) → slice_get links from ≡ Some number → IsConsidered trees known rows number old new → AreKept trees known rows links (suc from) old → AreKept trees known rows links from new
more-kept trees known rows links from number old new at one h = record {
  each = λ k there. elim (Contains-append_cases old one.more k (subst (λ (ks : List Kept). Contains ks k) one.behind there)) [
    | inl before ↦ h.each k before
    | inr behind ↦ (number, there-at links from number at, one.each k behind)
  ];
  met = λ n there. elim (Contains-append_cases (number ∷ []) (drop (suc from) links) n (subst (λ (ns : List ℕ). Contains ns n) (dropped-at links from number at) there)) [
    | inl first ↦ subst (IsMet trees known rows new) (of-one number n first) one.met
    | inr rest ↦ subst (λ (ks : List Kept). IsMet trees known rows ks n) (sym one.behind) (met-longer trees known rows old one.more n (h.met n rest))
  ];
}
  where
    there-at : (ns : List ℕ) (k n : ℕ) → slice_get ns k ≡ Some n → Contains ns n
    there-at [] k n e = absurd (cc)
    there-at (m ∷ ns) zero n e = let same : m ≡ n = cc in (0, omega arith, same)
    there-at (m ∷ ns) (suc k) n e = Contains-append_right (m ∷ []) ns n (there-at ns k n e)

-- the numbers of the kept links are enough
numbered : (kept : List Kept) (k : Kept) → Contains kept k → Contains (map (λ (j : Kept). j.number) kept) k.number
numbered [] k h = absurd (of-none k h)
numbered (j ∷ kept) k h = elim (Contains-append_cases (j ∷ []) kept k h) [
  | inl first ↦ subst (λ (n : ℕ). Contains (j.number ∷ map (λ (i : Kept). i.number) kept) n) (ap (λ (i : Kept). i.number) (of-one j k first)) (0, omega arith, refl)
  | inr rest ↦ Contains-append_right (j.number ∷ []) (map (λ (i : Kept). i.number) kept) k.number (numbered kept k rest)
]

of-number : (kept : List Kept) (n : ℕ) → Contains (map (λ (j : Kept). j.number) kept) n → (k : Kept) × Contains kept k × (k.number ≡ n)
of-number [] n h = absurd (of-none n h)
of-number (j ∷ kept) n h = elim (Contains-append_cases (j.number ∷ []) (map (λ (i : Kept). i.number) kept) n h) [
  | inl first ↦ (j, (0, omega arith, refl), of-one j.number n first)
  | inr rest ↦ let k = of-number kept n rest in (k.0, Contains-append_right (j ∷ []) kept k.0 k.1, k.2)
]

pub enough : (trees : List Tree) (region : ℕ) (known : List Statement) (rows : List Row) (links : List ℕ) (kept : List Kept) (fewer : List ℕ) → AreSaid trees region known → AreKept trees known rows links 0 kept → All (λ s. Any (λ k. Any (λ t. t.id ≡ s.id) k.said.items) kept) known → IsPermutation (map (λ k. k.number) kept) fewer → AreEnough trees region rows links fewer
enough trees region known rows links kept fewer is h named order =
    let back = IsPermutation-sym (map (λ (k : Kept). k.number) kept) fewer order in
    let stays : (k : Kept) → Contains kept k → Contains fewer k.number = λ k there. Contains-permutation (map (λ (j : Kept). j.number) kept) fewer k.number order (numbered kept k there) in
    record {
      among = λ n there.
          let k = of-number kept n (Contains-permutation fewer (map (λ (j : Kept). j.number) kept) n back there) in
          let of = h.each k.0 k.1 in
          subst (Contains links) (sym of.2.number_is ∙ k.2) of.1;
      meet = λ point holds link.
          let k = h.met link.0 link.1 link.2 link.3 point (is.there point holds) link.4 in
          let of = h.each k.0 k.1 in
          (of.0, subst (Contains fewer) of.2.number_is (stays k.0 k.1), of.2.row, of.2.at, of.2.said.back point k.2);
      occur = λ x there.
          let s = is.occurs x there in
          let k = the-any (λ (k : Kept). Any (λ (t : Statement). t.id ≡ s.0.id) k.said.items) kept (All-contains (λ (s : Statement). Any (λ (k : Kept). Any (λ (t : Statement). t.id ≡ s.id) k.said.items) kept) known s.0 named s.1) in
          let t = the-any (λ (t : Statement). t.id ≡ s.0.id) k.0.said.items k.2 in
          let of = h.each k.0 k.1 in
          (of.0, subst (Contains fewer) of.2.number_is (stays k.0 k.1), of.2.row, of.2.at, of.2.said.within x (t.0, t.1, ap (λ (n : ℕ). is_in x (tree_at trees n)) t.2 ∙ s.2));
    }

-- the same, read through slices
pub enough-through : (trees : List Tree) (region : ℕ) (known shown seen : List Statement) (rows : List Row) (links looked : List ℕ) (kept there here : List Kept) (fewer : List ℕ) → AreSaid trees region known → shown ≡ known → looked ≡ links → seen ≡ known → there ≡ kept → here ≡ kept → AreKept trees shown rows looked 0 kept → All (λ s. Any (λ k. Any (λ t. t.id ≡ s.id) k.said.items) there) seen → IsPermutation (map (λ k. k.number) here) fewer → AreEnough trees region rows links fewer
enough-through trees region known shown seen rows links looked kept there here fewer is shown_is looked_is seen_is there_is here_is h named order =
    enough trees region known rows links kept fewer is
    (subst (λ (xs : List Statement). AreKept trees xs rows links 0 kept) shown_is (subst (λ (ns : List ℕ). AreKept trees shown rows ns 0 kept) looked_is h))
    (subst (λ (xs : List Statement). All (λ s. Any (λ k. Any (λ t. t.id ≡ s.id) k.said.items) kept) xs) seen_is (subst (λ (ks : List Kept). All (λ s. Any (λ k. Any (λ t. t.id ≡ s.id) k.said.items) ks) seen) there_is named))
    (subst (λ (ks : List Kept). IsPermutation (map (λ k. k.number) ks) fewer) here_is order)

pub at-number : (ns : List ℕ) (k d : ℕ) → k < length ns → slice_get ns k ≡ Some (slice_index_or ns k d)
at-number [] k d low = absurd (omega (arith, low))
at-number (n ∷ ns) zero d low = refl
at-number (n ∷ ns) (suc k) d low = at-number ns k d (omega (arith, low))

-- what holds of the first elements holds of one more
get-same : {X : Type 0} (xs : List X) (i : ℕ) (c d : X) → i < length xs → slice_index_or xs i c ≡ slice_index_or xs i d
get-same [] i c d low = absurd (omega (arith, low))
get-same (x ∷ xs) zero c d low = refl
get-same (x ∷ xs) (suc i) c d low = get-same xs i c d (omega (arith, low))

pub all-next : {X : Type 0} (P : X → Type 0) (xs : List X) (i : ℕ) (x : X) → i < length xs → x ≡ slice_index_or xs i x → P x → ((k : ℕ) (d : X) → k < i → P (slice_index_or xs k d)) → (k : ℕ) (d : X) → k < i + 1 → P (slice_index_or xs k d)
all-next P xs i x low is holds before k d high = elim (cases_Bool (k == i)) [
  | inl y ↦
      let same : k ≡ i = eqb-true k i y in
      subst (λ (n : ℕ). P (slice_index_or xs n d)) (sym same) (subst P (is ∙ get-same xs i x d low) holds)
  | inr o ↦ before k d (omega (arith, high, apart k i o))
]
  where
    apart : (k i : ℕ) → (k == i) ≡ false → k ≡ i → ⊥
    apart k i o e = let y : (k == i) ≡ true = eq-eqb k i e in absurd (cc)
