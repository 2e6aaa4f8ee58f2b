-- Lists of candidates, and the first that passes a test.
use Rattle.std.proofs.Common.{◌≡◌, ℕ, zero, suc, ◌+◌, ◌≤◌, arith, add-one, Option, Some, None, List, [], ◌∷◌, ◌++◌, filter, length, map, take, drop, refl, sym, ap, ◌∙◌, subst, slice_get, append_assoc, append-nil}
use Rattle.std.specs.List.{AllByRecursion, flat_map}
use Rattle.std.proofs.lemmas.List.{map-append}
use Rattle.std.proofs.lemmas.List.Elements.{filter-append}
use Rattle.std.proofs.lemmas.Grind.{flat_map-append}
use Rattle.qv_words.specs.Tree.{Tree}
use Rattle.qv_words.specs.Choice.{is_outside}
use Rattle.qv_words.proofs.Leaves.{both}
use Rattle.qv_words.proofs.Elements.{take-one, all-at}
use Rattle.qv_choose_paths.specs.declared.ways.Place.{Place}
use Rattle.qv_choose_candidates.specs.declared.offers.Offer.{Offer}
use Rattle.qv_choose_candidates.specs.Offers.{Fails, FailsAt, IsFound, IsFirstOf, IsReady, AreOffers, AddsOffers, offered}

-- a list around one of its elements
split-at : {A : Type 0} (xs : List A) (i : ℕ) (a : A) → slice_get xs i ≡ Some a → xs ≡ take i xs ++ a ∷ drop (suc i) xs
split-at [] i a e = absurd (cc)
split-at (x ∷ xs) zero a e = let same : x ≡ a = cc in ap (λ y. y ∷ xs) same
split-at (x ∷ xs) (suc i) a e = ap (λ ys. x ∷ ys) (split-at xs i a e)

pub take-past : {A : Type 0} (xs : List A) (i : ℕ) → length xs ≤ i → take i xs ≡ xs
take-past [] zero h = refl
take-past [] (suc i) h = refl
take-past (x ∷ xs) zero h = absurd (omega (arith, h))
take-past (x ∷ xs) (suc i) h = ap (λ ys. x ∷ ys) (take-past xs i (omega (arith, h)))

pub take-next : {A : Type 0} (xs : List A) (i : ℕ) (a : A) → slice_get xs i ≡ Some a → take (i + 1) xs ≡ take i xs ++ a ∷ []
take-next xs i a at = ap (λ n. take n xs) (add-one i) ∙ take-one xs i a at

-- what is mapped first
pub flat-map : {A B C : Type 0} (f : B → List C) (g : A → B) (xs : List A) → flat_map f (map g xs) ≡ flat_map (λ x. f (g x)) xs
flat-map f g [] = refl
flat-map f g (x ∷ xs) = ap (λ ys. f (g x) ++ ys) (flat-map f g xs)

flat-next : {A B : Type 0} (f : A → List B) (xs : List A) (i : ℕ) (a : A) → slice_get xs i ≡ Some a → flat_map f (take (i + 1) xs) ≡ flat_map f (take i xs) ++ f a
flat-next f xs i a at =
    ap (flat_map f) (take-next xs i a at) ∙ flat_map-append f (take i xs) (a ∷ []) ∙ ap (λ ys. flat_map f (take i xs) ++ ys) (append-nil (f a))

-- offers behind others
module _ (p : Place) (trees : List Tree) (ids : List ℕ) where
  pub no-offers : AreOffers p trees ids [] []
  no-offers = record { terms = refl; ready = tt }

  pub adds-none : (more : List Tree) (old : List Offer) → filter (is_outside p.first p.end) more ≡ [] → AddsOffers p trees ids more old old
  adds-none more old none all h = record {
    terms = h.terms ∙ ap (map Some) (sym (filter-append (is_outside p.first p.end) all more ∙ ap (λ us. filter (is_outside p.first p.end) all ++ us) none ∙ append-nil (filter (is_outside p.first p.end) all)));
    ready = h.ready;
  }

  pub adds-some : (more : List Tree) (old new os : List Offer) → map (offered p trees) os ≡ map Some (filter (is_outside p.first p.end) more) → AllByRecursion (IsReady p trees ids) os → new ≡ old ++ os → AddsOffers p trees ids more old new
  adds-some more old new os terms ready same all h = record {
    terms =
        ap (map (offered p trees)) same ∙ map-append (offered p trees) old os ∙ ap (λ us. us ++ map (offered p trees) os) h.terms ∙ ap (λ us. map Some (filter (is_outside p.first p.end) all) ++ us) terms
        ∙ sym (map-append Some (filter (is_outside p.first p.end) all) (filter (is_outside p.first p.end) more)) ∙ ap (map Some) (sym (filter-append (is_outside p.first p.end) all more));
    ready = subst (AllByRecursion (IsReady p trees ids)) (sym same) (both (IsReady p trees ids) old os h.ready ready);
  }

  pub adds-both : (first second : List Tree) (old middle new : List Offer) → AddsOffers p trees ids first old middle → AddsOffers p trees ids second middle new → AddsOffers p trees ids (first ++ second) old new
  adds-both first second old middle new g h all k = subst (λ (us : List Tree). AreOffers p trees ids us new) (append_assoc all first second) (h (all ++ first) (g all k))

  module _ {A : Type 0} (f : A → List Tree) where
    -- those of a list's elements, one after another
    pub next-offers : (xs : List A) (i : ℕ) (a : A) (old new : List Offer) → slice_get xs i ≡ Some a → AreOffers p trees ids (flat_map f (take i xs)) old → AddsOffers p trees ids (f a) old new → AreOffers p trees ids (flat_map f (take (i + 1) xs)) new
    next-offers xs i a old new at h adds = subst (λ (us : List Tree). AreOffers p trees ids us new) (sym (flat-next f xs i a at)) (adds (flat_map f (take i xs)) h)

    pub next-adds : (xs : List A) (i : ℕ) (a : A) (old middle new : List Offer) → slice_get xs i ≡ Some a → AddsOffers p trees ids (flat_map f (take i xs)) old middle → AddsOffers p trees ids (f a) middle new → AddsOffers p trees ids (flat_map f (take (i + 1) xs)) old new
    next-adds xs i a old middle new at g h = subst (λ (us : List Tree). AddsOffers p trees ids us old new) (sym (flat-next f xs i a at)) (adds-both (flat_map f (take i xs)) (f a) old middle new g h)

-- the first offer that passes
module _ (P : Tree → Type 0) (p : Place) (trees : List Tree) (ids : List ℕ) where
  pub next-fails : (os : List Offer) (i : ℕ) (o : Offer) → slice_get os i ≡ Some o → AllByRecursion (FailsAt P p trees) (take i os) → FailsAt P p trees o → AllByRecursion (FailsAt P p trees) (take (i + 1) os)
  next-fails os i o at h fails = subst (AllByRecursion (FailsAt P p trees)) (sym (take-next os i o at)) (both (FailsAt P p trees) (take i os) (o ∷ []) h (fails, tt))

  pub first-found : (os : List Offer) (i : ℕ) (o : Offer) → slice_get os i ≡ Some o → AllByRecursion (IsReady p trees ids) os → AllByRecursion (FailsAt P p trees) (take i os) → ((u : Tree) → offered p trees o ≡ Some u → P u) → IsFirstOf P p trees ids os o
  first-found os i o at ready fails holds = record {
    before = take i os;
    behind = drop (suc i) os;
    stands = split-at os i o at;
    ready = all-at (IsReady p trees ids) os i o ready at;
    holds = holds;
    others = fails;
  }

  -- and its term among the candidates
  pub first-term : (before behind : List Offer) (o : Offer) (ts : List Tree) → map (offered p trees) (before ++ o ∷ behind) ≡ map Some ts → ((u : Tree) → offered p trees o ≡ Some u → P u) → AllByRecursion (FailsAt P p trees) before → IsFound P ts (offered p trees o)
  first-term [] behind o [] e holds h = absurd (cc)
  first-term [] behind o (t ∷ ts) e holds h =
      let is : offered p trees o ≡ Some t = cc in
      record { term = t; is = is; before = []; behind = ts; stands = refl; holds = holds t is; others = tt }
  first-term (b ∷ before) behind o [] e holds h = absurd (cc)
  first-term (b ∷ before) behind o (t ∷ ts) e holds h =
      let is : offered p trees b ≡ Some t = cc in
      let more : map (offered p trees) (before ++ o ∷ behind) ≡ map Some ts = cc in
      let rest = first-term before behind o ts more holds h.1 in
      record { term = rest.term; is = rest.is; before = t ∷ rest.before; behind = rest.behind; stands = ap (λ us. t ∷ us) rest.stands; holds = rest.holds; others = (h.0 t is, rest.others) }

  pub all-fail : (os : List Offer) (ts : List Tree) → map (offered p trees) os ≡ map Some ts → AllByRecursion (FailsAt P p trees) os → AllByRecursion (Fails P) ts
  all-fail [] [] e h = tt
  all-fail [] (t ∷ ts) e h = absurd (cc)
  all-fail (o ∷ os) [] e h = absurd (cc)
  all-fail (o ∷ os) (t ∷ ts) e h =
      let is : offered p trees o ≡ Some t = cc in
      let more : map (offered p trees) os ≡ map Some ts = cc in
      (h.0 t is, all-fail os ts more h.1)
