-- What stands for the variables of a file, and its value.
use Rattle.std.proofs.Common.{◌≡◌, ℕ, suc, ◌+◌, ◌<◌, Bool, true, false, cond, eqb, ◌||◌, inl, inr, List, [], ◌∷◌, length, map, slice_get, Option, Some, None, refl, sym, ap, subst, ◌∙◌, arith}
use Rattle.std.specs.Prelude.{is_some}
use Rattle.std.specs.List.{position_from}
use Rattle.std.proofs.lemmas.Bool.{cases_Bool, eqb-true, eq-eqb, ne_eqb}
use Rattle.qv_words.specs.declared.sort.Sort.TheVariants.{Bool as BoolSort}
use Rattle.qv_words.specs.Op.{truth}
use Rattle.qv_words.specs.Tree.{Tree, Constant, Variable, Literal, Apply, ForAll, Exists}
use Rattle.qv_words.specs.Sorted.{with_level, no_levels}
use Rattle.qv_qdimacs.specs.declared.files.Quantified.{Quantified}
use Rattle.qv_qdimacs.specs.BooleanMeaning.{value_of}
use Rattle.qv_qdimacs.specs.Outer.{is_in, AreOnce, place_in, variables_of, given}
use Rattle.qv_qdimacs.specs.Translation.{leaf_at, leaf_of}
use Rattle.qv_qdimacs.proofs.Values.{IsTruth}

-- ---- leaves that keep their values under the quantifiers from a level on

abbrev pub IsSet : List ℕ → (ℕ → Option ℕ) → ℕ → Tree → Bool → Type 0
IsSet c e level (Constant i s) b = (s ≡ BoolSort) × (slice_get c i ≡ Some (truth b))
IsSet c e level (Variable l s) b = (s ≡ BoolSort) × (l < level) × (e l ≡ Some (truth b))
IsSet c e level (Literal s n) b = ⊥
IsSet c e level (Apply o args) b = ⊥
IsSet c e level (ForAll l s body) b = ⊥
IsSet c e level (Exists l s body) b = ⊥

pub set-truth : (c : List ℕ) (e : ℕ → Option ℕ) (level : ℕ) (t : Tree) (b : Bool) → IsSet c e level t b → IsTruth c e t b
set-truth c e level (Constant i s) b h = record { bool = ap Some h.0; means = h.1 }
set-truth c e level (Variable l s) b h = record { bool = ap Some h.0; means = h.2 }
set-truth c e level (Literal s n) b h = absurd h
set-truth c e level (Apply o args) b h = absurd h
set-truth c e level (ForAll l s body) b h = absurd h
set-truth c e level (Exists l s body) b h = absurd h

other-level : (e : ℕ → Option ℕ) (level x l : ℕ) → l < level → with_level e level x l ≡ e l
other-level e level x l less = rw (ne_eqb l level (λ is. omega (arith, less, is))) refl

pub set-more : (c : List ℕ) (e : ℕ → Option ℕ) (level x : ℕ) (t : Tree) (b : Bool) → IsSet c e level t b → IsSet c (with_level e level x) (level + 1) t b
set-more c e level x (Constant i s) b h = h
set-more c e level x (Variable l s) b h = (h.0, omega (arith, h.1), other-level e level x l h.1 ∙ h.2)
set-more c e level x (Literal s n) b h = absurd h
set-more c e level x (Apply o args) b h = absurd h
set-more c e level x (ForAll l s body) b h = absurd h
set-more c e level x (Exists l s body) b h = absurd h

-- each variable with a value has a leaf of this value
abbrev pub AreSet : (ℕ → Tree) → List ℕ → (ℕ → Option ℕ) → ℕ → List (ℕ × Bool) → Type 0
AreSet leaf c e level values = (v : ℕ) (b : Bool) → value_of values v ≡ Some b → IsSet c e level (leaf v) b

this-level : (e : ℕ → Option ℕ) (level x : ℕ) → with_level e level x level ≡ Some x
this-level e level x = rw (eq-eqb level level refl) refl

pub are_set-more : (leaf : ℕ → Tree) (c : List ℕ) (e : ℕ → Option ℕ) (level v : ℕ) (x : Bool) (values : List (ℕ × Bool)) → leaf v ≡ Variable level BoolSort → AreSet leaf c e level values
    → AreSet leaf c (with_level e level (truth x)) (level + 1) ((v, x) ∷ values)
are_set-more leaf c e level v x values is h w b has =
    elim (cases_Bool (eqb w v)) [
      | inl same ↦
          let own : Some x ≡ Some b = sym (ap (λ (t : Bool). cond t (Some x) (value_of values w)) same) ∙ has in
          let one : x ≡ b = cc in
          subst (λ (t : Tree). IsSet c (with_level e level (truth x)) (level + 1) t b) (sym is ∙ ap leaf (sym (eqb-true w v same)))
          (refl, omega arith, this-level e level (truth x) ∙ ap (λ (y : Bool). Some (truth y)) one)
      | inr other ↦
          let old : value_of values w ≡ Some b = sym (ap (λ (t : Bool). cond t (Some x) (value_of values w)) other) ∙ has in
          set-more c e level (truth x) (leaf w) b (h w b old)
    ]

-- the variables of a prefix have the levels from this one on
abbrev pub AreLevels : (ℕ → Tree) → ℕ → List Quantified → Type 0
AreLevels leaf level [] = Unit {0}
AreLevels leaf level (q ∷ prefix) = (leaf q.variable ≡ Variable level BoolSort) × AreLevels leaf (level + 1) prefix

-- ---- places

-- where the places of a list are those in a list of which it is an end
abbrev IsEndOf : ℕ → List ℕ → List ℕ → Type 0
IsEndOf level vs all = (w : ℕ) → is_in w vs ≡ true → place_in all w ≡ position_from (eqb w) level vs

next-end : (level v : ℕ) (vs all : List ℕ) → is_in v vs ≡ false → IsEndOf level (v ∷ vs) all → IsEndOf (level + 1) vs all
next-end level v vs all none h w there =
    elim (cases_Bool (eqb w v)) [
      | inl same ↦ absurd (let out : is_in w vs ≡ false = ap (λ (u : ℕ). is_in u vs) (eqb-true w v same) ∙ none in cc)
      | inr other ↦ h w (rw other there) ∙ rw other refl
    ]

levels-from : (outer all : List ℕ) (level : ℕ) (prefix : List Quantified) → AreOnce (variables_of prefix) → IsEndOf level (variables_of prefix) all → AreLevels (leaf_of outer all) level prefix
levels-from outer all level [] once h = tt
levels-from outer all level (q ∷ prefix) once h =
    let itself : eqb q.variable q.variable ≡ true = eq-eqb q.variable q.variable refl in
    let place : place_in all q.variable ≡ Some level = h q.variable (rw itself refl) ∙ rw itself refl in (
      ap (λ (o : Option ℕ). leaf_at o (place_in outer q.variable)) place,
      levels-from outer all (level + 1) prefix once.1 (next-end level q.variable (variables_of prefix) all once.0 h),
    )

pub levels : (outer : List ℕ) (prefix : List Quantified) → AreOnce (variables_of prefix) → AreLevels (leaf_of outer (variables_of prefix)) 0 prefix
levels outer prefix once = levels-from outer (variables_of prefix) 0 prefix once (λ w there. refl)

pub no-place : (v level : ℕ) (vs : List ℕ) → is_in v vs ≡ false → position_from (eqb v) level vs ≡ None
no-place v level [] h = refl
no-place v level (w ∷ vs) h =
    elim (cases_Bool (eqb v w)) [
      | inl same ↦ absurd (let yes : is_in v (w ∷ vs) ≡ true = rw same refl in cc)
      | inr other ↦ rw other (no-place v (level + 1) vs (sym (ap (λ (b : Bool). b || is_in v vs) other) ∙ h))
    ]

-- ---- values that are given

-- where a variable with a value stands, and that the value stands there
pub record IsGiven (vs : List ℕ) (values : List Bool) (level v : ℕ) (b : Bool) : Type 0 where
  pub index : ℕ
  pub place : position_from (eqb v) level vs ≡ Some (level + index)
  pub value : slice_get (map truth values) index ≡ Some (truth b)
  pub there : is_in v vs ≡ true

given-behind : (v w : ℕ) (x : Bool) (vs : List ℕ) (values : List Bool) (level : ℕ) (b : Bool) → eqb v w ≡ false → IsGiven vs values (level + 1) v b → IsGiven (w ∷ vs) (x ∷ values) level v b
given-behind v w x vs values level b other h = record {
  index = suc h.index;
  place = rw other (h.place ∙ ap Some (one-more level h.index));
  value = h.value;
  there = rw other h.there;
}
  where
    one-more : (n i : ℕ) → n + 1 + i ≡ n + suc i
    one-more n i = omega arith

pub given-at : (vs : List ℕ) (values : List Bool) (level v : ℕ) (b : Bool) → value_of (given vs values) v ≡ Some b → IsGiven vs values level v b
given-at [] values level v b h = absurd (cc)
given-at (w ∷ vs) [] level v b h = absurd (cc)
given-at (w ∷ vs) (x ∷ values) level v b h =
    elim (cases_Bool (eqb v w)) [
      | inl same ↦
          let own : Some x ≡ Some b = sym (ap (λ (t : Bool). cond t (Some x) (value_of (given vs values) v)) same) ∙ h in
          let one : x ≡ b = cc in
          record {
            index = 0;
            place = rw same (ap Some (no-more level));
            value = ap (λ (y : Bool). Some (truth y)) one;
            there = rw same refl;
          }
      | inr other ↦ given-behind v w x vs values level b other (given-at vs values (level + 1) v b (sym (ap (λ (t : Bool). cond t (Some x) (value_of (given vs values) v)) other) ∙ h))
    ]
  where
    no-more : (n : ℕ) → n ≡ n + 0
    no-more n = omega arith

-- with a value for each, each has one
pub given-some : (vs : List ℕ) (values : List Bool) (v : ℕ) → length values ≡ length vs → is_in v vs ≡ true → is_some (value_of (given vs values) v) ≡ true
given-some [] values v many there = absurd (cc)
given-some (w ∷ vs) [] v many there = absurd (omega (arith, many))
given-some (w ∷ vs) (x ∷ values) v many there =
    elim (cases_Bool (eqb v w)) [
      | inl same ↦ rw same refl
      | inr other ↦ rw other (given-some vs values v (omega (arith, many)) (sym (ap (λ (b : Bool). b || is_in v vs) other) ∙ there))
    ]

-- the outer variables are set
pub outer-set : (outer bound : List ℕ) (values : List Bool) → ((v : ℕ) → is_in v outer ≡ true → is_in v bound ≡ false) → AreSet (leaf_of outer bound) (map truth values) no_levels 0 (given outer values)
outer-set outer bound values apart v b has =
    let at = given-at outer values 0 v b has in
    let none : place_in bound v ≡ None = no-place v 0 bound (apart v at.there) in
    let index : place_in outer v ≡ Some at.index = at.place ∙ ap Some (from-zero at.index) in
    subst (λ (t : Tree). IsSet (map truth values) no_levels 0 t b)
    (sym (ap (λ (o : Option ℕ). leaf_at o (place_in outer v)) none ∙ ap (λ (o : Option ℕ). leaf_at None o) index)) (refl, at.value)
  where
    from-zero : (n : ℕ) → 0 + n ≡ n
    from-zero n = omega arith
