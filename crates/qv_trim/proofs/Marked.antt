-- The marked entries are those of needed ids.
use Rattle.std.proofs.Common.{◌≡◌, ◌≢◌, ℕ, zero, suc, ◌+◌, ◌-◌, ◌<◌, ◌≤◌, ◌⊎◌, Bool, true, false, List, [], ◌∷◌, ◌++◌, length, map, set, take, drop, replicate, length-set, ℤ, Some, None, refl, sym, ◌∙◌, ap, subst, inl, inr, arith}
use Rattle.std.specs.Prelude.{unsigned_abs, Contains, slice_get, get_or, Result, Ok, Err, IfOk, OnOk}
use Rattle.std.proofs.lemmas.Bool.{and_parts, cases_lt}
use Rattle.std.proofs.lemmas.List.{length-replicate}
use Rattle.std.proofs.lemmas.List.Elements.{Contains-push_cases, Contains-append_left, Contains-append_right}
use Rattle.qv_cnf.specs.Literal.{Literal}
use Rattle.qv_cnf.specs.Listing.{Numbered, Rises}
use Rattle.qv_cnf.specs.LratLine.{LratLine, Addition, Deletion}
use Rattle.qv_cnf.specs.Refutation.{Standing, accepts, judged_line, after_line, refutes_from, standing_at, Refutes}
use Rattle.qv_cnf.proofs.Living.{Rises-lower}
use Rattle.qv_cnf.proofs.Ordered.{next-from_accepted}
use Rattle.qv_cnf.proofs.Soundness.{Accepted-from_accepts}
use Rattle.qv_trim.specs.Needed.{up_to_empty, IsNeeded, empty, named}
use Rattle.qv_trim.specs.Texts.{BeginsWith, BeginsWithNone, StandsAt, ReadsStep}
use Rattle.qv_trim.specs.Entries.{AreEntries, IsEntryFor}
use Rattle.qv_trim.specs.declared.entries.Entry.{Entry}
use Rattle.qv_trim.specs.Marking.{IsMarked, AreRising, HasId, IsBelow, IsFrom, Names, Marks, ClosedFrom, Reaches, marked, further, MarksLast, MarksNamed, MarksNamedBy, AreMarked}
use Rattle.qv_trim.proofs.Lines.{read-there}
use Rattle.qv_trim.proofs.Kept.{Contains-head, Contains-tail}

cases-apart : (j k : ℕ) → (j < k) ⊎ ((k < j) ⊎ (j ≡ k))
cases-apart j k =
    elim (cases_lt j k) [
      | inl l ↦ inl l
      | inr g ↦ elim (cases_lt k j) [
        | inl l ↦ inr (inl l)
        | inr h ↦ inr (inr (omega (arith, g, h)))
      ]
    ]

pub some-one : {X : Type 0} (x y : X) → Some x ≡ Some y → x ≡ y
some-one x y e = cc

some-at : {X : Type 0} (xs : List X) (j k : ℕ) (y : X) → j ≤ k → slice_get xs k ≡ Some y → (x : X) × (slice_get xs j ≡ Some x)
some-at [] j k y l h = absurd cc
some-at (x ∷ xs) zero k y l h = (x, refl)
some-at (x ∷ xs) (suc j) zero y l h = absurd (omega (arith, l))
some-at (x ∷ xs) (suc j) (suc k) y l h = some-at xs j k y (omega (arith, l)) h

-- ---- rising entries

abbrev ids_of : List Entry → List ℕ
ids_of es = map (λ e. e.id) es

rising-low : (low : ℕ) (es : List Entry) (k : ℕ) (e : Entry) → Rises low (ids_of es) → slice_get es k ≡ Some e → low ≤ e.id
rising-low low [] k e r h = absurd cc
rising-low low (x ∷ xs) zero e r h = let same : x ≡ e = cc in subst (λ (y : Entry). low ≤ y.id) same r.0
rising-low low (x ∷ xs) (suc k) e r h = let rest : x.id + 1 ≤ e.id = rising-low (x.id + 1) xs k e r.1 h in omega (arith, r.0)

pub rising-lt : (low : ℕ) (es : List Entry) (j k : ℕ) (e f : Entry) → Rises low (ids_of es) → j < k → slice_get es j ≡ Some e → slice_get es k ≡ Some f → e.id < f.id
rising-lt low [] j k e f r l h g = absurd cc
rising-lt low (x ∷ xs) j zero e f r l h g = absurd (omega (arith, l))
rising-lt low (x ∷ xs) zero (suc k) e f r l h g =
    let same : x ≡ e = cc in
    let rest : x.id + 1 ≤ f.id = rising-low (x.id + 1) xs k f r.1 g in
    subst (λ (y : Entry). y.id < f.id) same (omega (arith, rest))
rising-lt low (x ∷ xs) (suc j) (suc k) e f r l h g = rising-lt (x.id + 1) xs j k e f r.1 (omega (arith, l)) h g

-- one place for an id
rising-one : (es : List Entry) (j k : ℕ) (e f : Entry) → AreRising es → slice_get es j ≡ Some e → slice_get es k ≡ Some f → e.id ≡ f.id → j ≡ k
rising-one es j k e f r h g same =
    elim (cases-apart j k) [
      | inl lt ↦ let less : e.id < f.id = rising-lt 0 es j k e f r lt h g in absurd (omega (arith, less, same))
      | inr (inl gt) ↦ let less : f.id < e.id = rising-lt 0 es k j f e r gt g h in absurd (omega (arith, less, same))
      | inr (inr is) ↦ is
    ]

-- ---- what a search by halves knows in the end

only-id : (id other : ℕ) → Contains (id ∷ []) other → other ≡ id
only-id id other (zero, below, at) = sym at
only-id id other (suc n, below, at) = absurd (omega (arith, below))

pub found-place : (es : List Entry) (id low k : ℕ) → AreRising es → IsBelow es id low → IsFrom es id low → HasId es (id ∷ []) k → (low ≡ k) × ((e : Entry) × (slice_get es low ≡ Some e) × (e.id ≡ id))
found-place es id low k r below from h =
    let own : h.entry.id ≡ id = only-id id h.entry.id h.among in
    elim (cases-apart k low) [
      | inl lt ↦ let less : h.entry.id < id = below r k h.entry lt h.stands in absurd (omega (arith, less, own))
      | inr (inl gt) ↦
          let (e, is) = some-at es low k h.entry (omega (arith, gt)) h.stands in
          let less : e.id < h.entry.id = rising-lt 0 es low k e h.entry r gt is h.stands in
          let most : id ≤ e.id = from r low e (omega arith) is in
          absurd (omega (arith, less, most, own))
      | inr (inr is) ↦ (sym is, (h.entry, subst (λ (n : ℕ). slice_get es n ≡ Some h.entry) is h.stands, own))
    ]

pub below-more : (es : List Entry) (id low middle : ℕ) (m : Entry) → IsBelow es id low → slice_get es middle ≡ Some m → m.id < id → IsBelow es id (middle + 1)
below-more es id low middle m b at less r k e lt is =
    elim (cases-apart k middle) [
      | inl l ↦ let own : e.id < m.id = rising-lt 0 es k middle e m r l is at in omega (arith, own, less)
      | inr (inl g) ↦ absurd (omega (arith, lt, g))
      | inr (inr same) ↦ let one : e ≡ m = some-one e m (sym is ∙ (ap (slice_get es) same ∙ at)) in subst (λ (y : Entry). y.id < id) (sym one) less
    ]

pub from-more : (es : List Entry) (id high middle : ℕ) (m : Entry) → IsFrom es id high → slice_get es middle ≡ Some m → id ≤ m.id → IsFrom es id middle
from-more es id high middle m f at more r k e le is =
    elim (cases-apart k middle) [
      | inl l ↦ absurd (omega (arith, le, l))
      | inr (inl g) ↦ let own : m.id < e.id = rising-lt 0 es middle k m e r g at is in omega (arith, own, more)
      | inr (inr same) ↦ let one : e ≡ m = some-one e m (sym is ∙ (ap (slice_get es) same ∙ at)) in subst (λ (y : Entry). id ≤ y.id) (sym one) more
    ]

-- ---- marks

pub marks-none : (es : List Entry) (named_there : ℕ → Type 0) (at : ℕ) (marks : List Bool) → (AreRising es → (k : ℕ) → named_there k → ⊥) → Marks es named_there at marks marks false
marks-none es named_there at marks none = record {
  each = refl;
  stay = λ k h. h;
  only = λ k h. inl h;
  all = λ r k h. absurd (none r k h);
  early = λ e k l h. h;
}

pub marks-then : (es : List Entry) (P Q R : ℕ → Type 0) (at : ℕ) (a b c : List Bool) (g h both : Bool) → Marks es P at a b g → Marks es Q at b c h → (both ≡ false → (g ≡ false) × (h ≡ false))
    → ((k : ℕ) → P k ⊎ Q k → R k) → ((k : ℕ) → R k → P k ⊎ Q k) → Marks es R at a c both
marks-then es P Q R at a b c g h both m n early to back = record {
  each = n.each ∙ m.each;
  stay = λ k is. n.stay k (m.stay k is);
  only = λ k is. elim (n.only k is) [
    | inl was ↦ elim (m.only k was) [
      | inl first ↦ inl first
      | inr own ↦ inr (to k (inl own))
    ]
    | inr own ↦ inr (to k (inr own))
  ];
  all = λ r k is. elim (back k is) [
    | inl own ↦ n.stay k (m.all r k own)
    | inr own ↦ n.all r k own
  ];
  early = λ e k l is. m.early (early e).0 k l (n.early (early e).1 k l is);
}

pub set-same : (marks : List Bool) (p : ℕ) → p < length marks → slice_get (set marks p true) p ≡ Some true
set-same [] p h = absurd (omega (arith, h))
set-same (x ∷ xs) zero h = refl
set-same (x ∷ xs) (suc p) h = set-same xs p (omega (arith, h))

pub set-other : (marks : List Bool) (p k : ℕ) → k ≢ p → slice_get (set marks p true) k ≡ slice_get marks k
set-other [] p k h = refl
set-other (x ∷ xs) zero zero h = absurd (h refl)
set-other (x ∷ xs) zero (suc k) h = refl
set-other (x ∷ xs) (suc p) zero h = refl
set-other (x ∷ xs) (suc p) (suc k) h = set-other xs p k (λ e. h (ap suc e))

cases-same : (j k : ℕ) → (j ≡ k) ⊎ (j ≢ k)
cases-same j k =
    elim (cases-apart j k) [
      | inl l ↦ inr (λ e. omega (arith, l, e))
      | inr (inl g) ↦ inr (λ e. omega (arith, g, e))
      | inr (inr is) ↦ inl is
    ]

pub marks-one : (es : List Entry) (named_there : ℕ → Type 0) (at p : ℕ) (marks : List Bool) (was again : Bool) → p < length marks → slice_get marks p ≡ Some was → named_there p
    → (AreRising es → (k : ℕ) → named_there k → p ≡ k) → length (set marks p true) ≡ length marks → (again ≡ false → at ≤ p → was ≡ true) → Marks es named_there at marks (set marks p true) again
marks-one es named_there at p marks was again below is own one size early = record {
  each = size;
  stay = λ k h. elim (cases-same k p) [
    | inl same ↦ subst (λ (n : ℕ). IsMarked (set marks p true) n) (sym same) (set-same marks p below)
    | inr other ↦ set-other marks p k other ∙ h
  ];
  only = λ k h. elim (cases-same k p) [
    | inl same ↦ inr (subst named_there (sym same) own)
    | inr other ↦ inl (sym (set-other marks p k other) ∙ h)
  ];
  all = λ r k h. subst (λ (n : ℕ). IsMarked (set marks p true) n) (one r k h) (set-same marks p below);
  early = λ e k l h. elim (cases-same k p) [
    | inl same ↦ subst (λ (n : ℕ). IsMarked marks n) (sym same) (is ∙ ap Some (early e (subst (λ (n : ℕ). at ≤ n) same l)))
    | inr other ↦ sym (set-other marks p k other) ∙ h
  ];
}

-- ---- passes

pub named-none : (text : List ℕ) (es : List Entry) (marks : List Bool) → MarksNamed text es marks marks
named-none text es marks = record { each = refl; stay = λ k h. h; only = λ k h. marked k h }

reaches-then : (text : List ℕ) (es : List Entry) (a b : List Bool) → ((k : ℕ) → IsMarked b k → Reaches text es a k) → (k : ℕ) → Reaches text es b k → Reaches text es a k
reaches-then text es a b h k (marked _ is) = h k is
reaches-then text es a b h k (further j _ r n) = further j k (reaches-then text es a b h j r) n

pub named-then : (text : List ℕ) (es : List Entry) (a b c : List Bool) → MarksNamed text es a b → MarksNamed text es b c → MarksNamed text es a c
named-then text es a b c m n = record {
  each = n.each ∙ m.each;
  stay = λ k h. n.stay k (m.stay k h);
  only = λ k h. reaches-then text es a b m.only k (n.only k h);
}

pub named-marked : (text : List ℕ) (es : List Entry) (at : ℕ) (old new : List Bool) (again : Bool) → Marks es (Names text es at) at old new again → IsMarked old at → MarksNamed text es old new
named-marked text es at old new again m is = record {
  each = m.each;
  stay = m.stay;
  only = λ k h. elim (m.only k h) [
    | inl before ↦ marked k before
    | inr own ↦ further at k (marked at is) own
  ];
}

pub closed-passed : (text : List ℕ) (es : List Entry) (at : ℕ) (marks : List Bool) (was : Bool) → slice_get marks at ≡ Some was → was ≡ false → ClosedFrom text es (at + 1) marks → ClosedFrom text es at marks
closed-passed text es at marks was is unmarked c r j k l h n =
    elim (cases-same j at) [
      | inl same ↦
          let here : Some was ≡ Some true = sym is ∙ (ap (slice_get marks) (sym same) ∙ h) in
          absurd (let set_so : was ≡ true = some-one was true here in cc)
      | inr other ↦ c r j k (omega (arith, l, other)) h n
    ]

pub closed-followed : (text : List ℕ) (es : List Entry) (at : ℕ) (old new : List Bool) → Marks es (Names text es at) at old new false → ClosedFrom text es (at + 1) old → ClosedFrom text es at new
closed-followed text es at old new m c r j k l h n =
    elim (cases-same j at) [
      | inl same ↦ m.all r k (subst (λ (i : ℕ). Names text es i k) same n)
      | inr other ↦ m.stay k (c r j k (omega (arith, l, other)) (m.early refl j l h) n)
    ]

marked-below : (marks : List Bool) (k : ℕ) → IsMarked marks k → k < length marks
marked-below [] k h = absurd cc
marked-below (m ∷ ms) zero h = omega arith
marked-below (m ∷ ms) (suc k) h = let rest : k < length ms = marked-below ms k h in omega (arith, rest)

pub closed-none : (text : List ℕ) (es : List Entry) (marks : List Bool) → length marks ≡ length es → ClosedFrom text es (length es) marks
closed-none text es marks size r j k l h n = let below : j < length marks = marked-below marks j h in absurd (omega (arith, below, size, l))

pub closed-all : (text : List ℕ) (es : List Entry) (at : ℕ) (marks : List Bool) → at ≤ 0 → ClosedFrom text es at marks → ClosedFrom text es 0 marks
closed-all text es at marks none c r j k l h n = c r j k (omega (arith, none)) h n

-- ---- ids that hints name

has-more : (es : List Entry) (ids more : List ℕ) (k : ℕ) → ((x : ℕ) → Contains ids x → Contains more x) → HasId es ids k → HasId es more k
has-more es ids more k f h = record { entry = h.entry; stands = h.stands; among = f h.entry.id h.among }

has-push : (es : List Entry) (ids : List ℕ) (x k : ℕ) → HasId es (ids ++ x ∷ []) k → HasId es ids k ⊎ HasId es (x ∷ []) k
has-push es ids x k h =
    elim (Contains-push_cases ids x h.entry.id h.among) [
      | inl old ↦ inl (record { entry = h.entry; stands = h.stands; among = old })
      | inr own ↦ inr (record { entry = h.entry; stands = h.stands; among = (0, omega arith, own) })
    ]

pub hinted-none : (es : List Entry) (at : ℕ) (marks : List Bool) → Marks es (HasId es []) at marks marks false
hinted-none es at marks = marks-none es (HasId es []) at marks (λ r k h. (let (n, below, is) = h.among in absurd (omega (arith, below))))

pub hinted-more : (es : List Entry) (at : ℕ) (ids more : List ℕ) (x : ℕ) (a b c : List Bool) (g h both : Bool) → more ≡ ids ++ x ∷ [] → Marks es (HasId es ids) at a b g → Marks es (HasId es (x ∷ [])) at b c h → (both ≡ false → (g ≡ false) × (h ≡ false)) → Marks es (HasId es more) at a c both
hinted-more es at ids more x a b c g h both is m n early =
    subst (λ (all : List ℕ). Marks es (HasId es all) at a c both) (sym is)
    (marks-then es (HasId es ids) (HasId es (x ∷ [])) (HasId es (ids ++ x ∷ [])) at a b c g h both m n early
    (λ k either. elim either [
      | inl old ↦ has-more es ids (ids ++ x ∷ []) k (λ y there. Contains-append_left ids (x ∷ []) y there) old
      | inr own ↦ has-more es (x ∷ []) (ids ++ x ∷ []) k (λ y there. Contains-append_right ids (x ∷ []) y there) own
    ])
    (λ k all. has-push es ids x k all))

-- ---- what the line of an entry names

same-hints : (id other : ℕ) (lits ls : List Literal) (hints hs : List ℤ) → Addition id lits hints ≡ Addition other ls hs → hints ≡ hs
same-hints id other lits ls hints hs e = cc

pub one-step : (line : List ℕ) (l m : LratLine) → ReadsStep line l → ReadsStep line m → l ≡ m
one-step line l m a b = some-one l m (sym a ∙ b)

module _ (text : List ℕ) (es : List Entry) (at : ℕ) (e : Entry) (is : slice_get es at ≡ Some e) where
  abbrev own-entry : (k : ℕ) (n : Names text es at k) → n.entry ≡ e
  own-entry k n = some-one n.entry e (sym n.stands ∙ is)

  pub names-none : BeginsWithNone ReadsStep (drop e.start text) → (k : ℕ) → Names text es at k → ⊥
  names-none none k n =
      none n.line.line (drop n.behind text) (Addition n.id n.lits n.hints) (subst (λ (x : Entry). BeginsWith (drop x.start text) n.line.line (drop n.behind text)) (own-entry k n) n.line.begins) n.line.read

  same-line : (line : LratLine) (behind : ℕ) → StandsAt ReadsStep text e.start line behind → (k : ℕ) (n : Names text es at k) → line ≡ Addition n.id n.lits n.hints
  same-line line behind s k n =
      (read-there ReadsStep one-step text e.start line (Addition n.id n.lits n.hints) behind n.line.line (drop n.behind text) s
      (subst (λ (x : Entry). BeginsWith (drop x.start text) n.line.line (drop n.behind text)) (own-entry k n) n.line.begins) n.line.read).0

  pub names-deletion : (id : ℕ) (ids : List ℕ) (behind : ℕ) → StandsAt ReadsStep text e.start (Deletion id ids) behind → (k : ℕ) → Names text es at k → ⊥
  names-deletion id ids behind s k n = let same : Deletion id ids ≡ Addition n.id n.lits n.hints = same-line (Deletion id ids) behind s k n in cc

  -- the entries that an addition's hints name
  pub names-hinted : (id : ℕ) (lits : List Literal) (hints : List ℤ) (behind : ℕ) (old new : List Bool) (again : Bool) → StandsAt ReadsStep text e.start (Addition id lits hints) behind → Marks es (HasId es (map unsigned_abs hints)) at old new again → Marks es (Names text es at) at old new again
  names-hinted id lits hints behind old new again s m = record {
    each = m.each;
    stay = m.stay;
    only = λ k h. elim (m.only k h) [
      | inl was ↦ inl was
      | inr has ↦ inr (record { entry = e; stands = is; id = id; lits = lits; hints = hints; behind = behind; line = s; hinted = has })
    ];
    all = λ r k n. m.all r k (subst (λ (hs : List ℤ). HasId es (map unsigned_abs hs) k) (sym (same-hints id n.id lits n.lits hints n.hints (same-line (Addition id lits hints) behind s k n))) n.hinted);
    early = m.early;
  }

  pub names-line : (line : LratLine) (behind : ℕ) (old new : List Bool) (again : Bool) → StandsAt ReadsStep text e.start line behind → MarksNamedBy es line at old new again → Marks es (Names text es at) at old new again
  names-line (Addition id lits hints) behind old new again s m = names-hinted id lits hints behind old new again s m
  names-line (Deletion id ids) behind old new again s (same, none) =
      subst (λ (marks : List Bool). Marks es (Names text es at) at old marks again) (sym same)
      (subst (λ (b : Bool). Marks es (Names text es at) at old old b) (sym none) (marks-none es (Names text es at) at old (λ r k n. names-deletion id ids behind s k n)))

-- ---- entries of a refutation

abbrev IsOf : List ℕ → LratLine → Entry → Type 0
IsOf text line e = IsEntryFor text e line

module _ (text : List ℕ) where
  -- each entry is of a line
  entry-line : (lines : List LratLine) (es : List Entry) (k : ℕ) (e : Entry) → AreEntries text lines es → slice_get es k ≡ Some e → (lits : List Literal) × (hints : List ℤ) × Contains lines (Addition e.id lits hints) × ((behind : ℕ) × StandsAt ReadsStep text e.start (Addition e.id lits hints) behind)
  entry-line [] [] k e a h = absurd cc
  entry-line [] (x ∷ xs) k e a h = absurd a
  entry-line (Deletion id ids ∷ lines) es k e a h =
      let rest = entry-line lines es k e a h in
      (rest.0, rest.1, Contains-tail (Deletion id ids) (Addition e.id rest.0 rest.1) lines rest.2, rest.3)
  entry-line (Addition id lits hints ∷ lines) [] k e a h = absurd a
  entry-line (Addition id lits hints ∷ lines) (x ∷ xs) zero e a h =
      let same : x ≡ e = cc in
      let own : id ≡ e.id = sym a.0.0 ∙ ap (λ (y : Entry). y.id) same in
      let line : Addition id lits hints ≡ Addition e.id lits hints = ap (λ (n : ℕ). Addition n lits hints) own in (
        lits,
        hints,
        subst (λ (l : LratLine). Contains (Addition id lits hints ∷ lines) l) line (Contains-head (Addition id lits hints) lines),
        (a.0.1.0, subst (λ (l : LratLine). StandsAt ReadsStep text e.start l a.0.1.0) line (subst (λ (y : Entry). StandsAt ReadsStep text y.start (Addition id lits hints) a.0.1.0) same a.0.1.1)),
      )
  entry-line (Addition id lits hints ∷ lines) (x ∷ xs) (suc k) e a h =
      let rest = entry-line lines xs k e a.1 h in
      (rest.0, rest.1, Contains-tail (Addition id lits hints) (Addition e.id rest.0 rest.1) lines rest.2, rest.3)

  -- each addition has an entry
  line-entry : (lines : List LratLine) (es : List Entry) (id : ℕ) (lits : List Literal) (hints : List ℤ) → AreEntries text lines es → Contains lines (Addition id lits hints) → (k : ℕ) × (e : Entry) × (slice_get es k ≡ Some e) × IsEntryFor text e (Addition id lits hints)
  line-entry [] es id lits hints a (k, below, at) = absurd (omega (arith, below))
  line-entry (Deletion n ids ∷ lines) es id lits hints a (zero, below, at) = absurd (let no : Deletion n ids ≡ Addition id lits hints = at in cc)
  line-entry (Deletion n ids ∷ lines) es id lits hints a (suc k, below, at) = line-entry lines es id lits hints a (k, omega (arith, below), at)
  line-entry (Addition n ls hs ∷ lines) [] id lits hints a h = absurd a
  line-entry (Addition n ls hs ∷ lines) (x ∷ xs) id lits hints a (zero, below, at) =
      (0, x, refl, subst (λ (l : LratLine). IsEntryFor text x l) at a.0)
  line-entry (Addition n ls hs ∷ lines) (x ∷ xs) id lits hints a (suc k, below, at) =
      let rest = line-entry lines xs id lits hints a.1 (k, omega (arith, below), at) in
      (suc rest.0, rest.1, rest.2, rest.3)

  pub some-entry : (s : Standing) (lines : List LratLine) → refutes_from s lines ≡ true → AreEntries text (up_to_empty lines) [] → ⊥
  some-entry s [] h a = cc
  some-entry s (Deletion id ids ∷ lines) h a = some-entry (after_line s (Deletion id ids)) lines h a
  some-entry s (Addition id [] hints ∷ lines) h a = a
  some-entry s (Addition id (l ∷ ls) hints ∷ lines) h a = a

  entries-rise : (s : Standing) (lines : List LratLine) (es : List Entry) → refutes_from s lines ≡ true → AreEntries text (up_to_empty lines) es → Rises s.next (ids_of es)
  entries-rise s [] es h a = absurd cc
  entries-rise s (Deletion id ids ∷ lines) es h a = entries-rise (after_line s (Deletion id ids)) lines es h a
  entries-rise s (Addition id [] hints ∷ lines) [] h a = absurd a
  entries-rise s (Addition id [] hints ∷ lines) (x ∷ []) h a =
      let parts = and_parts (accepts (judged_line s (Addition id [] hints))) true h in
      let high : s.next ≤ id = next-from_accepted s id [] hints (Accepted-from_accepts (judged_line s (Addition id [] hints)) parts.0) in
      (omega (arith, high, a.0.0), tt)
  entries-rise s (Addition id [] hints ∷ lines) (x ∷ y ∷ xs) h a = absurd a.1
  entries-rise s (Addition id (l ∷ ls) hints ∷ lines) [] h a = absurd a
  entries-rise s (Addition id (l ∷ ls) hints ∷ lines) (x ∷ xs) h a =
      let line : LratLine = Addition id (l ∷ ls) hints in
      let parts = and_parts (accepts (judged_line s line)) (refutes_from (after_line s line) lines) h in
      let high : s.next ≤ id = next-from_accepted s id (l ∷ ls) hints (Accepted-from_accepts (judged_line s line) parts.0) in
      let rest : Rises (id + 1) (ids_of xs) = entries-rise (after_line s line) lines xs parts.1 a.1 in
      (omega (arith, high, a.0.0), subst (λ (n : ℕ). Rises (n + 1) (ids_of xs)) (sym a.0.0) rest)

  -- the last entry is that of the clause without literals
  last-empty : (s : Standing) (lines : List LratLine) (es : List Entry) (k : ℕ) (e : Entry) → refutes_from s lines ≡ true → AreEntries text (up_to_empty lines) es → slice_get es k ≡ Some e → suc k ≡ length es → (hints : List ℤ) × Contains (up_to_empty lines) (Addition e.id [] hints)
  last-empty s [] es k e h a is last = absurd cc
  last-empty s (Deletion id ids ∷ lines) es k e h a is last =
      let rest = last-empty (after_line s (Deletion id ids)) lines es k e h a is last in
      (rest.0, Contains-tail (Deletion id ids) (Addition e.id [] rest.0) (up_to_empty lines) rest.1)
  last-empty s (Addition id [] hints ∷ lines) [] k e h a is last = absurd a
  last-empty s (Addition id [] hints ∷ lines) (x ∷ []) zero e h a is last =
      let same : x ≡ e = cc in
      let own : id ≡ e.id = sym a.0.0 ∙ ap (λ (y : Entry). y.id) same in
      (hints, subst (λ (n : ℕ). Contains (Addition id [] hints ∷ []) (Addition n [] hints)) own (Contains-head (Addition id [] hints) []))
  last-empty s (Addition id [] hints ∷ lines) (x ∷ []) (suc k) e h a is last = absurd cc
  last-empty s (Addition id [] hints ∷ lines) (x ∷ y ∷ xs) k e h a is last = absurd a.1
  last-empty s (Addition id (l ∷ ls) hints ∷ lines) [] k e h a is last = absurd a
  last-empty s (Addition id (l ∷ ls) hints ∷ lines) (x ∷ []) k e h a is last =
      let parts = and_parts (accepts (judged_line s (Addition id (l ∷ ls) hints))) (refutes_from (after_line s (Addition id (l ∷ ls) hints)) lines) h in
      absurd (some-entry (after_line s (Addition id (l ∷ ls) hints)) lines parts.1 a.1)
  last-empty s (Addition id (l ∷ ls) hints ∷ lines) (x ∷ y ∷ xs) zero e h a is last = absurd (omega (arith, last))
  last-empty s (Addition id (l ∷ ls) hints ∷ lines) (x ∷ y ∷ xs) (suc k) e h a is last =
      let line : LratLine = Addition id (l ∷ ls) hints in
      let parts = and_parts (accepts (judged_line s line)) (refutes_from (after_line s line) lines) h in
      let rest = last-empty (after_line s line) lines (y ∷ xs) k e parts.1 a.1 is (omega (arith, last)) in
      (rest.0, Contains-tail line (Addition e.id [] rest.0) (up_to_empty lines) rest.1)

  -- and that has no other
  empty-last : (lines : List LratLine) (es : List Entry) (id : ℕ) (hints : List ℤ) → AreEntries text (up_to_empty lines) es → Contains (up_to_empty lines) (Addition id [] hints) → (k : ℕ) × (e : Entry) × (slice_get es k ≡ Some e) × (e.id ≡ id) × (suc k ≡ length es)
  empty-last [] es id hints a (k, below, at) = absurd (omega (arith, below))
  empty-last (Deletion n ids ∷ lines) es id hints a (zero, below, at) = absurd (let no : Deletion n ids ≡ Addition id [] hints = at in cc)
  empty-last (Deletion n ids ∷ lines) es id hints a (suc k, below, at) = empty-last lines es id hints a (k, omega (arith, below), at)
  empty-last (Addition n [] hs ∷ lines) [] id hints a h = absurd a
  empty-last (Addition n [] hs ∷ lines) (x ∷ []) id hints a (zero, below, at) =
      let same : n ≡ id = (let whole : Addition n [] hs ≡ Addition id [] hints = at in cc) in
      (0, x, refl, a.0.0 ∙ same, refl)
  empty-last (Addition n [] hs ∷ lines) (x ∷ []) id hints a (suc k, below, at) = absurd (omega (arith, below))
  empty-last (Addition n [] hs ∷ lines) (x ∷ y ∷ xs) id hints a h = absurd a.1
  empty-last (Addition n (l ∷ ls) hs ∷ lines) [] id hints a h = absurd a
  empty-last (Addition n (l ∷ ls) hs ∷ lines) (x ∷ xs) id hints a (zero, below, at) = absurd (let no : Addition n (l ∷ ls) hs ≡ Addition id [] hints = at in cc)
  empty-last (Addition n (l ∷ ls) hs ∷ lines) (x ∷ xs) id hints a (suc k, below, at) =
      let rest = empty-last lines xs id hints a.1 (k, omega (arith, below), at) in
      (suc rest.0, rest.1, rest.2, rest.3, ap suc rest.4)

rises-from-zero : (low : ℕ) (es : List Entry) → Rises low (ids_of es) → AreRising es
rises-from-zero low es r = Rises-lower low 0 (ids_of es) r (omega arith)

module _ (text : List ℕ) (live : List Numbered) (lines : List LratLine) (es : List Entry) (refutes : Refutes live lines) (are : AreEntries text (up_to_empty lines) es) where
  rise : AreRising es
  rise = rises-from-zero (standing_at live).next es (entries-rise text (standing_at live) lines es refutes are)

  -- what a needed entry's line names is needed
  needed-names : (j k : ℕ) → ((e : Entry) → slice_get es j ≡ Some e → IsNeeded (up_to_empty lines) e.id) → Names text es j k → (f : Entry) → slice_get es k ≡ Some f → IsNeeded (up_to_empty lines) f.id
  needed-names j k needs n f is =
      let own = entry-line text (up_to_empty lines) es j n.entry are n.stands in
      let same = read-there ReadsStep one-step text n.entry.start (Addition n.id n.lits n.hints) (Addition n.entry.id own.0 own.1) n.behind own.3.1.line (drop own.3.0 text) n.line own.3.1.begins own.3.1.read in
      let hints_are : n.hints ≡ own.1 = same-hints n.id n.entry.id n.lits own.0 n.hints own.1 same.0 in
      let found : n.hinted.entry ≡ f = some-one n.hinted.entry f (sym n.hinted.stands ∙ is) in
      named n.entry.id f.id own.0 own.1 (needs n.entry n.stands) own.2
      (subst (λ (hs : List ℤ). Contains (map unsigned_abs hs) f.id) hints_are (subst (λ (y : Entry). Contains (map unsigned_abs n.hints) y.id) found n.hinted.among))

  -- an entry of a needed id is marked, where what marked ones name is
  needed-marked : (first marks : List Bool) → MarksLast (length es) first → ((k : ℕ) → IsMarked first k → IsMarked marks k) → ((i k : ℕ) → IsMarked marks i → Names text es i k → IsMarked marks k) → (id : ℕ) → IsNeeded (up_to_empty lines) id → (k : ℕ) (e : Entry) → slice_get es k ≡ Some e → e.id ≡ id → IsMarked marks k
  needed-marked first marks l stay closed id (empty n hints there) k e is own =
      let last = empty-last text lines es id hints are there in
      let here : k ≡ last.0 = rising-one es k last.0 e last.1 rise is last.2 (own ∙ sym last.3) in
      stay k (l.2 k (ap suc here ∙ last.4))
  needed-marked first marks l stay closed id (named n hinted lits hints needs there among) k e is own =
      let j = line-entry text (up_to_empty lines) es n lits hints are there in
      let own_marked : IsMarked marks j.0 = needed-marked first marks l stay closed n needs j.0 j.1 j.2 j.3.0 in
      let has : HasId es (map unsigned_abs hints) k = record { entry = e; stands = is; among = subst (λ (i : ℕ). Contains (map unsigned_abs hints) i) (sym own) among } in
      closed j.0 k own_marked (record { entry = j.1; stands = j.2; id = n; lits = lits; hints = hints; behind = j.3.1.0; line = j.3.1.1; hinted = has })

  reached-needed : (first : List Bool) → MarksLast (length es) first → (k : ℕ) → Reaches text es first k → (e : Entry) → slice_get es k ≡ Some e → IsNeeded (up_to_empty lines) e.id
  reached-needed first l k (marked _ is) e at =
      let last = last-empty text (standing_at live) lines es k e refutes are at (l.1 k is) in
      empty e.id last.0 last.1
  reached-needed first l k (further j _ r n) e at = needed-names j k (reached-needed first l j r) n e at

  pub are-marked : (first marks : List Bool) → MarksLast (length es) first → MarksNamed text es first marks → ClosedFrom text es 0 marks → AreMarked (up_to_empty lines) es marks
  are-marked first marks l m closed = record {
    each = m.each ∙ l.0;
    sound = λ k e is at. reached-needed first l k (m.only k is) e at;
    whole = λ k e at needs. needed-marked first marks l m.stay (λ i n. closed rise i n (omega arith)) e.id needs k e at refl;
  }

-- ---- the last mark

none-marked : (n k : ℕ) → IsMarked (replicate n false) k → ⊥
none-marked zero k h = cc
none-marked (suc n) zero h = let same : false ≡ true = some-one false true h in cc
none-marked (suc n) (suc k) h = none-marked n k h

pub no-mark : (marks : List Bool) → marks ≡ replicate 0 false → MarksLast 0 marks
no-mark marks is = subst (λ (ms : List Bool). MarksLast 0 ms) (sym is) (refl, (λ k h. absurd (none-marked 0 k h)), (λ k e. absurd (omega (arith, e))))

pub last-mark : (n : ℕ) (marks : List Bool) → 0 < n → marks ≡ replicate n false → MarksLast n (set marks (n - 1) true)
last-mark n marks some is =
    let size : length marks ≡ n = ap length is ∙ length-replicate n false in (
      length-set marks (n - 1) true ∙ size,
      (λ k h. elim (cases-same k (n - 1)) [
        | inl same ↦ omega (arith, same, some)
        | inr other ↦ absurd (none-marked n k (ap (λ (ms : List Bool). slice_get ms k) (sym is) ∙ (sym (set-other marks (n - 1) k other) ∙ h)))
      ]),
      (λ k e. subst (λ (i : ℕ). IsMarked (set marks (n - 1) true) i) (omega (arith, e)) (set-same marks (n - 1) (omega (arith, size, some)))),
    )

pub some-below : {X : Type 0} (xs : List X) (k : ℕ) (x : X) → slice_get xs k ≡ Some x → k < length xs
some-below [] k x h = absurd cc
some-below (y ∷ ys) zero x h = omega arith
some-below (y ∷ ys) (suc k) x h = let rest : k < length ys = some-below ys k x h in omega (arith, rest)

pub get-there : {X : Type 0} (xs : List X) (k : ℕ) (d : X) → k < length xs → slice_get xs k ≡ Some (get_or xs k d)
get-there [] k d h = absurd (omega (arith, h))
get-there (x ∷ xs) zero d h = refl
get-there (x ∷ xs) (suc k) d h = get-there xs k d (omega (arith, h))

pub named-result : {E : Type 0} (text : List ℕ) (es : List Entry) (at : ℕ) (old new : List Bool) (r : Result Bool E) → IfOk r (λ again. Marks es (Names text es at) at old new again) → IsMarked old at → OnOk r (MarksNamed text es old new)
named-result text es at old new (Ok again) m is = named-marked text es at old new again m is
named-result text es at old new (Err e) m is = tt

pub closed-result : {E : Type 0} (text : List ℕ) (es : List Entry) (at : ℕ) (old new : List Bool) (r : Result Bool E) → IfOk r (λ again. Marks es (Names text es at) at old new again)
    → IfOk r (λ again. again ≡ false → ClosedFrom text es (at + 1) old → ClosedFrom text es at new)
closed-result text es at old new (Ok again) m = λ none c. closed-followed text es at old new (subst (λ (b : Bool). Marks es (Names text es at) at old new b) none m) c
closed-result text es at old new (Err e) m = tt

pub none-some : (k : ℕ) → None ≡ Some k → ⊥
none-some k e = cc

pub from-higher : (es : List Entry) (id high low : ℕ) → high ≤ low → IsFrom es id high → IsFrom es id low
from-higher es id high low h f r k e le is = f r k e (omega (arith, h, le)) is

pub take-back : (n : ℕ) (new rest : List Bool) → n ≡ length new → take n (new ++ rest) ≡ new
take-back zero [] rest h = refl
take-back (suc n) [] rest h = absurd cc
take-back zero (x ∷ xs) rest h = absurd cc
take-back (suc n) (x ∷ xs) rest h = ap (λ (t : List Bool). x ∷ t) (take-back n xs rest (omega (arith, h)))
