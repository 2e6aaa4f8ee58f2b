-- Which ids are needed among lines can be found out, so that lines and sections can be trimmed.
use Rattle.std.proofs.Common.{◌≡◌, ℕ, zero, suc, ◌≤◌, ◌⊎◌, eqb, ⊎_elim, List, [], ◌∷◌, ◌++◌, length, map, refl, sym, subst, inl, inr, arith}
use Rattle.std.specs.Prelude.{unsigned_abs, Contains}
use Rattle.std.proofs.lemmas.List.Elements.{Contains-append_left, Contains-append_right, Contains-append_cases}
use Rattle.std.proofs.lemmas.Bool.{cases_Bool, eqb-true, eqb-false}
use Rattle.qv_cnf.specs.Literal.{Literal}
use Rattle.qv_cnf.specs.LratLine.{LratLine, Addition, Deletion}
use Rattle.qv_words.specs.declared.op.Answer.TheVariants.{Sat, Unsat, Unknown}
use Rattle.qv_cert.specs.Line.{Check, Lrat, Step, End}
use Rattle.qv_trim.specs.Needed.{up_to_empty, IsNeeded, empty, named, KeepsNeeded, nothing, keeps, drops, deletes}
use Rattle.qv_trim.specs.TrimLaws.{LinesCanBeTrimmed, SectionsCanBeTrimmed}
use Rattle.qv_trim.proofs.Kept.{Contains-head, Contains-tail}
use Rattle.qv_trim.proofs.Sectioned.{front_of, trimmed-own}

-- it is so, or it isn't
abbrev Decided : Type 0 → Type 0
Decided P = P ⊎ (P → ⊥)

-- ---- what a list contains

in-none : {X : Type 0} (x : X) → Contains {X = X} [] x → ⊥
in-none x (k, below, at) = omega (arith, below)

in-cons : {X : Type 0} (y x : X) (xs : List X) → Contains (y ∷ xs) x → (y ≡ x) ⊎ Contains xs x
in-cons y x xs (zero, below, at) = inl at
in-cons y x xs (suc k, below, at) = inr (k, omega (arith, below), at)

same-decided : (a b : ℕ) → Decided (a ≡ b)
same-decided a b = elim (cases_Bool (eqb a b)) [
  | inl e ↦ inl (eqb-true a b e)
  | inr e ↦ inr (λ same. eqb-false a b e same)
]

has-decided : (id : ℕ) (ids : List ℕ) → Decided (Contains ids id)
has-decided id [] = inr (in-none id)
has-decided id (x ∷ xs) = elim (same-decided x id) [
  | inl same ↦ inl (subst (λ (y : ℕ). Contains (x ∷ xs) y) same (Contains-head x xs))
  | inr other ↦ elim (has-decided id xs) [
    | inl there ↦ inl (Contains-tail x id xs there)
    | inr gone ↦ inr (λ h. ⊎_elim other gone (in-cons x id xs h))
  ]
]

-- ---- a line is ready whose own id is known to be needed

abbrev IsReady : List ℕ → LratLine → Type 0
IsReady known (Addition id lits hints) = (lits ≡ []) ⊎ Contains known id
IsReady known (Deletion id ids) = ⊥

ready-decided : (known : List ℕ) (line : LratLine) → Decided (IsReady known line)
ready-decided known (Deletion id ids) = inr (λ no. no)
ready-decided known (Addition id [] hints) = inl (inl refl)
ready-decided known (Addition id (l ∷ ls) hints) = elim (has-decided id known) [
  | inl there ↦ inl (inr there)
  | inr gone ↦ inr (λ h. ⊎_elim (λ e. absurd cc) gone h)
]

-- a ready line among these, and the others
record Ready (known : List ℕ) (lines : List LratLine) : Type 0 where
  line : LratLine
  others : List LratLine
  ready : IsReady known line
  among : Contains lines line
  parts : (other : LratLine) → Contains lines other → (line ≡ other) ⊎ Contains others other
  within : (other : LratLine) → Contains others other → Contains lines other
  fewer : length lines ≡ suc (length others)

abbrev NoneReady : List ℕ → List LratLine → Type 0
NoneReady known lines = (line : LratLine) → Contains lines line → IsReady known line → ⊥

ready-later : (known : List ℕ) (first : LratLine) (lines : List LratLine) → Ready known lines → Ready known (first ∷ lines)
ready-later known first lines r = record {
  line = r.line;
  others = first ∷ r.others;
  ready = r.ready;
  among = Contains-tail first r.line lines r.among;
  parts = λ other h.
      ⊎_elim (λ same. inr (subst (λ (l : LratLine). Contains (first ∷ r.others) l) same (Contains-head first r.others)))
      (λ there. ⊎_elim (λ is. inl is) (λ left. inr (Contains-tail first other r.others left)) (r.parts other there)) (in-cons first other lines h);
  within = λ other h.
      ⊎_elim (λ same. subst (λ (l : LratLine). Contains (first ∷ lines) l) same (Contains-head first lines))
      (λ left. Contains-tail first other lines (r.within other left)) (in-cons first other r.others h);
  fewer = omega (arith, r.fewer);
}

find : (known : List ℕ) (lines : List LratLine) → Ready known lines ⊎ NoneReady known lines
find known [] = inr (λ line there _. in-none line there)
find known (first ∷ lines) = elim (ready-decided known first) [
  | inl ready ↦ inl (record {
    line = first;
    others = lines;
    ready = ready;
    among = Contains-head first lines;
    parts = λ other h. in-cons first other lines h;
    within = λ other h. Contains-tail first other lines h;
    fewer = refl;
  })
  | inr spared ↦ elim (find known lines) [
    | inl later ↦ inl (ready-later known first lines later)
    | inr none ↦ inr (λ line h ready. ⊎_elim (λ same. spared (subst (IsReady known) (sym same) ready)) (λ there. none line there ready) (in-cons first line lines h))
  ]
]

-- ---- the ids that are needed, one ready line after the other

-- the id that a line adds, and those that its hints name
abbrev ids_of : LratLine → List ℕ
ids_of (Addition id lits hints) = id ∷ map unsigned_abs hints
ids_of (Deletion id ids) = []

abbrev Used : List ℕ → LratLine → Type 0
Used known line = (id : ℕ) → Contains (ids_of line) id → Contains known id

module _ (all : List LratLine) where
  abbrev Sound : List ℕ → Type 0
  Sound known = (id : ℕ) → Contains known id → IsNeeded all id

  record Found (known : List ℕ) : Type 0 where
    sound : Sound known
    whole : (line : LratLine) → Contains all line → IsReady known line → Used known line

  found-whole : (known : List ℕ) → Found known → (id : ℕ) → IsNeeded all id → Contains known id
  found-whole known f id (empty _ hints there) = f.whole (Addition id [] hints) there (inl refl) id (Contains-head id (map unsigned_abs hints))
  found-whole known f hinted (named id _ lits hints needed there names) =
      f.whole (Addition id lits hints) there (inr (found-whole known f id needed)) hinted (Contains-tail id hinted (map unsigned_abs hints) names)

  ready-sound : (known : List ℕ) (line : LratLine) → Sound known → Contains all line → IsReady known line → Sound (ids_of line)
  ready-sound known (Deletion own ids) sound there ready id h = absurd ready
  ready-sound known (Addition own lits hints) sound there ready id h =
      let is : IsNeeded all own =
      ⊎_elim (λ none. empty own hints (subst (λ (ls : List Literal). Contains all (Addition own ls hints)) none there)) (λ has. sound own has) ready in
      ⊎_elim (λ same. subst (IsNeeded all) same is) (λ hinted. named own id lits hints is there hinted) (in-cons own id (map unsigned_abs hints) h)

  -- where these lines are left, and all others are used
  record Pending (known : List ℕ) (left : List LratLine) : Type 0 where
    sound : Sound known
    within : (line : LratLine) → Contains left line → Contains all line
    others : (line : LratLine) → Contains all line → Contains left line ⊎ Used known line

  pending-found : (known : List ℕ) (left : List LratLine) → Pending known left → NoneReady known left → Found known
  pending-found known left p none = record {
    sound = p.sound;
    whole = λ line there ready. ⊎_elim (λ still. absurd (none line still ready)) (λ used. used) (p.others line there);
  }

  pending-less : (known : List ℕ) (left : List LratLine) → Pending known left → (r : Ready known left) → Pending (ids_of r.line ++ known) r.others
  pending-less known left p r = record {
    sound = λ id h.
        ⊎_elim (ready-sound known r.line p.sound (p.within r.line r.among) r.ready id) (p.sound id) (Contains-append_cases (ids_of r.line) known id h);
    within = λ line h. p.within line (r.within line h);
    others = λ line there.
        ⊎_elim (λ still. ⊎_elim (λ same. inr (subst (Used (ids_of r.line ++ known)) same (λ id h. Contains-append_left (ids_of r.line) known id h))) (λ left. inl left) (r.parts line still))
        (λ used. inr (λ id h. Contains-append_right (ids_of r.line) known id (used id h))) (p.others line there);
  }

  find-all : (n : ℕ) (known : List ℕ) (left : List LratLine) → length left ≤ n → Pending known left → (ids : List ℕ) × Found ids
  find-all zero known left few p = elim (find known left) [
    | inl r ↦ absurd (omega (arith, few, r.fewer))
    | inr none ↦ (known, pending-found known left p none)
  ]
  find-all (suc n) known left few p = elim (find known left) [
    | inl r ↦ find-all n (ids_of r.line ++ known) r.others (omega (arith, few, r.fewer)) (pending-less known left p r)
    | inr none ↦ (known, pending-found known left p none)
  ]

  found : (ids : List ℕ) × Found ids
  found = find-all (length all) [] all (omega arith) (record {
    sound = λ id there. absurd (in-none id there);
    within = λ line there. there;
    others = λ line there. inl there;
  })

  needed-decided : (id : ℕ) → Decided (IsNeeded all id)
  needed-decided id = elim (has-decided id found.0) [
    | inl there ↦ inl (found.1.sound id there)
    | inr gone ↦ inr (λ is. gone (found-whole found.0 found.1 id is))
  ]

-- ---- what is kept

keep : (needed : ℕ → Type 0) → ((id : ℕ) → Decided (needed id)) → (lines : List LratLine) → (kept : List LratLine) × KeepsNeeded needed lines kept
keep needed decided [] = ([], nothing)
keep needed decided (Deletion id ids ∷ lines) = let k = keep needed decided lines in (Deletion id ids ∷ k.0, deletes id ids lines k.0 k.1)
keep needed decided (Addition id lits hints ∷ lines) =
    let k = keep needed decided lines in
    elim (decided id) [
      | inl is ↦ (Addition id lits hints ∷ k.0, keeps id lits hints lines k.0 is k.1)
      | inr spared ↦ (k.0, drops id lits hints lines k.0 spared k.1)
    ]

pub lines_can_be_trimmed : LinesCanBeTrimmed
lines_can_be_trimmed lines = keep (IsNeeded (up_to_empty lines)) (needed-decided (up_to_empty lines)) (up_to_empty lines)

pub sections_can_be_trimmed : SectionsCanBeTrimmed
sections_can_be_trimmed task Sat texts p =
    let k = lines_can_be_trimmed p.steps in
    (front_of task Sat texts p ++ (Lrat ∷ (map Step k.0 ++ End ∷ [])), trimmed-own task Sat texts p k.0 k.1)
sections_can_be_trimmed task Unsat texts p =
    let k = lines_can_be_trimmed p.steps in
    (front_of task Unsat texts p ++ (Lrat ∷ (map Step k.0 ++ End ∷ [])), trimmed-own task Unsat texts p k.0 k.1)
sections_can_be_trimmed task Unknown texts s = (Check task.number Unknown ∷ End ∷ [], (task.number, s, refl))
