-- A look at all clauses, one after the other.
use Rattle.std.proofs.Common.{◌≡◌, ℕ, ◌+◌, ◌<◌, ◌≤◌, Bool, true, false, List, [], ◌∷◌, ◌++◌, length, None, Some, All, refl, sym, ◌∙◌, ap, arith, inl, inr}
use Rattle.std.specs.List.{slice_get}
use Rattle.std.proofs.lemmas.Bool.{cases_lt, false≢true}
use Rattle.std.proofs.lemmas.List.{length_push}
use Rattle.std.proofs.lemmas.List.Elements.{recursion_from_All}
use Rattle.std.proofs.lemmas.Option.{none-some, same_Some, slice_get_within}
use Rattle.std.specs.Option.{option_map}
use Rattle.qv_cnf.specs.Listing.{clause_named}
use Rattle.qv_cnf.specs.Literal.{Literal, IsLiteral}
use Rattle.qv_cnf.specs.Refutation.{hint_reading}
use Rattle.qv_cnf.specs.declared.readings.Reading.TheVariants.{Forced, Useless}
use Rattle.qv_watch.specs.Attaching.{Stored, attached_in, lits_in, IsNamed}
use Rattle.qv_watch.specs.Entries.{Entry, last_level, reading_on, says, trues, value_of}
use Rattle.qv_watch.specs.TrailState.{AllHaveRoom, Continues, IsGrown, MayFollow}
use Rattle.qv_watch.proofs.Entering.{last_level-push}
use Rattle.qv_watch.proofs.Growing.{clause_room, forced_literal, Continues-longer, Continues-nothing, Continues-push, IsGrown-push}

-- where the look has come to: as long as it is quiet, each clause so far is at rest, and otherwise it went on
pub record Looked (clauses : List Stored) (room : ℕ) (old new : List Entry) (quiet : Bool) (i : ℕ) : Type 0 where
  pub grown : IsGrown room (attached_in clauses) new
  pub level : last_level new ≡ last_level old
  pub goes_on : Continues (last_level old) old new
  pub at_rest : quiet ≡ true → (k : ℕ) (lits : List Literal) → k < i → lits_in (slice_get clauses k) ≡ Some lits → reading_on new lits ≡ Useless
  pub more : quiet ≡ false → length old < length new
  pub within : quiet ≡ false → length new ≤ room

pub Looked-start : (clauses : List Stored) (room : ℕ) (es : List Entry) → IsGrown room (attached_in clauses) es → Looked clauses room es es true 0
Looked-start clauses room es g = record {
  grown = g;
  level = refl;
  goes_on = Continues-nothing (last_level es) es;
  at_rest = λ _ k lits below here. absurd (omega arith);
  more = λ e. absurd (false≢true (sym e));
  within = λ e. absurd (false≢true (sym e));
}

-- a clause that is at rest, or a place without a clause
pub Looked-rest : (clauses : List Stored) (room : ℕ) (old new : List Entry) (quiet : Bool) (i : ℕ) → Looked clauses room old new quiet i → ((lits : List Literal) → lits_in (slice_get clauses i) ≡ Some lits → reading_on new lits ≡ Useless) → Looked clauses room old new quiet (i + 1)
Looked-rest clauses room old new quiet i l rests = record {
  grown = l.grown;
  level = l.level;
  goes_on = l.goes_on;
  at_rest = λ q k lits below here. elim (cases_lt k i) [
    | inl earlier ↦ l.at_rest q k lits earlier here
    | inr now ↦
        let at : k ≡ i = omega arith in
        rests lits (ap (λ n. lits_in (slice_get clauses n)) (sym at) ∙ here)
  ];
  more = l.more;
  within = l.within;
}

-- a clause stands at its place with its id
stands_at : (clauses : List Stored) (k id : ℕ) (lits : List Literal) → lits_in (slice_get clauses k) ≡ Some lits → option_map (λ s. s.id) (slice_get clauses k) ≡ Some id → (s : Stored) × (slice_get clauses k ≡ Some s) × (s.lits ≡ Some lits) × (s.id ≡ id)
stands_at clauses k id lits here is =
    elim (slice_get clauses k) as (λ o. slice_get clauses k ≡ o → lits_in o ≡ Some lits → option_map (λ s. s.id) o ≡ Some id → (s : Stored) × (slice_get clauses k ≡ Some s) × (s.lits ≡ Some lits) × (s.id ≡ id)) [
      | None ↦ λ _ h _. absurd (none-some lits h)
      | Some s ↦ λ there h i. (s, there, h, same_Some s.id id i)
    ] refl here is

-- the literals at a place are those of the clause of its id
module _ (clauses : List Stored) (k id : ℕ) (lits : List Literal) (named : IsNamed clauses) (here : lits_in (slice_get clauses k) ≡ Some lits) (is : option_map (λ s. s.id) (slice_get clauses k) ≡ Some id) where
  pub named_at : clause_named id (attached_in clauses) ≡ Some lits
  named_at =
      let s = stands_at clauses k id lits here is in
      ap (λ n. clause_named n (attached_in clauses)) (sym s.3) ∙ named k s.0 lits s.1 s.2

  -- what the clause at a place says is what the clause of its id says
  pub says_at : (es : List Entry) → says (attached_in clauses) es id ≡ reading_on es lits
  says_at es = ap (hint_reading (trues es)) named_at

some_id : (clauses : List Stored) (k : ℕ) (lits : List Literal) → lits_in (slice_get clauses k) ≡ Some lits → (id : ℕ) × (option_map (λ s. s.id) (slice_get clauses k) ≡ Some id)
some_id clauses k lits here =
    elim (slice_get clauses k) as (λ o. lits_in o ≡ Some lits → (id : ℕ) × (option_map (λ s. s.id) o ≡ Some id)) [ None ↦ λ h. absurd (none-some lits h) | Some s ↦ λ _. (s.id, refl) ] here

-- there is a place where a clause stands
pub place_within : (clauses : List Stored) (k : ℕ) (lits : List Literal) → lits_in (slice_get clauses k) ≡ Some lits → k < length clauses
place_within clauses k lits here =
    let i = some_id clauses k lits here in
    let s = stands_at clauses k i.0 lits here i.1 in
    slice_get_within clauses k s.0 s.1

-- the variables of a clause at a place have room
pub rooms_at : (clauses : List Stored) (room k : ℕ) (lits : List Literal) → IsNamed clauses → AllHaveRoom room (attached_in clauses) → lits_in (slice_get clauses k) ≡ Some lits → All (λ l. l.variable ≤ room) lits
rooms_at clauses room k lits named rooms here =
    let i = some_id clauses k lits here in
    clause_room room (attached_in clauses) i.0 lits (recursion_from_All (λ c. All (λ l. l.variable ≤ room) c.lits) (attached_in clauses) rooms) (named_at clauses k i.0 lits named here i.1)

-- the literal that a clause forces may come
module _ (clauses : List Stored) (room : ℕ) (es : List Entry) (k : ℕ) (lits : List Literal) (lit : Literal) (named : IsNamed clauses) (rooms : AllHaveRoom room (attached_in clauses)) (here : lits_in (slice_get clauses k) ≡ Some lits) (forces : reading_on es lits ≡ Forced lit) where
  pub forced_has_room : lit.variable ≤ room
  forced_has_room = (forced_literal (λ l. l.variable ≤ room) es lits lit (rooms_at clauses room k lits named rooms here) forces).0

  pub forced_is_fresh : value_of es lit ≡ None
  forced_is_fresh = (forced_literal (λ l. l.variable ≤ room) es lits lit (rooms_at clauses room k lits named rooms here) forces).1

  pub forced_follows : (id : ℕ) → option_map (λ s. s.id) (slice_get clauses k) ≡ Some id → IsLiteral lit → MayFollow room (attached_in clauses) es record { lit = lit; level = last_level es; reason = Some id }
  forced_follows id is literal = record {
    literal = literal;
    has_room = forced_has_room;
    fresh = forced_is_fresh;
    comes = (refl, says_at clauses k id lits named here is es ∙ forces);
  }

-- a literal came from a clause that was unit
pub Looked-derive : (clauses : List Stored) (room : ℕ) (old new : List Entry) (quiet : Bool) (i : ℕ) (lit : Literal) (id : ℕ) → Looked clauses room old new quiet i → MayFollow room (attached_in clauses) new record { lit = lit; level = last_level new; reason = Some id } → length (new ++ record { lit = lit; level = last_level new; reason = Some id } ∷ []) ≤ room → Looked clauses room old (new ++ record { lit = lit; level = last_level new; reason = Some id } ∷ []) false (i + 1)
Looked-derive clauses room old new quiet i lit id l m fits =
    let e : Entry = record { lit = lit; level = last_level new; reason = Some id } in
    record {
      grown = IsGrown-push room (attached_in clauses) new e l.grown m;
      level = last_level-push new e ∙ l.level;
      goes_on = Continues-push (last_level old) old new e l.goes_on l.level refl;
      at_rest = λ q. absurd (false≢true q);
      more = λ _. let n : length (new ++ e ∷ []) ≡ length new + 1 = length_push new e in let before : length old ≤ length new = Continues-longer (last_level old) old new l.goes_on in omega arith;
      within = λ _. fits;
    }
