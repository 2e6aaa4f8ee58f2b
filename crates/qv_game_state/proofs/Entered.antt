-- A game with one entry more.
use Rattle.std.proofs.Common.{◌≡◌, ℕ, ◌+◌, ◌≤◌, ◌<◌, List, [], ◌∷◌, ◌++◌, length, map, refl, sym, ap, ◌∙◌, subst, arith, append-nil}
use Rattle.std.specs.List.{All}
use Rattle.std.proofs.lemmas.List.{length-append, length-map, map-append}
use Rattle.std.proofs.lemmas.List.Elements.{All-from_recursion, recursion_from_All}
use Rattle.qv_words.specs.Tree.{Tree}
use Rattle.qv_words.specs.Problem.{Problem}
use Rattle.qv_words.specs.Linked.{Entry, IsEntry}
use Rattle.qv_words.proofs.Leaves.{both}
use Rattle.qv_store.specs.Stores.{Grows}
use Rattle.qv_store.specs.Walks.{named}
use Rattle.qv_store.specs.declared.problem.Problem.{Problem as Posed}
use Rattle.qv_entries.specs.Rows.{Row, IsRowIn, entries_in, entry_in}
use Rattle.qv_meter.specs.Played.{IsPlayed}
use Rattle.qv_meter.specs.Records.{Metering, after_instance}
use Rattle.qv_meter.specs.Charging.{MayChargeInstance}
use Rattle.qv_meter.specs.Units.{EntryUnit, IsEntryUnit, IsInstance}
use Rattle.qv_meter.proofs.Fresh.{last-entry, linked}
use Rattle.qv_words.specs.Linked.{IsLinked}
use Rattle.qv_game_state.specs.declared.game.Game.{Game}
use Rattle.qv_game_state.specs.Charges.{IsCharged, Tally}
use Rattle.qv_game_state.specs.Entering.{IsEntered, MayEnter, MayTell}
use Rattle.qv_game_state.specs.Playing.{tally_of, AreQueries, IsGame}
use Rattle.qv_game_state.specs.Spans.{span_of}
use Rattle.qv_game_state.proofs.Answered.{of-charged}
use Rattle.qv_game_state.proofs.Counting.{charged-instance}
use Rattle.qv_game_state.proofs.Entering.{undecided-with}
use Rattle.qv_game_state.proofs.Keeping.{below-stays, entries-stay, named-stays, rows-stay}

pub with-row : (trees : List Tree) (rows : List Row) (row : Row) → entries_in trees (rows ++ row ∷ []) ≡ entries_in trees rows ++ entry_in trees row ∷ []
with-row trees rows row = map-append (entry_in trees) rows (row ∷ [])

all-with : (trees : List Tree) (rows : List Row) (row : Row) → All (IsRowIn trees) rows → IsRowIn trees row → All (IsRowIn trees) (rows ++ row ∷ [])
all-with trees rows row h r = All-from_recursion (IsRowIn trees) (rows ++ row ∷ []) (both (IsRowIn trees) rows (row ∷ []) (recursion_from_All (IsRowIn trees) rows h) (r, tt))

played-with : (trees : List Tree) (posed : Posed) (p : Problem) (limit : ℕ) (g : Game) (row : Row) (m : Metering) → MayEnter trees posed p limit g row m → IsPlayed p (entries_in trees g.entries ++ entry_in trees row ∷ [])
played-with trees posed p limit g row m h = subst (IsPlayed p) (with-row trees g.entries row) h.played

pub entry-with : (trees : List Tree) (posed : Posed) (p : Problem) (limit : ℕ) (g : Game) (row : Row) (m : Metering) → MayEnter trees posed p limit g row m → IsEntry p (entries_in trees g.entries) (entry_in trees row)
entry-with trees posed p limit g row m h = (last-entry p [] (entries_in trees g.entries) (entry_in trees row) (played-with trees posed p limit g row m h)).0

pub linked-with : (trees : List Tree) (posed : Posed) (p : Problem) (limit : ℕ) (g : Game) (row : Row) (m : Metering) → MayEnter trees posed p limit g row m → IsLinked p (entries_in trees (g.entries ++ row ∷ []))
linked-with trees posed p limit g row m h = linked p [] (entries_in trees (g.entries ++ row ∷ [])) h.played

-- it may be charged
pub may-charge_entry : (trees : List Tree) (posed : Posed) (p : Problem) (limit : ℕ) (g : Game) (row : Row) (m : Metering) → MayEnter trees posed p limit g row m → MayChargeInstance m (EntryUnit (entries_in trees g.entries) (entry_in trees row))
may-charge_entry trees posed p limit g row m h =
    let c = h.game.charged in
    let count : length (entries_in trees g.entries) ≡ c.newest.instances = length-map g.entries (entry_in trees) ∙ sym c.instances in
    let unit : IsEntryUnit c.kept.problem c.newest.instances (entries_in trees g.entries) (entry_in trees row) = record {
      played = subst (λ (x : Problem). IsPlayed x (entries_in trees g.entries ++ entry_in trees row ∷ [])) (sym c.problem) (played-with trees posed p limit g row m h);
      counted = count;
    } in
    of-charged p (length g.entries) limit (map tally_of g.queries.items) m (λ r k. IsInstance k.problem r.instances (EntryUnit (entries_in trees g.entries) (entry_in trees row))) c unit

-- and told
pub may-tell : (trees : List Tree) (posed : Posed) (p : Problem) (limit : ℕ) (g : Game) (row : Row) (m after : Metering) → MayEnter trees posed p limit g row m → after ≡ after_instance m → 2 ≤ row.level → MayTell trees p (entries_in trees g.entries) (entry_in trees row) limit g.queries.items after
may-tell trees posed p limit g row m after h is low =
    let entry = entry-with trees posed p limit g row m h in
    let count : length g.entries + 1 ≡ length (entries_in trees g.entries) + 1 = (let same = length-map g.entries (entry_in trees) in omega (arith, same)) in
    record {
      are = h.game.queries;
      played = played-with trees posed p limit g row m h;
      undecided = undecided-with (entries_in trees g.entries) (entry_in trees row) h.undecided (λ e. omega (arith, e, low));
      charged = subst (λ (n : ℕ). IsCharged p n limit (map tally_of g.queries.items) after) count
          (subst (IsCharged p (length g.entries + 1) limit (map tally_of g.queries.items)) (sym is) (charged-instance p (length g.entries) limit (map tally_of g.queries.items) m h.game.charged));
      low = low;
      high = entry.links.high;
      formula = entry.region.formula;
    }

pub entered-game : (old new : List Tree) (posed : Posed) (p : Problem) (limit : ℕ) (g next : Game) (row : Row) (m after : Metering) → MayEnter old posed p limit g row m → Grows old new → next.spans.items ≡ g.spans.items → next.places.items ≡ g.places.items → next.entries ≡ g.entries ++ row ∷ [] → AreQueries new p (entries_in old g.entries ++ entry_in old row ∷ []) limit next.queries.items → map tally_of next.queries.items ≡ map tally_of g.queries.items → after ≡ after_instance m → IsGame new p limit next after
entered-game old new posed p limit g next row m after h grows spans places rows queries tallies is =
    let all = all-with old g.entries row h.game.rows h.row_in in
    let stays : entries_in new next.entries ≡ entries_in old (g.entries ++ row ∷ []) = ap (entries_in new) rows ∙ entries-stay old new (g.entries ++ row ∷ []) grows all in
    let count : length g.entries + 1 ≡ length next.entries = sym (ap length rows ∙ length-append g.entries (row ∷ [])) in
    record {
      problem = h.game.problem;
      spans = ap (map span_of) spans ∙ h.game.spans;
      below = subst (λ (ids : List ℕ). All (λ n. n < length new) ids) (sym places) (below-stays old new g.places.items grows h.game.below);
      places = ap (named new) places ∙ named-stays old new g.places.items grows h.game.below ∙ h.game.places;
      rows = subst (λ (rs : List Row). All (IsRowIn new) rs) (sym rows) (rows-stay old new (g.entries ++ row ∷ []) grows all);
      played = subst (IsPlayed p) (sym stays) h.played;
      queries = subst (λ (es : List Entry). AreQueries new p es limit next.queries.items) (sym (stays ∙ with-row old g.entries row)) queries;
      charged = subst (λ (ts : List Tally). IsCharged p (length next.entries) limit ts after) (sym tallies)
          (subst (λ (n : ℕ). IsCharged p n limit (map tally_of g.queries.items) after) count
          (subst (IsCharged p (length g.entries + 1) limit (map tally_of g.queries.items)) (sym is) (charged-instance p (length g.entries) limit (map tally_of g.queries.items) m h.game.charged)));
    }

pub entered-all : (old new : List Tree) (posed : Posed) (p : Problem) (limit : ℕ) (g next : Game) (row : Row) (m after : Metering) → MayEnter old posed p limit g row m → Grows old new → next.spans.items ≡ g.spans.items → next.places.items ≡ g.places.items → next.entries ≡ g.entries ++ row ∷ [] → AreQueries new p (entries_in old g.entries ++ entry_in old row ∷ []) limit next.queries.items → map tally_of next.queries.items ≡ map tally_of g.queries.items → after ≡ after_instance m → IsEntered new p limit g next row.level row.winner after
entered-all old new posed p limit g next row m after h grows spans places rows queries tallies is = record {
  game = entered-game old new posed p limit g next row m after h grows spans places rows queries tallies is;
  row = row;
  rows = rows;
  level_is = refl;
  winner_is = refl;
}

pub grows-none : (trees : List Tree) → Grows trees trees
grows-none trees = record { more = []; behind = sym (append-nil trees) }
