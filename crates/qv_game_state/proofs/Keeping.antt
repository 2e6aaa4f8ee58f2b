-- A game stays one where its store grows.
use Rattle.std.proofs.Common.{◌≡◌, ℕ, ◌+◌, ◌<◌, List, [], ◌∷◌, length, refl, sym, ap, ◌∙◌, subst}
use Rattle.std.specs.List.{All, AllByRecursion}
use Rattle.std.proofs.lemmas.List.Elements.{All-from_recursion, recursion_from_All}
use Rattle.qv_words.specs.Tree.{Tree}
use Rattle.qv_words.specs.Problem.{Problem}
use Rattle.qv_words.specs.Linked.{Entry}
use Rattle.qv_words.proofs.Elements.{all-weaker}
use Rattle.qv_store.specs.Nodes.{tree_at}
use Rattle.qv_store.specs.Stores.{Grows}
use Rattle.qv_store.specs.Walks.{named}
use Rattle.qv_store.specs.Problems.{problem_in, places_of, quantifier_of, IsPosedIn}
use Rattle.qv_store.specs.declared.problem.Problem.{Problem as Posed}
use Rattle.qv_store.proofs.Replacement.{grown-tree, grown-within}
use Rattle.qv_words.specs.GameLaws.{IsProblem}
use Rattle.qv_entries.specs.Rows.{Row, IsRowIn, entries_in, entry_in}
use Rattle.qv_meter.specs.Played.{IsPlayed}
use Rattle.qv_meter.specs.Queries.{StandsForQuery}
use Rattle.qv_meter.specs.Records.{Metering}
use Rattle.qv_blast.proofs.Staying.{formulas-stay}
use Rattle.qv_game_lanes.specs.Lanes.{IsLane}
use Rattle.qv_game_lanes.specs.declared.lane.Lane.{Lane}
use Rattle.qv_game_state.specs.declared.query.Query.{Query}
use Rattle.qv_game_state.specs.declared.game.Game.{Game}
use Rattle.qv_game_state.specs.Playing.{AreQueries, IsGame, IsQueryAt}

pub below-stays : (old new : List Tree) (ids : List ℕ) → Grows old new → All (λ n. n < length old) ids → All (λ n. n < length new) ids
below-stays old new ids grows h =
    All-from_recursion (λ n. n < length new) ids (all-weaker (λ n. n < length old) (λ n. n < length new) ids (λ n low. grown-within old new grows n low) (recursion_from_All (λ n. n < length old) ids h))

named-each : (old new : List Tree) (ids : List ℕ) → Grows old new → AllByRecursion (λ n. n < length old) ids → named new ids ≡ named old ids
named-each old new [] grows h = refl
named-each old new (n ∷ ns) grows h =
    ap (λ (t : Tree). t ∷ named new ns) (grown-tree old new grows n h.0) ∙ ap (λ (ts : List Tree). tree_at old n ∷ ts) (named-each old new ns grows h.1)

pub named-stays : (old new : List Tree) (ids : List ℕ) → Grows old new → All (λ n. n < length old) ids → named new ids ≡ named old ids
named-stays old new ids grows h = named-each old new ids grows (recursion_from_All (λ n. n < length old) ids h)

pub row-stays : (old new : List Tree) (r : Row) → Grows old new → IsRowIn old r → IsRowIn new r
row-stays old new r grows h = record { region = grown-within old new grows r.region h.region; terms = below-stays old new r.terms grows h.terms }

pub entry-stays : (old new : List Tree) (r : Row) → Grows old new → IsRowIn old r → entry_in new r ≡ entry_in old r
entry-stays old new r grows h =
    ap (λ (t : Tree). record { level = r.level; winner = r.winner; region = t; point = r.point; terms = named new r.terms; links = r.links }) (grown-tree old new grows r.region h.region)
    ∙ ap (λ (ts : List Tree). record { level = r.level; winner = r.winner; region = tree_at old r.region; point = r.point; terms = ts; links = r.links }) (named-stays old new r.terms grows h.terms)

entries-each : (old new : List Tree) (rows : List Row) → Grows old new → AllByRecursion (IsRowIn old) rows → entries_in new rows ≡ entries_in old rows
entries-each old new [] grows h = refl
entries-each old new (r ∷ rows) grows h =
    ap (λ (e : Entry). e ∷ entries_in new rows) (entry-stays old new r grows h.0) ∙ ap (λ (es : List Entry). entry_in old r ∷ es) (entries-each old new rows grows h.1)

pub entries-stay : (old new : List Tree) (rows : List Row) → Grows old new → All (IsRowIn old) rows → entries_in new rows ≡ entries_in old rows
entries-stay old new rows grows h = entries-each old new rows grows (recursion_from_All (IsRowIn old) rows h)

pub rows-stay : (old new : List Tree) (rows : List Row) → Grows old new → All (IsRowIn old) rows → All (IsRowIn new) rows
rows-stay old new rows grows h =
    All-from_recursion (IsRowIn new) rows (all-weaker (IsRowIn old) (IsRowIn new) rows (λ r k. row-stays old new r grows k) (recursion_from_All (IsRowIn old) rows h))

pub lane-stays : (old new formulas : List Tree) (l : Lane) → Grows old new → IsLane old formulas l → IsLane new formulas l
lane-stays old new formulas l grows h = record {
  terms = h.terms;
  blaster = formulas-stay old new formulas l.blaster grows h.blaster;
  core = h.core;
  few = h.few;
  learnt = h.learnt;
  top = h.top;
  closed = h.closed;
}

pub query-stays : (old new : List Tree) (p : Problem) (entries : List Entry) (limit i : ℕ) (q : Query) → Grows old new → IsQueryAt old p entries limit i q → IsQueryAt new p entries limit i q
query-stays old new p entries limit i q grows h = record {
  opponent = h.opponent;
  below = below-stays old new q.list.items grows h.below;
  list = subst (StandsForQuery p entries (quantifier_of q.winner) (i + 2)) (sym (named-stays old new q.list.items grows h.below)) h.list;
  lane = subst (λ (ts : List Tree). IsLane new ts q.lane) (sym (named-stays old new q.list.items grows h.below)) (lane-stays old new (named old q.list.items) q.lane grows h.lane);
  variables = h.variables;
}

pub queries-stay : (old new : List Tree) (p : Problem) (entries : List Entry) (limit : ℕ) (queries : List Query) → Grows old new → AreQueries old p entries limit queries → AreQueries new p entries limit queries
queries-stay old new p entries limit queries grows h i q at = query-stays old new p entries limit i q grows (h i q at)

pub game-stays : (old new : List Tree) (p : Problem) (limit : ℕ) (g : Game) (m : Metering) → Grows old new → IsGame old p limit g m → IsGame new p limit g m
game-stays old new p limit g m grows h =
    let same = entries-stay old new g.entries grows h.rows in
    record {
      problem = h.problem;
      spans = h.spans;
      below = below-stays old new g.places.items grows h.below;
      places = named-stays old new g.places.items grows h.below ∙ h.places;
      rows = rows-stay old new g.entries grows h.rows;
      played = subst (IsPlayed p) (sym same) h.played;
      queries = subst (λ (es : List Entry). AreQueries new p es limit g.queries.items) (sym same) (queries-stay old new p (entries_in old g.entries) limit g.queries.items grows h.queries);
      charged = h.charged;
    }

-- and so does its problem
pub posed-stays : (old new : List Tree) (posed : Posed) → Grows old new → IsPosedIn old posed → problem_in new posed ≡ problem_in old posed
posed-stays old new posed grows h = ap (λ (t : Tree). record { prefix = places_of posed; matrix = t }) (grown-tree old new grows posed.matrix h.below)

pub posed-in_stays : (old new : List Tree) (posed : Posed) → Grows old new → IsPosedIn old posed → IsPosedIn new posed
posed-in_stays old new posed grows h = record {
  below = grown-within old new grows posed.matrix h.below;
  problem = subst IsProblem (sym (posed-stays old new posed grows h)) h.problem;
}
