-- What the steps of a search for a core come to.
use Rattle.std.proofs.Common.{◌≡◌, ◌≢◌, ℕ, ◌+◌, ◌<◌, ◌≤◌, ◌^◌, true, false, List, [], ◌∷◌, ◌++◌, length, map, set, Option, Some, None, refl, sym, ◌∙◌, ap, subst, arith, append-nil, append_assoc, Result, Ok, Err}
use Rattle.std.specs.Prelude.{All, IsTrue, IfSome, OnErr}
use Rattle.std.specs.List.{AllByRecursion}
use Rattle.std.proofs.lemmas.List.{length-set, length-replicate}
use Rattle.std.proofs.lemmas.List.Elements.{All-from_recursion, recursion_from_All}
use Rattle.qv_words.specs.Tree.{Tree}
use Rattle.qv_words.specs.Truth.{AreTrue, HaveOneSort, IsAssertion}
use Rattle.qv_words.specs.Problem.{problem_of}
use Rattle.qv_store.specs.Nodes.{tree_at}
use Rattle.qv_store.specs.Stores.{Grows}
use Rattle.qv_store.proofs.Standing.{tree_at-before}
use Rattle.qv_cnf.specs.Listing.{Rises}
use Rattle.qv_cert.specs.declared.line.Section.{Section}
use Rattle.qv_core.specs.Searching.{Search, after_trial, answered, begun, trial_of}
use Rattle.qv_core.specs.Without.{is_among, without}
use Rattle.qv_meter.specs.Records.{Limits, Metering, Record, records_of}
use Rattle.qv_solve_cores.specs.declared.cores.Course.{Course}
use Rattle.qv_solve_cores.specs.Cores.{IsLeftOut, IsUnspared}
use Rattle.qv_solve_cores.specs.Marks.{gone}
use Rattle.qv_solve_cores.specs.Trying.{HasLeftOut, HasTried, IsFresh, ListIsTried, MaySearch, MaySolve, Shows, Stands}
use Rattle.qv_solve_cores.proofs.Fewer.{all-fewer, fewer-places, one_sort-fewer}
use Rattle.qv_solve_cores.proofs.Marks.{each-among, gone-all, gone-named, gone-rises, gone-set, map-without, without-none}
use Rattle.qv_solve_cores.proofs.Searches.{item-of}

-- ---- errors

pub on-error : {X E A : Type 0} (r : Result X E) → A → OnErr r A
on-error (Ok x) h = tt
on-error (Err e) h = h

-- ---- what may be asked

pub grows-self : (trees : List Tree) → Grows trees trees
grows-self trees = record { more = []; behind = sym (append-nil trees) }

pub grows-more : (a b c : List Tree) → Grows a b → Grows b c → Grows a c
grows-more a b c g h = record { more = g.more ++ h.more; behind = h.behind ∙ ap (λ (l : List Tree). l ++ h.more) g.behind ∙ append_assoc a g.more h.more }

trees-grow : (old new : List Tree) (ns : List ℕ) → Grows old new → AllByRecursion (λ n. n < length old) ns → map (tree_at new) ns ≡ map (tree_at old) ns
trees-grow old new [] g h = refl
trees-grow old new (n ∷ ns) g h =
    let here : tree_at new n ≡ tree_at old n = ap (λ (xs : List Tree). tree_at xs n) g.behind ∙ tree_at-before old g.more n h.0 in
    let rest = trees-grow old new ns g h.1 in
    cc

length-grows : (old new : List Tree) → Grows old new → length old ≤ length new
length-grows old new g = let e : length new ≡ length (old ++ g.more) = ap length g.behind in let h = longer old g.more in omega (arith, e, h)
  where
    longer : (a b : List Tree) → length a ≤ length (a ++ b)
    longer [] b = omega arith
    longer (x ∷ a) b = let h = longer a b in omega (arith, h)

all-lower : (n m : ℕ) (ns : List ℕ) → n ≤ m → AllByRecursion (λ k. k < n) ns → AllByRecursion (λ k. k < m) ns
all-lower n m [] le h = tt
all-lower n m (k ∷ ns) le h = let here = h.0 in (omega (arith, here, le), all-lower n m ns le h.1)

pub formulas-grow : (old new : List Tree) (ns : List ℕ) → Grows old new → All (λ n. n < length old) ns → map (tree_at new) ns ≡ map (tree_at old) ns
formulas-grow old new ns g h = trees-grow old new ns g (recursion_from_All (λ n. n < length old) ns h)

pub may-grow : (old new : List Tree) (assertions named : List ℕ) → Grows old new → MaySearch old assertions named → MaySearch new assertions named
may-grow old new assertions named g h =
    let same : map (tree_at old) assertions ≡ map (tree_at new) assertions = sym (formulas-grow old new assertions g h.ids) in
    record {
      ids = All-from_recursion (λ n. n < length new) assertions (all-lower (length old) (length new) assertions (length-grows old new g) (recursion_from_All (λ n. n < length old) assertions h.ids));
      solvable = subst MaySolve same h.solvable;
      no_model = subst (λ (ts : List Tree). AreTrue ts → ⊥) same h.no_model;
      rises = h.rises;
      below = h.below;
    }

pub may-search : (trees : List Tree) (assertions named : List ℕ) → All (λ id. id < length trees) assertions → All IsAssertion (map (tree_at trees) assertions) → HaveOneSort (map (tree_at trees) assertions) → length (problem_of (map (tree_at trees) assertions)).prefix < 2 ^ 32 →
    (AreTrue (map (tree_at trees) assertions) → ⊥) → Rises 0 named → All (λ n. n < length assertions) named → MaySearch trees assertions named
may-search trees assertions named ids each sorts few no_model rises below = record {
  ids = ids;
  solvable = record { assertions = each; sorts = sorts; few = few };
  no_model = no_model;
  rises = rises;
  below = below;
}

pub may-solve : (formulas : List Tree) (out : List ℕ) → MaySolve formulas → MaySolve (without out formulas)
may-solve formulas out h = record {
  assertions = all-fewer IsAssertion out formulas h.assertions;
  sorts = one_sort-fewer out formulas h.sorts;
  few = let fewer = fewer-places out formulas in let few = h.few in omega (arith, fewer, few);
}

-- a list without some places
pub list-ids : (trees : List Tree) (assertions named list out : List ℕ) → MaySearch trees assertions named → list ≡ without out assertions → All (λ id. id < length trees) list
list-ids trees assertions named list out h is = subst (λ (ns : List ℕ). All (λ id. id < length trees) ns) (sym is) (all-fewer (λ id. id < length trees) out assertions h.ids)

pub list-formulas : (trees : List Tree) (assertions list out : List ℕ) → list ≡ without out assertions → map (tree_at trees) list ≡ without out (map (tree_at trees) assertions)
list-formulas trees assertions list out is = ap (map (tree_at trees)) is ∙ map-without (tree_at trees) out assertions

pub list-solvable : (trees : List Tree) (assertions named list out : List ℕ) → MaySearch trees assertions named → list ≡ without out assertions → MaySolve (map (tree_at trees) list)
list-solvable trees assertions named list out h is = subst MaySolve (sym (list-formulas trees assertions list out is)) (may-solve (map (tree_at trees) assertions) out h.solvable)

-- ---- a trial

module _ (limits : Limits) (fs : List Tree) (named : List ℕ) (item : ℕ) (before after : Metering) (c c' : Course) (stands : Stands fs named c.search c.section) (is : trial_of c.search ≡ Some item) (left : List Tree) (left-is : left ≡ without (gone named (set c.search.kept item false)) fs)
  where
    within : item < length named
    within = (item-of named c.search item stands.each is).within

    pub item-dropped : (s : Section) → ListIsTried limits before after left (Some s) → c'.search ≡ answered true c.search → c'.section ≡ Some s → HasTried limits fs named item before after c c'
    item-dropped s h answer section =
        let e : c'.search ≡ record { kept = set c.search.kept item false; next = item + 1 } = answer ∙ ap (after_trial true c.search) is in
        record {
          r = h.r;
          starts = h.starts;
          unsat = true;
          answered_so = answer;
          unspared = λ same. absurd cc;
          stands = subst (λ (search : Search). Stands fs named search c'.section) (sym e) (subst (λ (o : Option Section). Stands fs named (record { kept = set c.search.kept item false; next = item + 1 }) o) (sym section) (record {
            each = length-set c.search.kept item false ∙ stands.each;
            no_model = subst (λ (ts : List Tree). AreTrue ts → ⊥) left-is h.tried.no_model;
            shown = subst (λ (ts : List Tree). Shows ts s) left-is h.tried;
            none = (λ same. absurd cc, λ none. absurd (gone-set named c.search.kept item within stands.each none));
          }));
        }

    pub item-kept : ListIsTried limits before after left None → c'.search ≡ answered false c.search → c'.section ≡ c.section → HasTried limits fs named item before after c c'
    item-kept h answer section =
        let e : c'.search ≡ record { kept = c.search.kept; next = item + 1 } = answer ∙ ap (after_trial false c.search) is in
        record {
          r = h.r;
          starts = h.starts;
          unsat = false;
          answered_so = answer;
          unspared = λ same. subst (λ (ts : List Tree). IsUnspared ts h.r) left-is h.tried;
          stands = subst (λ (search : Search). Stands fs named search c'.section) (sym e) (subst (λ (o : Option Section). Stands fs named (record { kept = c.search.kept; next = item + 1 }) o) (sym section) (record {
            each = stands.each;
            no_model = stands.no_model;
            shown = stands.shown;
            none = stands.none;
          }));
        }

-- ---- what is left out together

fresh-gone : (named : List ℕ) (c : Course) → IsFresh (length named) c → gone named c.search.kept ≡ []
fresh-gone named c f = ap (λ (s : Search). gone named s.kept) f.search ∙ gone-all named

pub fresh-stands : (fs : List Tree) (named : List ℕ) (c : Course) → IsFresh (length named) c → (AreTrue fs → ⊥) → Stands fs named c.search c.section
fresh-stands fs named c f h = record {
  each = ap (λ (s : Search). length s.kept) f.search ∙ length-replicate (length named) true;
  no_model = λ t. h (subst AreTrue (ap (λ (out : List ℕ). without out fs) (fresh-gone named c f) ∙ without-none fs) t);
  shown = subst (λ (o : Option Section). IfSome o (Shows (without (gone named c.search.kept) fs))) (sym f.section) tt;
  none = (λ e. fresh-gone named c f, λ e. f.section);
}

all-none : (P : ℕ → Type 0) → All P []
all-none P = All-from_recursion P [] tt

-- nothing is, with these records
pub left-none : (limits : Limits) (fs : List Tree) (named : List ℕ) (before after : Metering) (c : Course) (records : List Record) → IsFresh (length named) c → (AreTrue fs → ⊥) → records_of after ≡ records_of before ++ records → length records ≤ 1 → All (λ (r : Record). r.limits ≡ limits) records →
    HasLeftOut limits fs named before after c
left-none limits fs named before after c records f h started few limited = record {
  records = records;
  left_out = subst (λ (together : List ℕ). IsLeftOut limits named together records) (sym (fresh-gone named c f)) (record {
    some = record { rises = tt; among = all-none (λ n. IsTrue (is_among named n)) };
    few = few;
    limited = limited;
    one = λ ne. absurd (ne refl);
  });
  started = started;
  begun = ap (λ (s : Search). s.next) f.search;
  stands = fresh-stands fs named c f h;
}

pub left-nothing : (limits : Limits) (fs : List Tree) (named : List ℕ) (m : Metering) (c : Course) → IsFresh (length named) c → (AreTrue fs → ⊥) → HasLeftOut limits fs named m m c
left-nothing limits fs named m c f h =
    left-none limits fs named m m c [] f h (sym (append-nil (records_of m))) (omega arith) (All-from_recursion (λ (r : Record). r.limits ≡ limits) [] tt)

one-limited : (limits : Limits) (r : Record) → r.limits ≡ limits → All (λ (r : Record). r.limits ≡ limits) (r ∷ [])
one-limited limits r e = All-from_recursion (λ (r : Record). r.limits ≡ limits) (r ∷ []) (e, tt)

-- what was offered can't be left out
pub left-kept : (limits : Limits) (fs left : List Tree) (named : List ℕ) (before after : Metering) (c : Course) → IsFresh (length named) c → (AreTrue fs → ⊥) → ListIsTried limits before after left None → HasLeftOut limits fs named before after c
left-kept limits fs left named before after c f h t = left-none limits fs named before after c (t.r ∷ []) f h t.starts.started (omega arith) (one-limited limits t.r t.starts.limited)

-- and where it can
pub left-dropped : (limits : Limits) (fs left : List Tree) (named : List ℕ) (rising : Rises 0 named) (before after : Metering) (c : Course) (s : Section) → length c.search.kept ≡ length named → c.search.next ≡ 0 → gone named c.search.kept ≢ [] → c.section ≡ Some s →
    left ≡ without (gone named c.search.kept) fs → ListIsTried limits before after left (Some s) → HasLeftOut limits fs named before after c
left-dropped limits fs left named rising before after c s each begun some section is t = record {
  records = t.r ∷ [];
  left_out = record {
    some = record {
      rises = gone-rises 0 named c.search.kept rising;
      among = each-among (λ n. IsTrue (is_among named n)) (gone named c.search.kept) (gone-named named c.search.kept);
    };
    few = omega arith;
    limited = one-limited limits t.r t.starts.limited;
    one = λ ne. refl;
  };
  started = t.starts.started;
  begun = begun;
  stands = subst (λ (o : Option Section). Stands fs named c.search o) (sym section) (record {
    each = each;
    no_model = subst (λ (ts : List Tree). AreTrue ts → ⊥) is t.tried.no_model;
    shown = subst (λ (ts : List Tree). Shows ts s) is t.tried;
    none = (λ same. absurd cc, λ none. absurd (some none));
  });
}
