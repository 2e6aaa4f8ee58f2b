-- A search for a core, trial by trial, and the core that it comes to.
use Rattle.std.proofs.Common.{◌≡◌, ℕ, zero, suc, ◌+◌, ◌-◌, ◌<◌, ◌≤◌, nat_lt, ◌⊎◌, inl, inr, Bool, true, false, List, [], ◌∷◌, ◌++◌, length, drop, set, filter, Option, Some, None, slice_get, refl, sym, ◌∙◌, ap, subst, arith, append_assoc, append-nil, true≢false}
use Rattle.std.specs.Prelude.{All, IsTrue, IfSome, IsSomeAnd, option_to_list}
use Rattle.std.specs.List.{AllByRecursion}
use Rattle.std.proofs.lemmas.List.{drop-drop, drop-set-lt, length-drop}
use Rattle.std.proofs.lemmas.List.Elements.{All-from_recursion, recursion_from_All}
use Rattle.qv_words.specs.declared.op.Answer.TheVariants.{Unsat}
use Rattle.qv_words.specs.Tree.{Tree}
use Rattle.qv_words.specs.Truth.{AreTrue}
use Rattle.qv_words.specs.Problem.{problem_of}
use Rattle.qv_cnf.specs.Listing.{Rises}
use Rattle.qv_cert.specs.declared.line.Section.{Section}
use Rattle.qv_cert.specs.Line.{IsCertLine}
use Rattle.qv_core.specs.Searching.{Search, after_trial, first_from, trial_of}
use Rattle.qv_core.specs.Without.{is_among, without, dropped, trial_list, tried}
use Rattle.qv_meter.specs.Records.{Limits, Metering, Record, records_of}
use Rattle.qv_solve.specs.Solutions.{HasRecord}
use Rattle.qv_solve_write.specs.Said.{lines_said}
use Rattle.qv_solve_section.specs.Sections.{task_of, IsSectionOf}
use Rattle.qv_solve_cores.specs.declared.cores.Course.{Course}
use Rattle.qv_solve_cores.specs.Cores.{AreRecordsOfTrials, IsCore, IsRecordOfTrial, IsSectionLeft, IsUnspared, StartsSome}
use Rattle.qv_solve_cores.specs.Marks.{AreFewer, gone, kept_of}
use Rattle.qv_solve_cores.specs.Trying.{HasLeftOut, HasTried, HasTriedAll, IsAsFar, Shows, Stands}
use Rattle.qv_solve_cores.proofs.Marks.{all-kept, before-below, dropped-gone, each-among, earlier-stays, fewer-length, fewer-self, fewer-set, first-is, kept-apart, kept-named, kept-rises, kept-set, none-first, none-gone, set-unkept, trial-among, tried-kept, without-same}

-- ---- records of trials

-- what a trial's record says of one search it says of a later one
abbrev Carries : List Tree → (together named kept kept' : List ℕ) → ℕ → Type 0
Carries fs together named kept kept' y =
    (trial_list together named kept y fs ≡ trial_list together named kept' y fs) × (is_among kept' y ≡ true → is_among kept y ≡ true)

records-carry : (limits : Limits) (fs : List Tree) (together named kept kept' places : List ℕ) (rs : List Record) → AllByRecursion (Carries fs together named kept kept') places →
    AreRecordsOfTrials limits fs together named kept places rs → AreRecordsOfTrials limits fs together named kept' places rs
records-carry limits fs together named kept kept' [] [] c h = tt
records-carry limits fs together named kept kept' (y ∷ ys) (r ∷ rs) c h = (
  record { limited = h.0.limited; unspared = λ t. subst (λ (ts : List Tree). IsUnspared ts r) c.0.0 (h.0.unspared (c.0.1 t)) },
  records-carry limits fs together named kept kept' ys rs c.1 h.1,
)
records-carry limits fs together named kept kept' [] (r ∷ rs) c h = absurd h
records-carry limits fs together named kept kept' (y ∷ ys) [] c h = absurd h

records-push : (limits : Limits) (fs : List Tree) (together named kept places : List ℕ) (rs : List Record) (x : ℕ) (r : Record) →
    AreRecordsOfTrials limits fs together named kept places rs → IsRecordOfTrial limits fs together named kept x r → AreRecordsOfTrials limits fs together named kept (places ++ x ∷ []) (rs ++ r ∷ [])
records-push limits fs together named kept [] [] x r h k = (k, tt)
records-push limits fs together named kept (y ∷ ys) (s ∷ rs) x r h k = (h.0, records-push limits fs together named kept ys rs x r h.1 k)
records-push limits fs together named kept [] (s ∷ rs) x r h k = absurd h
records-push limits fs together named kept (y ∷ ys) [] x r h k = absurd h

records-limited : (limits : Limits) (fs : List Tree) (together named kept places : List ℕ) (rs : List Record) → AreRecordsOfTrials limits fs together named kept places rs → AllByRecursion (λ (r : Record). r.limits ≡ limits) rs
records-limited limits fs together named kept [] [] h = tt
records-limited limits fs together named kept (y ∷ ys) (r ∷ rs) h = (h.0.limited, records-limited limits fs together named kept ys rs h.1)
records-limited limits fs together named kept [] (r ∷ rs) h = absurd h
records-limited limits fs together named kept (y ∷ ys) [] h = absurd h

-- ---- want of memory

-- what memory ended
memory-record : (limits : Limits) (before after : Metering) (newest : Option Record) → after.newest ≡ newest → after.older ≡ records_of before → IsSomeAnd newest (λ r. r.limits ≡ limits) → StartsSome limits before after
memory-record limits before after None e older h = absurd h
memory-record limits before after (Some r) e older h = record {
  more = r ∷ [];
  started = ap (λ (o : Option Record). after.older ++ option_to_list o) e ∙ ap (λ (l : List Record). l ++ r ∷ []) older;
  limited = All-from_recursion (λ (r : Record). r.limits ≡ limits) (r ∷ []) (h, tt);
}

pub memory-some : (limits : Limits) (before after : Metering) → (after ≡ before) ⊎ HasRecord limits before after → StartsSome limits before after
memory-some limits before after (inl same) = record {
  more = [];
  started = ap records_of same ∙ sym (append-nil (records_of before));
  limited = All-from_recursion (λ (r : Record). r.limits ≡ limits) [] tt;
}
memory-some limits before after (inr h) = memory-record limits before after after.newest refl h.older h.limited

pub some-none : (limits : Limits) (m : Metering) → StartsSome limits m m
some-none limits m = record { more = []; started = sym (append-nil (records_of m)); limited = All-from_recursion (λ (r : Record). r.limits ≡ limits) [] tt }

all-join : (limits : Limits) (a b : List Record) → AllByRecursion (λ (r : Record). r.limits ≡ limits) a → AllByRecursion (λ (r : Record). r.limits ≡ limits) b → AllByRecursion (λ (r : Record). r.limits ≡ limits) (a ++ b)
all-join limits [] b h k = k
all-join limits (r ∷ a) b h k = (h.0, all-join limits a b h.1 k)

pub some-then : (limits : Limits) (a b c : Metering) → StartsSome limits a b → StartsSome limits b c → StartsSome limits a c
some-then limits a b c h k = record {
  more = h.more ++ k.more;
  started = k.started ∙ ap (λ (l : List Record). l ++ k.more) h.started ∙ append_assoc (records_of a) h.more k.more;
  limited = All-from_recursion (λ (r : Record). r.limits ≡ limits) (h.more ++ k.more)
      (all-join limits h.more k.more (recursion_from_All (λ (r : Record). r.limits ≡ limits) h.more h.limited) (recursion_from_All (λ (r : Record). r.limits ≡ limits) k.more k.limited));
}

pub far-some : (limits : Limits) (fs : List Tree) (named : List ℕ) (a b : Metering) (c0 c : Course) → IsAsFar limits fs named a b c0 c → StartsSome limits a b
far-some limits fs named a b c0 c h = record {
  more = h.records;
  started = h.started;
  limited = All-from_recursion (λ (r : Record). r.limits ≡ limits) h.records (records-limited limits fs (gone named c0.search.kept) named (kept_of named c.search.kept) h.places h.records h.tried_each);
}

pub left-some : (limits : Limits) (fs : List Tree) (named : List ℕ) (a b : Metering) (c : Course) → HasLeftOut limits fs named a b c → StartsSome limits a b
left-some limits fs named a b c h = record { more = h.records; started = h.started; limited = h.left_out.limited }

pub core-limited : (limits : Limits) (fs : List Tree) (named kept : List ℕ) (records : List Record) → IsCore limits fs named kept records → AllByRecursion (λ (r : Record). r.limits ≡ limits) records
core-limited limits fs named kept records h =
    subst (λ (rs : List Record). AllByRecursion (λ (r : Record). r.limits ≡ limits) rs) (sym h.records_are)
    (all-join limits h.first h.trials (recursion_from_All (λ (r : Record). r.limits ≡ limits) h.first h.left_out.limited)
    (records-limited limits fs h.together named kept (tried h.together named) h.trials h.tried_each))

-- ---- trial by trial

pub far-begins : (limits : Limits) (fs : List Tree) (named : List ℕ) (m : Metering) (c : Course) → c.search.next ≡ 0 → Stands fs named c.search c.section → IsAsFar limits fs named m m c c
far-begins limits fs named m c begun stands = record {
  records = [];
  started = sym (append-nil (records_of m));
  fewer = fewer-self c.search.kept;
  others = refl;
  places = [];
  parts = ap (λ n. kept_of (drop n named) (drop n c.search.kept)) (sym begun);
  tried_each = tt;
  stands = stands;
}

-- where the trial of an item stands
pub record IsItem (named : List ℕ) (s : Search) (item : ℕ) : Type 0 where
  pub from : s.next ≤ item
  pub within : item < length named
  pub place : ℕ
  pub at : slice_get named item ≡ Some place
  pub behind : kept_of (drop s.next named) (drop s.next s.kept) ≡ place ∷ kept_of (drop (item + 1) named) (drop (item + 1) s.kept)

get-drop : (ns : List ℕ) (n j : ℕ) → slice_get (drop n ns) j ≡ slice_get ns (n + j)
get-drop ns zero j = ap (slice_get ns) (omega arith)
get-drop [] (suc n) j = past j ∙ sym (past (suc n + j))
  where
    past : (i : ℕ) → slice_get {X = ℕ} [] i ≡ None
    past zero = refl
    past (suc i) = refl
get-drop (m ∷ ns) (suc n) j = get-drop ns n j ∙ sym (rw (suc-sum n j) refl)
  where
    suc-sum : (a b : ℕ) → suc a + b ≡ suc (a + b)
    suc-sum a b = omega arith

get-within : (ns : List ℕ) (i x : ℕ) → slice_get ns i ≡ Some x → i < length ns
get-within [] i x h = absurd cc
get-within (n ∷ ns) zero x h = omega arith
get-within (n ∷ ns) (suc i) x h = let lt = get-within ns i x h in omega (arith, lt)

pub item-of : (named : List ℕ) (s : Search) (item : ℕ) → length s.kept ≡ length named → trial_of s ≡ Some item → IsItem named s item
item-of named s item e h =
    let n = s.next in
    let lengths : length (drop n s.kept) ≡ length (drop n named) = length-drop n s.kept ∙ ap (λ m. m - n) e ∙ sym (length-drop n named) in
    let first = first-is n (drop n named) (drop n s.kept) item lengths h in
    let j = first.behind in
    let is : item ≡ n + j = first.item_is in
    let at : slice_get named item ≡ Some first.place = ap (slice_get named) is ∙ sym (get-drop named n j) ∙ first.at in
    let further : n + suc j ≡ item + 1 = omega (arith, is) in
    record {
      from = omega (arith, is);
      within = get-within named item first.place at;
      place = first.place;
      at = at;
      behind = first.kept_are ∙ ap (λ (ns : List ℕ). first.place ∷ kept_of ns (drop (suc j) (drop n s.kept))) (drop-drop (suc j) n named ∙ ap (λ m. drop m named) further)
          ∙ ap (λ (ks : List Bool). first.place ∷ kept_of (drop (item + 1) named) ks) (drop-drop (suc j) n s.kept ∙ ap (λ m. drop m s.kept) further);
    }

-- fewer items are left
pub fewer-left : (limits : Limits) (fs : List Tree) (named : List ℕ) (before after : Metering) (c c' : Course) (item : ℕ) → length c.search.kept ≡ length named → trial_of c.search ≡ Some item → HasTried limits fs named item before after c c' →
    length c'.search.kept - c'.search.next < length c.search.kept - c.search.next
fewer-left limits fs named before after c c' item e is h =
    let it = item-of named c.search item e is in
    let within : item < length named = it.within in
    let from : c.search.next ≤ item = it.from in
    let whole : c'.search ≡ after_trial h.unsat c.search (Some item) = h.answered_so ∙ ap (after_trial h.unsat c.search) is in
    let next : c'.search.next ≡ item + 1 = ap (λ (s : Search). s.next) whole in
    let many : length c'.search.kept ≡ length named = h.stands.each in
    omega (arith, within, from, next, many, e)

-- what agrees from an item on does so further on
agree-on : (a b : List Bool) (n m : ℕ) → n ≤ m → drop n a ≡ drop n b → drop m a ≡ drop m b
agree-on a b n m le h =
    let is : n + (m - n) ≡ m = omega (arith, le) in
    sym (drop-drop (m - n) n a ∙ ap (λ k. drop k a) is) ∙ ap (drop (m - n)) h ∙ (drop-drop (m - n) n b ∙ ap (λ k. drop k b) is)

module _ (limits : Limits) (fs : List Tree) (named : List ℕ) (rising : Rises 0 named) (before mid after : Metering) (c0 c c' : Course) (item : ℕ) (far : IsAsFar limits fs named before mid c0 c) (is : trial_of c.search ≡ Some item) (h : HasTried limits fs named item mid after c c')
  where
    k0 : List Bool
    k0 = c0.search.kept

    k : List Bool
    k = c.search.kept

    each-now : length c.search.kept ≡ length named
    each-now = far.stands.each

    each-before : length c0.search.kept ≡ length named
    each-before = sym (fewer-length c.search.kept c0.search.kept far.fewer) ∙ far.stands.each

    it : IsItem named c.search item
    it = item-of named c.search item each-now is

    agree : drop item c.search.kept ≡ drop item c0.search.kept
    agree = agree-on c.search.kept c0.search.kept c.search.next item it.from far.others

    further : drop (item + 1) c.search.kept ≡ drop (item + 1) c0.search.kept
    further = let le : item ≤ item + 1 = omega arith in agree-on c.search.kept c0.search.kept item (item + 1) le agree

    parts-now : kept_of named c0.search.kept ≡ (far.places ++ it.place ∷ []) ++ kept_of (drop (item + 1) named) (drop (item + 1) c0.search.kept)
    parts-now = far.parts ∙ ap (λ (ks : List Bool). far.places ++ kept_of (drop c.search.next named) ks) (sym far.others)
        ∙ ap (λ (l : List ℕ). far.places ++ l) (it.behind ∙ ap (λ (ks : List Bool). it.place ∷ kept_of (drop (item + 1) named) ks) further)
        ∙ sym (append_assoc far.places (it.place ∷ []) (kept_of (drop (item + 1) named) (drop (item + 1) c0.search.kept)))

    below : AllByRecursion (λ y. y < it.place) far.places
    below = before-below 0 far.places it.place (kept_of (drop (item + 1) named) (drop (item + 1) c0.search.kept))
        (subst (Rises 0) (parts-now ∙ append_assoc far.places (it.place ∷ []) (kept_of (drop (item + 1) named) (drop (item + 1) c0.search.kept))) (kept-rises 0 named c0.search.kept rising))

    started-now : records_of after ≡ records_of before ++ (far.records ++ h.r ∷ [])
    started-now = h.starts.started ∙ ap (λ (l : List Record). l ++ h.r ∷ []) far.started ∙ append_assoc (records_of before) far.records (h.r ∷ [])

    -- the list of the trial
    tried-list : without (gone named (set c.search.kept item false)) fs ≡ trial_list (gone named c0.search.kept) named (kept_of named c.search.kept) it.place fs
    tried-list = without-same (gone named (set c.search.kept item false)) (it.place ∷ gone named c0.search.kept ++ filter (λ n. nat_lt n it.place) (gone named c.search.kept)) fs
        (λ p. trial-among 0 named c.search.kept c0.search.kept item it.place p rising far.fewer each-now each-before agree it.at)
        ∙ ap (λ (l : List ℕ). without (it.place ∷ gone named c0.search.kept ++ filter (λ n. nat_lt n it.place) l) fs) (sym (dropped-gone 0 named c.search.kept rising each-now))

    carried : (ys : List ℕ) → AllByRecursion (λ y. y < it.place) ys → AllByRecursion (Carries fs (gone named c0.search.kept) named (kept_of named c.search.kept) (kept_of named (set c.search.kept item false))) ys
    carried [] l = tt
    carried (y ∷ ys) l = (
      (earlier-stays named (gone named c0.search.kept) c.search.kept item it.place y fs rising each-now it.at l.0, kept-set named c.search.kept item y),
      carried ys l.1,
    )

    -- an item that is dropped
    dropped-now : c'.search ≡ record { kept = set c.search.kept item false; next = item + 1 } → IsAsFar limits fs named before after c0 c'
    dropped-now e = record {
      records = far.records ++ h.r ∷ [];
      started = started-now;
      fewer = subst (λ (s : Search). AreFewer s.kept c0.search.kept) (sym e) (fewer-set c.search.kept c0.search.kept item far.fewer);
      others = subst (λ (s : Search). drop s.next s.kept ≡ drop s.next c0.search.kept) (sym e) (let lt : item < item + 1 = omega arith in drop-set-lt (item + 1) c.search.kept item false lt ∙ further);
      places = far.places ++ it.place ∷ [];
      parts = subst (λ (s : Search). kept_of named c0.search.kept ≡ (far.places ++ it.place ∷ []) ++ kept_of (drop s.next named) (drop s.next c0.search.kept)) (sym e) parts-now;
      tried_each = subst (λ (s : Search). AreRecordsOfTrials limits fs (gone named c0.search.kept) named (kept_of named s.kept) (far.places ++ it.place ∷ []) (far.records ++ h.r ∷ [])) (sym e)
          (records-push limits fs (gone named c0.search.kept) named (kept_of named (set c.search.kept item false)) far.places far.records it.place h.r
          (records-carry limits fs (gone named c0.search.kept) named (kept_of named c.search.kept) (kept_of named (set c.search.kept item false)) far.places far.records (carried far.places below) far.tried_each)
          (record { limited = h.starts.limited; unspared = λ t. absurd (true≢false (sym t ∙ set-unkept 0 named c.search.kept item it.place rising it.at)) }));
      stands = h.stands;
    }

    -- and one that stays
    kept-now : h.unsat ≡ false → c'.search ≡ record { kept = c.search.kept; next = item + 1 } → IsAsFar limits fs named before after c0 c'
    kept-now stays e = record {
      records = far.records ++ h.r ∷ [];
      started = started-now;
      fewer = subst (λ (s : Search). AreFewer s.kept c0.search.kept) (sym e) far.fewer;
      others = subst (λ (s : Search). drop s.next s.kept ≡ drop s.next c0.search.kept) (sym e) further;
      places = far.places ++ it.place ∷ [];
      parts = subst (λ (s : Search). kept_of named c0.search.kept ≡ (far.places ++ it.place ∷ []) ++ kept_of (drop s.next named) (drop s.next c0.search.kept)) (sym e) parts-now;
      tried_each = subst (λ (s : Search). AreRecordsOfTrials limits fs (gone named c0.search.kept) named (kept_of named s.kept) (far.places ++ it.place ∷ []) (far.records ++ h.r ∷ [])) (sym e)
          (records-push limits fs (gone named c0.search.kept) named (kept_of named c.search.kept) far.places far.records it.place h.r far.tried_each
          (record { limited = h.starts.limited; unspared = λ t. subst (λ (ts : List Tree). IsUnspared ts h.r) tried-list (h.unspared stays) }));
      stands = h.stands;
    }

    pub far-more : IsAsFar limits fs named before after c0 c'
    far-more = by-answer h.unsat refl (h.answered_so ∙ ap (after_trial h.unsat c.search) is)
      where
        by-answer : (b : Bool) → h.unsat ≡ b → c'.search ≡ after_trial h.unsat c.search (Some item) → IsAsFar limits fs named before after c0 c'
        by-answer true b e = dropped-now (e ∙ ap (λ u. after_trial u c.search (Some item)) b)
        by-answer false b e = kept-now b (e ∙ ap (λ u. after_trial u c.search (Some item)) b)

-- ---- the core

module _ (limits : Limits) (fs : List Tree) (named : List ℕ) (rising : Rises 0 named) (before mid after : Metering) (c0 c : Course) (left : HasLeftOut limits fs named before mid c0) (all : HasTriedAll limits fs named mid after c0 c)
  where
    each-kept : length c.search.kept ≡ length named
    each-kept = all.far.stands.each

    each-first : length c0.search.kept ≡ length named
    each-first = left.stands.each

    rest-is : dropped named (kept_of named c.search.kept) ≡ gone named c.search.kept
    rest-is = dropped-gone 0 named c.search.kept rising each-kept

    no-more : kept_of (drop c.search.next named) (drop c.search.next c0.search.kept) ≡ []
    no-more = none-first c.search.next (drop c.search.next named) (drop c.search.next c0.search.kept) (ap (first_from c.search.next) (sym all.far.others) ∙ all.over)

    tried-are : tried (gone named c0.search.kept) named ≡ all.far.places
    tried-are = tried-kept 0 named c0.search.kept rising each-first ∙ all.far.parts ∙ ap (λ (l : List ℕ). all.far.places ++ l) no-more ∙ append-nil all.far.places

    pub core-of : IsCore limits fs named (kept_of named c.search.kept) (left.records ++ all.far.records)
    core-of = record {
      some = record {
        rises = kept-rises 0 named c.search.kept rising;
        among = each-among (λ n. IsTrue (is_among named n)) (kept_of named c.search.kept) (kept-named named c.search.kept);
      };
      rest = λ t. all.far.stands.no_model (subst AreTrue (ap (λ (out : List ℕ). without out fs) rest-is) t);
      together = gone named c0.search.kept;
      first = left.records;
      left_out = left.left_out;
      apart = each-among (λ n. IsTrue (is_among (gone named c0.search.kept) n) → ⊥) (kept_of named c.search.kept)
          (λ p k t. true≢false (sym t ∙ kept-apart 0 named c.search.kept c0.search.kept p rising all.far.fewer k));
      trials = all.far.records;
      tried_each = subst (λ (places : List ℕ). AreRecordsOfTrials limits fs (gone named c0.search.kept) named (kept_of named c.search.kept) places all.far.records) (sym tried-are) all.far.tried_each;
      records_are = refl;
    }

    pub core-started : records_of after ≡ records_of before ++ (left.records ++ all.far.records)
    core-started = all.far.started ∙ ap (λ (l : List Record). l ++ all.far.records) left.started ∙ append_assoc (records_of before) left.records all.far.records

    shown-form : (o : Option Section) → IfSome o (Shows (without (gone named c.search.kept) fs)) → IfSome o (λ s. All IsCertLine (lines_said s.lines.items))
    shown-form None h = tt
    shown-form (Some s) h = h.form

    shown-accepted : (o : Option Section) → IfSome o (Shows (without (gone named c.search.kept) fs)) →
        IfSome o (λ s. IsSectionOf (task_of (problem_of (without (dropped named (kept_of named c.search.kept)) fs)) 1) Unsat (lines_said s.lines.items))
    shown-accepted None h = tt
    shown-accepted (Some s) h = subst (λ (out : List ℕ). IsSectionOf (task_of (problem_of (without out fs)) 1) Unsat (lines_said s.lines.items)) (sym rest-is) h.accepted

    pub section-of : IsSectionLeft fs named (kept_of named c.search.kept) c.section
    section-of = record {
      none = (
        λ e. all-kept named c.search.kept each-kept (all.far.stands.none.0 e),
        λ e. all.far.stands.none.1 (none-gone named c.search.kept each-kept e),
      );
      form = shown-form c.section all.far.stands.shown;
      accepted = shown-accepted c.section all.far.stands.shown;
    }

    pub all-some : StartsSome limits before after
    all-some = some-then limits before mid after (left-some limits fs named before mid c0 left) (far-some limits fs named mid after c0 c all.far)
