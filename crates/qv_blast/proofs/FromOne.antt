-- Lists of clauses under ids from 1 on.
use Rattle.std.proofs.Common.{◌≡◌, ℕ, zero, suc, ◌+◌, ◌^◌, ◌<◌, ◌≤◌, List, [], ◌∷◌, ◌++◌, map, length, get_or, All, refl, sym, ap, ◌∙◌, subst, arith, append_assoc, append-nil}
use Rattle.std.proofs.lemmas.List.{length-append, map-append}
use Rattle.qv_words.specs.Gate.{Lit}
use Rattle.qv_cnf.specs.Literal.{Literal}
use Rattle.qv_cnf.specs.Listing.{Listing, Numbered, with_clause, clauses_of, next_id, Extends}
use Rattle.qv_cnf.proofs.Living.{next_id-push}
use Rattle.qv_cnf_bridge_laws.specs.Bridge.{clauses_for, literal_for}
use Rattle.qv_circuits.specs.Adding.{lits_of, with_clauses}
use Rattle.qv_blast.specs.Blasters.{clauses_in, from_one, IsGrown, IsListed, Listed}
use Rattle.qv_circuits.proofs.Added.{clauses-append}

-- the clauses of a list with more
pub with-clauses-of : (l : Listing) (id : ℕ) (cs : List (List Literal)) → clauses_of (with_clauses l id cs).live ≡ clauses_of l.live ++ cs
with-clauses-of l id [] = sym (append-nil (clauses_of l.live))
with-clauses-of l id (c ∷ cs) =
    let first : clauses_of (with_clause l id c).live ≡ clauses_of l.live ++ c ∷ [] = map-append (λ (n : Numbered). n.lits) l.live (record { id = id; lits = c } ∷ []) in
    with-clauses-of (with_clause l id c) (suc id) cs ∙ ap (λ (r : List (List Literal)). r ++ cs) first ∙ append_assoc (clauses_of l.live) (c ∷ []) cs

pub with-next : (l : Listing) (id : ℕ) (cs : List (List Literal)) → next_id l.given ≤ id → next_id (with_clauses l id cs).given ≤ id + length cs
with-next l id [] h = omega (arith, h)
with-next l id (c ∷ cs) h =
    let push : next_id (with_clause l id c).given ≡ id + 1 = next_id-push l.given id h in
    let rest = with-next (with_clause l id c) (suc id) cs (omega (arith, push)) in
    omega (arith, rest)

pub with-given : (l : Listing) (id : ℕ) (cs : List (List Literal)) → length (with_clauses l id cs).given ≡ length l.given + length cs
with-given l id [] = omega arith
with-given l id (c ∷ cs) =
    let rest = with-given (with_clause l id c) (suc id) cs in
    let first = length-append l.given (id ∷ []) in
    omega (arith, rest, first)

-- one more that is at least so great
above : {X : Type 0} (f : X → ℕ) (id : ℕ) (x : X) (xs : List X) → id ≤ f x → All (λ y. suc id ≤ f y) xs → All (λ y. id ≤ f y) (x ∷ xs)
above f id x xs h rest zero d k = h
above f id x xs h rest (suc n) d k = let more : suc id ≤ f (get_or xs n d) = rest n d (omega (arith, k)) in omega (arith, more)

-- what was added since
pub with-extends : (l : Listing) (id : ℕ) (cs : List (List Literal)) → next_id l.given ≤ id → Extends l (with_clauses l id cs) id
with-extends l id [] h = record {
  more = [];
  ids = [];
  live = sym (append-nil l.live);
  given = sym (append-nil l.given);
  old_below = h;
  more_above = λ k d f. absurd (omega (arith, f));
  ids_above = λ k d f. absurd (omega (arith, f));
}
with-extends l id (c ∷ cs) h =
    let push : next_id (with_clause l id c).given ≡ id + 1 = next_id-push l.given id h in
    let rest = with-extends (with_clause l id c) (suc id) cs (omega (arith, push)) in
    let first : Numbered = record { id = id; lits = c } in
    record {
      more = first ∷ rest.more;
      ids = id ∷ rest.ids;
      live = rest.live ∙ append_assoc l.live (first ∷ []) rest.more;
      given = rest.given ∙ append_assoc l.given (id ∷ []) rest.ids;
      old_below = h;
      more_above = above (λ (n : Numbered). n.id) id first rest.more (let same : id ≤ id = omega arith in same) rest.more_above;
      ids_above = above (λ (n : ℕ). n) id id rest.ids (let same : id ≤ id = omega arith in same) rest.ids_above;
    }

-- both kinds of literals
pub lits-back : (ls : List Lit) → lits_of (map literal_for ls) ≡ ls
lits-back [] = refl
lits-back (l ∷ ls) = ap (λ (r : List Lit). l ∷ r) (lits-back ls)

pub clauses-back : (cs : List (List Lit)) → map lits_of (clauses_for cs) ≡ cs
clauses-back [] = refl
clauses-back (c ∷ cs) = rw (lits-back c) (ap (λ (r : List (List Lit)). c ∷ r) (clauses-back cs))

-- a list with the clauses of circuits behind
pub clauses-in-with : (l : Listing) (id : ℕ) (cs : List (List Lit)) → clauses_in (with_clauses l id (clauses_for cs)) ≡ clauses_in l ++ cs
clauses-in-with l id cs = rw (with-clauses-of l id (clauses_for cs), map-append lits_of (clauses_of l.live) (clauses_for cs), clauses-back cs) refl

pub from-one-more : (cs ds : List (List Literal)) → with_clauses (from_one cs) (suc (length cs)) ds ≡ from_one (cs ++ ds)
from-one-more cs ds =
    let same : 1 + length cs ≡ suc (length cs) = omega arith in
    ap (λ (k : ℕ). with_clauses (from_one cs) k ds) (sym same) ∙ sym (clauses-append (record { live = []; given = [] }) 1 cs ds)

-- what a list keeps
pub listed-next : (s : Listed) → IsListed s → next_id s.list.given ≤ s.id
listed-next s h =
    let cs = clauses_of s.list.live in
    let bound : next_id (from_one cs).given ≤ 1 + length cs = with-next (record { live = []; given = [] }) 1 cs (omega arith) in
    let same : next_id s.list.given ≡ next_id (from_one cs).given = ap (λ (l : Listing). next_id l.given) h.list in
    omega (arith, bound, same, h.id)

pub listed-few : (s : Listed) → IsListed s → length s.list.given < 2 ^ 61 → s.id ≤ 2 ^ 61
listed-few s h few =
    let cs = clauses_of s.list.live in
    let count : length (from_one cs).given ≡ 0 + length cs = with-given (record { live = []; given = [] }) 1 cs in
    let same : length s.list.given ≡ length (from_one cs).given = ap (λ (l : Listing). length l.given) h.list in
    omega (arith, count, same, h.id, few)

pub listed-grown : (s : Listed) (next : ℕ) (cs : List (List Literal)) (list : Listing) (id : ℕ) → IsListed s → s.next ≤ next → next ≤ s.limit + 1 → list ≡ with_clauses s.list s.id cs → id ≡ s.id + length cs → IsListed (record { limit = s.limit; next = next; id = id; list = list })
listed-grown s next cs list id h up within is ids =
    let old = clauses_of s.list.live in
    let clauses : clauses_of list.live ≡ old ++ cs = ap (λ (l : Listing). clauses_of l.live) is ∙ with-clauses-of s.list s.id cs in
    let count : length (clauses_of list.live) ≡ length old + length cs = ap length clauses ∙ length-append old cs in
    let from : with_clauses s.list s.id cs ≡ from_one (old ++ cs) = ap (λ (l : Listing). with_clauses l s.id cs) h.list ∙ ap (λ (k : ℕ). with_clauses (from_one old) k cs) h.id ∙ from-one-more old cs in
    record {
      some = omega (arith, h.some, up);
      within = within;
      list = is ∙ from ∙ ap from_one (sym clauses);
      id = omega (arith, ids, count, h.id);
    }

-- a list that grew, cut to what it was
pub grown-extends : (older s : Listed) → IsListed older → IsGrown older s → Extends older.list s.list older.id
grown-extends older s h g =
    let P : Listing → Type 0 = λ l. Extends older.list l older.id in
    subst P (sym g.list) (with-extends older.list older.id g.more (listed-next older h))

pub grown-itself : (s : Listed) → IsGrown s s
grown-itself s = record { limit = refl; more = []; list = refl; id = omega arith }

pub grown-then : (a b c : Listed) → IsGrown a b → IsGrown b c → IsGrown a c
grown-then a b c f g = record {
  limit = g.limit ∙ f.limit;
  more = f.more ++ g.more;
  list =
      let there : with_clauses b.list b.id g.more ≡ with_clauses (with_clauses a.list a.id f.more) (a.id + length f.more) g.more =
      ap (λ (l : Listing). with_clauses l b.id g.more) f.list ∙ ap (λ (k : ℕ). with_clauses (with_clauses a.list a.id f.more) k g.more) f.id in
      g.list ∙ there ∙ sym (clauses-append a.list a.id f.more g.more);
  id = omega (arith, f.id, g.id, length-append f.more g.more);
}

pub back-extends : (older s : Listed) (list : Listing) (id : ℕ) → IsListed older → IsGrown older s → s.list ≡ list → older.id ≡ id → Extends older.list list id
back-extends older s list id h g e f =
    let P : Listing → Type 0 = λ l. Extends older.list l id in
    let Q : ℕ → Type 0 = λ k. Extends older.list s.list k in
    subst P e (subst Q f (grown-extends older s h g))

pub same-listed : (older : Listed) (limit next id : ℕ) (list : Listing) → limit ≡ older.limit → next ≡ older.next → id ≡ older.id → list ≡ older.list → record { limit = limit; next = next; id = id; list = list } ≡ older
same-listed older limit next id list e f g h = rw (e, f, g, h) refl
