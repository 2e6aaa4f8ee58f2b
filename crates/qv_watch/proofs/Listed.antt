-- The lists of the literals, through each change.
use Rattle.std.proofs.Common.{◌≡◌, ◌≢◌, ℕ, ◌<◌, List, [], ◌∷◌, ◌++◌, length, set, get_or, Some, refl, sym, ◌∙◌, ap, true, zero, suc, inl, inr}
use Rattle.std.specs.List.{slice_get}
use Rattle.std.specs.Option.{option_map}
use Rattle.std.proofs.lemmas.List.{map-set, map-append}
use Rattle.std.proofs.lemmas.Bool.{cases_eq}
use Rattle.std.proofs.lemmas.Option.{none-some, same_Some, slice_get-map, slice_get_read}
use Rattle.qv_cnf.specs.Literal.{Literal, index_of, literal_at, literal_at-index_of}
use Rattle.qv_cnf.specs.Refutation.{among}
use Rattle.qv_watch.specs.Watching.{lists_in, Grows, IsListed, IsListedNow, StaysIn}
use Rattle.qv_watch.specs.declared.watches.Watch.{Watch}
use Rattle.qv_watch.specs.declared.watches.WatchList.{WatchList}
use Rattle.qv_watch.specs.declared.watches.Watches.{Watches}
use Rattle.qv_watch.proofs.Lists.{slice_get-append, slice_get-last, slice_get-set_other}

pub lists_in-set : (ls : List WatchList) (i : ℕ) (l : WatchList) → lists_in (set ls i l) ≡ set (lists_in ls) i l.watches.items
lists_in-set ls i l = map-set (λ (l : WatchList). l.watches.items) ls i l

pub lists_in-at : (ls : List WatchList) (i n : ℕ) (l : WatchList) → n ≡ length ls → i < n → l ≡ get_or ls i l → slice_get (lists_in ls) i ≡ Some l.watches.items
lists_in-at ls i n l e h is = slice_get-map (λ (l : WatchList). l.watches.items) ls i ∙ ap (option_map (λ (l : WatchList). l.watches.items)) (slice_get_read ls n i l e h is)

pub Grows-push : (old now new : Watches) (l : WatchList) → Grows old now → new.lists.items ≡ now.lists.items ++ l ∷ [] → new.pairs.items ≡ now.pairs.items → new.queue.items ≡ now.queue.items → new.head ≡ now.head → new.lost ≡ now.lost → Grows old new
Grows-push old now new l g lists pairs queue head lost = record {
  lists = λ n list h.
      let before = g.lists n list h in
      let longer : lists_in new.lists.items ≡ lists_in now.lists.items ++ l.watches.items ∷ [] = ap lists_in lists ∙ map-append (λ (l : WatchList). l.watches.items) now.lists.items (l ∷ []) in
      ap (λ (xs : List (List Watch)). slice_get xs n) longer ∙ slice_get-append (lists_in now.lists.items) (l.watches.items ∷ []) n list before;
  pairs = pairs ∙ g.pairs;
  queue = queue ∙ g.queue;
  head = head ∙ g.head;
  lost = lost ∙ g.lost;
}

-- literals at one place are one
pub index_apart : (a b : Literal) → a ≢ b → index_of a ≢ index_of b
index_apart a b h e = h (sym (literal_at-index_of a) ∙ ap literal_at e ∙ literal_at-index_of b)

pub slice_get-set_in : {X : Type 0} (xs : List X) (i : ℕ) (x y : X) → slice_get xs i ≡ Some x → slice_get (set xs i y) i ≡ Some y
slice_get-set_in [] i x y h = absurd (none-some x h)
slice_get-set_in (z ∷ xs) zero x y h = refl
slice_get-set_in (z ∷ xs) (suc i) x y h = slice_get-set_in xs i x y h

-- what was listed stays listed where a watch comes
pub IsListed-now : (old new : List (List Watch)) (v : Literal) (x : Watch) (k : ℕ) (lits : List Literal) (w : Literal) → IsListedNow old new v x → IsListed old k lits w → IsListed new k lits w
IsListed-now old new v x k lits w now l = elim (cases_eq (index_of w) (index_of v)) [
  | inl same ↦
      let list : now.list ≡ l.list = same_Some now.list l.list (sym now.at ∙ ap (slice_get old) (sym same) ∙ l.of_literal) in
      record {
        list = now.list ++ x ∷ [];
        j = l.j;
        watch = l.watch;
        of_literal = ap (λ (xs : List (List Watch)). slice_get xs (index_of w)) now.is ∙ ap (slice_get (set old (index_of v) (now.list ++ x ∷ []))) same ∙ slice_get-set_in old (index_of v) now.list (now.list ++ x ∷ []) now.at;
        stands = slice_get-append now.list (x ∷ []) l.j l.watch (ap (λ (xs : List Watch). slice_get xs l.j) list ∙ l.stands);
        place = l.place;
        other = l.other;
      }
  | inr apart ↦ record {
    list = l.list;
    j = l.j;
    watch = l.watch;
    of_literal = ap (λ (xs : List (List Watch)). slice_get xs (index_of w)) now.is ∙ slice_get-set_other old (index_of v) (now.list ++ x ∷ []) (index_of w) apart ∙ l.of_literal;
    stands = l.stands;
    place = l.place;
    other = l.other;
  }
]

-- and the new watch is
pub IsListed-own : (old new : List (List Watch)) (v : Literal) (x : Watch) (lits : List Literal) → IsListedNow old new v x → among lits x.other ≡ true → IsListed new x.place lits v
IsListed-own old new v x lits now own = record {
  list = now.list ++ x ∷ [];
  j = length now.list;
  watch = x;
  of_literal = ap (λ (xs : List (List Watch)). slice_get xs (index_of v)) now.is ∙ slice_get-set_in old (index_of v) now.list (now.list ++ x ∷ []) now.at;
  stands = slice_get-last now.list x;
  place = refl;
  other = own;
}

pub IsListed-stays : (old new : List (List Watch)) (k : ℕ) (lits : List Literal) (w : Literal) → StaysIn old new → IsListed old k lits w → IsListed new k lits w
IsListed-stays old new k lits w s l = record { list = l.list; j = l.j; watch = l.watch; of_literal = s (index_of w) l.list l.of_literal; stands = l.stands; place = l.place; other = l.other }
