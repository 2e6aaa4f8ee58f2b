-- Tables: no terms, more terms, and one word more.
use Rattle.std.proofs.Common.{◌≡◌, ℕ, zero, suc, ◌+◌, ◌<◌, ◌≤◌, List, [], ◌∷◌, ◌++◌, length, get_or, slice_get, Some, Contains, refl, ap, subst, sym, ◌∙◌, arith, length-append}
use Rattle.std.specs.List.{AllByRecursion}
use Rattle.std.proofs.lemmas.List.{length-map}
use Rattle.std.proofs.lemmas.List.Elements.{recursion_from_All}
use Rattle.std.proofs.lemmas.Option.{slice_get-get_or, slice_get_within}
use Rattle.qv_words.specs.declared.sort.Sort.TheVariants.{Bool as BoolSort}
use Rattle.qv_words.specs.declared.word.Word.{Word}
use Rattle.qv_words.specs.Tree.{Tree, Literal}
use Rattle.qv_words.proofs.Elements.{all-at}
use Rattle.qv_store.specs.Nodes.{tree_at}
use Rattle.qv_store.specs.Walks.{named, with_subtrees, IsWalk, IsBehind, IsEarlier}
use Rattle.qv_store.specs.Evaluating.{HasValue, HaveValues, IsNext, IsWordOf}
use Rattle.qv_store.proofs.Passes.{each-subtree, named-at, contains-earlier, earlier-in}
use Rattle.qv_store.proofs.Evaluation.{inherit-value, words-none, words-push}
use Rattle.qv_entries.specs.declared.table.Table.{Table}
use Rattle.qv_entries.specs.Tables.{AreKept, IsTable}

-- no terms
walk-none : (trees : List Tree) → IsWalk trees []
walk-none trees = record {
  within = λ k d h. absurd (omega (arith, h));
  shared = record {
    sorted = λ n h. absurd (omega (arith, h));
    once = λ m n h k e. absurd (omega (arith, h));
    children = λ n h. absurd (omega (arith, h));
  };
}

values-none : (trees : List Tree) (point : List Word) (ids : List ℕ) → ids ≡ [] → HaveValues [] point trees ids
values-none trees point ids e k n at = let gone : slice_get [] k ≡ Some n = sym (ap (λ xs. slice_get xs k) e) ∙ at in absurd (cc)

pub table-none : (trees : List Tree) (point : List Word) (t : Table) → t.walk ≡ [] → t.words.items ≡ [] → IsTable trees point t
table-none trees point t walk words = record {
  kept = record {
    walk = subst (IsWalk trees) (sym walk) (walk-none trees);
    values = values-none trees point t.walk walk;
    right = words-none [] point trees t.walk t.words.items words;
    many = let none : length t.words.items ≡ 0 = ap length words in omega (arith, none);
  };
  all = ap length words ∙ sym (ap length walk);
}

-- what a visit adds to terms that have values has values
to-named : (point : List Word) (trees : List Tree) (ids : List ℕ) → HaveValues [] point trees ids → AllByRecursion (HasValue [] point) (named trees ids)
to-named point trees [] h = tt
to-named point trees (n ∷ ns) h = (h 0 n refl, to-named point trees ns (λ k m at. h (suc k) m at))

visited-values : (point : List Word) (trees : List Tree) (old new : List ℕ) (id : ℕ) → named trees new ≡ with_subtrees (named trees old) (tree_at trees id) →
    HaveValues [] point trees old → HasValue [] point (tree_at trees id) → HaveValues [] point trees new
visited-values point trees old new id order before own k n at =
    let all : AllByRecursion (HasValue [] point) (named trees new) =
    subst (AllByRecursion (HasValue [] point)) (sym order)
    (each-subtree (HasValue [] point) (inherit-value [] point) (named trees old) (tree_at trees id) (to-named point trees old before) own) in
    let within : k < length (named trees new) = omega (arith, slice_get_within new k n at, length-map new (tree_at trees)) in
    let here = slice_get-get_or (named trees new) k (Literal BoolSort 0) within in
    subst (HasValue [] point) (named-at trees new k n at) (all-at (HasValue [] point) (named trees new) k (tree_at (named trees new) k) all here)

-- and the words stand where they stood
found-front : (old more : List ℕ) (k n : ℕ) → k < length old → slice_get (old ++ more) k ≡ Some n → slice_get old k ≡ Some n
found-front [] more k n low at = absurd (omega (arith, low))
found-front (x ∷ old) more zero n low at = at
found-front (x ∷ old) more (suc k) n low at = found-front old more k n (omega (arith, low)) at

pub kept-visited : (trees : List Tree) (point : List Word) (old new : List ℕ) (words : List Word) (id : ℕ) → AreKept trees point old words → IsWalk trees new → IsBehind old new →
    named trees new ≡ with_subtrees (named trees old) (tree_at trees id) → HasValue [] point (tree_at trees id) → AreKept trees point new words
kept-visited trees point old new words id kept walk behind order own = record {
  walk = walk;
  values = visited-values point trees old new id order kept.values own;
  right = λ k n w at there.
      let low : k < length old = omega (arith, slice_get_within words k w there, kept.many) in
      kept.right k n w (found-front old behind.more k n low (ap (λ xs. slice_get xs k) (sym behind.behind) ∙ at)) there;
  many =
      let long : length new ≡ length old + length behind.more = ap length behind.behind ∙ length-append old behind.more in
      omega (arith, long, kept.many);
}

-- the next term
pub item-here : (ids lent : List ℕ) (words : List Word) (place n : ℕ) → lent ≡ ids → place ≡ length words → length words < length ids → n ≡ get_or lent place n → slice_get ids (length words) ≡ Some n
item-here ids lent words place n same here left at =
    let many : length lent ≡ length ids = ap length same in
    let low : place < length lent = omega (arith, left, here, many) in
    ap (slice_get ids) (sym here) ∙ ap (λ xs. slice_get xs place) (sym same) ∙ slice_get-get_or lent place n low ∙ ap Some (sym at)

module _ (trees : List Tree) (point : List Word) (ids : List ℕ) (words : List Word) (kept : AreKept trees point ids words) (left : length words < length ids) where
  pub next-within : (n : ℕ) → slice_get ids (length words) ≡ Some n → n < length trees
  next-within n at = all-at (λ k. k < length trees) ids (length words) n (recursion_from_All (λ k. k < length trees) ids kept.walk.within) at

  pub next-term : (n : ℕ) → slice_get ids (length words) ≡ Some n → IsNext [] point trees ids words n
  next-term n at = record { walk = kept.walk; at = at; found = kept.right; value = kept.values (length words) n at }

  -- and its word
  pub kept-push : (n : ℕ) (w : Word) → slice_get ids (length words) ≡ Some n → IsWordOf [] point (tree_at trees n) w → AreKept trees point ids (words ++ w ∷ [])
  kept-push n w at own = record {
    walk = kept.walk;
    values = kept.values;
    right = words-push [] point trees ids words n w kept.right at own;
    many = omega (arith, left, length-append words (w ∷ []));
  }

-- a term of a table stands before the end of its words
pub in-table : (ids : List ℕ) (words : List Word) (n : ℕ) → length words ≡ length ids → Contains ids n → IsEarlier ids (length words) n
in-table ids words n all has =
    let many : length ids ≤ length words = omega (arith, all) in
    earlier-in ids (length ids) (length words) n many (contains-earlier ids n has)
