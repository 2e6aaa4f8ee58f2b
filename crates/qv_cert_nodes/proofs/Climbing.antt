-- The path of a line, from its end up to the root.
use Rattle.std.proofs.Common.{◌≡◌, ℕ, zero, suc, ◌<◌, Option, Some, List, [], ◌∷◌, ◌++◌, length, map, reverse, slice_get, refl, sym, ap, subst, ◌∙◌, append_assoc}
use Rattle.std.specs.Prelude.{option_map}
use Rattle.std.specs.List.{AllByRecursion}
use Rattle.std.proofs.lemmas.List.{reverse-append}
use Rattle.qv_words.specs.Tree.{Tree}
use Rattle.qv_words.specs.Problem.{Problem}
use Rattle.qv_words.specs.Expansion.{Grown, line_numbered, path_of}
use Rattle.qv_words.proofs.Leaves.{both}
use Rattle.qv_words.proofs.NewNodes.{nil-behind}
use Rattle.qv_store.specs.Nodes.{tree_at}
use Rattle.qv_store.specs.Walks.{named}
use Rattle.qv_store.specs.Replacing.{put_by_level, term_of_level, AreTermsOf}
use Rattle.qv_cert.specs.Listed.{grown_of}
use Rattle.qv_cert_nodes.specs.declared.listed.Listed.{Listed}
use Rattle.qv_cert_nodes.specs.declared.listed.Branch.{Branch}
use Rattle.qv_cert_nodes.specs.Lists.{listed_in, IsBranch, IsListed}
use Rattle.qv_cert_nodes.specs.Putting.{IsPath}
use Rattle.qv_cert_nodes.proofs.Grown.{map-pushed}
use Rattle.qv_cert_nodes.proofs.Clean.{map-get, below-at}

map-reverse : {A B : Type 0} (f : A → B) (xs : List A) → map f (reverse xs) ≡ reverse (map f xs)
map-reverse f [] = refl
map-reverse f (x ∷ xs) =
    ap (map f) (reverse-append (x ∷ []) xs)
    ∙ map-pushed f (reverse xs) x
    ∙ ap (λ ys. ys ++ f x ∷ []) (map-reverse f xs)
    ∙ sym (reverse-append (f x ∷ []) (map f xs))

all-reverse : {A : Type 0} (P : A → Type 0) (xs : List A) → AllByRecursion P xs → AllByRecursion P (reverse xs)
all-reverse P [] h = tt
all-reverse P (x ∷ xs) h = subst (AllByRecursion P) (sym (reverse-append (x ∷ []) xs)) (both P (reverse xs) (x ∷ []) (all-reverse P xs h.1) (h.0, tt))

-- what stands between a line and one above it on its path, from the end
pub record IsClimbing (trees : List Tree) (grown : List Grown) (line at : ℕ) (items : List (Option ℕ)) : Type 0 where
  pub ids : List ℕ
  pub put_is : items ≡ map Some ids
  pub below : AllByRecursion (λ id. id < length trees) ids
  pub path_is : path_of (line_numbered grown line) ≡ path_of (line_numbered grown at) ++ reverse (named trees ids)

pub climb-start : (trees : List Tree) (grown : List Grown) (line : ℕ) (items : List (Option ℕ)) → items ≡ [] → IsClimbing trees grown line line items
climb-start trees grown line items e = record { ids = []; put_is = e; below = tt; path_is = nil-behind (path_of (line_numbered grown line)) }

pub climb-step : (trees : List Tree) (p : Problem) (a : Listed) (line k at : ℕ) (items new : List (Option ℕ)) (b : Branch) → IsListed trees p a → suc k ≡ at → slice_get a.branches.items k ≡ Some b → new ≡ items ++ Some b.id ∷ []
    → IsClimbing trees (grown_of p (listed_in trees a)) line at items → IsClimbing trees (grown_of p (listed_in trees a)) line b.parent new
climb-step trees p a line k at items new b h e found pushed c = record {
  ids = c.ids ++ b.id ∷ [];
  put_is = pushed ∙ ap (λ (xs : List (Option ℕ)). xs ++ Some b.id ∷ []) c.put_is ∙ sym (map-pushed Some c.ids b.id);
  below = both (λ id. id < length trees) c.ids (b.id ∷ []) c.below (own.below, tt);
  path_is = c.path_is
      ∙ ap (λ n. path_of (line_numbered grown n) ++ reverse (named trees c.ids)) (sym e)
      ∙ ap (λ (o : Option Grown). path_of o ++ reverse (named trees c.ids)) own.grown_is
      ∙ append_assoc up (tree_at trees b.id ∷ []) (reverse (named trees c.ids))
      ∙ ap (λ (ts : List Tree). up ++ ts) (sym (ap reverse (map-pushed (tree_at trees) c.ids b.id) ∙ reverse-append (named trees c.ids) (tree_at trees b.id ∷ [])));
}
  where
    grown : List Grown
    grown = grown_of p (listed_in trees a)

    own : IsBranch trees (grown_of p (listed_in trees a)) k b
    own = h.branches k b found

    up : List Tree
    up = path_of (line_numbered (grown_of p (listed_in trees a)) b.parent)

pub climb-end : (trees : List Tree) (grown : List Grown) (line at : ℕ) (items new : List (Option ℕ)) → at ≡ 0 → new ≡ reverse items → IsClimbing trees grown line at items → IsPath trees new (path_of (line_numbered grown line))
climb-end trees grown line at items new e turned c = record {
  ids = reverse c.ids;
  put_is = turned ∙ ap reverse c.put_is ∙ sym (map-reverse Some c.ids);
  below = all-reverse (λ id. id < length trees) c.ids c.below;
  path_is = map-reverse (tree_at trees) c.ids ∙ sym (c.path_is ∙ ap (λ n. path_of (line_numbered grown n) ++ reverse (named trees c.ids)) e);
}

-- ---- what such a path puts in

path-level : (ids : List ℕ) (j : ℕ) → term_of_level (map Some ids) j ≡ slice_get ids j
path-level [] j = refl
path-level (id ∷ ids) zero = refl
path-level (id ∷ ids) (suc j) = path-level ids j

pub path-stands : (trees : List Tree) (put : List (Option ℕ)) (path : List Tree) → IsPath trees put path → (j : ℕ) → put_by_level trees put j ≡ slice_get path j
path-stands trees put path h j =
    ap (λ (xs : List (Option ℕ)). option_map (tree_at trees) (term_of_level xs j)) h.put_is
    ∙ ap (option_map (tree_at trees)) (path-level h.ids j)
    ∙ sym (map-get (tree_at trees) h.ids j)
    ∙ ap (λ (ts : List Tree). slice_get ts j) h.path_is

pub path-terms : (trees : List Tree) (put : List (Option ℕ)) (path : List Tree) → IsPath trees put path → AreTermsOf trees put
path-terms trees put path h l n e =
    below-at (length trees) h.ids l n h.below (sym (path-level h.ids l) ∙ sym (ap (λ (xs : List (Option ℕ)). term_of_level xs l) h.put_is) ∙ e)
