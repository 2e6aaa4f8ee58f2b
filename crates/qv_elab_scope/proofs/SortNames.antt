-- The sorts that names stand for, as they are kept.
use Rattle.std.proofs.Common.{◌≡◌, inl, inr, ℕ, Option, Some, None, List, refl, sym, ap, ◌∙◌, Ok, Err}
use Rattle.std.specs.Prelude.{Result, option_and_then}
use Rattle.qv_sexpr.specs.declared.items.Item.{Item}
use Rattle.qv_sexpr.specs.Script.{atom, list}
use Rattle.qv_sexpr.specs.Script.{Tree as Expr}
use Rattle.qv_sexpr.specs.Items.{Stands}
use Rattle.qv_words.specs.declared.sort.Sort.{Sort}
use Rattle.qv_words.specs.Tree.{Tree}
use Rattle.qv_elab_scope.specs.declared.scope.Kept.{Kept}
use Rattle.qv_elab_scope.specs.declared.scope.Kept.TheVariants as kept
use Rattle.qv_elab_defs.specs.Faults.{Fault}
use Rattle.qv_elab_defs.specs.Tokens.{symbol_of}
use Rattle.qv_elab_defs.specs.Sorts.{read_sort}
use Rattle.qv_elab_defs.specs.Scopes.{Scope, Entry, Constant, Definition, Synonym, found, sort_key}
use Rattle.qv_elab_defs.specs.Synonyms.{sort_found, sort_entry, scoped_sort}
use Rattle.qv_elab_defs.specs.Answers.{answered, ReadsSort}
use Rattle.qv_elab_items.specs.Flat.{name_in}
use Rattle.qv_elab_scope.specs.Force.{Force, stands_for, kept_sort, sort_for}
use Rattle.qv_elab_scope.specs.Headed.{name_at}
use Rattle.qv_elab_scope.specs.Kept.{IsKeptFor, IsScopeIn}
use Rattle.qv_elab_items.proofs.Slices.{name-stands}
use Rattle.qv_elab_scope.proofs.Lookups.{IsLooked, looked-up}

-- the name at an item is that of the expression which begins there
pub name-begins : (its : List Item) (text : List ℕ) (i : ℕ) (e : Expr) (j : ℕ) → Stands its text i e j → name_at text its i ≡ symbol_of e
name-begins its text i (atom l) j h = ap (option_and_then (name_in text)) h.0.item ∙ name-stands its text i l h.0
name-begins its text i (list place inside close) j h = ap (option_and_then (name_in text)) h.1.1

abbrev synonym : Option Entry → Option Sort
synonym (Some (Synonym s)) = Some s
synonym _ = None

sort-kept : (trees : List Tree) (force : Force) (defs : Scope) (name : List ℕ) → IsScopeIn trees force defs → sort_for name force ≡ synonym (found (sort_key name) defs)
sort-kept trees force defs name h = go (looked-up trees force defs (sort_key name) h)
  where
    entry : (k : Kept) (x : Entry) (rest : Scope) → IsKeptFor trees rest k x → kept_sort (Some k) ≡ synonym (Some x)
    entry (kept.Constant i s) x rest g = ap (λ (y : Entry). synonym (Some y)) (sym g)
    entry (kept.Definition sorts body) x rest g = ap (λ (y : Entry). synonym (Some y)) (sym g.entry_is)
    entry (kept.Synonym s) x rest g = ap (λ (y : Entry). synonym (Some y)) (sym g)

    go : IsLooked trees defs (sort_key name) (stands_for (sort_key name) force) → sort_for name force ≡ synonym (found (sort_key name) defs)
    go (inl n) = ap kept_sort n.0 ∙ ap synonym (sym n.1)
    go (inr i) = ap kept_sort i.kept_is ∙ entry i.kept i.entry i.rest i.kept_for ∙ ap synonym (sym i.entry_is)

of-synonym : (e : Expr) (o : Option Entry) (s : Sort) → Some s ≡ synonym o → sort_entry e o ≡ Ok s
of-synonym e (Some (Synonym t)) s h = let same : t ≡ s = cc in ap Ok same
of-synonym e (Some (Constant i t)) s h = absurd (cc)
of-synonym e (Some (Definition ss body)) s h = absurd (cc)
of-synonym e None s h = absurd (cc)

by-itself : (e : Expr) (o : Option Entry) → None ≡ synonym o → sort_entry e o ≡ read_sort e
by-itself e (Some (Synonym t)) h = absurd (cc)
by-itself e (Some (Constant i t)) h = refl
by-itself e (Some (Definition ss body)) h = refl
by-itself e None h = refl

module _ (trees : List Tree) (force : Force) (defs : Scope) (e : Expr) (h : IsScopeIn trees force defs) where
  kept-sort : option_and_then (λ name. sort_for name force) (symbol_of e) ≡ synonym (sort_found defs e)
  kept-sort = go (symbol_of e)
    where
      go : (o : Option (List ℕ)) → option_and_then (λ name. sort_for name force) o ≡ synonym (option_and_then (λ name. found (sort_key name) defs) o)
      go (Some name) = sort-kept trees force defs name h
      go None = refl

  pub sort-named : (s : Sort) → Some s ≡ option_and_then (λ name. sort_for name force) (symbol_of e) → scoped_sort defs e ≡ Ok s
  sort-named s f = of-synonym e (sort_found defs e) s (f ∙ kept-sort)

  pub sort-itself : None ≡ option_and_then (λ name. sort_for name force) (symbol_of e) → scoped_sort defs e ≡ read_sort e
  sort-itself f = by-itself e (sort_found defs e) (f ∙ kept-sort)

pub reads-answered : (r : Result Sort Fault) → ReadsSort r (answered r)
reads-answered (Ok s) = refl
reads-answered (Err fault) = refl
