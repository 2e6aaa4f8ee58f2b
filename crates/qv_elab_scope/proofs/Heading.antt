-- Heads that are definitions, and others.
use Rattle.std.proofs.Common.{◌≡◌, inl, inr, ℕ, true, false, Some, List, ap, ◌∙◌}
use Rattle.std.specs.Prelude.{Result}
use Rattle.qv_words.specs.declared.sort.Sort.{Sort}
use Rattle.qv_words.specs.Tree.{Tree}
use Rattle.qv_sorts.specs.Search.{operator_named}
use Rattle.qv_elab_scope.specs.declared.scope.Kept.{Kept}
use Rattle.qv_elab_scope.specs.declared.scope.Kept.TheVariants as kept
use Rattle.qv_elab_defs.specs.Faults.{Fault}
use Rattle.qv_elab_defs.specs.Scopes.{Scope, Entry, Definition, found}
use Rattle.qv_elab_scope.specs.Force.{Force, stands_for, is_definition}
use Rattle.qv_elab_scope.specs.Kept.{IsKeptFor, IsScopeIn}
use Rattle.qv_elab_defs.specs.Heads.{HeadName, head_operator, head_entry, head_named}
use Rattle.qv_elab_scope.proofs.Lookups.{IsLooked, looked-up}

-- definitions and others
module _ (trees : List Tree) (force : Force) (defs : Scope) (in_force : IsScopeIn trees force defs) where
  pub head-defined : (name : List ℕ) → true ≡ is_definition (stands_for name force) → (ss : List Sort) × (read : ℕ → List Tree → Result Tree Fault) × (found name defs ≡ Some (Definition ss read))
  head-defined name e = go (looked-up trees force defs name in_force)
    where
      entry : (k : Kept) (x : Entry) (rest : Scope) → true ≡ is_definition (Some k) → IsKeptFor trees rest k x → (ss : List Sort) × (read : ℕ → List Tree → Result Tree Fault) × (x ≡ Definition ss read)
      entry (kept.Constant i s) x rest e h = absurd (cc)
      entry (kept.Definition sorts body) x rest e h = (_, _, h.entry_is)
      entry (kept.Synonym s) x rest e h = absurd (cc)

      go : IsLooked trees defs name (stands_for name force) → (ss : List Sort) × (read : ℕ → List Tree → Result Tree Fault) × (found name defs ≡ Some (Definition ss read))
      go (inl n) = absurd (let f = e ∙ ap is_definition n.0 in cc)
      go (inr i) =
          let k = entry i.kept i.entry i.rest (e ∙ ap is_definition i.kept_is) i.kept_for in
          (k.0, k.1, i.entry_is ∙ ap Some k.2)

  pub head-other : (h : HeadName) → false ≡ is_definition (stands_for h.name force) → head_named defs h ≡ head_operator h (operator_named h.name)
  head-other h e = go (looked-up trees force defs h.name in_force)
    where
      entry : (k : Kept) (x : Entry) (rest : Scope) → false ≡ is_definition (Some k) → IsKeptFor trees rest k x → head_entry h (Some x) ≡ head_operator h (operator_named h.name)
      entry (kept.Constant i s) x rest e g = ap (λ (y : Entry). head_entry h (Some y)) g
      entry (kept.Definition sorts body) x rest e g = absurd (cc)
      entry (kept.Synonym s) x rest e g = ap (λ (y : Entry). head_entry h (Some y)) g

      go : IsLooked trees defs h.name (stands_for h.name force) → head_named defs h ≡ head_operator h (operator_named h.name)
      go (inl n) = ap (head_entry h) n.1
      go (inr i) = ap (head_entry h) i.entry_is ∙ entry i.kept i.entry i.rest (e ∙ ap is_definition i.kept_is) i.kept_for
