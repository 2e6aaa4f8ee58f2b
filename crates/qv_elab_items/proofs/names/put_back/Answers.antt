use Rattle.std.proofs.Common.{sym, ap, ◌∙◌, subst, nat_eq, List, ℕ}
use Rattle.std.specs.Prelude.{IsSome}
use Rattle.std.specs.Option.{option_copied_mut}
use Rattle.std.specs.HashMap.{get_by}
use Rattle.std.specs.Cmp.Lexicographic.{pointwise}
use Rattle.qv_elab_items.proofs.NameTables.{not-none}
use Rattle.qv_elab_items.proofs.names.put_back.Goals as goal

-- the name is there
pub returns-in_default-get_mut : goal.returns-in_default-get_mut
returns-in_default-get_mut c =
    let there = subst (λ (l : List ℕ). IsSome (get_by (λ k. pointwise nat_eq l k.items) c.args.newest.now)) (sym c.as_slice-name.ensures.value) c.requires in
    absurd (not-none (get_by (λ k. pointwise nat_eq c.as_slice-name.result.now k.items) c.args.newest.now) there (sym (ap option_copied_mut c.in_default-get_mut.is) ∙ c.get_mut.ensures.value))
