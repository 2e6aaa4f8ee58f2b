-- Parts that are put behind tasks.
use Rattle.std.proofs.Common.{◌≡◌, ℕ, List, [], ◌∷◌, ◌++◌, map, reverse, refl, ap, ◌∙◌, sym, Result, Ok, Err, OnOk}
use Rattle.std.proofs.lemmas.List.{reverse-append}
use Rattle.indexmap.proofs.ReorderLemmas.{map-reverse}
use Rattle.qv_prenex_matrix.specs.declared.rules.Part.{Part}
use Rattle.qv_prenex.specs.declared.blocks.Task.{Task}
use Rattle.qv_prenex_matrix.specs.Waiting.{under_plus}
use Rattle.qv_prenex.specs.Blocks.{at_block, first_task}

pub tasks-behind : (block : ℕ) (parts over : List Part) (old new : List Task) → new ≡ old ++ map (at_block block) parts → reverse parts ≡ over → reverse new ≡ map (at_block block) over ++ reverse old
tasks-behind block parts over old new e f =
    ap reverse e ∙ reverse-append old (map (at_block block) parts) ∙ ap (λ (xs : List Task). xs ++ reverse old) (sym (map-reverse (at_block block) parts) ∙ ap (map (at_block block)) f)

pub first-tasks : (ns : List ℕ) → map (at_block 0) (map under_plus ns) ≡ map first_task ns
first-tasks [] = refl
first-tasks (n ∷ ns) = ap (λ (ts : List Task). first_task n ∷ ts) (first-tasks ns)

pub on-ok : {A E : Type 0} (r : Result A E) {P Q : Type 0} → (P → Q) → OnOk r P → OnOk r Q
on-ok (Ok x) go h = go h
on-ok (Err e) go h = tt
