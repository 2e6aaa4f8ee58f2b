-- Equations at a point, and those of an entry.
use Rattle.std.proofs.Common.{◌≡◌, ℕ, zero, suc, List, [], ◌∷◌, length, map, take, Option, Some, refl, sym, ap, subst, ◌∙◌}
use Rattle.std.specs.Prelude.{option_map, unwrap_or}
use Rattle.std.specs.List.{AllByRecursion, AllZip, slice_get}
use Rattle.std.proofs.lemmas.List.Elements.{recursion_from_All}
use Rattle.qv_words.specs.declared.sort.Sort.{Sort}
use Rattle.qv_words.specs.declared.sort.Sort.TheVariants.{Bool as BoolSort}
use Rattle.qv_words.specs.declared.word.Word.{Word}
use Rattle.qv_words.specs.Word.{values_of, word_sort, word_value}
use Rattle.qv_words.specs.Tree.{Tree}
use Rattle.qv_words.specs.Problem.{Place, Problem}
use Rattle.qv_words.specs.Linked.{equation_of, fixing}
use Rattle.qv_words.proofs.Elements.{get-map, get-taken, some-and}
use Rattle.qv_game_regions.specs.declared.run.Run.{Run as Kept}
use Rattle.qv_game_regions.specs.Runs.{fixing_at, run_of, IsRunAt, IsRunIn}
use Rattle.qv_game_regions.specs.RunLaws.{FixingIsOfEntries}

zip-right : {A B : Type 0} (R : A → B → Type 0) (xs : List A) (ys : List B) (i : ℕ) (x : A) → AllZip R xs ys → slice_get xs i ≡ Some x → (y : B) × (slice_get ys i ≡ Some y) × R x y
zip-right R [] ys i x h at = absurd (cc)
zip-right R (a ∷ xs) [] i x h at = absurd h
zip-right {A = A} R (a ∷ xs) (b ∷ ys) zero x h at = let same : a ≡ x = cc in (b, refl, subst (λ (z : A). R z b) same h.0)
zip-right R (a ∷ xs) (b ∷ ys) (suc i) x h at = zip-right R xs ys i x h.1 at

one : (p : Problem) (point : List Word) (run : Kept) → AllZip (λ w place. word_sort w ≡ place.sort) point (take (length point) p.prefix) → IsRunAt point (run_of run) → fixing_at point run ≡ equation_of p (values_of point) (run_of run)
one p point run sorts there =
    let w = some-and (slice_get point run.place) (λ x. IsRunIn (word_sort x) (run_of run)) there in
    let q = zip-right (λ x place. word_sort x ≡ place.sort) point (take (length point) p.prefix) run.place w.0 sorts w.1 in
    let own : unwrap_or (option_map word_sort (slice_get point run.place)) BoolSort ≡ word_sort w.0 = ap (λ (o : Option Word). unwrap_or (option_map word_sort o) BoolSort) w.1 in
    let value : unwrap_or (option_map word_value (slice_get point run.place)) 0 ≡ word_value w.0 = ap (λ (o : Option Word). unwrap_or (option_map word_value o) 0) w.1 in
    let place : slice_get p.prefix run.place ≡ Some q.0 = get-taken p.prefix (length point) run.place q.0 q.1 in
    let theirs : unwrap_or (option_map (λ (x : Place). x.sort) (slice_get p.prefix run.place)) BoolSort ≡ q.0.sort = ap (λ (o : Option Place). unwrap_or (option_map (λ (x : Place). x.sort) o) BoolSort) place in
    let number : unwrap_or (slice_get (values_of point) run.place) 0 ≡ word_value w.0 = ap (λ (o : Option ℕ). unwrap_or o 0) (get-map word_value point run.place w.0 w.1) in
    ap (λ (s : Sort). fixing s (unwrap_or (option_map word_value (slice_get point run.place)) 0) (run_of run)) (own ∙ q.2 ∙ sym theirs)
    ∙ ap (λ (n : ℕ). fixing (unwrap_or (option_map (λ (x : Place). x.sort) (slice_get p.prefix run.place)) BoolSort) n (run_of run)) (value ∙ sym number)

each : (p : Problem) (point : List Word) (runs : List Kept) → AllZip (λ w place. word_sort w ≡ place.sort) point (take (length point) p.prefix) → AllByRecursion (λ run. IsRunAt point (run_of run)) runs → map (fixing_at point) runs ≡ map (equation_of p (values_of point)) (map run_of runs)
each p point [] sorts h = refl
each p point (r ∷ rs) sorts h =
    let first : fixing_at point r ≡ equation_of p (values_of point) (run_of r) = one p point r sorts h.0 in
    let rest : map (fixing_at point) rs ≡ map (equation_of p (values_of point)) (map run_of rs) = each p point rs sorts h.1 in
    ap (λ (t : Tree). t ∷ map (fixing_at point) rs) first ∙ ap (λ (ts : List Tree). equation_of p (values_of point) (run_of r) ∷ ts) rest

pub fixing-is_of_entries : FixingIsOfEntries
fixing-is_of_entries p point runs sorts h = each p point runs sorts (recursion_from_All (λ run. IsRunAt point (run_of run)) runs h)
