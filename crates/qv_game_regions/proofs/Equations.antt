-- The equations of runs.
use Rattle.std.proofs.Common.{◌≡◌, ℕ, ◌+◌, ◌<◌, List, [], ◌∷◌, ◌++◌, length, map, take, get_or, Some, refl, sym, ap, ◌∙◌}
use Rattle.std.proofs.lemmas.List.{take_more, map-append}
use Rattle.std.proofs.lemmas.Bool.{eq-eqb, le-leb, lt-ltb}
use Rattle.qv_words.specs.declared.sort.Sort.{Sort}
use Rattle.qv_words.specs.declared.sort.Sort.TheVariants.{Bits}
use Rattle.qv_words.specs.declared.sort.Sort.TheVariants.{Bool as BoolSort}
use Rattle.qv_words.specs.declared.op.Op.TheVariants.{And, Equal}
use Rattle.qv_words.specs.Tree.{Tree, Literal, tree_sort}
use Rattle.qv_words.specs.Sorted.{IsSorted}
use Rattle.qv_words.specs.Prenex.{binary}
use Rattle.qv_words.specs.declared.word.Word.{Word}
use Rattle.qv_words.specs.Problem.{conjunction_with}
use Rattle.qv_words.specs.Linked.{Run, fixing}
use Rattle.qv_game_regions.specs.declared.run.Run.{Run as Kept}
use Rattle.qv_game_regions.specs.Runs.{fixed_part, fixed_sort, fixed_value, fixing_at, IsRunIn}

-- an equation is that of its part and its literal
pub fixing-is : (s : Sort) (n : ℕ) (r : Run) → fixing s n r ≡ binary Equal (fixed_part s r) (Literal (fixed_sort s r) (fixed_value s n r))
fixing-is BoolSort n r = refl
fixing-is (Bits w) n r = refl

-- their sorts are the same
pub part-sort : (s : Sort) (r : Run) → IsRunIn s r → tree_sort (fixed_part s r) ≡ Some (fixed_sort s r)
part-sort BoolSort r h = refl
part-sort (Bits w) r h = rw (lt-ltb r.high w h.within, le-leb r.low r.high h.ordered) refl

pub part-sorted : (s : Sort) (r : Run) → IsRunIn s r → IsSorted (fixed_part s r)
part-sorted BoolSort r h = (h.lawful, tt)
part-sorted (Bits w) r h = (((h.lawful, tt), tt), rw (part-sort (Bits w) r h) refl)

pub equation-bool : (t : Tree) (s : Sort) (n : ℕ) → tree_sort t ≡ Some s → tree_sort (binary Equal t (Literal s n)) ≡ Some BoolSort
equation-bool t BoolSort n h = rw h refl
equation-bool t (Bits k) n h = rw (h, eq-eqb k k refl) refl

pub equation-sorted : (t : Tree) (s : Sort) (n : ℕ) → tree_sort t ≡ Some s → IsSorted t → IsSorted (Literal s n) → IsSorted (binary Equal t (Literal s n))
equation-sorted t s n h a b = ((a, (b, tt)), rw (equation-bool t s n h) refl)

-- a conjunction's sort, and one formula more
pub and-bool : (a b : Tree) → tree_sort a ≡ Some BoolSort → tree_sort b ≡ Some BoolSort → tree_sort (binary And a b) ≡ Some BoolSort
and-bool a b ea eb = rw (ea, eb) refl

pub conjunction-push : (t : Tree) (us : List Tree) (u : Tree) → conjunction_with t (us ++ u ∷ []) ≡ binary And (conjunction_with t us) u
conjunction-push t [] u = refl
conjunction-push t (v ∷ us) u = conjunction-push (binary And t v) us u

-- one run more
pub runs-more : (point : List Word) (first : Kept) (rest : List Kept) (k : ℕ) (d : Kept) (region equation : Tree) → k < length rest →
    region ≡ conjunction_with (fixing_at point first) (map (fixing_at point) (take k rest)) → equation ≡ fixing_at point (get_or rest k d) →
    binary And region equation ≡ conjunction_with (fixing_at point first) (map (fixing_at point) (take (k + 1) rest))
runs-more point first rest k d region equation low so next =
    let start = fixing_at point first in
    let run = get_or rest k d in
    let longer : map (fixing_at point) (take (k + 1) rest) ≡ map (fixing_at point) (take k rest) ++ fixing_at point run ∷ [] =
    ap (map (fixing_at point)) (take_more rest k d low) ∙ map-append (fixing_at point) (take k rest) (run ∷ []) in
    ap (λ (t : Tree). binary And t equation) so
    ∙ ap (λ (t : Tree). binary And (conjunction_with start (map (fixing_at point) (take k rest))) t) next
    ∙ sym (conjunction-push start (map (fixing_at point) (take k rest)) (fixing_at point run))
    ∙ ap (conjunction_with start) (sym longer)
