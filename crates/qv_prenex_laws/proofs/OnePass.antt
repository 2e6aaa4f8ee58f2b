-- Places for constants and variables for variables are put in by one pass.
use Rattle.std.proofs.Common.{◌≡◌, ℕ, ◌==◌, Bool, true, false, if◌then◌else◌, Option, Some, None, refl, ap, ◌∙◌}
use Rattle.std.specs.Prelude.{IfSome, unwrap_or}
use Rattle.qv_words.specs.declared.sort.Sort.{Sort}
use Rattle.qv_words.specs.Tree.{Tree, Trees, Constant, Variable, Literal, Apply, ForAll, Exists, Nil, Cons}
use Rattle.qv_words.specs.Replacement.{replaced, replaced_each}
use Rattle.qv_words.specs.Problem.{with_places, each_with_places}
use Rattle.qv_prenex_laws.specs.MatrixLaws.{put_leaves, put_leaves_each, ArePlaces, PlacesStay, OnePass}

abbrev IsPlace : Option Tree → Type 0
IsPlace o = IfSome o (λ put. (level : ℕ) × (s : Sort) × (put ≡ Variable level s))

pub places-stay : PlacesStay
places-stay at l s k block h m = go (m == l)
  where
    go : (b : Bool) → IsPlace (if b then Some (Variable (at.next k) s) else at.outer m)
    go true = (at.next k, s, refl)
    go false = h m

put-stays : (place : ℕ → ℕ) (o : Option Tree) (l : ℕ) (s : Sort) → IsPlace o →
    with_places place (unwrap_or o (Variable l s)) ≡ unwrap_or o (Variable l s)
put-stays place None l s h = refl
put-stays place (Some put) l s (level, r, e) = rw e refl

mutual
  one-pass-tree : (place : ℕ → ℕ) (outer : ℕ → Option Tree) → ArePlaces outer → (t : Tree) →
      with_places place (replaced outer t) ≡ put_leaves place outer t
  one-pass-tree place outer h (Constant i s) = refl
  one-pass-tree place outer h (Variable l s) = put-stays place (outer l) l s (h l)
  one-pass-tree place outer h (Literal s n) = refl
  one-pass-tree place outer h (Apply o args) = ap (Apply o) (one-pass-each place outer h args)
  one-pass-tree place outer h (ForAll l s body) = ap (ForAll l s) (one-pass-tree place outer h body)
  one-pass-tree place outer h (Exists l s body) = ap (Exists l s) (one-pass-tree place outer h body)

  one-pass-each : (place : ℕ → ℕ) (outer : ℕ → Option Tree) → ArePlaces outer → (ts : Trees) →
      each_with_places place (replaced_each outer ts) ≡ put_leaves_each place outer ts
  one-pass-each place outer h Nil = refl
  one-pass-each place outer h (Cons t ts) =
      ap (λ u. Cons u (each_with_places place (replaced_each outer ts))) (one-pass-tree place outer h t)
      ∙ ap (Cons (put_leaves place outer t)) (one-pass-each place outer h ts)

pub one-pass : OnePass
one-pass place outer t h = one-pass-tree place outer h t
