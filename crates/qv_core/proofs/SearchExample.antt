-- A search among three items, computed.
use Rattle.std.proofs.Common.{◌≡◌, ℕ, refl, true, false, Some, None, [], ◌∷◌}
use Rattle.qv_core.specs.Searching.{begun, trial_of, answered, without_item}
use Rattle.qv_core.specs.Without.{without, trial_list, tried}

-- one item, which isn't needed
one-begins : trial_of (begun 1) ≡ Some 0
one-begins = refl

one-ends : answered true (begun 1) ≡ record { kept = false ∷ []; next = 1 }
one-ends = refl

one-is-over : trial_of (answered true (begun 1)) ≡ None
one-is-over = refl

-- of three items the first is left out at once, the second is needed, and the third isn't
three-begin : trial_of (without_item 0 (begun 3)) ≡ Some 1
three-begin = refl

three-go-on : trial_of (answered false (without_item 0 (begun 3))) ≡ Some 2
three-go-on = refl

three-end : answered true (answered false (without_item 0 (begun 3))) ≡ record { kept = false ∷ true ∷ false ∷ []; next = 3 }
three-end = refl

-- no item, and no trial
none-is-over : trial_of (begun 0) ≡ None
none-is-over = refl

-- the list of a trial: of the assertions 10 to 14, those at 0, 1, 3 and 4 have names; that at 4 was
-- left out together, that at 0 was dropped by its trial, and that at 3 is tried while that at 1 is kept
left-out : without {A = ℕ} (0 ∷ 4 ∷ []) (10 ∷ 11 ∷ 12 ∷ 13 ∷ 14 ∷ []) ≡ 11 ∷ 12 ∷ 13 ∷ []
left-out = refl

fourth-is-tried : trial_list {A = ℕ} (4 ∷ []) (0 ∷ 1 ∷ 3 ∷ 4 ∷ []) (1 ∷ 3 ∷ []) 3 (10 ∷ 11 ∷ 12 ∷ 13 ∷ 14 ∷ []) ≡ 11 ∷ 12 ∷ []
fourth-is-tried = refl

-- an earlier one that is kept stays, and so does a later one that was not yet tried
second-is-tried : trial_list {A = ℕ} [] (0 ∷ 1 ∷ 3 ∷ 4 ∷ []) (1 ∷ []) 1 (10 ∷ 11 ∷ 12 ∷ 13 ∷ 14 ∷ []) ≡ 12 ∷ 13 ∷ 14 ∷ []
second-is-tried = refl

those-tried : tried (4 ∷ []) (0 ∷ 1 ∷ 3 ∷ 4 ∷ []) ≡ 0 ∷ 1 ∷ 3 ∷ []
those-tried = refl
