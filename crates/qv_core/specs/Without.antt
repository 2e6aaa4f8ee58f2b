-- Lists without the items at some places.
use Rattle.std.specs.Prelude.{ℕ, suc, ◌==◌, not, nat_lt, if◌then◌else◌, Bool, List, [], ◌∷◌, ◌++◌, filter}
use Rattle.std.specs.List.{list_any}

-- whether a number is among others
abbrev pub is_among : List ℕ → ℕ → Bool
is_among ns n = list_any (λ m. m == n) ns

-- the items whose places aren't among these, where the first item has this place
abbrev pub without_from : {A : Type 0} → List ℕ → ℕ → List A → List A
without_from out n [] = []
without_from out n (x ∷ xs) = if is_among out n then without_from out (suc n) xs else x ∷ without_from out (suc n) xs

-- places count from 0
abbrev pub without : {A : Type 0} → List ℕ → List A → List A
without out xs = without_from out 0 xs

-- of some places, those that aren't kept
abbrev pub dropped : (named kept : List ℕ) → List ℕ
dropped named kept = filter (λ n. not (is_among kept n)) named

-- the list of a trial: without the item that is tried, without those that are left out together
-- before all trials, and without the earlier ones that aren't kept
abbrev pub trial_list : {A : Type 0} → (together named kept : List ℕ) → (item : ℕ) → List A → List A
trial_list together named kept item xs = without (item ∷ together ++ filter (λ n. nat_lt n item) (dropped named kept)) xs

-- the items that are tried: those that aren't left out together
abbrev pub tried : (together named : List ℕ) → List ℕ
tried together named = dropped named together
