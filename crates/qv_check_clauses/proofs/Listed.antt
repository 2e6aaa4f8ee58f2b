-- Texts that are told.
use Rattle.std.proofs.Common.{◌≡◌, ◌≢◌, ◌++◌, ℕ, Option, Some, None, List, [], ◌∷◌, refl, subst}
use Rattle.std.specs.Prelude.{IfSome}
use Rattle.qv_io.specs.Sink.{Appends}
use Rattle.qv_io.proofs.SinkLemmas.{Appends-nothing}
use Rattle.qv_check_clauses.specs.Clauses.{clauses_text}

module _ (text bytes : List ℕ) (script cert : Option (List ℕ)) (script_is : IfSome script (λ told. text ≡ told)) (cert_is : IfSome cert (λ told. bytes ≡ told)) where
  -- what holds of the texts that were taken holds of those that are told
  pub told : (P : List ℕ → List ℕ → Type 0) → P text bytes → IfSome script (λ s. IfSome cert (P s))
  told P h = by script script_is
    where
      in-cert : (s : List ℕ) → text ≡ s → (c : Option (List ℕ)) → IfSome c (λ t. bytes ≡ t) → IfSome c (P s)
      in-cert s is None e = tt
      in-cert s is (Some b) e = subst (λ (t : List ℕ). P t b) is (subst (P text) e h)

      by : (s : Option (List ℕ)) → IfSome s (λ t. text ≡ t) → IfSome s (λ t. IfSome cert (P t))
      by None e = tt
      by (Some s) e = in-cert s e cert cert_is

-- ---- where nothing was written

abbrev pub Cut : (places : ℕ) (script cert held held' : Option (List ℕ)) → Type 0
Cut places script cert held held' = IfSome script (λ text. IfSome cert (λ bytes. (written rest : List ℕ) × (clauses_text places text bytes ≡ written ++ rest) × Appends held held' written))

abbrev pub Short : (places : ℕ) (script cert held held' : Option (List ℕ)) → Type 0
Short places script cert held held' = IfSome script (λ text. IfSome cert (λ bytes. (written rest : List ℕ) × (clauses_text places text bytes ≡ written ++ rest) × (rest ≢ []) × Appends held held' written))

pub nothing-cut : (places : ℕ) (script cert held : Option (List ℕ)) → Cut places script cert held held
nothing-cut places None cert held = tt
nothing-cut places (Some text) None held = tt
nothing-cut places (Some text) (Some bytes) held = ([], clauses_text places text bytes, refl, Appends-nothing held)

behind-some : (xs ys : List ℕ) (y : ℕ) → xs ++ y ∷ ys ≢ []
behind-some [] ys y e = absurd cc
behind-some (x ∷ xs) ys y e = absurd cc

pub nothing-short : (places : ℕ) (script cert held : Option (List ℕ)) → Short places script cert held held
nothing-short places None cert held = tt
nothing-short places (Some text) None held = tt
nothing-short places (Some text) (Some bytes) held = ([], clauses_text places text bytes, refl, behind-some _ _ 99, Appends-nothing held)
