-- The first fault of a line, test by test.
use Rattle.std.proofs.Common.{◌≡◌, Bool, true, false, not, cond, Option, Some, ◌∙◌, ap}
use Rattle.qv_cert.specs.declared.kind.RefusalKind.{RefusalKind}

-- a test that passed, and one that didn't
pub skip : (k : RefusalKind) (b : Bool) (rest r : Option RefusalKind) → true ≡ b → r ≡ rest → r ≡ cond (not b) (Some k) rest
skip k b rest r e h = h ∙ ap (λ (x : Bool). cond (not x) (Some k) rest) e

pub fits : (k : RefusalKind) (b : Bool) (rest : Option RefusalKind) → false ≡ b → Some k ≡ cond (not b) (Some k) rest
fits k b rest e = ap (λ (x : Bool). cond (not x) (Some k) rest) e

-- a test that must not pass
pub skip-none : (k : RefusalKind) (b : Bool) (rest r : Option RefusalKind) → false ≡ b → r ≡ rest → r ≡ cond b (Some k) rest
skip-none k b rest r e h = h ∙ ap (λ (x : Bool). cond x (Some k) rest) e

pub fits-some : (k : RefusalKind) (b : Bool) (rest : Option RefusalKind) → true ≡ b → Some k ≡ cond b (Some k) rest
fits-some k b rest e = ap (λ (x : Bool). cond x (Some k) rest) e
