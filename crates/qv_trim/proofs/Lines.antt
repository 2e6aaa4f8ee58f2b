-- Lines at the places of a text.
use Rattle.std.proofs.Common.{◌≡◌, ◌≢◌, ℕ, zero, suc, ◌+◌, ◌-◌, ◌<◌, ◌≤◌, List, [], ◌∷◌, ◌++◌, length, drop, take, refl, sym, ◌∙◌, ap, subst, arith, length-append, length-drop, length-take}
use Rattle.std.specs.List.{AllByRecursion}
use Rattle.std.proofs.lemmas.List.{drop-drop}
use Rattle.std.proofs.lemmas.List.Elements.{recursion_from_All}
use Rattle.std.specs.Prelude.{Ok}
use Rattle.qv_cert.specs.declared.fault.CertLineFault.{CertLineFault}
use Rattle.qv_cert.specs.declared.fault.CertLineFault.TheVariants as fault
use Rattle.qv_cert.specs.Line.{CertLine}
use Rattle.qv_cert.specs.Grammar.{Reading}
use Rattle.qv_cert.specs.Reading.{Fails}
use Rattle.qv_cert.specs.TextLaws.{HasNoLf}
use Rattle.qv_trim.specs.Texts.{BeginsWith, Begins, StandsAt, BeginsWithNone}

apart : (a b x y : List ℕ) → AllByRecursion (λ (n : ℕ). n ≢ 10) a → AllByRecursion (λ (n : ℕ). n ≢ 10) b → a ++ 10 ∷ x ≡ b ++ 10 ∷ y → (a ≡ b) × (x ≡ y)
apart [] [] x y ha hb e = (refl, cc)
apart [] (n ∷ b) x y ha hb e = absurd (hb.0 (let same : 10 ≡ n = cc in sym same))
apart (n ∷ a) [] x y ha hb e = absurd (ha.0 (let same : n ≡ 10 = cc in same))
apart (n ∷ a) (m ∷ b) x y ha hb e =
    let tails : a ++ 10 ∷ x ≡ b ++ 10 ∷ y = cc in
    let heads : n ≡ m = cc in
    let rest = apart a b x y ha.1 hb.1 tails in
    (let same : a ≡ b = rest.0 in cc, rest.1)

-- a text begins with one line
pub one-line : (text a b x y : List ℕ) → BeginsWith text a x → BeginsWith text b y → (a ≡ b) × (x ≡ y)
one-line text a b x y p q = apart a b x y (recursion_from_All (λ (n : ℕ). n ≢ 10) a p.is_line) (recursion_from_All (λ (n : ℕ). n ≢ 10) b q.is_line) (sym p.text_is ∙ q.text_is)

-- what is read of the line at a place
pub read-there : {L : Type 0} (reads : List ℕ → L → Type 0) → ((line : List ℕ) (l m : L) → reads line l → reads line m → l ≡ m)
    → (text : List ℕ) (at : ℕ) (l m : L) (behind : ℕ) (line rest : List ℕ) → StandsAt reads text at l behind → BeginsWith (drop at text) line rest → reads line m → (l ≡ m) × (drop behind text ≡ rest)
read-there reads one text at l m behind line rest s b r =
    let same = one-line (drop at text) s.line line (drop behind text) rest s.begins b in
    (one line l m (subst (λ (w : List ℕ). reads w l) same.0 s.read) r, same.1)

-- lines that begin at a place are the one there and those behind it
pub begins-there : {L : Type 0} (reads : List ℕ → L → Type 0) → ((line : List ℕ) (l m : L) → reads line l → reads line m → l ≡ m)
    → (text : List ℕ) (at : ℕ) (l m : L) (behind : ℕ) (ls : List L) (rest : List ℕ) → StandsAt reads text at l behind → Begins reads (drop at text) (m ∷ ls) rest → (l ≡ m) × Begins reads (drop behind text) ls rest
begins-there reads one text at l m behind ls rest s (line, more, b, r, next) =
    let same = read-there reads one text at l m behind line more s b r in
    (same.0, subst (λ (w : List ℕ). Begins reads w ls rest) (sym same.1) next)

-- where none stands, there are no lines
pub begins-none : {L : Type 0} (reads : List ℕ → L → Type 0) → (text : List ℕ) (m : L) (ls : List L) (rest : List ℕ) → BeginsWithNone reads text → Begins reads text (m ∷ ls) rest → ⊥
begins-none reads text m ls rest none (line, more, b, r, next) = none line more m b r

-- no line begins behind the end
pub none-beyond : (text : List ℕ) (at : ℕ) (line rest : List ℕ) → length text < at → BeginsWith (drop at text) line rest → ⊥
none-beyond text at line rest beyond b =
    let size : length (drop at text) ≡ length (line ++ 10 ∷ rest) = ap length b.text_is in
    let left : length (drop at text) ≡ length text - at = length-drop at text in
    let more : length (line ++ 10 ∷ rest) ≡ length line + length (10 ∷ rest) = length-append line (10 ∷ rest) in
    omega (arith, beyond, size, left, more)

no-ten : (line rest : List ℕ) → AllByRecursion (λ (n : ℕ). n ≢ 10) (line ++ 10 ∷ rest) → ⊥
no-ten [] rest h = h.0 refl
no-ten (n ∷ line) rest h = no-ten line rest h.1

-- nor where no LF is
pub none-open : (bytes line rest : List ℕ) → HasNoLf bytes → BeginsWith bytes line rest → ⊥
none-open bytes line rest none b = no-ten line rest (recursion_from_All (λ (n : ℕ). n ≢ 10) (line ++ 10 ∷ rest) (subst HasNoLf b.text_is none))

-- the line up to the first LF
pub line-there : (text bytes : List ℕ) (at n : ℕ) → bytes ≡ drop at text → HasNoLf (take n bytes) → bytes ≡ take n bytes ++ 10 ∷ drop (n + 1) bytes → n < length bytes
    → BeginsWith (drop at text) (take n bytes) (drop (at + length (take n bytes) + 1) text) × (at + length (take n bytes) + 1 ≤ length text)
line-there text bytes at n is none split inside =
    let size : length (take n bytes) ≡ n = length-take n bytes ∙ omega (arith, inside) in
    let left : length bytes ≡ length text - at = ap length is ∙ length-drop at text in
    let further : at + length (take n bytes) + 1 ≡ at + (n + 1) = omega (arith, size) in
    let behind : drop (n + 1) bytes ≡ drop (at + (n + 1)) text = ap (drop (n + 1)) is ∙ drop-drop (n + 1) at text in
    let rest : drop (n + 1) bytes ≡ drop (at + length (take n bytes) + 1) text = behind ∙ ap (λ (m : ℕ). drop m text) (sym further) in
    (record { is_line = none; text_is = sym is ∙ (split ∙ ap (λ (r : List ℕ). take n bytes ++ 10 ∷ r) rest) }, omega (arith, size, left, inside))

-- where the first line is read as nothing
pub none-read : {L : Type 0} (reads : List ℕ → L → Type 0) (text : List ℕ) (at : ℕ) (first rest : List ℕ) → BeginsWith (drop at text) first rest → ((l : L) → reads first l → ⊥) → BeginsWithNone reads (drop at text)
none-read reads text at first rest b none line more l other r =
    none l (subst (λ (w : List ℕ). reads w l) (sym (one-line (drop at text) first line rest more b other).0) r)

-- a line stands there that is read as this
pub stands-there : {L : Type 0} (reads : List ℕ → L → Type 0) (text : List ℕ) (at : ℕ) (line : List ℕ) (l : L) → BeginsWith (drop at text) line (drop (at + length line + 1) text) → at + length line + 1 ≤ length text → reads line l → StandsAt reads text at l (at + length line + 1)
stands-there reads text at line l b within r = record { line = line; begins = b; read = r; further = omega arith; within = within }

-- what has a fault of its own is no line
pub unread : (f : CertLineFault) (r : Reading) (l : CertLine) → Fails f r → (f ≡ fault.NoMemory → ⊥) → r ≡ Ok l → ⊥
unread fault.Header r l h m e = cc
unread fault.Form r l h m e = cc
unread fault.Operator r l h m e = cc
unread fault.Rule r l h m e = cc
unread fault.Literal r l h m e = cc
unread fault.NoMemory r l h m e = m refl

take-whole : (xs : List ℕ) (n : ℕ) → length xs ≤ n → take n xs ≡ xs
take-whole [] zero h = refl
take-whole [] (suc n) h = refl
take-whole (x ∷ xs) zero h = absurd (omega (arith, h))
take-whole (x ∷ xs) (suc n) h = ap (λ (rest : List ℕ). x ∷ rest) (take-whole xs n (omega (arith, h)))

-- the rest of a text as a slice of it
pub slice-rest : (text : List ℕ) (at : ℕ) → take (length text - at) (drop at text) ≡ drop at text
slice-rest text at = take-whole (drop at text) (length text - at) (omega (arith, length-drop at text))
