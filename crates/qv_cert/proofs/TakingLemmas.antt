-- How a reader takes a line, step by step.
use Rattle.std.proofs.Common.{◌≡◌, ℕ, ◌≤◌, Bool, true, false, List, [], ◌∷◌, ◌++◌, length, Option, Some, None, refl, sym, ap, subst, ◌∙◌, inl, inr, arith, append_assoc}
use Rattle.std.specs.Prelude.{option_map, IfSome}
use Rattle.std.proofs.lemmas.List.{append-nil}
use Rattle.std.proofs.lemmas.List.Elements.{All-nil, All-append}
use Rattle.std.proofs.lemmas.Bool.{cases_eq}
use Rattle.qv_io.specs.Count.{Rose, last_count}
use Rattle.qv_io.specs.Source.{IsAtEnd}
use Rattle.qv_cert.specs.declared.answers.Stop.{Stop}
use Rattle.qv_cert.specs.declared.answers.Stop.TheVariants as stop
use Rattle.qv_cert.specs.TextLaws.{HasNoLf}
use Rattle.qv_cert.specs.CertReader.{piece_size, Filled, no_call, one_more, GoesOver, AsksAgain}
use Rattle.qv_cert.specs.Took.{Took}
use Rattle.qv_cert.specs.Taking.{TakesToLf, TakesPiece, NoPiece, end_stop, AreOpen, TookAny, NoLine, TellsLine, OnEnd, TakesLast}
use Rattle.qv_cert.proofs.Took.{took_none, took_piece, took_as}

-- a line has begun, in which no LF stands, and the buffer has what comes behind it
pub record Held {S : Type 0} (call : S → ℕ → Option (List ℕ) → S → Type 0) (left : S → Option (List ℕ)) (rest : List ℕ) (taken : ℕ) (source : S) (line buffer : List ℕ) (taken' : ℕ) (later : S) : Type 0 where
  pub no_line : HasNoLf line
  pub filled : Filled call rest taken source (line ++ buffer) taken' later
  pub told : option_map (λ b. rest ++ b) (left source) ≡ option_map (λ b. (line ++ buffer) ++ b) (left later)
  pub took : Took call left rest taken source (line ++ buffer) taken' later

pub held_start : (S : Type 0) (call : S → ℕ → Option (List ℕ) → S → Type 0) (left : S → Option (List ℕ)) (rest : List ℕ) (taken : ℕ) (source : S) → Held call left rest taken source [] rest taken source
held_start S call left rest taken source = record {
  no_line = All-nil (λ b. b ≡ 10 → ⊥);
  filled = no_call;
  told = refl;
  took = took_none call left rest taken source;
}

pub held_found : (S : Type 0) (call : S → ℕ → Option (List ℕ) → S → Type 0) (left : S → Option (List ℕ)) (rest : List ℕ) (taken : ℕ) (source : S) (line buffer line' buffer' : List ℕ) (taken' : ℕ) (later : S)
    → Held call left rest taken source line buffer taken' later → TakesToLf true line buffer line' buffer'
    → GoesOver call rest taken source line' buffer' taken' later × TellsLine (left source) rest line' (left later) buffer' × Took call left rest taken source (line' ++ 10 ∷ buffer') taken' later
held_found S call left rest taken source line buffer line' buffer' taken' later h t =
    let whole : line ++ buffer ≡ line' ++ 10 ∷ buffer' =
    ap (λ (xs : List ℕ). line ++ xs) t.2 ∙ sym (append_assoc line t.0 (10 ∷ buffer')) ∙ ap (λ (xs : List ℕ). xs ++ 10 ∷ buffer') (sym t.1) in (
      record {
        filled = subst (λ (xs : List ℕ). Filled call rest taken source xs taken' later) whole h.filled;
        is_line = subst (λ (xs : List ℕ). HasNoLf xs) (sym t.1) (All-append (λ b. b ≡ 10 → ⊥) line t.0 h.no_line t.3);
      },
      h.told ∙ behind (left later) whole,
      took_as call left rest taken source (line ++ buffer) (line' ++ 10 ∷ buffer') taken' later whole h.took,
    )
  where
    behind : (o : Option (List ℕ)) → line ++ buffer ≡ line' ++ 10 ∷ buffer' → option_map (λ b. (line ++ buffer) ++ b) o ≡ option_map (λ b. line' ++ 10 ∷ (buffer' ++ b)) o
    behind None e = refl
    behind (Some b) e = ap (λ (xs : List ℕ). Some (xs ++ b)) e ∙ ap (λ (xs : List ℕ). Some xs) (append_assoc line' (10 ∷ buffer') b)

-- the whole buffer went behind the line
all_taken : (S : Type 0) (call : S → ℕ → Option (List ℕ) → S → Type 0) (left : S → Option (List ℕ)) (rest : List ℕ) (taken : ℕ) (source : S) (line buffer line' buffer' : List ℕ) (taken' : ℕ) (later : S)
    → Held call left rest taken source line buffer taken' later → TakesToLf false line buffer line' buffer'
    → HasNoLf line' × Filled call rest taken source line' taken' later × (option_map (λ b. rest ++ b) (left source) ≡ option_map (λ b. line' ++ b) (left later)) × Took call left rest taken source line' taken' later
all_taken S call left rest taken source line buffer line' buffer' taken' later h t = (
  subst (λ (xs : List ℕ). HasNoLf xs) (sym t.0) (All-append (λ b. b ≡ 10 → ⊥) line buffer h.no_line t.2),
  subst (λ (xs : List ℕ). Filled call rest taken source xs taken' later) (sym t.0) h.filled,
  h.told ∙ ap (λ (xs : List ℕ). option_map (λ b. xs ++ b) (left later)) (sym t.0),
  took_as call left rest taken source (line ++ buffer) line' taken' later (sym t.0) h.took,
)

pub held_more : (S : Type 0) (call : S → ℕ → Option (List ℕ) → S → Type 0) (left : S → Option (List ℕ)) (rest : List ℕ) (taken : ℕ) (source : S) (line buffer line' buffer' : List ℕ) (taken' : ℕ) (later : S) (more : Bool) (piece : List ℕ) (taken2 : ℕ) (later2 : S)
    → Held call left rest taken source line buffer taken' later → TakesToLf false line buffer line' buffer' → TakesPiece call left more taken' later piece taken2 later2
    → Held call left rest taken source line' piece taken2 later2
held_more S call left rest taken source line buffer line' buffer' taken' later more piece taken2 later2 h t p =
    let a = all_taken S call left rest taken source line buffer line' buffer' taken' later h t in
    record {
      no_line = a.0;
      filled = subst (λ (n : ℕ). Filled call rest taken source (line' ++ piece) n later2) (sym p.counted) (one_more line' taken' later piece later2 a.1 a.0 p.below p.called);
      told = a.2 ∙ ap (λ (o : Option (List ℕ)). option_map (λ b. line' ++ b) o) p.told ∙ joined (left later2);
      took = took_piece call left rest taken source line' taken' later more piece taken2 later2 a.3 p;
    }
  where
    joined : (o : Option (List ℕ)) → option_map (λ b. line' ++ b) (option_map (λ b. piece ++ b) o) ≡ option_map (λ b. (line' ++ piece) ++ b) o
    joined None = refl
    joined (Some b) = ap (λ (xs : List ℕ). Some xs) (sym (append_assoc line' piece b))

-- told bytes of which none is left
none_left : (rest line' : List ℕ) (before o : Option (List ℕ)) → option_map (λ b. rest ++ b) before ≡ option_map (λ b. line' ++ b) o → IsAtEnd o → IfSome before (λ b. rest ++ b ≡ line')
none_left rest line' None o e h = tt
none_left rest line' (Some b) None e h = absurd cc
none_left rest line' (Some b) (Some c) e h =
    let same : rest ++ b ≡ line' ++ c = cc in
    same ∙ ap (λ (xs : List ℕ). line' ++ xs) h ∙ append-nil line'

pub held_end : (S : Type 0) (call : S → ℕ → Option (List ℕ) → S → Type 0) (left : S → Option (List ℕ)) (rose : Type 0) (rest : List ℕ) (taken : ℕ) (source : S) (line buffer line' buffer' : List ℕ) (taken' : ℕ) (later : S) (piece : List ℕ) (taken2 : ℕ) (later2 : S)
    → Held call left rest taken source line buffer taken' later → TakesToLf false line buffer line' buffer' → TakesPiece call left false taken' later piece taken2 later2
    → NoLine call left rose rest taken source (end_stop line') taken2 later2
held_end S call left rose rest taken source line buffer line' buffer' taken' later piece taken2 later2 h t p =
    let a = all_taken S call left rest taken source line buffer line' buffer' taken' later h t in
    let n = p.none refl in
    let called : call later piece_size (Some []) later2 = subst (λ (xs : List ℕ). call later piece_size (Some xs) later2) n.0 p.called in
    go line' a.0 (record { now = later; so_far = taken'; filled = a.1; no_line = a.0; below = p.below; called = called }) (none_left rest line' (left source) (left later) a.2 n.1)
    (line' ++ piece, took_piece call left rest taken source line' taken' later false piece taken2 later2 a.3 p)
  where
    opened : (first : ℕ) (others : List ℕ) (o : Option (List ℕ)) → HasNoLf (first ∷ others) → IfSome o (λ b. rest ++ b ≡ first ∷ others) → AreOpen o rest
    opened first others None none e = tt
    opened first others (Some b) none e = (subst (λ (xs : List ℕ). HasNoLf xs) (sym e) none, omega (arith, ap length e))

    go : (held : List ℕ) → HasNoLf held → AsksAgain call rest taken source held (Some []) later2 → IfSome (left source) (λ b. rest ++ b ≡ held) → TookAny call left rest taken source taken2 later2
        → NoLine call left rose rest taken source (end_stop held) taken2 later2
    go [] none asks e took = (asks, e, took)
    go (first ∷ others) none asks e took = (refl, (first, others, asks), opened first others (left source) none e, took)

pub held_stop : (S : Type 0) (call : S → ℕ → Option (List ℕ) → S → Type 0) (left : S → Option (List ℕ)) (rose risen : Type 0) (rest : List ℕ) (taken : ℕ) (source : S) (line buffer line' buffer' : List ℕ) (taken' : ℕ) (later : S) (why : Stop) (taken2 : ℕ) (later2 : S)
    → (rose → risen) → Held call left rest taken source line buffer taken' later → TakesToLf false line buffer line' buffer' → NoPiece call rose taken' later why taken2 later2
    → NoLine call left risen rest taken source why taken2 later2
held_stop S call left rose risen rest taken source line buffer line' buffer' taken' later stop.End taken2 later2 rises h t n = absurd n
held_stop S call left rose risen rest taken source line buffer line' buffer' taken' later (stop.Fault k) taken2 later2 rises h t n = absurd n
held_stop S call left rose risen rest taken source line buffer line' buffer' taken' later stop.NoMemory taken2 later2 rises h t n =
    let a = all_taken S call left rest taken source line buffer line' buffer' taken' later h t in
    inr (line', n.1.0, record { now = later; so_far = taken'; filled = a.1; no_line = a.0; below = n.0; called = n.1.1 })
held_stop S call left rose risen rest taken source line buffer line' buffer' taken' later stop.ReadFault taken2 later2 rises h t n =
    let a = all_taken S call left rest taken source line buffer line' buffer' taken' later h t in
    let there : Took call left rest taken source line' taken2 later = subst (λ (k : ℕ). Took call left rest taken source line' k later) (sym n.3) a.3 in
    (rises n.0, (line', record { now = later; so_far = taken'; filled = a.1; no_line = a.0; below = n.1; called = n.2 }), (later, (line', there), n.2))
held_stop S call left rose risen rest taken source line buffer line' buffer' taken' later stop.ReadLimit taken2 later2 rises h t n =
    let a = all_taken S call left rest taken source line buffer line' buffer' taken' later h t in
    let there : Filled call rest taken source line' taken2 later =
    subst (λ (k : ℕ). Filled call rest taken source line' k later) (sym n.1) a.1 in
    let took : Took call left rest taken source line' taken2 later = subst (λ (k : ℕ). Took call left rest taken source line' k later) (sym n.1) a.3 in (
      record {
        buffer = line';
        filled = subst (λ (s : S). Filled call rest taken source line' taken2 s) (sym n.2) there;
        no_line = a.0;
        limit = omega (arith, n.0, n.1);
      },
      (line', subst (λ (s : S). Took call left rest taken source line' taken2 s) (sym n.2) took),
    )

-- a count that rose from later on rose from here on
pub rose_earlier : (old mid new : ℕ) → old ≤ mid → mid ≤ new → Rose mid new → Rose old new
rose_earlier old mid new low high (inl less) = inl (omega arith)
rose_earlier old mid new low high (inr last) =
    elim (cases_eq old last_count) [
      | inl same ↦ inr same
      | inr other ↦ inl (omega (arith, other))
    ]

-- ---- the end of the bytes

on_end : (line : List ℕ) (P : Type 0) → P → OnEnd (end_stop line) P
on_end [] P h = h
on_end (byte ∷ bytes) P h = h

-- a piece that wasn't taken ends no bytes
pub not_end : (S : Type 0) (call : S → ℕ → Option (List ℕ) → S → Type 0) (rose P : Type 0) (taken : ℕ) (source : S) (why : Stop) (taken' : ℕ) (later : S) → NoPiece call rose taken source why taken' later → OnEnd why P
not_end S call rose P taken source stop.End taken' later n = absurd n
not_end S call rose P taken source (stop.Fault k) taken' later n = absurd n
not_end S call rose P taken source stop.ReadFault taken' later n = tt
not_end S call rose P taken source stop.ReadLimit taken' later n = tt
not_end S call rose P taken source stop.NoMemory taken' later n = tt

-- behind a call that gave nothing at the end of the bytes
still_at_end : (a b : Option (List ℕ)) (piece : List ℕ) → piece ≡ [] → a ≡ option_map (λ bytes. piece ++ bytes) b → IsAtEnd a → IsAtEnd b
still_at_end a None piece none e h = tt
still_at_end None (Some c) piece none e h = absurd cc
still_at_end (Some b) (Some c) piece none e h =
    let same : b ≡ piece ++ c = cc in
    sym (ap (λ (xs : List ℕ). xs ++ c) none) ∙ sym same ∙ h

pub held_last : (S : Type 0) (call : S → ℕ → Option (List ℕ) → S → Type 0) (left : S → Option (List ℕ)) (rest : List ℕ) (taken : ℕ) (source : S) (line buffer line' buffer' : List ℕ) (taken' : ℕ) (later : S) (piece : List ℕ) (taken2 : ℕ) (later2 : S)
    → Held call left rest taken source line buffer taken' later → TakesToLf false line buffer line' buffer' → TakesPiece call left false taken' later piece taken2 later2
    → OnEnd (end_stop line') (TakesLast call left rest taken source (end_stop line') line' piece taken2 later2)
held_last S call left rest taken source line buffer line' buffer' taken' later piece taken2 later2 h t p =
    let a = all_taken S call left rest taken source line buffer line' buffer' taken' later h t in
    let n = p.none refl in
    let all : line' ++ piece ≡ line' = ap (λ (xs : List ℕ). line' ++ xs) n.0 ∙ append-nil line' in
    on_end line' (TakesLast call left rest taken source (end_stop line') line' piece taken2 later2)
    (record {
      why_is = refl;
      empty = n.0;
      took = took_as call left rest taken source (line' ++ piece) line' taken2 later2 all (took_piece call left rest taken source line' taken' later false piece taken2 later2 a.3 p);
      last = none_left rest line' (left source) (left later) a.2 n.1;
      none_left = still_at_end (left later) (left later2) piece n.0 p.told n.1;
    })
