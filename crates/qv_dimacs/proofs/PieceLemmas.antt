-- A text is read piece by piece.
use Rattle.std.proofs.Common.{◌≡◌, ℕ, ◌+◌, ◌<◌, ◌≤◌, List, [], ◌∷◌, ◌++◌, length, take, Option, Some, None, refl, sym, ap, subst, ◌∙◌, inl, inr, arith, append_assoc}
use Rattle.std.specs.Prelude.{option_map, IfSome, Result, Ok, Err, OnOk}
use Rattle.std.proofs.lemmas.List.{append-nil, length-append}
use Rattle.std.proofs.lemmas.Bool.{cases_eq}
use Rattle.qv_io.specs.Count.{Rose, last_count}
use Rattle.qv_io.specs.Source.{Gives, IsAtEnd}
use Rattle.qv_dimacs.specs.declared.faults.DimacsFault.TheVariants.{At, ReadFault, ReadLimit, NoMemory}
use Rattle.qv_dimacs.specs.declared.faults.Halt.{Halt}
use Rattle.qv_dimacs.specs.declared.faults.Halt.TheVariants.{Done, Fault}
use Rattle.qv_dimacs.specs.Clauses.{Said, Clauses, Faulty, dimacs_of}
use Rattle.qv_dimacs.specs.Machine.{State, Goes, step, run, finish, start_state}
use Rattle.qv_dimacs.specs.Reading.{Gave, gave_none, gave_more, piece_size, read_limit, TextSays}
use Rattle.qv_dimacs.specs.Taking.{GivesPiece, GoesOn, Decides, HaltsPiece, TakesPiece, HaltsText}
use Rattle.qv_dimacs.specs.View.{Halts, HaltsAt, TakesAll}
use Rattle.qv_dimacs.proofs.Running.{reads}

pub rose_earlier : (old mid new : ℕ) → old ≤ mid → mid ≤ new → Rose mid new → Rose old new
rose_earlier old mid new low high (inl less) = inl (omega arith)
rose_earlier old mid new low high (inr last) =
    elim (cases_eq old last_count) [
      | inl same ↦ inr same
      | inr other ↦ inl (omega (arith, other))
    ]

gives-on : (a b c : Option (List ℕ)) (xs ys : List ℕ) → Gives a b xs → Gives b c ys → Gives a c (xs ++ ys)
gives-on a b None xs ys h k = h ∙ ap (λ (o : Option (List ℕ)). option_map (λ rest. xs ++ rest) o) k
gives-on a b (Some left) xs ys h k =
    h ∙ ap (λ (o : Option (List ℕ)). option_map (λ rest. xs ++ rest) o) k ∙ ap (λ (zs : List ℕ). Some zs) (sym (append_assoc xs ys left))

gives-none : (a : Option (List ℕ)) → Gives a a []
gives-none None = refl
gives-none (Some bytes) = refl

-- calls gave bytes, and all of them were read
pub record Reached {S : Type 0} (call : S → ℕ → Option (List ℕ) → S → Type 0) (left : S → Option (List ℕ)) (source : S) (s : State) (now : S) : Type 0 where
  pub bytes : List ℕ
  pub gave : Gave call source bytes now
  pub told : Gives (left source) (left now) bytes
  pub so_far : (text : List ℕ) → dimacs_of (bytes ++ text) ≡ run s text
  pub place_is : s.place ≡ length bytes

pub reached_start : (S : Type 0) (call : S → ℕ → Option (List ℕ) → S → Type 0) (left : S → Option (List ℕ)) (source : S) (s : State) → s ≡ start_state → Reached call left source s source
reached_start S call left source s is = record {
  bytes = [];
  gave = gave_none;
  told = gives-none (left source);
  so_far = λ text. sym (ap (λ (t : State). run t text) is ∙ reads text);
  place_is = ap (λ (t : State). t.place) is;
}

pub reached_more : (S : Type 0) (call : S → ℕ → Option (List ℕ) → S → Type 0) (left : S → Option (List ℕ)) (source : S) (s : State) (now : S) (t : State) (later : S)
    → Reached call left source s now → GoesOn call left s now t later → Reached call left source t later
reached_more S call left source s now t later h g = record {
  bytes = h.bytes ++ g.bytes;
  gave = gave_more h.bytes now g.bytes later h.gave g.gives.called;
  told = gives-on (left source) (left now) (left later) h.bytes g.bytes h.told g.gives.told;
  so_far = λ text. ap dimacs_of (append_assoc h.bytes g.bytes text) ∙ h.so_far (g.bytes ++ text) ∙ g.reads text;
  place_is = omega (arith, h.place_is, g.counted, length-append h.bytes g.bytes);
}

-- ---- where the text is at its end, or more of it isn't wanted

told_end : (a b : Option (List ℕ)) (bytes : List ℕ) (said : Said) → Gives a b bytes → IsAtEnd b → dimacs_of (bytes ++ []) ≡ said → IfSome a (λ text. dimacs_of text ≡ said)
told_end a None bytes said h end is = rw h tt
told_end a (Some rest) bytes said h end is = rw (h, end) is

told_stop : (a b : Option (List ℕ)) (bytes : List ℕ) (said : Said) → Gives a b bytes → ((text : List ℕ) → dimacs_of (bytes ++ text) ≡ said) → IfSome a (λ text. dimacs_of text ≡ said)
told_stop a None bytes said h is = rw h tt
told_stop a (Some rest) bytes said h is = rw h (is rest)

told_limit : (a b : Option (List ℕ)) (bytes : List ℕ) → Gives a b bytes → read_limit ≤ length bytes → IfSome a (λ text. read_limit ≤ length text)
told_limit a None bytes h limit = rw h tt
told_limit a (Some rest) bytes h limit = rw (h, length-append) (omega (arith, limit))

pub reached_end : (S : Type 0) (call : S → ℕ → Option (List ℕ) → S → Type 0) (left : S → Option (List ℕ)) (source : S) (s : State) (now : S) (said : Said) (later : S)
    → Reached call left source s now → Decides call left s now said later → TextSays call left source said later
reached_end S call left source s now said later h (inl e) =
    let is : dimacs_of (h.bytes ++ []) ≡ said = h.so_far [] ∙ e.reads in
    record {
      told = told_end (left source) (left now) h.bytes said h.told e.end is;
      gave = (h.bytes, inl ((now, h.gave, e.gives.called), ap dimacs_of (sym (append-nil h.bytes)) ∙ is));
    }
reached_end S call left source s now said later h (inr e) =
    let is : (text : List ℕ) → dimacs_of ((h.bytes ++ e.bytes) ++ text) ≡ said = λ text. ap dimacs_of (append_assoc h.bytes e.bytes text) ∙ h.so_far (e.bytes ++ text) ∙ e.reads text in
    record {
      told = told_stop (left source) (left later) (h.bytes ++ e.bytes) said (gives-on (left source) (left now) (left later) h.bytes e.bytes h.told e.gives.told) is;
      gave = (h.bytes ++ e.bytes, inr (gave_more h.bytes now e.bytes later h.gave e.gives.called, is));
    }

pub reached_halt : (S : Type 0) (call : S → ℕ → Option (List ℕ) → S → Type 0) (left : S → Option (List ℕ)) (rose rose' : Type 0) (source : S) (s : State) (now : S) (halt : Halt) (t : State) (later : S)
    → (rose → rose') → Reached call left source s now → HaltsPiece call left rose s now halt t later → HaltsText call left rose' source halt t later
reached_halt S call left rose rose' source s now Done t later on h p = reached_end S call left source s now (Clauses t.done) later h p
reached_halt S call left rose rose' source s now (Fault (At place kind)) t later on h p = reached_end S call left source s now (Faulty place kind) later h p
reached_halt S call left rose rose' source s now (Fault ReadFault) t later on h p =
    (on p.0, record { bytes = h.bytes; now = now; gave = h.gave; below = omega (arith, p.1, h.place_is); called = p.2 })
reached_halt S call left rose rose' source s now (Fault ReadLimit) t later on h p =
    let limit : read_limit ≤ length h.bytes = omega (arith, p.0, h.place_is) in
    record {
      bytes = h.bytes;
      gave = subst (λ (x : S). Gave call source h.bytes x) (sym p.1) h.gave;
      limit = limit;
      told = told_limit (left source) (left now) h.bytes h.told limit;
    }
reached_halt S call left rose rose' source s now (Fault NoMemory) t later on h p = tt

-- ---- one piece

none : (n : ℕ) (bytes : List ℕ) → n ≡ 0 → take n bytes ≡ []
none n [] is = rw is refl
none n (b ∷ bytes) is = rw is refl

-- a call that gave no byte
pub gives_none_of : (S : Type 0) (call : S → ℕ → Option (List ℕ) → S → Type 0) (left : S → Option (List ℕ)) (source later : S) (n : ℕ) (bytes : List ℕ) → n ≡ 0
    → call source piece_size (Some (take n bytes)) later → Gives (left source) (left later) (take n bytes) → GivesPiece call left source [] later
gives_none_of S call left source later n bytes is called told = record {
  called = subst (λ (xs : List ℕ). call source piece_size (Some xs) later) (none n bytes is) called;
  told = subst (λ (xs : List ℕ). Gives (left source) (left later) xs) (none n bytes is) told;
}

-- the source gave none
pub piece_ends : (S : Type 0) (call : S → ℕ → Option (List ℕ) → S → Type 0) (left : S → Option (List ℕ)) (rose : Type 0) (s : State) (now : S) (halt : Halt) (t : State) (later : S)
    → GivesPiece call left now [] later → IsAtEnd (left now) → Halts halt t (finish s) → HaltsPiece call left rose s now halt t later
unfolding run
piece_ends S call left rose s now Done t later g end h = inl (record { gives = g; end = end; reads = h })
piece_ends S call left rose s now (Fault (At place kind)) t later g end h = inl (record { gives = g; end = end; reads = h })
piece_ends S call left rose s now (Fault ReadFault) t later g end h = absurd h
piece_ends S call left rose s now (Fault ReadLimit) t later g end h = absurd h
piece_ends S call left rose s now (Fault NoMemory) t later g end h = tt

pub text_ends : (S : Type 0) (call : S → ℕ → Option (List ℕ) → S → Type 0) (left : S → Option (List ℕ)) (s : State) (now : S) (t : State) (later : S)
    → GivesPiece call left now [] later → IsAtEnd (left now) → finish s ≡ Clauses t.done → Decides call left s now (Clauses t.done) later
unfolding run
text_ends S call left s now t later g end h = inl (record { gives = g; end = end; reads = h })

-- and here it gave some
halts_piece : (S : Type 0) (call : S → ℕ → Option (List ℕ) → S → Type 0) (left : S → Option (List ℕ)) (rose : Type 0) (s : State) (now : S) (bytes : List ℕ) (halt : Halt) (t : State) (later : S)
    → GivesPiece call left now bytes later → ((text : List ℕ) → Halts halt t (run s (bytes ++ text))) → HaltsPiece call left rose s now halt t later
halts_piece S call left rose s now bytes Done t later g h = inr (record { bytes = bytes; gives = g; reads = h })
halts_piece S call left rose s now bytes (Fault (At place kind)) t later g h = inr (record { bytes = bytes; gives = g; reads = h })
halts_piece S call left rose s now bytes (Fault ReadFault) t later g h = absurd (h [])
halts_piece S call left rose s now bytes (Fault ReadLimit) t later g h = absurd (h [])
halts_piece S call left rose s now bytes (Fault NoMemory) t later g h = tt

pub piece_takes : (S : Type 0) (call : S → ℕ → Option (List ℕ) → S → Type 0) (left : S → Option (List ℕ)) (rose : Type 0) (s : State) (now : S) (bytes : List ℕ) (result : Result Unit Halt) (t : State) (later : S)
    → GivesPiece call left now bytes later → 0 < length bytes → s.place < read_limit → TakesAll s bytes result t → OnOk result (t.place ≡ s.place + length bytes) → TakesPiece call left rose s now result t later
piece_takes S call left rose s now bytes (Ok done) t later g some below h counted = record { bytes = bytes; gives = g; some = some; below = below; counted = counted; reads = h }
piece_takes S call left rose s now bytes (Err halt) t later g some below h counted = halts_piece S call left rose s now bytes halt t later g h

-- ---- one byte of a piece

-- a step is the byte's, whatever comes
pub steps_halt : (s t : State) (halt : Halt) (byte : ℕ) (piece text : List ℕ) → HaltsAt halt t (step s byte) → Halts halt t (run s (byte ∷ piece ++ text))
unfolding run
steps_halt s t Done byte piece text h = rw h refl
steps_halt s t (Fault (At place kind)) byte piece text h = rw h refl
steps_halt s t (Fault ReadFault) byte piece text h = absurd h
steps_halt s t (Fault ReadLimit) byte piece text h = absurd h
steps_halt s t (Fault NoMemory) byte piece text h = tt

pub steps_on : (s t : State) (byte : ℕ) (text : List ℕ) → step s byte ≡ Goes t → run s (byte ∷ text) ≡ run t text
unfolding run
steps_on s t byte text h = rw h refl
