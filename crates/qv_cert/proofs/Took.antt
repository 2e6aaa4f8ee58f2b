-- What a reader took of a source, one call and one line after another.
use Rattle.std.proofs.Common.{◌≡◌, ℕ, suc, Bool, List, [], ◌∷◌, ◌++◌, Option, Some, None, inl, inr, refl, sym, ap, subst, ◌∙◌, arith, append_assoc}
use Rattle.std.specs.Prelude.{option_map}
use Rattle.std.proofs.lemmas.List.{append-nil, length-append}
use Rattle.std.proofs.lemmas.List.Concat.{flat_map-append}
use Rattle.std.proofs.lemmas.List.Elements.{All-nil, All-cons, All-append}
use Rattle.qv_io.specs.Source.{Gives}
use Rattle.qv_cert.specs.declared.answers.Stop.{Stop}
use Rattle.qv_cert.specs.declared.answers.Stop.TheVariants as stop
use Rattle.qv_cert.specs.Grammar.{Reading}
use Rattle.qv_cert.specs.TextLaws.{HasNoLf, bytes_of_lines}
use Rattle.qv_cert.specs.CertReader.{Position}
use Rattle.qv_cert.specs.Took.{Gave, gave_none, gave_more, Took, TookLines, TookSome, TookNext}
use Rattle.qv_cert.specs.Taking.{TookAny, TakesPiece, TakenLine, NoNext, answer_of}

-- bytes that are told, one call after another
gives-on : (a b c : Option (List ℕ)) (xs ys : List ℕ) → Gives a b xs → Gives b c ys → Gives a c (xs ++ ys)
gives-on a b None xs ys h k = h ∙ ap (λ (o : Option (List ℕ)). option_map (λ rest. xs ++ rest) o) k
gives-on a b (Some left) xs ys h k =
    h ∙ ap (λ (o : Option (List ℕ)). option_map (λ rest. xs ++ rest) o) k ∙ ap (λ (zs : List ℕ). Some zs) (sym (append_assoc xs ys left))

gives-none : (a : Option (List ℕ)) → Gives a a []
gives-none None = refl
gives-none (Some bytes) = refl

module _ {S : Type 0} (call : S → ℕ → Option (List ℕ) → S → Type 0) (left : S → Option (List ℕ)) where
  -- calls, one after another
  gave-on : {s t u : S} {xs ys : List ℕ} → Gave call s xs t → Gave call t ys u → Gave call s (xs ++ ys) u
  gave-on {s} {t} {u} {xs} h gave_none = subst (λ (zs : List ℕ). Gave call s zs t) (sym (append-nil xs)) h
  gave-on {s} {t} {u} {xs} h (gave_more bytes now more later k c) = subst (λ (zs : List ℕ). Gave call s zs later) (append_assoc xs bytes more) (gave_more (xs ++ bytes) now more later (gave-on h k) c)

  pub took_none : (rest : List ℕ) (taken : ℕ) (source : S) → Took call left rest taken source rest taken source
  took_none rest taken source = record {
    bytes = [];
    gave = gave_none;
    counted = omega arith;
    told = gives-none (left source);
    whole_is = append-nil rest;
  }

  pub took_as : (rest : List ℕ) (taken : ℕ) (source : S) (whole whole' : List ℕ) (taken' : ℕ) (later : S) → whole ≡ whole' → Took call left rest taken source whole taken' later → Took call left rest taken source whole' taken' later
  took_as rest taken source whole whole' taken' later e h = subst (λ (xs : List ℕ). Took call left rest taken source xs taken' later) e h

  -- one call more
  pub took_piece : (rest : List ℕ) (taken : ℕ) (source : S) (whole : List ℕ) (taken' : ℕ) (later : S) (more : Bool) (piece : List ℕ) (taken2 : ℕ) (later2 : S)
      → Took call left rest taken source whole taken' later → TakesPiece call left more taken' later piece taken2 later2 → Took call left rest taken source (whole ++ piece) taken2 later2
  took_piece rest taken source whole taken' later more piece taken2 later2 h p = record {
    bytes = h.bytes ++ piece;
    gave = gave_more h.bytes later piece later2 h.gave p.called;
    counted = omega (arith, p.counted, h.counted, length-append h.bytes piece);
    told = gives-on (left source) (left later) (left later2) h.bytes piece h.told p.told;
    whole_is = sym (append_assoc rest h.bytes piece) ∙ ap (λ (xs : List ℕ). xs ++ piece) h.whole_is;
  }

  -- no line, and one
  pub no-lines : (old : Position) (source : S) (whole : List ℕ) (taken' : ℕ) (later : S) → Took call left old.rest old.taken source whole taken' later → TookLines call left old source old.given whole taken' later
  no-lines old source whole taken' later h = record { lines = []; each = All-nil HasNoLf; number_is = omega arith; took = h }

  pub one-line : (old : Position) (source : S) (number : ℕ) (text behind : List ℕ) (taken' : ℕ) (later : S) → number ≡ suc old.given → HasNoLf text → Took call left old.rest old.taken source (text ++ 10 ∷ behind) taken' later
      → TookLines call left old source number behind taken' later
  one-line old source number text behind taken' later is none h = record {
    lines = text ∷ [];
    each = All-cons HasNoLf text [] none (All-nil HasNoLf);
    number_is = omega (arith, is);
    took = took_as old.rest old.taken source (text ++ 10 ∷ behind) (((text ++ 10 ∷ []) ++ []) ++ behind) taken' later
        (sym (ap (λ (xs : List ℕ). xs ++ behind) (append-nil (text ++ 10 ∷ [])) ∙ append_assoc text (10 ∷ []) behind)) h;
  }

  -- lines behind lines
  pub lines-on : (old mid : Position) (s t u : S) (number : ℕ) (behind : List ℕ) (taken' : ℕ) → TookLines call left old s mid.given mid.rest mid.taken t → TookLines call left mid t number behind taken' u
      → TookLines call left old s number behind taken' u
  lines-on old mid s t u number behind taken' h k = record {
    lines = h.lines ++ k.lines;
    each = All-append HasNoLf h.lines k.lines h.each k.each;
    number_is = omega (arith, h.number_is, k.number_is, length-append h.lines k.lines);
    took = record {
      bytes = h.took.bytes ++ k.took.bytes;
      gave = gave-on h.took.gave k.took.gave;
      counted = omega (arith, h.took.counted, k.took.counted, length-append h.took.bytes k.took.bytes);
      told = gives-on (left s) (left t) (left u) h.took.bytes k.took.bytes h.took.told k.took.told;
      whole_is =
          sym (append_assoc old.rest h.took.bytes k.took.bytes)
          ∙ ap (λ (xs : List ℕ). xs ++ k.took.bytes) h.took.whole_is
          ∙ append_assoc (bytes_of_lines h.lines) mid.rest k.took.bytes
          ∙ ap (λ (xs : List ℕ). bytes_of_lines h.lines ++ xs) k.took.whole_is
          ∙ sym (append_assoc (bytes_of_lines h.lines) (bytes_of_lines k.lines) behind)
          ∙ ap (λ (xs : List ℕ). xs ++ behind) (sym (flat_map-append (λ line. line ++ 10 ∷ []) h.lines k.lines));
    };
  }

  -- ---- answers

  some-lines : (old : Position) (source : S) (number taken' : ℕ) (later : S) → number ≡ old.given → TookAny call left old.rest old.taken source taken' later → TookSome call left old source number taken' later
  some-lines old source number taken' later is h =
      (h.0, subst (λ n. TookLines call left old source n h.0 taken' later) (sym is) (no-lines old source h.0 taken' later h.1))

  pub took-line : (old : Position) (source : S) (inner : Bool) (reading : Reading) (new : Position) (later : S) → new.given ≡ suc old.given → TakenLine call left old.given inner old.rest old.taken source reading new.rest new.taken later
      → TookLines call left old source new.given new.rest new.taken later
  took-line old source inner reading new later is h = one-line old source new.given h.text new.rest new.taken later is h.goes.is_line h.took

  pub took-stop : (rose : Type 0) (old : Position) (source : S) (inner : Bool) (why : Stop) (number : ℕ) (new : Position) (later : S) → number ≡ suc old.given → new.given ≡ old.given
      → NoNext call left rose old.given inner old.rest old.taken source why new.rest new.taken later → TookNext call left old source (answer_of number why) new later
  took-stop rose old source inner stop.End number new later is same h = some-lines old source new.given new.taken later same h.2
  took-stop rose old source inner (stop.Fault k) number new later is same (inl h) = (
    some-lines old source new.given new.taken later same (h.text ++ 10 ∷ new.rest, h.took),
    λ other. one-line old source number h.text new.rest new.taken later is h.goes.is_line h.took,
  )
  took-stop rose old source inner (stop.Fault k) number new later is same (inr h) = (some-lines old source new.given new.taken later same h.3, λ other. absurd (other h.0))
  took-stop rose old source inner stop.ReadFault number new later is same h = (h.2.0, some-lines old source new.given new.taken h.2.0 same h.2.1, h.2.2)
  took-stop rose old source inner stop.ReadLimit number new later is same h = some-lines old source new.given new.taken later same h.1
  took-stop rose old source inner stop.NoMemory number new later is same h = tt
