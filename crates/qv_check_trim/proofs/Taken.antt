-- What was taken of a source, piece by piece.
use Rattle.std.proofs.Common.{◌≡◌, ◌∙◌, ℕ, ◌≤◌, ◌<◌, Bool, false, Option, Some, None, option_map, List, [], ◌∷◌, ◌++◌, length, refl, sym, ap, subst, append_assoc, arith}
use Rattle.std.specs.Prelude.{IfSome}
use Rattle.std.proofs.lemmas.List.{append-nil, length-append}
use Rattle.qv_io.specs.Source.{Gives, IsAtEnd}
use Rattle.qv_sexpr.specs.Causes.{no_call, one_more}
use Rattle.qv_sexpr.specs.Limits.{read_limit}
use Rattle.qv_check_defs.specs.Limits.{MetLimit}
use Rattle.qv_check_trim.specs.Taking.{TakesPiece, TookBytes}

gives-nothing : (left : Option (List ℕ)) → Gives left left []
gives-nothing None = refl
gives-nothing (Some bytes) = refl

gives-on : (a b c : Option (List ℕ)) (first second : List ℕ) → Gives a b first → Gives b c second → Gives a c (first ++ second)
gives-on a b None first second g h = g ∙ ap (λ (o : Option (List ℕ)). option_map (λ rest. first ++ rest) o) h
gives-on a b (Some rest) first second g h =
    g ∙ (ap (λ (o : Option (List ℕ)). option_map (λ rest. first ++ rest) o) h ∙ ap (λ (bytes : List ℕ). Some bytes) (sym (append_assoc first second rest)))

-- nothing is left behind a piece that the source gave at its end
gives-last : (a b c : Option (List ℕ)) (first second : List ℕ) → Gives a b first → Gives b c second → IsAtEnd b → IfSome a (λ told. first ++ second ≡ told)
gives-last None b c first second g h end = tt
gives-last (Some told) None c first second g h end = absurd cc
gives-last (Some told) (Some bytes) None first second g h end = absurd cc
gives-last (Some told) (Some bytes) (Some rest) first second g h end =
    let here : told ≡ first ++ bytes = cc in
    let there : bytes ≡ second ++ rest = cc in
    let none : length bytes ≡ 0 = ap (λ (xs : List ℕ). length xs) end in
    let short : length second ≡ 0 = omega (arith, none, ap (λ (xs : List ℕ). length xs) there, length-append second rest) in
    let empty : second ≡ [] = no-length second short in
    ap (λ (xs : List ℕ). first ++ xs) (empty ∙ sym end) ∙ sym here
  where
    no-length : (xs : List ℕ) → length xs ≡ 0 → xs ≡ []
    no-length [] e = refl
    no-length (x ∷ xs) e = absurd (omega (arith, e))

gives-long : (a b : Option (List ℕ)) (bytes : List ℕ) → Gives a b bytes → (n : ℕ) → n ≤ length bytes → IfSome a (λ text. n ≤ length text)
gives-long None b bytes g n h = tt
gives-long (Some text) None bytes g n h = absurd cc
gives-long (Some text) (Some rest) bytes g n h =
    let is : text ≡ bytes ++ rest = cc in
    omega (arith, h, ap (λ (xs : List ℕ). length xs) is, length-append bytes rest)

module _ {S : Type 0} (call : S → ℕ → Option (List ℕ) → S → Type 0) (left : S → Option (List ℕ)) (source : S) where
  pub took-nothing : TookBytes call left source [] source
  took-nothing = record { gave = no_call; gives = gives-nothing (left source) }

  pub took-more : (more : Bool) (bytes new : List ℕ) (now later : S) → TookBytes call left source bytes now → TakesPiece call left more bytes now new later → TookBytes call left source new later
  took-more more bytes new now later t p =
      subst (λ (all : List ℕ). TookBytes call left source all later) (sym p.bytes_are)
      (record {
        gave = one_more bytes now p.piece later t.gave p.called;
        gives = gives-on (left source) (left now) (left later) bytes p.piece t.gives p.gives;
      })

  pub took-all : (bytes new : List ℕ) (now later : S) → TookBytes call left source bytes now → TakesPiece call left false bytes now new later → IfSome (left source) (λ told. new ≡ told)
  took-all bytes new now later t p =
      subst (λ (all : List ℕ). IfSome (left source) (λ told. all ≡ told)) (sym p.bytes_are)
      (gives-last (left source) (left now) (left later) bytes p.piece t.gives p.gives (p.end refl))

  pub took-short : (bytes new : List ℕ) (now later : S) → TakesPiece call left false bytes now new later → length bytes < read_limit → length new < read_limit
  took-short bytes new now later p h =
      let same : new ≡ bytes = p.bytes_are ∙ (ap (λ (piece : List ℕ). bytes ++ piece) (p.none refl) ∙ append-nil bytes) in
      subst (λ (all : List ℕ). length all < read_limit) (sym same) h

  pub took-limit : (bytes : List ℕ) (later : S) → TookBytes call left source bytes later → read_limit ≤ length bytes → MetLimit call (left source) source later
  took-limit bytes later t h = record { taken = bytes; gave = t.gave; limit = h; told = gives-long (left source) (left later) bytes t.gives read_limit h }
