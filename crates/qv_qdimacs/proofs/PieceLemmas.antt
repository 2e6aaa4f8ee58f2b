-- A text is read piece by piece.
use Rattle.std.proofs.Common.{◌≡◌, ℕ, ◌≤◌, List, [], ◌∷◌, ◌++◌, length, take, Option, Some, None, refl, sym, ap, subst, ◌∙◌, arith, append_assoc}
use Rattle.std.specs.Prelude.{option_map, IfSome}
use Rattle.std.proofs.lemmas.List.{append-nil, length-append}
use Rattle.qv_io.specs.Source.{Gives, IsAtEnd}
use Rattle.qv_dimacs.specs.Reading.{Gave, gave_none, gave_more, piece_size, read_limit}
use Rattle.qv_qdimacs.specs.declared.faults.QdimacsFault.{QdimacsFault}
use Rattle.qv_qdimacs.specs.declared.faults.QdimacsFault.TheVariants.{At, ReadFault, ReadLimit, NoMemory}
use Rattle.std.specs.Prelude.{Err}
use Rattle.qv_qdimacs.specs.Reading.{GivesText, IsUnread, GivesPiece, IsLonger, IsWhole, TakesPiece}

gives-on : (a b c : Option (List ℕ)) (xs ys : List ℕ) → Gives a b xs → Gives b c ys → Gives a c (xs ++ ys)
gives-on a b None xs ys h k = h ∙ ap (λ (o : Option (List ℕ)). option_map (λ rest. xs ++ rest) o) k
gives-on a b (Some left) xs ys h k =
    h ∙ ap (λ (o : Option (List ℕ)). option_map (λ rest. xs ++ rest) o) k ∙ ap (λ (zs : List ℕ). Some zs) (sym (append_assoc xs ys left))

gives-none : (a : Option (List ℕ)) → Gives a a []
gives-none None = refl
gives-none (Some bytes) = refl

-- calls gave a text so far
pub record Reached {S : Type 0} (call : S → ℕ → Option (List ℕ) → S → Type 0) (left : S → Option (List ℕ)) (source : S) (text : List ℕ) (now : S) : Type 0 where
  pub gave : Gave call source text now
  pub told : Gives (left source) (left now) text

module _ (S : Type 0) (call : S → ℕ → Option (List ℕ) → S → Type 0) (left : S → Option (List ℕ)) (source : S) where
  pub reached_start : (text : List ℕ) → text ≡ [] → Reached call left source text source
  reached_start text none = subst (λ (bytes : List ℕ). Reached call left source bytes source) (sym none) (record { gave = gave_none; told = gives-none (left source) })

  pub reached_more : (text : List ℕ) (now : S) (new : List ℕ) (later : S) → Reached call left source text now → IsLonger call left text now new later → Reached call left source new later
  reached_more text now new later h g = subst (λ (bytes : List ℕ). Reached call left source bytes later) (sym g.text) (record {
    gave = gave_more text now g.bytes later h.gave g.gives.called;
    told = gives-on (left source) (left now) (left later) text g.bytes h.told g.gives.told;
  })

  told-end : (a b : Option (List ℕ)) (text : List ℕ) → Gives a b text → IsAtEnd b → IfSome a (λ bytes. bytes ≡ text)
  told-end a None text h end = rw h tt
  told-end a (Some rest) text h end = rw (h, end) (append-nil text)

  pub reached_end : (text : List ℕ) (now : S) (new : List ℕ) (later : S) → Reached call left source text now → IsWhole call left text now new later → GivesText call left source new later
  reached_end text now new later h w = subst (λ (bytes : List ℕ). GivesText call left source bytes later) (sym w.text) (record {
    gave = (now, h.gave, w.gives.called);
    told = told-end (left source) (left now) text h.told w.end;
  })

  told-limit : (a b : Option (List ℕ)) (text : List ℕ) → Gives a b text → read_limit ≤ length text → IfSome a (λ bytes. read_limit ≤ length bytes)
  told-limit a None text h limit = rw h tt
  told-limit a (Some rest) text h limit = rw (h, length-append) (omega (arith, limit))

  pub reached_fault : (rose rose' : Type 0) (text : List ℕ) (now : S) (fault : QdimacsFault) (new : List ℕ) (later : S)
      → (rose → rose') → Reached call left source text now → TakesPiece call left rose text now (Err fault) new later → IsUnread call left rose' source fault later
  reached_fault rose rose' text now (At place kind) new later on h p = p
  reached_fault rose rose' text now ReadFault new later on h p =
      (on p.0, record { bytes = text; now = now; gave = h.gave; below = p.1; called = p.2 })
  reached_fault rose rose' text now ReadLimit new later on h p = record {
    bytes = text;
    gave = subst (λ (x : S). Gave call source text x) (sym p.1) h.gave;
    limit = p.0;
    told = told-limit (left source) (left now) text h.told p.0;
  }
  reached_fault rose rose' text now NoMemory new later on h p = tt

none : (n : ℕ) (bytes : List ℕ) → n ≡ 0 → take n bytes ≡ []
none n [] is = rw is refl
none n (b ∷ bytes) is = rw is refl

-- a call that gave no byte
pub gives_none_of : (S : Type 0) (call : S → ℕ → Option (List ℕ) → S → Type 0) (left : S → Option (List ℕ)) (source later : S) (n : ℕ) (bytes : List ℕ) → n ≡ 0
    → call source piece_size (Some (take n bytes)) later → Gives (left source) (left later) (take n bytes) → GivesPiece call left source [] later
gives_none_of S call left source later n bytes is called told = record {
  called = subst (λ (xs : List ℕ). call source piece_size (Some xs) later) (none n bytes is) called;
  told = subst (λ (xs : List ℕ). Gives (left source) (left later) xs) (none n bytes is) told;
}
