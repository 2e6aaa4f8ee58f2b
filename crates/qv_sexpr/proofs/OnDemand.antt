-- Calls of a source, one after another.
use Rattle.std.proofs.Common.{ℕ, ◌≡◌, ◌⊎◌, inl, inr, List, Option, Some, sym, subst}
use Rattle.qv_text.specs.declared.kinds.Token.{Token}
use Rattle.qv_text.specs.declared.kinds.Lexed.{Lexed}
use Rattle.qv_text.specs.declared.kinds.Lexed.TheVariants.{Token as GotToken, More, End as AtEnd, Fault as GotFault}
use Rattle.qv_text.specs.Reading.{Lexeme}
use Rattle.qv_text.specs.Progress.{Progress}
use Rattle.qv_sexpr.specs.declared.answers.ParseKind.{ParseKind}
use Rattle.qv_sexpr.specs.declared.answers.ParseKind.TheVariants.{Close, Atom, Unfinished}
use Rattle.qv_sexpr.specs.declared.answers.Stop.{Stop}
use Rattle.qv_sexpr.specs.declared.answers.Stop.TheVariants.{End, ReadFault, ReadLimit, Lex, Parse, NestingLimit, NoMemory}
use Rattle.qv_sexpr.specs.Building.{Levels, IsRefused, TokenShows, EndShows, Refuses}
use Rattle.qv_sexpr.specs.Input.{FeedsCall, DropsCall}
use Rattle.qv_sexpr.specs.Calls.{Asked, OnDemand, nothing, asked, called, EndsAsked, RefusesOnDemand, ReadsOnDemand}

-- a token that was refused shows why reading stopped, or there was no memory for it
pub stops_refused : (levels : Levels) (l : Lexeme) (stop : Stop) → Refuses levels l stop → (stop ≡ NoMemory) ⊎ TokenShows l.kind l.place stop
stops_refused levels l stop (inl e) = inl e
stops_refused levels l stop (inr h) = inr h.0

module _ (S : Type 0) (call : S → ℕ → Option (List ℕ) → S → Type 0) where
  -- one after another
  pub on_demand_later : {a b : Progress} {s t : S} {c : Progress} {u : S} → OnDemand call a s b t → OnDemand call b t c u → OnDemand call a s c u
  on_demand_later h nothing = h
  on_demand_later h (asked lexer now answer new k q) = asked lexer now answer new (on_demand_later h k) q
  on_demand_later h (called lexer now new bytes later k q r) = called lexer now new bytes later (on_demand_later h k) q r

  pub asked_later : (a b c : Progress) (s t u : S) (answer : Lexed) → OnDemand call a s b t → EndsAsked call b t answer c u → EndsAsked call a s answer c u
  asked_later a b c s t u answer h k = (k.0, on_demand_later h k.1, k.2)

  pub on_demand_asked : (a b c : Progress) (s t u : S) (answer : Lexed) → OnDemand call a s b t → EndsAsked call b t answer c u → OnDemand call a s c u
  on_demand_asked a b c s t u answer h k = asked k.0 u answer c (on_demand_later h k.1) k.2

  refuses_later : (a b c : Progress) (s t u : S) (kind : ParseKind) (place : ℕ) → OnDemand call a s b t → RefusesOnDemand call b t kind place c u → RefusesOnDemand call a s kind place c u
  refuses_later a b c s t u Unfinished place h k = asked_later a b c s t u AtEnd h k
  refuses_later a b c s t u Close place h k = (k.0, asked_later a b c s t u (GotToken k.0) h k.1, k.2, k.3)
  refuses_later a b c s t u Atom place h k = (k.0, asked_later a b c s t u (GotToken k.0) h k.1, k.2, k.3)

  pub reads_later : (a b c : Progress) (s t u : S) (stop : Stop) → OnDemand call a s b t → ReadsOnDemand call b t (Some stop) c u → ReadsOnDemand call a s (Some stop) c u
  reads_later a b c s t u End h k = asked_later a b c s t u AtEnd h k
  reads_later a b c s t u (Lex fault) h k = asked_later a b c s t u (GotFault fault) h k
  reads_later a b c s t u (Parse fault) h k = refuses_later a b c s t u fault.kind fault.place h k
  reads_later a b c s t u (NestingLimit place) h k = (k.0, asked_later a b c s t u (GotToken k.0) h k.1, k.2, k.3)
  reads_later a b c s t u ReadLimit h k = asked_later a b c s t u More h k
  reads_later a b c s t u ReadFault h k = (k.0, asked_later a b c s t k.0 More h k.1, k.2)
  reads_later a b c s t u NoMemory h (inl k) = inl (on_demand_later h k)
  reads_later a b c s t u NoMemory h (inr k) = inr (k.0, (k.1.0, asked_later a b c s t k.1.0 More h k.1.1, k.1.2))

  refuses_token : (a c : Progress) (s u : S) (t : Token) (kind : ParseKind) (place : ℕ) → EndsAsked call a s (GotToken t) c u → IsRefused kind t.kind → t.place ≡ place → RefusesOnDemand call a s kind place c u
  refuses_token a c s u t Close place h k e = (t, h, k, e)
  refuses_token a c s u t Atom place h k e = (t, h, k, e)
  refuses_token a c s u t Unfinished place h k e = absurd k

  -- a token shows why reading stops, or there was no memory for it
  pub stops_token : (a c : Progress) (s u : S) (t : Token) (stop : Stop) → EndsAsked call a s (GotToken t) c u → (stop ≡ NoMemory) ⊎ TokenShows t.kind t.place stop → ReadsOnDemand call a s (Some stop) c u
  stops_token a c s u t stop h (inl e) = subst (λ (x : Stop). ReadsOnDemand call a s (Some x) c u) (sym e) (inl (asked h.0 u (GotToken t) c h.1 h.2))
  stops_token a c s u t (Parse fault) h (inr k) = refuses_token a c s u t fault.kind fault.place h k.0 k.1
  stops_token a c s u t (NestingLimit place) h (inr k) = (t, h, k.0, k.1)
  stops_token a c s u t End h (inr k) = absurd k
  stops_token a c s u t (Lex fault) h (inr k) = absurd k
  stops_token a c s u t ReadFault h (inr k) = absurd k
  stops_token a c s u t ReadLimit h (inr k) = absurd k
  stops_token a c s u t NoMemory h (inr k) = absurd k

  -- the end of the text shows why reading stops
  pub stops_end : (a c : Progress) (s u : S) (stop : Stop) → EndsAsked call a s AtEnd c u → EndShows stop → ReadsOnDemand call a s (Some stop) c u
  stops_end a c s u End h k = h
  stops_end a c s u (Parse fault) h k = subst (λ (x : ParseKind). RefusesOnDemand call a s x fault.place c u) (sym k) h
  stops_end a c s u (Lex fault) h k = absurd k
  stops_end a c s u (NestingLimit place) h k = absurd k
  stops_end a c s u ReadFault h k = absurd k
  stops_end a c s u ReadLimit h k = absurd k
  stops_end a c s u NoMemory h k = absurd k

  -- the lexer wanted more, and was fed what a call gave
  pub feeds_later : (a b c d : Progress) (s t u : S) → OnDemand call a s b t → Asked b More c → FeedsCall call c t d u → OnDemand call a s d u
  feeds_later a b c d s t u h q k = subst (λ (x : Progress). OnDemand call a s x u) (sym k.2) (called b t c k.0 u h q k.1)

  -- the lexer wanted more, and was fed nothing
  pub drops_later : (a b c d : Progress) (s t u : S) (stop : Stop) → OnDemand call a s b t → Asked b More c → d ≡ c → DropsCall call t stop u → ReadsOnDemand call a s (Some stop) d u
  drops_later a b c d s t u stop h q e k = subst (λ (x : Progress). ReadsOnDemand call a s (Some stop) x u) (sym e) (drops stop k)
    where
      drops : (stop : Stop) → DropsCall call t stop u → ReadsOnDemand call a s (Some stop) c u
      drops ReadFault k = (t, (b, h, q), k)
      drops ReadLimit k = subst (λ (x : S). EndsAsked call a s More c x) (sym k) (b, h, q)
      drops NoMemory k = inr (k.0, (t, (b, h, q), k.1))
      drops End k = absurd k
      drops (Lex fault) k = absurd k
      drops (Parse fault) k = absurd k
      drops (NestingLimit place) k = absurd k
