-- What a list of services of any device shows.
use Rattle.std.proofs.Common.{◌∙◌, ap, ◌≡◌, ℕ, Bool, true, false, List, [], ◌∷◌, ◌++◌, refl, sym, subst, arith}
use Rattle.std.specs.Prelude.{Option, ◌+◌, if◌then◌else◌}
use Rattle.std.specs.Io.KnownBytes.{Consumes, Appends}
use Rattle.p9_word.specs.declared.io_call.IoCall.{IoCall}
use Rattle.p9_word.specs.declared.io_call.Effect.{Effect}
use Rattle.p9_manual.specs.Effects.{got, put, has_failed}
use Rattle.p9_manual.specs.Files.{given, joined, with_piece, written}
use Rattle.p9_outside.specs.Causes.{CountsFault}
use Rattle.p9_outside.specs.Counts.{raised}
use Rattle.p9_outside.specs.DeviceRuns.{failures, DevicesRun}
use Rattle.p9_outside.specs.Reached.{Reached}
use Rattle.p9_outside.proofs.Streams.{consumes_more, consumes_none, appends_more, appends_none}

-- a piece in front of others adds its bytes
joined_piece : (bs : List ℕ) (pieces : List (List ℕ)) → joined (with_piece bs pieces) ≡ bs ++ joined pieces
joined_piece [] pieces = refl
joined_piece (b ∷ bs) pieces = refl

-- a count after the first service, and after the others
rises_on : (a b c : ℕ) (failed : Bool) (n : ℕ) → CountsFault failed a b → c ≡ raised b n → c ≡ raised a ((if failed then 1 else 0) + n)
rises_on a b c true n once on = rw (on, once) (omega arith)
rises_on a b c false n once on = rw (on, once) (omega arith)

rises_none : (a : ℕ) → a ≡ raised a 0
rises_none a = omega arith

module _ {D : Type 0} (serves : D → IoCall → Effect → D → Type 0) (left held : D → Option (List ℕ)) (faults : D → ℕ) (gives : (old : D) (call : IoCall) (effect : Effect) (new : D) → serves old call effect new → Consumes (left old) (left new) (got effect)) (takes : (old : D) (call : IoCall) (effect : Effect) (new : D) → serves old call effect new → Appends (held old) (held new) (put call effect)) (counts : (old : D) (call : IoCall) (effect : Effect) (new : D) → serves old call effect new → CountsFault (has_failed effect) (faults old) (faults new)) where
  gives_all : (first last : D) (services : List (IoCall × Effect)) → Reached serves first services last → Consumes (left first) (left last) (joined (given services))
  gives_all first last [] reached = subst (λ (d : D). Consumes (left first) (left d) []) (sym reached) (consumes_none (left first))
  gives_all first last (s ∷ services) reached =
      subst (λ bs. Consumes (left first) (left last) bs) (sym (joined_piece (got s.1) (given services))) (consumes_more _ _ _ _ _ (gives _ _ _ _ reached.1) (gives_all reached.0 last services reached.2))

  takes_all : (first last : D) (services : List (IoCall × Effect)) → Reached serves first services last → Appends (held first) (held last) (written services)
  takes_all first last [] reached = subst (λ (d : D). Appends (held first) (held d) []) (sym reached) (appends_none (held first))
  takes_all first last (s ∷ services) reached =
      appends_more _ _ _ _ _ (takes _ _ _ _ reached.1) (takes_all reached.0 last services reached.2)

  -- the count rose by just as much as effects failed
  counts_all : (first last : D) (services : List (IoCall × Effect)) → Reached serves first services last → faults last ≡ raised (faults first) (failures services)
  counts_all first last [] reached = ap faults reached ∙ rises_none (faults first)
  counts_all first last (s ∷ services) reached =
      rises_on _ _ _ (has_failed s.1) (failures services) (counts _ _ _ _ reached.1) (counts_all reached.0 last services reached.2)

  pub devices_run : DevicesRun serves left held faults
  devices_run first services last reached =
      record { given = gives_all first last services reached; taken = takes_all first last services reached; tells = counts_all first last services reached }
