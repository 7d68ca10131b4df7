-- Sinks that grow, or stay as they were.
use Rattle.std.proofs.Common.{◌≡◌, ◌∙◌, ℕ, ◌+◌, ◌-◌, ◌^◌, min, List, [], ◌∷◌, ◌++◌, Option, Some, None, refl, ap, sym, subst, append-nil, length-append, arith}
use Rattle.std.specs.Io.KnownBytes.{Keeps, Appends}
use Rattle.std.proofs.KnownBytes.{Appends-trans, Keeps-trans}
use Rattle.capnp_stream_io.specs.Streams.{AppendsPart}
use Rattle.capnp_stream_io.specs.Writes.{SinkSeen}
use Rattle.capnp_relay_loop.specs.Pauses.{SinkRests, FailsInPause}
use Rattle.capnp_relay_loop.specs.declared.ends.Fault.{Fault}
use Rattle.capnp_relay_loop.specs.declared.ends.Fault.TheVariants as faults
use Rattle.std.proofs.lemmas.List.Concat.{flat_map-append}
use Rattle.hagzimot_show.specs.Sinks.{ended_text, EndsInLineFeed, GrowsAtEnd, GrowsByLines}

appends_kept : (a b : Option (List ℕ)) → Keeps a b → Appends a b []
appends_kept None b kept = tt
appends_kept (Some x) None kept = absurd kept
appends_kept (Some x) (Some y) kept = kept ∙ sym (append-nil x)

keeps_of_none : (a b : Option (List ℕ)) → Appends a b [] → Keeps a b
keeps_of_none None b rests = tt
keeps_of_none (Some x) None rests = absurd rests
keeps_of_none (Some x) (Some y) rests = rests ∙ append-nil x

pub keeps_same : (a : Option (List ℕ)) → Keeps a a
keeps_same None = tt
keeps_same (Some x) = refl

pub grows_kept : (a b : Option (List ℕ)) → Keeps a b → GrowsAtEnd a b
grows_kept a b kept = record { more = []; appends = appends_kept a b kept }

pub grows_same : (a : Option (List ℕ)) → GrowsAtEnd a a
grows_same a = grows_kept a a (keeps_same a)

pub grows_by : (a b : Option (List ℕ)) (bs : List ℕ) → Appends a b bs → GrowsAtEnd a b
grows_by a b bs appends = record { more = bs; appends = appends }

pub grows_part : (a b : Option (List ℕ)) (bs : List ℕ) → AppendsPart a b bs → GrowsAtEnd a b
grows_part a b bs part = grows_by a b part.0 part.3

pub grows_on : (a b c : Option (List ℕ)) → GrowsAtEnd a b → GrowsAtEnd b c → GrowsAtEnd a c
grows_on a b c first next = record { more = first.more ++ next.more; appends = Appends-trans a b c first.more next.more first.appends next.appends }

-- lines that were given and counted

pub lines_kept : (n : ℕ) (a b : Option (List ℕ)) → Keeps a b → GrowsByLines n n a b
lines_kept n a b kept = record { texts = []; counted = let e : n + 0 ≡ n = omega arith in ap (λ m. min m (2 ^ 64 - 1)) (sym e); appends = appends_kept a b kept }

pub lines_same : (n : ℕ) (a : Option (List ℕ)) → GrowsByLines n n a a
lines_same n a = lines_kept n a a (keeps_same a)

one_line : (n m : ℕ) (a b : Option (List ℕ)) (text : List ℕ) → m ≡ min (n + 1) (2 ^ 64 - 1) → Appends a b (ended_text text) → GrowsByLines n m a b
one_line n m a b text next appends = record { texts = text ∷ []; counted = omega (arith, next); appends = subst (λ (bs : List ℕ). Appends a b bs) (sym (append-nil (ended_text text))) appends }

pub line_in_parts : (n m : ℕ) (a b c : Option (List ℕ)) (text : List ℕ) → m ≡ min (n + 1) (2 ^ 64 - 1) → Appends a b text → Appends b c (10 ∷ []) → GrowsByLines n m a c
line_in_parts n m a b c text next first last = one_line n m a c text next (Appends-trans a b c text (10 ∷ []) first last)

pub line_at_once : (n m : ℕ) (a b : Option (List ℕ)) (bytes : List ℕ) → m ≡ min (n + 1) (2 ^ 64 - 1) → EndsInLineFeed bytes → Appends a b bytes → GrowsByLines n m a b
line_at_once n m a b bytes next (text, is) appends = one_line n m a b text next (subst (λ (bs : List ℕ). Appends a b bs) is appends)

pub lines_on : (i j k : ℕ) (a b c : Option (List ℕ)) → GrowsByLines i j a b → GrowsByLines j k b c → GrowsByLines i k a c
lines_on i j k a b c first next = record {
  texts = first.texts ++ next.texts;
  counted = let p = first.counted in let q = next.counted in let long = length-append first.texts next.texts in omega (arith, p, q, long);
  appends = subst (λ (bs : List ℕ). Appends a c bs) (sym (flat_map-append ended_text first.texts next.texts)) (Appends-trans a b c _ _ first.appends next.appends);
}

-- a pause gives no byte to a sink
pub keeps_in_rest : (old new : SinkSeen) → SinkRests old new → Keeps old.contents new.contents
keeps_in_rest old new rests = keeps_of_none old.contents new.contents rests.appends

pub keeps_in_fault : (f : Fault) (out out' log log' : SinkSeen) → FailsInPause f out out' log log' → Keeps out.contents out'.contents × Keeps log.contents log'.contents
keeps_in_fault faults.Out out out' log log' fails = (fails.0.0, keeps_in_rest log log' fails.1)
keeps_in_fault faults.Log out out' log log' fails = (keeps_in_rest out out' fails.0, fails.1.0)
keeps_in_fault faults.Source out out' log log' fails = absurd fails
keeps_in_fault (faults.Framing kind) out out' log log' fails = absurd fails
keeps_in_fault faults.Memory out out' log log' fails = absurd fails
keeps_in_fault faults.Size out out' log log' fails = absurd fails

pub ruleset pausing = (keeps_in_rest, keeps_in_fault)

pub ruleset lines = (lines_kept, lines_same, line_in_parts, line_at_once)

pub ruleset sinks = (keeps_same, Keeps-trans, grows_kept, grows_same, grows_by, grows_part, grows_on)
