-- What calls put at the front of a buffer.
use Rattle.std.proofs.Common.{◌≡◌, ℕ, List, ◌++◌, length, take, drop, Result, Ok, Err, IfOk, ap, sym, subst, ◌∙◌, arith}
use Rattle.std.specs.Coded.{Unit-prop}
use Rattle.std.proofs.Props.{props}
use Rattle.capnp_model.specs.Trees.{Tree}
use Rattle.capnp_model.specs.Fits.{Fits}
use Rattle.capnp_model.specs.Trimming.{trim}
use Rattle.capnp_model.specs.Encoding.{canonical_words}
use Rattle.capnp_model.specs.Calls.{Call}
use Rattle.capnp_model.specs.Segments.{Segments}
use Rattle.capnp_units.specs.declared.errors.Error.{Error}
use Rattle.capnp_values_queries.specs.declared.structs.StructSchema.{StructSchema}
use Rattle.capnp_wire_canonical.specs.Writes.{filled}
use Rattle.capnp_calls.specs.Resolved.{calls_of, KnowSplices}
use Rattle.capnp_calls.specs.declared.resolved.Resolved.{Resolved}
use Rattle.capnp_calls_splice.specs.Splices.{StandsWithin, StandAsBefore}
use Rattle.capnp_calls_splice.specs.declared.splice.Spliced.{Spliced}
use Rattle.capnp_calls_splice.specs.declared.splice.Spliced.TheVariants as outcomes
use Rattle.capnp_calls_in_place.specs.PlainSets.{SetsWords}
use Rattle.capnp_calls_in_place.specs.CallSplices.{TellsSplices}
use Rattle.capnp_relay_answers.specs.Answers.{ReadsRootValue}
use Rattle.capnp_relay_answers.specs.declared.bounds.Bounds.{Bounds}
use Rattle.capnp_relay_answers.specs.Found.{SetsKnownFront, TellsPut}
use Rattle.capnp_relay_answers.proofs.Walks.{put_back}
use Rattle.capnp_relay_answers.proofs.Plain.{SetsWords-prop}

module _ (schema : StructSchema) (calls : List Call) (count : ℕ) (old into : List (List ℕ)) where
  pub SetsKnownFront-prop : (n : ℕ) → IsProp (SetsKnownFront schema calls (filled count old) into n)
  SetsKnownFront-prop n = hlevel (props, SetsWords-prop)

  -- and so has what is told
  pub told-prop : (r : Result Spliced Error) → IsProp (IfOk r (TellsPut schema calls count old into))
  told-prop (Err e) = Unit-prop
  told-prop (Ok (outcomes.Done n)) = SetsKnownFront-prop n
  told-prop (Ok outcomes.Unplaced) = hlevel props
  told-prop (Ok outcomes.Spoiled) = Unit-prop

-- what is told of splices, under a schema
pub told_put : (schema : StructSchema) (calls : List Resolved) → KnowSplices schema calls → (count : ℕ) (old into : List (List ℕ)) (r : Result Spliced Error)
    → IfOk r (TellsSplices calls count old into) → IfOk r (TellsPut schema (calls_of calls) count old into)
told_put schema calls known count old into (Err e) told = tt
told_put schema calls known count old into (Ok (outcomes.Done n)) told = record { sets = λ t fits again same. told.0 schema t known fits again same; stands = told.1 }
told_put schema calls known count old into (Ok outcomes.Unplaced) told = told
told_put schema calls known count old into (Ok outcomes.Spoiled) told = tt

-- of the calls that are kept, where what is lent are these
pub told_known : (schema : StructSchema) (kept lent : List Resolved) (count : ℕ) (old into : List (List ℕ)) (r : Result Spliced Error) → lent ≡ kept → KnowSplices schema kept
    → ((root : StructSchema) → KnowSplices root lent → IfOk r (TellsPut root (calls_of lent) count old into)) → IfOk r (TellsPut schema (calls_of kept) count old into)
told_known schema kept lent count old into r same known told =
    subst (λ (rs : List Resolved). IfOk r (TellsPut schema (calls_of rs) count old into)) same (told schema (subst (KnowSplices schema) (sym same) known))

-- a value that was read stands still where the words in use are as they were
pub stands_still : (bounds : Bounds) (s : Segments) (count : ℕ) (old into : List (List ℕ)) → StandAsBefore count old into → ReadsRootValue bounds s old (Ok count) → ReadsRootValue bounds s into (Ok count)
stands_still bounds s count old into same read =
    let r = read.0 in (record { value = r.value; within = r.within; fits = r.fits; deep = r.deep; words = same.words ∙ r.words; inside = same.inside; some = r.some; few = r.few }, read.1)

-- and it stands within the buffer
pub read_within : (bounds : Bounds) (s : Segments) (count : ℕ) (into : List (List ℕ)) → ReadsRootValue bounds s into (Ok count) → StandsWithin into count
read_within bounds s count into read = record { some = read.0.some; few = read.0.few; inside = read.0.inside }

-- numbers that are put into the first words of the whole buffer
pub put_front : (schema : StructSchema) (calls : List Call) (count len : ℕ) (items slice new : List (List ℕ)) → slice ≡ items → len ≡ length items → length new ≡ length slice → StandsWithin items count
    → ((t : Tree) → Fits t → trim t ≡ t → filled count slice ≡ canonical_words t → SetsWords schema calls t (filled count new))
    → SetsKnownFront schema calls (filled count items) (take len (new ++ drop (length new) items)) count
put_front schema calls count len items slice new same is size stands sets =
    let all : length new ≡ length items = size ∙ ap length same in
    let back = put_back len new items is all in
    subst (λ (into : List (List ℕ)). SetsKnownFront schema calls (filled count items) into count) (sym back) (record {
      sets = λ t fits again old. sets t fits again (ap (filled count) same ∙ old);
      stands = record { some = stands.some; few = stands.few; inside = omega (arith, all, stands.inside) };
    })
