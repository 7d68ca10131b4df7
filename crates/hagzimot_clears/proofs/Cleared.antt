-- From the answers of the calls that run to the answer.
use Rattle.std.proofs.Common.{◌≡◌, List, Bool, true, false, inr, sym, subst}
use Rattle.capnp_model.specs.Segments.{Segments}
use Rattle.capnp_model.specs.Answers.{Answer}
use Rattle.capnp_model.specs.Calls.{Call as ModelCall}
use Rattle.capnp_values_queries.specs.declared.structs.StructSchema.{StructSchema}
use Rattle.capnp_relay_answers.specs.Answers.{MakesTooLarge}
use Rattle.capnp_relay_answers.specs.Plain.{IsTooLargePlain}
use Rattle.capnp_relay_answers.specs.RootCalls.{root_schema, root_calls}
use Rattle.capnp_relay_streams.specs.Messages.{IsAnswerBy, IsAnswerInForm, IsTooLargeIn}
use Rattle.hagzimot_clears.specs.Clears.{running, IsClearedAnswer, IsTooLargeToClear}
use Rattle.hagzimot_clears.specs.declared.active.ActiveClears.{ActiveClears}

module _ (c : ActiveClears) (s : Segments) (probed : Answer) (root : StructSchema) (calls : List ModelCall) (schema : root ≡ c.schema) (same : calls ≡ running probed c.planned.now) where
  -- the canonical answer of the calls that run is the answer
  pub cleared : (a : Answer) → IsAnswerBy (root_schema c.probes.calls) (root_calls c.probes.calls) c.probes.bounds s probed
      → c.is_plain ≡ false → IsAnswerBy root calls c.bounds s a → IsClearedAnswer c s a
  cleared a by_probes form one =
      let at_schema = subst (λ (x : StructSchema). IsAnswerBy x calls c.bounds s a) schema one in
      let by_calls = subst (λ (cs : List ModelCall). IsAnswerBy c.schema cs c.bounds s a) same at_schema in
      (probed, by_probes, subst (λ (b : Bool). IsAnswerInForm b c.schema (running probed c.planned.now) c.bounds s a) (sym form) by_calls)

  -- a message that is too large for the calls that run is too large
  too_large : (b : Bool) → c.is_plain ≡ b → IsTooLargeIn b root calls c.bounds s → IsTooLargeToClear c s
  too_large b form one =
      let at_schema = subst (λ (x : StructSchema). IsTooLargeIn b x calls c.bounds s) schema one in
      let by_calls = subst (λ (cs : List ModelCall). IsTooLargeIn b c.schema cs c.bounds s) same at_schema in
      inr (probed, subst (λ (f : Bool). IsTooLargeIn f c.schema (running probed c.planned.now) c.bounds s) (sym form) by_calls)

  pub too_large_plain : c.is_plain ≡ true → IsTooLargePlain root calls c.bounds s → IsTooLargeToClear c s
  too_large_plain form one = too_large true form one

  pub too_large_canonical : c.is_plain ≡ false → MakesTooLarge root calls c.bounds s → IsTooLargeToClear c s
  too_large_canonical form one = too_large false form one
