-- A run of the relay, as one between two versions.
use Rattle.std.proofs.Common.{◌≡◌, Bool, true, false, List, map, Result, Ok, Err}
use Rattle.capnp_model.specs.Segments.{Segments}
use Rattle.capnp_model.specs.Answers.{Answer}
use Rattle.capnp_model.specs.Partners.{Renaming}
use Rattle.capnp_model.specs.CallRuns.{AreGiven}
use Rattle.capnp_values_queries.specs.Structs.{schema_around, id_of}
use Rattle.capnp_values_queries.specs.declared.structs.StructSchema.{StructSchema}
use Rattle.capnp_calls.specs.declared.call.Call.{Call}
use Rattle.capnp_calls.specs.CallViews.{call_view}
use Rattle.capnp_relay_loop.specs.declared.ends.Counts.{Counts}
use Rattle.capnp_relay_loop.specs.declared.ends.RelayFault.{RelayFault}
use Rattle.capnp_relay_streams.specs.declared.options.RelayOptions.{RelayOptions}
use Rattle.capnp_relay_streams.specs.Messages.{IsAnswerInForm}
use Rattle.capnp_relay_streams.specs.Relaying.{relay_work}
use Rattle.capnp_relay_loop.specs.Run.{RunEndsAs}
use Rattle.capnp_relay_loop.specs.Streams.{Streams}
use Rattle.capnp_relay_streams.specs.Newer.{MayRun, ReadsAsRenamed}
use Rattle.capnp_relay_streams.specs.Ends.{BetweenAsked, SinksGrow, IsAnswerBetween, between_work, RelaysBetween}
use Rattle.capnp_relay_streams.specs.declared.between.BetweenFault.{BetweenFault}
use Rattle.capnp_relay_streams.specs.declared.between.BetweenFault.TheVariants as fault
use Rattle.capnp_relay_loop.specs.Pauses.{RelaysPausing}
use Rattle.capnp_relay_loop.proofs.lemmas.PauseLemmas.{never_pausing}
use Rattle.capnp_relay_streams.proofs.NewerRecords.{ReadsAsRenamed-of}
use Rattle.capnp_relay_streams.proofs.PlainRecords.{NewerLaws, plain_reads_as_renamed}
use Rattle.capnp_relay_streams.proofs.Answering.{relays_pausing}

module _ (rs : List Renaming) (root newer : StructSchema) (calls : List Call) (options : RelayOptions) (laws : NewerLaws)
    (no_group : (schema_around root).is_group (id_of root) ≡ false) (given : AreGiven (map call_view calls)) (may : MayRun rs root newer calls) where
  reads : (plain : Bool) (s : Segments) (a : Answer) → IsAnswerInForm plain root (map call_view calls) options.bounds s a → ReadsAsRenamed (record { renamings = rs; older = root; newer = newer }) (map call_view calls) options.bounds s a
  reads false s a h = ReadsAsRenamed-of rs root newer calls options.bounds laws.records laws.same_replies root.set.now.accepted newer.set.now.accepted no_group given may s a h
  reads true s a h = plain_reads_as_renamed rs root newer calls options.bounds laws root.set.now.accepted newer.set.now.accepted no_group given may s a h

  answers : (s : Segments) (a : Answer) → IsAnswerInForm options.plain root (map call_view calls) options.bounds s a → IsAnswerBetween (record { versions = record { renamings = rs; older = root; newer = newer }; calls = calls; options = options }) s a
  answers s a h = record { same = h; reads_newer = reads options.plain s a h }

  pub relays-between : (may_fail out_grows log_grows : Type 0) (old new : Streams) (result : Result Counts RelayFault) → RelaysPausing may_fail (relay_work root calls options out_grows log_grows) old new result → RelaysPausing may_fail (between_work (record { versions = record { renamings = rs; older = root; newer = newer }; calls = calls; options = options }) (record { out = out_grows; log = log_grows })) old new result
  relays-between may_fail out_grows log_grows old new result h =
      relays_pausing (relay_work root calls options out_grows log_grows) (IsAnswerBetween (record { versions = record { renamings = rs; older = root; newer = newer }; calls = calls; options = options })) answers may_fail old new result h

-- no pause fails
module _ (x : BetweenAsked) (grows : SinksGrow) (old new : Streams) where
  pub between-never : (result : Result Counts BetweenFault) → RelaysBetween (RelaysPausing ⊥) x grows old new result → RelaysBetween RunEndsAs x grows old new result
  between-never (Ok counts) h = record { may = h.may; relays = h.relays }
  between-never (Err (fault.Relay e)) h = record { may = h.may; relays = never_pausing (between_work x grows) old new (Err e) h.relays }
  between-never (Err fault.NotCompatible) h = h
  between-never (Err (fault.NotAdmitted n)) h = h
  between-never (Err fault.Memory) h = h
