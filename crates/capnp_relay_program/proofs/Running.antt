-- A run of what the settings ask for, and the flushes behind it.
use Rattle.std.proofs.Common.{◌≡◌, ℕ, map, Option, Some, None, Result, Ok, Err, List, refl, sym, ◌∙◌, subst}
use Rattle.capnp_units.specs.declared.errors.Error.{Error}
use Rattle.capnp_values_queries.specs.declared.structs.StructSchema.{StructSchema}
use Rattle.capnp_model.specs.Calls.{Call as ModelCall}
use Rattle.capnp_model.specs.Compatible.{IsCompatibleWith}
use Rattle.capnp_model.specs.Admitted.{is_admitted_with}
use Rattle.capnp_values_queries.specs.Structs.{nodes_around, schema_around, id_of}
use Rattle.capnp_calls.specs.declared.call.Call.{Call}
use Rattle.capnp_calls.specs.CallViews.{call_view}
use Rattle.capnp_calls_versions.specs.Ways.{IsFirstRefused}
use Rattle.capnp_relay_loop.specs.declared.ends.Counts.{Counts}
use Rattle.capnp_relay_loop.specs.declared.ends.Fault.{Fault}
use Rattle.capnp_relay_loop.specs.declared.ends.Fault.TheVariants as faults
use Rattle.capnp_relay_loop.specs.declared.ends.RelayFault.{RelayFault}
use Rattle.capnp_calls_versions.specs.Renamed.{renamings_of}
use Rattle.capnp_relay_streams.specs.Relaying.{relay_work}
use Rattle.std.specs.Prelude.{⊤}
use Rattle.capnp_model.specs.Messages.{Reader}
use Rattle.capnp_relay_loop.specs.Pauses.{RelaysPausing, Moment, Pauses, PausesBeforeReads}
use Rattle.capnp_relay_streams.specs.Options.{reader_of}
use Rattle.capnp_relay_program.specs.Flushing.{RanFlushing}
use Rattle.capnp_relay_loop.specs.Streams.{Streams}
use Rattle.capnp_relay_streams.specs.Ends.{RunsBetween, IsHeld}
use Rattle.capnp_relay_streams.specs.declared.between.BetweenFault.TheVariants as between
use Rattle.capnp_model.proofs.lemmas.Tests.{same_some}
use Rattle.capnp_relay_program.specs.declared.version.Version.{Version}
use Rattle.capnp_relay_program.specs.declared.settings.Settings.{Settings}
use Rattle.capnp_relay_program.specs.declared.stop.Stop.TheVariants as stop
use Rattle.capnp_relay_program.specs.Asked.{Asked, IsHeldBack}
use Rattle.capnp_relay_program.specs.Settings.{asked_of}
use Rattle.capnp_relay_program.specs.Versions.{nodes_at, HasRootId}
use Rattle.capnp_relay_program.specs.Program.{Seen, Flushes, fault_behind, Ran, Runs}
use Rattle.capnp_relay_program.proofs.Asking.{asks_alone, asks_beside}

-- ---- what ran, or was held back

module _ (root : StructSchema) (calls : List Call) (s : Settings) (out_grows log_grows : Type 0) (old new : Streams)
    (nodes : nodes_around root ≡ nodes_at s.version) (id : id_of root ≡ s.version.root.id) (same : calls ≡ s.calls.items) where
  pub ran_alone : (result : Result Counts RelayFault) → s.newer ≡ None → RelaysPausing ⊤ (relay_work root calls s.options out_grows log_grows) old new result → Ran (asked_of s) out_grows log_grows old new result
  ran_alone result e relays = record { root = root; newer = None; renamings = renamings_of s.renamings; calls = calls; options = s.options; asks = asks_alone root calls s nodes id same e; may = tt; relays = relays }

  module _ (newer : StructSchema) (v : Version) (e : s.newer ≡ Some v) (newer_nodes : nodes_around newer ≡ nodes_at v) (newer_id : id_of newer ≡ v.root.id) where
    same_id : v.root.id ≡ s.version.root.id
    same_id = same_some (subst (λ o. HasRootId o s.version.root.id) e s.same_root)

    pub ran_beside : (result : Result Counts RelayFault) → RunsBetween (RelaysPausing ⊤) (record { versions = record { renamings = renamings_of s.renamings; older = root; newer = newer }; calls = calls; options = s.options }) (record { out = out_grows; log = log_grows }) old new result → Ran (asked_of s) out_grows log_grows old new result
    ran_beside result h = record { root = root; newer = Some newer; renamings = renamings_of s.renamings; calls = calls; options = s.options; asks = asks_beside root calls s nodes id same newer v e newer_nodes; may = (newer_id ∙ same_id ∙ sym id, h.may); relays = h.relays }

-- ---- what was flushed

-- What is said of pauses in one form is said of them in an equal one.
module _ {R W L : Type 0} (flushes : Reader → Pauses R W L) (root : StructSchema) (calls : List Call) (s : Settings) (out_grows log_grows : Type 0) (old new : Moment R W L)
    (nodes : nodes_around root ≡ nodes_at s.version) (id : id_of root ≡ s.version.root.id) (same : calls ≡ s.calls.items) (read : Reader) (form : reader_of s.options.input ≡ read) where
  abbrev Paused : Result Counts RelayFault → Reader → Type 0
  Paused result r = PausesBeforeReads (flushes r) (relay_work root calls s.options out_grows log_grows) old new result

  pub flushing_alone : (result : Result Counts RelayFault) → s.newer ≡ None → PausesBeforeReads (flushes read) (relay_work root calls s.options out_grows log_grows) old new result
      → RanFlushing flushes (asked_of s) out_grows log_grows old new result
  flushing_alone result e paused =
      record { root = root; newer = None; renamings = renamings_of s.renamings; calls = calls; options = s.options; asks = asks_alone root calls s nodes id same e; pauses = subst (Paused result) (sym form) paused }

  pub flushing_beside : (newer : StructSchema) (v : Version) → s.newer ≡ Some v → nodes_around newer ≡ nodes_at v → (result : Result Counts RelayFault)
      → PausesBeforeReads (flushes read) (relay_work root calls s.options out_grows log_grows) old new result → RanFlushing flushes (asked_of s) out_grows log_grows old new result
  flushing_beside newer v e newer_nodes result paused =
      record { root = root; newer = Some newer; renamings = renamings_of s.renamings; calls = calls; options = s.options; asks = asks_beside root calls s nodes id same newer v e newer_nodes; pauses = subst (Paused result) (sym form) paused }

-- A call that isn't admitted between the two schemas isn't admitted beside the newer one of the settings.
pub held_beside : (root newer : StructSchema) (calls : List Call) (s : Settings) (v : Version) (n : ℕ)
    → nodes_around root ≡ nodes_at s.version → id_of root ≡ s.version.root.id → calls ≡ s.calls.items → s.newer ≡ Some v → nodes_around newer ≡ nodes_at v → id_of newer ≡ v.root.id
    → IsHeld (renamings_of s.renamings) root newer calls (between.NotAdmitted n) → IsHeldBack (asked_of s) (stop.NotAdmitted n)
held_beside root newer calls s v n nodes id same e newer_nodes newer_id h =
    let rs = renamings_of s.renamings in
    let own : v.root.id ≡ s.version.root.id = same_some (subst (λ o. HasRootId o s.version.root.id) e s.same_root) in
    let one : id_of newer ≡ id_of root = newer_id ∙ own ∙ sym id in
    let held = subst (λ (m : ℕ). IsCompatibleWith rs (schema_around root) (schema_around newer) (id_of root) m × IsFirstRefused (λ (c : ModelCall). is_admitted_with rs (schema_around root) (schema_around newer) (id_of root) m c) (map call_view calls) n) one h in
    subst (λ (a : Asked). IsHeldBack a (stop.NotAdmitted n)) (asks_beside root calls s nodes id same newer v e newer_nodes) held

pub runs : (a : Asked) (out_grows log_grows : Type 0) (old : Seen) (mid : Streams) (new : Seen) (result : Result Counts RelayFault) (out log : Result (Unit {0}) Error) (fault : Option Fault)
    → Ran a out_grows log_grows old.streams mid result → new.streams.source ≡ mid.source
    → Flushes mid.out out new.streams.out new.out_held → Flushes mid.log log new.streams.log new.log_held → fault ≡ fault_behind result out log
    → Runs a out_grows log_grows old new fault
runs a out_grows log_grows old mid new result out log fault ran source flushed_out flushed_log behind = record {
  result = result;
  mid = mid;
  ran = ran;
  source = source;
  out_flushed = out;
  out = flushed_out;
  log_flushed = log;
  log = flushed_log;
  is_fault = behind;
}

module _ (result : Result Counts RelayFault) (out log : Result (Unit {0}) Error) where
  pub behind_run : (e : RelayFault) → result ≡ Err e → Some e.fault ≡ fault_behind result out log
  behind_run e r = rw r refl

  pub behind_out : (counts : Counts) (e : Error) → result ≡ Ok counts → out ≡ Err e → Some faults.Out ≡ fault_behind result out log
  behind_out counts e r o = rw r (rw o refl)

  pub behind_log : (counts : Counts) (u : Unit {0}) (e : Error) → result ≡ Ok counts → out ≡ Ok u → log ≡ Err e → Some faults.Log ≡ fault_behind result out log
  behind_log counts u e r o l = rw r (rw o (rw l refl))

  pub behind_none : (counts : Counts) (u v : Unit {0}) → result ≡ Ok counts → out ≡ Ok u → log ≡ Ok v → None ≡ fault_behind result out log
  behind_none counts u v r o l = rw r (rw o (rw l refl))
