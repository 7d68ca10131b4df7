use Rattle.std.proofs.Common.{◌≡◌, true, false, sym, subst, ◌∙◌}
use Rattle.std.specs.Prelude.{IsSome}
use Rattle.capnp_model.specs.Decoding.{decode}
use Rattle.capnp_model.specs.Schemas.{default_or_null}
use Rattle.capnp_model.specs.Segments.{root}
use Rattle.capnp_units.specs.Segments.{words_in}
use Rattle.capnp_wire_objects.specs.Places.{place_view}
use Rattle.capnp_copy_values.specs.Defaults.{default_segments, is_null_or_absent}
use Rattle.capnp_calls.specs.Messages.{tree_of_message}
use Rattle.capnp_schema_structs.specs.GroupSets.{HoldsDefault}
use Rattle.std.proofs.lemmas.Result.{err_from_is_err_and}
use Rattle.capnp_copy_arenas.specs.Refusals.{IsSizeOrRefusal}
use Rattle.capnp_calls_edits.proofs.ClaimsMessages.{root_told}
use Rattle.capnp_calls_edits.proofs.SetMessages.{emptied, root_put}
use Rattle.capnp_calls_edits.proofs.messages.put_message.Goals as goal

pub returns-then-has_null_root-clause-puts : goal.returns-then-has_null_root-clause-puts
returns-then-has_null_root-clause-puts g c =
    let ws = c.words_of-words.result.now in
    let t = tree_of_message c.args.message.now in
    let holds = subst (λ bs. IsSome (decode bs) → HoldsDefault ws (default_or_null (decode bs))) c.segment.ensures c.words_of-words.ensures.value c.args.message.now.readable in
    let empty : is_null_or_absent (default_segments ws) root ≡ true = sym c.has_null_root.ensures ∙ c.if-has_null_root.true in
    emptied (default_segments ws) (words_in (g.A.ReaderArena.segments c.args.arena.now)) (words_in (g.A.ReaderArena.segments c.init_struct.new.arena)) (place_view c.args.slot) t holds empty c.in_ok-init_struct.ensures.value

pub returns-clause-puts : goal.returns-clause-puts
returns-clause-puts g c =
    let ws = c.words_of-words.result.now in
    let t = tree_of_message c.args.message.now in
    let holds = subst (λ bs. IsSome (decode bs) → HoldsDefault ws (default_or_null (decode bs))) c.segment.ensures c.words_of-words.ensures.value c.args.message.now.readable in
    let some : is_null_or_absent (default_segments ws) root ≡ false = sym c.has_null_root.ensures ∙ c.if-has_null_root.false in
    root_put (default_segments ws) (words_in (g.A.ReaderArena.segments c.args.arena.now)) (words_in (g.A.ReaderArena.segments c.copy_root.new.arena)) (place_view c.args.slot) c.copy_root.result t holds some (c.copy_root.ensures.puts t holds)

pub returns-in_err-init_struct-clause-cause : goal.returns-in_err-init_struct-clause-cause
returns-in_err-init_struct-clause-cause g c =
    let h = err_from_is_err_and c.from_residual.result c.from_residual.ensures.1 in
    rw (h.1, h.2) c.in_err-init_struct.ensures.cause

pub returns-clause-cause : goal.returns-clause-cause
returns-clause-cause g c =
    let ws = c.words_of-words.result.now in
    let t = tree_of_message c.args.message.now in
    let holds = subst (λ bs. IsSome (decode bs) → HoldsDefault ws (default_or_null (decode bs))) c.segment.ensures c.words_of-words.ensures.value c.args.message.now.readable in
    root_told (IsSizeOrRefusal g.A.BuilderArena.refuses) ws t (words_in (g.A.ReaderArena.segments c.copy_root.new.arena)) c.copy_root.result holds c.copy_root.ensures.why
