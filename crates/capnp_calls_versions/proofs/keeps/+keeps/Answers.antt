use Rattle.std.proofs.Common.{◌≡◌, ◌&&◌, ◌-◌, ◌∷◌, inr, ℕ, Bool, true, false, is_none, Option, Some, None, Result, List, Bor, IfOk, IfErr, IfSome, length, take, drop, string_bytes, refl, sym, ◌∙◌, ap, subst, rules}
use Rattle.std.proofs.lemmas.Result.{IfOk-weaker}
use Rattle.std.specs.Str.{bytes_eq}
use Rattle.capnp_model.specs.Accepted.{shape_in}
use Rattle.capnp_model.specs.Compatible.{Pairs, member_count, keeps_fields}
use Rattle.capnp_records.specs.NodeViews.{kind_of_field}
use Rattle.capnp_records.specs.declared.node.FieldBody.TheVariants as B
use Rattle.capnp_records.specs.declared.node.FieldRecord.{FieldRecord}
use Rattle.capnp_records.proofs.lemmas.ListTests.{first_and_rest, no_more}
use Rattle.capnp_calls_versions.specs.declared.breaks.Break.{Break}
use Rattle.capnp_calls_versions.specs.declared.breaks.Fault.{Fault}
use Rattle.capnp_calls_versions.specs.declared.breaks.Fault.TheVariants as fault
use Rattle.capnp_calls_versions.specs.declared.breaks.FieldRule.TheVariants as of_field
use Rattle.capnp_calls_versions.specs.declared.keeps.Levels.{Levels}
use Rattle.capnp_calls_versions.specs.Holders.{held_nodes, held_schema, shape_by, is_sound_kind}
use Rattle.capnp_calls_versions.specs.Pairs.{has_each, pairs_of}
use Rattle.capnp_calls_versions.specs.Walks.{Decides, fields_left, PassesField, older_schema, kept_shape, keeps_at, begins_with, older_fields, newer_fields}
use Rattle.capnp_calls_versions.specs.Faults.{left_after, Passes, IsFaultOf, IsNextFault, IsBreakOfFields, IsBreakAt}
use Rattle.capnp_model.specs.Partners.{partner_name}
use Rattle.capnp_calls_versions.specs.Renamed.{names_in}
use Rattle.capnp_calls_versions.proofs.NodesFound.{no_levels}
use Rattle.capnp_calls_versions.proofs.Scans.{front_itself, front_of_front}
use Rattle.capnp_calls_versions.proofs.Bodies.{types_test, rest_test, fields_test, nothing_to_keep, no_room, with_room, bodies_are, sound_is, other_values, other_places, other_types, same_slots, slot_and_group, group_and_slot, two_groups, moves_past, moves_nowhere, moves_on, moves_not, count_is, front_sound, rest_sound, fields_stop, fields_go, fields_end}
use Rattle.capnp_calls_versions.proofs.BrokenBodies.{some_related, breaks_type, breaks_place, breaks_default, breaks_slot, breaks_group, breaks_groups, faults_are}
use Rattle.capnp_calls_versions.proofs.Stops.{stands_first, stands_on, stops_at_fault, stops_at_end, breaks_sections, breaks_fields, begins, next_fault, passes_sound, older_within, newer_within, some_weaker}
use Rattle.capnp_calls_versions.proofs.keeps.+keeps.Goals as goal

pub keeps-returns-then-levels-eq0-clause-decides : goal.keeps-returns-then-levels-eq0-clause-decides
keeps-returns-then-levels-eq0-clause-decides t c = nothing_to_keep c.args.versions.now c.args.levels c.args.reached.now c.args.older c.args.newer (no_levels (held_nodes c.args.versions.now.older) c.args.levels.older c.args.older c.if-levels-eq0.true) c.requires.sound

pub keeps-returns-in-Some-clause-decides : goal.keeps-returns-in-Some-clause-decides
keeps-returns-in-Some-clause-decides t c =
    let below : Levels = record { older = c.args.levels.older - 1; newer = c.args.levels.newer - 1 } in
    no_room c.args.versions.now c.args.levels below c.args.older c.args.newer c.holder-a.result c.holder-b.result c.holder-a.ensures.shape c.holder-b.ensures.shape c.args.reached.now (sym c.in-Some.ensures.room) c.requires.sound

pub keeps-returns-in-Some-clause-breaks : goal.keeps-returns-in-Some-clause-breaks
keeps-returns-in-Some-clause-breaks t c =
    let below : Levels = record { older = c.args.levels.older - 1; newer = c.args.levels.newer - 1 } in
    breaks_sections c.args.versions.now c.args.levels below c.args.older c.args.newer c.holder-a.result c.holder-b.result c.holder-a.ensures.shape c.holder-b.ensures.shape c.in-Some.rule c.in-Some.ensures.rule

pub keeps-returns-clause-decides : goal.keeps-returns-clause-decides
keeps-returns-clause-decides t c =
    let below : Levels = record { older = c.args.levels.older - 1; newer = c.saturating_sub.result } in
    let newer : shape_in (held_nodes c.args.versions.now.newer) c.args.levels.newer c.args.newer ≡ shape_by (λ g. shape_in (held_nodes c.args.versions.now.newer) c.saturating_sub.result g) c.holder-b.result
    = c.holder-b.ensures.shape ∙ ap (λ (k : ℕ). shape_by (λ g. shape_in (held_nodes c.args.versions.now.newer) k g) c.holder-b.result) (sym c.saturating_sub.ensures) in
    IfOk-weaker c.keeps_fields.result _ _ (λ (o : Option Break) h. with_room c.args.versions.now c.args.levels below c.args.older c.args.newer c.holder-a.result c.holder-b.result c.holder-a.ensures.shape newer c.args.reached.now c.keeps_fields.new.reached (is_none o) (sym c.in_default.ensures.room) h) c.keeps_fields.ensures.decides

pub keeps-returns-clause-breaks : goal.keeps-returns-clause-breaks
keeps-returns-clause-breaks t c =
    let below : Levels = record { older = c.args.levels.older - 1; newer = c.saturating_sub.result } in
    let newer : shape_in (held_nodes c.args.versions.now.newer) c.args.levels.newer c.args.newer ≡ shape_by (λ g. shape_in (held_nodes c.args.versions.now.newer) c.saturating_sub.result g) c.holder-b.result
    = c.holder-b.ensures.shape ∙ ap (λ (k : ℕ). shape_by (λ g. shape_in (held_nodes c.args.versions.now.newer) k g) c.holder-b.result) (sym c.saturating_sub.ensures) in
    IfOk-weaker c.keeps_fields.result _ _ (λ (o : Option Break) h. some_weaker o _ _ (λ x k. breaks_fields c.args.versions.now c.args.levels below c.args.older c.args.newer c.holder-a.result c.holder-b.result c.holder-a.ensures.shape newer x k) h) c.keeps_fields.ensures.breaks

pub keeps_body-returns-then-not-branch-clause-decides : goal.keeps_body-returns-then-not-branch-clause-decides
keeps_body-returns-then-not-branch-clause-decides t c = bodies_are c.args.versions.now c.args.levels c.args.reached.now c.related.new.reached false c.args.older.now c.args.newer.now (B.Slot c.in-Slot.offset c.in-Slot.ty c.in-Slot.default) (B.Slot c.in-Slot-newer.place c.in-Slot-newer.kind c.in-Slot-newer.value) c.in-Slot.is c.in-Slot-newer.is
    (other_types c.args.versions.now c.args.levels c.in-Slot.offset c.in-Slot-newer.place c.in-Slot.ty c.in-Slot-newer.kind c.in-Slot.default c.in-Slot-newer.value (sound_is _ _ c.in-Slot.is c.requires.older) (sound_is _ _ c.in-Slot-newer.is c.requires.newer) c.same_default-same.ensures.older c.same_default-same.ensures.newer c.args.reached.now c.related.new.reached (c.in_ok-related-in-Slot-newer.ensures.never c.if-not-branch.true) (subst (λ (b : Bool). Decides c.args.versions.now c.args.reached.now c.related.new.reached b (types_test c.args.versions.now c.in-Slot.ty c.in-Slot-newer.kind)) c.if-not-branch.true c.in_ok-related-in-Slot-newer.ensures.decides))

pub keeps_body-returns-then-not-branch-clause-fault : goal.keeps_body-returns-then-not-branch-clause-fault
keeps_body-returns-then-not-branch-clause-fault t c = faults_are c.args.versions.now c.args.levels c.args.older.now c.args.newer.now (B.Slot c.in-Slot.offset c.in-Slot.ty c.in-Slot.default) (B.Slot c.in-Slot-newer.place c.in-Slot-newer.kind c.in-Slot-newer.value) (fault.Field of_field.Type) c.in-Slot.is c.in-Slot-newer.is
    (breaks_type c.args.versions.now c.args.levels c.in-Slot.offset c.in-Slot-newer.place c.in-Slot.ty c.in-Slot-newer.kind c.in-Slot.default c.in-Slot-newer.value (c.in_ok-related-in-Slot-newer.ensures.never c.if-not-branch.true))

pub keeps_body-returns-then-offset-place-clause-decides : goal.keeps_body-returns-then-offset-place-clause-decides
keeps_body-returns-then-offset-place-clause-decides t c = bodies_are c.args.versions.now c.args.levels c.args.reached.now c.related.new.reached false c.args.older.now c.args.newer.now (B.Slot c.in-Slot.offset c.in-Slot.ty c.in-Slot.default) (B.Slot c.in-Slot-newer.place c.in-Slot-newer.kind c.in-Slot-newer.value) c.in-Slot.is c.in-Slot-newer.is
    (other_places c.args.versions.now c.args.levels c.in-Slot.offset c.in-Slot-newer.place c.in-Slot.ty c.in-Slot-newer.kind c.in-Slot.default c.in-Slot-newer.value (sound_is _ _ c.in-Slot.is c.requires.older) (sound_is _ _ c.in-Slot-newer.is c.requires.newer) c.same_default-same.ensures.older c.same_default-same.ensures.newer c.args.reached.now c.related.new.reached c.if-offset-place.true (subst (λ (b : Bool). Decides c.args.versions.now c.args.reached.now c.related.new.reached b (types_test c.args.versions.now c.in-Slot.ty c.in-Slot-newer.kind)) c.if-not-branch.false c.in_ok-related-in-Slot-newer.ensures.decides))

pub keeps_body-returns-then-offset-place-clause-fault : goal.keeps_body-returns-then-offset-place-clause-fault
keeps_body-returns-then-offset-place-clause-fault t c = faults_are c.args.versions.now c.args.levels c.args.older.now c.args.newer.now (B.Slot c.in-Slot.offset c.in-Slot.ty c.in-Slot.default) (B.Slot c.in-Slot-newer.place c.in-Slot-newer.kind c.in-Slot-newer.value) (fault.Field of_field.Place) c.in-Slot.is c.in-Slot-newer.is
    (breaks_place c.args.versions.now c.args.levels c.in-Slot.offset c.in-Slot-newer.place c.in-Slot.ty c.in-Slot-newer.kind c.in-Slot.default c.in-Slot-newer.value (some_related c.args.versions.now c.args.reached.now c.related.new.reached c.in-Slot.ty c.in-Slot-newer.kind (subst (λ (b : Bool). Decides c.args.versions.now c.args.reached.now c.related.new.reached b (types_test c.args.versions.now c.in-Slot.ty c.in-Slot-newer.kind)) c.if-not-branch.false c.in_ok-related-in-Slot-newer.ensures.decides)) c.if-offset-place.true)

pub keeps_body-returns-then-not-same-clause-decides : goal.keeps_body-returns-then-not-same-clause-decides
keeps_body-returns-then-not-same-clause-decides t c = bodies_are c.args.versions.now c.args.levels c.args.reached.now c.related.new.reached false c.args.older.now c.args.newer.now (B.Slot c.in-Slot.offset c.in-Slot.ty c.in-Slot.default) (B.Slot c.in-Slot-newer.place c.in-Slot-newer.kind c.in-Slot-newer.value) c.in-Slot.is c.in-Slot-newer.is
    (other_values c.args.versions.now c.args.levels c.in-Slot.offset c.in-Slot-newer.place c.in-Slot.ty c.in-Slot-newer.kind c.in-Slot.default c.in-Slot-newer.value (sound_is _ _ c.in-Slot.is c.requires.older) (sound_is _ _ c.in-Slot-newer.is c.requires.newer) c.same_default-same.ensures.older c.same_default-same.ensures.newer c.args.reached.now c.related.new.reached (sym c.same_default-same.ensures.same ∙ c.if-not-same.true) (subst (λ (b : Bool). Decides c.args.versions.now c.args.reached.now c.related.new.reached b (types_test c.args.versions.now c.in-Slot.ty c.in-Slot-newer.kind)) c.if-not-branch.false c.in_ok-related-in-Slot-newer.ensures.decides))

pub keeps_body-returns-then-not-same-clause-fault : goal.keeps_body-returns-then-not-same-clause-fault
keeps_body-returns-then-not-same-clause-fault t c = faults_are c.args.versions.now c.args.levels c.args.older.now c.args.newer.now (B.Slot c.in-Slot.offset c.in-Slot.ty c.in-Slot.default) (B.Slot c.in-Slot-newer.place c.in-Slot-newer.kind c.in-Slot-newer.value) (fault.Field of_field.Default) c.in-Slot.is c.in-Slot-newer.is
    (breaks_default c.args.versions.now c.args.levels c.in-Slot.offset c.in-Slot-newer.place c.in-Slot.ty c.in-Slot-newer.kind c.in-Slot.default c.in-Slot-newer.value (sound_is _ _ c.in-Slot.is c.requires.older) (sound_is _ _ c.in-Slot-newer.is c.requires.newer) c.same_default-same.ensures.older c.same_default-same.ensures.newer (some_related c.args.versions.now c.args.reached.now c.related.new.reached c.in-Slot.ty c.in-Slot-newer.kind (subst (λ (b : Bool). Decides c.args.versions.now c.args.reached.now c.related.new.reached b (types_test c.args.versions.now c.in-Slot.ty c.in-Slot-newer.kind)) c.if-not-branch.false c.in_ok-related-in-Slot-newer.ensures.decides)) (sym c.same_default-same.ensures.same ∙ c.if-not-same.true))

pub keeps_body-returns-else-not-same-clause-decides : goal.keeps_body-returns-else-not-same-clause-decides
keeps_body-returns-else-not-same-clause-decides t c = bodies_are c.args.versions.now c.args.levels c.args.reached.now c.related.new.reached true c.args.older.now c.args.newer.now (B.Slot c.in-Slot.offset c.in-Slot.ty c.in-Slot.default) (B.Slot c.in-Slot-newer.place c.in-Slot-newer.kind c.in-Slot-newer.value) c.in-Slot.is c.in-Slot-newer.is
    (same_slots c.args.versions.now c.args.levels c.in-Slot.offset c.in-Slot-newer.place c.in-Slot.ty c.in-Slot-newer.kind c.in-Slot.default c.in-Slot-newer.value (sound_is _ _ c.in-Slot.is c.requires.older) (sound_is _ _ c.in-Slot-newer.is c.requires.newer) c.same_default-same.ensures.older c.same_default-same.ensures.newer c.args.reached.now c.related.new.reached true (sym c.same_default-same.ensures.same ∙ c.if-not-same.false) c.if-offset-place.false (subst (λ (b : Bool). Decides c.args.versions.now c.args.reached.now c.related.new.reached b (types_test c.args.versions.now c.in-Slot.ty c.in-Slot-newer.kind)) c.if-not-branch.false c.in_ok-related-in-Slot-newer.ensures.decides))

pub keeps_body-returns-in-Group-newer-clause-decides : goal.keeps_body-returns-in-Group-newer-clause-decides
keeps_body-returns-in-Group-newer-clause-decides t c = bodies_are c.args.versions.now c.args.levels c.args.reached.now c.args.reached.now false c.args.older.now c.args.newer.now (B.Slot c.in-Slot.offset c.in-Slot.ty c.in-Slot.default) (B.Group c.in-Group-newer.node) c.in-Slot.is c.in-Group-newer.is
    (slot_and_group c.args.versions.now c.args.levels c.args.reached.now c.in-Slot.offset c.in-Group-newer.node c.in-Slot.ty c.in-Slot.default c.requires.sound)

pub keeps_body-returns-in-Group-newer-clause-fault : goal.keeps_body-returns-in-Group-newer-clause-fault
keeps_body-returns-in-Group-newer-clause-fault t c = faults_are c.args.versions.now c.args.levels c.args.older.now c.args.newer.now (B.Slot c.in-Slot.offset c.in-Slot.ty c.in-Slot.default) (B.Group c.in-Group-newer.node) (fault.Field of_field.Kind) c.in-Slot.is c.in-Group-newer.is
    (breaks_slot c.args.versions.now c.args.levels c.in-Slot.offset c.in-Group-newer.node c.in-Slot.ty c.in-Slot.default)

pub keeps_body-returns-in-Slot-newer-2-clause-decides : goal.keeps_body-returns-in-Slot-newer-2-clause-decides
keeps_body-returns-in-Slot-newer-2-clause-decides t c = bodies_are c.args.versions.now c.args.levels c.args.reached.now c.args.reached.now false c.args.older.now c.args.newer.now (B.Group c.in-Group.node) (B.Slot c.in-Slot-newer-2.offset c.in-Slot-newer-2.ty c.in-Slot-newer-2.default) c.in-Group.is c.in-Slot-newer-2.is
    (group_and_slot c.args.versions.now c.args.levels c.args.reached.now c.in-Group.node c.in-Slot-newer-2.offset c.in-Slot-newer-2.ty c.in-Slot-newer-2.default c.requires.sound)

pub keeps_body-returns-in-Slot-newer-2-clause-fault : goal.keeps_body-returns-in-Slot-newer-2-clause-fault
keeps_body-returns-in-Slot-newer-2-clause-fault t c = faults_are c.args.versions.now c.args.levels c.args.older.now c.args.newer.now (B.Group c.in-Group.node) (B.Slot c.in-Slot-newer-2.offset c.in-Slot-newer-2.ty c.in-Slot-newer-2.default) (fault.Field of_field.Kind) c.in-Group.is c.in-Slot-newer-2.is
    (breaks_group c.args.versions.now c.args.levels c.in-Group.node c.in-Slot-newer-2.offset c.in-Slot-newer-2.ty c.in-Slot-newer-2.default)

pub keeps_body-returns-in-None-clause-decides : goal.keeps_body-returns-in-None-clause-decides
keeps_body-returns-in-None-clause-decides t c = bodies_are c.args.versions.now c.args.levels c.args.reached.now c.keeps.new.reached true c.args.older.now c.args.newer.now (B.Group c.in-Group.node) (B.Group c.in-Group-newer-2.other) c.in-Group.is c.in-Group-newer-2.is
    (two_groups c.args.versions.now c.args.levels c.args.reached.now c.keeps.new.reached true c.in-Group.node c.in-Group-newer-2.other (subst (λ (o : Option Break). Decides c.args.versions.now c.args.reached.now c.keeps.new.reached (is_none o) (keeps_at c.args.versions.now c.args.levels c.in-Group.node c.in-Group-newer-2.other)) c.in-None.is c.in_ok-keeps-in-Group-newer-2.ensures.decides))

pub keeps_body-returns-in-Some-clause-decides : goal.keeps_body-returns-in-Some-clause-decides
keeps_body-returns-in-Some-clause-decides t c = bodies_are c.args.versions.now c.args.levels c.args.reached.now c.keeps.new.reached false c.args.older.now c.args.newer.now (B.Group c.in-Group.node) (B.Group c.in-Group-newer-2.other) c.in-Group.is c.in-Group-newer-2.is
    (two_groups c.args.versions.now c.args.levels c.args.reached.now c.keeps.new.reached false c.in-Group.node c.in-Group-newer-2.other (subst (λ (o : Option Break). Decides c.args.versions.now c.args.reached.now c.keeps.new.reached (is_none o) (keeps_at c.args.versions.now c.args.levels c.in-Group.node c.in-Group-newer-2.other)) c.in-Some.is c.in_ok-keeps-in-Group-newer-2.ensures.decides))

pub keeps_body-returns-in-Some-clause-fault : goal.keeps_body-returns-in-Some-clause-fault
keeps_body-returns-in-Some-clause-fault t c = faults_are c.args.versions.now c.args.levels c.args.older.now c.args.newer.now (B.Group c.in-Group.node) (B.Group c.in-Group-newer-2.other) (fault.Inner c.in-Some.inner) c.in-Group.is c.in-Group-newer-2.is
    (breaks_groups c.args.versions.now c.args.levels c.in-Group.node c.in-Group-newer-2.other c.in-Some.inner (subst (λ (o : Option Break). IfSome o (IsBreakAt c.args.versions.now c.args.levels c.in-Group.node c.in-Group-newer-2.other)) c.in-Some.is c.in_ok-keeps-in-Group-newer-2.ensures.breaks))

pub keeps_fields-loop-rest-init : goal.keeps_fields-loop-rest-init
keeps_fields-loop-rest-init t c = record {
  sound = c.requires.sound;
  grows = front_itself (pairs_of c.args.reached.now);
  left_sound = c.requires.older;
  rest_sound = c.requires.newer;
  stands = stands_first c.args.versions.now c.args.levels c.args.node c.args.older.now c.args.newer.now;
  tested = λ pairs. refl;
}

pub keeps_fields-overflow_sub-due : goal.keeps_fields-overflow_sub-due
keeps_fields-overflow_sub-due t c = older_within c.args.versions.now c.args.levels c.args.node c.args.older.now c.args.newer.now c.loop-rest.left.now c.loop-rest.rest.now c.loop-rest.invariant.stands

pub keeps_fields-overflow_sub-at : goal.keeps_fields-overflow_sub-at
keeps_fields-overflow_sub-at t c = newer_within c.args.versions.now c.args.levels c.args.node c.args.older.now c.args.newer.now c.loop-rest.left.now c.loop-rest.rest.now c.loop-rest.invariant.stands

pub keeps_fields-overflow_sub-rule : goal.keeps_fields-overflow_sub-rule
keeps_fields-overflow_sub-rule t c = older_within c.args.versions.now c.args.levels c.args.node c.args.older.now c.args.newer.now c.loop-rest.left.now c.loop-rest.rest.now c.loop-rest.invariant.stands

pub keeps_fields-returns-in-Err-clause-decides : goal.keeps_fields-returns-in-Err-clause-decides
keeps_fields-returns-in-Err-clause-decides t c =
    let rest = c.loop-rest.rest.now in
    let next = c.next-item.result in
    let more = take (length rest - 1) (drop 1 rest) in
    let split : rest ≡ next ∷ more = first_and_rest rest next c.in-len1-up.len_at_least c.next-item.is in
    let all = older_fields c.args.versions.now c.args.levels c.args.node c.args.older.now in
    let count : member_count all ≡ c.member_count-count.result = count_is (λ g. kept_shape c.args.versions.now c.args.levels g) (names_in c.args.versions.now.names) c.args.node c.args.older.now ∙ sym c.member_count-count.ensures in
    let m : PassesField c.args.versions.now c.args.levels c.loop-rest.reached c.keeps_next.new.reached (fields_left c.args.node c.member_count-count.result c.loop-rest.left.now) next None
    = subst (λ (r : Result (Bor (List FieldRecord)) Fault). PassesField c.args.versions.now c.args.levels c.loop-rest.reached c.keeps_next.new.reached (fields_left c.args.node c.member_count-count.result c.loop-rest.left.now) next (left_after r)) c.in-Err.is c.in_ok-others.ensures.moves in
    fields_stop c.args.versions.now c.args.levels c.args.reached.now c.loop-rest.reached (λ pairs. keeps_fields (older_schema c.args.versions.now) (held_schema c.args.versions.now.newer) pairs (member_count all) all (newer_fields c.args.versions.now c.args.levels c.args.newer.now)) c.args.node c.member_count-count.result c.loop-rest.left.now rest c.loop-rest.invariant.grows
    (λ pairs. c.loop-rest.invariant.tested pairs ∙ ap (λ (k : ℕ). has_each pairs (pairs_of c.loop-rest.reached) && rest_test c.args.versions.now c.args.levels c.args.node k c.loop-rest.left.now (newer_fields c.args.versions.now c.args.levels rest) pairs) count)
    c.keeps_next.new.reached next more split m

pub keeps_fields-returns-in-Err-clause-breaks : goal.keeps_fields-returns-in-Err-clause-breaks
keeps_fields-returns-in-Err-clause-breaks t c =
    let rest = c.loop-rest.rest.now in
    let next = c.next-item.result in
    let more = take (length rest - 1) (drop 1 rest) in
    let split : rest ≡ next ∷ more = first_and_rest rest next c.in-len1-up.len_at_least c.next-item.is in
    let all = older_fields c.args.versions.now c.args.levels c.args.node c.args.older.now in
    let count : member_count all ≡ c.member_count-count.result = count_is (λ g. kept_shape c.args.versions.now c.args.levels g) (names_in c.args.versions.now.names) c.args.node c.args.older.now ∙ sym c.member_count-count.ensures in
    let x : IsNextFault c.args.versions.now c.args.levels c.member_count-count.result (record { id = c.args.node; fields = c.loop-rest.left.now }) next c.in-Err.fault
    = subst (λ (r : Result (Bor (List FieldRecord)) Fault). IfErr r (IsNextFault c.args.versions.now c.args.levels c.member_count-count.result (record { id = c.args.node; fields = c.loop-rest.left.now }) next)) c.in-Err.is c.in_ok-others.ensures.fault in
    subst (λ (b : Break). IsBreakOfFields c.args.versions.now c.args.levels (record { id = c.args.node; fields = c.args.older.now }) (record { id = c.args.other; fields = c.args.newer.now }) b) (sym c.break_of.ensures)
    (stops_at_fault c.args.versions.now c.args.levels c.args.node c.args.other c.args.older.now c.args.newer.now c.loop-rest.left.now rest next more c.member_count-count.result (length c.args.older.now - length c.loop-rest.left.now) (length c.args.newer.now - length rest) c.in-Err.fault
    c.loop-rest.invariant.stands split (sym count) refl refl x)

pub keeps_fields-loop-rest-preserved : goal.keeps_fields-loop-rest-preserved
keeps_fields-loop-rest-preserved t c =
    let rest = c.loop-rest.rest.now in
    let next = c.next-item.result in
    let more = take (length rest - 1) (drop 1 rest) in
    let split : rest ≡ next ∷ more = first_and_rest rest next c.in-len1-up.len_at_least c.next-item.is in
    let all = older_fields c.args.versions.now c.args.levels c.args.node c.args.older.now in
    let count : member_count all ≡ c.member_count-count.result = count_is (λ g. kept_shape c.args.versions.now c.args.levels g) (names_in c.args.versions.now.names) c.args.node c.args.older.now ∙ sym c.member_count-count.ensures in
    let m : PassesField c.args.versions.now c.args.levels c.loop-rest.reached c.keeps_next.new.reached (fields_left c.args.node c.member_count-count.result c.loop-rest.left.now) next (Some c.in-Ok.others.now)
    = subst (λ (r : Result (Bor (List FieldRecord)) Fault). PassesField c.args.versions.now c.args.levels c.loop-rest.reached c.keeps_next.new.reached (fields_left c.args.node c.member_count-count.result c.loop-rest.left.now) next (left_after r)) c.in-Ok.is c.in_ok-others.ensures.moves in
    let p : Passes (names_in c.args.versions.now.names) c.args.node c.loop-rest.left.now next c.in-Ok.others.now
    = subst (λ (r : Result (Bor (List FieldRecord)) Fault). IfOk r (λ others. Passes (names_in c.args.versions.now.names) c.args.node c.loop-rest.left.now next others.now)) c.in-Ok.is c.in_ok-others.ensures.passes in
    record {
      sound = m.sound;
      grows = front_of_front (pairs_of c.args.reached.now) (pairs_of c.loop-rest.reached) (pairs_of c.keeps_next.new.reached) c.loop-rest.invariant.grows m.grows;
      left_sound = passes_sound c.args.versions.now c.args.node c.loop-rest.left.now next c.in-Ok.others.now p c.loop-rest.invariant.left_sound;
      rest_sound = rest_sound rest next more split c.loop-rest.invariant.rest_sound;
      stands = stands_on c.args.versions.now c.args.levels c.args.node c.args.older.now c.args.newer.now c.loop-rest.left.now rest next more c.in-Ok.others.now c.loop-rest.invariant.stands split p;
      tested = λ pairs.
          fields_go c.args.versions.now c.args.levels c.args.reached.now c.loop-rest.reached (λ ps. keeps_fields (older_schema c.args.versions.now) (held_schema c.args.versions.now.newer) ps (member_count all) all (newer_fields c.args.versions.now c.args.levels c.args.newer.now)) c.args.node c.member_count-count.result c.loop-rest.left.now rest c.loop-rest.invariant.grows
          (λ ps. c.loop-rest.invariant.tested ps ∙ ap (λ (k : ℕ). has_each ps (pairs_of c.loop-rest.reached) && rest_test c.args.versions.now c.args.levels c.args.node k c.loop-rest.left.now (newer_fields c.args.versions.now c.args.levels rest) ps) count)
          c.keeps_next.new.reached next more c.in-Ok.others.now split m pairs
          ∙ ap (λ (k : ℕ). has_each pairs (pairs_of c.keeps_next.new.reached) && rest_test c.args.versions.now c.args.levels c.args.node k c.in-Ok.others.now (newer_fields c.args.versions.now c.args.levels more) pairs) (sym count);
    }

pub keeps_fields-returns-then-is_empty-clause-decides : goal.keeps_fields-returns-then-is_empty-clause-decides
keeps_fields-returns-then-is_empty-clause-decides t c =
    let rest = c.loop-rest.rest.now in
    let all = older_fields c.args.versions.now c.args.levels c.args.node c.args.older.now in
    let whole = λ (ps : Pairs). keeps_fields (older_schema c.args.versions.now) (held_schema c.args.versions.now.newer) ps (member_count all) all (newer_fields c.args.versions.now c.args.levels c.args.newer.now) in
    subst (λ (b : Bool). Decides c.args.versions.now c.args.reached.now c.loop-rest.reached b whole) (sym c.is_empty.ensures ∙ c.if-is_empty.true)
    (fields_end c.args.versions.now c.args.levels c.args.reached.now c.loop-rest.reached whole c.args.node (member_count all) c.loop-rest.left.now rest c.loop-rest.invariant.grows c.loop-rest.invariant.tested c.loop-rest.invariant.sound (no_more rest c.in_default.len_below))

pub keeps_fields-returns-clause-decides : goal.keeps_fields-returns-clause-decides
keeps_fields-returns-clause-decides t c =
    let rest = c.loop-rest.rest.now in
    let all = older_fields c.args.versions.now c.args.levels c.args.node c.args.older.now in
    let whole = λ (ps : Pairs). keeps_fields (older_schema c.args.versions.now) (held_schema c.args.versions.now.newer) ps (member_count all) all (newer_fields c.args.versions.now c.args.levels c.args.newer.now) in
    subst (λ (b : Bool). Decides c.args.versions.now c.args.reached.now c.loop-rest.reached b whole) (sym c.is_empty.ensures ∙ c.if-is_empty.false)
    (fields_end c.args.versions.now c.args.levels c.args.reached.now c.loop-rest.reached whole c.args.node (member_count all) c.loop-rest.left.now rest c.loop-rest.invariant.grows c.loop-rest.invariant.tested c.loop-rest.invariant.sound (no_more rest c.in_default.len_below))

pub keeps_fields-returns-clause-breaks : goal.keeps_fields-returns-clause-breaks
keeps_fields-returns-clause-breaks t c =
    stops_at_end c.args.versions.now c.args.levels c.args.node c.args.other c.args.older.now c.args.newer.now c.loop-rest.left.now c.loop-rest.rest.now (length c.args.older.now - length c.loop-rest.left.now)
    c.loop-rest.invariant.stands (no_more c.loop-rest.rest.now c.in_default.len_below) (sym c.is_empty.ensures ∙ c.if-is_empty.false) refl

pub keeps_next-returns-then-is_new-clause-moves : goal.keeps_next-returns-then-is_new-clause-moves
keeps_next-returns-then-is_new-clause-moves t c =
    moves_past c.args.versions.now c.args.levels c.args.reached.now c.args.node c.args.count c.args.left.now c.args.next.now (ap (begins_with (names_in c.args.versions.now.names) c.args.node c.args.left.now) (sym c.as_str.ensures.value) ∙ c.in_default.ensures.missing) (sym c.is_new.ensures ∙ c.if-is_new.true) c.requires.sound

pub keeps_next-returns-in_default-clause-moves : goal.keeps_next-returns-in_default-clause-moves
keeps_next-returns-in_default-clause-moves t c =
    moves_nowhere c.args.versions.now c.args.levels c.args.reached.now c.args.node c.args.count c.args.left.now c.args.next.now (ap (begins_with (names_in c.args.versions.now.names) c.args.node c.args.left.now) (sym c.as_str.ensures.value) ∙ c.in_default.ensures.missing) (sym c.is_new.ensures ∙ c.if-is_new.false) c.requires.sound

pub keeps_next-keeps_field-requires : goal.keeps_next-keeps_field-requires
keeps_next-keeps_field-requires t c =
    let first : is_sound_kind (kind_of_field c.in-Some.first.now.body) ≡ true = front_sound c.args.left.now c.in-Some.first.now c.in-Some.others.now c.in-Some.ensures.found c.requires.left in
    search rules

pub keeps_next-returns-in-Some-2-clause-moves : goal.keeps_next-returns-in-Some-2-clause-moves
keeps_next-returns-in-Some-2-clause-moves t c =
    moves_not c.args.versions.now c.args.levels c.args.reached.now c.keeps_field.new.reached c.args.node c.args.count c.args.left.now c.in-Some.first.now c.in-Some.others.now c.args.next.now c.in-Some.ensures.found (ap (bytes_eq (partner_name (names_in c.args.versions.now.names) c.args.node (string_bytes c.in-Some.first.now.name))) (sym c.as_str.ensures.value) ∙ c.in-Some.ensures.name)
    (subst (λ (o : Option Fault). Decides c.args.versions.now c.args.reached.now c.keeps_field.new.reached (is_none o) (fields_test c.args.versions.now c.args.levels c.in-Some.first.now c.args.next.now)) c.in-Some-2.is c.in_ok-fault.ensures.decides)

pub keeps_next-returns-in-Some-2-clause-fault : goal.keeps_next-returns-in-Some-2-clause-fault
keeps_next-returns-in-Some-2-clause-fault t c =
    next_fault c.args.versions.now c.args.levels c.args.node c.args.count c.args.left.now c.in-Some.first.now c.in-Some.others.now c.args.next.now c.in-Some-2.fault c.in-Some.ensures.found (ap (bytes_eq (partner_name (names_in c.args.versions.now.names) c.args.node (string_bytes c.in-Some.first.now.name))) (sym c.as_str.ensures.value) ∙ c.in-Some.ensures.name)
    (subst (λ (o : Option Fault). IfSome o (IsFaultOf c.args.versions.now c.args.levels c.in-Some.first.now c.args.next.now)) c.in-Some-2.is c.in_ok-fault.ensures.fault)

pub keeps_next-returns-clause-moves : goal.keeps_next-returns-clause-moves
keeps_next-returns-clause-moves t c =
    moves_on c.args.versions.now c.args.levels c.args.reached.now c.keeps_field.new.reached c.args.node c.args.count c.args.left.now c.in-Some.first.now c.in-Some.others.now c.args.next.now c.in-Some.ensures.found (ap (bytes_eq (partner_name (names_in c.args.versions.now.names) c.args.node (string_bytes c.in-Some.first.now.name))) (sym c.as_str.ensures.value) ∙ c.in-Some.ensures.name)
    (subst (λ (o : Option Fault). Decides c.args.versions.now c.args.reached.now c.keeps_field.new.reached (is_none o) (fields_test c.args.versions.now c.args.levels c.in-Some.first.now c.args.next.now)) c.in_default-2.is c.in_ok-fault.ensures.decides)

pub keeps_next-returns-clause-passes : goal.keeps_next-returns-clause-passes
keeps_next-returns-clause-passes t c =
    inr (begins (names_in c.args.versions.now.names) c.args.node c.args.left.now c.in-Some.first.now c.in-Some.others.now (string_bytes c.args.next.now.name) c.in-Some.ensures.found (ap (bytes_eq (partner_name (names_in c.args.versions.now.names) c.args.node (string_bytes c.in-Some.first.now.name))) (sym c.as_str.ensures.value) ∙ c.in-Some.ensures.name), c.in-Some.first.now, c.in-Some.ensures.found)
