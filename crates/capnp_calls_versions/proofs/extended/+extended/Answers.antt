use Rattle.std.proofs.Common.{◌≡◌, ◌-◌, ℕ, true, false, List, ◌∷◌, option_map, length, take, drop, string_bytes, sym, ◌∙◌, ap}
use Rattle.std.specs.Option.{option_copied}
use Rattle.capnp_model.specs.Schemas.{type_of, Shape}
use Rattle.capnp_model.specs.Accepted.{shape_in}
use Rattle.capnp_model.specs.Steps.{target}
use Rattle.capnp_model.specs.Admitted.{is_extended, extends_fields, extends_field}
use Rattle.capnp_records.specs.NodeViews.{member_of, type_record_of, value_of}
use Rattle.capnp_records.specs.declared.node.FieldBody.{FieldBody}
use Rattle.capnp_records.specs.declared.node.FieldBody.TheVariants as B
use Rattle.capnp_records.specs.declared.node.FieldRecord.{FieldRecord}
use Rattle.capnp_records.proofs.lemmas.ListTests.{first_and_rest, no_more}
use Rattle.capnp_calls_versions.specs.declared.keeps.Levels.{Levels}
use Rattle.capnp_calls_versions.specs.Holders.{held_nodes, shape_by}
use Rattle.capnp_calls_versions.specs.Walks.{older_fields, newer_fields, kept_body, newer_body, kept_shape}
use Rattle.capnp_calls_versions.specs.Renamed.{names_in}
use Rattle.capnp_calls_versions.specs.Ways.{first_partner, older_shape, newer_shape}
use Rattle.capnp_model.specs.Partners.{in_newer_words}
use Rattle.capnp_model.proofs.lemmas.NewerWords.{newer-words}
use Rattle.capnp_calls_versions.proofs.NodesFound.{no_levels}
use Rattle.capnp_calls_versions.proofs.ExtendedGroups.{slot_not_extended, slot_for_group, group_for_group, lacking, with_partner, none_left, nothing_extends, groups_extended}
use Rattle.capnp_calls_versions.proofs.extended.+extended.Goals as goal

pub extends_field-returns-in-Slot : goal.extends_field-returns-in-Slot
extends_field-returns-in-Slot t c =
    let v = c.args.versions.now in
    let member = member_of c.args.older.now.discriminant_value in
    let older = kept_body v c.args.levels c.args.older.now.body in
    sym (ap (λ (x : FieldBody). extends_field (target member older) (newer_body v c.args.levels x)) c.in-Slot.is ∙ slot_not_extended member older c.in-Slot.offset (type_of (type_record_of c.in-Slot.ty)) (option_map value_of c.in-Slot.default))

pub extends_field-returns-in-Slot-body : goal.extends_field-returns-in-Slot-body
extends_field-returns-in-Slot-body t c =
    let v = c.args.versions.now in
    let member = member_of c.args.older.now.discriminant_value in
    sym (ap (λ (x : FieldBody). extends_field (target member (kept_body v c.args.levels c.args.older.now.body)) (newer_body v c.args.levels x)) c.in-Group.is
    ∙ ap (λ (x : FieldBody). extends_field (target member (kept_body v c.args.levels x)) (newer_body v c.args.levels (B.Group c.in-Group.other))) c.in-Slot-body.is
    ∙ slot_for_group member c.in-Slot-body.offset (type_of (type_record_of c.in-Slot-body.ty)) (option_map value_of c.in-Slot-body.default) (shape_in (held_nodes v.newer) c.args.levels.newer c.in-Group.other))

pub extends_field-returns-in-Group-body : goal.extends_field-returns-in-Group-body
extends_field-returns-in-Group-body t c =
    let v = c.args.versions.now in
    let member = member_of c.args.older.now.discriminant_value in
    c.is_extended.ensures ∙ ap (λ (g : Shape). is_extended g (newer_shape v c.args.levels c.in-Group.other)) (newer-words (names_in v.names) (older_shape v c.args.levels c.in-Group-body.node)) ∙ sym (ap (λ (x : FieldBody). extends_field (target member (kept_body v c.args.levels c.args.older.now.body)) (newer_body v c.args.levels x)) c.in-Group.is
    ∙ ap (λ (x : FieldBody). extends_field (target member (kept_body v c.args.levels x)) (newer_body v c.args.levels (B.Group c.in-Group.other))) c.in-Group-body.is
    ∙ group_for_group member (kept_shape v c.args.levels c.in-Group-body.node) (newer_shape v c.args.levels c.in-Group.other))

pub extends_fields-returns-in_default-find_partner : goal.extends_fields-returns-in_default-find_partner
extends_fields-returns-in_default-find_partner t c =
    let v = c.args.versions.now in
    let rest = c.loop-rest.rest.now in
    let first = c.first-item.result in
    let more = take (length rest - 1) (drop 1 rest) in
    let split : rest ≡ first ∷ more = first_and_rest rest first c.in-len1-up.len_at_least c.first-item.is in
    let whole : extends_fields (older_fields v c.args.levels c.args.older.id c.args.older.fields.now) (newer_fields v c.args.levels (first ∷ more)) ≡ extends_fields (older_fields v c.args.levels c.args.older.id c.args.older.fields.now) (newer_fields v c.args.levels c.args.newer.now)
    = ap (λ (xs : List FieldRecord). extends_fields (older_fields v c.args.levels c.args.older.id c.args.older.fields.now) (newer_fields v c.args.levels xs)) (sym split) ∙ c.loop-rest.invariant in
    let found : option_copied c.find_partner.result ≡ first_partner (names_in v.names) c.args.older.id (string_bytes first.name) c.args.older.fields.now = c.find_partner.ensures ∙ ap (λ (n : List ℕ). first_partner (names_in v.names) c.args.older.id n c.args.older.fields.now) c.as_str.ensures.value in
    sym (lacking v c.args.levels c.args.older.id c.args.older.fields.now first more (sym found ∙ ap option_copied c.in_default-find_partner.is)) ∙ whole

pub extends_fields-returns-then-extends_field : goal.extends_fields-returns-then-extends_field
extends_fields-returns-then-extends_field t c =
    let v = c.args.versions.now in
    let rest = c.loop-rest.rest.now in
    let first = c.first-item.result in
    let more = take (length rest - 1) (drop 1 rest) in
    let split : rest ≡ first ∷ more = first_and_rest rest first c.in-len1-up.len_at_least c.first-item.is in
    let whole : extends_fields (older_fields v c.args.levels c.args.older.id c.args.older.fields.now) (newer_fields v c.args.levels (first ∷ more)) ≡ extends_fields (older_fields v c.args.levels c.args.older.id c.args.older.fields.now) (newer_fields v c.args.levels c.args.newer.now)
    = ap (λ (xs : List FieldRecord). extends_fields (older_fields v c.args.levels c.args.older.id c.args.older.fields.now) (newer_fields v c.args.levels xs)) (sym split) ∙ c.loop-rest.invariant in
    let found : option_copied c.find_partner.result ≡ first_partner (names_in v.names) c.args.older.id (string_bytes first.name) c.args.older.fields.now = c.find_partner.ensures ∙ ap (λ (n : List ℕ). first_partner (names_in v.names) c.args.older.id n c.args.older.fields.now) c.as_str.ensures.value in
    sym (with_partner v c.args.levels c.args.older.id c.args.older.fields.now first more c.in-Some.partner.now (sym found ∙ ap option_copied c.in-Some.is) true (sym c.if-extends_field.true ∙ c.extends_field.ensures)) ∙ whole

pub extends_fields-loop-rest-preserved : goal.extends_fields-loop-rest-preserved
extends_fields-loop-rest-preserved t c =
    let v = c.args.versions.now in
    let rest = c.loop-rest.rest.now in
    let first = c.first-item.result in
    let more = take (length rest - 1) (drop 1 rest) in
    let split : rest ≡ first ∷ more = first_and_rest rest first c.in-len1-up.len_at_least c.first-item.is in
    let whole : extends_fields (older_fields v c.args.levels c.args.older.id c.args.older.fields.now) (newer_fields v c.args.levels (first ∷ more)) ≡ extends_fields (older_fields v c.args.levels c.args.older.id c.args.older.fields.now) (newer_fields v c.args.levels c.args.newer.now)
    = ap (λ (xs : List FieldRecord). extends_fields (older_fields v c.args.levels c.args.older.id c.args.older.fields.now) (newer_fields v c.args.levels xs)) (sym split) ∙ c.loop-rest.invariant in
    let found : option_copied c.find_partner.result ≡ first_partner (names_in v.names) c.args.older.id (string_bytes first.name) c.args.older.fields.now = c.find_partner.ensures ∙ ap (λ (n : List ℕ). first_partner (names_in v.names) c.args.older.id n c.args.older.fields.now) c.as_str.ensures.value in
    sym (with_partner v c.args.levels c.args.older.id c.args.older.fields.now first more c.in-Some.partner.now (sym found ∙ ap option_copied c.in-Some.is) false (sym c.if-extends_field.false ∙ c.extends_field.ensures)) ∙ whole

pub extends_fields-returns : goal.extends_fields-returns
extends_fields-returns t c =
    let v = c.args.versions.now in
    let older = older_fields v c.args.levels c.args.older.id c.args.older.fields.now in
    sym (none_left older) ∙ ap (λ (xs : List FieldRecord). extends_fields older (newer_fields v c.args.levels xs)) (sym (no_more c.loop-rest.rest.now c.in_default.len_below)) ∙ c.loop-rest.invariant

pub is_extended-returns-then-levels-eq0 : goal.is_extended-returns-then-levels-eq0
is_extended-returns-then-levels-eq0 t c =
    let v = c.args.versions.now in
    let words : Shape = in_newer_words (names_in v.names) (older_shape v c.args.levels c.args.older) in
    sym (ap (λ (g : Shape). is_extended words g) (no_levels (held_nodes v.newer) c.args.levels.newer c.args.newer c.if-levels-eq0.true) ∙ nothing_extends words)

pub is_extended-returns : goal.is_extended-returns
is_extended-returns t c =
    let v = c.args.versions.now in
    let below : Levels = record { older = c.saturating_sub.result; newer = c.args.levels.newer - 1 } in
    let first : shape_in (held_nodes v.older) c.args.levels.older c.args.older ≡ shape_by (λ g. shape_in (held_nodes v.older) c.saturating_sub.result g) c.holder-a.result
    = c.holder-a.ensures.shape ∙ ap (λ (k : ℕ). shape_by (λ g. shape_in (held_nodes v.older) k g) c.holder-a.result) (sym c.saturating_sub.ensures) in
    c.extends_fields.ensures ∙ sym (ap (λ (g : Shape). is_extended g (newer_shape v c.args.levels c.args.newer)) (newer-words (names_in v.names) (older_shape v c.args.levels c.args.older)) ∙ groups_extended v c.args.levels below c.args.older c.args.newer c.holder-a.result c.holder-b.result first c.holder-b.ensures.shape)
