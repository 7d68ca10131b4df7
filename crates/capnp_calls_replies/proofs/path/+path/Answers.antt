use Rattle.std.proofs.Common.{rules, ◌≡◌, ◌≢◌, ◌<◌, ◌≤◌, [], None, Some, sym, ap, refl, subst, ◌∙◌}
use Rattle.std.specs.Prelude.{map}
use Rattle.std.proofs.lemmas.Result.{IfOk-weaker}
use Rattle.capnp_model.specs.Accepted.{schema_of}
use Rattle.capnp_records.specs.Sets.{nodes_of}
use Rattle.capnp_values_queries.specs.Types.{ty_of}
use Rattle.capnp_values_queries.specs.Fields.{place_of_name}
use Rattle.capnp_values_queries.specs.declared.structs.StructSchema.{StructSchema}
use Rattle.capnp_values_queries.specs.Structs.{schema_around, fields_of_struct}
use Rattle.capnp_values.specs.Records.{reading_at_index}
use Rattle.capnp_values.specs.Shown.{shown}
use Rattle.capnp_values.specs.Sources.{struct_seen, list_seen}
use Rattle.capnp_calls.specs.CallViews.{step_view, action_view}
use Rattle.capnp_calls.specs.Replies.{reply_view}
use Rattle.capnp_calls.proofs.lemmas.PathAnswers.{some_is}
use Rattle.capnp_calls_replies.specs.Parts.{IsWayIn}
use Rattle.capnp_calls_replies.proofs.Ways.{HasWay, kind_way, element_way}
use Rattle.capnp_calls_replies.proofs.Steps.{no_name, named_reply, missing_reply, no_index}
use Rattle.capnp_calls_replies.proofs.Typed.{typed}
use Rattle.capnp_calls_replies.proofs.Parts.{field_answer, inactive_answer, element_answer, index_answer, past_answer}
use Rattle.capnp_calls_replies.proofs.path.+path.Goals as goal

-- ---- at_struct

pub at_struct-returns-in_default-clause-replied : goal.at_struct-returns-in_default-clause-replied
at_struct-returns-in_default-clause-replied g t c r rec = no_name (schema_around c.args.reader.schema) (fields_of_struct c.args.reader.schema) (map step_view c.args.path.now) (action_view c.args.action.now) r c.in_default.ensures.split

pub at_struct-returns-in-Ok-Some-clause-replied : goal.at_struct-returns-in-Ok-Some-clause-replied
at_struct-returns-in-Ok-Some-clause-replied g t c =
    let root = c.args.reader.schema in
    let v = struct_seen g.A.ReaderArena.segments c.args.reader.source in
    let f = c.in-Ok-Some.field in
    let found = rw c.in-Ok-Some.field-0-is at c.in-Ok-Some.ensures in
    let place : Some f.index ≡ place_of_name c.in-Some.name.now (fields_of_struct root) = found.index ∙ ap (λ (q : StructSchema). place_of_name c.in-Some.name.now (fields_of_struct q)) c.get_schema.ensures in
    IfOk-weaker c.at_field.result _ _ (λ reply h.
    named_reply f root v c.in-Some.name.now (map step_view c.in-Some.rest.now) (map step_view c.args.path.now) (action_view c.args.action.now) (reply_view reply) (found.parent ∙ c.get_schema.ensures) place c.in-Some.ensures.split h) c.at_field.ensures.replied

pub at_struct-returns-in-Ok-None-clause-replied : goal.at_struct-returns-in-Ok-None-clause-replied
at_struct-returns-in-Ok-None-clause-replied g t c =
    let root = c.args.reader.schema in
    let v = struct_seen g.A.ReaderArena.segments c.args.reader.source in
    let found = rw c.in-Ok-None.field-0-is at c.in-Ok-None.ensures in
    let place : None ≡ place_of_name c.in-Some.name.now (fields_of_struct root) = found.index ∙ ap (λ (q : StructSchema). place_of_name c.in-Some.name.now (fields_of_struct q)) c.get_schema.ensures in
    missing_reply root v c.in-Some.name.now (map step_view c.in-Some.rest.now) (map step_view c.args.path.now) (action_view c.args.action.now) (sym place) c.in-Some.ensures.split

-- ---- at_field

pub at_field-returns-then-not-is_active-clause-replied : goal.at_field-returns-then-not-is_active-clause-replied
at_field-returns-then-not-is_active-clause-replied g t c e r at rec =
    let some : map step_view c.args.rest.now ≢ [] = some_is step_view c.args.rest.now (sym c.is_empty.ensures ∙ c.if-is_empty.false) in
    inactive_answer (schema_around c.args.field.parent) (map step_view c.args.rest.now) (action_view c.args.action.now) e (reading_at_index c.args.field.index r) some (sym (c.is_active.ensures e r at rec) ∙ c.if-not-is_active.true)

pub at_field-returns-in-Ok-clause-replied : goal.at_field-returns-in-Ok-clause-replied
at_field-returns-in-Ok-clause-replied g t c =
    let f = c.args.field in
    let v = struct_seen g.A.ReaderArena.segments c.args.reader.source in
    let some : map step_view c.args.rest.now ≢ [] = some_is step_view c.args.rest.now (sym c.is_empty.ensures ∙ c.if-is_empty.false) in
    let got = c.in-Ok.ensures in
    IfOk-weaker c.behind.result _ _ (λ reply h e r at rec.
    field_answer c.records_are_read.ensures.fields f got.said v (map step_view c.args.rest.now) (action_view c.args.action.now) _ e r (reply_view reply) got.is got.default got.shows some at rec (sym (c.is_active.ensures e r at rec) ∙ c.if-not-is_active.false) h) c.behind.ensures.replied

pub at_field-returns-in-Err-clause-replied : goal.at_field-returns-in-Err-clause-replied
at_field-returns-in-Err-clause-replied g t c e r at rec =
    let f = c.args.field in
    let v = struct_seen g.A.ReaderArena.segments c.args.reader.source in
    let some : map step_view c.args.rest.now ≢ [] = some_is step_view c.args.rest.now (sym c.is_empty.ensures ∙ c.if-is_empty.false) in
    let got = c.in-Err.ensures in
    field_answer c.records_are_read.ensures.fields f got.said v (map step_view c.args.rest.now) (action_view c.args.action.now) _ e r _ got.is got.default got.shows some at rec (sym (c.is_active.ensures e r at rec) ∙ c.if-not-is_active.false) refl

pub at_field-behind-requires : goal.at_field-behind-requires
at_field-behind-requires g t c κs within =
    let f = c.args.field in
    let seg = g.A.ReaderArena.segments in
    let path = map step_view c.args.rest.now in
    let way : IsWayIn (shown seg c.in-Ok.value) path c.args.way.now = subst (HasWay path c.args.way.now) (sym c.in-Ok.ensures.shows) (kind_way (schema_around f.parent) path c.args.way.now (struct_seen seg c.args.reader.source) c.in-Ok.ensures.said.kind c.requires.way) in
    search rules

-- ---- at_list

pub at_list-returns-in_default-clause-replied : goal.at_list-returns-in_default-clause-replied
at_list-returns-in_default-clause-replied g t c rs are =
    no_index (schema_of (nodes_of c.args.list.set.now)) (ty_of c.args.list.element_type) (map step_view c.args.path.now) (action_view c.args.action.now) rs c.in_default.ensures.split

pub at_list-returns-then-index-len-clause-replied : goal.at_list-returns-then-index-len-clause-replied
at_list-returns-then-index-len-clause-replied g t c =
    let l = c.args.list in
    let v = list_seen g.A.ReaderArena.segments l.source in
    let ty = typed l.element_type in
    let inside : c.in-Some.index < v.count = subst (λ n. c.in-Some.index < n) c.len.ensures c.if-index-len.true in
    IfOk-weaker c.at_element.result _ _ (λ reply h rs are.
    index_answer (schema_of (nodes_of l.set.now)) ty.0 (ty_of l.element_type) ty.1 v rs are c.in-Some.index inside (map step_view c.in-Some.rest.now) (map step_view c.args.path.now) (action_view c.args.action.now) (reply_view reply) c.in-Some.ensures.split (h rs are)) c.at_element.ensures.replied

pub at_list-returns-else-index-len-clause-replied : goal.at_list-returns-else-index-len-clause-replied
at_list-returns-else-index-len-clause-replied g t c rs are =
    let l = c.args.list in
    let v = list_seen g.A.ReaderArena.segments l.source in
    let ty = typed l.element_type in
    let past : v.count ≤ c.in-Some.index = subst (λ n. n ≤ c.in-Some.index) c.len.ensures c.if-index-len.false in
    past_answer (schema_of (nodes_of l.set.now)) ty.0 (ty_of l.element_type) ty.1 v rs are c.in-Some.index past (map step_view c.in-Some.rest.now) (map step_view c.args.path.now) (action_view c.args.action.now) c.in-Some.ensures.split

-- ---- at_element

pub at_element-returns-in-Ok-clause-replied : goal.at_element-returns-in-Ok-clause-replied
at_element-returns-in-Ok-clause-replied g t c =
    let l = c.args.list in
    let v = list_seen g.A.ReaderArena.segments l.source in
    let ty = typed l.element_type in
    let some : map step_view c.args.rest.now ≢ [] = some_is step_view c.args.rest.now (sym c.is_empty.ensures ∙ c.if-is_empty.false) in
    IfOk-weaker c.behind.result _ _ (λ reply h rs are.
    element_answer c.elements_are_read.ensures (schema_of (nodes_of l.set.now)) ty.0 (ty_of l.element_type) ty.1 v rs are c.args.index c.requires.inside (map step_view c.args.rest.now) (action_view c.args.action.now) _ (reply_view reply) c.in-Ok.ensures some h) c.behind.ensures.replied

pub at_element-returns-in-Err-clause-replied : goal.at_element-returns-in-Err-clause-replied
at_element-returns-in-Err-clause-replied g t c rs are =
    let l = c.args.list in
    let v = list_seen g.A.ReaderArena.segments l.source in
    let ty = typed l.element_type in
    let some : map step_view c.args.rest.now ≢ [] = some_is step_view c.args.rest.now (sym c.is_empty.ensures ∙ c.if-is_empty.false) in
    element_answer c.elements_are_read.ensures (schema_of (nodes_of l.set.now)) ty.0 (ty_of l.element_type) ty.1 v rs are c.args.index c.requires.inside (map step_view c.args.rest.now) (action_view c.args.action.now) _ _ c.in-Err.ensures some refl

pub at_element-behind-requires : goal.at_element-behind-requires
at_element-behind-requires g t c κs within =
    let l = c.args.list in
    let seg = g.A.ReaderArena.segments in
    let path = map step_view c.args.rest.now in
    let way : IsWayIn (shown seg c.in-Ok.value) path c.args.way.now = subst (HasWay path c.args.way.now) (sym c.in-Ok.ensures) (element_way (schema_of (nodes_of l.set.now)) path c.args.way.now (ty_of l.element_type) (list_seen seg l.source) c.args.index c.requires.way) in
    search rules
