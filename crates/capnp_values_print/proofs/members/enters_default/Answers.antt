use Rattle.std.proofs.Common.{◌≡◌, Bool, Result, Ok, sym}
use Rattle.capnp_records.specs.NodeViews.{field_of}
use Rattle.capnp_units.specs.declared.errors.Error.{Error}
use Rattle.capnp_values.specs.Sources.{struct_seen}
use Rattle.capnp_values.specs.Shown.{has_field}
use Rattle.capnp_values_print.proofs.EntersThere.{by_presence, by_record}
use Rattle.capnp_values_print.proofs.members.enters_default.Goals as goal

got : (a b : Bool) → ◌≡◌ {A = Result Bool Error} (Ok a) (Ok b) → a ≡ b
got a b e = cc

pub returns-then-not-has_default : goal.returns-then-not-has_default
returns-then-not-has_default g c =
    let v = struct_seen g.A.ReaderArena.segments c.args.reader.source in
    λ said is. by_record c.args.reader.schema v c.args.field said c.requires.parent is c.requires.active c.has_default.result (field_of c.get_proto.result.now) c.get_proto.ensures c.has_default.ensures c.if-not-has_default.true

pub returns : goal.returns
returns g c =
    let v = struct_seen g.A.ReaderArena.segments c.args.reader.source in
    let has = sym (got c.in_ok-has.field-0 (has_field v c.args.field) c.in_ok-has.ensures) in
    λ said is. by_presence c.args.reader.schema v c.args.field said c.requires.parent is c.requires.active c.in_ok-has.field-0 c.has_default.result (field_of c.get_proto.result.now) has c.get_proto.ensures c.has_default.ensures c.if-not-has_default.false
