use Rattle.std.proofs.Common.{◌≡◌, ◌++◌, sym, subst, rules}
use Rattle.std.specs.Prelude.{OnOk}
use Rattle.capnp_records.specs.NodeViews.{enumerant_of}
use Rattle.capnp_values_print.proofs.EnumNames.{name_text, value_text}
use Rattle.capnp_values_print.proofs.names.push_enum.Goals as goal

pub returns-in-Ok-Some : goal.returns-in-Ok-Some
returns-in-Ok-Some c =
    let e = c.args.value in
    let text = name_text e.schema e.value c.in-Ok-Some.enumerant (enumerant_of c.get_proto.result.now) (rw c.in-Ok-Some.field-0-is at c.in-Ok-Some.ensures) c.get_proto.ensures in
    subst (λ z. OnOk c.extend_from_slice.result (c.extend_from_slice.new.self.items ≡ c.args.out.now.items ++ z)) (sym text) (search rules)

pub returns-in-Ok-None : goal.returns-in-Ok-None
returns-in-Ok-None c =
    let e = c.args.value in
    let text = value_text e.schema e.value (rw c.in-Ok-None.field-0-is at c.in-Ok-None.ensures) in
    subst (λ z. OnOk c.push_unsigned.result (c.push_unsigned.new.out.items ≡ c.args.out.now.items ++ z)) (sym text) (search rules)
