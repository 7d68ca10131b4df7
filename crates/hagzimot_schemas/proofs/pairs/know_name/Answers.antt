use Rattle.std.proofs.Common.{◌≡◌, ◌&&◌, ℕ, Bool, true, false, cond, if◌then◌else◌, Option, Some, List, string_bytes, refl, ap, sym, ◌∙◌}
use Rattle.std.specs.Map.{lookup}
use Rattle.std.specs.Str.{bytes_eq}
use Rattle.hagzimot_schemas.specs.Twins.{is_own_struct}
use Rattle.hagzimot_schemas.proofs.pairs.know_name.Goals as goal

chosen : (b : Bool) (x y : Option ℕ) → cond b x y ≡ (if b then x else y)
chosen true x y = refl
chosen false x y = refl

pub returns-in_ok-insert : goal.returns-in_ok-insert
returns-in_ok-insert c = λ l.
    let node = c.args.node.now in
    let old = lookup (λ k. bytes_eq l k.now) c.args.names.now.entries in
    c.in_ok-insert.ensures.updates.0 (record { ref_ptr = (0, 0); now = l })
    ∙ chosen (bytes_eq c.as_str.result.now l) (Some node.id) old
    ∙ ap (λ (z : List ℕ). if bytes_eq z l then Some node.id else old) c.as_str.ensures.value
    ∙ ap (λ b. if b && bytes_eq (string_bytes node.display_name) l then Some node.id else old) (sym c.if-is_own_struct.true ∙ c.is_own_struct.ensures)
