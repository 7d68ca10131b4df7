use Rattle.std.proofs.Common.{◌≡◌, ℕ, Bool, true, false, List, [], get_or, ◌∙◌, ap, arith}
use Rattle.std.proofs.lemmas.List.{get_or_past}
use Rattle.capnp_records.specs.Marks.{mark_at}
use Rattle.capnp_records.specs.declared.marks.Marks.{Marks}
use Rattle.capnp_records.proofs.marks.Marks.new.Goals as goal

-- where nothing is written, all marks are 0
unmarked : (m : Marks) → m.bits.items ≡ [] → m.pointers.items ≡ [] → (pointer : Bool) (k : ℕ) → mark_at m pointer k ≡ 0
unmarked m bits pointers false k = ap (λ (xs : List ℕ). get_or xs k 0) bits ∙ get_or_past [] k 0 (omega arith)
unmarked m bits pointers true k = ap (λ (xs : List ℕ). get_or xs k 0) pointers ∙ get_or_past [] k 0 (omega arith)

pub returns : goal.returns
returns c = unmarked (record { bits = c.new.result; pointers = c.new-2.result }) c.new.ensures.items c.new-2.ensures.items
