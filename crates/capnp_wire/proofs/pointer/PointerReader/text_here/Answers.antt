-- The text is the bytes before the last, which is zero.
use Rattle.std.proofs.Common.{◌≡◌, ◌==◌, true, false, ℕ, ◌-◌, ◌≤◌, length, take, List, [], Ok, Err, inl, inr, refl, arith}
use Rattle.std.specs.Prelude.{option_copied}
use Rattle.std.proofs.lemmas.Bool.Decides.{nat_tests}
use Rattle.capnp_units.specs.declared.kinds.ErrorKind.TheVariants.{TextWithoutZeroByte}
use Rattle.capnp_wire.specs.Views.{seen_pointer}
use Rattle.capnp_wire.specs.Reads.{read_bytes, as_text}
use Rattle.capnp_wire.proofs.Gets.{read_on}
use Rattle.capnp_wire.proofs.Objects.{refused_by, text_kept, text_bare}
use Rattle.capnp_wire.proofs.pointer.PointerReader.text_here.Goals as goal
use Rattle.capnp_wire.proofs.pointer.PointerReader.text_here.Goals.{then-is_empty-via-then-is_empty, then-is_empty-via-else-is_empty+then-bytes-ne0}

-- there is a byte
some_byte : (n : ℕ) → false ≡ (n == 0) → 1 ≤ n
some_byte n h = grind (arith, nat_tests)

-- there is none
no_byte : (n : ℕ) → true ≡ (n == 0) → n ≡ 0
no_byte n h = grind (arith, nat_tests)

pub returns-in-None : goal.returns-in-None
returns-in-None g c =
    let p = seen_pointer g.A.ReaderArena.segments c.args.self.now in
    read_on (λ (xs : List ℕ). xs) (read_bytes p.basis p.levels) as_text p c.args.limiter.now c.bytes_here.new.limiter (option_copied c.in_ok-bytes_here.field-0) (Ok []) (rw c.in-None.is refl) c.in_ok-bytes_here.ensures

pub overflow_sub-bytes : goal.overflow_sub-bytes
overflow_sub-bytes g c = some_byte (length c.in-Some.bytes.now) c.if-is_empty.ensures

pub returns-then-is_empty : goal.returns-then-is_empty
returns-then-is_empty g c =
    let p = seen_pointer g.A.ReaderArena.segments c.args.self.now in
    let xs : List ℕ = c.in-Some.bytes.now in
    let bare = text_bare xs (elim c.then-is_empty.branch [
      | then-is_empty-via-then-is_empty w ↦ inl (no_byte (length xs) w.if-is_empty.ensures)
      | then-is_empty-via-else-is_empty+then-bytes-ne0 w ↦ inr w.if-bytes-ne0.true
    ]) in
    read_on (λ (ys : List ℕ). ys) (read_bytes p.basis p.levels) as_text p c.args.limiter.now c.bytes_here.new.limiter (option_copied c.in_ok-bytes_here.field-0) (Err c.from.result)
    (refused_by c.from.result TextWithoutZeroByte (as_text (option_copied c.in_ok-bytes_here.field-0)) c.from.ensures (rw c.in-Some.is bare)) c.in_ok-bytes_here.ensures

pub returns-else-bytes-ne0 : goal.returns-else-bytes-ne0
returns-else-bytes-ne0 g c =
    let p = seen_pointer g.A.ReaderArena.segments c.args.self.now in
    let xs : List ℕ = c.in-Some.bytes.now in
    read_on (λ (ys : List ℕ). ys) (read_bytes p.basis p.levels) as_text p c.args.limiter.now c.bytes_here.new.limiter (option_copied c.in_ok-bytes_here.field-0) (Ok (take (length xs - 1) xs))
    (rw c.in-Some.is (text_kept xs (some_byte (length xs) c.if-is_empty.ensures) c.if-bytes-ne0.false)) c.in_ok-bytes_here.ensures
