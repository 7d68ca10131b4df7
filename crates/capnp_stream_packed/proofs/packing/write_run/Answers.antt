use Rattle.std.proofs.Common.{◌≡◌, List, ℕ, [], length, subst, sym, ◌∙◌}
use Rattle.std.specs.Io.KnownBytes.{Appends}
use Rattle.std.proofs.KnownBytes.{Appends-nil}
use Rattle.std.proofs.lemmas.Bool.{eqb-true}
use Rattle.std.proofs.lemmas.List.{nil_from_length}
use Rattle.capnp_stream_io.specs.Streams.{RoomFalls}
use Rattle.capnp_stream.proofs.lemmas.WriteLemmas.{RoomFalls-none}
use Rattle.capnp_stream_packed.proofs.packing.write_run.Goals as goal

pub returns-then-is_empty-clause-ok : goal.returns-then-is_empty-clause-ok
returns-then-is_empty-clause-ok g c =
    let run = c.args.run.now in
    let a = g.W.Write.contents c.args.out.now in
    let none : run ≡ [] = nil_from_length run (eqb-true (length run) 0 (sym c.is_empty.ensures ∙ c.if-is_empty.true)) in
    subst (λ (l : List ℕ). Appends a a l) (sym none) (Appends-nil a)

pub returns-then-is_empty-clause-falls : goal.returns-then-is_empty-clause-falls
returns-then-is_empty-clause-falls g c =
    let a = g.W.Write.room c.args.out.now in
    let none : length c.args.run.now ≡ 0 = eqb-true (length c.args.run.now) 0 (sym c.is_empty.ensures ∙ c.if-is_empty.true) in
    subst (λ (n : ℕ). RoomFalls a a n) (sym none) (RoomFalls-none a)
