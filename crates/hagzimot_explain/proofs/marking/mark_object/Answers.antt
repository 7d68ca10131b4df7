use Rattle.std.proofs.Common.{◌≡◌, ℕ, Some, ap, ◌∙◌, arith}
use Rattle.std.specs.Option.{option_map}
use Rattle.capnp_wire_objects.specs.Places.{place_view}
use Rattle.hagzimot_explain.specs.Rows.{value_of}
use Rattle.hagzimot_explain.specs.Parts.{words_of}
use Rattle.hagzimot_explain.specs.Marks.{marked}
use Rattle.hagzimot_explain.proofs.MarkLemmas.{front_mark, object_more, no_part_more, object_all}
use Rattle.hagzimot_explain.proofs.marking.mark_object.Goals as goal
use Rattle.hagzimot_explain.proofs.marking.mark_object.Goals.{in-Some, in-None}

pub loop-i-preserved : goal.loop-i-preserved
loop-i-preserved c = λ q. elim c.match-part_in.branch [
  | in-Some w ↦ rw w.words-is (object_more c.args.pointer c.args.object (place_view c.start_of-start.result) c.loop-i.i q (Some w.in-Some.part) (value_of c.args.words.now.items q) (value_of c.loop-i.words.items q) _ c.start_of-start.ensures.place w.in-Some.ensures (c.loop-i.invariant q) (w.mark_word.ensures q))
  | in-None w ↦ rw w.words-is (no_part_more c.args.pointer c.args.object c.loop-i.i q (value_of c.args.words.now.items q) (value_of c.loop-i.words.items q) w.in-None.ensures (c.loop-i.invariant q))
]

pub returns : goal.returns
returns c = λ q.
    let count = c.words_of-i-end.ensures.words in
    let end : c.loop-i.i ≡ words_of c.args.object = omega arith in
    let old = value_of c.args.words.now.items q in
    c.loop-i.invariant q ∙ ap (λ (n : ℕ). option_map (marked (front_mark c.args.pointer c.args.object n q)) old) end ∙ object_all c.args.pointer c.args.object q old
