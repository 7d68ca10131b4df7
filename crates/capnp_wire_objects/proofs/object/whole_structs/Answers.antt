-- The tag is the first of the words.
use Rattle.std.proofs.Common.{Result, Err, ap, sym, ◌∙◌}
use Rattle.capnp_model.specs.Kinds.{Kind}
use Rattle.capnp_units.specs.declared.kinds.ErrorKind.{ErrorKind}
use Rattle.capnp_units.specs.Errors.{kind_of}
use Rattle.capnp_wire_objects.specs.declared.object.Object.{Object}
use Rattle.capnp_units.specs.Segments.{words_in}
use Rattle.capnp_wire_objects.specs.Places.{place_view}
use Rattle.capnp_wire_objects.proofs.lemmas.Tags.{structs_found, structs_short, no_structs}
use Rattle.capnp_wire_objects.proofs.object.whole_structs.Goals as goal

abbrev refused : ErrorKind → Result Object Kind
refused k = Err (kind_of k)

pub returns-in_default : goal.returns-in_default
returns-in_default g c = record {
  object = ap refused c.from-in_default.ensures ∙ no_structs (words_in (g.A.ReaderArena.segments c.args.arena.now)) (place_view c.args.start) c.args.words c.in_ok-tag.tag
      (sym c.if-not-has_words.ensures.there) (sym c.in_ok-tag.ensures.ok_part ∙ c.word_at.ensures.word) c.pointer_of_word.result c.pointer_of_word.ensures c.in_default.not-Struct;
  inside = tt;
}

pub returns-then-count-width-clause-object : goal.returns-then-count-width-clause-object
returns-then-count-width-clause-object g c =
    ap refused c.from-then-count-width.ensures ∙ structs_short (words_in (g.A.ReaderArena.segments c.args.arena.now)) (place_view c.args.start) c.args.words c.in_ok-tag.tag
    (sym c.if-not-has_words.ensures.there) (sym c.in_ok-tag.ensures.ok_part ∙ c.word_at.ensures.word) c.in-Struct.count c.in-Struct.data_words c.in-Struct.pointers c.in-Struct.ensures c.if-count-width.true

pub returns-clause-object : goal.returns-clause-object
returns-clause-object g c =
    structs_found (words_in (g.A.ReaderArena.segments c.args.arena.now)) (place_view c.args.start) c.args.words c.in_ok-tag.tag
    (sym c.if-not-has_words.ensures.there) (sym c.in_ok-tag.ensures.ok_part ∙ c.word_at.ensures.word) c.in-Struct.count c.in-Struct.data_words c.in-Struct.pointers c.in-Struct.ensures c.if-count-width.false
