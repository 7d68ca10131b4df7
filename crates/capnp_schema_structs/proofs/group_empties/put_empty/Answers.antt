use Rattle.std.proofs.Common.{Ok, Err, inl, refl, ap, subst}
use Rattle.capnp_model.specs.Accepted.{schema_of}
use Rattle.capnp_model.specs.Groups.{empty_tree}
use Rattle.capnp_model.specs.Sizes.{object_words}
use Rattle.capnp_model.specs.Trees.{structure, none}
use Rattle.capnp_units.specs.Errors.{kind_of}
use Rattle.capnp_units.specs.Segments.{words_in}
use Rattle.capnp_wire_objects.specs.Places.{place_view}
use Rattle.capnp_records.specs.Sets.{nodes_of}
use Rattle.capnp_values_queries.specs.Types.{ty_of}
use Rattle.capnp_schema_structs.specs.NewLists.{tree_of_new}
use Rattle.capnp_copy_arenas.specs.Refusals.{IsSizeOrRefusal}
use Rattle.capnp_copy_arenas.specs.States.{state_in}
use Rattle.capnp_schema_structs.specs.GroupSets.{PutsAny}
use Rattle.capnp_schema_structs.proofs.lemmas.AnyEdits.{puts_becomes}
use Rattle.capnp_schema_structs.proofs.EmptyValues.{no_empty, kept_stands, stands_same}
use Rattle.capnp_schema_structs.proofs.NullRefusals.{object_put}
use Rattle.capnp_schema_structs.proofs.group_empties.put_empty.Goals as goal

pub returns : goal.returns
returns g c =
    let at = state_in g.A.ReaderArena.segments g.A.BuilderArena.room g.A.BuilderArena.books in
    let t = tree_of_new c.in-Some.list 0 in
    let e = c.put_list.ensures in
    object_put (IsSizeOrRefusal g.A.BuilderArena.refuses) (at c.args.arena.now) (at c.put_list.new.arena) c.args.slot t (empty_tree (schema_of (nodes_of c.args.set.now)) (ty_of c.args.ty)) (object_words t) c.put_list.result c.in-Some.ensures.list e.made e.refused e.cause e.grows e.books

pub returns-in-Struct : goal.returns-in-Struct
returns-in-Struct g c =
    let s = words_in (g.A.ReaderArena.segments c.args.arena.now) in
    let u = words_in (g.A.ReaderArena.segments c.init_struct.new.arena) in
    let p = place_view c.args.slot in
    let e = c.in_ok-init_struct.ensures in
    record {
      puts = subst (λ y. PutsAny s u p (empty_tree (schema_of (nodes_of c.args.set.now)) y)) c.in-Struct.ensures.ty (puts_becomes s u p (structure 0 0 none) e.value);
      stands = kept_stands (Ok tt) (g.A.ReaderArena.segments c.args.arena.now) (g.A.ReaderArena.segments c.init_struct.new.arena) e.grows tt;
      why = tt;
      books = c.init_struct.ensures.books;
    }

pub returns-in_default-empty_list : goal.returns-in_default-empty_list
returns-in_default-empty_list g c =
    let s = words_in (g.A.ReaderArena.segments c.args.arena.now) in
    let none = no_empty (schema_of (nodes_of c.args.set.now)) (ty_of c.args.ty) c.which.result c.which.ensures.ty c.in_default.not-Struct c.in_default-empty_list.ensures.none in
    record { puts = tt; stands = stands_same (Err c.from.result) s; why = inl (none, ap kind_of c.from.ensures); books = refl }
