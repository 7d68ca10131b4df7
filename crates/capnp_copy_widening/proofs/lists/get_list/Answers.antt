use Rattle.std.proofs.Common.{inr, ℕ, Result, Ok, ap, sym, ◌∙◌, subst}
use Rattle.capnp_model.specs.Kinds.{Kind}
use Rattle.capnp_model.specs.Segments.{place}
use Rattle.capnp_model.specs.Pointers.{a_list}
use Rattle.capnp_units.specs.Segments.{words_in}
use Rattle.capnp_wire_objects.specs.Places.{place_view}
use Rattle.capnp_wire_objects.specs.declared.object.Object.{Object}
use Rattle.capnp_copy_arenas.specs.Elements.{IsWhole}
use Rattle.capnp_copy_arenas.specs.Lists.{object_of_list}
use Rattle.capnp_copy_widening.proofs.lemmas.WholeLists.{numbers_whole, pointers_whole, structs_named_whole, seen_inside}
use Rattle.capnp_copy_widening.proofs.lemmas.ObjectsThere.{plain_named, pointers_named, structs_named, leads_named}
use Rattle.capnp_copy_widening.proofs.lists.get_list.Goals.{in-List, in-PointerList, in-StructList}
use Rattle.capnp_copy_widening.proofs.lists.get_list.Goals as goal

pub returns-clause-object : goal.returns-clause-object
returns-clause-object g c =
    let s = words_in (g.A.ReaderArena.segments c.args.arena.now) in
    let p = place_view c.args.slot in
    let f = c.in_ok-found.found in
    elim c.match-branch-3.branch [
      | in-List w ↦ inr (leads_named s p f (object_of_list c.match-branch-3.list) (sym c.in_ok-found.ensures.found) (plain_named s c.in_ok-found.found.object w.in-List.start w.in-List.size w.in-List.count (sym c.in_ok-whole.ensures.object ∙ ap (λ (o : Object). let r : Result Object Kind = Ok o in r) w.in-List.is) ∙ ap object_of_list (sym w.list-is)))
      | in-PointerList w ↦ inr (leads_named s p f (object_of_list c.match-branch-3.list) (sym c.in_ok-found.ensures.found) (pointers_named s c.in_ok-found.found.object w.in-PointerList.start w.in-PointerList.count (sym c.in_ok-whole.ensures.object ∙ ap (λ (o : Object). let r : Result Object Kind = Ok o in r) w.in-PointerList.is) ∙ ap object_of_list (sym w.list-is)))
      | in-StructList w ↦ inr (leads_named s p f (object_of_list c.match-branch-3.list) (sym c.in_ok-found.ensures.found) (structs_named s c.in_ok-found.found.object w.in-StructList.start w.in-StructList.words w.in-StructList.count w.in-StructList.data_words w.in-StructList.pointers (sym c.in_ok-whole.ensures.object ∙ ap (λ (o : Object). let r : Result Object Kind = Ok o in r) w.in-StructList.is) ∙ ap (λ (j : ℕ). a_list (place w.in-StructList.start.segment j) 7 w.in-StructList.words) (sym w.saturating_sub.ensures) ∙ ap object_of_list (sym w.list-is)))
    ]

pub returns-clause-inside : goal.returns-clause-inside
returns-clause-inside g c =
    let s = words_in (g.A.ReaderArena.segments c.args.arena.now) in
    let inside = c.in_ok-whole.ensures.inside in
    elim c.match-branch-3.branch [
      | in-List w ↦ (let x = seen_inside s _ _ w.in-List.is inside in inr (subst (IsWhole s) (sym w.list-is) (numbers_whole s w.in-List.start w.in-List.size w.in-List.count x.0 x.1)))
      | in-PointerList w ↦ (let x = seen_inside s _ _ w.in-PointerList.is inside in inr (subst (IsWhole s) (sym w.list-is) (pointers_whole s w.in-PointerList.start w.in-PointerList.count x)))
      | in-StructList w ↦ (
          let x = seen_inside s _ _ w.in-StructList.is inside in
          let e = sym c.in_ok-whole.ensures.object ∙ ap (λ (o : Object). let r : Result Object Kind = Ok o in r) w.in-StructList.is in
          inr (subst (IsWhole s) (sym w.list-is) (structs_named_whole s c.in_ok-found.found.object w.in-StructList.start w.in-StructList.words w.in-StructList.count w.in-StructList.data_words w.in-StructList.pointers w.saturating_sub.result e w.saturating_sub.ensures x))
          )
    ]
