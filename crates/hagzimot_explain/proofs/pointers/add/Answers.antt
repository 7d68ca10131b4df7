use Rattle.std.proofs.Common.{◌≡◌, false, List, Option, Bool, sym, ◌∙◌, ap, subst}
use Rattle.std.specs.List.{Contains}
use Rattle.std.specs.Option.{unwrap_or}
use Rattle.std.proofs.lemmas.List.Elements.{Contains-push}
use Rattle.capnp_wire_objects.specs.declared.place.Place.{Place as Pointer}
use Rattle.capnp_wire_objects.specs.Places.{place_view}
use Rattle.hagzimot_explain.specs.Rows.{value_of}
use Rattle.hagzimot_explain.proofs.PointerLemmas.{adds_none, adds_one, seen_is}
use Rattle.hagzimot_explain.proofs.pointers.add.Goals as goal

pub returns-then-unwrap_or : goal.returns-then-unwrap_or
returns-then-unwrap_or c = record {
  adds = adds_none (λ p. p ≡ c.args.place) c.args.places.now.items c.args.seen.now.items c.requires;
  has = c.requires.seen_in (place_view c.args.place) (sym c.value_at.ensures ∙ seen_is c.value_at.result (sym c.unwrap_or.ensures ∙ c.if-unwrap_or.true));
}

pub returns : goal.returns
returns c =
    let new : unwrap_or (value_of c.args.seen.now.items (place_view c.args.place)) false ≡ false = ap (λ (o : Option Bool). unwrap_or o false) (sym c.value_at.ensures) ∙ sym c.unwrap_or.ensures ∙ c.if-unwrap_or.false in
    record {
      adds = adds_one c.args.place c.args.places.now.items c.args.seen.now.items c.set_value.new.rows.items c.requires c.set_value.ensures new c.push.new.self.items c.in_ok-push.ensures.items;
      has = subst (λ (ps : List Pointer). Contains ps c.args.place) (sym c.in_ok-push.ensures.items) (Contains-push c.args.places.now.items c.args.place);
    }
