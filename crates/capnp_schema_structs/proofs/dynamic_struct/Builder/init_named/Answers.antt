use Rattle.std.proofs.Common.{Result, Ok, Err, inl, refl, sym, subst}
use Rattle.std.specs.Prelude.{IfOk}
use Rattle.capnp_units.specs.Segments.{words_in}
use Rattle.capnp_values_queries.specs.Structs.{shape_of_struct}
use Rattle.capnp_schema_structs.specs.Edits.{HoldsShape}
use Rattle.capnp_schema_structs.proofs.lemmas.Grown.{there_grown}
use Rattle.capnp_schema_structs.proofs.dynamic_struct.Builder.init_named.Goals as goal

pub begin_field-requires-clause-wide : goal.begin_field-requires-clause-wide
begin_field-requires-clause-wide g c = subst (λ s. HoldsShape c.args.self.now.place (shape_of_struct s)) (sym c.in_ok-found.ensures.found.parent) c.requires.ready.wide

pub returns-clause-ready : goal.returns-clause-ready
returns-clause-ready g c =
    let old = c.args.self.now in
    record { there = there_grown (words_in (g.A.ReaderArena.segments old.memory.now.arena)) (words_in (g.A.ReaderArena.segments c.begin_field.new.arena)) old.place c.begin_field.ensures.grows c.requires.ready.there; wide = c.requires.ready.wide }

both_told : {X E : Type 0} {P Q R : X → Type 0} (r : Result X E) → ((x : X) → P x → Q x → R x) → IfOk r P → IfOk r Q → IfOk r R
both_told (Ok x) f p q = f x p q
both_told (Err e) f p q = tt

pub returns-clause-puts : goal.returns-clause-puts
returns-clause-puts g c =
    inl (
      c.in_ok-found.found,
      c.in_ok-found.ensures.found,
      (
        record { same = refl; place = refl; schema = refl; puts = c.begin_field.ensures.puts; cause = c.begin_field.ensures.cause },
        both_told c.begin_field.result (λ part tells there. record { tells = tells; there = there }) c.begin_field.ensures.tells c.begin_field.ensures.there,
      ),
    )
