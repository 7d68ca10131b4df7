use Rattle.std.proofs.Common.{◌≡◌, inl, inr, max, Some, Result, Ok, Err, sym, subst, ap, ◌∙◌, rules, arith}
use Rattle.std.specs.Result.{IsOk}
use Rattle.capnp_model.specs.Kinds.{Kind}
use Rattle.capnp_model.specs.Segments.{word_at}
use Rattle.capnp_copy_arenas.specs.declared.init.ListPlace.{ListPlace}
use Rattle.capnp_units.specs.Segments.{words_in}
use Rattle.capnp_wire_objects.specs.Places.{place_view}
use Rattle.capnp_copy_widening.specs.Widened.{GrowthRefused}
use Rattle.capnp_copy_widening.specs.WidenedLists.{list_there, WidensList, IsWideList, words_wanted, WideListRefused}
use Rattle.capnp_copy_widening.proofs.lemmas.GotStructs.{ok_then, err_then}
use Rattle.capnp_copy_widening.proofs.KnownLists.{known, leads_unless_null, known_short}
use Rattle.capnp_copy_widening.proofs.WideLists.{null_stays, wide_list_stays, most_list_widens, null_got, null_of_structs, wide_got, new_got, refused_list, nothing_taken, list_takes, if_ok_then}
use Rattle.capnp_copy_widening.proofs.Bounds.{on_err, list_takes_none, list_takes_most, list_lacks, whole_unless_null}
use Rattle.capnp_copy_widening.proofs.struct_lists.get_struct_list.Goals.{then-eq-via-then-eq, then-eq-via-else-eq+then-is_wide}
use Rattle.capnp_copy_widening.proofs.struct_lists.get_struct_list.Goals as goal

pub widen_list-requires-clause-short : goal.widen_list-requires-clause-short
widen_list-requires-clause-short g c = λ zeros.
    let s = words_in (g.A.ReaderArena.segments c.args.arena.now) in
    let p = place_view c.args.slot in
    let old = c.in_ok-old.old in
    let found : list_there s c.args.slot ≡ Ok c.in_ok-old.old = search rules in
    let some : word_at s p ≡ Some 0 → ⊥ = search rules in
    let leads = leads_unless_null s p old some c.in_ok-old.ensures.object in
    let narrow : IsWideList c.in_ok-old.old c.args.size.data_words c.args.size.pointers → ⊥ = search rules in
    let least = c.element_size-least.ensures in
    known_short s old c.args.size.data_words c.args.size.pointers (known s c.args.slot old found leads) narrow (omega (arith, zeros, c.max.ensures, c.max-2.ensures, least.0, least.1))

-- what is no list
no_fault : (x : Result ListPlace Kind) (k : Kind) → Err k ≡ x → IsOk x → ⊥
no_fault x k e h = let none : IsOk {T = ListPlace} {E = Kind} (Err k) = subst (λ (y : Result ListPlace Kind). IsOk y) (sym e) h in absurd cc

pub returns-in_err-old : goal.returns-in_err-old
returns-in_err-old g c =
    let s = words_in (g.A.ReaderArena.segments c.args.arena.now) in
    record {
      value = search rules;
      list = search rules;
      taken = search rules;
      bound = search rules;
      full = search rules;
      wide = search rules;
      refused = search rules;
      kind = search rules;
      books = search rules;
      cause = λ there. absurd (no_fault (list_there s c.args.slot) _ c.in_err-old.ensures.list there);
    }

pub returns-then-eq : goal.returns-then-eq
returns-then-eq g c =
    let s = words_in (g.A.ReaderArena.segments c.args.arena.now) in
    let p = place_view c.args.slot in
    let old = c.in_ok-old.old in
    let d = c.args.size.data_words in
    let k = c.args.size.pointers in
    let found : list_there s c.args.slot ≡ Ok c.in_ok-old.old = search rules in
    let free = g.A.BuilderArena.room c.args.arena.now in
    record {
      value = (
          elim c.then-eq.branch [
            | then-eq-via-then-eq w ↦ (let e : word_at s p ≡ Some 0 = search rules in null_stays s p d k e)
            | then-eq-via-else-eq+then-is_wide w ↦ (
                let some : word_at s p ≡ Some 0 → ⊥ = search rules in
                let leads = leads_unless_null s p old some c.in_ok-old.ensures.object in
                let wide : IsWideList c.in_ok-old.old c.args.size.data_words c.args.size.pointers = search rules in
                wide_list_stays s p old d k leads (known s c.args.slot old found leads) wide
                )
          ]
          );
      list = (
          elim c.then-eq.branch [
            | then-eq-via-then-eq w ↦ (let e : word_at s p ≡ Some 0 = search rules in let none = null_of_structs s c.args.slot old found e in null_got s c.args.slot old d k found none.0 none.1 e)
            | then-eq-via-else-eq+then-is_wide w ↦ (
                let some : word_at s p ≡ Some 0 → ⊥ = search rules in
                let leads = leads_unless_null s p old some c.in_ok-old.ensures.object in
                let wide : IsWideList c.in_ok-old.old c.args.size.data_words c.args.size.pointers = search rules in
                wide_got s c.args.slot old d k found leads (whole_unless_null s p old some c.in_ok-old.ensures.inside) wide
                )
          ]
          );
      taken = (
          elim c.then-eq.branch [
            | then-eq-via-then-eq w ↦ (let e : word_at s p ≡ Some 0 = search rules in nothing_taken s free c.args.slot d k (inl e))
            | then-eq-via-else-eq+then-is_wide w ↦ (let wide : IsWideList c.in_ok-old.old c.args.size.data_words c.args.size.pointers = search rules in nothing_taken s free c.args.slot d k (inr (old, found, wide)))
          ]
          );
      bound = list_takes_none (words_in (g.A.ReaderArena.segments c.args.arena.now)) c.args.slot c.args.size.data_words c.args.size.pointers;
      full = search rules;
      wide = search rules;
      refused = search rules;
      kind = search rules;
      books = search rules;
      cause = λ there. tt;
    }

pub returns : goal.returns
returns g c =
    let s = words_in (g.A.ReaderArena.segments c.args.arena.now) in
    let u = words_in (g.A.ReaderArena.segments c.widen_list.new.arena) in
    let p = place_view c.args.slot in
    let old = c.in_ok-old.old in
    let d = c.args.size.data_words in
    let k = c.args.size.pointers in
    let found : list_there s c.args.slot ≡ Ok c.in_ok-old.old = search rules in
    let some : word_at s p ≡ Some 0 → ⊥ = search rules in
    let leads = leads_unless_null s p old some c.in_ok-old.ensures.object in
    let least = c.element_size-least.ensures in
    let ed = c.max.ensures ∙ ap (max c.args.size.data_words) least.0 in
    let ek = c.max-2.ensures ∙ ap (max c.args.size.pointers) least.1 in
    let free = g.A.BuilderArena.room c.args.arena.now in
    let narrow : IsWideList c.in_ok-old.old c.args.size.data_words c.args.size.pointers → ⊥ = search rules in
    record {
      value = ok_then (λ o. WidensList s u p c.max.result c.max-2.result) (λ o. WidensList s u p c.args.size.data_words c.args.size.pointers) (λ o h. most_list_widens s u p old d k c.max.result c.max-2.result leads (known s c.args.slot old found leads) ed ek h) c.widen_list.result c.widen_list.ensures.value;
      list = new_got s u c.args.slot old d k c.max.result c.max-2.result found ed ek c.widen_list.result c.widen_list.ensures.object c.widen_list.ensures.list c.widen_list.ensures.inside;
      taken = if_ok_then (list_takes s free u c.args.slot old d k c.max.result c.max-2.result found ed ek) c.widen_list.result c.widen_list.ensures.taken;
      bound = if_ok_then (list_takes_most s u c.args.slot old d k c.max.result c.max-2.result found ed ek) c.widen_list.result c.widen_list.ensures.bound;
      full = on_err (list_lacks s free c.args.slot.segment (list_there s c.args.slot) old d k c.max.result c.max-2.result found ed ek) c.widen_list.result c.widen_list.ensures.full;
      wide = search rules;
      refused = search rules;
      kind = err_then (GrowthRefused s (words_wanted old c.max.result c.max-2.result)) (WideListRefused s p (list_there s c.args.slot) d k) (λ e h. refused_list s c.args.slot old d k c.max.result c.max-2.result e found some narrow ed ek h) c.widen_list.result c.widen_list.ensures.kind;
      books = search rules;
      cause = λ there. c.widen_list.ensures.cause;
    }
