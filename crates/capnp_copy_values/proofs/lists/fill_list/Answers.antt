use Rattle.std.specs.Bool.{⊤}
use Rattle.std.proofs.Common.{◌≡◌, ℕ, ◌+◌, ◌*◌, ◌/◌, ◌%◌, ◌^◌, ◌<◌, ◌≤◌, List, [], ◌∷◌, length, map, take, refl, replicate, Some, Result, ap, sym, ◌∙◌, subst, arith, rules, length-take-le}
use Rattle.std.specs.Option.{is_some}
use Rattle.capnp_model.specs.Sections.{number_of, words_for, words_of}
use Rattle.capnp_model.specs.Segments.{Segments, Place, words_at}
use Rattle.capnp_model.specs.Pointers.{a_list}
use Rattle.capnp_model.specs.Trees.{Tree, plain_list, pointer_list, struct_list}
use Rattle.capnp_model.specs.Traversal.{tree_at, each, each_element}
use Rattle.capnp_model.specs.Coverage.{Grows, from_each, from_elements, span}
use Rattle.capnp_model.specs.Encoding.{struct_pointer}
use Rattle.capnp_model.specs.Visits.{visits}
use Rattle.capnp_units.specs.declared.errors.Error.{Error}
use Rattle.capnp_units.specs.declared.limiter.ReadLimiter.{ReadLimiter}
use Rattle.capnp_units.specs.declared.sizes.ElementSize.{ElementSize}
use Rattle.capnp_units.specs.Segments.{words_in}
use Rattle.capnp_units.specs.Sizes.{size_number, data_bits}
use Rattle.capnp_wire_objects.specs.Places.{place_view}
use Rattle.capnp_wire_objects.specs.Inside.{met_in}
use Rattle.capnp_model_writes.specs.Writes.{with_words}
use Rattle.capnp_model_writes.proofs.lemmas.Splices.{splice_grows}
use Rattle.capnp_wire.specs.Elements.{step_bits}
use Rattle.capnp_copy_arenas.proofs.lemmas.RoomLaws.{still_some}
use Rattle.capnp_copy_values.specs.Copies.{CopyGives, Fills, FillsElements, LeavesElements, copy_of, limited_words, sized_at}
use Rattle.capnp_copy_values.specs.Objects.{copied_words, most_counted, copied_at}
use Rattle.capnp_copy_values.specs.Lists.{object_of_size, tree_of_size, listed_section}
use Rattle.capnp_copy_values.specs.declared.lists.ListSource.{ListSource}
use Rattle.capnp_copy_values.proofs.Listed.{plain_elements, plain_copied, front_elements, front_section_of, bits_of_structs}
use Rattle.capnp_copy_values.proofs.Made.{pointers_fill, structs_fill}
use Rattle.capnp_copy_arenas.specs.Refusals.{IsSizeOrRefusal}
use Rattle.capnp_copy_values.specs.Copies.{IsStoppedOr}
use Rattle.capnp_model.specs.Sizes.{each_object_words}
use Rattle.capnp_copy_arenas.specs.States.{ArenaState, state_in}
use Rattle.capnp_copy_arenas.proofs.lemmas.ZeroedWords.{written_sizes}
use Rattle.capnp_copy_values.specs.Fits.{FitsWhereRoom, HasLongList, words_behind, elements_behind, limited_arena, wanted}
use Rattle.capnp_copy_values.proofs.Fitting.{fits_after, fits_made, plain_fits}
use Rattle.capnp_copy_values.proofs.lists.fill_list.Goals as goal

-- what comes of a list with elements of a size
abbrev Gives : ℕ → Segments → ListSource → List ℕ → Segments → Segments → Place → ReadLimiter → Result ⊤ Error → ReadLimiter → ElementSize → Type 0
Gives levels from x bytes s u r old result new z =
    CopyGives (copy_of from (tree_of_size z (tree_at levels from) x (number_of 8 bytes % 2 ^ (step_bits (size_number z) x.data_words x.pointers * x.count))) (met_in (visits levels from) (object_of_size z x))) (λ v. (n : ℕ) → levels ≤ n → Fills n s u (span r (copied_words (object_of_size z x))) (copied_at r (object_of_size z x)) v) ((t : Tree) × Fills levels s u (span r (copied_words (object_of_size z x))) (copied_at r (object_of_size z x)) t) (limited_words s old) result (limited_words u new)

pub slice_bounds-fill_structs-end : goal.slice_bounds-fill_structs-end
slice_bounds-fill_structs-end g c =
    let x = c.args.list in
    let inside = subst (λ (z : ElementSize). step_bits (size_number z) x.data_words x.pointers * x.count ≤ 8 * length c.args.bytes.now) c.in-InlineComposite.is c.requires.held.1.0 in
    let bits = bits_of_structs x.count x.data_words x.pointers in
    sym (length-take-le (8 * (c.args.list.count * (c.args.list.data_words + c.args.list.pointers))) c.args.bytes.now (omega (arith, inside, bits)))

pub fill_structs-requires-clause-there : goal.fill_structs-requires-clause-there
fill_structs-requires-clause-there g c =
    let s : Segments = words_in (g.A.ReaderArena.segments c.args.arena.now) in
    let m : Segments = words_in (g.A.ReaderArena.segments c.write_word.new.self) in
    let r : Place = place_view c.args.start in
    let x = c.args.list in
    let zeros = subst (λ (z : ElementSize). words_at s r (copied_words (object_of_size z x)) ≡ Some (replicate (copied_words (object_of_size z x)) 0)) c.in-InlineComposite.is c.requires.zeros in
    still_some s m r (1 + x.count * (x.data_words + x.pointers)) (subst (λ (v : Segments). Grows s v) (sym c.write_word.ensures.words) (splice_grows s r _)) (ap is_some zeros)

pub fill_structs-requires-clause-all : goal.fill_structs-requires-clause-all
fill_structs-requires-clause-all g c =
    let x = c.args.list in
    let inside = subst (λ (z : ElementSize). step_bits (size_number z) x.data_words x.pointers * x.count ≤ 8 * length c.args.bytes.now) c.in-InlineComposite.is c.requires.held.1.0 in
    let bits = bits_of_structs x.count x.data_words x.pointers in
    length-take-le (8 * (c.args.list.count * (c.args.list.data_words + c.args.list.pointers))) c.args.bytes.now (omega (arith, inside, bits))

pub returns-in-Pointer-clause-copy : goal.returns-in-Pointer-clause-copy
returns-in-Pointer-clause-copy g c =
    let from : Segments = words_in (g.B.ReaderArena.segments c.args.source.now) in
    let s : Segments = words_in (g.A.ReaderArena.segments c.args.arena.now) in
    let u : Segments = words_in (g.A.ReaderArena.segments c.fill_row.new.arena) in
    let n = c.args.levels in
    let r : Place = place_view c.args.start in
    let x = c.args.list in
    let p : Place = place_view x.start in
    let zeros = subst (λ (z : ElementSize). words_at s r (copied_words (object_of_size z x)) ≡ Some (replicate (copied_words (object_of_size z x)) 0)) c.in-Pointer.is c.requires.zeros in
    subst (Gives n from x c.args.bytes.now s u r c.args.limiter.now c.fill_row.result c.fill_row.new.limiter) (sym c.in-Pointer.is)
    (pointers_fill n from p from (each (tree_at n from) p x.count) (from_each (visits n from) p x.count) s u r x.count c.args.limiter.now c.fill_row.new.limiter c.fill_row.result zeros c.fill_row.ensures.copy)

pub returns-in-InlineComposite-clause-copy : goal.returns-in-InlineComposite-clause-copy
returns-in-InlineComposite-clause-copy g c =
    let from : Segments = words_in (g.B.ReaderArena.segments c.args.source.now) in
    let s : Segments = words_in (g.A.ReaderArena.segments c.args.arena.now) in
    let m : Segments = words_in (g.A.ReaderArena.segments c.write_word.new.self) in
    let u : Segments = words_in (g.A.ReaderArena.segments c.fill_structs.new.arena) in
    let n = c.args.levels in
    let r : Place = place_view c.args.start in
    let x = c.args.list in
    let p : Place = place_view x.start in
    let d = x.data_words in
    let k = x.pointers in
    let zeros = subst (λ (z : ElementSize). words_at s r (copied_words (object_of_size z x)) ≡ Some (replicate (copied_words (object_of_size z x)) 0)) c.in-InlineComposite.is c.requires.zeros in
    let few = subst (λ (z : ElementSize). most_counted (object_of_size z x) < 2 ^ 29) c.in-InlineComposite.is c.requires.held.0 in
    let now : m ≡ with_words s r (struct_pointer x.count x.data_words x.pointers ∷ []) = c.write_word.ensures.words ∙ ap (λ (w : ℕ). with_words s r (w ∷ [])) c.tag_word.ensures in
    let section = front_section_of x.count x.data_words x.pointers c.args.bytes.now in
    let copy = subst (λ (a : ℕ). CopyGives (copy_of from (each_element (tree_at n from) p (words_of (x.count * (x.data_words + x.pointers)) a) d k x.count) (from_elements (visits n from) p d k x.count)) (FillsElements n m u (sized_at r d k) x.count) (LeavesElements n m u (sized_at r d k) x.count) (limited_words m c.args.limiter.now) c.fill_structs.result (limited_words u c.fill_structs.new.limiter)) section c.fill_structs.ensures.copy in
    subst (Gives n from x c.args.bytes.now s u r c.args.limiter.now c.fill_structs.result c.fill_structs.new.limiter) (sym c.in-InlineComposite.is)
    (structs_fill n from (each_element (tree_at n from) p (words_of (x.count * (x.data_words + x.pointers)) (number_of 8 c.args.bytes.now % 2 ^ (64 * (x.data_words + x.pointers) * x.count))) d k x.count) (from_elements (visits n from) p d k x.count) s m u r d k x.count c.args.limiter.now c.fill_structs.new.limiter c.fill_structs.result
    (omega (arith, few), search rules, search rules, omega (arith, few)) zeros now copy)

pub returns-in_default : goal.returns-in_default
returns-in_default g c =
    let from : Segments = words_in (g.B.ReaderArena.segments c.args.source.now) in
    let s : Segments = words_in (g.A.ReaderArena.segments c.args.arena.now) in
    let u : Segments = words_in (g.A.ReaderArena.segments c.write_elements.new.arena) in
    let n = c.args.levels in
    let r : Place = place_view c.args.start in
    let x = c.args.list in
    let y = plain_elements x.size x (listed_section x c.args.bytes.now) c.in_default.not-Pointer c.in_default.not-InlineComposite in
    let all = (c.data_bits_per_element.result * c.args.list.count + 7) / 8 in
    let step : step_bits (size_number x.size) x.data_words x.pointers * x.count ≡ data_bits (size_number x.size) * x.count = ap (λ (b : ℕ). b * x.count) y.step in
    let wide : data_bits (size_number x.size) * x.count ≤ 8 * ((c.data_bits_per_element.result * c.args.list.count + 7) / 8) = (let e : c.data_bits_per_element.result * x.count ≡ data_bits (size_number x.size) * x.count = ap (λ (b : ℕ). b * x.count) c.data_bits_per_element.ensures in omega (arith, e)) in
    let section : number_of 8 (take ((c.data_bits_per_element.result * c.args.list.count + 7) / 8) c.args.bytes.now) % 2 ^ (data_bits (size_number x.size) * x.count) ≡ listed_section x c.args.bytes.now =
    front_elements (data_bits (size_number x.size) * x.count) ((c.data_bits_per_element.result * c.args.list.count + 7) / 8) c.args.bytes.now wide ∙ ap (λ (b : ℕ). number_of 8 c.args.bytes.now % 2 ^ b) (sym step) in
    record {
      copy = plain_copied n from x (listed_section x c.args.bytes.now) s u r c.args.limiter.now y
          (λ j. subst (λ (a : ℕ). Fills j s u (span r (words_for (data_bits (size_number x.size) * x.count))) (a_list r (size_number x.size) x.count) (plain_list (size_number x.size) x.count a)) section (c.write_elements.ensures.fills j)) c.write_elements.ensures.sizes;
      cause = tt;
      fits = plain_fits (tree_at n from) x (listed_section x c.args.bytes.now) x.size c.args.start.segment (state_in g.A.ReaderArena.segments g.A.BuilderArena.room g.A.BuilderArena.books c.args.arena.now) (state_in g.A.ReaderArena.segments g.A.BuilderArena.room g.A.BuilderArena.books c.write_elements.new.arena) y c.write_elements.ensures.sizes c.write_elements.ensures.room;
      books = c.write_elements.ensures.books;
    }

pub returns-in-Pointer-clause-cause : goal.returns-in-Pointer-clause-cause
returns-in-Pointer-clause-cause g c =
    let from : Segments = words_in (g.B.ReaderArena.segments c.args.source.now) in
    subst (λ (z : ElementSize). IsStoppedOr (met_in (visits c.args.levels from) (object_of_size z c.args.list)) c.args.limiter.now c.fill_row.new.limiter (IsSizeOrRefusal g.A.BuilderArena.refuses) c.fill_row.result) (sym c.in-Pointer.is) c.fill_row.ensures.cause

pub returns-in-InlineComposite-clause-cause : goal.returns-in-InlineComposite-clause-cause
returns-in-InlineComposite-clause-cause g c =
    let from : Segments = words_in (g.B.ReaderArena.segments c.args.source.now) in
    subst (λ (z : ElementSize). IsStoppedOr (met_in (visits c.args.levels from) (object_of_size z c.args.list)) c.args.limiter.now c.fill_structs.new.limiter (IsSizeOrRefusal g.A.BuilderArena.refuses) c.fill_structs.result) (sym c.in-InlineComposite.is) c.fill_structs.ensures.cause

-- the same of what it takes
abbrev FitsBySize : ℕ → Segments → ListSource → List ℕ → ℕ → ArenaState → ArenaState → ReadLimiter → Result ⊤ Error → ReadLimiter → ElementSize → Type 0
FitsBySize levels from x bytes i s u old result new z =
    FitsWhereRoom (tree_of_size z (tree_at levels from) x (number_of 8 bytes % 2 ^ (step_bits (size_number z) x.data_words x.pointers * x.count))) (met_in (visits levels from) (object_of_size z x)) (wanted words_behind (HasLongList from) i) (limited_arena s old) result (limited_arena u new)

pub returns-in-Pointer-clause-fits : goal.returns-in-Pointer-clause-fits
returns-in-Pointer-clause-fits g c =
    let from : Segments = words_in (g.B.ReaderArena.segments c.args.source.now) in
    let n = c.args.levels in
    let x = c.args.list in
    let q : Place = place_view x.start in
    subst (FitsBySize n from x c.args.bytes.now c.args.start.segment (state_in g.A.ReaderArena.segments g.A.BuilderArena.room g.A.BuilderArena.books c.args.arena.now) (state_in g.A.ReaderArena.segments g.A.BuilderArena.room g.A.BuilderArena.books c.fill_row.new.arena) c.args.limiter.now c.fill_row.result c.fill_row.new.limiter) (sym c.in-Pointer.is)
    (fits_made each_object_words words_behind (λ ts. pointer_list ts) (each (tree_at n from) q x.count) (from_each (visits n from) q x.count) (HasLongList from) c.args.start.segment (state_in g.A.ReaderArena.segments g.A.BuilderArena.room g.A.BuilderArena.books c.args.arena.now) (state_in g.A.ReaderArena.segments g.A.BuilderArena.room g.A.BuilderArena.books c.fill_row.new.arena) c.args.limiter.now c.fill_row.new.limiter c.fill_row.result (λ ts. refl) c.fill_row.ensures.fits)

pub returns-in-InlineComposite-clause-fits : goal.returns-in-InlineComposite-clause-fits
returns-in-InlineComposite-clause-fits g c =
    let from : Segments = words_in (g.B.ReaderArena.segments c.args.source.now) in
    let s : Segments = words_in (g.A.ReaderArena.segments c.args.arena.now) in
    let n = c.args.levels in
    let x = c.args.list in
    let q : Place = place_view x.start in
    let d = x.data_words in
    let k = x.pointers in
    let section = front_section_of x.count x.data_words x.pointers c.args.bytes.now in
    let there = each_element (tree_at n from) q (words_of (x.count * (x.data_words + x.pointers)) (number_of 8 c.args.bytes.now % 2 ^ (64 * (x.data_words + x.pointers) * x.count))) d k x.count in
    let fits = subst (λ (a : ℕ). FitsWhereRoom (each_element (tree_at n from) q (words_of (x.count * (x.data_words + x.pointers)) a) d k x.count) (from_elements (visits n from) q d k x.count) (wanted elements_behind (HasLongList from) c.args.start.segment) (limited_arena (state_in g.A.ReaderArena.segments g.A.BuilderArena.room g.A.BuilderArena.books c.write_word.new.self) c.args.limiter.now) c.fill_structs.result (limited_arena (state_in g.A.ReaderArena.segments g.A.BuilderArena.room g.A.BuilderArena.books c.fill_structs.new.arena) c.fill_structs.new.limiter)) section c.fill_structs.ensures.fits in
    subst (FitsBySize n from x c.args.bytes.now c.args.start.segment (state_in g.A.ReaderArena.segments g.A.BuilderArena.room g.A.BuilderArena.books c.args.arena.now) (state_in g.A.ReaderArena.segments g.A.BuilderArena.room g.A.BuilderArena.books c.fill_structs.new.arena) c.args.limiter.now c.fill_structs.result c.fill_structs.new.limiter) (sym c.in-InlineComposite.is)
    (fits_made elements_behind words_behind (λ es. struct_list d k es) there (from_elements (visits n from) q d k x.count) (HasLongList from) c.args.start.segment (state_in g.A.ReaderArena.segments g.A.BuilderArena.room g.A.BuilderArena.books c.args.arena.now) (state_in g.A.ReaderArena.segments g.A.BuilderArena.room g.A.BuilderArena.books c.fill_structs.new.arena) c.args.limiter.now c.fill_structs.new.limiter c.fill_structs.result (λ es. refl)
    (fits_after elements_behind there (from_elements (visits n from) q d k x.count) (HasLongList from) c.args.start.segment (state_in g.A.ReaderArena.segments g.A.BuilderArena.room g.A.BuilderArena.books c.args.arena.now) (state_in g.A.ReaderArena.segments g.A.BuilderArena.room g.A.BuilderArena.books c.write_word.new.self) (state_in g.A.ReaderArena.segments g.A.BuilderArena.room g.A.BuilderArena.books c.fill_structs.new.arena) c.args.limiter.now c.fill_structs.new.limiter c.fill_structs.result (ap (λ (v : Segments). map length v) c.write_word.ensures.words ∙ written_sizes s (place_view c.args.start) _) c.write_word.ensures.room fits))
