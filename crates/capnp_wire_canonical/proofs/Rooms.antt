-- How many words there are of what is put.
use Rattle.std.proofs.Common.{◌≡◌, ℕ, ◌+◌, ◌-◌, ◌*◌, ◌<◌, ◌≤◌, List, ◌++◌, length, take, drop, Option, Some, ap, ◌∙◌, subst, arith}
use Rattle.std.proofs.Math.ListN.{set, length-set}
use Rattle.std.proofs.lemmas.List.{length-append, length-take, length-drop}
use Rattle.capnp_model.specs.Chains.{◌>>=◌}
use Rattle.capnp_model.specs.Sections.{words_of, words_for, needed_words}
use Rattle.capnp_model.specs.Trees.{Tree, structure, plain_list, pointer_list, struct_list, Trees, Elements, no_elements, element, tree_count, element_count, resized, size_bits}
use Rattle.capnp_model.specs.Trimming.{stripped, common_words, common_pointers, with_pointers, trim, trim_each, trim_elements}
use Rattle.capnp_model.specs.Encoding.{pointer, body, links, bodies, cells, element_bodies, canonical_words}
use Rattle.capnp_model.proofs.lemmas.Chaining.{bind_some, some_is}
use Rattle.capnp_model.proofs.lemmas.Numbers.{length-numbers_in}
use Rattle.capnp_model.proofs.lemmas.RoundTrip.{links_length}
use Rattle.capnp_model.proofs.lemmas.Stripping.{count-resized, resized_all}
use Rattle.capnp_model.proofs.lemmas.TrimFits.{count-trim_each, count-trim_elements}
use Rattle.capnp_wire_canonical.specs.Writes.{filled, with_link, with_links, with_cells}
use Rattle.capnp_wire_canonical.specs.Copies.{room_of, HasNoRoomFor}
use Rattle.capnp_wire_canonical.proofs.Objects.{filled_length}

-- ---- what is put takes no word away

pub link_longer : (at : ℕ) (t : Tree) (out : List ℕ) → length out ≤ length (with_link at t out)
unfolding with_link
link_longer at t out =
    let word = pointer (length out - at - 1) t in
    omega (arith, length-append (set out at word) (body t), length-set out at word)

pub links_longer : (at end : ℕ) (ts : Trees) (out : List ℕ) → at + tree_count ts ≡ end → end ≤ length out → length out ≤ length (with_links at end ts out)
unfolding with_links
links_longer at end ts out e h =
    let ls = links 0 (length out - end) ts in
    omega (arith, length-append (take at out) (ls ++ (drop end out ++ bodies ts)), length-append ls (drop end out ++ bodies ts), length-append (drop end out) (bodies ts), length-take at out, length-drop end out, links_length ts 0 (length out - end))

-- elements of so many pointers
cells_count : (es : Elements) (before d k : ℕ) → length (cells before d k (with_pointers k es)) ≡ element_count es * (d + k)
cells_count no_elements before d k = omega arith
cells_count (element section ts es) before d k =
    let us = with_pointers k es in
    let l = links (element_count us * (d + k)) before (resized k ts) in
    let c = cells (before + length (bodies (resized k ts))) d k us in
    let rest = cells_count es (before + length (bodies (resized k ts))) d k in
    omega (arith, length-append (words_of d section) (l ++ c), length-append l c, length-numbers_in 64 d section, links_length (resized k ts) (element_count us * (d + k)) before, rest, count-resized k ts)

pub cells_longer : (at end d k : ℕ) (es : Elements) (out : List ℕ) → at + element_count es * (d + k) ≡ end → end ≤ length out → length out ≤ length (with_cells at end d k (with_pointers k es) out)
unfolding with_cells
cells_longer at end d k es out e h =
    let us = with_pointers k es in
    let cs = cells (length out - end) d k us in
    omega (arith, length-append (take at out) (cs ++ (drop end out ++ element_bodies us)), length-append cs (drop end out ++ element_bodies us), length-append (drop end out) (element_bodies us), length-take at out, length-drop end out, cells_count es (length out - end) d k)

pub cell_longer : (at end d k section : ℕ) (ts : Trees) (out : List ℕ) → tree_count ts ≡ k → at + (d + k) ≡ end → end ≤ length out → length out ≤ length (with_cells at end d k (element section ts no_elements) out)
cell_longer at end d k section ts out count e h =
    let one : at + 1 * (d + k) ≡ end = omega arith in
    subst (λ (us : Trees). length out ≤ length (with_cells at end d k (element section us no_elements) out)) (resized_all k ts count) (cells_longer at end d k (element section ts no_elements) out one h)

-- ---- no room for an object

linked : (at used : ℕ) (t : Tree) (old : List (List ℕ)) → used ≤ length old → length (with_link at t (filled used old)) ≡ used + length (body t)
unfolding with_link
linked at used t old h =
    let w = filled used old in
    omega (arith, length-append (set w at (pointer (length w - at - 1) t)) (body t), length-set w at (pointer (length w - at - 1) t), filled_length used old h)

module _ (at used words : ℕ) (old : List (List ℕ)) (inside : used ≤ length old) (full : room_of old < used + words) where
  no_room_behind : (o : Option Tree) → ((t : Tree) → o ≡ Some t → words ≤ length (body (trim t))) → HasNoRoomFor o (λ t. with_link at (trim t)) used old
  no_room_behind o own = λ t is. let size = linked at used (trim t) old inside in let more = own t is in omega arith

  pub no_room_for_struct : (d' k' section : ℕ) (o : Option Trees) (d : ℕ) → words ≡ d' + k' → d' ≡ needed_words d section → ((ts : Trees) → o ≡ Some ts → tree_count (stripped (trim_each ts)) ≡ k')
      → HasNoRoomFor (o >>= λ ts. Some (structure d section ts)) (λ t. with_link at (trim t)) used old
  unfolding trim
  no_room_for_struct d' k' section o d sum data_is pointers = no_room_behind (o >>= λ ts. Some (structure d section ts)) (λ t is.
      let a = bind_some o _ t is in
      let ts = stripped (trim_each a.0) in
      let count = pointers a.0 a.1 in
      let same = ap (λ (u : Tree). length (body (trim u))) (some_is _ _ a.2) in
      let n = needed_words d section in
      omega (arith, same, count, sum, data_is, length-append (words_of n section) (links 0 0 ts ++ bodies ts), length-append (links 0 0 ts) (bodies ts), length-numbers_in 64 n section, links_length ts 0 0))

  pub no_room_for_list : (z n section : ℕ) → words ≤ words_for (size_bits z * n) → HasNoRoomFor (Some (plain_list z n section)) (λ t. with_link at (trim t)) used old
  unfolding trim
  no_room_for_list z n section few = no_room_behind (Some (plain_list z n section)) (λ t is.
      let same = ap (λ (u : Tree). length (body (trim u))) (some_is _ _ is) in
      omega (arith, same, few, length-numbers_in 64 (words_for (size_bits z * n)) section))

  pub no_room_for_pointers : (o : Option Trees) → ((ts : Trees) → o ≡ Some ts → tree_count ts ≡ words) → HasNoRoomFor (o >>= λ ts. Some (pointer_list ts)) (λ t. with_link at (trim t)) used old
  unfolding trim
  no_room_for_pointers o pointers = no_room_behind (o >>= λ ts. Some (pointer_list ts)) (λ t is.
      let a = bind_some o _ t is in
      let ts = trim_each a.0 in
      let count = pointers a.0 a.1 in
      let same = ap (λ (u : Tree). length (body (trim u))) (some_is _ _ a.2) in
      omega (arith, same, count, count-trim_each a.0, length-append (links 0 0 ts) (bodies ts), links_length ts 0 0))

  pub no_room_for_structs : (count d k d' k' : ℕ) (o : Option Elements) → words ≡ 1 + count * (d' + k') → ((es : Elements) → o ≡ Some es → (element_count es ≡ count) × (common_words d (trim_elements es) ≡ d') × (common_pointers (trim_elements es) ≡ k'))
      → HasNoRoomFor (o >>= λ es. Some (struct_list d k es)) (λ t. with_link at (trim t)) used old
  unfolding trim
  no_room_for_structs count d k d' k' o sum sizes = no_room_behind (o >>= λ es. Some (struct_list d k es)) (λ t is.
      let a = bind_some o _ t is in
      let z = sizes a.0 a.1 in
      let es = trim_elements a.0 in
      let b = common_words d es in
      let c = common_pointers es in
      let us = with_pointers c es in
      let same = ap (λ (u : Tree). length (body (trim u))) (some_is _ _ a.2) in
      let rows : element_count es * (b + c) ≡ count * (d' + k') = ap (λ (n : ℕ). n * (b + c)) (count-trim_elements a.0 ∙ z.0) ∙ ap (λ (n : ℕ). count * (n + c)) z.1 ∙ ap (λ (n : ℕ). count * (d' + n)) z.2 in
      omega (arith, same, sum, rows, length-append (cells 0 b c us) (element_bodies us), cells_count es 0 b c))

pub no_room_for_root : (o : Option Tree) (old : List (List ℕ)) → room_of old < 1 → HasNoRoomFor o (λ t words. canonical_words (trim t)) 1 old
unfolding canonical_words
no_room_for_root o old full = λ t is. omega arith
