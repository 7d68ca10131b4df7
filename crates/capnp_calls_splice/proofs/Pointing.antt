-- What pointers tell of lists.
use Rattle.std.proofs.Common.{◌≡◌, ℕ, zero, suc, ◌+◌, ◌*◌, ◌/◌, ◌%◌, ◌^◌, ◌<◌, List, [], ◌++◌, length, get_or, ap, sym, ◌∙◌, arith}
use Rattle.std.specs.Int.{from_le_bytes, w64}
use Rattle.capnp_model.specs.Trees.{Tree, null, capability, structure, plain_list, pointer_list, struct_list, none, ◌▸◌, size_bits, element_count}
use Rattle.capnp_model.specs.Fits.{Fits}
use Rattle.capnp_model.specs.Sections.{words_for}
use Rattle.capnp_model.specs.Encoding.{pointer, struct_pointer, body, cells, element_bodies}
use Rattle.capnp_model.proofs.lemmas.Numbers.{length-numbers_in}
use Rattle.capnp_wire_canonical.specs.Writes.{filled}
use Rattle.capnp_calls_splice.specs.Splices.{IsPlainList}
use Rattle.capnp_calls_splice.specs.Cells.{IsStructs}
use Rattle.capnp_calls_splice.proofs.Segmenting.{word_is}

pub plain_is : (t : Tree) (word gap far bits : ℕ) → Fits t → gap < 2 ^ 30 → word ≡ pointer gap t → word % 4 ≡ 1 → word / 2 ^ 32 % 8 < 6 → bits ≡ size_bits (word / 2 ^ 32 % 8) → far ≡ word / 4 % 2 ^ 30
    → IsPlainList t × (far ≡ gap) × ((bits * (word / 2 ^ 35) + 63) / 64 ≡ length (body t))
plain_is null word gap far bits f near e one few width is = absurd (omega arith)
plain_is (capability i) word gap far bits f near e one few width is = absurd (omega arith)
plain_is (structure zero section none) word gap far bits f near e one few width is = absurd (omega arith)
plain_is (structure zero section (t ▸ ts)) word gap far bits f near e one few width is = absurd (omega arith)
plain_is (structure (suc d) section ts) word gap far bits f near e one few width is = absurd (omega arith)
plain_is (plain_list size n section) word gap far bits f near e one few width is =
    let small = f.0 in
    let short = f.1 in
    let of_size : word / 2 ^ 32 % 8 ≡ size = omega arith in
    let of_count : word / 2 ^ 35 ≡ n = omega arith in
    let of_bits : bits ≡ size_bits size = width ∙ ap size_bits of_size in
    (tt, omega arith, ap (λ (k : ℕ). (k * (word / 2 ^ 35) + 63) / 64) of_bits ∙ ap (λ (k : ℕ). (size_bits size * k + 63) / 64) of_count ∙ sym (length-numbers_in 64 (words_for (size_bits size * n)) section))
plain_is (pointer_list ts) word gap far bits f near e one few width is = let short = f.0 in absurd (omega arith)
plain_is (struct_list d k es) word gap far bits f near e one few width is = let short = f.3 in absurd (omega arith)

pub structs_are : (t : Tree) (word tag gap far end count n : ℕ) (xs : List (List ℕ)) (x r : List ℕ) → Fits t → gap < 2 ^ 30 → word ≡ pointer gap t → word % 4 ≡ 1 → word / 2 ^ 32 % 8 ≡ 7 → far ≡ word / 4 % 2 ^ 30
    → filled count xs ≡ x ++ (body t ++ r) → length x ≡ end + gap → end + far < length xs → tag ≡ from_le_bytes w64 (get_or xs (end + far) []) → n ≡ tag / 4 % 2 ^ 30
    → IsStructs (record { first = end + far + 1; count = n; data_words = tag / 2 ^ 32 % 2 ^ 16; pointers = tag / 2 ^ 48 }) t × (end + far + 1 ≡ end + gap + 1)
structs_are null word tag gap far end count n xs x r f near e one seven is words at inside told many = absurd (omega arith)
structs_are (capability i) word tag gap far end count n xs x r f near e one seven is words at inside told many = absurd (omega arith)
structs_are (structure zero section none) word tag gap far end count n xs x r f near e one seven is words at inside told many = absurd (omega arith)
structs_are (structure zero section (t ▸ ts)) word tag gap far end count n xs x r f near e one seven is words at inside told many = absurd (omega arith)
structs_are (structure (suc d) section ts) word tag gap far end count n xs x r f near e one seven is words at inside told many = absurd (omega arith)
structs_are (plain_list size m section) word tag gap far end count n xs x r f near e one seven is words at inside told many = let small = f.0 in absurd (omega arith)
structs_are (pointer_list ts) word tag gap far end count n xs x r f near e one seven is words at inside told many = absurd (omega arith)
structs_are (struct_list d k es) word tag gap far end count n xs x r f near e one seven is words at inside told many =
    let few_words = f.0 in
    let few_pointers = f.1 in
    let few = f.2 in
    let same : far ≡ gap = omega arith in
    let place : length x ≡ end + far = omega arith in
    let there : tag ≡ struct_pointer (element_count es) d k = word_is xs count (end + far) tag (struct_pointer (element_count es) d k) x ((cells 0 d k es ++ element_bodies es) ++ r) words place inside told in
    ((omega arith, omega arith, omega arith), omega arith)
