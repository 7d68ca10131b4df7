-- Values of worked messages: their trees, costs, depths and canonical words.
use Rattle.std.proofs.Common.{◌≡◌, refl, ◌+◌, ◌-◌, ◌*◌, ◌^◌, [], ◌∷◌, ◌++◌, Some, None, true, false, length, replicate}
use Rattle.std.specs.Option.{option_map}
use Rattle.capnp_model.specs.Kinds.{OutOfBounds, MalformedFarPointer, WrongPointerKind, UnknownPointerType, NestingLimitExceeded}
use Rattle.capnp_model.specs.Faults.{faults_at}
use Rattle.capnp_model.specs.Segments.{root, place}
use Rattle.capnp_model.specs.Coverage.{covered, cover}
use Rattle.capnp_model.specs.Trees.{null, structure, plain_list, struct_list, capability, none, ◌▸◌, no_elements, element, depth, has_capability}
use Rattle.capnp_model.specs.Traversal.{tree_at, cost_at}
use Rattle.capnp_model.specs.Trimming.{trim}
use Rattle.capnp_model.specs.Encoding.{canonical_words}
use Rattle.capnp_model.specs.Canonical.{is_canonical_at, is_canonical_message}
use Rattle.capnp_model.specs.Sizes.{object_words, capability_count}

null_root : tree_at 64 ((0 ∷ []) ∷ []) root ≡ Some null
unfolding tree_at
null_root = refl

empty_struct_words : canonical_words (trim (structure 0 0 none)) ≡ 4294967292 ∷ []
unfolding canonical_words trim
empty_struct_words = refl

one_word_struct : tree_at 64 ((4294967296 ∷ 7 ∷ []) ∷ []) root ≡ Some (structure 1 7 none)
unfolding tree_at
one_word_struct = refl

far_pointer : tree_at 64 ((4294967298 ∷ []) ∷ (4294967296 ∷ 7 ∷ []) ∷ []) root ≡ Some (structure 1 7 none)
unfolding tree_at
far_pointer = refl

far_pointer_cost : cost_at 64 ((4294967298 ∷ []) ∷ (4294967296 ∷ 7 ∷ []) ∷ []) root ≡ 2
unfolding cost_at
far_pointer_cost = refl

far_pointer_words : canonical_words (trim (structure 1 7 none)) ≡ 4294967296 ∷ 7 ∷ []
unfolding canonical_words trim
far_pointer_words = refl

double_far : tree_at 64 ((4294967302 ∷ []) ∷ (8589934594 ∷ 4294967296 ∷ []) ∷ (7 ∷ []) ∷ []) root ≡ Some (structure 1 7 none)
unfolding tree_at
double_far = refl

double_far_cost : cost_at 64 ((4294967302 ∷ []) ∷ (8589934594 ∷ 4294967296 ∷ []) ∷ (7 ∷ []) ∷ []) root ≡ 3
unfolding cost_at
double_far_cost = refl

struct_depth : depth (structure 1 7 none) ≡ 1
struct_depth = refl

empty_struct_in_pad : tree_at 64 ((4294967302 ∷ []) ∷ (8589934594 ∷ 0 ∷ []) ∷ (7 ∷ []) ∷ []) root ≡ Some (structure 0 0 none)
unfolding tree_at
empty_struct_in_pad = refl

far_pointer_in_pad : tree_at 64 ((4294967302 ∷ []) ∷ (8589934594 ∷ 2 ∷ []) ∷ (7 ∷ []) ∷ []) root ≡ None
unfolding tree_at
far_pointer_in_pad = refl

far_pointer_in_pad_kind : faults_at 64 ((4294967302 ∷ []) ∷ (8589934594 ∷ 2 ∷ []) ∷ (7 ∷ []) ∷ []) root ≡ MalformedFarPointer ∷ []
unfolding faults_at
far_pointer_in_pad_kind = refl

segment_not_there : tree_at 64 ((21474836482 ∷ []) ∷ []) root ≡ None
unfolding tree_at
segment_not_there = refl

segment_not_there_kind : faults_at 64 ((21474836482 ∷ []) ∷ []) root ≡ OutOfBounds ∷ []
unfolding faults_at
segment_not_there_kind = refl

byte_list : tree_at 64 ((77309411329 ∷ 16961 ∷ []) ∷ []) root ≡ Some (plain_list 2 2 16961)
unfolding tree_at
byte_list = refl

byte_list_with_more_bits : tree_at 64 ((77309411329 ∷ 4407873 ∷ []) ∷ []) root ≡ Some (plain_list 2 2 16961)
unfolding tree_at
byte_list_with_more_bits = refl

text_field : tree_at 64 ((281474976710656 ∷ 111669149697 ∷ 26984 ∷ []) ∷ []) root ≡ Some (structure 0 0 ((plain_list 2 3 26984) ▸ none))
unfolding tree_at
text_field = refl

text_field_words : canonical_words (trim (structure 1 0 ((plain_list 2 3 26984) ▸ (null ▸ none)))) ≡ 281474976710656 ∷ 111669149697 ∷ 26984 ∷ []
unfolding canonical_words trim
text_field_words = refl

text_field_depth : depth (structure 0 0 ((plain_list 2 3 26984) ▸ none)) ≡ 2
text_field_depth = refl

void_list : tree_at 64 ((562949953421312 ∷ 0 ∷ 18446744039349813249 ∷ []) ∷ []) root ≡ Some (structure 0 0 (null ▸ (plain_list 0 536870911 0 ▸ none)))
unfolding tree_at
void_list = refl

void_list_cost : cost_at 64 ((562949953421312 ∷ 0 ∷ 18446744039349813249 ∷ []) ∷ []) root ≡ 536870913
unfolding cost_at
void_list_cost = refl

struct_list_value : tree_at 64 ((281474976710656 ∷ 167503724545 ∷ 281479271677960 ∷ 5 ∷ 0 ∷ 6 ∷ 0 ∷ []) ∷ []) root ≡ Some (structure 0 0 ((struct_list 1 1 (element 5 (null ▸ none) (element 6 (null ▸ none) no_elements))) ▸ none))
unfolding tree_at
struct_list_value = refl

struct_list_cost : cost_at 64 ((281474976710656 ∷ 167503724545 ∷ 281479271677960 ∷ 5 ∷ 0 ∷ 6 ∷ 0 ∷ []) ∷ []) root ≡ 6
unfolding cost_at
struct_list_cost = refl

struct_list_depth : depth (structure 0 0 ((struct_list 1 1 (element 5 (null ▸ none) (element 6 (null ▸ none) no_elements))) ▸ none)) ≡ 2
struct_list_depth = refl

struct_list_words : canonical_words (trim (structure 0 0 ((struct_list 1 1 (element 5 (null ▸ none) (element 6 (null ▸ none) no_elements))) ▸ none))) ≡ 281474976710656 ∷ 98784247809 ∷ 4294967304 ∷ 5 ∷ 6 ∷ []
unfolding canonical_words trim
struct_list_words = refl

too_deep : tree_at 1 ((281474976710656 ∷ 111669149697 ∷ 26984 ∷ []) ∷ []) root ≡ None
unfolding tree_at
too_deep = refl

trailing_zero_word : tree_at 64 ((12884901888 ∷ 1229782938247303441 ∷ 9223372036854775808 ∷ 0 ∷ []) ∷ []) root ≡ Some (structure 3 170141183460469231732917086654131409169 none)
unfolding tree_at
trailing_zero_word = refl

trailing_zero_word_trimmed : canonical_words (trim (structure 3 170141183460469231732917086654131409169 none)) ≡ 8589934592 ∷ 1229782938247303441 ∷ 9223372036854775808 ∷ []
unfolding canonical_words trim
trailing_zero_word_trimmed = refl

canonical_message : tree_at 64 ((562949953421312 ∷ 4294967300 ∷ 4294967292 ∷ 17216961135462248174 ∷ []) ∷ []) root ≡ Some (structure 0 0 ((structure 1 17216961135462248174 none) ▸ ((structure 0 0 none) ▸ none)))
unfolding tree_at
canonical_message = refl

canonical_message_words : canonical_words (trim (structure 0 0 ((structure 1 17216961135462248174 none) ▸ ((structure 0 0 none) ▸ none)))) ≡ 562949953421312 ∷ 4294967300 ∷ 4294967292 ∷ 17216961135462248174 ∷ []
unfolding canonical_words trim
canonical_message_words = refl

no_root_word : tree_at 64 ([] ∷ []) root ≡ None
unfolding tree_at
no_root_word = refl

no_root_word_kind : faults_at 64 ([] ∷ []) root ≡ OutOfBounds ∷ []
unfolding faults_at
no_root_word_kind = refl

list_as_root : tree_at 64 ((1 ∷ []) ∷ []) root ≡ Some (plain_list 0 0 0)
unfolding tree_at
list_as_root = refl

capability_as_root : tree_at 64 ((3 ∷ []) ∷ []) root ≡ Some (capability 0)
unfolding tree_at
capability_as_root = refl

wide_elements : tree_at 64 ((281474976710656 ∷ 236223201281 ∷ 12884901896 ∷ 1 ∷ 0 ∷ 0 ∷ 2 ∷ 0 ∷ 0 ∷ []) ∷ []) root ≡ Some (structure 0 0 ((struct_list 3 0 (element 1 none (element 2 none no_elements))) ▸ none))
unfolding tree_at
wide_elements = refl

wide_elements_cost : cost_at 64 ((281474976710656 ∷ 236223201281 ∷ 12884901896 ∷ 1 ∷ 0 ∷ 0 ∷ 2 ∷ 0 ∷ 0 ∷ []) ∷ []) root ≡ 8
unfolding cost_at
wide_elements_cost = refl

wide_elements_trimmed : canonical_words (trim (structure 0 0 ((struct_list 3 0 (element 1 none (element 2 none no_elements))) ▸ none))) ≡ 281474976710656 ∷ 98784247809 ∷ 4294967304 ∷ 1 ∷ 2 ∷ []
unfolding canonical_words trim
wide_elements_trimmed = refl

widened_byte_list : tree_at 64 ((133143986177 ∷ 4294967308 ∷ 1 ∷ 2 ∷ 3 ∷ []) ∷ []) root ≡ Some (struct_list 1 0 (element 1 none (element 2 none (element 3 none no_elements))))
unfolding tree_at
widened_byte_list = refl

widened_byte_list_words : canonical_words (trim (struct_list 1 1 (element 1 (null ▸ none) (element 2 (null ▸ none) (element 3 (null ▸ none) no_elements))))) ≡ 133143986177 ∷ 4294967308 ∷ 1 ∷ 2 ∷ 3 ∷ []
unfolding canonical_words trim
widened_byte_list_words = refl

value_in_second_segment : tree_at 64 ((4294967298 ∷ []) ∷ (4294967296 ∷ 506097522914230528 ∷ []) ∷ []) root ≡ Some (structure 1 506097522914230528 none)
unfolding tree_at
value_in_second_segment = refl

cycle : tree_at 64 ((281474976710656 ∷ 281479271677948 ∷ []) ∷ []) root ≡ None
unfolding tree_at
cycle = refl

cycle_with_many_levels : tree_at 2000 ((281474976710656 ∷ 281479271677948 ∷ []) ∷ []) root ≡ None
unfolding tree_at
cycle_with_many_levels = refl

cycle_cost : cost_at 64 ((281474976710656 ∷ 281479271677948 ∷ []) ∷ []) root ≡ 64
unfolding cost_at
cycle_cost = refl

shared_target : tree_at 64 ((562949953421312 ∷ 4294967300 ∷ 4294967296 ∷ 7 ∷ []) ∷ []) root ≡ Some (structure 0 0 ((structure 1 7 none) ▸ ((structure 1 7 none) ▸ none)))
unfolding tree_at
shared_target = refl

shared_target_cost : cost_at 64 ((562949953421312 ∷ 4294967300 ∷ 4294967296 ∷ 7 ∷ []) ∷ []) root ≡ 4
unfolding cost_at
shared_target_cost = refl

shared_target_words : canonical_words (trim (structure 0 0 ((structure 1 7 none) ▸ ((structure 1 7 none) ▸ none)))) ≡ 562949953421312 ∷ 4294967300 ∷ 4294967300 ∷ 7 ∷ 7 ∷ []
unfolding canonical_words trim
shared_target_words = refl

many_empty_structs_cost : cost_at 64 ((281474976710656 ∷ 30064771073 ∷ 3992 ∷ []) ∷ []) root ≡ 1000
unfolding cost_at
many_empty_structs_cost = refl

one_empty_struct_more_cost : cost_at 64 ((281474976710656 ∷ 30064771073 ∷ 3996 ∷ []) ∷ []) root ≡ 1001
unfolding cost_at
one_empty_struct_more_cost = refl

many_empty_structs_stay : option_map (λ t. canonical_words (trim t)) (tree_at 64 ((281474976710656 ∷ 30064771073 ∷ 3992 ∷ []) ∷ []) root) ≡ Some (281474976710656 ∷ 30064771073 ∷ 3992 ∷ [])
unfolding tree_at canonical_words trim
many_empty_structs_stay = refl

object_in_front_of_its_segment : faults_at 64 ((8589934584 ∷ []) ∷ []) root ≡ OutOfBounds ∷ []
unfolding faults_at
object_in_front_of_its_segment = refl

tag_of_another_form : faults_at 64 ((64424509441 ∷ 4294967297 ∷ 0 ∷ []) ∷ []) root ≡ WrongPointerKind ∷ []
unfolding faults_at
tag_of_another_form = refl

elements_past_their_words : faults_at 64 ((64424509441 ∷ 4294967304 ∷ 0 ∷ []) ∷ []) root ≡ OutOfBounds ∷ []
unfolding faults_at
elements_past_their_words = refl

far_pointer_in_a_short_pad : faults_at 64 ((4294967298 ∷ []) ∷ (2 ∷ []) ∷ []) root ≡ MalformedFarPointer ∷ []
unfolding faults_at
far_pointer_in_a_short_pad = refl

empty_struct_in_a_short_pad : tree_at 64 ((4294967298 ∷ []) ∷ (0 ∷ []) ∷ []) root ≡ Some (structure 0 0 none)
unfolding tree_at
empty_struct_in_a_short_pad = refl

struct_with_no_level : faults_at 0 ((4294967296 ∷ 7 ∷ []) ∷ []) root ≡ NestingLimitExceeded ∷ []
unfolding faults_at
struct_with_no_level = refl

list_with_no_level : faults_at 0 ((1 ∷ []) ∷ []) root ≡ NestingLimitExceeded ∷ []
unfolding faults_at
list_with_no_level = refl

null_with_no_level : faults_at 0 ((0 ∷ []) ∷ []) root ≡ []
unfolding faults_at
null_with_no_level = refl

object_not_there : faults_at 64 ((4294967296 ∷ []) ∷ []) root ≡ OutOfBounds ∷ []
unfolding faults_at
object_not_there = refl

pad_not_there : faults_at 64 ((18 ∷ 0 ∷ []) ∷ []) root ≡ OutOfBounds ∷ []
unfolding faults_at
pad_not_there = refl

segment_of_a_long_pad_not_there : faults_at 64 ((4294967302 ∷ []) ∷ (38654705666 ∷ 4294967296 ∷ []) ∷ []) root ≡ OutOfBounds ∷ []
unfolding faults_at
segment_of_a_long_pad_not_there = refl

nothing_is_walked_below_an_object_not_there : faults_at 64 ((281483566645248 ∷ 0 ∷ 7 ∷ []) ∷ []) root ≡ OutOfBounds ∷ []
unfolding faults_at
nothing_is_walked_below_an_object_not_there = refl

too_deep_kind : faults_at 1 ((281474976710656 ∷ 111669149697 ∷ 26984 ∷ []) ∷ []) root ≡ NestingLimitExceeded ∷ []
unfolding faults_at
too_deep_kind = refl

cycle_kind : faults_at 64 ((281474976710656 ∷ 281479271677948 ∷ []) ∷ []) root ≡ NestingLimitExceeded ∷ []
unfolding faults_at
cycle_kind = refl

capability_with_a_further_bit : faults_at 64 ((7 ∷ []) ∷ []) root ≡ UnknownPointerType ∷ []
unfolding faults_at
capability_with_a_further_bit = refl

capability_with_a_further_bit_in_a_pad : faults_at 64 ((4294967298 ∷ []) ∷ (7 ∷ []) ∷ []) root ≡ UnknownPointerType ∷ []
unfolding faults_at
capability_with_a_further_bit_in_a_pad = refl

capability_with_a_further_bit_in_a_long_pad : faults_at 64 ((4294967302 ∷ []) ∷ (8589934594 ∷ 7 ∷ []) ∷ (7 ∷ []) ∷ []) root ≡ UnknownPointerType ∷ []
unfolding faults_at
capability_with_a_further_bit_in_a_long_pad = refl

faults_in_the_order_of_reading : faults_at 64 ((844424930131968 ∷ 21474836482 ∷ 0 ∷ 7 ∷ []) ∷ []) root ≡ OutOfBounds ∷ UnknownPointerType ∷ []
unfolding faults_at
faults_in_the_order_of_reading = refl

no_fault : faults_at 64 ((562949953421312 ∷ 4294967300 ∷ 4294967296 ∷ 7 ∷ []) ∷ []) root ≡ []
unfolding faults_at
no_fault = refl

trailing_zero_word_is_not_canonical : is_canonical_message 64 ((12884901888 ∷ 1229782938247303441 ∷ 9223372036854775808 ∷ 0 ∷ []) ∷ []) ≡ false
unfolding is_canonical_message tree_at has_capability canonical_words trim
trailing_zero_word_is_not_canonical = refl

message_is_canonical : is_canonical_message 64 ((562949953421312 ∷ 4294967300 ∷ 4294967292 ∷ 17216961135462248174 ∷ []) ∷ []) ≡ true
unfolding is_canonical_message tree_at has_capability canonical_words trim
message_is_canonical = refl

root_is_canonical : is_canonical_at 64 ((562949953421312 ∷ 4294967300 ∷ 4294967292 ∷ 17216961135462248174 ∷ []) ∷ []) root ≡ true
unfolding is_canonical_at tree_at has_capability canonical_words trim
root_is_canonical = refl

child_is_canonical : is_canonical_at 64 ((562949953421312 ∷ 4294967300 ∷ 4294967292 ∷ 17216961135462248174 ∷ []) ∷ []) (place 0 2) ≡ true
unfolding is_canonical_at tree_at has_capability canonical_words trim
child_is_canonical = refl

child_with_a_gap_is_not_canonical : is_canonical_at 64 ((562949953421312 ∷ 4294967300 ∷ 4294967292 ∷ 17216961135462248174 ∷ []) ∷ []) (place 0 1) ≡ false
unfolding is_canonical_at tree_at has_capability canonical_words trim
child_with_a_gap_is_not_canonical = refl

trailing_zero_word_at_root_is_not_canonical : is_canonical_at 64 ((12884901888 ∷ 1229782938247303441 ∷ 9223372036854775808 ∷ 0 ∷ []) ∷ []) root ≡ false
unfolding is_canonical_at tree_at has_capability canonical_words trim
trailing_zero_word_at_root_is_not_canonical = refl

value_in_second_segment_is_not_canonical : is_canonical_message 64 ((4294967298 ∷ []) ∷ (4294967296 ∷ 506097522914230528 ∷ []) ∷ []) ≡ false
unfolding is_canonical_message tree_at has_capability canonical_words trim
value_in_second_segment_is_not_canonical = refl

second_segment_is_canonical : is_canonical_at 64 ((4294967298 ∷ []) ∷ (4294967296 ∷ 506097522914230528 ∷ []) ∷ []) (place 1 0) ≡ true
unfolding is_canonical_at tree_at has_capability canonical_words trim
second_segment_is_canonical = refl

further_word_is_not_canonical : is_canonical_message 64 ((4294967296 ∷ 7 ∷ 99 ∷ []) ∷ []) ≡ false
unfolding is_canonical_message tree_at has_capability canonical_words trim
further_word_is_not_canonical = refl

further_word_stays_out : is_canonical_at 64 ((4294967296 ∷ 7 ∷ 99 ∷ []) ∷ []) root ≡ true
unfolding is_canonical_at tree_at has_capability canonical_words trim
further_word_stays_out = refl

capability_is_not_canonical : is_canonical_message 64 ((3 ∷ []) ∷ []) ≡ false
unfolding is_canonical_message tree_at has_capability canonical_words trim
capability_is_not_canonical = refl

text_words : option_map object_words (tree_at 64 ((281474976710656 ∷ 111669149697 ∷ 26984 ∷ []) ∷ []) root) ≡ Some 2
unfolding tree_at object_words
text_words = refl

text_capabilities : option_map capability_count (tree_at 64 ((281474976710656 ∷ 111669149697 ∷ 26984 ∷ []) ∷ []) root) ≡ Some 0
unfolding tree_at capability_count
text_capabilities = refl

wide_elements_words : option_map object_words (tree_at 64 ((281474976710656 ∷ 236223201281 ∷ 12884901896 ∷ 1 ∷ 0 ∷ 0 ∷ 2 ∷ 0 ∷ 0 ∷ []) ∷ []) root) ≡ Some 8
unfolding tree_at object_words
wide_elements_words = refl

shared_target_object_words : option_map object_words (tree_at 64 ((562949953421312 ∷ 4294967300 ∷ 4294967296 ∷ 7 ∷ []) ∷ []) root) ≡ Some 4
unfolding tree_at object_words
shared_target_object_words = refl

claimed_words_of_no_element : option_map object_words (tree_at 64 ((98784247809 ∷ 4294967300 ∷ 5 ∷ 6 ∷ []) ∷ []) root) ≡ Some 2
unfolding tree_at object_words
claimed_words_of_no_element = refl

two_capabilities : option_map capability_count (tree_at 64 ((562949953421312 ∷ 3 ∷ 4294967299 ∷ []) ∷ []) root) ≡ Some 2
unfolding tree_at capability_count
two_capabilities = refl

shared_word_is_covered_twice : cover 64 ((562949953421312 ∷ 4294967300 ∷ 4294967296 ∷ 7 ∷ []) ∷ []) root (place 0 3) ≡ 2
unfolding covered
shared_word_is_covered_twice = refl

root_word_is_covered_once : cover 64 ((562949953421312 ∷ 4294967300 ∷ 4294967296 ∷ 7 ∷ []) ∷ []) root (place 0 0) ≡ 1
unfolding covered
root_word_is_covered_once = refl

word_that_nothing_names : cover 64 ((4294967296 ∷ 7 ∷ 99 ∷ []) ∷ []) root (place 0 2) ≡ 0
unfolding covered
word_that_nothing_names = refl

tag_without_room : tree_at 64 ((281474976710656 ∷ 30064771073 ∷ 9 ∷ []) ∷ []) root ≡ None
unfolding tree_at
tag_without_room = refl

claimed_pointers : tree_at 64 (((1 + 2 ^ 32 * 6 + 2 ^ 35 * (2 ^ 29 - 1)) ∷ []) ∷ []) root ≡ None
unfolding tree_at
claimed_pointers = refl

claimed_words : tree_at 64 (((1 + 2 ^ 32 * 5 + 2 ^ 35 * (2 ^ 29 - 1)) ∷ []) ∷ []) root ≡ None
unfolding tree_at
claimed_words = refl

claimed_structs : tree_at 64 (((1 + 2 ^ 32 * 7 + 2 ^ 35 * (2 ^ 29 - 1)) ∷ []) ∷ []) root ≡ None
unfolding tree_at
claimed_structs = refl

long_text : option_map depth (tree_at 64 (((1 + 2 ^ 32 * 2 + 2 ^ 35 * 40000) ∷ replicate 5000 7) ∷ []) root) ≡ Some 1
unfolding tree_at
long_text = refl

long_text_again : option_map (λ t. length (canonical_words t)) (tree_at 64 (((1 + 2 ^ 32 * 2 + 2 ^ 35 * 40000) ∷ replicate 5000 7) ∷ []) root) ≡ Some 5001
unfolding tree_at canonical_words
long_text_again = refl

chain_of_structs : option_map depth (tree_at 64 ((replicate 60 (2 ^ 48) ++ (0 ∷ [])) ∷ []) root) ≡ Some 60
unfolding tree_at
chain_of_structs = refl

chain_of_structs_words : option_map (λ t. length (canonical_words t)) (tree_at 64 ((replicate 12 (2 ^ 48) ++ (0 ∷ [])) ∷ []) root) ≡ Some 13
unfolding tree_at canonical_words
chain_of_structs_words = refl
