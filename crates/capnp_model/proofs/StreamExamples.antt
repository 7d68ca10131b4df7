-- Worked messages on streams, framed and packed.
use Rattle.std.proofs.Common.{◌≡◌, refl, ◌-◌, ◌^◌, [], ◌∷◌, ◌++◌, Some, None, Ok, Err, length, take, replicate}
use Rattle.capnp_model.specs.Kinds.{InvalidNumberOfSegments, MessageTooLarge, FailedToFillTheWholeBuffer, MessageEndsPrematurely, PrematureEndOfPackedInput, PackedInputDidNotEndCleanlyOnASegmentBoundary}
use Rattle.capnp_model.specs.Packing.{packed, unpacked, unpacked_from}
use Rattle.capnp_model.specs.Messages.{message_at, frame_at, packed_at, flat_at, frame, packed_message}
use Rattle.capnp_model.specs.Spelling.{Frames, Packs}

half_a_word : frame_at (Some 1000) (0 ∷ 0 ∷ 0 ∷ 0 ∷ []) ≡ Err FailedToFillTheWholeBuffer
unfolding message_at unpacked_from flat_at
half_a_word = refl

too_many_segments : frame_at (Some 1000) (255 ∷ 1 ∷ 0 ∷ 0 ∷ 0 ∷ 0 ∷ 0 ∷ 0 ∷ []) ≡ Err InvalidNumberOfSegments
unfolding message_at unpacked_from flat_at
too_many_segments = refl

too_many_words : frame_at (Some 1) (0 ∷ 0 ∷ 0 ∷ 0 ∷ 2 ∷ 0 ∷ 0 ∷ 0 ∷ []) ≡ Err MessageTooLarge
unfolding message_at unpacked_from flat_at
too_many_words = refl

more_words_than_the_limit : frame_at (Some 3) (0 ∷ 0 ∷ 0 ∷ 0 ∷ 4 ∷ 0 ∷ 0 ∷ 0 ∷ []) ≡ Err MessageTooLarge
unfolding message_at unpacked_from flat_at
more_words_than_the_limit = refl

one_message_and_a_byte : frame_at (Some 1000) (0 ∷ 0 ∷ 0 ∷ 0 ∷ 1 ∷ 0 ∷ 0 ∷ 0 ∷ 0 ∷ 0 ∷ 0 ∷ 0 ∷ 0 ∷ 0 ∷ 0 ∷ 0 ∷ 9 ∷ []) ≡ Ok ((0 ∷ []) ∷ [], 9 ∷ [])
unfolding message_at unpacked_from flat_at
one_message_and_a_byte = refl

two_segments : Frames (Some 1000) (1 ∷ 0 ∷ 0 ∷ 0 ∷ 1 ∷ 0 ∷ 0 ∷ 0 ∷ 2 ∷ 0 ∷ 0 ∷ 0 ∷ 0 ∷ 0 ∷ 0 ∷ 0 ∷ 2 ∷ 0 ∷ 0 ∷ 0 ∷ 1 ∷ 0 ∷ 0 ∷ 0 ∷ 0 ∷ 0 ∷ 0 ∷ 0 ∷ 1 ∷ 0 ∷ 0 ∷ 0 ∷ 7 ∷ 0 ∷ 0 ∷ 0 ∷ 0 ∷ 0 ∷ 0 ∷ 0 ∷ []) ((4294967298 ∷ []) ∷ (4294967296 ∷ 7 ∷ []) ∷ [])
unfolding message_at unpacked_from
two_segments = refl

filling_of_any_bytes : Frames (Some 1000) (1 ∷ 0 ∷ 0 ∷ 0 ∷ 1 ∷ 0 ∷ 0 ∷ 0 ∷ 0 ∷ 0 ∷ 0 ∷ 0 ∷ 9 ∷ 8 ∷ 7 ∷ 6 ∷ 0 ∷ 0 ∷ 0 ∷ 0 ∷ 0 ∷ 0 ∷ 0 ∷ 0 ∷ []) ((0 ∷ []) ∷ ([]) ∷ [])
unfolding message_at unpacked_from
filling_of_any_bytes = refl

cut_after_0 : frame_at (Some 1000) ([]) ≡ Err FailedToFillTheWholeBuffer
unfolding message_at
cut_after_0 = refl

cut_after_1 : frame_at (Some 1000) (1 ∷ []) ≡ Err FailedToFillTheWholeBuffer
unfolding message_at
cut_after_1 = refl

cut_after_2 : frame_at (Some 1000) (1 ∷ 0 ∷ []) ≡ Err FailedToFillTheWholeBuffer
unfolding message_at
cut_after_2 = refl

cut_after_3 : frame_at (Some 1000) (1 ∷ 0 ∷ 0 ∷ []) ≡ Err FailedToFillTheWholeBuffer
unfolding message_at
cut_after_3 = refl

cut_after_4 : frame_at (Some 1000) (1 ∷ 0 ∷ 0 ∷ 0 ∷ []) ≡ Err FailedToFillTheWholeBuffer
unfolding message_at
cut_after_4 = refl

cut_after_5 : frame_at (Some 1000) (1 ∷ 0 ∷ 0 ∷ 0 ∷ 1 ∷ []) ≡ Err FailedToFillTheWholeBuffer
unfolding message_at
cut_after_5 = refl

cut_after_6 : frame_at (Some 1000) (1 ∷ 0 ∷ 0 ∷ 0 ∷ 1 ∷ 0 ∷ []) ≡ Err FailedToFillTheWholeBuffer
unfolding message_at
cut_after_6 = refl

cut_after_7 : frame_at (Some 1000) (1 ∷ 0 ∷ 0 ∷ 0 ∷ 1 ∷ 0 ∷ 0 ∷ []) ≡ Err FailedToFillTheWholeBuffer
unfolding message_at
cut_after_7 = refl

cut_after_8 : frame_at (Some 1000) (1 ∷ 0 ∷ 0 ∷ 0 ∷ 1 ∷ 0 ∷ 0 ∷ 0 ∷ []) ≡ Err FailedToFillTheWholeBuffer
unfolding message_at
cut_after_8 = refl

cut_after_9 : frame_at (Some 1000) (1 ∷ 0 ∷ 0 ∷ 0 ∷ 1 ∷ 0 ∷ 0 ∷ 0 ∷ 2 ∷ []) ≡ Err FailedToFillTheWholeBuffer
unfolding message_at
cut_after_9 = refl

cut_after_10 : frame_at (Some 1000) (1 ∷ 0 ∷ 0 ∷ 0 ∷ 1 ∷ 0 ∷ 0 ∷ 0 ∷ 2 ∷ 0 ∷ []) ≡ Err FailedToFillTheWholeBuffer
unfolding message_at
cut_after_10 = refl

cut_after_11 : frame_at (Some 1000) (1 ∷ 0 ∷ 0 ∷ 0 ∷ 1 ∷ 0 ∷ 0 ∷ 0 ∷ 2 ∷ 0 ∷ 0 ∷ []) ≡ Err FailedToFillTheWholeBuffer
unfolding message_at
cut_after_11 = refl

cut_after_12 : frame_at (Some 1000) (1 ∷ 0 ∷ 0 ∷ 0 ∷ 1 ∷ 0 ∷ 0 ∷ 0 ∷ 2 ∷ 0 ∷ 0 ∷ 0 ∷ []) ≡ Err FailedToFillTheWholeBuffer
unfolding message_at
cut_after_12 = refl

cut_after_13 : frame_at (Some 1000) (1 ∷ 0 ∷ 0 ∷ 0 ∷ 1 ∷ 0 ∷ 0 ∷ 0 ∷ 2 ∷ 0 ∷ 0 ∷ 0 ∷ 0 ∷ []) ≡ Err FailedToFillTheWholeBuffer
unfolding message_at
cut_after_13 = refl

cut_after_14 : frame_at (Some 1000) (1 ∷ 0 ∷ 0 ∷ 0 ∷ 1 ∷ 0 ∷ 0 ∷ 0 ∷ 2 ∷ 0 ∷ 0 ∷ 0 ∷ 0 ∷ 0 ∷ []) ≡ Err FailedToFillTheWholeBuffer
unfolding message_at
cut_after_14 = refl

cut_after_15 : frame_at (Some 1000) (1 ∷ 0 ∷ 0 ∷ 0 ∷ 1 ∷ 0 ∷ 0 ∷ 0 ∷ 2 ∷ 0 ∷ 0 ∷ 0 ∷ 0 ∷ 0 ∷ 0 ∷ []) ≡ Err FailedToFillTheWholeBuffer
unfolding message_at
cut_after_15 = refl

cut_after_16 : frame_at (Some 1000) (1 ∷ 0 ∷ 0 ∷ 0 ∷ 1 ∷ 0 ∷ 0 ∷ 0 ∷ 2 ∷ 0 ∷ 0 ∷ 0 ∷ 0 ∷ 0 ∷ 0 ∷ 0 ∷ []) ≡ Err FailedToFillTheWholeBuffer
unfolding message_at
cut_after_16 = refl

cut_after_17 : frame_at (Some 1000) (1 ∷ 0 ∷ 0 ∷ 0 ∷ 1 ∷ 0 ∷ 0 ∷ 0 ∷ 2 ∷ 0 ∷ 0 ∷ 0 ∷ 0 ∷ 0 ∷ 0 ∷ 0 ∷ 2 ∷ []) ≡ Err FailedToFillTheWholeBuffer
unfolding message_at
cut_after_17 = refl

cut_after_18 : frame_at (Some 1000) (1 ∷ 0 ∷ 0 ∷ 0 ∷ 1 ∷ 0 ∷ 0 ∷ 0 ∷ 2 ∷ 0 ∷ 0 ∷ 0 ∷ 0 ∷ 0 ∷ 0 ∷ 0 ∷ 2 ∷ 0 ∷ []) ≡ Err FailedToFillTheWholeBuffer
unfolding message_at
cut_after_18 = refl

cut_after_19 : frame_at (Some 1000) (1 ∷ 0 ∷ 0 ∷ 0 ∷ 1 ∷ 0 ∷ 0 ∷ 0 ∷ 2 ∷ 0 ∷ 0 ∷ 0 ∷ 0 ∷ 0 ∷ 0 ∷ 0 ∷ 2 ∷ 0 ∷ 0 ∷ []) ≡ Err FailedToFillTheWholeBuffer
unfolding message_at
cut_after_19 = refl

cut_after_20 : frame_at (Some 1000) (1 ∷ 0 ∷ 0 ∷ 0 ∷ 1 ∷ 0 ∷ 0 ∷ 0 ∷ 2 ∷ 0 ∷ 0 ∷ 0 ∷ 0 ∷ 0 ∷ 0 ∷ 0 ∷ 2 ∷ 0 ∷ 0 ∷ 0 ∷ []) ≡ Err FailedToFillTheWholeBuffer
unfolding message_at
cut_after_20 = refl

cut_after_21 : frame_at (Some 1000) (1 ∷ 0 ∷ 0 ∷ 0 ∷ 1 ∷ 0 ∷ 0 ∷ 0 ∷ 2 ∷ 0 ∷ 0 ∷ 0 ∷ 0 ∷ 0 ∷ 0 ∷ 0 ∷ 2 ∷ 0 ∷ 0 ∷ 0 ∷ 1 ∷ []) ≡ Err FailedToFillTheWholeBuffer
unfolding message_at
cut_after_21 = refl

cut_after_22 : frame_at (Some 1000) (1 ∷ 0 ∷ 0 ∷ 0 ∷ 1 ∷ 0 ∷ 0 ∷ 0 ∷ 2 ∷ 0 ∷ 0 ∷ 0 ∷ 0 ∷ 0 ∷ 0 ∷ 0 ∷ 2 ∷ 0 ∷ 0 ∷ 0 ∷ 1 ∷ 0 ∷ []) ≡ Err FailedToFillTheWholeBuffer
unfolding message_at
cut_after_22 = refl

cut_after_23 : frame_at (Some 1000) (1 ∷ 0 ∷ 0 ∷ 0 ∷ 1 ∷ 0 ∷ 0 ∷ 0 ∷ 2 ∷ 0 ∷ 0 ∷ 0 ∷ 0 ∷ 0 ∷ 0 ∷ 0 ∷ 2 ∷ 0 ∷ 0 ∷ 0 ∷ 1 ∷ 0 ∷ 0 ∷ []) ≡ Err FailedToFillTheWholeBuffer
unfolding message_at
cut_after_23 = refl

cut_after_24 : frame_at (Some 1000) (1 ∷ 0 ∷ 0 ∷ 0 ∷ 1 ∷ 0 ∷ 0 ∷ 0 ∷ 2 ∷ 0 ∷ 0 ∷ 0 ∷ 0 ∷ 0 ∷ 0 ∷ 0 ∷ 2 ∷ 0 ∷ 0 ∷ 0 ∷ 1 ∷ 0 ∷ 0 ∷ 0 ∷ []) ≡ Err FailedToFillTheWholeBuffer
unfolding message_at
cut_after_24 = refl

cut_after_25 : frame_at (Some 1000) (1 ∷ 0 ∷ 0 ∷ 0 ∷ 1 ∷ 0 ∷ 0 ∷ 0 ∷ 2 ∷ 0 ∷ 0 ∷ 0 ∷ 0 ∷ 0 ∷ 0 ∷ 0 ∷ 2 ∷ 0 ∷ 0 ∷ 0 ∷ 1 ∷ 0 ∷ 0 ∷ 0 ∷ 0 ∷ []) ≡ Err FailedToFillTheWholeBuffer
unfolding message_at
cut_after_25 = refl

cut_after_26 : frame_at (Some 1000) (1 ∷ 0 ∷ 0 ∷ 0 ∷ 1 ∷ 0 ∷ 0 ∷ 0 ∷ 2 ∷ 0 ∷ 0 ∷ 0 ∷ 0 ∷ 0 ∷ 0 ∷ 0 ∷ 2 ∷ 0 ∷ 0 ∷ 0 ∷ 1 ∷ 0 ∷ 0 ∷ 0 ∷ 0 ∷ 0 ∷ []) ≡ Err FailedToFillTheWholeBuffer
unfolding message_at
cut_after_26 = refl

cut_after_27 : frame_at (Some 1000) (1 ∷ 0 ∷ 0 ∷ 0 ∷ 1 ∷ 0 ∷ 0 ∷ 0 ∷ 2 ∷ 0 ∷ 0 ∷ 0 ∷ 0 ∷ 0 ∷ 0 ∷ 0 ∷ 2 ∷ 0 ∷ 0 ∷ 0 ∷ 1 ∷ 0 ∷ 0 ∷ 0 ∷ 0 ∷ 0 ∷ 0 ∷ []) ≡ Err FailedToFillTheWholeBuffer
unfolding message_at
cut_after_27 = refl

cut_after_28 : frame_at (Some 1000) (1 ∷ 0 ∷ 0 ∷ 0 ∷ 1 ∷ 0 ∷ 0 ∷ 0 ∷ 2 ∷ 0 ∷ 0 ∷ 0 ∷ 0 ∷ 0 ∷ 0 ∷ 0 ∷ 2 ∷ 0 ∷ 0 ∷ 0 ∷ 1 ∷ 0 ∷ 0 ∷ 0 ∷ 0 ∷ 0 ∷ 0 ∷ 0 ∷ []) ≡ Err FailedToFillTheWholeBuffer
unfolding message_at
cut_after_28 = refl

cut_after_29 : frame_at (Some 1000) (1 ∷ 0 ∷ 0 ∷ 0 ∷ 1 ∷ 0 ∷ 0 ∷ 0 ∷ 2 ∷ 0 ∷ 0 ∷ 0 ∷ 0 ∷ 0 ∷ 0 ∷ 0 ∷ 2 ∷ 0 ∷ 0 ∷ 0 ∷ 1 ∷ 0 ∷ 0 ∷ 0 ∷ 0 ∷ 0 ∷ 0 ∷ 0 ∷ 1 ∷ []) ≡ Err FailedToFillTheWholeBuffer
unfolding message_at
cut_after_29 = refl

cut_after_30 : frame_at (Some 1000) (1 ∷ 0 ∷ 0 ∷ 0 ∷ 1 ∷ 0 ∷ 0 ∷ 0 ∷ 2 ∷ 0 ∷ 0 ∷ 0 ∷ 0 ∷ 0 ∷ 0 ∷ 0 ∷ 2 ∷ 0 ∷ 0 ∷ 0 ∷ 1 ∷ 0 ∷ 0 ∷ 0 ∷ 0 ∷ 0 ∷ 0 ∷ 0 ∷ 1 ∷ 0 ∷ []) ≡ Err FailedToFillTheWholeBuffer
unfolding message_at
cut_after_30 = refl

cut_after_31 : frame_at (Some 1000) (1 ∷ 0 ∷ 0 ∷ 0 ∷ 1 ∷ 0 ∷ 0 ∷ 0 ∷ 2 ∷ 0 ∷ 0 ∷ 0 ∷ 0 ∷ 0 ∷ 0 ∷ 0 ∷ 2 ∷ 0 ∷ 0 ∷ 0 ∷ 1 ∷ 0 ∷ 0 ∷ 0 ∷ 0 ∷ 0 ∷ 0 ∷ 0 ∷ 1 ∷ 0 ∷ 0 ∷ []) ≡ Err FailedToFillTheWholeBuffer
unfolding message_at
cut_after_31 = refl

cut_after_32 : frame_at (Some 1000) (1 ∷ 0 ∷ 0 ∷ 0 ∷ 1 ∷ 0 ∷ 0 ∷ 0 ∷ 2 ∷ 0 ∷ 0 ∷ 0 ∷ 0 ∷ 0 ∷ 0 ∷ 0 ∷ 2 ∷ 0 ∷ 0 ∷ 0 ∷ 1 ∷ 0 ∷ 0 ∷ 0 ∷ 0 ∷ 0 ∷ 0 ∷ 0 ∷ 1 ∷ 0 ∷ 0 ∷ 0 ∷ []) ≡ Err FailedToFillTheWholeBuffer
unfolding message_at
cut_after_32 = refl

cut_after_33 : frame_at (Some 1000) (1 ∷ 0 ∷ 0 ∷ 0 ∷ 1 ∷ 0 ∷ 0 ∷ 0 ∷ 2 ∷ 0 ∷ 0 ∷ 0 ∷ 0 ∷ 0 ∷ 0 ∷ 0 ∷ 2 ∷ 0 ∷ 0 ∷ 0 ∷ 1 ∷ 0 ∷ 0 ∷ 0 ∷ 0 ∷ 0 ∷ 0 ∷ 0 ∷ 1 ∷ 0 ∷ 0 ∷ 0 ∷ 7 ∷ []) ≡ Err FailedToFillTheWholeBuffer
unfolding message_at
cut_after_33 = refl

cut_after_34 : frame_at (Some 1000) (1 ∷ 0 ∷ 0 ∷ 0 ∷ 1 ∷ 0 ∷ 0 ∷ 0 ∷ 2 ∷ 0 ∷ 0 ∷ 0 ∷ 0 ∷ 0 ∷ 0 ∷ 0 ∷ 2 ∷ 0 ∷ 0 ∷ 0 ∷ 1 ∷ 0 ∷ 0 ∷ 0 ∷ 0 ∷ 0 ∷ 0 ∷ 0 ∷ 1 ∷ 0 ∷ 0 ∷ 0 ∷ 7 ∷ 0 ∷ []) ≡ Err FailedToFillTheWholeBuffer
unfolding message_at
cut_after_34 = refl

cut_after_35 : frame_at (Some 1000) (1 ∷ 0 ∷ 0 ∷ 0 ∷ 1 ∷ 0 ∷ 0 ∷ 0 ∷ 2 ∷ 0 ∷ 0 ∷ 0 ∷ 0 ∷ 0 ∷ 0 ∷ 0 ∷ 2 ∷ 0 ∷ 0 ∷ 0 ∷ 1 ∷ 0 ∷ 0 ∷ 0 ∷ 0 ∷ 0 ∷ 0 ∷ 0 ∷ 1 ∷ 0 ∷ 0 ∷ 0 ∷ 7 ∷ 0 ∷ 0 ∷ []) ≡ Err FailedToFillTheWholeBuffer
unfolding message_at
cut_after_35 = refl

cut_after_36 : frame_at (Some 1000) (1 ∷ 0 ∷ 0 ∷ 0 ∷ 1 ∷ 0 ∷ 0 ∷ 0 ∷ 2 ∷ 0 ∷ 0 ∷ 0 ∷ 0 ∷ 0 ∷ 0 ∷ 0 ∷ 2 ∷ 0 ∷ 0 ∷ 0 ∷ 1 ∷ 0 ∷ 0 ∷ 0 ∷ 0 ∷ 0 ∷ 0 ∷ 0 ∷ 1 ∷ 0 ∷ 0 ∷ 0 ∷ 7 ∷ 0 ∷ 0 ∷ 0 ∷ []) ≡ Err FailedToFillTheWholeBuffer
unfolding message_at
cut_after_36 = refl

cut_after_37 : frame_at (Some 1000) (1 ∷ 0 ∷ 0 ∷ 0 ∷ 1 ∷ 0 ∷ 0 ∷ 0 ∷ 2 ∷ 0 ∷ 0 ∷ 0 ∷ 0 ∷ 0 ∷ 0 ∷ 0 ∷ 2 ∷ 0 ∷ 0 ∷ 0 ∷ 1 ∷ 0 ∷ 0 ∷ 0 ∷ 0 ∷ 0 ∷ 0 ∷ 0 ∷ 1 ∷ 0 ∷ 0 ∷ 0 ∷ 7 ∷ 0 ∷ 0 ∷ 0 ∷ 0 ∷ []) ≡ Err FailedToFillTheWholeBuffer
unfolding message_at
cut_after_37 = refl

cut_after_38 : frame_at (Some 1000) (1 ∷ 0 ∷ 0 ∷ 0 ∷ 1 ∷ 0 ∷ 0 ∷ 0 ∷ 2 ∷ 0 ∷ 0 ∷ 0 ∷ 0 ∷ 0 ∷ 0 ∷ 0 ∷ 2 ∷ 0 ∷ 0 ∷ 0 ∷ 1 ∷ 0 ∷ 0 ∷ 0 ∷ 0 ∷ 0 ∷ 0 ∷ 0 ∷ 1 ∷ 0 ∷ 0 ∷ 0 ∷ 7 ∷ 0 ∷ 0 ∷ 0 ∷ 0 ∷ 0 ∷ []) ≡ Err FailedToFillTheWholeBuffer
unfolding message_at
cut_after_38 = refl

cut_after_39 : frame_at (Some 1000) (1 ∷ 0 ∷ 0 ∷ 0 ∷ 1 ∷ 0 ∷ 0 ∷ 0 ∷ 2 ∷ 0 ∷ 0 ∷ 0 ∷ 0 ∷ 0 ∷ 0 ∷ 0 ∷ 2 ∷ 0 ∷ 0 ∷ 0 ∷ 1 ∷ 0 ∷ 0 ∷ 0 ∷ 0 ∷ 0 ∷ 0 ∷ 0 ∷ 1 ∷ 0 ∷ 0 ∷ 0 ∷ 7 ∷ 0 ∷ 0 ∷ 0 ∷ 0 ∷ 0 ∷ 0 ∷ []) ≡ Err FailedToFillTheWholeBuffer
unfolding message_at
cut_after_39 = refl

three_segments_table : take 16 (frame ((1 ∷ []) ∷ [] ∷ (2 ∷ 3 ∷ []) ∷ [])) ≡ 2 ∷ 0 ∷ 0 ∷ 0 ∷ 1 ∷ 0 ∷ 0 ∷ 0 ∷ 0 ∷ 0 ∷ 0 ∷ 0 ∷ 2 ∷ 0 ∷ 0 ∷ 0 ∷ []
three_segments_table = refl

three_segments_length : length (frame ((1 ∷ []) ∷ [] ∷ (2 ∷ 3 ∷ []) ∷ [])) ≡ 40
three_segments_length = refl

most_segments : frame_at (Some 1000) (frame (replicate 511 [])) ≡ Ok (replicate 511 [], [])
unfolding message_at
most_segments = refl

one_segment_too_many : frame_at (Some 1000) (frame (replicate 512 [])) ≡ Err InvalidNumberOfSegments
unfolding message_at
one_segment_too_many = refl

packed_word : packed (37383396130816 ∷ []) ≡ 36 ∷ 12 ∷ 34 ∷ []
unfolding packed
packed_word = refl

packed_zero_words : packed (replicate 258 0) ≡ 0 ∷ 255 ∷ 0 ∷ 1 ∷ []
unfolding packed
packed_zero_words = refl

unpacked_zero_words : unpacked 258 (0 ∷ 255 ∷ 0 ∷ 1 ∷ []) ≡ Ok (replicate 258 0, [])
unfolding unpacked_from
unpacked_zero_words = refl

packed_full_words : packed (replicate 256 (2 ^ 64 - 1)) ≡ 255 ∷ (replicate 8 255 ++ 255 ∷ replicate 2040 255)
unfolding packed
packed_full_words = refl

packed_run_of_full_words : packed (578437695752307201 ∷ 1976943448883713 ∷ []) ≡ 255 ∷ 1 ∷ 2 ∷ 3 ∷ 4 ∷ 5 ∷ 6 ∷ 7 ∷ 8 ∷ 1 ∷ 1 ∷ 2 ∷ 3 ∷ 4 ∷ 5 ∷ 6 ∷ 7 ∷ 0 ∷ []
unfolding packed
packed_run_of_full_words = refl

packed_null : Packs (Some 1000) (16 ∷ 1 ∷ 0 ∷ 0 ∷ []) ((0 ∷ []) ∷ [])
unfolding message_at unpacked_from
packed_null = refl

group_cut_short : packed_at (Some 1000) (240 ∷ 1 ∷ 2 ∷ []) ≡ Err PrematureEndOfPackedInput
unfolding message_at unpacked_from flat_at
group_cut_short = refl

run_past_its_piece : packed_at (Some 1000) (0 ∷ 1 ∷ []) ≡ Err PackedInputDidNotEndCleanlyOnASegmentBoundary
unfolding message_at unpacked_from flat_at
run_past_its_piece = refl

marked_zero_byte : Packs (Some 1000) (48 ∷ 2 ∷ 0 ∷ 16 ∷ 1 ∷ 1 ∷ 7 ∷ []) ((4294967296 ∷ 7 ∷ []) ∷ [])
unfolding message_at unpacked_from
marked_zero_byte = refl

packed_null_and_a_byte : packed_at (Some 1000) (16 ∷ 1 ∷ 0 ∷ 0 ∷ 9 ∷ []) ≡ Ok ((0 ∷ []) ∷ [], 9 ∷ [])
unfolding message_at unpacked_from flat_at
packed_null_and_a_byte = refl

packed_cut_after_1 : packed_at (Some 1000) (16 ∷ []) ≡ Err PrematureEndOfPackedInput
unfolding message_at unpacked_from flat_at
packed_cut_after_1 = refl

packed_cut_after_2 : packed_at (Some 1000) (16 ∷ 2 ∷ []) ≡ Err FailedToFillTheWholeBuffer
unfolding message_at unpacked_from flat_at
packed_cut_after_2 = refl

packed_cut_after_3 : packed_at (Some 1000) (16 ∷ 2 ∷ 16 ∷ []) ≡ Err PrematureEndOfPackedInput
unfolding message_at unpacked_from flat_at
packed_cut_after_3 = refl

packed_cut_after_4 : packed_at (Some 1000) (16 ∷ 2 ∷ 16 ∷ 1 ∷ []) ≡ Err PrematureEndOfPackedInput
unfolding message_at unpacked_from flat_at
packed_cut_after_4 = refl

packed_cut_after_5 : packed_at (Some 1000) (16 ∷ 2 ∷ 16 ∷ 1 ∷ 1 ∷ []) ≡ Err PrematureEndOfPackedInput
unfolding message_at unpacked_from flat_at
packed_cut_after_5 = refl

packed_two_segments : packed_at (Some 10) (packed_message ((0 ∷ 0 ∷ []) ∷ (0 ∷ 7 ∷ []) ∷ [])) ≡ Ok ((0 ∷ 0 ∷ []) ∷ (0 ∷ 7 ∷ []) ∷ [], [])
unfolding packed message_at unpacked_from
packed_two_segments = refl

any_number_of_words : Frames None (0 ∷ 0 ∷ 0 ∷ 0 ∷ 2 ∷ 0 ∷ 0 ∷ 0 ∷ 9 ∷ 0 ∷ 0 ∷ 0 ∷ 0 ∷ 0 ∷ 0 ∷ 0 ∷ 8 ∷ 0 ∷ 0 ∷ 0 ∷ 0 ∷ 0 ∷ 0 ∷ 0 ∷ []) ((9 ∷ 8 ∷ []) ∷ [])
unfolding message_at unpacked_from
any_number_of_words = refl

no_byte_at_all : flat_at (Some 1000) ([]) ≡ Err MessageEndsPrematurely
unfolding message_at unpacked_from flat_at
no_byte_at_all = refl

half_a_table : flat_at (Some 1000) (0 ∷ 0 ∷ 0 ∷ 0 ∷ []) ≡ Err FailedToFillTheWholeBuffer
unfolding message_at unpacked_from flat_at
half_a_table = refl

second_half_of_a_table_missing : flat_at (Some 1000) (1 ∷ 0 ∷ 0 ∷ 0 ∷ 1 ∷ 0 ∷ 0 ∷ 0 ∷ []) ≡ Err FailedToFillTheWholeBuffer
unfolding message_at unpacked_from flat_at
second_half_of_a_table_missing = refl

segments_missing : flat_at (Some 1000) (0 ∷ 0 ∷ 0 ∷ 0 ∷ 2 ∷ 0 ∷ 0 ∷ 0 ∷ []) ≡ Err MessageEndsPrematurely
unfolding message_at unpacked_from flat_at
segments_missing = refl

segments_cut_short : flat_at None (0 ∷ 0 ∷ 0 ∷ 0 ∷ 2 ∷ 0 ∷ 0 ∷ 0 ∷ 0 ∷ 0 ∷ 0 ∷ 0 ∷ 0 ∷ 0 ∷ 0 ∷ 0 ∷ 0 ∷ 0 ∷ 0 ∷ 0 ∷ 0 ∷ 0 ∷ 0 ∷ []) ≡ Err MessageEndsPrematurely
unfolding message_at unpacked_from flat_at
segments_cut_short = refl

too_many_words_in_a_slice : flat_at (Some 1) (0 ∷ 0 ∷ 0 ∷ 0 ∷ 2 ∷ 0 ∷ 0 ∷ 0 ∷ []) ≡ Err MessageTooLarge
unfolding message_at unpacked_from flat_at
too_many_words_in_a_slice = refl

a_message_and_a_byte_in_a_slice : flat_at (Some 1000) (0 ∷ 0 ∷ 0 ∷ 0 ∷ 1 ∷ 0 ∷ 0 ∷ 0 ∷ 0 ∷ 0 ∷ 0 ∷ 0 ∷ 0 ∷ 0 ∷ 0 ∷ 0 ∷ 9 ∷ []) ≡ Ok ((0 ∷ []) ∷ [], 9 ∷ [])
unfolding message_at unpacked_from flat_at
a_message_and_a_byte_in_a_slice = refl
