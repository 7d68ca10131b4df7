use Rattle.std.proofs.Common.{◌≡◌, List, ℕ, [], ◌∷◌, map, take, ap, sym, ◌∙◌, arith}
use Rattle.std.specs.List.{flat_map}
use Rattle.capnp_units.specs.Segments.{words_in}
use Rattle.capnp_calls.specs.Replies.{reply_view}
use Rattle.capnp_calls.specs.Resolved.{calls_of}
use Rattle.capnp_wire_canonical.specs.Writes.{filled}
use Rattle.capnp_relay_answers.proofs.Told.{tells_words, over_found}
use Rattle.capnp_relay_answers.proofs.Whole.{view_front, length_filled}
use Rattle.capnp_relay_answers.proofs.gets.reply_in_place.Goals as goal

pub returns : goal.returns
returns c =
    let count = c.args.count in
    let items = c.args.words.now in
    let words = filled count items in
    let counted = length_filled count items in
    let few = c.requires.count.1 in
    let root = c.in-Some.root in
    let calls = calls_of c.args.calls.now in
    let bytes : flat_map (λ word. word) (take count items) ≡ c.words_as_bytes.result.now = sym c.words_as_bytes.ensures.bytes in
    let is : words_in (c.words_as_bytes.result.now ∷ []) ≡ words ∷ [] =
    ap (λ (bs : List ℕ). words_in (bs ∷ [])) (sym bytes) ∙ c.segments_of_words.ensures ∙ ap (λ (ws : List ℕ). ws ∷ []) (view_front count items) in
    over_found c.reply_each.result
    (λ told h. tells_words c.words_mean_their_value.ensures.means c.canonical_words_in_place.ensures.owned c.depths_of_owned_values.ensures.values (λ m. m.bytes.now ∷ []) root (c.words_as_bytes.result.now ∷ []) c.args.schema calls words (map reply_view told.items)
    (omega (arith, counted, few)) is c.in-Some.ensures.schema c.in-Some.ensures.record h (λ t spelled. c.begins_with_zero.ensures t spelled c.if-begins_with_zero.false)) c.reply_each.ensures
