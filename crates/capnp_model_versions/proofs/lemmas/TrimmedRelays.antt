-- Two relays in a row.
use Rattle.std.proofs.Common.{◌≡◌, ℕ, ◌*◌, max, [], ◌∷◌, ◌++◌, sym, ◌∙◌, ap, subst, arith}
use Rattle.std.proofs.lemmas.Nat.{pow_pos}
use Rattle.std.proofs.lemmas.List.{append-nil}
use Rattle.capnp_model.specs.Segments.{Segments}
use Rattle.capnp_model.specs.Trees.{Tree, null, capability, structure, plain_list, pointer_list, struct_list, none}
use Rattle.capnp_model.specs.Trimming.{trim}
use Rattle.capnp_model.specs.Encoding.{canonical_words}
use Rattle.capnp_model.specs.Schemas.{Shape, shape, Schema}
use Rattle.capnp_model.specs.Accepted.{schema_of}
use Rattle.capnp_model.specs.CallRuns.{IsStart}
use Rattle.capnp_model.specs.Answers.{widened_root, opened_root, edits}
use Rattle.capnp_model.proofs.lemmas.Chaining.{some_is}
use Rattle.capnp_model.proofs.lemmas.TrimTwice.{trim-trim}
use Rattle.capnp_model.proofs.lemmas.TrimmedKinds.{opened_start}
use Rattle.capnp_model.proofs.lemmas.Numbers.{wider}
use Rattle.capnp_model_versions.specs.Whole.{IsWhole}
use Rattle.capnp_model_versions.specs.OwnOutput.{WritesFitting, HaveFewWords}
use Rattle.capnp_model_versions.specs.TwoRelays.{TwoRelays, first, second, joined_relay, RelayWrites, CanRelay, HasShortCalls}
use Rattle.capnp_model_versions.proofs.lemmas.WholeValues.{fits-whole, whole-trim, whole-resized, whole-padded_to}
use Rattle.capnp_model_versions.proofs.Alike.{Alike, alike-self}
use Rattle.capnp_model_versions.proofs.Structs.{IsStruct, trim_struct, edits_are_structs, opened_is_struct, reopened}
use Rattle.capnp_model_versions.proofs.lemmas.WrittenValues.{has-written, value-fits, read-back, sizes-fit}
use Rattle.capnp_model_versions.proofs.SufficientSizes.{sizes-suffice}
use Rattle.capnp_model_versions.proofs.TrimmedCalls.{edits-append, alike-calls, trimmed_start}

pub whole_root : (g : Shape) (t : Tree) → IsWhole t → IsWhole (widened_root g t)
whole_root (shape nid w p u fs) null h = (pow_pos (64 * w), whole-resized p none tt)
whole_root (shape nid w p u fs) (structure x m ts) h = (wider m (64 * x) (64 * max w x) (omega arith) h.0, whole-padded_to p ts h.1)
whole_root (shape nid w p u fs) (capability i) h = h
whole_root (shape nid w p u fs) (plain_list z m x) h = h
whole_root (shape nid w p u fs) (pointer_list ts) h = h
whole_root (shape nid w p u fs) (struct_list v p' es) h = h

-- a trimmed struct that is opened again
opened_again : (s : Schema) (id : ℕ) (e : Tree) → IsStruct e → IsWhole e → Alike (opened_root s id (trim e)) e
unfolding opened_root
opened_again s id e is h =
    let t : Tree = trim (trim e) in
    let whole : IsWhole t = whole-trim (trim e) (whole-trim e h) in
    record {
      trims = reopened (s.shape_of id) t (trim_struct (trim e) (trim_struct e is)) whole ∙ trim-trim (trim e) ∙ trim-trim e;
      whole = whole_root (s.shape_of id) t whole;
      whole' = h;
    }

pub whole_opened : (s : Schema) (id : ℕ) (t : Tree) → IsWhole t → IsWhole (opened_root s id t)
unfolding opened_root
whole_opened s id t h = whole_root (s.shape_of id) (trim t) (whole-trim t h)

-- THE LAWS
pub relays-by-values : (r : TwoRelays) (message one two both : Segments) → CanRelay r message → WritesFitting (first r) message → RelayWrites (first r) message one → RelayWrites (second r) one two → RelayWrites (joined_relay r) message both → two ≡ both
relays-by-values r message one two both can fitting writes writes' writes'' =
    let s : Schema = schema_of r.nodes in
    let w = has-written (first r) message one writes.0 writes.1 in
    let w' = has-written (second r) one two writes'.0 writes'.1 in
    let w'' = has-written (joined_relay r) message both writes''.0 writes''.1 in
    let t : Tree = w.value in
    let start : IsStart r.nodes r.root (r.calls ++ r.later_calls) t = can.start t w.is_value in
    let opened : Tree = opened_root s r.root t in
    let whole : IsWhole opened = whole_opened s r.root t (fits-whole t (value-fits r.limits message t w.is_value)) in
    let from : IsStart r.nodes r.root (r.calls ++ r.later_calls) opened = opened_start r.nodes r.root (r.calls ++ r.later_calls) t start in
    let after = alike-calls r.nodes r.root r.calls r.later_calls can.plain opened opened (alike-self opened whole) from from in
    -- what the first relay leaves
    let left : Tree = edits s r.root r.calls opened in
    let is_struct : IsStruct left = edits_are_structs s r.root r.calls opened (opened_is_struct s r.root t start.opens) in
    let back : w'.value ≡ trim left = (read-back (first r) message one fitting w).again r.later_limits w'.value w'.is_value in
    let rest : IsStart r.nodes r.root (r.later_calls ++ []) left = subst (λ z. IsStart r.nodes r.root z left) (sym (append-nil r.later_calls)) after.start in
    let later = alike-calls r.nodes r.root r.later_calls [] can.later_plain (opened_root s r.root (trim left)) left (opened_again s r.root left is_struct after.alike.whole)
    (opened_start r.nodes r.root (r.later_calls ++ []) (trim left) (trimmed_start r.nodes r.root (r.later_calls ++ []) left rest)) rest in
    let same : w''.value ≡ t = some_is w''.value t (sym w''.is_value ∙ w.is_value) in
    w'.is_written ∙ ap (λ z. canonical_words (trim (edits s r.root r.later_calls (opened_root s r.root z))) ∷ []) back
    ∙ ap (λ z. canonical_words z ∷ []) later.alike.trims
    ∙ ap (λ z. canonical_words (trim z) ∷ []) (sym (edits-append s r.root r.calls r.later_calls opened))
    ∙ sym (w''.is_written ∙ ap (λ z. canonical_words (trim (edits s r.root (r.calls ++ r.later_calls) (opened_root s r.root z))) ∷ []) same)

pub relays-by-words : (r : TwoRelays) (message one two both : Segments) → CanRelay r message → HasShortCalls r → HaveFewWords one → RelayWrites (first r) message one → RelayWrites (second r) one two → RelayWrites (joined_relay r) message both → two ≡ both
relays-by-words r message one two both can are few writes writes' writes'' =
    let enough = sizes-suffice r.nodes r.quoted r.root r.calls r.limits message one are.spelled are.short writes few in
    relays-by-values r message one two both can (sizes-fit r.nodes r.quoted r.root r.calls r.limits message are.spelled enough) writes writes' writes''
