-- What the set of a plain field does, whatever the struct reads as.
use Rattle.std.proofs.Common.{◌≡◌, ℕ, zero, suc, max, Option, Some, None, List, [], ◌∷◌, bit_xor, refl, ap, ◌∙◌, arith}
use Rattle.capnp_model.specs.Sections.{with_bits}
use Rattle.capnp_model.specs.Trees.{Tree, null, structure, Trees, none, ◌▸◌, padded_to}
use Rattle.capnp_model.specs.Schemas.{PlainType, width, plain, Shape, shape, plain_slot, Schema}
use Rattle.capnp_model.specs.Readings.{Reading, number, Record, record_of}
use Rattle.capnp_model.specs.Printing.{fields_in}
use Rattle.capnp_model.specs.Calls.{name, set_to, CallValue, Call, Content, bits_of, plain_content}
use Rattle.capnp_model.specs.Steps.{Outcome, done, Target, target, target_of, outcome_map, at_target, reading_after, replaced, step_field, step}
use Rattle.capnp_model.specs.Edits.{Cell, put_content, edit_target, edit_field, if_done, write_path, edit}
use Rattle.capnp_model.specs.Answers.{reply_of, reply_done, widened_root}

padded_again : (p : ℕ) (ts : Trees) → padded_to p (padded_to p ts) ≡ padded_to p ts
padded_again zero ts = refl
padded_again (suc p) none = ap (λ us. null ▸ us) (padded_again p none)
padded_again (suc p) (t ▸ ts) = ap (λ us. t ▸ us) (padded_again p ts)

-- A call at a plain field that is no member of a union.
module _ (s : Schema) (id : ℕ) (n : List ℕ) (v : CallValue) (q : PlainType) (at d x : ℕ) (found : target_of n (fields_in (s.shape_of id)) ≡ target None (plain_slot q at d)) (given : plain_content q v ≡ bits_of x) where
  abbrev call : Call
  call = record { path = name n ∷ []; verb = set_to v }

  is_done : (r : Record) → step s id call r ≡ done (replaced n None (number x) (fields_in (s.shape_of id)) r)
  unfolding step step_field
  is_done r =
      let fs = fields_in (s.shape_of id) in
      ap (at_target (step_field s [] (set_to v)) n fs r) found ∙ ap (λ (k : Content). outcome_map (λ (y : Reading). replaced n None y fs r) (reading_after s (plain q) k)) given

  pub is_replied : (quoted : List ℕ → List ℕ) (r : Record) → reply_of s quoted (step s id call r) ≡ reply_done
  is_replied quoted r = ap (reply_of s quoted) (is_done r)

  put_at : (union : Option ℕ) (c : Cell) → edit_field s [] (set_to v) union None (plain_slot q at d) c ≡ record { section = with_bits at (width q) (bit_xor x d) c.section; kids = c.kids }
  unfolding edit_field
  put_at None c = ap (λ (k : Content). put_content (plain_slot q at d) k c) given
  put_at (Some m) c = ap (λ (k : Content). put_content (plain_slot q at d) k c) given

  written : (g : Shape) → target_of n (fields_in g) ≡ target None (plain_slot q at d) → (words section : ℕ) (kids : Trees)
      → write_path s g (name n ∷ []) (set_to v) (widened_root g (structure words section kids)) ≡ widened_root g (structure words (with_bits at (width q) (bit_xor x d) section) kids)
  written (shape nid w p union fs) has words section kids =
      let before : Cell = record { section = section; kids = padded_to p (padded_to p kids) } in
      let wide : ℕ = max w (max w words) in
      let cell : edit_target (edit_field s [] (set_to v)) union (target_of n fs) before ≡ record { section = with_bits at (width q) (bit_xor x d) section; kids = padded_to p (padded_to p kids) } =
      ap (λ (t : Target). edit_target (edit_field s [] (set_to v)) union t before) has ∙ put_at union before in
      let same : wide ≡ max w words = omega arith in
      let u : ℕ = with_bits at (width q) (bit_xor x d) section in
      ap (λ (c : Cell). structure wide c.section c.kids) cell ∙ ap (λ (m : ℕ). structure m u (padded_to p (padded_to p kids))) same ∙ ap (structure (max w words) u) (padded_again p kids)

  pub is_edited : (words section : ℕ) (kids : Trees)
      → edit s id call (widened_root (s.shape_of id) (structure words section kids)) ≡ widened_root (s.shape_of id) (structure words (with_bits at (width q) (bit_xor x d) section) kids)
  unfolding edit
  is_edited words section kids =
      let t : Tree = widened_root (s.shape_of id) (structure words section kids) in
      ap (λ (o : Outcome Record). if_done o (write_path s (s.shape_of id) (name n ∷ []) (set_to v) t) t) (is_done (record_of s id t)) ∙ written (s.shape_of id) found words section kids
