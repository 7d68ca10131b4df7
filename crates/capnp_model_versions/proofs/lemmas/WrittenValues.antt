-- The value of what a relay writes, and what is read of it again.
use Rattle.std.proofs.Common.{◌≡◌, ℕ, max, Bool, true, false, if◌then◌else◌, Option, Some, None, List, [], ◌∷◌, refl, sym, ◌∙◌, subst, arith}
use Rattle.capnp_model.specs.Segments.{Segments, root}
use Rattle.capnp_model.specs.Trees.{Tree, null, capability, structure, plain_list, pointer_list, struct_list, depth}
use Rattle.capnp_model.specs.Trimming.{trim}
use Rattle.capnp_model.specs.Fits.{Fits}
use Rattle.capnp_model.specs.Traversal.{tree_at}
use Rattle.capnp_model.specs.Encoding.{canonical_words}
use Rattle.capnp_model.specs.Spelling.{CanSpell}
use Rattle.capnp_model.specs.Schemas.{Shape, shape, Node}
use Rattle.capnp_model.specs.Accepted.{schema_of}
use Rattle.capnp_model.specs.Calls.{Call}
use Rattle.capnp_model.specs.NamedPaths.{IsOpen}
use Rattle.capnp_model.specs.Answers.{Reply, refused_depth, written, Limits, levels, keeps_nesting, value_within, opened_root, widened_root, replies, answer_struct, answer_value, answer}
use Rattle.capnp_model.specs.SameRuns.{Work, IsAnswerIn}
use Rattle.capnp_model.proofs.lemmas.Chaining.{bind_some, provided_some, some_is}
use Rattle.capnp_model.proofs.lemmas.Depth.{tree_at_more}
use Rattle.capnp_model.proofs.lemmas.ReadFits.{tree_at_fits}
use Rattle.capnp_model.proofs.lemmas.TrimFits.{Fits-trim}
use Rattle.capnp_model.proofs.lemmas.FittingValues.{Fits-widened}
use Rattle.capnp_model.proofs.lemmas.RoundTrip.{enc_means}
use Rattle.capnp_model.proofs.lemmas.CanonicalWords.{canonical_can_spell}
use Rattle.capnp_model_versions.specs.Fitting.{AreSpelled}
use Rattle.capnp_model_versions.specs.OwnOutput.{edited_value, SizesSuffice, WritesFitting, relay_of}
use Rattle.capnp_model_versions.proofs.FittingParts.{Lengths, any_lengths, fits-by-parts, StructFits}
use Rattle.capnp_model_versions.proofs.FittingTrims.{numbers-trim}
use Rattle.capnp_model_versions.proofs.FittingSchemas.{schema-fits, edited-by-any}

-- ---- what is written is that of a value

pub record HasWritten (w : Work) (message segments : Segments) : Type 0 where
  pub value : Tree
  pub is_value : value_within w.limits message ≡ Some value
  pub is_open : IsOpen value
  pub is_written : segments ≡ canonical_words (trim (edited_value w value)) ∷ []

written_is : (a b : Segments) (x y : List Reply) → written a x ≡ written b y → a ≡ b
written_is a b x y e = cc

module _ (w : Work) (message segments : Segments) (rs : List Reply) where
  struct_wrote : (t : Tree) → value_within w.limits message ≡ Some t → IsOpen t → written segments rs ≡ answer_struct w.schema w.quoted w.root w.calls w.limits.nesting (opened_root w.schema w.root t) → HasWritten w message segments
  struct_wrote t v o e = by (keeps_nesting (depth (edited_value w t)) w.limits.nesting) e
    where
      by : (b : Bool) → written segments rs ≡ (if b then written (canonical_words (trim (edited_value w t)) ∷ []) (replies w.schema w.quoted w.root w.calls (opened_root w.schema w.root t)) else refused_depth) → HasWritten w message segments
      by true e = record { value = t; is_value = v; is_open = o; is_written = written_is segments _ rs _ e }
      by false e = absurd (cc e)

  pub has-written : IsAnswerIn w message (written segments rs) → HasWritten w message segments
  unfolding answer
  has-written e = by (value_within w.limits message) refl e
    where
      by : (v : Option Tree) → value_within w.limits message ≡ v → written segments rs ≡ answer_value w.schema w.quoted w.root w.calls w.limits.nesting v → HasWritten w message segments
      by None v e = absurd (cc e)
      by (Some null) v e = struct_wrote null v tt e
      by (Some (structure x n ts)) v e = struct_wrote (structure x n ts) v tt e
      by (Some (capability i)) v e = absurd (cc e)
      by (Some (plain_list z n x)) v e = absurd (cc e)
      by (Some (pointer_list ts)) v e = absurd (cc e)
      by (Some (struct_list d k es)) v e = absurd (cc e)

-- ---- a value within limits is read at some level, and fits

read_value : (limits : Limits) (s : Segments) (t : Tree) → value_within limits s ≡ Some t → (n : ℕ) × (tree_at n s root ≡ Some t)
unfolding value_within
read_value limits s t e =
    let l = bind_some (levels limits.nesting) _ t e in
    let v = bind_some (tree_at l.0 s root) _ t l.2 in
    let k = provided_some v.0 t _ v.2 in
    (l.0, subst (λ z. tree_at l.0 s root ≡ Some z) k.1 v.1)

pub value-fits : (limits : Limits) (s : Segments) (t : Tree) → value_within limits s ≡ Some t → Fits t
value-fits limits s t e = let found = read_value limits s t e in tree_at_fits found.0 s root t found.1

-- ---- what is written can be spelled, and is read as its value

pub opened-fits : (L : Lengths) (g : Shape) (t : Tree) → StructFits L g → Fits t → Fits (widened_root g (trim t))
opened-fits L (shape nid x y u fs) t h f = Fits-widened x y (trim t) h.words h.pointers (Fits-trim t f)

-- what is written of a value fits, can be spelled and is read as the trimmed value
pub record IsReadBack (w : Work) (segments : Segments) (value : Tree) : Type 0 where
  pub fits : Fits (trim (edited_value w value))
  pub spells : CanSpell None segments
  pub again : (limits : Limits) (t : Tree) → value_within limits segments ≡ Some t → t ≡ trim (edited_value w value)

module _ (w : Work) (message segments : Segments) (fitting : WritesFitting w message) (h : HasWritten w message segments) where
  value_again : (limits : Limits) (t : Tree) → value_within limits segments ≡ Some t → t ≡ trim (edited_value w h.value)
  value_again limits t v =
      let e : Tree = trim (edited_value w h.value) in
      let fits = fitting h.value h.is_value in
      let found = read_value limits segments t v in
      let n = found.0 in
      let k : ℕ = max n (depth e) in
      let one : tree_at k segments root ≡ Some t = tree_at_more n k segments root t (omega arith) found.1 in
      let two : tree_at k segments root ≡ Some e = subst (λ s. tree_at k s root ≡ Some e) (sym h.is_written) (enc_means e k fits.0 (omega arith) fits.1) in
      some_is t e (sym one ∙ two)

  pub read-back : IsReadBack w segments h.value
  read-back =
      let fits = fitting h.value h.is_value in
      record {
        fits = fits.0;
        spells = subst (λ s. CanSpell None s) (sym h.is_written) (canonical_can_spell None (trim (edited_value w h.value)) fits.0 fits.1 refl);
        again = value_again;
      }

-- ---- where sizes suffice, it fits

pub sizes-fit : (nodes : List Node) (quoted : List ℕ → List ℕ) (id : ℕ) (calls : List Call) (limits : Limits) (message : Segments) → AreSpelled nodes calls
    → SizesSuffice (relay_of nodes quoted id calls limits) message → WritesFitting (relay_of nodes quoted id calls limits) message
unfolding opened_root
sizes-fit nodes quoted id calls limits message spelled sizes t is_value =
    let e : Tree = edited_value (relay_of nodes quoted id calls limits) t in
    let opened : Fits (opened_root (schema_of nodes) id t) = opened-fits any_lengths ((schema_of nodes).shape_of id) t (schema-fits any_lengths nodes spelled.accepted spelled.small id) (value-fits limits message t is_value) in
    let enough = sizes t is_value in
    (fits-by-parts any_lengths (trim e) (numbers-trim any_lengths e (edited-by-any nodes id calls (opened_root (schema_of nodes) id t) spelled opened)) enough.0, enough.1)
