-- Copies of what readers stand at: who pays, and what their parts are.
use Rattle.std.proofs.Common.{◌≡◌, ℕ, ◌*◌, ◌%◌, ◌^◌, Bool, true, false, List, Option, Some, None, Result, refl, ap, sym, ◌∙◌, subst}
use Rattle.std.specs.Prelude.{⊤, MatchOption}
use Rattle.capnp_model.specs.Sections.{number_of}
use Rattle.capnp_model.specs.Segments.{Segments}
use Rattle.capnp_units.specs.declared.errors.Error.{Error}
use Rattle.capnp_units.specs.declared.limiter.ReadLimiter.{ReadLimiter}
use Rattle.capnp_units.specs.Limits.{limit_of}
use Rattle.capnp_units.specs.Segments.{words_in}
use Rattle.capnp_units.specs.Sizes.{size_number}
use Rattle.capnp_wire.specs.declared.backing.Backing.{Backing}
use Rattle.capnp_wire.specs.Elements.{step_bits}
use Rattle.capnp_wire.specs.Views.{backing_bytes, is_paid, Ground, ground_of, ListView}
use Rattle.capnp_copy_values.specs.declared.lists.ListSource.{ListSource}
use Rattle.capnp_copy_values.specs.Lists.{listed_section}
use Rattle.capnp_layout_builders.specs.Copied.{Walk, Charged}

-- What is there is matched.
pub matched : {X : Type 0} (o : Option X) (N : Type 0) (F : X → Type 0) (x : X) → o ≡ Some x → F x → MatchOption o N F
matched {X} o N F x e f = subst (λ (q : Option X). MatchOption q N F) (sym e) f

-- Nothing is there.
pub unmatched : {X : Type 0} (o : Option X) (N : Type 0) (F : X → Type 0) → o ≡ None → N → MatchOption o N F
unmatched {X} o N F e n = subst (λ (q : Option X). MatchOption q N F) (sym e) n

-- A walk over an arena is under the limit.
pub in_arena : {A : Type 0} (bytes : A → List (List ℕ)) (W : Segments → Walk) (b : Backing A) (v : Ground) (bs : List (List ℕ)) (old new : ReadLimiter) (r : Result ⊤ Error)
    → ground_of bytes b ≡ v → is_paid b ≡ true → backing_bytes bytes b ≡ bs → W (words_in bs) old r new → Charged v.paid (W v.segments) old r new
in_arena bytes W b v bs old new r e p s w =
    let paid : true ≡ v.paid = (sym p) ∙ (ap (λ (g : Ground). g.paid) e) in
    let there : words_in bs ≡ v.segments = (ap words_in (sym s)) ∙ (ap (λ (g : Ground). g.segments) e) in
    subst (λ (q : Bool). Charged q (W v.segments) old r new) paid (subst (λ (x : Segments). W x old r new) there w)

-- A walk over a default is under no limit, and takes nothing.
pub in_default : {A : Type 0} (bytes : A → List (List ℕ)) (W : Segments → Walk) (b b' : Backing A) (v : Ground) (l m old : ReadLimiter) (r : Result ⊤ Error)
    → ground_of bytes b ≡ v → is_paid b ≡ false → ground_of bytes b' ≡ v → limit_of l ≡ None → W (words_in (backing_bytes bytes b')) l r m → Charged v.paid (W v.segments) old r old
in_default bytes W b b' v l m old r e p e' free w =
    let paid : false ≡ v.paid = (sym p) ∙ (ap (λ (g : Ground). g.paid) e) in
    let here : W v.segments l r m = subst (λ (x : Segments). W x l r m) (ap (λ (g : Ground). g.segments) e') w in
    subst (λ (q : Bool). Charged q (W v.segments) old r old) paid (l, m, free, here, refl)

-- The section of a list by its parts.
pub same_section : (x : ListSource) (l : ListView) (bs : List ℕ) → x.size ≡ l.size → x.count ≡ l.count → x.data_words ≡ l.data_words → x.pointers ≡ l.pointers
    → number_of 8 bs % 2 ^ (step_bits (size_number l.size) l.data_words l.pointers * l.count) ≡ l.section → listed_section x bs ≡ l.section
same_section x l bs es ec ed ek h =
    let size = ap (λ z. step_bits (size_number z) x.data_words x.pointers * x.count) es in
    let widths = ap (λ (z : ℕ). step_bits (size_number l.size) z x.pointers * x.count) ed in
    let refs = ap (λ (z : ℕ). step_bits (size_number l.size) l.data_words z * x.count) ek in
    let count = ap (λ (z : ℕ). step_bits (size_number l.size) l.data_words l.pointers * z) ec in
    (ap (λ (k : ℕ). number_of 8 bs % 2 ^ k) (size ∙ (widths ∙ (refs ∙ count)))) ∙ h
