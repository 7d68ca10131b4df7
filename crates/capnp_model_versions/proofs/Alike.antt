-- Values of one trimmed value, and cells that hold the same.
use Rattle.std.proofs.Common.{◌≡◌, ℕ, ◌*◌, ◌+◌, ◌^◌, ◌<◌, ◌≤◌, refl, sym, ◌∙◌, ap, subst, arith}
use Rattle.capnp_model.specs.Trees.{Tree, null, capability, structure, plain_list, pointer_list, struct_list, Trees, child}
use Rattle.capnp_model.specs.Sections.{with_bits}
use Rattle.capnp_model.specs.Trimming.{trim, trim_each}
use Rattle.capnp_model.specs.Edits.{Cell, put_bits, put_child}
use Rattle.capnp_model.proofs.lemmas.Bounds.{with_bits_lt}
use Rattle.capnp_model.proofs.lemmas.Stripping.{child-stripped, child-trim_each}
use Rattle.capnp_model.proofs.lemmas.Widening.{bare, bare-with_child, trim-structure}
use Rattle.capnp_model_versions.specs.Whole.{IsWhole, AreWhole}
use Rattle.capnp_model_versions.proofs.lemmas.WholeValues.{whole-child, whole-with_child}

-- one trimmed value
pub record Alike (t u : Tree) : Type 0 where
  pub trims : trim t ≡ trim u
  pub whole : IsWhole t
  pub whole' : IsWhole u

pub alike-self : (t : Tree) → IsWhole t → Alike t t
alike-self t h = record { trims = refl; whole = h; whole' = h }

-- one section, and children of which trimming leaves the same
pub record SameCell (c d : Cell) : Type 0 where
  pub sections : c.section ≡ d.section
  pub kids : bare c.kids ≡ bare d.kids
  pub whole : AreWhole c.kids
  pub whole' : AreWhole d.kids

-- What two edits make of the same cells is the same, and keeps within as many bits as they need.
pub record Agree (bits : ℕ) (c e e' : Cell) : Type 0 where
  pub same : SameCell e e'
  pub within : (size : ℕ) → bits ≤ size → c.section < 2 ^ size → e.section < 2 ^ size

-- ---- children

pub child-bare : (ts : Trees) (i : ℕ) → child (bare ts) i ≡ trim (child ts i)
child-bare ts i = child-stripped (trim_each ts) i ∙ child-trim_each ts i

pub alike-child : (c d : Cell) (i : ℕ) → SameCell c d → Alike (child c.kids i) (child d.kids i)
alike-child c d i h = record {
  trims = sym (child-bare c.kids i) ∙ ap (λ z. child z i) h.kids ∙ child-bare d.kids i;
  whole = whole-child c.kids i h.whole;
  whole' = whole-child d.kids i h.whole';
}

-- ---- structs

pub alike-structure : (w v n m : ℕ) (ts us : Trees) → n ≡ m → bare ts ≡ bare us → n < 2 ^ (64 * w) → n < 2 ^ (64 * v) → AreWhole ts → AreWhole us → Alike (structure w n ts) (structure v m us)
alike-structure w v n m ts us e k h h' a a' = record {
  trims = trim-structure w v n ts us h h' k ∙ ap (λ z. trim (structure v z us)) e;
  whole = (h, a);
  whole' = (subst (λ z. z < 2 ^ (64 * v)) e h', a');
}

-- what a value of a struct's trimmed value is
pub data IsStructLike (w n : ℕ) (ts : Trees) : Tree → Type 0 where
  struct_like : (v : ℕ) (us : Trees) → bare ts ≡ bare us → n < 2 ^ (64 * w) → n < 2 ^ (64 * v) → AreWhole ts → AreWhole us → IsStructLike w n ts (structure v n us)

parts : (w n v m : ℕ) (ts us : Trees) → trim (structure w n ts) ≡ trim (structure v m us) → (n ≡ m) × (bare ts ≡ bare us)
unfolding trim
parts w n v m ts us h = (cc, cc)

pub struct-like : (w n : ℕ) (ts : Trees) (u : Tree) → Alike (structure w n ts) u → IsStructLike w n ts u
unfolding trim
struct-like w n ts null a = absurd (cc (a.trims))
struct-like w n ts (capability i) a = absurd (cc (a.trims))
struct-like w n ts (structure v m us) a =
    let both = parts w n v m ts us a.trims in
    subst (λ z. IsStructLike w n ts (structure v z us)) both.0
    (struct_like v us both.1 a.whole.0 (subst (λ z. z < 2 ^ (64 * v)) (sym both.0) a.whole'.0) a.whole.1 a.whole'.1)
struct-like w n ts (plain_list z k x) a = absurd (cc (a.trims))
struct-like w n ts (pointer_list us) a = absurd (cc (a.trims))
struct-like w n ts (struct_list d p es) a = absurd (cc (a.trims))

-- ---- single writes

pub agree-same : (c d : Cell) → SameCell c d → Agree 0 c c d
agree-same c d h = record { same = h; within = λ size le k. k }

pub agree-more : (a b : ℕ) (c e e' : Cell) → a ≤ b → Agree a c e e' → Agree b c e e'
agree-more a b c e e' le h = record { same = h.same; within = λ size k l. h.within size (omega arith) l }

pub agree-then : (bits : ℕ) (c e e' f f' : Cell) → Agree bits c e e' → Agree bits e f f' → Agree bits c f f'
agree-then bits c e e' f f' h k = record { same = k.same; within = λ size le l. k.within size le (h.within size le l) }

pub agree-put_bits : (bits at width value : ℕ) (c d : Cell) → value < 2 ^ width → at + width ≤ bits → SameCell c d → Agree bits c (put_bits at width value c) (put_bits at width value d)
agree-put_bits bits at width value c d small le h = record {
  same = record { sections = ap (with_bits at width value) h.sections; kids = h.kids; whole = h.whole; whole' = h.whole' };
  within = λ size l k. with_bits_lt at width value c.section size small (omega arith) k;
}

pub agree-put_child : (i : ℕ) (t u : Tree) (c d : Cell) → Alike t u → SameCell c d → Agree 0 c (put_child i t c) (put_child i u d)
agree-put_child i t u c d a h = record {
  same = record { sections = h.sections; kids = bare-with_child c.kids d.kids i t u h.kids a.trims; whole = whole-with_child c.kids i t h.whole a.whole; whole' = whole-with_child d.kids i u h.whole' a.whole' };
  within = λ size le k. k;
}
