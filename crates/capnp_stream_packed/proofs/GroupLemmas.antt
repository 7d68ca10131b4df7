-- A group, and what comes behind it.
use Rattle.std.proofs.Common.{◌≡◌, ℕ, zero, suc, ◌+◌, ◌-◌, ◌<◌, List, [], ◌∷◌, replicate, Result, Ok, Err, refl, ap, ◌∙◌, add-one, arith}
use Rattle.std.specs.declared.option.Option.{Option}
use Rattle.std.specs.Int.{w64, from_le_bytes}
use Rattle.capnp_units.specs.Errors.{kind_of}
use Rattle.capnp_units.specs.declared.kinds.ErrorKind.{ErrorKind}
use Rattle.capnp_model.specs.Kinds.{Kind}
use Rattle.capnp_model.specs.Chains.{◌and_then◌}
use Rattle.capnp_model.specs.Bytes.{taken}
use Rattle.capnp_model.specs.Packing as model
use Rattle.capnp_model.specs.Packing.{spread, run_at, group_at, started, with_word, unpacked_from}
use Rattle.capnp_stream_packed.specs.Parts.{Rule, ContinuesWith, Takes, Refuses, byte_or, tagged}
use Rattle.capnp_stream_packed.specs.Runs.{run_view, IsOver, end_kind}
use Rattle.capnp_stream_packed.specs.declared.runs.Run.{Run}
use Rattle.capnp_stream_packed.specs.declared.runs.Run.TheVariants.{First, Next, Zeros, Verbatim}
use Rattle.capnp_stream_packed.proofs.PartLemmas.{then-alike, Leads-by, Leads-trans, Refuses-behind, Leads-then, Refuses-then}

then-then : {A B C : Type 0} (r : Result A Kind) (f : A → Result B Kind) (g : B → Result C Kind) → ((r and_then f) and_then g) ≡ (r and_then λ x. f x and_then g)
then-then (Ok x) f g = refl
then-then (Err k) f g = refl

-- what the run behind a group says of the n words to come
abbrev pub after_run : ℕ → List ℕ → model.Run × List ℕ → Result (List ℕ × List ℕ) Kind
after_run n word r = with_word (from_le_bytes w64 word) (unpacked_from n r.0 r.1)

-- what the bytes of a group's word say
abbrev pub after_word : ℕ → ℕ → List ℕ × List ℕ → Result (List ℕ × List ℕ) Kind
after_word n t w = run_at n t w.1 and_then after_run n w.0

-- what the tag of a group says
abbrev pub after_tag : ℕ → ℕ × List ℕ → Result (List ℕ × List ℕ) Kind
after_tag n t = tagged t.0 t.1 and_then after_word n t.0

-- what a group says of the words from it on
abbrev after_group : ℕ → ℕ × model.Run × List ℕ → Result (List ℕ × List ℕ) Kind
after_group n g = with_word g.0 (unpacked_from n g.1 g.2)

abbrev grouped : List ℕ → model.Run × List ℕ → Result (ℕ × model.Run × List ℕ) Kind
grouped word r = Ok (from_le_bytes w64 word, r.0, r.1)

tag-says : (n t : ℕ) (bytes : List ℕ) → (group_at n (t ∷ bytes) and_then after_group n) ≡ after_tag n (t, bytes)
unfolding tagged
tag-says n t bytes =
    then-then (spread 8 t bytes) (λ w. run_at n t w.1 and_then grouped w.0) (after_group n)
    ∙ then-alike (spread 8 t bytes) (λ w. (run_at n t w.1 and_then grouped w.0) and_then after_group n) (after_word n t) (λ w. then-then (run_at n t w.1) (grouped w.0) (after_group n))

step-of : (n : ℕ) (run : Run) → IsOver run → (bytes : List ℕ) → unpacked_from (suc n) (run_view run) bytes ≡ (byte_or (kind_of (end_kind run)) bytes and_then after_tag n)
unfolding unpacked_from
step-of n First over [] = refl
step-of n First over (t ∷ bytes) = tag-says n t bytes
step-of n Next over [] = refl
step-of n Next over (t ∷ bytes) = tag-says n t bytes
step-of n (Zeros zero) over [] = refl
step-of n (Zeros zero) over (t ∷ bytes) = tag-says n t bytes
step-of n (Zeros (suc k)) over bytes = absurd (omega arith)
step-of n (Verbatim zero) over [] = refl
step-of n (Verbatim zero) over (t ∷ bytes) = tag-says n t bytes
step-of n (Verbatim (suc k)) over bytes = absurd (omega arith)

-- ---- a group that is read

module _ (n : ℕ) (run : Run) (over : IsOver run) (a : Option (List ℕ)) where
  abbrev all : Rule (List ℕ)
  all = unpacked_from (n + 1) (run_view run)

  abbrev first_byte : Rule ℕ
  first_byte = byte_or (kind_of (end_kind run))

  starts : ContinuesWith all a a (λ bytes. first_byte bytes and_then after_tag n)
  starts = Leads-by all (λ bytes. first_byte bytes and_then after_tag n) a (λ bytes. ap (λ (m : ℕ). unpacked_from m (run_view run) bytes) (add-one n) ∙ step-of n run over bytes)

  pub tag-refused : (b : Option (List ℕ)) (k : ErrorKind) → Refuses first_byte a b k → Refuses all a b k
  tag-refused b k p = Refuses-behind all (λ bytes. first_byte bytes and_then after_tag n) a a b k starts (Refuses-then first_byte (after_tag n) a b k p)

  module _ (b : Option (List ℕ)) (t : ℕ) (tag : Takes first_byte a b t) where
    at_tag : ContinuesWith all a b (λ bytes. tagged t bytes and_then after_word n t)
    at_tag = Leads-trans all (λ bytes. first_byte bytes and_then after_tag n) (λ bytes. tagged t bytes and_then after_word n t) a a b starts (Leads-then first_byte (after_tag n) a b t tag)

    pub word-refused : (c : Option (List ℕ)) (k : ErrorKind) → Refuses (tagged t) b c k → Refuses all a c k
    word-refused c k p = Refuses-behind all (λ bytes. tagged t bytes and_then after_word n t) a b c k at_tag (Refuses-then (tagged t) (after_word n t) b c k p)

    module _ (c : Option (List ℕ)) (w : List ℕ) (word : Takes (tagged t) b c w) where
      at_word : ContinuesWith all a c (λ bytes. run_at n t bytes and_then after_run n w)
      at_word = Leads-trans all (λ bytes. tagged t bytes and_then after_word n t) (λ bytes. run_at n t bytes and_then after_run n w) a b c at_tag (Leads-then (tagged t) (after_word n t) b c w word)

      pub run-refused : (d : Option (List ℕ)) (k : ErrorKind) → Refuses (run_at n t) c d k → Refuses all a d k
      run-refused d k p = Refuses-behind all (λ bytes. run_at n t bytes and_then after_run n w) a c d k at_word (Refuses-then (run_at n t) (after_run n w) c d k p)

      pub group-leads : (d : Option (List ℕ)) (r : model.Run) → Takes (run_at n t) c d r → ContinuesWith all a d (λ more. with_word (from_le_bytes w64 w) (unpacked_from n r more))
      group-leads d r p = Leads-trans all (λ bytes. run_at n t bytes and_then after_run n w) (λ more. after_run n w (r, more)) a c d at_word (Leads-then (run_at n t) (after_run n w) c d r p)

-- ---- inside a run

zeros-says : (n k m : ℕ) → k ≡ suc m → (bytes : List ℕ) → unpacked_from (n + 1) (model.zeros k) bytes ≡ with_word 0 (unpacked_from n (model.zeros m) bytes)
unfolding unpacked_from
zeros-says n k m e bytes = rw (e, add-one n) refl

pub zeros-lead : (n k : ℕ) (a : Option (List ℕ)) → 0 < k → ContinuesWith (unpacked_from (n + 1) (model.zeros k)) a a (λ more. with_word (from_le_bytes w64 (replicate 8 0)) (unpacked_from n (model.zeros (k - 1)) more))
zeros-lead n k a some = Leads-by _ _ a (zeros-says n k (k - 1) (omega arith))

abbrev verbatim_then : ℕ → ℕ → List ℕ × List ℕ → Result (List ℕ × List ℕ) Kind
verbatim_then n m w = with_word (from_le_bytes w64 w.0) (unpacked_from n (model.verbatim m) w.1)

verbatim-says : (n k m : ℕ) → k ≡ suc m → (bytes : List ℕ) → unpacked_from (n + 1) (model.verbatim k) bytes ≡ (taken 8 bytes and_then verbatim_then n m)
unfolding unpacked_from
verbatim-says n k m e bytes = rw (e, add-one n) refl

module _ (n k : ℕ) (some : 0 < k) (a b : Option (List ℕ)) where
  abbrev run : Rule (List ℕ)
  run = unpacked_from (n + 1) (model.verbatim k)

  abbrev parts : Rule (List ℕ)
  parts bytes = taken 8 bytes and_then verbatim_then n (k - 1)

  begins : ContinuesWith run a a parts
  begins = Leads-by run parts a (verbatim-says n k (k - 1) (omega arith))

  pub verbatim-leads : (w : List ℕ) → Takes (taken 8) a b w → ContinuesWith run a b (λ more. with_word (from_le_bytes w64 w) (unpacked_from n (model.verbatim (k - 1)) more))
  verbatim-leads w p = Leads-trans run parts (λ more. verbatim_then n (k - 1) (w, more)) a a b begins (Leads-then (taken 8) (verbatim_then n (k - 1)) a b w p)

  pub verbatim-refused : (kind : ErrorKind) → Refuses (taken 8) a b kind → Refuses run a b kind
  verbatim-refused kind p = Refuses-behind run parts a a b kind begins (Refuses-then (taken 8) (verbatim_then n (k - 1)) a b kind p)
