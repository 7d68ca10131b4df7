-- What is told of what readers stand at.
use Rattle.std.proofs.Common.{◌≡◌, ℕ, ◌+◌, ◌*◌, ◌/◌, ◌%◌, ◌&&◌, Bool, true, false, eqb, List, Option, Some, None, Result, Ok, Err, refl, ap, sym, ◌∙◌, subst, arith}
use Rattle.std.specs.Prelude.{MatchOption}
use Rattle.std.specs.Option.{is_some}
use Rattle.std.proofs.lemmas.Bool.Decides.{nat_tests}
use Rattle.capnp_model.specs.Sections.{words_for}
use Rattle.capnp_model.specs.Segments.{Segments, Place, place, after, words_at}
use Rattle.capnp_model.specs.Trees.{have_capability}
use Rattle.capnp_model.specs.Traversal.{tree_at, each}
use Rattle.capnp_model.specs.Coverage.{from_each}
use Rattle.capnp_model.specs.Visits.{visits}
use Rattle.capnp_units.specs.declared.errors.Error.{Error}
use Rattle.capnp_units.specs.declared.limiter.ReadLimiter.{ReadLimiter}
use Rattle.capnp_units.specs.Limits.{limit_of}
use Rattle.capnp_wire_objects.specs.Objects.{AreThere}
use Rattle.capnp_units.specs.declared.kinds.ErrorKind.{ErrorKind}
use Rattle.capnp_units.specs.declared.kinds.ErrorKind.TheVariants.{NestingLimitExceeded}
use Rattle.capnp_wire_canonical.specs.Reaches.{reach}
use Rattle.capnp_wire_canonical.specs.Standing.{IsSmall}
use Rattle.capnp_wire_canonical.specs.Checks.{head_state, Tells, TellsValue, TellsStruct}
use Rattle.capnp_wire_canonical.proofs.lemmas.Checking.{began_none}
use Rattle.capnp_units.specs.Segments.{words_in}
use Rattle.capnp_wire.specs.declared.backing.Backing.{Backing}
use Rattle.capnp_wire.specs.Views.{backing_bytes, is_paid, PointerView, StructView, section_at}
use Rattle.capnp_wire.specs.Canonical.{ToldOn, NoLevels, PointerTells, LiesAt, StandsAs, StructTellsIn, section_words}

-- without a limit nothing is paid
pub told_freely : (paid : Bool) (told : ReadLimiter → ReadLimiter → Type 0) (l start end : ReadLimiter) → false ≡ paid → limit_of start ≡ None → told start end → ToldOn paid told l l
told_freely paid told l start end free endless x = subst (λ (b : Bool). ToldOn b told l l) free (record { start = start; end = end; endless = endless; tells = x; unpaid = refl })

-- where the levels and the place are
pub pointer_told : (p : PointerView) (n : ℕ) (q head : Place) (old : ReadLimiter) (r : Result Bool Error) (head' : Place) (new : ReadLimiter) → p.levels ≡ Some n → p.place ≡ Some q → ToldOn p.basis.paid (λ l m. TellsValue (reach n p.basis.segments) q (head_state head l) r (head_state head' m)) old new → PointerTells p head old r head' new
pointer_told p n q head old r head' new levels at x =
    let s = p.basis.segments in
    let here = subst (λ (o : Option Place). MatchOption o ((r ≡ Ok false) × (head' ≡ head) × (new ≡ old)) (λ q. ToldOn p.basis.paid (λ l m. TellsValue (reach n s) q (head_state head l) r (head_state head' m)) old new)) (sym at) x in
    subst (λ (o : Option ℕ). MatchOption o (NoLevels r old new × (head' ≡ head)) (λ n. MatchOption p.place ((r ≡ Ok false) × (head' ≡ head) × (new ≡ old)) (λ q. ToldOn p.basis.paid (λ l m. TellsValue (reach n s) q (head_state head l) r (head_state head' m)) old new))) (sym levels) here

-- where the levels are
levels_told : (p : PointerView) (o : Option ℕ) (head : Place) (old : ReadLimiter) (r : Result Bool Error) (head' : Place) (new : ReadLimiter) → p.levels ≡ o
    → MatchOption o (NoLevels r old new × (head' ≡ head)) (λ n. MatchOption p.place ((r ≡ Ok false) × (head' ≡ head) × (new ≡ old)) (λ q. ToldOn p.basis.paid (λ l m. TellsValue (reach n p.basis.segments) q (head_state head l) r (head_state head' m)) old new))
    → PointerTells p head old r head' new
levels_told p o head old r head' new levels x =
    subst (λ (o : Option ℕ). MatchOption o (NoLevels r old new × (head' ≡ head)) (λ n. MatchOption p.place ((r ≡ Ok false) × (head' ≡ head) × (new ≡ old)) (λ q. ToldOn p.basis.paid (λ l m. TellsValue (reach n p.basis.segments) q (head_state head l) r (head_state head' m)) old new))) (sym levels) x

-- where no level is left
pub pointer_untold : (p : PointerView) (head : Place) (l : ReadLimiter) (e : Error) → p.levels ≡ None → e.kind ≡ NestingLimitExceeded → PointerTells p head l (Err e) head l
pointer_untold p head l e none deep = levels_told p None head l (Err e) head l none ((ap (λ (k : ErrorKind). Err (record { kind = k })) deep, refl), refl)

-- where the pointer stands nowhere
pub pointer_nowhere : (p : PointerView) (n : ℕ) (head : Place) (l : ReadLimiter) → p.levels ≡ Some n → p.place ≡ None → PointerTells p head l (Ok false) head l
pointer_nowhere p n head l levels none = levels_told p (Some n) head l (Ok false) head l levels (by p.place none)
  where
    by : (o : Option Place) → o ≡ None → MatchOption o ((◌≡◌ {A = Result Bool Error} (Ok false) (Ok false)) × (head ≡ head) × (l ≡ l)) (λ q. ToldOn p.basis.paid (λ l m. TellsValue (reach n p.basis.segments) q (head_state head l) (Ok false) (head_state head m)) l l)
    by None e = (refl, refl, refl)
    by (Some q) e = absurd cc

-- what is told of the segments of what a reader stands on
pub told_over : {A : Type 0} (bytes : A → List (List ℕ)) (b x : Backing A) (told : Segments → ReadLimiter → ReadLimiter → Type 0) (old new : ReadLimiter) → b ≡ x
    → ToldOn (is_paid x) (told (words_in (backing_bytes bytes x))) old new → ToldOn (is_paid b) (told (words_in (backing_bytes bytes b))) old new
told_over {A = A} bytes b x told old new e h = subst (λ (y : Backing A). ToldOn (is_paid y) (told (words_in (backing_bytes bytes y))) old new) (sym e) h

-- ---- structs

-- whole words of bytes
words_of_bytes : (n : ℕ) → n % 8 ≡ 0 → words_for (8 * n) ≡ n / 8
words_of_bytes n e = omega arith

bits_of_words : (n : ℕ) → n % 8 ≡ 0 → 8 * n ≡ 64 * words_for (8 * n)
bits_of_words n e = omega arith

module _ (v : StructView) (p : Place) (n : ℕ) (bits : v.bits ≡ 8 * n) where
  words_are : n % 8 ≡ 0 → section_words v ≡ n / 8
  words_are e = ap words_for bits ∙ words_of_bytes n e

  -- its own words lie there
  pub own_words_lie : n % 8 ≡ 0 → AreThere v.basis.segments p (n / 8 + v.pointers) → v.section ≡ section_at v.basis.segments p (n / 8) → v.first ≡ after p (n / 8) → LiesAt v p × AreThere v.basis.segments p (section_words v + v.pointers)
  own_words_lie e there section first =
      let w = sym (words_are e) in
      let all = subst (λ (m : ℕ). AreThere v.basis.segments p (m + v.pointers)) w there in (
        record {
          whole = bits ∙ bits_of_words n e ∙ ap (λ (b : ℕ). 64 * words_for b) (sym bits);
          there = all.0;
          section = sym (section ∙ ap (section_at v.basis.segments p) w);
          pointers = first ∙ ap (after p) w;
        },
        all,
      )

  -- they are whole words
  pub lie_whole : LiesAt v p → n % 8 ≡ 0
  lie_whole own = let e = sym bits ∙ own.whole ∙ ap (λ (b : ℕ). 64 * words_for b) bits in omega arith

  -- they are there
  pub lie_there : LiesAt v p → is_some (words_at v.basis.segments p (n / 8 + v.pointers)) ≡ true
  lie_there own = subst (λ (m : ℕ). is_some (words_at v.basis.segments p (m + v.pointers)) ≡ true) (words_are (lie_whole own)) own.there

  -- and are those of the section
  pub lie_alike : LiesAt v p → v.section ≡ section_at v.basis.segments p (n / 8)
  lie_alike own = sym own.section ∙ ap (section_at v.basis.segments p) (words_are (lie_whole own))

  -- behind which the first pointer is
  pub lie_before : LiesAt v p → v.first ≡ after p (n / 8)
  lie_before own = own.pointers ∙ ap (after p) (words_are (lie_whole own))

-- places are the same where their segments and positions are
pub places_same : (p q : Place) → true ≡ (eqb p.segment q.segment && eqb p.position q.position) → p ≡ q
places_same p q e =
    let segment : p.segment ≡ q.segment = grind (arith, nat_tests) in
    let position : p.position ≡ q.position = grind (arith, nat_tests) in
    ap (λ (n : ℕ). place n p.position) segment ∙ ap (place q.segment) position

pub places_apart : (p q : Place) → false ≡ (eqb p.segment q.segment && eqb p.position q.position) → p ≡ q → ⊥
places_apart p q e same =
    let segment : p.segment ≡ q.segment = ap (λ (x : Place). x.segment) same in
    let position : p.position ≡ q.position = ap (λ (x : Place). x.position) same in
    absurd (grind (arith, nat_tests))

-- a struct whose own words lie there
pub lies_told : (n : ℕ) (v : StructView) (p head : Place) (d : ℕ) (r : Result Bool Error) (head' : Place) (l m : ReadLimiter) → LiesAt v p → d ≡ section_words v → TellsStruct (reach n v.basis.segments) p (record { data_words = d; pointers = v.pointers }) (head_state head l) r (head_state head' m) → StructTellsIn n v p head r head' l m
lies_told n v p head d r head' l m own words x =
    let s = v.basis.segments in
    let k = v.pointers in
    subst (λ (q : Place). Tells (record { there = each (tree_at n s) q k; deeper = λ more. each (tree_at (more + n) s) q k; bad = have_capability; stands = StandsAs v p head; premise = IsSmall s q; path = from_each (visits n s) q k }) (head_state head l) r (head_state head' m)) (sym own.pointers) (by r (subst (λ (j : ℕ). TellsStruct (reach n s) p (record { data_words = j; pointers = k }) (head_state head l) r (head_state head' m)) words x))
  where
    by : (r : Result Bool Error) → TellsStruct (reach n v.basis.segments) p (record { data_words = section_words v; pointers = v.pointers }) (head_state head l) r (head_state head' m)
        → Tells (record { there = each (tree_at n v.basis.segments) (after p (section_words v)) v.pointers; deeper = λ more. each (tree_at (more + n) v.basis.segments) (after p (section_words v)) v.pointers; bad = have_capability; stands = StandsAs v p head; premise = IsSmall v.basis.segments (after p (section_words v)); path = from_each (visits n v.basis.segments) (after p (section_words v)) v.pointers }) (head_state head l) r (head_state head' m)
    by (Ok true) x =
        let y = x.1 in
        (x.0, record { what = y.what; there_is = y.there_is; clean = y.clean; stand = record { own = own; struct = y.stand }; near = y.near; walked = y.walked })
    by (Ok false) x =
        let y = x.1 in
        (x.0, record { began = y.began; apart = λ small more ts end read clean stand. y.apart small more ts end read clean stand.struct })
    by (Err e) x = x

-- one whose own words lie elsewhere
pub elsewhere_told : (n : ℕ) (v : StructView) (p head : Place) (l : ReadLimiter) → (LiesAt v p → ⊥) → StructTellsIn n v p head (Ok false) head l l
elsewhere_told n v p head l never = (refl, record { began = began_none (from_each (visits n v.basis.segments) v.first v.pointers) l; apart = λ small more ts end read clean stand. never stand.own })
