-- Marks on words.
use Rattle.std.proofs.Common.{◌≡◌, ℕ, ◌+◌, ◌-◌, ◌<◌, ◌==◌, Bool, true, false, ◌&&◌, List, [], ◌∷◌, length, take, get_or, Option, Some, None, Vec, refl, ap, sym, ◌∙◌, subst, inl, inr, arith}
use Rattle.std.specs.Prelude.{nat_lt, nat_le, if◌then◌else◌}
use Rattle.std.specs.List.{fold, Contains}
use Rattle.std.specs.Option.{option_map}
use Rattle.std.specs.declared.alloc.Global.{Global}
use Rattle.std.proofs.lemmas.Bool.{cases_lt, and_parts, both_ways, lt-ltb, le-ltb, le-leb}
use Rattle.std.proofs.lemmas.List.{take_more}
use Rattle.std.proofs.lemmas.List.Sums.{fold_push}
use Rattle.std.proofs.lemmas.List.Elements.{Contains-append_left, Contains-append_right, Contains-push, Contains-push_cases, Contains-append_cases}
use Rattle.capnp_model.specs.Chains.{◌>>=◌, ◌provided◌}
use Rattle.capnp_model.specs.Segments.{Segments, Place, root, after}
use Rattle.capnp_model.proofs.lemmas.Chaining.{bind_some, provided_some, some_is}
use Rattle.capnp_model.proofs.lemmas.Tests.{both, lt_is, le_is, is_lt, never_true, number_is, test_is_true}
use Rattle.capnp_wire_objects.specs.declared.object.Object.{Object}
use Rattle.capnp_wire_objects.specs.declared.place.Place.{Place as Pointer}
use Rattle.capnp_wire_objects.specs.Places.{place_view}
use Rattle.hagzimot_explain.specs.declared.marks.Mark.{Mark}
use Rattle.hagzimot_explain.specs.declared.marks.Mark.TheVariants as mark
use Rattle.hagzimot_explain.specs.declared.marks.Part.{Part}
use Rattle.hagzimot_explain.specs.declared.marks.Word.{Word}
use Rattle.hagzimot_explain.specs.declared.parts.Pad.{Pad}
use Rattle.hagzimot_explain.specs.Rows.{value_of, for_word, is_at, replaced}
use Rattle.hagzimot_explain.specs.Parts.{object_there, words_of, start_of, part_in, part_of, part_from, pad_there}
use Rattle.hagzimot_explain.specs.Marks.{object_mark, pad_mark, marked, marked_again, marked_by, first_word, word_by, unmarked, IsMarkOf}
use Rattle.hagzimot_explain.proofs.RowLemmas.{same_when, mapped_word}

-- ---- one word

no_mark : (o : Option Word) → option_map (marked None) o ≡ o
no_mark None = refl
no_mark (Some w) = refl

pub marks_there : (rows : List (Vec Word Global)) (p q : Place) (m : Mark) (w : Word) → Some w ≡ value_of rows p → replaced p (marked (Some m) w) q (value_of rows q) ≡ option_map (marked (m provided is_at p q)) (value_of rows q)
marks_there rows p q m w there = by (is_at p q) refl
  where
    by : (b : Bool) → is_at p q ≡ b → (if b then option_map (λ _. marked (Some m) w) (value_of rows q) else value_of rows q) ≡ option_map (marked (m provided b)) (value_of rows q)
    by true e =
        let here : value_of rows q ≡ Some w = ap (value_of rows) (sym (same_when p q e)) ∙ sym there in
        ap (option_map (λ _. marked (Some m) w)) here ∙ sym (ap (option_map (marked (Some m))) here)
    by false e = sym (no_mark (value_of rows q))

pub marks_nowhere : (rows : List (Vec Word Global)) (p q : Place) (m : Mark) → None ≡ value_of rows p → value_of rows q ≡ option_map (marked (m provided is_at p q)) (value_of rows q)
marks_nowhere rows p q m there = by (is_at p q) refl
  where
    by : (b : Bool) → is_at p q ≡ b → value_of rows q ≡ option_map (marked (m provided b)) (value_of rows q)
    by true e =
        let here : value_of rows q ≡ None = ap (value_of rows) (sym (same_when p q e)) ∙ sym there in
        here ∙ sym (ap (option_map (marked (Some m))) here)
    by false e = sym (no_mark (value_of rows q))

-- ---- objects

-- The place is that of one of n words.
abbrev pub is_among : Place → ℕ → Place → Bool
is_among start n q = (start.segment == q.segment) && (nat_le start.position q.position && nat_lt q.position (start.position + n))

-- The mark of one of the first n words of an object.
abbrev pub front_mark : Pointer → Object → ℕ → Place → Option Mark
front_mark p o n q = if is_among (start_of o) n q then object_mark p o q else None

none_among : (start : Place) (q : Place) → is_among start 0 q ≡ false
none_among start q = never_true (is_among start 0 q) (λ h.
    let parts = and_parts (start.segment == q.segment) _ h in
    let more = and_parts (nat_le start.position q.position) _ parts.1 in
    let le = le_is _ _ more.0 in
    let lt = lt_is _ _ more.1 in
    absurd (omega arith))

pub front_none : (p : Pointer) (o : Object) (q : Place) (old : Option Word) → old ≡ option_map (marked (front_mark p o 0 q)) old
front_none p o q old = sym (ap (λ (b : Bool). option_map (marked (if b then object_mark p o q else None)) old) (none_among (start_of o) q) ∙ no_mark old)

-- The word at the end of a front isn't in it, and any other is in the front that is longer by it if it is in the front.
end_not_among : (start : Place) (i : ℕ) → is_among start i (after start i) ≡ false
end_not_among start i = never_true (is_among start i (after start i)) (λ h.
    let parts = and_parts (start.segment == start.segment) _ h in
    let more = and_parts (nat_le start.position (start.position + i)) _ parts.1 in
    let lt = lt_is _ _ more.1 in
    absurd (omega arith))

end_among : (start : Place) (i : ℕ) → is_among start (i + 1) (after start i) ≡ true
end_among start i = both (start.segment == start.segment) _ (number_is start.segment) (both (nat_le start.position (start.position + i)) _ (grind arith) (grind arith))

lt_same : (a i q : ℕ) → (a + i ≡ q → ⊥) → nat_lt q (a + i) ≡ nat_lt q (a + (i + 1))
lt_same a i q ne = elim (cases_lt q (a + i)) [
  | inl lt ↦ lt-ltb q (a + i) lt ∙ sym (lt-ltb q (a + (i + 1)) (omega arith))
  | inr ge ↦ le-ltb q (a + i) ge ∙ sym (le-ltb q (a + (i + 1)) (omega arith))
]

others_among : (start : Place) (i : ℕ) (q : Place) → is_at (after start i) q ≡ false → is_among start i q ≡ is_among start (i + 1) q
others_among start i q h = by (start.segment == q.segment) refl
  where
    by : (b : Bool) → (start.segment == q.segment) ≡ b → is_among start i q ≡ is_among start (i + 1) q
    by false e = ap (λ (b : Bool). b && (nat_le start.position q.position && nat_lt q.position (start.position + i))) e ∙ sym (ap (λ (b : Bool). b && (nat_le start.position q.position && nat_lt q.position (start.position + (i + 1)))) e)
    by true e =
        let ne = λ (same : start.position + i ≡ q.position). both_ways (is_at (after start i) q) h (both (start.segment == q.segment) (start.position + i == q.position) e (test_is_true _ _ same)) in
        ap (λ (b : Bool). (start.segment == q.segment) && (nat_le start.position q.position && b)) (lt_same start.position i q.position ne)

-- The part at the end of a front.
provided_so : {A : Type 0} → (o : Option A) (b : Bool) → b ≡ true → (o >>= λ x. x provided b) ≡ o
provided_so None b e = refl
provided_so (Some x) b e = ap (λ (t : Bool). x provided t) e

provided_not : {A : Type 0} → (o : Option A) (b : Bool) → b ≡ false → (o >>= λ x. x provided b) ≡ None
provided_not None b e = refl
provided_not (Some x) b e = ap (λ (t : Bool). x provided t) e

part_at_end : (start : Place) (o : Object) (i : ℕ) → part_from start o (after start i) ≡ part_in o i
part_at_end start o i =
    let here : start.position + i - start.position ≡ i = omega arith in
    provided_so (part_in o (start.position + i - start.position)) ((start.segment == start.segment) && nat_le start.position (start.position + i)) (both _ _ (number_is start.segment) (le-leb start.position (start.position + i) (omega arith))) ∙ ap (part_in o) here

end_mark : (p : Pointer) (o : Object) (i : ℕ) (q : Place) → after (start_of o) i ≡ q → object_mark p o q ≡ (part_in o i >>= λ x. Some (mark.Object p x))
end_mark p o i q e = ap (object_mark p o) (sym e) ∙ ap (λ (o : Option Part). o >>= λ x. Some (mark.Object p x)) (part_at_end (start_of o) o i)

before_end : (p : Pointer) (o : Object) (i : ℕ) (q : Place) → after (start_of o) i ≡ q → front_mark p o i q ≡ None
before_end p o i q e = ap (λ (b : Bool). if b then object_mark p o q else None) (ap (is_among (start_of o) i) (sym e) ∙ end_not_among (start_of o) i)

at_end : (p : Pointer) (o : Object) (i : ℕ) (q : Place) → after (start_of o) i ≡ q → front_mark p o (i + 1) q ≡ object_mark p o q
at_end p o i q e = ap (λ (b : Bool). if b then object_mark p o q else None) (ap (is_among (start_of o) (i + 1)) (sym e) ∙ end_among (start_of o) i)

more_from : (p : Pointer) (o : Object) (i : ℕ) (q : Place) (part : Option Part) (old cur new : Option Word) → part_in o i ≡ part → cur ≡ option_map (marked (front_mark p o i q)) old → new ≡ option_map (marked ((part >>= λ x. Some (mark.Object p x)) >>= λ m. m provided is_at (after (start_of o) i) q)) cur → new ≡ option_map (marked (front_mark p o (i + 1) q)) old
more_from p o i q part old cur new is before step = by (is_at (after (start_of o) i) q) refl
  where
    found : Option Mark
    found = part >>= λ x. Some (mark.Object p x)

    by : (b : Bool) → is_at (after (start_of o) i) q ≡ b → new ≡ option_map (marked (front_mark p o (i + 1) q)) old
    by true e =
        let same = same_when (after (start_of o) i) q e in
        let unmarked_yet : cur ≡ old = before ∙ ap (λ (m : Option Mark). option_map (marked m) old) (before_end p o i q same) ∙ no_mark old in
        let its : found ≡ front_mark p o (i + 1) q = ap (λ (o : Option Part). o >>= λ x. Some (mark.Object p x)) (sym is) ∙ sym (end_mark p o i q same) ∙ sym (at_end p o i q same) in
        step ∙ ap (λ (m : Option Mark). option_map (marked m) cur) (provided_so found _ e ∙ its) ∙ ap (option_map (marked (front_mark p o (i + 1) q))) unmarked_yet
    by false e =
        step ∙ ap (λ (m : Option Mark). option_map (marked m) cur) (provided_not found _ e) ∙ no_mark cur ∙ before ∙ ap (λ (b : Bool). option_map (marked (if b then object_mark p o q else None)) old) (others_among (start_of o) i q e)

pub object_more : (p : Pointer) (o : Object) (start : Place) (i : ℕ) (q : Place) (part : Option Part) (old cur new : Option Word) → start ≡ start_of o → part ≡ part_in o i → cur ≡ option_map (marked (front_mark p o i q)) old → new ≡ option_map (marked ((part >>= λ x. Some (mark.Object p x)) >>= λ m. m provided is_at (after start i) q)) cur → new ≡ option_map (marked (front_mark p o (i + 1) q)) old
object_more p o start i q part old cur new begins is before step = more_from p o i q part old cur new (sym is) before (step ∙ ap (λ (a : Place). option_map (marked ((part >>= λ x. Some (mark.Object p x)) >>= λ m. m provided is_at (after a i) q)) cur) begins)

pub no_part_more : (p : Pointer) (o : Object) (i : ℕ) (q : Place) (old cur : Option Word) → None ≡ part_in o i → cur ≡ option_map (marked (front_mark p o i q)) old → cur ≡ option_map (marked (front_mark p o (i + 1) q)) old
no_part_more p o i q old cur is before = more_from p o i q None old cur cur (sym is) before (sym (no_mark cur))

is_inside : (o : Object) (q : Place) (x : Part) → part_from (start_of o) o q ≡ Some x → is_among (start_of o) (words_of o) q ≡ true
is_inside o q x h =
    let start = start_of o in
    let a = bind_some (part_in o (q.position - start.position)) _ x h in
    let b = provided_some a.0 x _ a.2 in
    let c = bind_some (part_of o (q.position - start.position)) _ a.0 a.1 in
    let d = provided_some c.0 a.0 _ c.2 in
    let e = and_parts (start.segment == q.segment) _ b.0 in
    let le = le_is _ _ e.1 in
    let lt = lt_is _ _ d.0 in
    both (start.segment == q.segment) _ e.0 (both _ _ e.1 (is_lt q.position (start.position + words_of o) (omega arith)))

front_all : (p : Pointer) (o : Object) (q : Place) → front_mark p o (words_of o) q ≡ object_mark p o q
front_all p o q = by (is_among (start_of o) (words_of o) q) refl (part_from (start_of o) o q) refl
  where
    by : (b : Bool) → is_among (start_of o) (words_of o) q ≡ b → (x : Option Part) → part_from (start_of o) o q ≡ x → front_mark p o (words_of o) q ≡ object_mark p o q
    by true e x h = ap (λ (b : Bool). if b then object_mark p o q else None) e
    by false e None h = ap (λ (b : Bool). if b then object_mark p o q else None) e ∙ sym (ap (λ (x : Option Part). x >>= λ x. Some (mark.Object p x)) h)
    by false e (Some x) h = absurd (both_ways (is_among (start_of o) (words_of o) q) e (is_inside o q x h))

pub object_all : (p : Pointer) (o : Object) (q : Place) (old : Option Word) → option_map (marked (front_mark p o (words_of o) q)) old ≡ option_map (marked (object_mark p o q)) old
object_all p o q old = ap (λ (m : Option Mark). option_map (marked m) old) (front_all p o q)

-- ---- all pointers

pub by_more : (s t : Segments) (ps : List Pointer) (i : ℕ) (d : Pointer) (q : Place) (o : Object) (cur mid new : Option Word) → t ≡ s → i < length ps → o ≡ object_there t (place_view (get_or ps i d)) → cur ≡ for_word s q (word_by s (take i ps) q) → mid ≡ option_map (marked (pad_mark (get_or ps i d) (pad_there t (place_view (get_or ps i d))) q)) cur → new ≡ option_map (marked (object_mark (get_or ps i d) o q)) mid → new ≡ for_word s q (word_by s (take (i + 1) ps) q)
by_more s t ps i d q o cur mid new same h its e f g =
    let w = word_by s (take i ps) q in
    let p = get_or ps i d in
    let a = f ∙ ap (λ (u : Segments). option_map (marked (pad_mark p (pad_there u (place_view p)) q)) cur) same ∙ ap (option_map (marked (pad_mark p (pad_there s (place_view p)) q))) e ∙ mapped_word s q (marked (pad_mark p (pad_there s (place_view p)) q)) w in
    g ∙ ap (λ (o : Object). option_map (marked (object_mark p o q)) mid) (its ∙ ap (λ (u : Segments). object_there u (place_view p)) same)
    ∙ ap (option_map (marked (object_mark p (object_there s (place_view p)) q))) a ∙ mapped_word s q (marked (object_mark p (object_there s (place_view p)) q)) (marked (pad_mark p (pad_there s (place_view p)) q) w) ∙ ap (for_word s q) (sym (ap (fold (marked_by s q) (first_word q)) (take_more ps i d h) ∙ fold_push (marked_by s q) (first_word q) (take i ps) p))

-- ---- the marks are true

-- What a mark says, if it says that the word is reached.
abbrev SaysSo : Segments → List Pointer → Place → Mark → Type 0
SaysSo s ps q mark.NotReached = Unit {0}
SaysSo s ps q mark.Root = is_at root q ≡ true
SaysSo s ps q (mark.Pad p second) = Contains ps p × (pad_mark p (pad_there s (place_view p)) q ≡ Some (mark.Pad p second))
SaysSo s ps q (mark.Object p x) = Contains ps p × (part_from (start_of (object_there s (place_view p))) (object_there s (place_view p)) q ≡ Some x)

again_so : (s : Segments) (ps : List Pointer) (q : Place) (first m : Mark) (again : Bool) → SaysSo s ps q first → SaysSo s ps q m → SaysSo s ps q (marked_again first m again).mark
again_so s ps q mark.NotReached m again f h = h
again_so s ps q mark.Root m again f h = f
again_so s ps q (mark.Pad p second) m again f h = f
again_so s ps q (mark.Object p x) m again f h = f

marked_so : (s : Segments) (ps : List Pointer) (q : Place) (o : Option Mark) (w : Word) → SaysSo s ps q w.mark → ((m : Mark) → o ≡ Some m → SaysSo s ps q m) → SaysSo s ps q (marked o w).mark
marked_so s ps q None w f h = f
marked_so s ps q (Some m) w f h = again_so s ps q w.mark m w.again f (h m refl)

object_so : (s : Segments) (ps : List Pointer) (q : Place) (p : Pointer) → Contains ps p → (m : Mark) → object_mark p (object_there s (place_view p)) q ≡ Some m → SaysSo s ps q m
object_so s ps q p among m h =
    let o = object_there s (place_view p) in
    let a = bind_some (part_from (start_of o) o q) _ m h in
    subst (SaysSo s ps q) (some_is (mark.Object p a.0) m a.2) (among, a.1)

pad_so : (s : Segments) (ps : List Pointer) (q : Place) (p : Pointer) → Contains ps p → (m : Mark) → pad_mark p (pad_there s (place_view p)) q ≡ Some m → SaysSo s ps q m
pad_so s ps q p among m h = by (pad_there s (place_view p)) refl
  where
    by : (pad : Option Pad) → pad_there s (place_view p) ≡ pad → SaysSo s ps q m
    by None e = let none : None ≡ Some m = sym (ap (λ (x : Option Pad). pad_mark p x q) e) ∙ h in absurd cc
    by (Some pad) e = first (is_at (place_view pad.place) q) refl (pad.is_double && is_at (after (place_view pad.place) 1) q) refl
      where
        is : pad_mark p (Some pad) q ≡ Some m
        is = sym (ap (λ (x : Option Pad). pad_mark p x q) e) ∙ h

        first : (a : Bool) → is_at (place_view pad.place) q ≡ a → (b : Bool) → (pad.is_double && is_at (after (place_view pad.place) 1) q) ≡ b → SaysSo s ps q m
        first true a b f =
            let same = some_is (mark.Pad p false) m (sym (ap (λ (t : Bool). if t then Some (mark.Pad p false) else (if pad.is_double && is_at (after (place_view pad.place) 1) q then Some (mark.Pad p true) else None)) a) ∙ is) in
            subst (SaysSo s ps q) same (among, h ∙ ap Some (sym same))
        first false a true f =
            let same = some_is (mark.Pad p true) m (sym (ap (λ (t : Bool). if t then Some (mark.Pad p false) else (if pad.is_double && is_at (after (place_view pad.place) 1) q then Some (mark.Pad p true) else None)) a ∙ ap (λ (t : Bool). if t then Some (mark.Pad p true) else None) f) ∙ is) in
            subst (SaysSo s ps q) same (among, h ∙ ap Some (sym same))
        first false a false f = let none : None ≡ Some m = sym (ap (λ (t : Bool). if t then Some (mark.Pad p false) else (if pad.is_double && is_at (after (place_view pad.place) 1) q then Some (mark.Pad p true) else None)) a ∙ ap (λ (t : Bool). if t then Some (mark.Pad p true) else None) f) ∙ is in absurd cc

fold_so : (s : Segments) (all ps : List Pointer) (q : Place) (w : Word) → ((p : Pointer) → Contains ps p → Contains all p) → SaysSo s all q w.mark → SaysSo s all q (fold (marked_by s q) w ps).mark
fold_so s all [] q w among f = f
fold_so s all (p ∷ ps) q w among f =
    let its = among p (Contains-append_left (p ∷ []) ps p (Contains-push [] p)) in
    let o = object_there s (place_view p) in
    let padded = marked_so s all q (pad_mark p (pad_there s (place_view p)) q) w f (pad_so s all q p its) in
    fold_so s all ps q (marked_by s q w p) (λ x h. among x (Contains-append_right (p ∷ []) ps x h)) (marked_so s all q (object_mark p o q) (marked (pad_mark p (pad_there s (place_view p)) q) w) padded (object_so s all q p its))

-- The pointer says nothing of the word.
abbrev SaysNothing : Segments → Place → Pointer → Type 0
SaysNothing s q p = (object_mark p (object_there s (place_view p)) q ≡ None) × (pad_mark p (pad_there s (place_view p)) q ≡ None)

again_not : (first m : Mark) (again : Bool) → (marked_again first m again).mark ≡ mark.NotReached → (m ≡ mark.NotReached) × (first ≡ mark.NotReached)
again_not mark.NotReached m again h = (h, refl)
again_not mark.Root m again h = absurd cc
again_not (mark.Pad p second) m again h = absurd cc
again_not (mark.Object p x) m again h = absurd cc

marked_not : (o : Option Mark) (w : Word) → ((m : Mark) → o ≡ Some m → m ≡ mark.NotReached → ⊥) → (marked o w).mark ≡ mark.NotReached → (o ≡ None) × (w.mark ≡ mark.NotReached)
marked_not None w f h = (refl, h)
marked_not (Some m) w f h = let x = again_not w.mark m w.again h in absurd (f m refl x.0)

object_not : (p : Pointer) (o : Object) (q : Place) (m : Mark) → object_mark p o q ≡ Some m → m ≡ mark.NotReached → ⊥
object_not p o q m h e =
    let a = bind_some (part_from (start_of o) o q) _ m h in
    let same = some_is (mark.Object p a.0) m a.2 in
    absurd (cc (same, e))

pad_not : (p : Pointer) (pad : Option Pad) (q : Place) (m : Mark) → pad_mark p pad q ≡ Some m → m ≡ mark.NotReached → ⊥
pad_not p None q m h e = absurd cc
pad_not p (Some pad) q m h e = by (is_at (place_view pad.place) q) refl (pad.is_double && is_at (after (place_view pad.place) 1) q) refl
  where
    by : (a : Bool) → is_at (place_view pad.place) q ≡ a → (b : Bool) → (pad.is_double && is_at (after (place_view pad.place) 1) q) ≡ b → ⊥
    by true a b f =
        let same = some_is (mark.Pad p false) m (sym (ap (λ (t : Bool). if t then Some (mark.Pad p false) else (if pad.is_double && is_at (after (place_view pad.place) 1) q then Some (mark.Pad p true) else None)) a) ∙ h) in
        absurd (cc (same, e))
    by false a true f =
        let same = some_is (mark.Pad p true) m (sym (ap (λ (t : Bool). if t then Some (mark.Pad p false) else (if pad.is_double && is_at (after (place_view pad.place) 1) q then Some (mark.Pad p true) else None)) a ∙ ap (λ (t : Bool). if t then Some (mark.Pad p true) else None) f) ∙ h) in
        absurd (cc (same, e))
    by false a false f = let none : None ≡ Some m = sym (ap (λ (t : Bool). if t then Some (mark.Pad p false) else (if pad.is_double && is_at (after (place_view pad.place) 1) q then Some (mark.Pad p true) else None)) a ∙ ap (λ (t : Bool). if t then Some (mark.Pad p true) else None) f) ∙ h in absurd cc

fold_not : (s : Segments) (ps : List Pointer) (q : Place) (w : Word) → (fold (marked_by s q) w ps).mark ≡ mark.NotReached → (w.mark ≡ mark.NotReached) × ((p : Pointer) → Contains ps p → SaysNothing s q p)
fold_not s [] q w h = (h, λ p among. absurd (let none = among.1 in omega arith))
fold_not s (p ∷ ps) q w h =
    let o = object_there s (place_view p) in
    let pad = pad_there s (place_view p) in
    let rest = fold_not s ps q (marked_by s q w p) h in
    let a = marked_not (object_mark p o q) (marked (pad_mark p pad q) w) (object_not p o q) rest.0 in
    let b = marked_not (pad_mark p pad q) w (pad_not p pad q) a.1 in (
      b.1,
      λ x among. elim (Contains-append_cases (p ∷ []) ps x among) [
        | inl here ↦ elim (Contains-push_cases [] p x here) [
          | inl none ↦ absurd (let some = none.1 in omega arith)
          | inr same ↦ subst (SaysNothing s q) same (a.0, b.0)
        ]
        | inr there ↦ rest.1 x there
      ],
    )

first_so : (s : Segments) (ps : List Pointer) (q : Place) → SaysSo s ps q (first_word q).mark
first_so s ps q = by (is_at root q) refl
  where
    by : (b : Bool) → is_at root q ≡ b → SaysSo s ps q (first_word q).mark
    by true e = subst (λ (b : Bool). SaysSo s ps q (marked (mark.Root provided b) unmarked).mark) (sym e) e
    by false e = subst (λ (b : Bool). SaysSo s ps q (marked (mark.Root provided b) unmarked).mark) (sym e) tt

first_not : (q : Place) → (first_word q).mark ≡ mark.NotReached → is_at root q ≡ false
first_not q h = by (is_at root q) refl
  where
    by : (b : Bool) → is_at root q ≡ b → is_at root q ≡ false
    by false e = e
    by true e = let is : mark.Root ≡ mark.NotReached = sym (ap (λ (b : Bool). (marked (mark.Root provided b) unmarked).mark) e) ∙ h in absurd cc

pub marks_are_true : (s : Segments) (ps : List Pointer) (q : Place) → IsMarkOf s ps q (word_by s ps q).mark
marks_are_true s ps q = by (word_by s ps q).mark refl (fold_so s ps ps q (first_word q) (λ p h. h) (first_so s ps q))
  where
    by : (m : Mark) → (word_by s ps q).mark ≡ m → SaysSo s ps q (word_by s ps q).mark → IsMarkOf s ps q (word_by s ps q).mark
    by mark.NotReached e h =
        let all = fold_not s ps q (first_word q) e in
        subst (IsMarkOf s ps q) (sym e) (first_not q all.0, all.1)
    by mark.Root e h = subst (IsMarkOf s ps q) (sym e) (subst (SaysSo s ps q) e h)
    by (mark.Pad p second) e h = subst (IsMarkOf s ps q) (sym e) (subst (SaysSo s ps q) e h)
    by (mark.Object p x) e h = subst (IsMarkOf s ps q) (sym e) (subst (SaysSo s ps q) e h)
